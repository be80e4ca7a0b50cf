-- Cutting a text into its parts: what is cut is the text, and a text made of parts is cut into them.
use Rattle.std.proofs.Common.{◌≡◌, ℕ, true, false, cond, eqb, List, [], ◌∷◌, ◌++◌, refl, ap, ◌∙◌, append-nil}
use Rattle.std.proofs.lemmas.Bool.{cond_both, eqb-true}
use Rattle.numerals.specs.Deciding.{is_digit, front, rest}
use Rattle.numerals.proofs.Shapes.{Shape, whole, fraction, power, fraction_power, misshapen, power_ended, power_shape, fraction_power_ended, fraction_power_shape, fraction_shape, shape_after, shape}

abbrev pub AllDigits : List ℕ → Type 0
AllDigits [] = Unit {0}
AllDigits (b ∷ s) = (is_digit b ≡ true) × AllDigits s

-- the text does not begin with a digit
abbrev pub Past : List ℕ → Type 0
Past [] = Unit {0}
Past (b ∷ s) = is_digit b ≡ false

pub front_rest : (s : List ℕ) → s ≡ front s ++ rest s
front_rest [] = refl
front_rest (b ∷ s) =
    elim (is_digit b) as (λ v. b ∷ s ≡ cond v (b ∷ front s) [] ++ cond v (rest s) (b ∷ s)) [
      | true ↦ ap (λ r. b ∷ r) (front_rest s)
      | false ↦ refl
    ]

pub front_digits : (s : List ℕ) → AllDigits (front s)
front_digits [] = tt
front_digits (b ∷ s) = cond_both (is_digit b) _ _ AllDigits (λ e. (e, front_digits s)) (λ _. tt)

pub front_at : (a r : List ℕ) → AllDigits a → Past r → front (a ++ r) ≡ a
front_at [] [] d p = refl
front_at [] (b ∷ r) d p = rw p refl
front_at (x ∷ a) r d p = rw d.0 (ap (λ t. x ∷ t) (front_at a r d.1 p))

pub rest_at : (a r : List ℕ) → AllDigits a → Past r → rest (a ++ r) ≡ r
rest_at [] [] d p = refl
rest_at [] (b ∷ r) d p = rw p refl
rest_at (x ∷ a) r d p = rw d.0 (rest_at a r d.1 p)

pub front_all : (a : List ℕ) → AllDigits a → front a ≡ a
front_all [] d = refl
front_all (x ∷ a) d = rw d.0 (ap (λ t. x ∷ t) (front_all a d.1))

pub front_front : (s : List ℕ) → front (front s) ≡ front s
front_front s = front_all (front s) (front_digits s)

pub rest_all : (a : List ℕ) → AllDigits a → rest a ≡ []
rest_all [] d = refl
rest_all (x ∷ a) d = rw d.0 (rest_all a d.1)

-- the text is made of these parts
abbrev pub Cut : List ℕ → Shape → Type 0
Cut s (whole a) = AllDigits a × (s ≡ a)
Cut s (fraction a b) = AllDigits a × AllDigits b × (s ≡ a ++ (46 ∷ b))
Cut s (power a c e) = AllDigits a × AllDigits e × (s ≡ a ++ (101 ∷ c ∷ e))
Cut s (fraction_power a b c e) = AllDigits a × AllDigits b × AllDigits e × (s ≡ a ++ (46 ∷ (b ++ (101 ∷ c ∷ e))))
Cut s misshapen = Unit {0}

power_ended_cut : (s a : List ℕ) (c : ℕ) (e r : List ℕ) → AllDigits a → AllDigits e → s ≡ a ++ (101 ∷ c ∷ (e ++ r)) → Cut s (power_ended a c e r)
power_ended_cut s a c e [] d f p = (d, f, p ∙ ap (λ t. a ++ (101 ∷ c ∷ t)) (append-nil e))
power_ended_cut s a c e (x ∷ r) d f p = tt

power_cut : (s a r : List ℕ) → AllDigits a → s ≡ a ++ (101 ∷ r) → Cut s (power_shape a r)
power_cut s a [] d p = tt
power_cut s a (c ∷ r) d p =
    power_ended_cut s a c (front r) (rest r) d (front_digits r) (p ∙ ap (λ t. a ++ (101 ∷ c ∷ t)) (front_rest r))

fraction_power_ended_cut : (s a b : List ℕ) (c : ℕ) (e r : List ℕ) → AllDigits a → AllDigits b → AllDigits e → s ≡ a ++ (46 ∷ (b ++ (101 ∷ c ∷ (e ++ r)))) → Cut s (fraction_power_ended a b c e r)
fraction_power_ended_cut s a b c e [] d f g p =
    (d, f, g, p ∙ ap (λ t. a ++ (46 ∷ (b ++ (101 ∷ c ∷ t)))) (append-nil e))
fraction_power_ended_cut s a b c e (x ∷ r) d f g p = tt

fraction_power_cut : (s a b r : List ℕ) → AllDigits a → AllDigits b → s ≡ a ++ (46 ∷ (b ++ (101 ∷ r))) → Cut s (fraction_power_shape a b r)
fraction_power_cut s a b [] d f p = tt
fraction_power_cut s a b (c ∷ r) d f p =
    fraction_power_ended_cut s a b c (front r) (rest r) d f (front_digits r)
    (p ∙ ap (λ t. a ++ (46 ∷ (b ++ (101 ∷ c ∷ t)))) (front_rest r))

fraction_cut : (s a b r : List ℕ) → AllDigits a → AllDigits b → s ≡ a ++ (46 ∷ (b ++ r)) → Cut s (fraction_shape a b r)
fraction_cut s a b [] d f p = (d, f, p ∙ ap (λ t. a ++ (46 ∷ t)) (append-nil b))
fraction_cut s a b (x ∷ r) d f p =
    cond_both (eqb x 101) _ _ (Cut s)
    (λ e. fraction_power_cut s a b r d f (p ∙ ap (λ y. a ++ (46 ∷ (b ++ (y ∷ r)))) (eqb-true x 101 e)))
    (λ _. tt)

after_cut : (s a r : List ℕ) → AllDigits a → s ≡ a ++ r → Cut s (shape_after a r)
after_cut s a [] d p = (d, p ∙ append-nil a)
after_cut s a (x ∷ r) d p =
    cond_both (eqb x 46) _ _ (Cut s)
    (λ e. fraction_cut s a (front r) (rest r) d (front_digits r)
    (p ∙ (ap (λ y. a ++ (y ∷ r)) (eqb-true x 46 e) ∙ ap (λ t. a ++ (46 ∷ t)) (front_rest r))))
    (λ _. cond_both (eqb x 101) _ _ (Cut s) (λ e. power_cut s a r d (p ∙ ap (λ y. a ++ (y ∷ r)) (eqb-true x 101 e))) (λ _. tt))

pub shape_cut : (s : List ℕ) → Cut s (shape s)
unfolding shape
shape_cut s = after_cut s (front s) (rest s) (front_digits s) (front_rest s)

pub shape_whole : (a : List ℕ) → AllDigits a → shape a ≡ whole a
unfolding shape
shape_whole a d = rw (front_all a d, rest_all a d) refl

pub shape_fraction : (a b : List ℕ) → AllDigits a → AllDigits b → shape (a ++ (46 ∷ b)) ≡ fraction a b
unfolding shape
shape_fraction a b d f =
    rw (front_at a (46 ∷ b) d refl, rest_at a (46 ∷ b) d refl) (rw (front_all b f, rest_all b f) refl)

pub shape_power : (a : List ℕ) (c : ℕ) (e : List ℕ) → AllDigits a → AllDigits e → shape (a ++ (101 ∷ c ∷ e)) ≡ power a c e
unfolding shape
shape_power a c e d f =
    rw (front_at a (101 ∷ c ∷ e) d refl, rest_at a (101 ∷ c ∷ e) d refl) (rw (front_all e f, rest_all e f) refl)

pub shape_fraction_power : (a b : List ℕ) (c : ℕ) (e : List ℕ) → AllDigits a → AllDigits b → AllDigits e → shape (a ++ (46 ∷ (b ++ (101 ∷ c ∷ e)))) ≡ fraction_power a b c e
unfolding shape
shape_fraction_power a b c e d f g =
    rw (front_at a (46 ∷ (b ++ (101 ∷ c ∷ e))) d refl, rest_at a (46 ∷ (b ++ (101 ∷ c ∷ e))) d refl)
    (rw (front_at b (101 ∷ c ∷ e) f refl, rest_at b (101 ∷ c ∷ e) f refl) (rw (front_all e g, rest_all e g) refl))
