-- The form that the private functions give to a text is the form of its figure.
use Rattle.std.proofs.Common.{◌≡◌, ℕ, zero, suc, ◌-◌, ◌≤◌, Bool, true, false, cond, ◌&&◌, eqb, ltb, leb, List, [], ◌∷◌, ◌++◌, length, pos, negsuc, Some, None, Option, sym, refl, ap, ◌∙◌, arith}
use Rattle.std.proofs.lemmas.List.{length-append, length-drop}
use Rattle.std.proofs.lemmas.Bool.{and_parts, eqb-true, leb-true, le-ltb}
use Rattle.numerals.specs.declared.form.Form.{Form}
use Rattle.numerals.specs.Deciding.{front, rest, trim, leading, begins, ends, value, is_lone, form_of, exponent_form, power_end, power_form, whole_form, fraction_form, point_form, after_whole, unsigned_form}
use Rattle.numerals.proofs.Shapes.{whole, fraction, power_ended, power_shape, fraction_power_ended, fraction_power_shape, fraction_shape, shape_after, shape, Figure, below, when, power_figure, fraction_figure, figure, far, figure_form}

-- a function of a choice is the choice between its values
cond_same : {A : Type 0} (f : A → Option Form) (v : Bool) (x y : A) (p q : Option Form) → (v ≡ true → f x ≡ p) → f y ≡ q → f (cond v x y) ≡ cond v p q
cond_same f true x y p q h k = h refl
cond_same f false x y p q h k = k

when_same : (v : Bool) (f : Figure) (p : Option Form) → (v ≡ true → figure_form (Some f) ≡ p) → figure_form (when v f) ≡ cond v p None
when_same true f p h = h refl
when_same false f p h = refl

either_none : (v : Bool) → ◌≡◌ {A = Option Form} None (cond v None None)
either_none true = refl
either_none false = refl

-- a point place from -5 to 21 is not far
near : (n : ℕ) → n ≤ 21 → ltb 300 n ≡ false
near n h = le-ltb 300 n (omega arith)

near_below : (z : ℕ) → z ≤ 5 → far (below z) ≡ false
near_below zero h = refl
near_below (suc z) h = near (suc z) (omega arith)

whole_is : (a : List ℕ) → figure_form (figure (whole a)) ≡ whole_form a
whole_is a =
    when_same (begins a && leb (length a) 21) _ _ (λ h.
    ap (λ v. Some (form_of (length (trim a)) v)) (near (length a) (leb-true (length a) 21 (and_parts (begins a) (leb (length a) 21) h).1)))

fraction_is : (a b : List ℕ) → figure_form (figure (fraction a b)) ≡ fraction_form a b
fraction_is a b =
    cond_same figure_form (ends b) (fraction_figure a b) None _ _ (λ _.
    cond_same figure_form (begins a) _ _ _ _ (λ _.
    when_same (leb (length a) 21) _ _ (λ h. λ i. Some (form_of (length-append a b i) (near (length a) (leb-true (length a) 21 h) i))))
    (when_same (eqb (length a) 1 && leb (leading b) 5) _ _ (λ h.
    let l = leb-true (leading b) 5 (and_parts (eqb (length a) 1) (leb (leading b) 5) h).1 in
    λ i. Some (form_of (length-drop (leading b) b i) (near_below (leading b) l i)))))
    refl

power_is : (ds : List ℕ) (c : ℕ) (e : List ℕ) → figure_form (power_figure ds c e) ≡ exponent_form (length ds) c e
power_is ds c e =
    cond_same figure_form (eqb c 43) _ _ _ _ (λ _. when_same (begins e && leb 21 (value e)) (record { digits = ds; place = pos (suc (value e)) }) _ (λ _. refl))
    (when_same (eqb c 45 && (begins e && leb 7 (value e))) (record { digits = ds; place = negsuc (value e - 2) }) _ (λ _. refl))

lone_length : (a : List ℕ) → is_lone a ≡ true → length a ≡ 1
lone_length a h = eqb-true (length a) 1 (and_parts (begins a) (eqb (length a) 1) h).1

power_ended_is : (a : List ℕ) (c : ℕ) (e r : List ℕ) → figure_form (figure (power_ended a c e r)) ≡ cond (is_lone a) (power_end 1 c e r) None
power_ended_is a c e [] =
    cond_same figure_form (is_lone a) (power_figure a c e) None _ _ (λ h. power_is a c e ∙ ap (λ k. exponent_form k c e) (lone_length a h)) refl
power_ended_is a c e (x ∷ r) = either_none (is_lone a)

power_shape_is : (a s : List ℕ) → figure_form (figure (power_shape a s)) ≡ cond (is_lone a) (power_form 1 s) None
power_shape_is a [] = either_none (is_lone a)
power_shape_is a (c ∷ s) = power_ended_is a c (front s) (rest s)

fraction_power_ended_is : (a b : List ℕ) (c : ℕ) (e r : List ℕ) → figure_form (figure (fraction_power_ended a b c e r)) ≡ cond (is_lone a && ends b) (power_end (suc (length b)) c e r) None
fraction_power_ended_is a b c e [] =
    cond_same figure_form (is_lone a && ends b) (power_figure (a ++ b) c e) None _ _ (λ h.
    let l = lone_length a (and_parts (is_lone a) (ends b) h).0 in
    let k : length (a ++ b) ≡ suc (length b) = omega (arith, length-append a b) in
    power_is (a ++ b) c e ∙ ap (λ n. exponent_form n c e) k) refl
fraction_power_ended_is a b c e (x ∷ r) = either_none (is_lone a && ends b)

fraction_power_shape_is : (a b s : List ℕ) → figure_form (figure (fraction_power_shape a b s)) ≡ cond (is_lone a && ends b) (power_form (suc (length b)) s) None
fraction_power_shape_is a b [] = either_none (is_lone a && ends b)
fraction_power_shape_is a b (c ∷ s) = fraction_power_ended_is a b c (front s) (rest s)

point_is : (a b r : List ℕ) → figure_form (figure (fraction_shape a b r)) ≡ point_form a b r
point_is a b [] = fraction_is a b
point_is a b (x ∷ r) =
    cond_same (λ s. figure_form (figure s)) (eqb x 101) _ _ _ _ (λ _. fraction_power_shape_is a b r) refl

after_whole_is : (a r : List ℕ) → figure_form (figure (shape_after a r)) ≡ after_whole a r
after_whole_is a [] = whole_is a
after_whole_is a (x ∷ r) =
    cond_same (λ s. figure_form (figure s)) (eqb x 46) _ _ _ _ (λ _. point_is a (front r) (rest r))
    (cond_same (λ s. figure_form (figure s)) (eqb x 101) _ _ _ _ (λ _. power_shape_is a r) refl)

pub unsigned_is : (s : List ℕ) → unsigned_form s ≡ figure_form (figure (shape s))
unfolding shape
unsigned_is s = sym (after_whole_is (front s) (rest s))
