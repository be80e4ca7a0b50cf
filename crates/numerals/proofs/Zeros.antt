-- Zeros at the end and at the beginning of digits.
use Rattle.std.proofs.Common.{◌≡◌, ℕ, zero, suc, ◌<◌, true, not, eqb, ◌⊎◌, List, [], ◌∷◌, ◌++◌, length, drop, sym, refl, ap, ◌∙◌, inl, inr, arith}
use Rattle.std.proofs.lemmas.Bool.{cond_both, eqb-true, not-true, false≢true}
use Rattle.numerals.specs.Numeral.{last, zeros}
use Rattle.numerals.specs.Deciding.{keep, trim, leading, begins, ends}
use Rattle.numerals.proofs.Cutting.{AllDigits}

pub digits_left : (a b : List ℕ) → AllDigits (a ++ b) → AllDigits a
digits_left [] b d = tt
digits_left (x ∷ a) b d = (d.0, digits_left a b d.1)

pub digits_right : (a b : List ℕ) → AllDigits (a ++ b) → AllDigits b
digits_right [] b d = d
digits_right (x ∷ a) b d = digits_right a b d.1

pub digits_append : (a b : List ℕ) → AllDigits a → AllDigits b → AllDigits (a ++ b)
digits_append [] b d f = f
digits_append (x ∷ a) b d f = (d.0, digits_append a b d.1 f)

pub digits_zeros : (n : ℕ) → AllDigits (zeros n)
digits_zeros zero = tt
digits_zeros (suc n) = (refl, digits_zeros n)

pub begins_some : (s : List ℕ) → begins s ≡ true → 0 < length s
begins_some [] e = absurd (false≢true e)
begins_some (x ∷ s) e = omega arith

pub ends_some : (s : List ℕ) → ends s ≡ true → 0 < length s
ends_some [] e = absurd (false≢true e)
ends_some (x ∷ s) e = omega arith

pub begins_append : (a b : List ℕ) → begins a ≡ true → begins (a ++ b) ≡ true
begins_append [] b e = absurd (false≢true e)
begins_append (x ∷ a) b e = e

last_append : (a : List ℕ) (y : ℕ) (ys : List ℕ) (none : ℕ) → last (a ++ (y ∷ ys)) none ≡ last ys y
last_append [] y ys none = refl
last_append (x ∷ a) y ys none = last_append a y ys x

pub ends_append : (a b : List ℕ) → 0 < length b → ends (a ++ b) ≡ ends b
ends_append a [] h = absurd (omega arith)
ends_append a (y ∷ ys) h = ap (λ l. not (eqb l 48)) (last_append a y ys 48)

trim_zeros : (n : ℕ) → trim (zeros n) ≡ []
trim_zeros zero = refl
trim_zeros (suc n) = rw (trim_zeros n) refl

pub trim_at : (ds : List ℕ) (n : ℕ) → ends ds ≡ true → trim (ds ++ zeros n) ≡ ds
trim_at [] n e = absurd (false≢true e)
trim_at (x ∷ []) n e = rw (trim_zeros n, not-true (eqb x 48) e) refl
trim_at (x ∷ y ∷ ds) n e = ap (keep x) (trim_at (y ∷ ds) n e)

-- some zeros were cut off
abbrev Trimmed : List ℕ → List ℕ → Type 0
Trimmed s t = (n : ℕ) × (s ≡ t ++ zeros n)

keep_split : (x : ℕ) (s t : List ℕ) → Trimmed s t → Trimmed (x ∷ s) (keep x t)
keep_split x s [] h =
    cond_both (eqb x 48) _ _ (Trimmed (x ∷ s))
    (λ e. (suc h.0, (λ i. eqb-true x 48 e i ∷ h.1 i)))
    (λ _. (h.0, ap (λ r. x ∷ r) h.1))
keep_split x s (y ∷ t) h = (h.0, ap (λ r. x ∷ r) h.1)

pub trim_split : (s : List ℕ) → (n : ℕ) × (s ≡ trim s ++ zeros n)
trim_split [] = (0, refl)
trim_split (x ∷ s) = keep_split x s (trim s) (trim_split s)

-- nothing is left, or what is left does not end with a zero
abbrev Rid : List ℕ → Type 0
Rid t = (length t ≡ 0) ⊎ (ends t ≡ true)

keep_rid : (x : ℕ) (t : List ℕ) → Rid t → Rid (keep x t)
keep_rid x [] h = cond_both (eqb x 48) _ _ Rid (λ _. inl refl) (λ e. inr (rw e refl))
keep_rid x (y ∷ t) (inl e) = inl (absurd (omega arith))
keep_rid x (y ∷ t) (inr e) = inr e

trim_rid : (s : List ℕ) → Rid (trim s)
trim_rid [] = inl refl
trim_rid (x ∷ s) = keep_rid x (trim s) (trim_rid s)

begins_before : (t : List ℕ) (n : ℕ) → begins (t ++ zeros n) ≡ true → begins t ≡ true
begins_before [] zero e = e
begins_before [] (suc n) e = e
begins_before (x ∷ t) n e = e

pub begins_trim : (s : List ℕ) → begins s ≡ true → begins (trim s) ≡ true
begins_trim s e =
    begins_before (trim s) (trim_split s).0 (ap begins (sym (trim_split s).1) ∙ e)

rid_ends : (t : List ℕ) → Rid t → begins t ≡ true → ends t ≡ true
rid_ends t (inl h) e = absurd (omega (arith, begins_some t e))
rid_ends t (inr h) e = h

pub ends_trim : (s : List ℕ) → begins s ≡ true → ends (trim s) ≡ true
ends_trim s e = rid_ends (trim s) (trim_rid s) (begins_trim s e)

pub leading_split : (s : List ℕ) → s ≡ zeros (leading s) ++ drop (leading s) s
leading_split [] = refl
leading_split (x ∷ s) =
    cond_both (eqb x 48) _ _ (λ k. x ∷ s ≡ zeros k ++ drop k (x ∷ s))
    (λ e i. eqb-true x 48 e i ∷ leading_split s i)
    (λ _. refl)

pub leading_at : (n : ℕ) (s : List ℕ) → begins s ≡ true → leading (zeros n ++ s) ≡ n
leading_at zero [] e = refl
leading_at zero (x ∷ s) e = rw (not-true (eqb x 48) e) refl
leading_at (suc n) s e = ap suc (leading_at n s e)

pub drop_leading : (n : ℕ) (s : List ℕ) → drop n (zeros n ++ s) ≡ s
drop_leading zero s = refl
drop_leading (suc n) s = drop_leading n s

pub begins_leading : (s : List ℕ) → ends s ≡ true → begins (drop (leading s) s) ≡ true
begins_leading [] e = e
begins_leading (x ∷ []) e = rw (not-true (eqb x 48) e) e
begins_leading (x ∷ y ∷ s) e =
    cond_both (eqb x 48) _ _ (λ k. begins (drop k (x ∷ y ∷ s)) ≡ true)
    (λ _. begins_leading (y ∷ s) e)
    (λ f. rw f refl)

pub ends_leading : (s : List ℕ) → ends s ≡ true → ends (drop (leading s) s) ≡ true
ends_leading s e =
    sym (ends_append (zeros (leading s)) (drop (leading s) s) (begins_some (drop (leading s) s) (begins_leading s e)))
    ∙ (ap ends (sym (leading_split s)) ∙ e)
