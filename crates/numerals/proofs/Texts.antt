-- The text of digits and a point place, case by case.
use Rattle.std.proofs.Common.{◌≡◌, ℕ, zero, suc, ◌+◌, ◌-◌, ◌<◌, ◌≤◌, eqb, ltb, leb, List, ◌∷◌, ◌++◌, length, pos, negsuc, refl, ap, ◌∙◌, arith}
use Rattle.std.proofs.lemmas.List.{length-append, take_at, drop_at}
use Rattle.std.proofs.lemmas.Bool.{cond-true, cond-false, eq-eqb, ne_eqb, le-leb, lt-leb, lt-ltb, le-ltb}
use Rattle.std.specs.Int.Digits.{digits_of}
use Rattle.numerals.specs.Numeral.{spelled, zeros, parted, exponential, unsigned}
use Rattle.numerals.proofs.Shapes.{below}

pub unsigned_whole : (ds : List ℕ) (m n : ℕ) → m ≡ length ds + n → 0 < m → m ≤ 21 → unsigned ds (pos m) ≡ ds ++ zeros n
unsigned_whole ds zero n e p h = absurd (omega arith)
unsigned_whole ds (suc m) n e p h =
    let q : suc m - length ds ≡ n = omega arith in
    cond-true (leb (suc m) 21) _ _ (le-leb (suc m) 21 h)
    ∙ (cond-true (leb (length ds) (suc m)) _ _ (le-leb (length ds) (suc m) (omega arith)) ∙ ap (λ k. ds ++ zeros k) q)

pub parted_at : (a b : List ℕ) (m : ℕ) → length a ≡ m → parted (a ++ b) m ≡ a ++ (46 ∷ b)
parted_at a b m e = rw (take_at a b m e, drop_at a b m e) refl

pub unsigned_parted : (a b : List ℕ) (m : ℕ) → length a ≡ m → 0 < m → m ≤ 21 → 0 < length b → unsigned (a ++ b) (pos m) ≡ a ++ (46 ∷ b)
unsigned_parted a b zero e p h q = absurd (omega arith)
unsigned_parted a b (suc m) e p h q =
    cond-true (leb (suc m) 21) _ _ (le-leb (suc m) 21 h)
    ∙ (cond-false (leb (length (a ++ b)) (suc m)) _ _ (lt-leb (length (a ++ b)) (suc m) (simp length-append (omega arith))) ∙ parted_at a b (suc m) e)

pub unsigned_below : (ds : List ℕ) (z : ℕ) → z ≤ 5 → unsigned ds (below z) ≡ 48 ∷ 46 ∷ (zeros z ++ ds)
unsigned_below ds zero h = refl
unsigned_below ds (suc z) h = cond-true (ltb (suc z) 6) _ _ (lt-ltb (suc z) 6 (omega arith))

pub unsigned_plus : (ds : List ℕ) (e : ℕ) → 21 ≤ e → unsigned ds (pos (suc e)) ≡ exponential ds 43 e
unsigned_plus ds e h = cond-false (leb (suc e) 21) _ _ (lt-leb (suc e) 21 (omega arith))

pub unsigned_minus : (ds : List ℕ) (e : ℕ) → 7 ≤ e → unsigned ds (negsuc (e - 2)) ≡ exponential ds 45 e
unsigned_minus ds e h =
    let q : suc (suc (e - 2)) ≡ e = omega arith in
    cond-false (ltb (suc (e - 2)) 6) _ _ (le-ltb (suc (e - 2)) 6 (omega arith)) ∙ ap (exponential ds 45) q

pub exponential_lone : (ds : List ℕ) (c e : ℕ) → length ds ≡ 1 → exponential ds c e ≡ ds ++ (101 ∷ c ∷ spelled (digits_of 10 e))
exponential_lone ds c e h =
    ap (λ t. t ++ (101 ∷ c ∷ spelled (digits_of 10 e))) (cond-true (eqb (length ds) 1) _ _ (eq-eqb (length ds) 1 h))

pub exponential_more : (a b : List ℕ) (c e : ℕ) → length a ≡ 1 → 0 < length b → exponential (a ++ b) c e ≡ (a ++ (46 ∷ b)) ++ (101 ∷ c ∷ spelled (digits_of 10 e))
exponential_more a b c e h q =
    ap (λ t. t ++ (101 ∷ c ∷ spelled (digits_of 10 e)))
    (cond-false (eqb (length (a ++ b)) 1) _ _ (ne_eqb (length (a ++ b)) 1 (λ k. omega (arith, length-append a b))) ∙ parted_at a b 1 h)
