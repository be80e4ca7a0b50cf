-- What the loops over digits keep true, and what it gives at their end.
use Rattle.std.proofs.Common.{◌≡◌, ℕ, zero, suc, ◌+◌, ◌-◌, ◌*◌, ◌<◌, ◌≤◌, min, Bool, true, false, cond, not, eqb, List, [], ◌∷◌, ◌++◌, length, get_or, take, drop, sym, refl, ap, ◌∙◌, one-add, Some, None, Option, MatchOption, Bor, append-nil, arith}
use Rattle.std.proofs.lemmas.Int.Digits.{number_push}
use Rattle.std.proofs.lemmas.List.{take_more, take_all, map_push}
use Rattle.std.proofs.lemmas.Option.{slice_get-get_or}
use Rattle.std.specs.Int.Digits.{number_from_digits}
use Rattle.std.specs.List.{prefix_len, slice_get}
use Rattle.std.specs.Option.{option_copied}
use Rattle.std.proofs.lemmas.Bool.{ne_eqb, not_from_false}
use Rattle.numerals.specs.Numeral.{last}
use Rattle.numerals.specs.Deciding.{is_digit, front, rest, leading, trim, keep, ends, value}
use Rattle.numerals.proofs.Cutting.{AllDigits, front_digits}
use Rattle.numerals.proofs.Zeros.{trim_at, ends_append}
use Rattle.numerals.proofs.Exponents.{values, digit_bounds}

-- the digits that a text begins with, cut at their count
pub front_cut : (s : List ℕ) → take (prefix_len is_digit s) s ≡ front s
front_cut [] = refl
front_cut (b ∷ s) =
    elim (is_digit b) as (λ v. take (cond v (1 + prefix_len is_digit s) 0) (b ∷ s) ≡ cond v (b ∷ front s) []) [
      | true ↦ ap (λ n. take n (b ∷ s)) (one-add (prefix_len is_digit s)) ∙ ap (λ t. b ∷ t) (front_cut s)
      | false ↦ refl
    ]

pub rest_cut : (s : List ℕ) → drop (prefix_len is_digit s) s ≡ rest s
rest_cut [] = refl
rest_cut (b ∷ s) =
    elim (is_digit b) as (λ v. drop (cond v (1 + prefix_len is_digit s) 0) (b ∷ s) ≡ cond v (rest s) (b ∷ s)) [
      | true ↦ ap (λ n. drop n (b ∷ s)) (one-add (prefix_len is_digit s)) ∙ rest_cut s
      | false ↦ refl
    ]

last_at : (x : ℕ) (s : List ℕ) → get_or (x ∷ s) (length s) 0 ≡ last s x
last_at x [] = refl
last_at x (y ∷ s) = last_at y s

last_get : (x : ℕ) (s : List ℕ) → slice_get (x ∷ s) (length (x ∷ s) - 1) ≡ Some (last s x)
last_get x s =
    let e : length (x ∷ s) - 1 ≡ length s = omega arith in
    ap (slice_get (x ∷ s)) e ∙ (slice_get-get_or (x ∷ s) (length s) 0 (omega arith) ∙ ap (λ y. Some y) (last_at x s))

pub ends_told : (s : List ℕ) (o : Option (Bor ℕ)) (r : Bool) → option_copied o ≡ slice_get s (length s - 1) → MatchOption o (r ≡ false) (λ x. r ≡ not (eqb x.now 48)) → r ≡ ends s
ends_told [] None r g h = h
ends_told [] (Some x) r g h = cc
ends_told (y ∷ s) None r g h = let e = last_get y s in cc
ends_told (y ∷ s) (Some x) r g h =
    let e = last_get y s in
    let k : x.now ≡ last s y = cc in
    h ∙ ap (λ v. not (eqb v 48)) k

pub leading_count : (s : List ℕ) → prefix_len (λ x. eqb x 48) s ≡ leading s
leading_count [] = refl
leading_count (x ∷ s) =
    elim (eqb x 48) as (λ v. cond v (1 + prefix_len (λ x. eqb x 48) s) 0 ≡ cond v (suc (leading s)) 0) [
      | true ↦ one-add (prefix_len (λ x. eqb x 48) s) ∙ ap suc (leading_count s)
      | false ↦ refl
    ]

trim_push_zero : (s : List ℕ) → trim (s ++ (48 ∷ [])) ≡ trim s
trim_push_zero [] = refl
trim_push_zero (x ∷ s) = ap (keep x) (trim_push_zero s)

trim_push : (s : List ℕ) (x : ℕ) → (x ≡ 48 → ⊥) → trim (s ++ (x ∷ [])) ≡ s ++ (x ∷ [])
trim_push s x ne =
    ap trim (sym (append-nil (s ++ (x ∷ []))))
    ∙ trim_at (s ++ (x ∷ [])) 0 (ends_append s (x ∷ []) (omega arith) ∙ not_from_false _ (ne_eqb x 48 ne))

-- the last byte, and what stands before it
split_last : (s : List ℕ) → 1 ≤ length s → s ≡ take (length s - 1) s ++ (get_or s (length s - 1) 0 ∷ [])
split_last s h =
    sym (take_all (length s - 1 + 1) s (omega arith)) ∙ take_more s (length s - 1) 0 (omega arith)

-- one byte less, where it is a zero
pub trim_less : (s : List ℕ) → 1 ≤ length s → get_or s (length s - 1) 0 ≡ 48 → trim (take (length s - 1) s) ≡ trim s
trim_less s h z =
    sym (ap trim (split_last s h) ∙ (ap (λ b. trim (take (length s - 1) s ++ (b ∷ []))) z ∙ trim_push_zero (take (length s - 1) s)))

pub trim_stop : (s : List ℕ) → 1 ≤ length s → (get_or s (length s - 1) 0 ≡ 48 → ⊥) → trim s ≡ s
trim_stop s h ne =
    let e = split_last s h in
    ap trim e ∙ (trim_push (take (length s - 1) s) (get_or s (length s - 1) 0) ne ∙ sym e)

-- the value of one digit more
value_more : (s : List ℕ) (i : ℕ) → i < length s → value (take (i + 1) s) ≡ value (take i s) * 10 + (get_or s i 0 - 48)
value_more s i h =
    ap value (take_more s i 0 h)
    ∙ (ap (number_from_digits 10) (map_push (λ b. b - 48) (take i s) (get_or s i 0)) ∙ number_push 10 (values (take i s)) (get_or s i 0 - 48))

pub saturated_more : (s : List ℕ) (i n m : ℕ) → i < length s → n ≡ min 1000 (value (take i s)) → m ≡ min (n * 10 + (get_or s i 0 - 48)) 1000 → m ≡ min 1000 (value (take (i + 1) s))
saturated_more s i n m h e f = omega (arith, value_more s i h)

-- each byte of a text of digits is a digit
digits_at : (s : List ℕ) (i : ℕ) → i < length s → AllDigits s → is_digit (get_or s i 0) ≡ true
digits_at [] i h d = absurd (omega arith)
digits_at (x ∷ s) zero h d = d.0
digits_at (x ∷ s) (suc i) h d = digits_at s i (omega arith) d.1

pub front_bounds : (s : List ℕ) (i : ℕ) → i < length s → front s ≡ s → (48 ≤ get_or s i 0) × (get_or s i 0 ≤ 57)
front_bounds s i h e = digit_bounds (get_or s i 0) (digits_at s i h (rw e at (front_digits s)))
