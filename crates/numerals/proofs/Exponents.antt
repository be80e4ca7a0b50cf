-- Digits as bytes and as numbers, and the number that they write.
use Rattle.std.proofs.Common.{◌≡◌, ℕ, zero, suc, ◌+◌, ◌-◌, ◌/◌, ◌%◌, ◌<◌, ◌≤◌, true, eqb, leb, List, [], ◌∷◌, ◌++◌, map, length, get_or, take, sym, refl, ap, ◌∙◌, arith}
use Rattle.std.proofs.lemmas.Int.Digits.{digits_of_step, number_more, number_digits_of, all_below_base_digits_of, first_digits_of}
use Rattle.std.proofs.lemmas.List.{take_more, take_all}
use Rattle.std.proofs.lemmas.Bool.{and_parts, and_from, leb-true, le-leb, eqb-false, ne_eqb, not-true, not_from_false, false≢true}
use Rattle.std.specs.Int.Digits.{digits_of, number_from_digits, AllBelowBase}
use Rattle.numerals.specs.Numeral.{spelled}
use Rattle.numerals.specs.Deciding.{is_digit, begins, value}
use Rattle.numerals.proofs.Cutting.{AllDigits}

-- the digits of bytes
abbrev pub values : List ℕ → List ℕ
values s = map (λ b. b - 48) s

pub digit_bounds : (b : ℕ) → is_digit b ≡ true → (48 ≤ b) × (b ≤ 57)
digit_bounds b e =
    let p = and_parts (leb 48 b) (leb b 57) e in
    (leb-true 48 b p.0, leb-true b 57 p.1)

pub digit_from : (d : ℕ) → d < 10 → is_digit (48 + d) ≡ true
digit_from d h = and_from _ _ (le-leb 48 (48 + d) (omega arith)) (le-leb (48 + d) 57 (omega arith))

pub values_spelled : (ds : List ℕ) → values (spelled ds) ≡ ds
values_spelled [] = refl
values_spelled (d ∷ ds) = let e : 48 + d - 48 ≡ d = omega arith in λ i. e i ∷ values_spelled ds i

pub spelled_values : (s : List ℕ) → AllDigits s → spelled (values s) ≡ s
spelled_values [] d = refl
spelled_values (b ∷ s) d =
    let p = digit_bounds b d.0 in
    let e : 48 + (b - 48) ≡ b = omega arith in
    λ i. e i ∷ spelled_values s d.1 i

pub values_under : (s : List ℕ) → AllDigits s → AllBelowBase 10 (values s)
values_under [] d = tt
values_under (b ∷ s) d = let p = digit_bounds b d.0 in (omega arith, values_under s d.1)

pub spelled_digits : (ds : List ℕ) → AllBelowBase 10 ds → AllDigits (spelled ds)
spelled_digits [] u = tt
spelled_digits (d ∷ ds) u = (digit_from d u.0, spelled_digits ds u.1)

-- a list begins with another digit than 0, or its bytes do
pub values_first : (s : List ℕ) → AllDigits s → begins s ≡ true → get_or (values s) 0 0 ≡ 0 → ⊥
values_first [] d e h = false≢true e
values_first (b ∷ s) d e h =
    let p = digit_bounds b d.0 in
    eqb-false b 48 (not-true (eqb b 48) e) (omega arith)

pub spelled_begins : (ds : List ℕ) → (get_or ds 0 0 ≡ 0 → ⊥) → begins (spelled ds) ≡ true
spelled_begins [] h = absurd (h refl)
spelled_begins (d ∷ ds) h = not_from_false _ (ne_eqb (48 + d) 48 (λ e. h (omega arith)))

under_at : (ds : List ℕ) (i : ℕ) → AllBelowBase 10 ds → get_or ds i 0 < 10
under_at [] i u = omega arith
under_at (d ∷ ds) zero u = u.0
under_at (d ∷ ds) (suc i) u = under_at ds i u.1

-- the front of digits that do not begin with 0 writes a positive number, and is what that number is written as
module _ (ds : List ℕ) (u : AllBelowBase 10 ds) (first : get_or ds 0 0 ≡ 0 → ⊥) where
  front_positive : (i : ℕ) → i < length ds → 0 < number_from_digits 10 (take (i + 1) ds)
  front_positive zero h = omega (arith, number_more 10 ds 0 h, first)
  front_positive (suc i) h =
      let p = front_positive i (omega arith) in
      let e : i + 1 ≡ suc i = omega arith in
      let q : 0 < number_from_digits 10 (take (suc i) ds) = rw (← e) p in
      omega (arith, number_more 10 ds (suc i) h)

  front_written : (i : ℕ) → i ≤ length ds → digits_of 10 (number_from_digits 10 (take i ds)) ≡ take i ds
  front_written zero h = refl
  front_written (suc i) h =
      let e : i + 1 ≡ suc i = omega arith in
      rw (← e) (step (front_written i (omega arith)))
    where
      step : digits_of 10 (number_from_digits 10 (take i ds)) ≡ take i ds → digits_of 10 (number_from_digits 10 (take (i + 1) ds)) ≡ take (i + 1) ds
      step ih =
          let n = number_more 10 ds i h in
          let d = under_at ds i u in
          let q : number_from_digits 10 (take (i + 1) ds) / 10 ≡ number_from_digits 10 (take i ds) = omega arith in
          let r : number_from_digits 10 (take (i + 1) ds) % 10 ≡ get_or ds i 0 = omega arith in
          digits_of_step 10 (number_from_digits 10 (take (i + 1) ds)) (omega arith) (front_positive i h)
          ∙ ((λ k. digits_of 10 (q k) ++ (r k ∷ [])) ∙ ((ap (λ t. t ++ (get_or ds i 0 ∷ [])) ih) ∙ sym (take_more ds i 0 h)))

  pub written_back : digits_of 10 (number_from_digits 10 ds) ≡ ds
  written_back =
      let e : take (length ds) ds ≡ ds = take_all (length ds) ds (omega arith) in
      rw e at (front_written (length ds) (omega arith))

-- the bytes of an exponent
pub exponent_digits : (n : ℕ) → AllDigits (spelled (digits_of 10 n))
exponent_digits n = spelled_digits (digits_of 10 n) (all_below_base_digits_of 10 n (omega arith))

pub exponent_begins : (n : ℕ) → 0 < n → begins (spelled (digits_of 10 n)) ≡ true
exponent_begins n h = spelled_begins (digits_of 10 n) (λ e. omega (arith, first_digits_of 10 n (omega arith) h))

pub exponent_value : (n : ℕ) → value (spelled (digits_of 10 n)) ≡ n
exponent_value n = ap (number_from_digits 10) (values_spelled (digits_of 10 n)) ∙ number_digits_of 10 n (omega arith)

pub value_exponent : (s : List ℕ) → AllDigits s → begins s ≡ true → spelled (digits_of 10 (value s)) ≡ s
value_exponent s d e =
    ap spelled (written_back (values s) (values_under s d) (values_first s d e)) ∙ spelled_values s d
