-- Worked examples: texts with the numbers that they are written of, and texts without number form.
use Rattle.std.proofs.Common.{true, false, [], ◌∷◌, pos, negsuc, codes, refl, arith}
use Rattle.numerals.specs.Numeral.{nought, finite, Shortest, Numeral, HasForm, HasLongForm}
use Rattle.numerals.proofs.Verdicts.{formless_has_none, short_not_long, long_is_long}

one : Shortest (1 ∷ [])
one = record { below = (omega arith, tt); first = λ e. omega arith; final = λ e. omega arith }

three : Shortest (1 ∷ 2 ∷ 5 ∷ [])
three = record { below = (omega arith, (omega arith, (omega arith, tt))); first = λ e. omega arith; final = λ e. omega arith }

zero_alone : Numeral (codes "0") nought
zero_alone = refl

most_zeros_after : Numeral (codes "100000000000000000000") (finite false (1 ∷ []) (pos 21))
most_zeros_after = (one, refl)

least_plus : Numeral (codes "1e+21") (finite false (1 ∷ []) (pos 22))
least_plus = (one, refl)

most_zeros_before : Numeral (codes "0.000001") (finite false (1 ∷ []) (negsuc 4))
most_zeros_before = (one, refl)

least_minus : Numeral (codes "1e-7") (finite false (1 ∷ []) (negsuc 5))
least_minus = (one, refl)

point_inside : Numeral (codes "-12.5") (finite true (1 ∷ 2 ∷ 5 ∷ []) (pos 2))
point_inside = (three, refl)

point_and_power : Numeral (codes "-1.25e+30") (finite true (1 ∷ 2 ∷ 5 ∷ []) (pos 31))
point_and_power = (three, refl)

no_negative_zero : HasForm (codes "-0") → ⊥
no_negative_zero = formless_has_none (codes "-0") refl

no_power_without_sign : HasForm (codes "1e21") → ⊥
no_power_without_sign = formless_has_none (codes "1e21") refl

no_zero_before : HasForm (codes "01") → ⊥
no_zero_before = formless_has_none (codes "01") refl

no_zero_after : HasForm (codes "1.0") → ⊥
no_zero_after = formless_has_none (codes "1.0") refl

no_point_at_the_end : HasForm (codes "5.") → ⊥
no_point_at_the_end = formless_has_none (codes "5.") refl

no_22_digits : HasForm (codes "1000000000000000000000") → ⊥
no_22_digits = formless_has_none (codes "1000000000000000000000") refl

no_empty_text : HasForm [] → ⊥
no_empty_text = formless_has_none [] refl

place_300 : HasLongForm (codes "1e+299") → ⊥
place_300 = short_not_long (codes "1e+299") refl

place_301 : HasLongForm (codes "1e+300")
place_301 = long_is_long (codes "1e+300") refl

digits_16 : HasLongForm (codes "0.1234567890123456")
digits_16 = long_is_long (codes "0.1234567890123456") refl
