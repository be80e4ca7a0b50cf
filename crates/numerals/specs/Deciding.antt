-- What the private functions answer: the form of a text, part by part. No public promise rests on these
-- definitions.
use Rattle.std.specs.Prelude.{◌≡◌, ℕ, suc, ◌+◌, ◌-◌, Bool, false, cond, not, ◌&&◌, ◌||◌, ◌⊎◌, List, [], ◌∷◌, map, length, codes, Option, Some, None, ◌==◌, nat_le, nat_lt, slice_index, slice_index_or}
use Rattle.std.specs.Int.Digits.{number_from_digits}
use Rattle.numerals.specs.Numeral.{last}
use Rattle.numerals.specs.declared.form.Form.{Form}
use Rattle.numerals.specs.declared.form.Form.TheVariants.{Short, Long}

-- from `0` to `9`
abbrev pub is_digit : ℕ → Bool
is_digit b = nat_le 48 b && nat_le b 57

-- the digits that the text begins with
abbrev pub front : List ℕ → List ℕ
front [] = []
front (b ∷ s) = cond (is_digit b) (b ∷ front s) []

-- what follows the digits that the text begins with
abbrev pub rest : List ℕ → List ℕ
rest [] = []
rest (b ∷ s) = cond (is_digit b) (rest s) (b ∷ s)

-- a digit before others; a zero before none is left out
abbrev pub keep : ℕ → List ℕ → List ℕ
keep x [] = cond (x == 48) [] (x ∷ [])
keep x (y ∷ ys) = x ∷ y ∷ ys

-- the digits without the zeros at their end
abbrev pub trim : List ℕ → List ℕ
trim [] = []
trim (x ∷ xs) = keep x (trim xs)

-- how many zeros the digits begin with
abbrev pub leading : List ℕ → ℕ
leading [] = 0
leading (x ∷ xs) = cond (x == 48) (suc (leading xs)) 0

-- there are digits, and the first is not 0
abbrev pub begins : List ℕ → Bool
begins s = not (slice_index_or s 0 48 == 48)

-- there are digits, and the last is not 0
abbrev pub ends : List ℕ → Bool
ends s = not (last s 48 == 48)

-- the number that digits write
abbrev pub value : List ℕ → ℕ
value s = number_from_digits 10 (map (λ b. b - 48) s)

-- one digit, not 0
abbrev pub is_lone : List ℕ → Bool
is_lone a = begins a && length a == 1

-- the form of a number of so many digits, with a far point place or not
abbrev pub form_of : ℕ → Bool → Form
form_of count away = cond (nat_lt 15 count || away) Long Short

-- the form of a text with an exponent, by the number of digits before it, its sign, and its digits. With a plus
-- the point place is one more than the exponent; with a minus it is as far below 1 as the exponent says
abbrev pub exponent_form : ℕ → ℕ → List ℕ → Option Form
exponent_form count c e =
    cond (c == 43) (cond (begins e && nat_le 21 (value e)) (Some (form_of count (nat_lt 300 (suc (value e))))) None)
    (cond (c == 45 && (begins e && nat_le 7 (value e))) (Some (form_of count (nat_lt 300 (suc (value e - 2))))) None)

-- nothing follows the exponent
abbrev pub power_end : ℕ → ℕ → List ℕ → List ℕ → Option Form
power_end count c e [] = exponent_form count c e
power_end count c e (x ∷ r) = None

-- the form of a text with an exponent, by the number of digits before the `e` and by what follows it
abbrev pub power_form : ℕ → List ℕ → Option Form
power_form count [] = None
power_form count (c ∷ s) = power_end count c (front s) (rest s)

-- digits alone
abbrev pub whole_form : List ℕ → Option Form
whole_form a = cond (begins a && nat_le (length a) 21) (Some (form_of (length (trim a)) false)) None

-- digits on both sides of a point
abbrev pub fraction_form : List ℕ → List ℕ → Option Form
fraction_form a b =
    cond (ends b)
    (cond (begins a) (cond (nat_le (length a) 21) (Some (form_of (length a + length b) false)) None)
    (cond (length a == 1 && nat_le (leading b) 5) (Some (form_of (length b - leading b) false)) None))
    None

-- digits, a point, digits, and what follows them
abbrev pub point_form : List ℕ → List ℕ → List ℕ → Option Form
point_form a b [] = fraction_form a b
point_form a b (x ∷ s) = cond (x == 101) (cond (is_lone a && ends b) (power_form (suc (length b)) s) None) None

-- digits, and what follows them
abbrev pub after_whole : List ℕ → List ℕ → Option Form
after_whole a [] = whole_form a
after_whole a (x ∷ s) =
    cond (x == 46) (point_form a (front s) (rest s)) (cond (x == 101) (cond (is_lone a) (power_form 1 s) None) None)

-- a text without a sign
abbrev pub unsigned_form : List ℕ → Option Form
unsigned_form s = after_whole (front s) (rest s)

-- a text that may begin with a minus
abbrev pub signed_form : List ℕ → Option Form
signed_form [] = None
signed_form (x ∷ s) = cond (x == 45) (unsigned_form s) (unsigned_form (x ∷ s))

-- `0` is the one numeral that begins with `0` and has no point
abbrev pub is_nought : List ℕ → Bool
is_nought s = length s == 1 && slice_index s 0 == 48

-- the form of the text
abbrev pub text_form : List ℕ → Option Form
text_form s = cond (is_nought s) (Some Short) (signed_form s)

-- the canonical texts without number form
abbrev pub Special : List ℕ → Type 0
Special s = (s ≡ codes "-0") ⊎ ((s ≡ codes "NaN") ⊎ ((s ≡ codes "Infinity") ⊎ (s ≡ codes "-Infinity")))
