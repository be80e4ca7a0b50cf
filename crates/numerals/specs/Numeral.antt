-- The texts that Number::toString of ECMA-262 writes in base 10.
use Rattle.std.specs.Prelude.{◌≡◌, ℕ, zero, suc, ◌+◌, ◌-◌, ◌<◌, Bool, true, false, cond, ◌⊎◌, List, [], ◌∷◌, ◌++◌, map, length, take, drop, replicate, ℤ, pos, negsuc, codes, ◌==◌, nat_le, nat_lt, slice_index_or}
use Rattle.std.specs.Int.Digits.{digits_of, AllBelowBase}

-- the bytes of digits, from `0` on
abbrev pub spelled : List ℕ → List ℕ
spelled ds = map (λ d. 48 + d) ds

-- the last of some numbers; of none, the number given
abbrev pub last : List ℕ → ℕ → ℕ
last [] none = none
last (x ∷ xs) none = last xs x

-- so many zeros as text
abbrev pub zeros : ℕ → List ℕ
zeros n = replicate n 48

-- The cases of the standard. Each takes the bytes of the k digits. The point place n is an integer: the number
-- is 0.d₁d₂…dₖ times ten to the n. `pos n` is n, and `negsuc n` is -(n + 1).

-- the first n digits, a point, and the other digits
abbrev pub parted : List ℕ → ℕ → List ℕ
parted ds n = take n ds ++ (46 ∷ drop n ds)

-- n from 1 to 21. With n at least k: the digits, and then n - k zeros. Else there is a point inside the digits
abbrev pub positional : List ℕ → ℕ → List ℕ
positional ds n = cond (nat_le (length ds) n) (ds ++ zeros (n - length ds)) (parted ds n)

-- n from -5 to 0, written as its distance from 0: `0.`, then the zeros, then the digits
abbrev pub fractional : List ℕ → ℕ → List ℕ
fractional ds n = 48 ∷ 46 ∷ (zeros n ++ ds)

-- with an exponent: the digit, or the first digit, a point and the other digits; then `e`, the sign of the
-- exponent, and how large it is, in decimal without leading zeros
abbrev pub exponential : List ℕ → ℕ → ℕ → List ℕ
exponential ds sign e = cond (length ds == 1) ds (parted ds 1) ++ (101 ∷ sign ∷ spelled (digits_of 10 e))

-- The text of a positive number. The exponent is n - 1, which is positive where n is above 21, and negative where
-- n is below -5.
abbrev pub unsigned : List ℕ → ℤ → List ℕ
unsigned ds (pos zero) = fractional ds 0
unsigned ds (pos (suc n)) = cond (nat_le (suc n) 21) (positional ds (suc n)) (exponential ds 43 n)
unsigned ds (negsuc n) = cond (nat_lt (suc n) 6) (fractional ds (suc n)) (exponential ds 45 (suc (suc n)))

-- with the minus of a negative number in front
abbrev pub signed : Bool → List ℕ → List ℕ
signed true s = 45 ∷ s
signed false s = s

-- A number: 0, or whether it is negative, its digits, and its point place.
pub data Number : Type 0 where
  nought : Number
  finite : Bool → List ℕ → ℤ → Number

-- Digits below 10, at least one, the first and the last not 0: so there are as few as possible.
pub record Shortest (ds : List ℕ) : Type 0 where
  pub below : AllBelowBase 10 ds
  pub first : slice_index_or ds 0 0 ≡ 0 → ⊥
  pub final : last ds 0 ≡ 0 → ⊥

-- The text is what is written of the number.
abbrev pub Numeral : List ℕ → Number → Type 0
Numeral s nought = s ≡ 48 ∷ []
Numeral s (finite negative ds n) = Shortest ds × (s ≡ signed negative (unsigned (spelled ds) n))

-- a point place above 300 or below -300
abbrev pub Far : ℤ → Type 0
Far (pos n) = 300 < n
Far (negsuc n) = 300 < suc n

-- over 15 digits, or a far point place
abbrev pub Long : Number → Type 0
Long nought = ⊥
Long (finite negative ds n) = (15 < length ds) ⊎ Far n

-- The text has number form: it is what is written of some number.
pub record HasForm (s : List ℕ) : Type 0 where
  pub number : Number
  pub numeral : Numeral s number

-- It is what is written of a long number.
pub record HasLongForm (s : List ℕ) : Type 0 where
  pub number : Number
  pub numeral : Numeral s number
  pub long : Long number

-- No text is written of two numbers.
abbrev pub OneNumber : List ℕ → Type 0
OneNumber s = (m m' : Number) → Numeral s m → Numeral s m' → m ≡ m'

-- The canonical numeric texts: number form of a number that is not long, and four texts of their own.
pub data Canonical (s : List ℕ) : Type 0 where
  of_number : (m : Number) → Numeral s m → (Long m → ⊥) → Canonical s
  negative_nought : s ≡ codes "-0" → Canonical s
  not_a_number : s ≡ codes "NaN" → Canonical s
  infinite : s ≡ codes "Infinity" → Canonical s
  negative_infinite : s ≡ codes "-Infinity" → Canonical s
