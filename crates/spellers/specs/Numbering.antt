-- Short spellings: numbers in two bases.
use Rattle.std.specs.Prelude.{◌≡◌, ℕ, zero, suc, ◌+◌, ◌-◌, ◌*◌, ◌/◌, ◌%◌, ◌<◌, List, [], ◌∷◌, ◌++◌, map, length, replicate, codes, slice_index}
use Rattle.spellers.specs.declared.short.ShortSpelling.{ShortSpelling}

-- the letters, in the order of the digits that they stand for; an identifier name may start with the first 54
abbrev pub alphabet : List ℕ
alphabet = codes "abcdefghijklmnopqrstuvwxyzABCDEFGHIJKLMNOPQRSTUVWXYZ$_0123456789"

-- the letter of a digit
unfoldable pub letter : ℕ → ℕ
letter d = slice_index alphabet d

-- the digits after the first: while something is left, 1 is taken from it, its remainder by 64 is a digit, and its
-- quotient by 64 is left; at most so many
abbrev pub later_digits : ℕ → ℕ → List ℕ
later_digits most zero = []
later_digits zero (suc left) = []
later_digits (suc most) (suc left) = (left % 64) ∷ later_digits most (left / 64)

-- the first digit is the remainder by 54, and the quotient is left for the others
unfoldable pub digits : ℕ → List ℕ
digits n = (n % 54) ∷ later_digits n (n / 54)

-- what the digits after the first count
abbrev pub later_number : List ℕ → ℕ
later_number [] = 0
later_number (d ∷ ds) = d + 1 + 64 * later_number ds

-- Digits write a number: there is a first one, below 54; the others are below 64; and the number is the first with 54
-- times what the others count. Each number is written by just one list of digits.
abbrev pub AllBelow : ℕ → List ℕ → Type 0
AllBelow base [] = Unit {0}
AllBelow base (d ∷ ds) = (d < base) × AllBelow base ds

abbrev pub Writes : List ℕ → ℕ → Type 0
Writes [] n = ⊥
Writes (d ∷ ds) n = (d < 54) × AllBelow 64 ds × (n ≡ d + 54 * later_number ds)

-- the short spelling of a number
unfoldable pub short : ℕ → List ℕ
short n = map letter (digits n)

-- three bytes that begin with these and go on with zeros, and how many these are
abbrev pub three_bytes : List ℕ → ShortSpelling
three_bytes s = record { bytes = s ++ replicate (3 - length s) 0; len = length s }

-- A number is written by its digits, and by no others.
abbrev pub WrittenOnce : Type 0
WrittenOnce = (n : ℕ) → Writes (digits n) n × ((ds : List ℕ) → Writes ds n → ds ≡ digits n)

-- No two numbers are spelled alike.
abbrev pub SpelledApart : Type 0
SpelledApart = (m n : ℕ) → short m ≡ short n → m ≡ n

-- The last spelling of one letter and the first of two; the last of two and the first of three.
abbrev pub ShortEdges : Type 0
ShortEdges = (short 53 ≡ codes "_") × (short 54 ≡ codes "aa") × (short 3509 ≡ codes "_9") × (short 3510 ≡ codes "aaa")
