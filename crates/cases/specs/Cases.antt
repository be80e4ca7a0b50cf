-- What a text of a table stands for.
use Rattle.std.specs.Prelude.{ℕ, ◌+◌, ◌-◌, ◌*◌, ◌%◌, ◌^◌, ◌&&◌, ◌==◌, nat_le, if◌then◌else◌, List, [], ◌∷◌, ◌++◌, fold}
use Rattle.std.specs.List.{repeat}

-- what a digit counts: 0 to 9, and a to f; any other byte counts 0
abbrev pub digit_of : ℕ → ℕ
digit_of b = if nat_le 48 b && nat_le b 57 then b - 48 else (if nat_le 97 b && nat_le b 102 then b - 97 + 10 else 0)

-- a number with one digit more, in so many bits
abbrev pub longer : ℕ → ℕ → ℕ → ℕ
longer bits n b = (n * 10 + digit_of b) % 2 ^ bits

-- the number that a text is, in 32 bits
abbrev pub number_of : List ℕ → ℕ
number_of s = fold (longer 32) 0 s

-- The five places where a byte may stand, where the number of a repetition counts in so many bits. What breaks off
-- before it is complete stands for nothing.
abbrev mutual
  -- outside: 126 is `~`, and 123 is `{`
  pub expansion_in : ℕ → List ℕ → List ℕ
  expansion_in bits [] = []
  expansion_in bits (b ∷ s) = if b == 126 then after_tilde bits s else (if b == 123 then after_brace bits 0 s else b ∷ expansion_in bits s)

  -- after `~`: the first of its two digits
  pub after_tilde : ℕ → List ℕ → List ℕ
  after_tilde bits [] = []
  after_tilde bits (b ∷ s) = after_digit bits b s

  -- after that digit: the second
  pub after_digit : ℕ → ℕ → List ℕ → List ℕ
  after_digit bits high [] = []
  after_digit bits high (b ∷ s) = (digit_of high * 16 + digit_of b) ∷ expansion_in bits s

  -- after `{`: the number so far, and more of it up to 58, which is `:`
  pub after_brace : ℕ → ℕ → List ℕ → List ℕ
  after_brace bits n [] = []
  after_brace bits n (b ∷ s) = if b == 58 then after_colon bits n [] s else after_brace bits (longer bits n b) s

  -- after `:`: how often the text is to stand, the text so far, and more of it up to 125, which is `}`
  pub after_colon : ℕ → ℕ → List ℕ → List ℕ → List ℕ
  after_colon bits n text [] = []
  after_colon bits n text (b ∷ s) = if b == 125 then repeat n text ++ expansion_in bits s else after_colon bits n (text ++ b ∷ []) s

-- what a text stands for, where such a number counts in 32 bits
abbrev pub expansion : List ℕ → List ℕ
expansion s = expansion_in 32 s
