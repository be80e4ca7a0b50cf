-- What a pattern means.
use Rattle.std.specs.Prelude.{◌≡◌, ℕ, Bool, true, false, cond, ◌&&◌, ◌||◌, List, [], ◌∷◌, ◌++◌, length, ◌==◌}

-- what a byte of a pattern is: it stands for a run of bytes, for one byte, or for itself
pub data Piece : Type 0 where
  run : Piece
  one : Piece
  itself : ℕ → Piece

-- `*` is a run, `?` is one byte, and any other byte is itself
unfoldable pub piece : ℕ → Piece
piece b = cond (b == 42) run (cond (b == 63) one (itself b))

-- the bytes that a piece stands for: any bytes, none too; exactly one; the byte itself
abbrev pub StandsFor : Piece → List ℕ → Type 0
StandsFor run part = Unit {0}
StandsFor one part = length part ≡ 1
StandsFor (itself b) part = part ≡ b ∷ []

-- the name is parts one after the other, one for each byte of the pattern, each what its piece stands for
abbrev pub Means : List ℕ → List ℕ → Type 0
Means [] name = name ≡ []
Means (b ∷ bs) name =
    (part : List ℕ) × (rest : List ℕ) × (name ≡ part ++ rest) × StandsFor (piece b) part × Means bs rest

-- whether a name, or what is left of it behind some of its bytes, passes a test
abbrev pub some_suffix : (List ℕ → Bool) → List ℕ → Bool
some_suffix test [] = test []
some_suffix test (x ∷ xs) = test (x ∷ xs) || some_suffix test xs

-- whether a name begins with a part that the piece stands for, behind which a test passes
abbrev pub parted : Piece → (List ℕ → Bool) → List ℕ → Bool
parted run test name = some_suffix test name
parted one test [] = false
parted one test (x ∷ xs) = test xs
parted (itself b) test [] = false
parted (itself b) test (x ∷ xs) = b == x && test xs

-- whether a list has no bytes
abbrev pub no_bytes : List ℕ → Bool
no_bytes [] = true
no_bytes (x ∷ xs) = false

-- whether the pattern means the name
unfoldable pub matched : List ℕ → List ℕ → Bool
matched [] = no_bytes
matched (b ∷ bs) = parted (piece b) (matched bs)
