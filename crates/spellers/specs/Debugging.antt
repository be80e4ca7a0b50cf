-- Debug spellings: the original name, or the word `property`, in a frame, with the attempt's number.
use Rattle.std.specs.Prelude.{◌≡◌, ℕ, zero, suc, true, cond, List, [], ◌++◌, length, codes, decimal}
use Rattle.names.specs.Identifiers.{identifier}
use Rattle.spellers.specs.Attempts.{attempts}

-- what follows an original name: nothing at attempt 0, else `$` and the attempt's number
abbrev pub attempt_mark : ℕ → List ℕ
attempt_mark zero = []
attempt_mark (suc k) = codes "$" ++ decimal (suc k)

-- what tells the attempts of a name apart: an identifier name stands itself in its spellings, and for any other name
-- the word `property` does, always with the number
abbrev pub told : List ℕ → ℕ → List ℕ
told original attempt = cond (identifier original) (original ++ attempt_mark attempt) (codes "property" ++ decimal attempt)

-- the debug spelling of a name at an attempt: `_$`, what tells it apart, and `$_`
unfoldable pub debug_name : List ℕ → ℕ → List ℕ
debug_name original attempt = codes "_$" ++ (told original attempt ++ codes "$_")

-- An identifier name of 251 bytes has just one spelling, and one of 252 has none.
abbrev pub DebugEdges : Type 0
DebugEdges = (original : List ℕ) → identifier original ≡ true → (length original ≡ 251 → length (attempts (debug_name original) 255) ≡ 1) × (length original ≡ 252 → length (attempts (debug_name original) 255) ≡ 0)
