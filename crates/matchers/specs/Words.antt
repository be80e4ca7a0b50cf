-- The set of the words of a list.
use Rattle.std.specs.Prelude.{◌≡◌, ℕ, Bool, ◌⊎◌, List, [], ◌∷◌}
use Rattle.std.specs.Borrow.{Bor}
use Rattle.std.specs.List.{list_any}
use Rattle.std.specs.Str.{bytes_eq}

-- the first word has these bytes, or one of the words after it; of no words, none has
abbrev pub Listed : List (Bor (List ℕ)) → List ℕ → Type 0
Listed [] name = ⊥
Listed (word ∷ words) name = (word.now ≡ name) ⊎ Listed words name

-- the same as a test
abbrev pub listed : List (Bor (List ℕ)) → List ℕ → Bool
listed words name = list_any (λ word. bytes_eq word.now name) words
