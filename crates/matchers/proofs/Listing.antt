-- The test of a list of words decides whether a name is listed.
use Rattle.std.proofs.Common.{ℕ, List, [], ◌∷◌, Decides, Bor}
use Rattle.std.specs.Str.{bytes_eq}
use Rattle.std.proofs.lemmas.Slice.Eq.{bytes_eq-Decides}
use Rattle.std.proofs.lemmas.Bool.{false≢true}
use Rattle.std.proofs.lemmas.Bool.Decides.{Decides-or}
use Rattle.matchers.specs.Words.{Listed, listed}

pub listed_decides : (words : List (Bor (List ℕ))) (name : List ℕ) → Decides (listed words name) (Listed words name)
listed_decides [] name = (λ h. absurd (false≢true h), λ no. absurd no)
listed_decides (word ∷ words) name =
    Decides-or (bytes_eq word.now name) (listed words name) (bytes_eq-Decides word.now name) (listed_decides words name)
