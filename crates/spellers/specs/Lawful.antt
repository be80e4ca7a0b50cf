-- What a list of spellings owes.
use Rattle.std.specs.Prelude.{◌≡◌, ℕ, ◌≤◌, true, List, length, Some, None, Option}
use Rattle.std.specs.List.{slice_get}
use Rattle.names.specs.declared.name.Name.{Name}
use Rattle.names.specs.Identifiers.{identifier}
use Rattle.names.specs.Names.{made_of}

-- A list of spellings is lawful under a length where all of this holds of it.
pub record Lawful (list : List (List ℕ)) (longest : ℕ) : Type 0 where
  -- it has at most 65,536 spellings
  pub few : length list ≤ 65536
  -- no spelling stands in it twice
  pub apart : (m n : ℕ) (s : List ℕ) → slice_get list m ≡ Some s → slice_get list n ≡ Some s → m ≡ n
  -- each is an identifier name
  pub identifiers : (n : ℕ) (s : List ℕ) → slice_get list n ≡ Some s → identifier s ≡ true
  -- none has more bytes than that length
  pub bounded : (n : ℕ) (s : List ℕ) → slice_get list n ≡ Some s → length s ≤ longest

-- A spelling as a name record; no spelling where the list has none.
abbrev pub as_name : Option (List ℕ) → Option Name
as_name None = None
as_name (Some s) = made_of s
