-- Names in lists, and what tables have of them.
use Rattle.std.specs.Prelude.{◌≡◌, ℕ, zero, suc, ◌+◌, ◌<◌, false, cond, List, [], ◌∷◌, length, Some, None, Option, ◌==◌, nat_le, slice_index_or}
use Rattle.std.specs.List.{filter}
use Rattle.std.specs.Str.{bytes_eq}
use Rattle.names.specs.declared.name.Name.{Name}
use Rattle.names.specs.Names.{before, bytes_of, long, name_of}
use Rattle.table.specs.declared.table.Entry.{Entry}
use Rattle.options.specs.Giving.{found}
use Rattle.table.specs.Maps.{Ascending}
use Rattle.tally.specs.Counts.{there_of}

-- how often a name stands in a list of names
abbrev pub times : List ℕ → List (List ℕ) → ℕ
times n [] = 0
times n (m ∷ ms) = cond (bytes_eq n m) (times n ms + 1) (times n ms)

-- how many different names stand in a list
abbrev pub different : List (List ℕ) → ℕ
different [] = 0
different (n ∷ ns) = cond (times n ns == 0) (different ns + 1) (different ns)

-- the texts that can be names
abbrev pub kept : List (List ℕ) → List (List ℕ)
kept texts = filter (λ t. nat_le (length t) 255) texts

-- a number of times, none for none
abbrev pub counted_times : ℕ → Option ℕ
counted_times zero = None
counted_times (suc n) = Some (suc n)

-- each key is a name record as we make them, of at most 255 bytes and with zeros past them
pub record Clean {V : Type 0} (rows : List (Entry Name V)) : Type 0 where
  pub short : (i : ℕ) (d : Entry Name V) → i < length rows → long (bytes_of (slice_index_or rows i d).key) ≡ false
  pub clean : (i : ℕ) (d : Entry Name V) → i < length rows → (slice_index_or rows i d).key ≡ name_of (bytes_of (slice_index_or rows i d).key)

-- Rows hold the names of a list, each once, in ascending order, with how often it stands there.
pub record HoldsCounts (names : List (List ℕ)) (rows : List (Entry Name ℕ)) : Type 0 where
  pub ascending : Ascending before rows
  pub clean : Clean rows
  pub counts : (n : List ℕ) → found n rows ≡ counted_times (times n names)

-- Rows hold the texts of a list, each once, in ascending order.
pub record HoldsTexts (texts : List (List ℕ)) (rows : List (Entry Name (Unit {0}))) : Type 0 where
  pub ascending : Ascending before rows
  pub clean : Clean rows
  pub texts_are : (t : List ℕ) → found t rows ≡ there_of (times t texts)

-- the sum of the counts of rows
abbrev pub sum_of : List (Entry Name ℕ) → ℕ
sum_of [] = 0
sum_of (e ∷ es) = e.value + sum_of es
