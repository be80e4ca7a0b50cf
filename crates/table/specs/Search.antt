-- What the private steps are held to. No public promise rests on it.
use Rattle.std.specs.Prelude.{◌≡◌, ℕ, ◌+◌, ◌<◌, ◌≤◌, Bool, true, false, List, ◌∷◌, ◌++◌, length, take, drop, Ok, Err, Result, slice_index_or}
use Rattle.table.specs.declared.table.Entry.{Entry}

-- The rows below the place are before the key.
pub record Below {K V : Type 0} (less : K → K → Bool) (key : K) (rows : List (Entry K V)) (place : ℕ) : Type 0 where
  pub before : (i : ℕ) (d : Entry K V) → i < place → less (slice_index_or rows i d).key key ≡ true

-- The rows from the place on are not before the key.
pub record Above {K V : Type 0} (less : K → K → Bool) (key : K) (rows : List (Entry K V)) (place : ℕ) : Type 0 where
  pub not_before : (i : ℕ) (d : Entry K V) → place ≤ i → i < length rows → less (slice_index_or rows i d).key key ≡ false

-- The place parts the rows before the key from the others.
pub record Parted {K V : Type 0} (less : K → K → Bool) (key : K) (rows : List (Entry K V)) (place : ℕ) : Type 0 where
  pub below : Below less key rows place
  pub above : Above less key rows place

-- The row at the place has a key that is equivalent to the key.
pub record Found {K V : Type 0} (less : K → K → Bool) (key : K) (rows : List (Entry K V)) (place : ℕ) : Type 0 where
  pub parted : Parted less key rows place
  pub same : (d : Entry K V) → less key (slice_index_or rows place d).key ≡ false

-- No row has such a key, and a row for the key would come at the place.
pub record Missing {K V : Type 0} (less : K → K → Bool) (key : K) (rows : List (Entry K V)) (place : ℕ) : Type 0 where
  pub parted : Parted less key rows place
  pub after : (d : Entry K V) → place < length rows → less key (slice_index_or rows place d).key ≡ true

abbrev pub Sought : {K V : Type 0} (less : K → K → Bool) (key : K) (rows : List (Entry K V)) → Result ℕ ℕ → Type 0
Sought less key rows (Ok place) = Found less key rows place
Sought less key rows (Err place) = Missing less key rows place

-- An entry is put in among the first entries, those from its place on are moved up by one, and the others stay.
pub record PutIn {K V : Type 0} (before : List (Entry K V)) (len at : ℕ) (entry : Entry K V) (after : List (Entry K V)) : Type 0 where
  pub moved : take (len + 1) after ≡ take at (take len before) ++ (entry ∷ drop at (take len before))
  pub past : drop (len + 1) after ≡ drop (len + 1) before
