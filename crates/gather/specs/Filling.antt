-- What the private steps that fill a table are held to. No public promise rests on it.
use Rattle.std.specs.Prelude.{◌≡◌, ℕ, ◌<◌, ◌≤◌, min, Bool, true, false, ◌⊎◌, List, [], ◌∷◌, map, length, Ok, Err, Result}
use Rattle.pages.specs.declared.refusal.Refusal.{Refusal}
use Rattle.names.specs.declared.name.Name.{Name}
use Rattle.names.specs.Names.{before, name_of}
use Rattle.table.specs.declared.table.Entry.{Entry}
use Rattle.table.specs.declared.table.Table.{Table}
use Rattle.table.specs.Maps.{inserted, lookup}
use Rattle.table.specs.Rows.{memory, rows, SameMemory, Sound}
use Rattle.tally.specs.Counts.{count_sum}
use Rattle.tally.specs.Sums.{summed}
use Rattle.gather.specs.declared.collection.PropertyMangleCollection.{PropertyMangleCollection}
use Rattle.gather.specs.declared.note.Shortfall.{Shortfall}
use Rattle.gather.specs.Counting.{kept}
use Rattle.gather.specs.Faults.{AllRight, Wrong}

-- the rows with a value added for each of some keys, one after the other
abbrev pub tallied : {V : Type 0} → (V → V → V) → V → List Name → List (Entry Name V) → List (Entry Name V)
tallied sum value [] rs = rs
tallied sum value (n ∷ ns) rs = tallied sum value ns (inserted before n (summed sum (lookup before n rs) value) rs)

-- how many rows a table may have
abbrev pub room : {V : Type 0} → Table Name V → ℕ
room t = min 4096 (length (memory t))

-- Names were added to a table, unless it had no room, now or before.
pub record Fills {V : Type 0} (sum : V → V → V) (value : V) (names : List Name) (t t' : Table Name V) (full full' : Bool) : Type 0 where
  pub kept_memory : SameMemory t t'
  pub grown : t.len ≤ t'.len
  pub sound : Sound before t'
  pub on : full' ≡ false → (full ≡ false) × (rows t' ≡ tallied sum value names (rows t))
  pub fitting : full' ≡ false → length (rows t) ≤ room t → length (rows t') ≤ room t
  pub out : full' ≡ true → (full ≡ true) ⊎ (room t < length (tallied sum value names (rows t)))

-- a set has no more than its keys
abbrev pub unit_sum : Unit {0} → Unit {0} → Unit {0}
unit_sum a b = tt

-- Both tables ascend within their memory.
pub record Sounds (c : PropertyMangleCollection) : Type 0 where
  pub names : Sound before c.frequencies
  pub texts : Sound before c.occupied

-- Names were counted and texts were occupied.
pub record Moves (names texts : List (List ℕ)) (c c' : PropertyMangleCollection) (l l' : Shortfall) : Type 0 where
  pub counting : Fills count_sum 1 (map name_of names) c.frequencies c'.frequencies l.names l'.names
  pub occupying : Fills unit_sum tt (map name_of (kept texts)) c.occupied c'.occupied l.texts l'.texts

-- A table has the memory that it had, whatever is in it.
pub record Lent {V : Type 0} (t t' : Table Name V) : Type 0 where
  pub lent : t'.entries.ghost_name ≡ t.entries.ghost_name
  pub as_long : length (memory t') ≡ length (memory t)

pub record BothLent (c c' : PropertyMangleCollection) : Type 0 where
  pub names : Lent c.frequencies c'.frequencies
  pub texts : Lent c.occupied c'.occupied

-- A name was counted, if there is one, or it is wrong and refused; the memory stays.
abbrev pub Counts : List (List ℕ) → ℕ → PropertyMangleCollection → PropertyMangleCollection → Shortfall → Shortfall → Result (Unit {0}) Refusal → Type 0
Counts names node c c' l l' (Ok done) = AllRight names × Moves names [] c c' l l'
Counts names node c c' l l' (Err refusal) = ((name : List ℕ) × (names ≡ name ∷ []) × Wrong node name refusal) × BothLent c c'

-- A name was counted and a text occupied, if there are such, or the name is wrong and refused; the memory stays.
abbrev pub TakesIn : List (List ℕ) → List (List ℕ) → ℕ → PropertyMangleCollection → PropertyMangleCollection → Shortfall → Shortfall → Result (Unit {0}) Refusal → Type 0
TakesIn names texts node c c' l l' (Ok done) = AllRight names × Moves names texts c c' l l'
TakesIn names texts node c c' l l' (Err refusal) = ((name : List ℕ) × (names ≡ name ∷ []) × Wrong node name refusal) × BothLent c c'
