-- The rows of a table, and what is owed of one.
use Rattle.std.specs.Prelude.{◌≡◌, ◌≤◌, Bool, List, length, take, drop}
use Rattle.table.specs.declared.table.Entry.{Entry}
use Rattle.table.specs.declared.table.Table.{Table}
use Rattle.table.specs.Maps.{Ascending}

-- The memory that is lent to the table.
abbrev pub memory : {K V : Type 0} → Table K V → List (Entry K V)
memory t = t.entries.now

-- The entries in use.
abbrev pub rows : {K V : Type 0} → Table K V → List (Entry K V)
rows t = take t.len (memory t)

-- The rows lie within the memory and their keys ascend.
pub record Sound {K V : Type 0} (less : K → K → Bool) (t : Table K V) : Type 0 where
  pub within : t.len ≤ length (memory t)
  pub ascending : Ascending less (rows t)

-- The table has the memory that it had, and nothing past its rows is changed.
pub record SameMemory {K V : Type 0} (before after : Table K V) : Type 0 where
  pub lent : after.entries.ghost_name ≡ before.entries.ghost_name
  pub room : length (memory after) ≡ length (memory before)
  pub past : drop after.len (memory after) ≡ drop after.len (memory before)

-- The table with no rows in the same memory.
abbrev pub cleared : {K V : Type 0} → Table K V → Table K V
cleared t = record { entries = t.entries; len = 0 }
