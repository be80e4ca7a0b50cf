-- What an insertion promises.
use Rattle.std.specs.Prelude.{◌≡◌, ℕ, ◌+◌, ◌<◌, ◌≤◌, min, Bool, cond, length, Some, None, Ok, Err, Option, Result}
use Rattle.table.specs.declared.table.Table.{Table}
use Rattle.table.specs.declared.table.Full.{Full}
use Rattle.table.specs.Maps.{equivalent, lookup, inserted}
use Rattle.table.specs.Rows.{memory, rows, Sound}

-- The number of rows after an insertion that gave back what the key had: one more where it had nothing.
abbrev pub grown : {V : Type 0} → Option V → ℕ → ℕ
grown (Some _) count = count
grown None count = count + 1

-- The key is in the table, or there is room for one more row, within the limit and the memory.
pub record Stored {K V : Type 0} (less : K → K → Bool) (limit : ℕ) (key : K) (value : V) (before after : Table K V) (old : Option V) : Type 0 where
  -- what the key had is given back
  pub replaced : old ≡ lookup less key (rows before)
  pub had_room : lookup less key (rows before) ≡ None → before.len < min limit (length (memory before))
  pub now_rows : rows after ≡ inserted less key value (rows before)
  pub sound : Sound less after
  -- looking up gives the value at this key, and elsewhere what it gave before
  pub looked_up : (k : K) → lookup less k (rows after) ≡ cond (equivalent less k key) (Some value) (lookup less k (rows before))

-- The key is not in the table, and one more row would pass the limit or the memory.
pub record Refused {K V : Type 0} (less : K → K → Bool) (limit : ℕ) (key : K) (before : Table K V) : Type 0 where
  pub new_key : lookup less key (rows before) ≡ None
  pub no_room : min limit (length (memory before)) ≤ before.len

abbrev pub Answered : {K V : Type 0} (less : K → K → Bool) (limit : ℕ) (key : K) (value : V) (before after : Table K V) → Result (Option V) Full → Type 0
Answered less limit key value before after (Ok old) = Stored less limit key value before after old
Answered less limit key value before after (Err _) = Refused less limit key before

-- How a table changes, whatever it holds: a refusal changes nothing, and else the number of rows is known.
abbrev pub Grows : {K V : Type 0} (before after : Table K V) → Result (Option V) Full → Type 0
Grows before after (Ok old) = after.len ≡ grown old before.len
Grows before after (Err _) = after ≡ before
