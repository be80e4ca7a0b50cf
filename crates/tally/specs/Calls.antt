-- What the calls promise.
use Rattle.std.specs.Prelude.{◌≡◌, ℕ, ◌<◌, ◌≤◌, min, Bool, cond, List, length, Some, None, Ok, Err, Option, Result}
use Rattle.table.specs.declared.table.Entry.{Entry}
use Rattle.table.specs.declared.table.Full.{Full}
use Rattle.table.specs.declared.table.Table.{Table}
use Rattle.table.specs.Calls.{Refused}
use Rattle.table.specs.Maps.{equivalent, inserted, lookup}
use Rattle.table.specs.Rows.{memory, rows, Sound}
use Rattle.tally.specs.Sums.{Merged, summed, together}

-- a value is added to what a key had, and no other key has another value than before
pub record Added {K V : Type 0} (less : K → K → Bool) (sum : V → V → V) (limit : ℕ) (key : K) (value : V) (before after : Table K V) : Type 0 where
  pub had_room : lookup less key (rows before) ≡ None → before.len < min limit (length (memory before))
  pub now_rows : rows after ≡ inserted less key (summed sum (lookup less key (rows before)) value) (rows before)
  pub sound : Sound less after
  pub looked_up : (k : K) → lookup less k (rows after) ≡ cond (equivalent less k key) (Some (summed sum (lookup less key (rows before)) value)) (lookup less k (rows before))

-- the value is added, or the key is new and there is no room for it
abbrev pub Adds : {K V : Type 0} → (K → K → Bool) → (V → V → V) → ℕ → K → V → Table K V → Table K V → Result (Unit {0}) Full → Type 0
Adds less sum limit key value before after (Ok done) = Added less sum limit key value before after
Adds less sum limit key value before after (Err full) = Refused less limit key before

-- the number of rows that two tables have together, at most the largest of 64 bits
pub record Needs {K V : Type 0} (less : K → K → Bool) (sum : V → V → V) (before other : Table K V) (count : ℕ) : Type 0 where
  pub all : List (Entry K V)
  pub merged : Merged less sum (rows before) (rows other) all
  pub counted : count ≡ min (length all) 18446744073709551615

-- the rows are those of the two tables together, within the limit and the memory
pub record Joined {K V : Type 0} (less : K → K → Bool) (sum : V → V → V) (limit : ℕ) (before other after : Table K V) : Type 0 where
  pub had_room : length (rows after) ≤ min limit (length (memory before))
  pub sound : Sound less after
  pub merged : Merged less sum (rows before) (rows other) (rows after)

-- the rows of the two tables together pass the limit or the memory
pub record Overfull {K V : Type 0} (less : K → K → Bool) (sum : V → V → V) (limit : ℕ) (before other : Table K V) : Type 0 where
  pub all : List (Entry K V)
  pub merged : Merged less sum (rows before) (rows other) all
  pub no_room : min limit (length (memory before)) < length all

-- the other table is added, or there is no room for all of it
abbrev pub Merges : {K V : Type 0} → (K → K → Bool) → (V → V → V) → ℕ → Table K V → Table K V → Table K V → Result (Unit {0}) Full → Type 0
Merges less sum limit before other after (Ok done) = Joined less sum limit before other after
Merges less sum limit before other after (Err full) = Overfull less sum limit before other

-- all that are the rows of the same two tables together are equally many, so what is overfull for one is so for all
pub record Only {K V : Type 0} (less : K → K → Bool) (sum : V → V → V) : Type 0 where
  pub as_many : (before other xs ys : List (Entry K V)) → Merged less sum before other xs → Merged less sum before other ys → length xs ≡ length ys

-- it does not matter which table comes first, nor which two of three are put together first
pub record AnyOrder {V : Type 0} (sum : V → V → V) : Type 0 where
  pub commutes : (a b : Option V) → together sum a b ≡ together sum b a
  pub associates : (a b c : Option V) → together sum (together sum a b) c ≡ together sum a (together sum b c)
