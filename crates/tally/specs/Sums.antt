-- Values of one key that add up, and tables of them.
use Rattle.std.specs.Prelude.{◌≡◌, ℕ, ◌<◌, Bool, ◌⊎◌, List, length, Some, None, Option, slice_index_or}
use Rattle.table.specs.declared.table.Entry.{Entry}
use Rattle.table.specs.Maps.{Ascending, lookup}

-- the value that a key gets: what is added to what it had
abbrev pub summed : {V : Type 0} → (V → V → V) → Option V → V → V
summed sum None value = value
summed sum (Some old) value = sum old value

-- what a key has in two tables together
abbrev pub together : {V : Type 0} → (V → V → V) → Option V → Option V → Option V
together sum None b = b
together sum (Some a) None = Some a
together sum (Some a) (Some b) = Some (sum a b)

-- a property of the keys of all rows
pub record Keys {K V : Type 0} (P : K → Type 0) (rows : List (Entry K V)) : Type 0 where
  pub each : (i : ℕ) (d : Entry K V) → i < length rows → P (slice_index_or rows i d).key

-- a key is that of one of the rows
pub record Among {K V : Type 0} (rows : List (Entry K V)) (key : K) : Type 0 where
  pub place : ℕ
  pub within : place < length rows
  pub is : (d : Entry K V) → (slice_index_or rows place d).key ≡ key

-- rows are the two tables' rows together
pub record Merged {K V : Type 0} (less : K → K → Bool) (sum : V → V → V) (before other rows : List (Entry K V)) : Type 0 where
  pub ascending : Ascending less rows
  pub looked_up : (k : K) → lookup less k rows ≡ together sum (lookup less k before) (lookup less k other)
  -- its keys come from the two
  pub keys : Keys (λ k. Among before k ⊎ Among other k) rows
