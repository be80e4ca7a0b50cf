-- Keys counted one by one.
use Rattle.std.specs.Prelude.{◌≡◌, ℕ, zero, suc, ◌+◌, min, Bool, cond, List, [], ◌∷◌, Some, None, Option}
use Rattle.table.specs.declared.table.Entry.{Entry}
use Rattle.table.specs.Maps.{Ascending, equivalent, lookup}

-- counts add up to the largest number of 32 bits
abbrev pub count_sum : ℕ → ℕ → ℕ
count_sum a b = min (a + b) 4294967295

-- how many of the keys are equivalent to a key
abbrev pub occurrences : {K : Type 0} → (K → K → Bool) → K → List K → ℕ
occurrences less k [] = 0
occurrences less k (j ∷ js) = cond (equivalent less k j) (occurrences less k js + 1) (occurrences less k js)

-- what a key that occurs so often has in a table of counts
abbrev pub count_of : ℕ → Option ℕ
count_of zero = None
count_of (suc n) = Some (min (suc n) 4294967295)

-- what a key that occurs so often has in a set
abbrev pub there_of : ℕ → Option (Unit {0})
there_of zero = None
there_of (suc n) = Some tt

-- the rows have each of the keys, with what its number of occurrences comes to
pub record Tallied {K V : Type 0} (less : K → K → Bool) (worth : ℕ → Option V) (keys : List K) (rows : List (Entry K V)) : Type 0 where
  pub ascending : Ascending less rows
  pub looked_up : (k : K) → lookup less k rows ≡ worth (occurrences less k keys)
