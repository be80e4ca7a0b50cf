-- Rows as an ordered map, over the strict order of their keys.
use Rattle.std.specs.Prelude.{◌≡◌, ℕ, ◌<◌, Bool, true, cond, not, ◌&&◌, List, [], ◌∷◌, length, Some, None, Option, slice_index_or}
use Rattle.table.specs.declared.table.Entry.{Entry}

-- Two keys are equivalent where neither is before the other.
abbrev pub equivalent : {K : Type 0} → (K → K → Bool) → K → K → Bool
equivalent less a b = not (less a b) && not (less b a)

-- Each key is before every key of a later row.
pub record Ascending {K V : Type 0} (less : K → K → Bool) (rows : List (Entry K V)) : Type 0 where
  pub ordered : (i j : ℕ) (d : Entry K V) → i < j → j < length rows → less (slice_index_or rows i d).key (slice_index_or rows j d).key ≡ true

-- The value of the row whose key is equivalent to a key, where there is one.
abbrev pub lookup : {K V : Type 0} → (K → K → Bool) → K → List (Entry K V) → Option V
lookup less key [] = None
lookup less key (e ∷ es) = cond (equivalent less key e.key) (Some e.value) (lookup less key es)

-- The rows with a key's value put in: the row of an equivalent key keeps its key and takes the value; else
-- a row comes in front of the first whose key is after it.
abbrev pub inserted : {K V : Type 0} → (K → K → Bool) → K → V → List (Entry K V) → List (Entry K V)
inserted less key value [] = record { key = key; value = value } ∷ []
inserted less key value (e ∷ es) =
    cond (less e.key key)
    (e ∷ inserted less key value es)
    (cond (less key e.key)
    (record { key = key; value = value } ∷ (e ∷ es))
    (record { key = e.key; value = value } ∷ es))
