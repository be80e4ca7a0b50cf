-- What the private steps are held to. No public promise rests on it.
use Rattle.std.specs.Prelude.{ℕ, Bool, not, List, is_some}
use Rattle.std.specs.List.{count_by}
use Rattle.table.specs.declared.table.Entry.{Entry}
use Rattle.table.specs.Maps.{lookup}

-- how many of the entries have a key that is not in the rows
abbrev pub new_keys : {K V : Type 0} → (K → K → Bool) → List (Entry K V) → List (Entry K V) → ℕ
new_keys less rows es = count_by (λ e. not (is_some (lookup less e.key rows))) es
