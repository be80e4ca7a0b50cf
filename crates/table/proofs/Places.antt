-- The laws of the order of keys, and what a search among ascending rows comes to.
use Rattle.std.proofs.Common.{◌≡◌, ℕ, Bool, true, false, List, get_or, sym, subst, ⊎_elim, arith}
use Rattle.std.specs.List.Sorted.{IsPartitionPoint, IsPartitionedBy}
use Rattle.std.proofs.lemmas.Bool.{cases_eq}
use Rattle.table.specs.declared.table.Entry.{Entry}
use Rattle.table.specs.Maps.{Ascending}
use Rattle.table.specs.Search.{Parted}

-- The laws of the order of keys.
pub record Order {K : Type 0} (less : K → K → Bool) : Type 0 where
  pub irreflexive : (a : K) → less a a ≡ false
  pub transitive : (a b c : K) → less a b ≡ true → less b c ≡ true → less a c ≡ true
  pub comparable : (a b c : K) → less a c ≡ true → less b c ≡ false → less a b ≡ true

-- A search for the first of the rows that is not before the key.
module _ {K V : Type 0} {less : K → K → Bool} (laws : Order less) (key : K) (rows : List (Entry K V)) where
  -- what stands before a row that is before the key is before it too
  pub partitioned : Ascending less rows → IsPartitionedBy (λ (row : Entry K V). less row.key key) rows
  partitioned up i j d le lt b =
      ⊎_elim
      (λ e. subst (λ (k : ℕ). less (get_or rows k d).key key ≡ true) (sym e) b)
      (λ ne. laws.transitive _ _ key (up.ordered i j d (omega arith) lt) b)
      (cases_eq i j)

  pub parted : (at : ℕ) → IsPartitionPoint (λ (row : Entry K V). less row.key key ≡ true) (λ (row : Entry K V). less row.key key ≡ false) rows at → Parted less key rows at
  parted at split = record { below = record { before = λ i d h. split.0 i d (omega arith) h }; above = record { not_before = λ i d h l. split.1 i d h l } }
