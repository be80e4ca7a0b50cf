-- Each way out of a search and of an insertion.
use Rattle.std.proofs.Common.{◌≡◌, ℕ, ◌+◌, ◌<◌, ◌≤◌, min, Bool, false, List, length, get_or, take, set, Some, None, Ok, Err, Option, Result, sym, ap, ◌∙◌, subst, ⊎_elim, arith, length-set, length-take}
use lib.Seq.{take-set-lt}
use Rattle.std.proofs.lemmas.List.{get_or-take}
use Rattle.std.proofs.lemmas.Bool.{cases_eq, cases_lt}
use Rattle.std.specs.List.Sorted.{IsSearchInRange}
use Rattle.std.specs.Result.{result_ok}
use Rattle.table.specs.declared.table.Entry.{Entry}
use Rattle.table.specs.declared.table.Table.{Table}
use Rattle.table.specs.Calls.{Stored}
use Rattle.table.specs.Maps.{Ascending, equivalent, lookup, inserted}
use Rattle.table.specs.Rows.{memory, rows, Sound}
use Rattle.table.specs.Search.{Found, Missing, PutIn, Sought}
use Rattle.table.proofs.Mapping.{equivalent_from, before_apart, after_apart, looked_up, ascending_inserted, lookup_none, lookup_at, inserted_new, inserted_same}
use Rattle.table.proofs.Places.{Order}

-- a row lies in the memory, and below the number of rows
pub row_in_memory : {X : Type 0} (n at : ℕ) (xs : List X) → at < length (take n xs) → (at < length xs) × (at < n)
row_in_memory n at xs l = let e = length-take n xs in (omega arith, omega arith)

-- What is found in a slice that holds the rows is found in the table.
pub found_in_rows : {K V : Type 0} (t : Table K V) (all : List (Entry K V)) (at : ℕ) → all ≡ rows t → at < length all → at < length (rows t)
found_in_rows t all at e l = subst (λ rs. at < length rs) e l

module _ {K V : Type 0} (less : K → K → Bool) (laws : Order less) (key : K) (all : List (Entry K V)) (at : ℕ) where
  pub found_value : (d : Entry K V) → at < length all → Found less key all at → lookup less key all ≡ Some (get_or all at d).value
  found_value d l f =
      lookup_at less key all at d f.parted.below.before
      (equivalent_from less key _ (f.same d) (f.parted.above.not_before at d (omega arith) l)) l

  pub missing_none : Ascending less all → Missing less key all at → lookup less key all ≡ None
  missing_none up m = lookup_none less key all apart
    where
      apart : (i : ℕ) (d : Entry K V) → i < length all → equivalent less key (get_or all i d).key ≡ false
      apart i d l =
          ⊎_elim
          (λ lt. after_apart less key _ (m.parted.below.before i d lt))
          (λ le. ⊎_elim
          (λ e. subst (λ (j : ℕ). equivalent less key (get_or all j d).key ≡ false) (sym e) (before_apart less key _ (m.after d (omega arith))))
          (λ ne. before_apart less key _ (laws.transitive key _ _ (m.after d (omega arith)) (up.ordered at i d (omega arith) l)))
          (cases_eq i at))
          (cases_lt i at)

-- What a search comes to, by whether it found a row.
module _ {K V : Type 0} {less : K → K → Bool} (laws : Order less) (key : K) (all : List (Entry K V)) where
  pub looked_past : (r : Result ℕ ℕ) → result_ok r ≡ None → Ascending less all → Sought less key all r → None ≡ lookup less key all
  looked_past (Ok at) e up s = cc
  looked_past (Err at) e up s = sym (missing_none less laws key all at up s)

  pub looked_at : (r : Result ℕ ℕ) (at : ℕ) (d : Entry K V) → result_ok r ≡ Some at → IsSearchInRange r (length all) → Sought less key all r → Some (get_or all at d).value ≡ lookup less key all
  looked_at (Ok p) at d e l s = let same : p ≡ at = cc in subst (λ q. Some (get_or all q d).value ≡ lookup less key all) same (sym (found_value less laws key all p d l s))
  looked_at (Err p) at d e l s = cc

-- What an insertion comes to where it is not refused.
module _ {K V : Type 0} (less : K → K → Bool) (laws : Order less) (limit : ℕ) (key : K) (value : V) (before after : Table K V) (old : Option V) where
  pub stored :
      old ≡ lookup less key (rows before) →
      (lookup less key (rows before) ≡ None → before.len < min limit (length (memory before))) →
      rows after ≡ inserted less key value (rows before) →
      after.len ≤ length (memory after) → Ascending less (rows before) →
      Stored less limit key value before after old
  stored was room is within up =
      record {
        replaced = was;
        had_room = room;
        now_rows = is;
        sound = record { within = within; ascending = subst (λ rs. Ascending less rs) (sym is) (ascending_inserted less laws key value (rows before) up) };
        looked_up = λ k. ap (λ rs. lookup less k rs) is ∙ looked_up less laws key value k (rows before);
      }

module _ {K V : Type 0} (less : K → K → Bool) (laws : Order less) (limit : ℕ) (key : K) (value : V) (before after : Table K V) (at : ℕ) where
  pub stored_same : (d : Entry K V) (old : V) →
      old ≡ (get_or (memory before) at d).value →
      memory after ≡ set (memory before) at (record { key = (get_or (memory before) at d).key; value = value }) →
      after.len ≡ before.len → at < length (rows before) → Found less key (rows before) at → Sound less before →
      Stored less limit key value before after (Some old)
  stored_same d old had is len_is l f s =
      stored less laws limit key value before after _ was
      (λ none_is. let found : Some old ≡ None = was ∙ none_is in cc) rows_are
      (subst (λ n. n ≤ length (memory after)) (sym len_is) (subst (λ n. before.len ≤ n) (sym (ap length is ∙ length-set (memory before) at _)) s.within))
      s.ascending
    where
      below_len : at < before.len
      below_len = (row_in_memory before.len at (memory before) l).1

      same_row : (x : Entry K V) → get_or (rows before) at x ≡ get_or (memory before) at x
      same_row x = get_or-take before.len (memory before) at x below_len

      was : Some old ≡ lookup less key (rows before)
      was = ap Some (had ∙ ap (λ (x : Entry K V). x.value) (sym (same_row d))) ∙ sym (found_value less laws key (rows before) at d l f)

      rows_are : rows after ≡ inserted less key value (rows before)
      rows_are =
          ap (λ n. take n (memory after)) len_is
          ∙ (ap (λ xs. take before.len xs) is
          ∙ (take-set-lt before.len (memory before) at _ below_len
          ∙ (ap (λ (x : Entry K V). set (rows before) at (record { key = x.key; value = value })) (sym (same_row d))
          ∙ sym (inserted_same less key value (rows before) at d f.parted.below.before (f.parted.above.not_before at d (omega arith) l) (f.same d) l))))

  pub stored_new :
      PutIn (memory before) before.len at (record { key = key; value = value }) (memory after) →
      after.len ≡ before.len + 1 → length (memory after) ≡ length (memory before) →
      before.len < min limit (length (memory before)) → at ≤ length (rows before) → Missing less key (rows before) at → Sound less before →
      Stored less limit key value before after None
  stored_new put len_is same room le m s =
      stored less laws limit key value before after None
      (sym (missing_none less laws key (rows before) at s.ascending m)) (λ _. room)
      (ap (λ n. take n (memory after)) len_is
      ∙ (put.moved
      ∙ sym (inserted_new less key value (rows before) at m.parted.below.before (λ d l. (m.parted.above.not_before at d (omega arith) l, m.after d l)) le)))
      (omega arith) s.ascending
