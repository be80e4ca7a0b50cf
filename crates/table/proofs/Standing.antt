-- For callers: what a sound table's rows and look-ups are.
use Rattle.std.proofs.Common.{◌≡◌, ℕ, zero, suc, ◌<◌, Bool, true, false, List, [], ◌∷◌, length, get_or, Some, None, sym, ◌∙◌, subst, ⊎_elim, arith, length-take}
use Rattle.std.proofs.lemmas.List.{get_or_default}
use Rattle.std.proofs.lemmas.Bool.{cases_Bool, cond-true, cond-false}
use Rattle.table.specs.declared.table.Entry.{Entry}
use Rattle.table.specs.declared.table.Table.{Table}
use Rattle.table.specs.Maps.{Ascending, equivalent, lookup}
use Rattle.table.specs.Rows.{rows, Sound}
use Rattle.table.proofs.Mapping.{equivalent_from, lookup_at}
use Rattle.table.proofs.Places.{Order}

-- A sound table has as many rows as it says.
pub sound_length : {K V : Type 0} (less : K → K → Bool) (t : Table K V) → Sound less t → length (rows t) ≡ t.len
sound_length less t s = let within = s.within in simp length-take (omega arith)

-- Each row's key has the row's value.
pub lookup_row : {K V : Type 0} (less : K → K → Bool) → Order less → (all : List (Entry K V)) (i : ℕ) (d : Entry K V) →
    Ascending less all → i < length all → lookup less (get_or all i d).key all ≡ Some (get_or all i d).value
lookup_row less laws all i d up l =
    lookup_at less (get_or all i d).key all i d
    (λ j e h. subst (λ (x : Entry _ _). less (get_or all j e).key x.key ≡ true) (get_or_default all i e d l) (up.ordered j i e h l))
    (equivalent_from less _ _ (laws.irreflexive _) (laws.irreflexive _)) l

-- A row whose key is equivalent to a key.
pub record RowOf {K V : Type 0} (less : K → K → Bool) (key : K) (all : List (Entry K V)) (value : V) : Type 0 where
  pub place : ℕ
  pub within : place < length all
  pub same : (d : Entry K V) → equivalent less key (get_or all place d).key ≡ true
  pub value_is : (d : Entry K V) → (get_or all place d).value ≡ value

-- What is looked up is the value of such a row.
pub lookup_some : {K V : Type 0} (less : K → K → Bool) (key : K) (all : List (Entry K V)) (value : V) →
    lookup less key all ≡ Some value → RowOf less key all value
lookup_some less key [] value e = absurd (cc)
lookup_some less key (r ∷ rs) value e =
    ⊎_elim
    (λ t. record {
      place = zero;
      within = omega arith;
      same = λ d. t;
      value_is = λ d. let same : Some r.value ≡ Some value = sym (cond-true _ _ _ t) ∙ e in cc;
    })
    (λ f. one_on (lookup_some less key rs value (sym (cond-false _ _ _ f) ∙ e)))
    (cases_Bool (equivalent less key r.key))
  where
    one_on : RowOf less key rs value → RowOf less key (r ∷ rs) value
    one_on h = record { place = suc h.place; within = omega (arith, h.within); same = h.same; value_is = h.value_is }

first_apart : {K V : Type 0} (less : K → K → Bool) (key : K) (r : Entry K V) (rs : List (Entry K V)) →
    lookup less key (r ∷ rs) ≡ None → equivalent less key r.key ≡ false
first_apart less key r rs e = ⊎_elim (λ t. let none : Some r.value ≡ None = sym (cond-true _ _ _ t) ∙ e in cc) (λ f. f) (cases_Bool _)

-- Where nothing is found, no row's key is equivalent to the key.
pub lookup_apart : {K V : Type 0} (less : K → K → Bool) (key : K) (all : List (Entry K V)) →
    lookup less key all ≡ None → (i : ℕ) (d : Entry K V) → i < length all → equivalent less key (get_or all i d).key ≡ false
lookup_apart less key [] e i d l = absurd (omega arith)
lookup_apart less key (r ∷ rs) e zero d l = first_apart less key r rs e
lookup_apart less key (r ∷ rs) e (suc i) d l =
    lookup_apart less key rs (sym (cond-false _ _ _ (first_apart less key r rs e)) ∙ e) i d (omega arith)
