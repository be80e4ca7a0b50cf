-- Places: whether they ascend, and whether a start is among them.
use Rattle.std.proofs.Common.{◌≡◌, ℕ, ◌+◌, Bool, true, false, ltb, eqb, ◌||◌, List, ◌∷◌, sym, refl, ◌∙◌, arith, Decides}
use Rattle.std.specs.List.{IsAllAdjacentAnswer}
use Rattle.std.specs.List.Sorted.{IsNonDecreasingBy}
use Rattle.std.proofs.lemmas.List.Sorted.{IsNonDecreasingBy-from_all_adjacent}
use Rattle.std.proofs.lemmas.Bool.Decides.{nat_tests}
use Rattle.std.proofs.lemmas.Bool.{false≢true, lt-ltb, ltb-true}
use Rattle.table.specs.declared.table.Entry.{Entry}
use Rattle.table.specs.Maps.{Ascending}
use Rattle.positions.specs.Roles.{is_place}

abbrev pub Places : Type 0
Places = List (Entry ℕ (Unit {0}))

-- the answer whether neighbours ascend is whether all do
pub all_ascend : (places : Places) (r : Bool) → IsAllAdjacentAnswer (λ x y b. b ≡ ltb x.key y.key) places r → Decides r (Ascending ltb places)
all_ascend places true n =
    let up : IsNonDecreasingBy (λ (e : Entry ℕ (Unit {0})). e.key) places = IsNonDecreasingBy-from_all_adjacent (λ (e : Entry ℕ (Unit {0})). e.key) places (λ k d h. omega (arith, ltb-true _ _ (sym (n k d h)))) in
    ((λ e. record { ordered = λ i j d lt within. lt-ltb _ _ (omega (arith, ltb-true _ _ (sym (n i d (omega arith))), up (i + 1) j d (omega arith) within)) }), λ a. refl)
all_ascend places false n = ((λ e. absurd (false≢true e)), λ a. absurd (false≢true (n.2 no_place ∙ a.ordered n.0 (n.0 + 1) no_place (omega arith) n.1)))
  where
    no_place : Entry ℕ (Unit {0})
    no_place = record { key = 0; value = tt }

-- a start is the first of the places or among the others
pub place_first : (start : ℕ) (place : Entry ℕ (Unit {0})) (others : Places) → is_place (place ∷ others) start ≡ (eqb place.key start || is_place others start)
place_first start place others = grind (arith, nat_tests)
