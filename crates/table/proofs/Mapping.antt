-- Rows in ascending order as a map: where a key is found, what an insertion gives, and that it keeps the order.
use Rattle.std.proofs.Common.{◌≡◌, ℕ, zero, suc, ◌<◌, ◌≤◌, Bool, true, false, cond, List, [], ◌∷◌, ◌++◌, length, get_or, take, drop, set, Some, None, refl, ap, ◌∙◌, ⊎_elim, arith}
use Rattle.std.specs.Cmp.{both_ways as same_tests}
use Rattle.std.proofs.lemmas.Bool.{false_from_ne_true, cases_Bool, both_ways, cond_both, cond-true, cond-false, and_parts, and_from, and_left, and_right, not-true, not_from_true, not_from_false}
use Rattle.table.specs.declared.table.Entry.{Entry}
use Rattle.table.specs.Maps.{Ascending, equivalent, lookup, inserted}
use Rattle.table.proofs.Places.{Order}

module _ {K : Type 0} (less : K → K → Bool) where
  pub equivalent_from : (a b : K) → less a b ≡ false → less b a ≡ false → equivalent less a b ≡ true
  equivalent_from a b p q = and_from _ _ (not_from_false _ p) (not_from_false _ q)

  pub before_apart : (a b : K) → less a b ≡ true → equivalent less a b ≡ false
  before_apart a b p = and_left _ _ (not_from_true _ p)

  pub after_apart : (a b : K) → less b a ≡ true → equivalent less a b ≡ false
  after_apart a b p = and_right _ _ (not_from_true _ p)

module _ {K : Type 0} (less : K → K → Bool) (laws : Order less) where
  -- a key is equivalent to at most one of two keys in order
  pub not_both : (k a b : K) → less a b ≡ true → equivalent less k a ≡ true → equivalent less k b ≡ false
  not_both k a b l e =
      false_from_ne_true _ (λ f.
      both_ways _ (not-true _ (and_parts _ _ e).1) (laws.comparable a k b l (not-true _ (and_parts _ _ f).0)))

  -- equivalent keys stand alike to every key
  pub alike_below : (a b k : K) → less a b ≡ false → less b a ≡ false → less k a ≡ less k b
  alike_below a b k p q = same_tests _ _ (λ e. laws.comparable k b a e q) (λ e. laws.comparable k a b e p)

  alike_above_once : (a b k : K) → less a b ≡ false → less a k ≡ true → less b k ≡ true
  alike_above_once a b k p e = ⊎_elim (λ t. t) (λ f. absurd (both_ways _ p (laws.comparable a b k e f))) (cases_Bool (less b k))

  pub alike_above : (a b k : K) → less a b ≡ false → less b a ≡ false → less a k ≡ less b k
  alike_above a b k p q = same_tests _ _ (alike_above_once a b k p) (alike_above_once b a k q)

  pub equivalent_alike : (a b k : K) → less a b ≡ false → less b a ≡ false → equivalent less k a ≡ equivalent less k b
  equivalent_alike a b k p q = rw (alike_below a b k p q, alike_above a b k p q)

module _ {K V : Type 0} (less : K → K → Bool) (laws : Order less) (key : K) (value : V) where
  -- looking up after an insertion
  pub looked_up : (k : K) (rows : List (Entry K V)) → lookup less k (inserted less key value rows) ≡ cond (equivalent less k key) (Some value) (lookup less k rows)
  looked_up k [] = refl
  looked_up k (e ∷ es) =
      cond_both (less e.key key) _ _ Goal
      (λ l. ap (cond (equivalent less k e.key) (Some e.value)) (looked_up k es) ∙ swapped l)
      (λ p. cond_both (less key e.key) _ _ Goal
      (λ l. refl)
      (λ q. stands p q))
    where
      Goal : List (Entry K V) → Type 0
      Goal rs = lookup less k rs ≡ cond (equivalent less k key) (Some value) (lookup less k (e ∷ es))

      swapped : less e.key key ≡ true →
          cond (equivalent less k e.key) (Some e.value) (cond (equivalent less k key) (Some value) (lookup less k es))
          ≡ cond (equivalent less k key) (Some value) (cond (equivalent less k e.key) (Some e.value) (lookup less k es))
      swapped l =
          ⊎_elim
          (λ t. let f : equivalent less k key ≡ false = not_both less laws k e.key key l t in rw (t, f))
          (λ f. rw f)
          (cases_Bool (equivalent less k e.key))

      stands : less e.key key ≡ false → less key e.key ≡ false →
          cond (equivalent less k e.key) (Some value) (lookup less k es)
          ≡ cond (equivalent less k key) (Some value) (cond (equivalent less k e.key) (Some e.value) (lookup less k es))
      stands p q =
          rw (← equivalent_alike less laws e.key key k p q)
          (⊎_elim (λ t. rw t) (λ f. rw f) (cases_Bool (equivalent less k e.key)))

-- A key is before every row.
pub record Heads {K V : Type 0} (less : K → K → Bool) (key : K) (rows : List (Entry K V)) : Type 0 where
  pub first : (j : ℕ) (d : Entry K V) → j < length rows → less key (get_or rows j d).key ≡ true

module _ {K V : Type 0} (less : K → K → Bool) where
  pub heads_none : (key : K) → Heads {V = V} less key []
  heads_none key = record { first = λ j d h. absurd (omega arith) }

  pub heads_more : (key : K) (e : Entry K V) (es : List (Entry K V)) → less key e.key ≡ true → Heads less key es → Heads less key (e ∷ es)
  heads_more key e es l h = record { first = at_each }
    where
      at_each : (j : ℕ) (d : Entry K V) → j < suc (length es) → less key (get_or (e ∷ es) j d).key ≡ true
      at_each zero d _ = l
      at_each (suc j) d lt = h.first j d (omega arith)

  pub ascending_head : (e : Entry K V) (es : List (Entry K V)) → Ascending less (e ∷ es) → Heads less e.key es
  ascending_head e es up = record { first = λ j d h. up.ordered zero (suc j) d (omega arith) (omega arith) }

  pub ascending_tail : (e : Entry K V) (es : List (Entry K V)) → Ascending less (e ∷ es) → Ascending less es
  ascending_tail e es up = record { ordered = λ i j d l h. up.ordered (suc i) (suc j) d (omega arith) (omega arith) }

  pub ascending_none : Ascending {V = V} less []
  ascending_none = record { ordered = λ i j d l h. absurd (omega arith) }

  pub ascending_more : (e : Entry K V) (es : List (Entry K V)) → Heads less e.key es → Ascending less es → Ascending less (e ∷ es)
  ascending_more e es h up = record { ordered = at_each }
    where
      at_each : (i j : ℕ) (d : Entry K V) → i < j → j < suc (length es) → less (get_or (e ∷ es) i d).key (get_or (e ∷ es) j d).key ≡ true
      at_each i zero d l lt = absurd (omega arith)
      at_each zero (suc j) d l lt = h.first j d (omega arith)
      at_each (suc i) (suc j) d l lt = up.ordered i j d (omega arith) (omega arith)

module _ {K V : Type 0} (less : K → K → Bool) (laws : Order less) where
  pub heads_earlier : (a b : K) (rows : List (Entry K V)) → less a b ≡ true → Heads less b rows → Heads less a rows
  heads_earlier a b rows l h = record { first = λ j d lt. laws.transitive a b _ l (h.first j d lt) }

module _ {K V : Type 0} (less : K → K → Bool) (laws : Order less) (key : K) (value : V) where
  pub heads_inserted : (a : K) (rows : List (Entry K V)) → less a key ≡ true → Heads less a rows → Heads less a (inserted less key value rows)
  heads_inserted a [] l h = heads_more less a _ [] l (heads_none less a)
  heads_inserted a (e ∷ es) l h =
      cond_both (less e.key key) _ _ (λ rs. Heads less a rs)
      (λ _. heads_more less a e _ first_row (heads_inserted a es l rest))
      (λ _. cond_both (less key e.key) _ _ (λ rs. Heads less a rs)
      (λ _. heads_more less a _ _ l h)
      (λ _. heads_more less a _ es first_row rest))
    where
      first_row : less a e.key ≡ true
      first_row = h.first zero e (omega arith)

      rest : Heads less a es
      rest = record { first = λ j d lt. h.first (suc j) d (omega arith) }

  -- an insertion keeps the order
  pub ascending_inserted : (rows : List (Entry K V)) → Ascending less rows → Ascending less (inserted less key value rows)
  ascending_inserted [] up = ascending_more less _ [] (heads_none less key) (ascending_none less)
  ascending_inserted (e ∷ es) up =
      cond_both (less e.key key) _ _ (λ rs. Ascending less rs)
      (λ l. ascending_more less e _ (heads_inserted e.key es l heads) (ascending_inserted es rest))
      (λ _. cond_both (less key e.key) _ _ (λ rs. Ascending less rs)
      (λ l. ascending_more less _ (e ∷ es) (heads_more less key e es l (heads_earlier less laws key e.key es l heads)) up)
      (λ _. ascending_more less _ es heads rest))
    where
      heads : Heads less e.key es
      heads = ascending_head less e es up

      rest : Ascending less es
      rest = ascending_tail less e es up

-- What a search by place says of the rows as a map.
module _ {K V : Type 0} (less : K → K → Bool) (key : K) where
  pub lookup_none : (rows : List (Entry K V)) → ((i : ℕ) (d : Entry K V) → i < length rows → equivalent less key (get_or rows i d).key ≡ false) → lookup less key rows ≡ None
  lookup_none [] apart = refl
  lookup_none (e ∷ es) apart =
      cond-false _ _ _ (apart zero e (omega arith)) ∙ lookup_none es (λ i d h. apart (suc i) d (omega arith))

  pub lookup_at : (rows : List (Entry K V)) (p : ℕ) (d : Entry K V) →
      ((i : ℕ) (d : Entry K V) → i < p → less (get_or rows i d).key key ≡ true) →
      equivalent less key (get_or rows p d).key ≡ true → p < length rows →
      lookup less key rows ≡ Some (get_or rows p d).value
  lookup_at [] p d below same lt = absurd (omega arith)
  lookup_at (e ∷ es) zero d below same lt = cond-true _ _ _ same
  lookup_at (e ∷ es) (suc p) d below same lt =
      cond-false _ _ _ (after_apart less key e.key (below zero d (omega arith)))
      ∙ lookup_at es p d (λ i d' h. below (suc i) d' (omega arith)) same (omega arith)

module _ {K V : Type 0} (less : K → K → Bool) (key : K) (value : V) where
  -- a new row comes in at its place
  pub inserted_new : (rows : List (Entry K V)) (p : ℕ) →
      ((i : ℕ) (d : Entry K V) → i < p → less (get_or rows i d).key key ≡ true) →
      ((d : Entry K V) → p < length rows → (less (get_or rows p d).key key ≡ false) × (less key (get_or rows p d).key ≡ true)) →
      p ≤ length rows →
      inserted less key value rows ≡ take p rows ++ (record { key = key; value = value } ∷ drop p rows)
  inserted_new [] zero below there le = refl
  inserted_new [] (suc p) below there le = absurd (omega arith)
  inserted_new (e ∷ es) zero below there le =
      cond-false _ _ _ (there e (omega arith)).0 ∙ cond-true _ _ _ (there e (omega arith)).1
  inserted_new (e ∷ es) (suc p) below there le =
      cond-true _ _ _ (below zero e (omega arith))
      ∙ ap (λ rs. e ∷ rs) (inserted_new es p (λ i d h. below (suc i) d (omega arith)) (λ d h. there d (omega arith)) (omega arith))

  -- the row of an equivalent key takes the value
  pub inserted_same : (rows : List (Entry K V)) (p : ℕ) (d : Entry K V) →
      ((i : ℕ) (d : Entry K V) → i < p → less (get_or rows i d).key key ≡ true) →
      less (get_or rows p d).key key ≡ false → less key (get_or rows p d).key ≡ false →
      p < length rows →
      inserted less key value rows ≡ set rows p (record { key = (get_or rows p d).key; value = value })
  inserted_same [] p d below l m lt = absurd (omega arith)
  inserted_same (e ∷ es) zero d below l m lt = cond-false _ _ _ l ∙ cond-false _ _ _ m
  inserted_same (e ∷ es) (suc p) d below l m lt =
      cond-true _ _ _ (below zero e (omega arith))
      ∙ ap (λ rs. e ∷ rs) (inserted_same es p d (λ i d' h. below (suc i) d' (omega arith)) l m (omega arith))
