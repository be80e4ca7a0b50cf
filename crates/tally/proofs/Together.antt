-- Adding the entries of one list to the rows of another, one after the other.
use Rattle.std.proofs.Common.{◌≡◌, ℕ, zero, suc, ◌+◌, ◌<◌, Bool, true, false, cond, not, ◌⊎◌, List, [], ◌∷◌, ◌++◌, length, get_or, take, is_some, Some, None, Option, sym, refl, ap, ◌∙◌, subst, inl, inr, ⊎_elim, append_assoc, add-one, arith}
use Rattle.std.proofs.lemmas.List.{append-nil, get_or_default, get_or_append_left, get_or_at, length-append, take_more}
use Rattle.std.proofs.lemmas.List.Sums.{sum_by-append}
use Rattle.std.proofs.Math.Bool.{and_comm}
use Rattle.std.proofs.lemmas.Bool.{false_from_ne_true, and_parts, both_ways, cases_Bool, cond_both, cond-false, cond-true, not-true}
use Rattle.table.specs.declared.table.Entry.{Entry}
use Rattle.table.specs.Calls.{grown}
use Rattle.table.specs.Maps.{Ascending, equivalent, inserted, lookup}
use Rattle.table.proofs.Mapping.{after_apart, ascending_head, ascending_inserted, ascending_tail, before_apart, equivalent_alike, equivalent_from, looked_up, lookup_none, not_both}
use Rattle.table.proofs.Places.{Order}
use Rattle.tally.specs.Steps.{new_keys}
use Rattle.tally.specs.Sums.{Among, Keys, Merged, summed, together}

pub self_same : {K : Type 0} (less : K → K → Bool) → Order less → (k : K) → equivalent less k k ≡ true
self_same less laws k = equivalent_from less k k (laws.irreflexive k) (laws.irreflexive k)

-- keys of more rows
module _ {K V : Type 0} (P : K → Type 0) where
  pub keys_none : Keys {V = V} P []
  keys_none = record { each = λ i d h. absurd (omega arith) }

  pub keys_more : (e : Entry K V) (es : List (Entry K V)) → P e.key → Keys P es → Keys P (e ∷ es)
  keys_more e es p ps = record { each = at_each }
    where
      at_each : (i : ℕ) (d : Entry K V) → i < suc (length es) → P (get_or (e ∷ es) i d).key
      at_each zero d h = p
      at_each (suc i) d h = ps.each i d (omega arith)

  pub keys_head : (e : Entry K V) (es : List (Entry K V)) → Keys P (e ∷ es) → P e.key
  keys_head e es ps = ps.each zero e (omega arith)

  pub keys_tail : (e : Entry K V) (es : List (Entry K V)) → Keys P (e ∷ es) → Keys P es
  keys_tail e es ps = record { each = λ i d h. ps.each (suc i) d (omega arith) }

  pub keys_inserted : (less : K → K → Bool) (key : K) (value : V) (rows : List (Entry K V)) → P key → Keys P rows → Keys P (inserted less key value rows)
  keys_inserted less key value [] p ps = keys_more _ [] p keys_none
  keys_inserted less key value (e ∷ es) p ps =
      cond_both (less e.key key) _ _ (λ rs. Keys P rs)
      (λ _. keys_more e _ (keys_head e es ps) (keys_inserted less key value es p (keys_tail e es ps)))
      (λ _. cond_both (less key e.key) _ _ (λ rs. Keys P rs)
      (λ _. keys_more _ _ p ps)
      (λ _. keys_more _ es (keys_head e es ps) (keys_tail e es ps)))

pub keys_since : {K V : Type 0} (P Q : K → Type 0) (rows : List (Entry K V)) → ((k : K) → P k → Q k) → Keys P rows → Keys Q rows
keys_since P Q rows f ps = record { each = λ i d h. f _ (ps.each i d h) }

pub among_self : {K V : Type 0} (rows : List (Entry K V)) → Keys (Among rows) rows
among_self rows = record { each = λ i d h. record { place = i; within = h; is = λ d'. ap (λ (x : Entry _ _). x.key) (get_or_default rows i d' d h) } }

pub among_front : {K V : Type 0} (es fs : List (Entry K V)) (k : K) → Among es k → Among (es ++ fs) k
among_front es fs k a =
    record {
      place = a.place;
      within = let e = length-append es fs in let h = a.within in omega arith;
      is = λ d. ap (λ (x : Entry _ _). x.key) (get_or_append_left es fs d a.place a.within) ∙ a.is d;
    }

pub among_last : {K V : Type 0} (es : List (Entry K V)) (e : Entry K V) → Among (es ++ e ∷ []) e.key
among_last es e =
    record {
      place = length es;
      within = let l = length-append es (e ∷ []) in omega arith;
      is = λ d. ap (λ (x : Entry _ _). x.key) (get_or_at es e [] d (length es) refl);
    }

-- Looking up among rows with one more at the end.
module _ {K V : Type 0} (less : K → K → Bool) (k : K) where
  pub lookup_front : (es fs : List (Entry K V)) → lookup less k es ≡ None → lookup less k (es ++ fs) ≡ lookup less k fs
  lookup_front [] fs none = refl
  lookup_front (e ∷ es) fs none =
      ⊎_elim
      (λ t. let found : Some e.value ≡ None = sym (cond-true (equivalent less k e.key) _ (lookup less k es) t) ∙ none in cc)
      (λ f. cond-false _ _ _ f ∙ lookup_front es fs (sym (cond-false (equivalent less k e.key) (Some e.value) _ f) ∙ none))
      (cases_Bool (equivalent less k e.key))

  pub lookup_apart : (es : List (Entry K V)) (e : Entry K V) → equivalent less k e.key ≡ false → lookup less k (es ++ e ∷ []) ≡ lookup less k es
  lookup_apart [] e f = cond-false _ _ _ f
  lookup_apart (x ∷ es) e f = ap (λ o. cond (equivalent less k x.key) (Some x.value) o) (lookup_apart es e f)

module _ {K V : Type 0} (less : K → K → Bool) where
  -- a front of ascending rows ascends
  pub ascending_front : (es fs : List (Entry K V)) → Ascending less (es ++ fs) → Ascending less es
  ascending_front es fs up = record { ordered = at_each }
    where
      at_each : (i j : ℕ) (d : Entry K V) → i < j → j < length es → less (get_or es i d).key (get_or es j d).key ≡ true
      at_each i j d l h =
          subst (λ (x : Entry K V). less x.key (get_or es j d).key ≡ true) (get_or_append_left es fs d i (omega arith))
          (subst (λ (x : Entry K V). less (get_or (es ++ fs) i d).key x.key ≡ true) (get_or_append_left es fs d j h)
          (up.ordered i j d l (let e = length-append es fs in omega arith)))

module _ {K V : Type 0} (less : K → K → Bool) (laws : Order less) where
  -- what is equivalent to the last key is none of the others
  pub last_is_new : (es : List (Entry K V)) (e : Entry K V) (k : K) → Ascending less (es ++ e ∷ []) → equivalent less k e.key ≡ true → lookup less k es ≡ None
  last_is_new es e k up same = lookup_none less k es apart
    where
      apart : (i : ℕ) (d : Entry K V) → i < length es → equivalent less k (get_or es i d).key ≡ false
      apart i d h = false_from_ne_true _ (λ t. both_ways _ (not_both less laws k _ e.key earlier t) same)
        where
          earlier : less (get_or es i d).key e.key ≡ true
          earlier =
              subst (λ (x : Entry K V). less x.key e.key ≡ true) (get_or_append_left es (e ∷ []) d i h)
              (subst (λ (x : Entry K V). less (get_or (es ++ e ∷ []) i d).key x.key ≡ true) (get_or_at es e [] d (length es) refl)
              (up.ordered i (length es) d h (let l = length-append es (e ∷ []) in omega arith)))

  -- equivalent keys have the same
  pub lookup_alike : (k key : K) (rows : List (Entry K V)) → equivalent less k key ≡ true → lookup less k rows ≡ lookup less key rows
  lookup_alike k key [] same = refl
  lookup_alike k key (e ∷ es) same =
      let parts = and_parts _ _ same in
      let alike : equivalent less e.key k ≡ equivalent less e.key key = equivalent_alike less laws k key e.key (not-true _ parts.0) (not-true _ parts.1) in
      let t : equivalent less k e.key ≡ equivalent less key e.key = swapped k e.key ∙ (alike ∙ swapped e.key key) in
      ap (λ b. cond b (Some e.value) (lookup less k es)) t ∙ ap (λ o. cond (equivalent less key e.key) (Some e.value) o) (lookup_alike k key es same)
    where
      swapped : (a b : K) → equivalent less a b ≡ equivalent less b a
      swapped a b = and_comm (not (less a b)) (not (less b a))

  -- a key before the first is in none of the rows
  none_before : (k : K) (e : Entry K V) (es : List (Entry K V)) → Ascending less (e ∷ es) → less k e.key ≡ true → lookup less k (e ∷ es) ≡ None
  none_before k e es up l = lookup_none less k (e ∷ es) apart
    where
      apart : (i : ℕ) (d : Entry K V) → i < suc (length es) → equivalent less k (get_or (e ∷ es) i d).key ≡ false
      apart zero d h = before_apart less k e.key l
      apart (suc i) d h = before_apart less k _ (laws.transitive k e.key _ l ((ascending_head less e es up).first i d (omega arith)))

  -- an insertion makes the rows one more where the key is new
  pub length_inserted : (key : K) (value : V) (rows : List (Entry K V)) → Ascending less rows → length (inserted less key value rows) ≡ grown (lookup less key rows) (length rows)
  length_inserted key value [] up = refl
  length_inserted key value (e ∷ es) up =
      cond_both (less e.key key) _ _ Goal
      (λ l. ap suc (length_inserted key value es (ascending_tail less e es up))
      ∙ (grown_suc (lookup less key es) (length es) ∙ ap (λ o. grown o (suc (length es))) (sym (cond-false (equivalent less key e.key) (Some e.value) (lookup less key es) (after_apart less key e.key l)))))
      (λ p. cond_both (less key e.key) _ _ Goal
      (λ l. sym (ap (λ o. grown o (suc (length es))) (none_before key e es up l) ∙ add-one (suc (length es))))
      (λ q. sym (ap (λ o. grown o (suc (length es))) (cond-true (equivalent less key e.key) (Some e.value) (lookup less key es) (equivalent_from less key e.key q p)))))
    where
      Goal : List (Entry K V) → Type 0
      Goal rs = length rs ≡ grown (lookup less key (e ∷ es)) (suc (length es))

      grown_suc : (o : Option V) (n : ℕ) → suc (grown o n) ≡ grown o (suc n)
      grown_suc None n = omega arith
      grown_suc (Some v) n = refl

-- Counting the new keys.
grown_counted : {V : Type 0} (o : Option V) (n : ℕ) → n + cond (not (is_some o)) 1 0 ≡ grown o n
grown_counted None n = refl
grown_counted (Some v) n = omega arith

module _ {K V : Type 0} (less : K → K → Bool) (rows : List (Entry K V)) where
  pub new_keys_append : (es fs : List (Entry K V)) → new_keys less rows (es ++ fs) ≡ new_keys less rows es + new_keys less rows fs
  new_keys_append = sum_by-append (λ (e : Entry K V). cond (not (is_some (lookup less e.key rows))) 1 0)

  pub new_keys_push : (es : List (Entry K V)) (e : Entry K V) → new_keys less rows (es ++ e ∷ []) ≡ grown (lookup less e.key rows) (new_keys less rows es)
  new_keys_push es e =
      let a = new_keys_append es (e ∷ []) in
      let b = grown_counted (lookup less e.key rows) (new_keys less rows es) in
      omega arith

  -- one turn of the count
  pub new_keys_more : (es : List (Entry K V)) (i : ℕ) (e : Entry K V) → e ≡ get_or es i e → i < length es →
      grown (lookup less e.key rows) (new_keys less rows (take i es)) ≡ new_keys less rows (take (i + 1) es)
  new_keys_more es i e is lt =
      sym (new_keys_push (take i es) e)
      ∙ (ap (λ x. new_keys less rows (take i es ++ x ∷ [])) is ∙ ap (new_keys less rows) (sym (take_more es i e lt)))

module _ {V : Type 0} (sum : V → V → V) where
  pub together_none : (o : Option V) → together sum o None ≡ o
  together_none None = refl
  together_none (Some v) = refl

  pub together_some : (o : Option V) (v : V) → together sum o (Some v) ≡ Some (summed sum o v)
  together_some None v = refl
  together_some (Some w) v = refl

-- Rows on the way: some of the entries are added, and the rows are counted.
pub record Midway {K V : Type 0} (less : K → K → Bool) (sum : V → V → V) (before done rows : List (Entry K V)) : Type 0 where
  pub merged : Merged less sum before done rows
  pub counted : length rows ≡ length before + new_keys less before done

module _ {K V : Type 0} (less : K → K → Bool) (laws : Order less) (sum : V → V → V) (before : List (Entry K V)) where
  pub midway_none : Ascending less before → Midway less sum before [] before
  midway_none up =
      record {
        merged = record {
          ascending = up;
          looked_up = λ k. sym (together_none sum (lookup less k before));
          keys = keys_since (Among before) _ before (λ k a. inl a) (among_self before);
        };
        counted = omega arith;
      }

  -- rows with a key that none of those which are added already has
  module _ (done rows : List (Entry K V)) (e : Entry K V) (m : Midway less sum before done rows) (up : Ascending less (done ++ e ∷ [])) where
    -- what the rows have for the new key is what was there before
    pub not_yet : (k : K) → equivalent less k e.key ≡ true → lookup less k rows ≡ lookup less k before
    not_yet k same =
        m.merged.looked_up k
        ∙ (ap (λ o. together sum (lookup less k before) o) (last_is_new less laws done e k up same) ∙ together_none sum (lookup less k before))

    pub midway_more : Midway less sum before (done ++ e ∷ []) (inserted less e.key (summed sum (lookup less e.key rows) e.value) rows)
    midway_more =
        record {
          merged = record { ascending = ascending_inserted less laws e.key value rows m.merged.ascending; looked_up = looks; keys = from_both };
          counted = length_inserted less laws e.key value rows m.merged.ascending
              ∙ (ap (λ o. grown o (length rows)) (not_yet e.key (self_same less laws e.key))
              ∙ (ap (grown (lookup less e.key before)) m.counted ∙ grows));
        }
      where
        value : V
        value = summed sum (lookup less e.key rows) e.value

        grows : grown (lookup less e.key before) (length before + new_keys less before done) ≡ length before + new_keys less before (done ++ e ∷ [])
        grows =
            let a = new_keys_push less before done e in
            let b = grown_counted (lookup less e.key before) (new_keys less before done) in
            let c = grown_counted (lookup less e.key before) (length before + new_keys less before done) in
            omega arith

        from_both : Keys (λ k. Among before k ⊎ Among (done ++ e ∷ []) k) (inserted less e.key value rows)
        from_both =
            keys_inserted _ less e.key value rows (inr (among_last done e))
            (keys_since _ _ rows (λ k. ⊎_elim (λ a. inl a) (λ a. inr (among_front done (e ∷ []) k a))) m.merged.keys)

        looks : (k : K) → lookup less k (inserted less e.key value rows) ≡ together sum (lookup less k before) (lookup less k (done ++ e ∷ []))
        looks k = looked_up less laws e.key value k rows ∙ ⊎_elim here elsewhere (cases_Bool (equivalent less k e.key))
          where
            here : equivalent less k e.key ≡ true → cond (equivalent less k e.key) (Some value) (lookup less k rows) ≡ together sum (lookup less k before) (lookup less k (done ++ e ∷ []))
            here same =
                cond-true _ _ _ same
                ∙ (ap (λ o. Some (summed sum o e.value)) (sym (lookup_alike less laws k e.key rows same) ∙ not_yet k same)
                ∙ (sym (together_some sum (lookup less k before) e.value)
                ∙ ap (λ o. together sum (lookup less k before) o)
                (sym (lookup_front less k done (e ∷ []) (last_is_new less laws done e k up same) ∙ cond-true _ _ _ same))))

            elsewhere : equivalent less k e.key ≡ false → cond (equivalent less k e.key) (Some value) (lookup less k rows) ≡ together sum (lookup less k before) (lookup less k (done ++ e ∷ []))
            elsewhere apart =
                cond-false _ _ _ apart
                ∙ (m.merged.looked_up k ∙ ap (λ o. together sum (lookup less k before) o) (sym (lookup_apart less k done e apart)))

  -- all of a list's entries added
  pub all_added : List (Entry K V) → List (Entry K V) → List (Entry K V)
  all_added rows [] = rows
  all_added rows (e ∷ es) = all_added (inserted less e.key (summed sum (lookup less e.key rows) e.value) rows) es

  pub midway_all : (done es rows : List (Entry K V)) → Midway less sum before done rows → Ascending less (done ++ es) → Midway less sum before (done ++ es) (all_added rows es)
  unfolding all_added
  midway_all done [] rows m up = subst (λ ds. Midway less sum before ds rows) (sym (append-nil done)) m
  midway_all done (e ∷ es) rows m up =
      subst (λ ds. Midway less sum before ds (all_added next es)) joined
      (midway_all (done ++ e ∷ []) es next
      (midway_more done rows e m (ascending_front less (done ++ e ∷ []) es up')) up')
    where
      next : List (Entry K V)
      next = inserted less e.key (summed sum (lookup less e.key rows) e.value) rows

      joined : (done ++ e ∷ []) ++ es ≡ done ++ e ∷ es
      joined = append_assoc done (e ∷ []) es

      up' : Ascending less ((done ++ e ∷ []) ++ es)
      up' = subst (λ ds. Ascending less ds) (sym joined) up

-- Ascending rows that have the same are equally many.
module _ {K V : Type 0} (less : K → K → Bool) (laws : Order less) where
  found_first : (e : Entry K V) (es : List (Entry K V)) → lookup less e.key (e ∷ es) ≡ Some e.value
  found_first e es = cond-true _ _ _ (self_same less laws e.key)

  none_in_tail : (k : K) (e : Entry K V) (es : List (Entry K V)) → Ascending less (e ∷ es) → equivalent less k e.key ≡ true → lookup less k es ≡ None
  none_in_tail k e es up same = lookup_none less k es (λ i d h. not_both less laws k e.key _ ((ascending_head less e es up).first i d h) same)

  some_none : (v : V) (o p : Option V) → o ≡ Some v → p ≡ None → o ≡ p → ⊥
  some_none v o p a b e = cc

  -- where no key has another value, the first keys are equivalent
  first_not_before : (x y : Entry K V) (xs ys : List (Entry K V)) → Ascending less (y ∷ ys) →
      ((k : K) → lookup less k (x ∷ xs) ≡ lookup less k (y ∷ ys)) → less x.key y.key ≡ false
  first_not_before x y xs ys up same =
      false_from_ne_true _ (λ l. some_none x.value _ _ (found_first x xs) (none_before less laws x.key y ys up l) (same x.key))

  pub as_many : (xs ys : List (Entry K V)) → Ascending less xs → Ascending less ys → ((k : K) → lookup less k xs ≡ lookup less k ys) → length xs ≡ length ys
  as_many [] [] up vp same = refl
  as_many [] (y ∷ ys) up vp same = absurd (some_none y.value _ None (found_first y ys) refl (sym (same y.key)))
  as_many (x ∷ xs) [] up vp same = absurd (some_none x.value _ None (found_first x xs) refl (same x.key))
  as_many (x ∷ xs) (y ∷ ys) up vp same = ap suc (as_many xs ys (ascending_tail less x xs up) (ascending_tail less y ys vp) rest)
    where
      alike : (k : K) → equivalent less k x.key ≡ equivalent less k y.key
      alike k = equivalent_alike less laws x.key y.key k (first_not_before x y xs ys vp same) (first_not_before y x ys xs up (λ j. sym (same j)))

      rest : (k : K) → lookup less k xs ≡ lookup less k ys
      rest k =
          ⊎_elim
          (λ t. none_in_tail k x xs up t ∙ sym (none_in_tail k y ys vp (sym (alike k) ∙ t)))
          (λ f. sym (cond-false (equivalent less k x.key) (Some x.value) (lookup less k xs) f)
          ∙ (same k ∙ cond-false (equivalent less k y.key) (Some y.value) (lookup less k ys) (sym (alike k) ∙ f)))
          (cases_Bool (equivalent less k x.key))

-- What a property of keys asks of the rows of two tables, it has of them together.
pub keys_together : {K V : Type 0} (less : K → K → Bool) (sum : V → V → V) (before other rows : List (Entry K V)) → Merged less sum before other rows →
    (P : K → Type 0) → Keys P before → Keys P other → Keys P rows
keys_together {K} {V} less sum before other rows m P ps qs = keys_since _ P rows (λ k. ⊎_elim (among_has before ps k) (among_has other qs k)) m.keys
  where
    among_has : (es : List (Entry K V)) → Keys P es → (k : K) → Among es k → P k
    among_has [] ts k a = absurd (let h = a.within in omega arith)
    among_has (e ∷ es) ts k a = subst P (a.is e) (ts.each a.place e a.within)
