-- Keys counted one by one: for callers that count what they meet.
use Rattle.std.proofs.Common.{◌≡◌, ℕ, zero, suc, ◌+◌, ◌≤◌, min, Bool, true, false, cond, List, [], ◌∷◌, ◌++◌, length, Some, None, Option, sym, refl, ap, ◌∙◌, subst, ⊎_elim, arith}
use Rattle.std.proofs.lemmas.Bool.{cases_Bool, cond_both, cond-false, cond-true}
use Rattle.table.specs.declared.table.Entry.{Entry}
use Rattle.table.specs.declared.table.Table.{Table}
use Rattle.table.specs.Maps.{equivalent, inserted, lookup}
use Rattle.table.specs.Rows.{rows}
use Rattle.table.proofs.Mapping.{ascending_inserted, ascending_none, looked_up}
use Rattle.table.proofs.Places.{Order}
use Rattle.tally.specs.Calls.{Added}
use Rattle.tally.specs.Counts.{count_of, count_sum, occurrences, Tallied, there_of}
use Rattle.tally.specs.Sums.{Merged, summed, together}
use Rattle.tally.proofs.Together.{as_many, lookup_alike, together_some}

-- An insertion takes no row away, and brings one at most.
pub length_grows : {K V : Type 0} (less : K → K → Bool) (key : K) (value : V) (rows : List (Entry K V)) →
    (length rows ≤ length (inserted less key value rows)) × (length (inserted less key value rows) ≤ length rows + 1)
length_grows less key value [] = (omega arith, omega arith)
length_grows {K} {V} less key value (e ∷ es) =
    cond_both (less e.key key) _ _ Goal
    (λ _. let h = length_grows less key value es in (omega arith, omega arith))
    (λ _. cond_both (less key e.key) _ _ Goal (λ _. (omega arith, omega arith)) (λ _. (omega arith, omega arith)))
  where
    Goal : List (Entry K V) → Type 0
    Goal rs = (suc (length es) ≤ length rs) × (length rs ≤ suc (length es) + 1)

pub occurrences_append : {K : Type 0} (less : K → K → Bool) (k : K) (is js : List K) → occurrences less k (is ++ js) ≡ occurrences less k is + occurrences less k js
occurrences_append less k [] js = omega arith
occurrences_append less k (i ∷ is) js =
    ⊎_elim
    (λ t. cond-true _ _ _ t ∙ (step _ (occurrences less k is) (occurrences less k js) (occurrences_append less k is js) ∙ ap (λ n. n + occurrences less k js) (sym (cond-true (equivalent less k i) _ (occurrences less k is) t))))
    (λ f. cond-false _ _ _ f ∙ (occurrences_append less k is js ∙ ap (λ n. n + occurrences less k js) (sym (cond-false (equivalent less k i) (occurrences less k is + 1) _ f))))
    (cases_Bool (equivalent less k i))
  where
    step : (a b c : ℕ) → a ≡ b + c → a + 1 ≡ b + 1 + c
    step a b c e = omega arith

-- What occurrences come to adds up.
pub record Worth {V : Type 0} (sum : V → V → V) (one : V) (worth : ℕ → Option V) : Type 0 where
  pub none : worth 0 ≡ None
  pub once : worth 1 ≡ Some one
  pub adds : (m n : ℕ) → together sum (worth m) (worth n) ≡ worth (m + n)

pub count_worth : Worth count_sum 1 count_of
count_worth = record { none = refl; once = refl; adds = add_up }
  where
    add_up : (m n : ℕ) → together count_sum (count_of m) (count_of n) ≡ count_of (m + n)
    add_up zero n = let e : n ≡ zero + n = omega arith in ap count_of e
    add_up (suc m) zero = let e : suc m ≡ suc m + zero = omega arith in ap count_of e
    add_up (suc m) (suc n) =
        let e : suc (m + suc n) ≡ suc m + suc n = omega arith in
        let f : min (min (suc m) 4294967295 + min (suc n) 4294967295) 4294967295 ≡ min (suc (m + suc n)) 4294967295 = omega arith in
        ap Some f ∙ ap count_of e

pub there_worth : Worth (λ _ _. tt) tt there_of
there_worth = record { none = refl; once = refl; adds = add_up }
  where
    add_up : (m n : ℕ) → together (λ _ _. tt) (there_of m) (there_of n) ≡ there_of (m + n)
    add_up zero n = let e : n ≡ zero + n = omega arith in ap there_of e
    add_up (suc m) zero = let e : suc m ≡ suc m + zero = omega arith in ap there_of e
    add_up (suc m) (suc n) = let e : suc (m + suc n) ≡ suc m + suc n = omega arith in ap there_of e

module _ {K V : Type 0} (less : K → K → Bool) (laws : Order less) (sum : V → V → V) (one : V) (worth : ℕ → Option V) (w : Worth sum one worth) where
  pub tallied_none : Tallied less worth [] []
  tallied_none = record { ascending = ascending_none less; looked_up = λ k. sym w.none }

  -- one more key
  pub tallied_more : (keys : List K) (key : K) (rows : List (Entry K V)) → Tallied less worth keys rows →
      Tallied less worth (keys ++ key ∷ []) (inserted less key (summed sum (lookup less key rows) one) rows)
  tallied_more keys key rows t =
      record { ascending = ascending_inserted less laws key _ rows t.ascending; looked_up = looks }
    where
      value : V
      value = summed sum (lookup less key rows) one

      looks : (k : K) → lookup less k (inserted less key value rows) ≡ worth (occurrences less k (keys ++ key ∷ []))
      looks k = looked_up less laws key value k rows ∙ ⊎_elim here elsewhere (cases_Bool (equivalent less k key))
        where
          here : equivalent less k key ≡ true → cond (equivalent less k key) (Some value) (lookup less k rows) ≡ worth (occurrences less k (keys ++ key ∷ []))
          here same =
              let single : 1 ≡ occurrences less k (key ∷ []) = sym (cond-true (equivalent less k key) 1 0 same) in
              cond-true _ _ _ same
              ∙ (ap (λ o. Some (summed sum o one)) (sym (lookup_alike less laws k key rows same) ∙ t.looked_up k)
              ∙ (sym (together_some sum (worth (occurrences less k keys)) one)
              ∙ (ap (λ o. together sum (worth (occurrences less k keys)) o) (sym w.once)
              ∙ (w.adds (occurrences less k keys) 1
              ∙ ap worth (ap (λ n. occurrences less k keys + n) single ∙ sym (occurrences_append less k keys (key ∷ [])))))))

          elsewhere : equivalent less k key ≡ false → cond (equivalent less k key) (Some value) (lookup less k rows) ≡ worth (occurrences less k (keys ++ key ∷ []))
          elsewhere apart =
              let none : occurrences less k (key ∷ []) ≡ 0 = cond-false (equivalent less k key) 1 0 apart in
              let e : occurrences less k keys ≡ occurrences less k (keys ++ key ∷ []) = let a = occurrences_append less k keys (key ∷ []) in omega arith in
              cond-false _ _ _ apart ∙ (t.looked_up k ∙ ap worth e)

  -- what `add` does
  pub tallied_added : (limit : ℕ) (keys : List K) (key : K) (before after : Table K V) → Tallied less worth keys (rows before) →
      Added less sum limit key one before after → Tallied less worth (keys ++ key ∷ []) (rows after)
  tallied_added limit keys key before after t a = subst (λ rs. Tallied less worth (keys ++ key ∷ []) rs) (sym a.now_rows) (tallied_more keys key (rows before) t)

  -- what `merge` does
  pub tallied_merged : (is js : List K) (before other rows : List (Entry K V)) → Tallied less worth is before → Tallied less worth js other →
      Merged less sum before other rows → Tallied less worth (is ++ js) rows
  tallied_merged is js before other rows s t m =
      record {
        ascending = m.ascending;
        looked_up = λ k.
            m.looked_up k
            ∙ (ap (λ o. together sum o (lookup less k other)) (s.looked_up k)
            ∙ (ap (λ o. together sum (worth (occurrences less k is)) o) (t.looked_up k)
            ∙ (w.adds (occurrences less k is) (occurrences less k js) ∙ ap worth (sym (occurrences_append less k is js)))));
      }

-- Rows that tally the same keys are equally many.
pub tallied_as_many : {K V : Type 0} (less : K → K → Bool) → Order less → (worth : ℕ → Option V) (keys : List K) (xs ys : List (Entry K V)) →
    Tallied less worth keys xs → Tallied less worth keys ys → length xs ≡ length ys
tallied_as_many less laws worth keys xs ys s t = as_many less laws xs ys s.ascending t.ascending (λ k. s.looked_up k ∙ sym (t.looked_up k))
