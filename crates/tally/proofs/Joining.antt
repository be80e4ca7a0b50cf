-- The calls: each way out of them.
use Rattle.std.proofs.Common.{◌≡◌, ℕ, ◌+◌, ◌-◌, ◌<◌, ◌≤◌, min, Bool, true, false, leb, List, [], ◌∷◌, ◌++◌, length, get_or, take, drop, Some, None, Ok, Err, Option, Result, sym, refl, ap, ◌∙◌, subst, arith}
use Rattle.std.proofs.lemmas.List.{drop-drop, length-take-le, take_all, take-append-drop, take_more}
use Rattle.std.proofs.lemmas.Bool.{leb-false, leb-true}
use Rattle.table.specs.declared.table.Entry.{Entry}
use Rattle.table.specs.declared.table.Full.{Full}
use Rattle.table.specs.declared.table.Table.{Table}
use Rattle.table.specs.Calls.{grown, Refused}
use Rattle.table.specs.Maps.{Ascending, inserted, lookup}
use Rattle.table.specs.Rows.{memory, rows, SameMemory, Sound}
use Rattle.table.proofs.Places.{Order}
use Rattle.tally.specs.Calls.{Adds, AnyOrder, Joined, Needs, Only, Overfull}
use Rattle.tally.specs.Steps.{new_keys}
use Rattle.tally.specs.Sums.{Merged, summed, together}
use Rattle.tally.proofs.Together.{all_added, as_many, ascending_front, Midway, midway_all, midway_more, midway_none, new_keys_append, new_keys_more, not_yet, self_same}

pub same_test : (len len' more more' room room' : ℕ) (t u : Bool) → len ≡ len' → more ≡ more' → room ≡ room' → t ≡ leb (len + more) room → t ≡ u → leb (len' + more') room' ≡ u
same_test len len' more more' room room' t u p q r e f = cc

pub same_count : (len len' more more' limit : ℕ) → len ≡ len' → more ≡ more' → min (len + more) limit ≡ min (len' + more') limit
same_count len len' more more' limit p q = cc

-- The laws of `together`.
module _ {V : Type 0} (sum : V → V → V) (commutes : (a b : V) → sum a b ≡ sum b a) (associates : (a b c : V) → sum (sum a b) c ≡ sum a (sum b c)) where
  pub any_order : AnyOrder sum
  any_order = record { commutes = swaps; associates = groups }
    where
      swaps : (a b : Option V) → together sum a b ≡ together sum b a
      swaps None None = refl
      swaps None (Some b) = refl
      swaps (Some a) None = refl
      swaps (Some a) (Some b) = ap Some (commutes a b)

      groups : (a b c : Option V) → together sum (together sum a b) c ≡ together sum a (together sum b c)
      groups None b c = refl
      groups (Some a) None c = refl
      groups (Some a) (Some b) None = refl
      groups (Some a) (Some b) (Some c) = ap Some (associates a b c)

pub same_memory_after : {K V : Type 0} (a b c : Table K V) → SameMemory a b → SameMemory b c → b.len ≤ c.len → SameMemory a c
same_memory_after {K} {V} a b c f s le =
    record {
      lent = s.lent ∙ f.lent;
      room = s.room ∙ f.room;
      past = s.past ∙ (parted (memory b) ∙ (ap (drop (c.len - b.len)) f.past ∙ sym (parted (memory a))));
    }
  where
    parted : (xs : List (Entry K V)) → drop c.len xs ≡ drop (c.len - b.len) (drop b.len xs)
    parted xs = let e : c.len ≡ b.len + (c.len - b.len) = omega arith in ap (λ n. drop n xs) e ∙ sym (drop-drop (c.len - b.len) b.len xs)

module _ {K V : Type 0} (less : K → K → Bool) (laws : Order less) (sum : V → V → V) where
  -- equally many
  pub only : Only less sum
  only = record { as_many = λ before other xs ys m n. as_many less laws xs ys m.ascending n.ascending (λ k. m.looked_up k ∙ sym (n.looked_up k)) }

  -- all of one list added to another
  pub whole : (before other : List (Entry K V)) → Ascending less before → Ascending less other → Midway less sum before other (all_added less laws sum before before other)
  whole before other up vp = midway_all less laws sum before [] other before (midway_none less laws sum before up) vp

  pub needs_of : (before other : Table K V) (count : ℕ) → Sound less before → Sound less other →
      count ≡ min (length (rows before) + new_keys less (rows before) (rows other)) 18446744073709551615 → Needs less sum before other count
  needs_of before other count s t e =
      let m = whole (rows before) (rows other) s.ascending t.ascending in
      record { all = _; merged = m.merged; counted = e ∙ ap (λ n. min n 18446744073709551615) (sym m.counted) }

  pub overfull : (limit : ℕ) (before other : Table K V) → Sound less before → Sound less other →
      leb (length (rows before) + new_keys less (rows before) (rows other)) (min limit (length (memory before))) ≡ false → Overfull less sum limit before other
  overfull limit before other s t e =
      let m = whole (rows before) (rows other) s.ascending t.ascending in
      record { all = _; merged = m.merged; no_room = subst (λ n. min limit (length (memory before)) < n) (sym m.counted) (leb-false _ _ e) }

  pub joined : (limit : ℕ) (before other after : Table K V) (es : List (Entry K V)) (i : ℕ) → es ≡ rows other → length es ≤ i →
      leb (length (rows before) + new_keys less (rows before) es) (min limit (length (memory before))) ≡ true →
      Sound less after × Midway less sum (rows before) (take i es) (rows after) → Joined less sum limit before other after
  joined limit before other after es i is all fits (s, m) =
      record {
        had_room = subst (λ n. n ≤ min limit (length (memory before)))
            (sym (m.counted ∙ ap (λ xs. length (rows before) + new_keys less (rows before) xs) (take_all i es all))) (leb-true _ _ fits);
        sound = s;
        merged = subst (λ xs. Merged less sum (rows before) xs (rows after)) (take_all i es all ∙ is) m.merged;
      }

-- One turn of the merge: the row is added, for there is room.
module _ {K V : Type 0} (less : K → K → Bool) (laws : Order less) (sum : V → V → V) (limit : ℕ) (before present : Table K V) (es : List (Entry K V)) (i : ℕ) (e : Entry K V)
    (is : e ≡ get_or es i e) (lt : i < length es) (up : Ascending less es) (same : SameMemory before present) (s : Sound less present)
    (fits : leb (length (rows before) + new_keys less (rows before) es) (min limit (length (memory before))) ≡ true)
    (m : Midway less sum (rows before) (take i es) (rows present)) where
  one_more : take (i + 1) es ≡ take i es ++ e ∷ []
  one_more = take_more es i e lt ∙ ap (λ x. take i es ++ x ∷ []) (sym is)

  front : Ascending less (take i es ++ e ∷ [])
  front = subst (λ xs. Ascending less xs) one_more (ascending_front less (take (i + 1) es) (drop (i + 1) es) (subst (λ xs. Ascending less xs) (sym (take-append-drop (i + 1) es)) up))

  never_refused : Refused less limit e.key present → ⊥
  never_refused r =
      let none : lookup less e.key (rows before) ≡ None =
      sym (not_yet less laws sum (rows before) (take i es) (rows present) e m front e.key (self_same less laws e.key)) ∙ r.new_key in
      let more : new_keys less (rows before) (take i es) + 1 ≡ new_keys less (rows before) (take (i + 1) es) =
      ap (λ o. grown o (new_keys less (rows before) (take i es))) (sym none) ∙ new_keys_more less (rows before) es i e is lt in
      let parts : new_keys less (rows before) es ≡ new_keys less (rows before) (take (i + 1) es) + new_keys less (rows before) (drop (i + 1) es) =
      ap (new_keys less (rows before)) (sym (take-append-drop (i + 1) es)) ∙ new_keys_append less (rows before) (take (i + 1) es) (drop (i + 1) es) in
      let len : length (rows present) ≡ present.len = length-take-le present.len (memory present) s.within in
      let room : min limit (length (memory before)) ≤ present.len = subst (λ n. min limit n ≤ present.len) same.room r.no_room in
      short (length (rows before)) (new_keys less (rows before) (take i es)) (new_keys less (rows before) (take (i + 1) es)) (new_keys less (rows before) (drop (i + 1) es))
      (new_keys less (rows before) es) (min limit (length (memory before))) present.len (leb-true _ _ fits) more parts (sym len ∙ m.counted) room
    where
      short : (n a b d all room len : ℕ) → n + all ≤ room → a + 1 ≡ b → all ≡ b + d → len ≡ n + a → room ≤ len → ⊥
      short n a b d all room len p q r t u = omega arith

  pub merge_turn : (after : Table K V) (r : Result (Unit {0}) Full) → Adds less sum limit e.key e.value present after r →
      Sound less after × Midway less sum (rows before) (take (i + 1) es) (rows after)
  merge_turn after (Ok done) a = (
    a.sound,
    subst (λ rs. Midway less sum (rows before) (take (i + 1) es) rs) (sym a.now_rows)
        (subst (λ xs. Midway less sum (rows before) xs (inserted less e.key (summed sum (lookup less e.key (rows present)) e.value) (rows present))) (sym one_more)
        (midway_more less laws sum (rows before) (take i es) (rows present) e m front)),
  )
  merge_turn after (Err full) a = absurd (never_refused a)
