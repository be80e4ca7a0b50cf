-- What tables hold that are filled from nothing.
use Rattle.std.proofs.Common.{◌≡◌, ℕ, zero, suc, ◌+◌, ◌-◌, ◌<◌, ◌≤◌, min, Bool, true, false, cond, eqb, leb, List, [], ◌∷◌, ◌++◌, map, length, get_or, replicate, Some, None, Option, sym, refl, ap, ◌∙◌, subst, inl, inr, append_assoc, add-one, arith}
use Rattle.std.specs.Str.{bytes_eq}
use Rattle.std.proofs.lemmas.Slice.Eq.{bytes_eq-Decides}
use Rattle.std.proofs.lemmas.List.{append-nil, length-map, map-append, take_at}
use Rattle.std.proofs.lemmas.Bool.{false_from_ne_true as false_since, and_parts, both_ways, cases_Bool, cond_both, cond-false, cond-true, false≢true, le-ltb, leb-true, ne_eqb, not-true, true≢false}
use Rattle.std.proofs.lemmas.Bool.Decides.{same_from_decides, nat_tests}
use Rattle.names.specs.declared.name.Name.{Name}
use Rattle.names.specs.Names.{before, bytes_of, long, name_of}
use Rattle.names.specs.Order.{less}
use Rattle.names.specs.Laws.{less_irreflexive, less_total}
use Rattle.table.specs.declared.table.Entry.{Entry}
use Rattle.table.specs.Calls.{grown}
use Rattle.table.specs.Maps.{Ascending, equivalent, inserted, lookup}
use Rattle.table.proofs.Mapping.{after_apart, ascending_head, ascending_inserted, ascending_none, ascending_tail, before_apart, equivalent_from, looked_up, lookup_none, not_both}
use Rattle.table.proofs.Places.{Order}
use Rattle.tally.specs.Sums.{summed}
use Rattle.gather.specs.Counting.{Clean, HoldsCounts, HoldsTexts, counted_times, different, kept, sum_of, times}
use Rattle.options.specs.Giving.{found}
use Rattle.gather.specs.Faults.{AllRight}
use Rattle.tally.specs.Counts.{count_sum, there_of}
use Rattle.gather.specs.Filling.{tallied, unit_sum}
use Rattle.tally.proofs.Together.{length_inserted as inserted_length}
use Rattle.gather.proofs.Naming.{names_order}
use Rattle.gather.proofs.Tallying.{tallied_append}

-- every name has at most 255 bytes
abbrev pub AllShort : List (List ℕ) → Type 0
AllShort [] = Unit {0}
AllShort (n ∷ ns) = (long n ≡ false) × AllShort ns

-- the texts that can be names are short
pub kept_short : (ts : List (List ℕ)) → AllShort (kept ts)
kept_short [] = tt
kept_short (t ∷ ts) =
    cond_both (leb (length t) 255) _ _ AllShort
    (λ e. (le-ltb 255 (length t) (leb-true (length t) 255 e), kept_short ts))
    (λ e. kept_short ts)

-- right names are short
pub right_short : (ns : List (List ℕ)) → AllRight ns → AllShort ns
right_short [] r = tt
right_short (n ∷ ns) r = (r.0.not_long, right_short ns r.1)

-- the record of a name has its bytes
pub bytes_back : (n : List ℕ) → bytes_of (name_of n) ≡ n
bytes_back n = take_at n (replicate (255 - length n) 0) (length n) refl

-- of two lists none is before the other where they are the same
same_since : (a b : List ℕ) → equivalent less a b ≡ bytes_eq a b
same_since a b = elim (cases_Bool (bytes_eq a b)) [
  | inl t ↦ subst (λ x. equivalent less a x ≡ bytes_eq a b) ((bytes_eq-Decides a b).0 t) (equivalent_from less a a (less_irreflexive a) (less_irreflexive a) ∙ sym t)
  | inr f ↦ false_since _ (λ e. both_ways _ f ((bytes_eq-Decides a b).1 (less_total a b (not-true _ (and_parts _ _ e).0) (not-true _ (and_parts _ _ e).1)))) ∙ sym f
]

-- two names are equivalent where their bytes are the same
pub equivalent_names : (a b : List ℕ) → equivalent before (name_of a) (name_of b) ≡ bytes_eq a b
equivalent_names a b =
    ap (λ x. equivalent less x (bytes_of (name_of b))) (bytes_back a) ∙ (ap (λ x. equivalent less a x) (bytes_back b) ∙ same_since a b)

-- what a key has after so many times
abbrev pub repeated : {V : Type 0} → (V → V → V) → V → Option V → ℕ → Option V
repeated sum value o zero = o
repeated sum value o (suc m) = repeated sum value (Some (summed sum o value)) m

module _ {V : Type 0} (sum : V → V → V) (value : V) where
  -- one more time
  one_more : (b c : Bool) (o p : Option V) (m : ℕ) → b ≡ c → (c ≡ true → p ≡ o) → repeated sum value (cond b (Some (summed sum p value)) o) m ≡ repeated sum value o (cond c (m + 1) m)
  one_more b true o p m e same = rw (e, same refl, add-one)
  one_more b false o p m e same = rw e

  -- a name has what it had, and one more for each time that it stands in the list
  pub tallied_has : (k : List ℕ) (ns : List (List ℕ)) (rs : List (Entry Name V)) → lookup before (name_of k) (tallied sum value (map name_of ns) rs) ≡ repeated sum value (lookup before (name_of k) rs) (times k ns)
  tallied_has k [] rs = refl
  tallied_has k (n ∷ ns) rs =
      tallied_has k ns (inserted before (name_of n) (summed sum (lookup before (name_of n) rs) value) rs)
      ∙ (ap (λ o. repeated sum value o (times k ns)) (looked_up before names_order (name_of n) (summed sum (lookup before (name_of n) rs) value) (name_of k) rs)
      ∙ one_more (equivalent before (name_of k) (name_of n)) (bytes_eq k n) (lookup before (name_of k) rs) (lookup before (name_of n) rs) (times k ns) (equivalent_names k n)
      (λ t. ap (λ x. lookup before (name_of x) rs) (sym ((bytes_eq-Decides k n).0 t))))

  -- rows stay in order
  pub tallied_ascending : (ns : List Name) (rs : List (Entry Name V)) → Ascending before rs → Ascending before (tallied sum value ns rs)
  tallied_ascending [] rs up = up
  tallied_ascending (n ∷ ns) rs up =
      tallied_ascending ns _ (ascending_inserted before names_order n (summed sum (lookup before n rs) value) rs up)

-- the rows' keys are name records as we make them, of short names; said row by row
abbrev pub AllClean : {V : Type 0} → List (Entry Name V) → Type 0
AllClean [] = Unit {0}
AllClean (e ∷ es) = ((e.key ≡ name_of (bytes_of e.key)) × (long (bytes_of e.key) ≡ false)) × AllClean es

module _ {V : Type 0} where
  -- row by row, so at each place
  pub clean_from : (rs : List (Entry Name V)) → AllClean rs → Clean rs
  clean_from rs c = record { short = λ i d h. short_each rs c i d h; clean = λ i d h. at_each rs c i d h }
    where
      at_each : (rs : List (Entry Name V)) → AllClean rs → (i : ℕ) (d : Entry Name V) → i < length rs → (get_or rs i d).key ≡ name_of (bytes_of (get_or rs i d).key)
      at_each [] c i d h = absurd (omega arith)
      at_each (e ∷ es) c zero d h = c.0.0
      at_each (e ∷ es) c (suc i) d h = at_each es c.1 i d (omega arith)

      short_each : (rs : List (Entry Name V)) → AllClean rs → (i : ℕ) (d : Entry Name V) → i < length rs → long (bytes_of (get_or rs i d).key) ≡ false
      short_each [] c i d h = absurd (omega arith)
      short_each (e ∷ es) c zero d h = c.0.1
      short_each (e ∷ es) c (suc i) d h = short_each es c.1 i d (omega arith)

  -- an insertion of a short name keeps rows clean
  clean_inserted : (n : List ℕ) (value : V) (rs : List (Entry Name V)) → long n ≡ false → AllClean rs → AllClean (inserted before (name_of n) value rs)
  clean_inserted n value [] s c = ((ap name_of (sym (bytes_back n)), ap long (bytes_back n) ∙ s), tt)
  clean_inserted n value (e ∷ es) s c =
      cond_both (before e.key (name_of n)) _ _ AllClean
      (λ _. (c.0, clean_inserted n value es s c.1))
      (λ _. cond_both (before (name_of n) e.key) _ _ AllClean
      (λ _. ((ap name_of (sym (bytes_back n)), ap long (bytes_back n) ∙ s), c))
      (λ _. c))

  -- short names make clean rows
  pub tallied_clean : (sum : V → V → V) (value : V) (ns : List (List ℕ)) (rs : List (Entry Name V)) → AllShort ns → AllClean rs → AllClean (tallied sum value (map name_of ns) rs)
  tallied_clean sum value [] rs s c = c
  tallied_clean sum value (n ∷ ns) rs s c =
      tallied_clean sum value ns _ s.1 (clean_inserted n (summed sum (lookup before (name_of n) rs) value) rs s.0 c)

-- a long text is none of short names
pub long_is_none : (k : List ℕ) (ns : List (List ℕ)) → AllShort ns → long k ≡ true → times k ns ≡ 0
long_is_none k [] s l = refl
long_is_none k (n ∷ ns) s l =
    cond-false (bytes_eq k n) _ _ (false_since _ (λ t. both_ways _ s.0 (ap long (sym ((bytes_eq-Decides k n).0 t)) ∙ l))) ∙ long_is_none k ns s.1 l

-- a name stands in a list at most as often as the list is long
pub times_within : (k : List ℕ) (ns : List (List ℕ)) → times k ns ≤ length ns
times_within k [] = omega arith
times_within k (n ∷ ns) = cond_both (bytes_eq k n) _ _ (λ m. m ≤ suc (length ns)) (λ _. omega (arith, times_within k ns)) (λ _. omega (arith, times_within k ns))

-- what is found of a name in rows that are made of short names
found_in : {V : Type 0} (sum : V → V → V) (value : V) (ns : List (List ℕ)) → AllShort ns → (k : List ℕ) →
    found k (tallied sum value (map name_of ns) []) ≡ repeated sum value None (times k ns)
found_in {V} sum value ns s k =
    cond_both (long k) None (lookup before (name_of k) (tallied sum value (map name_of ns) [])) (λ o. o ≡ repeated sum value None (times k ns))
    (λ l. ap (λ m. repeated sum value None m) (sym (long_is_none k ns s l)))
    (λ _. tallied_has sum value k ns [])

-- counts that stay in range are numbers of times
counted_on : (a m : ℕ) → a + m ≤ 4294967295 → repeated count_sum 1 (Some a) m ≡ Some (a + m)
counted_on a zero h = ap (λ x. Some x) (let z : a ≡ a + 0 = omega arith in z)
counted_on a (suc m) h =
    let e : min (a + 1) 4294967295 ≡ a + 1 = omega arith in
    let z : a + 1 + m ≡ a + suc m = omega arith in
    ap (λ x. repeated count_sum 1 (Some x) m) e ∙ (counted_on (a + 1) m (omega arith) ∙ ap (λ x. Some x) z)

-- counts from nothing
counted_from_none : (m : ℕ) → m ≤ 4294967295 → repeated count_sum 1 None m ≡ counted_times m
counted_from_none zero h = refl
counted_from_none (suc m) h = counted_on 1 m (omega arith) ∙ ap (λ x. Some x) (let z : 1 + m ≡ suc m = omega arith in z)

-- once there, it stays there
there_on : (m : ℕ) → repeated unit_sum tt (Some tt) m ≡ Some tt
there_on zero = refl
there_on (suc m) = there_on m

-- texts from nothing
there_from_none : (m : ℕ) → repeated unit_sum tt None m ≡ there_of m
there_from_none zero = refl
there_from_none (suc m) = there_on m

-- the rows that short names are counted in hold their counts
pub held_counts : (ns : List (List ℕ)) → AllShort ns → length ns ≤ 4294967295 → HoldsCounts ns (tallied count_sum 1 (map name_of ns) [])
held_counts ns s h =
    record {
      ascending = tallied_ascending count_sum 1 (map name_of ns) [] (ascending_none before);
      clean = clean_from _ (tallied_clean count_sum 1 ns [] s tt);
      counts = λ n. found_in count_sum 1 ns s n ∙ counted_from_none (times n ns) (omega (arith, times_within n ns));
    }

-- the rows that short texts are put in hold them
pub held_texts : (ts : List (List ℕ)) → AllShort ts → HoldsTexts ts (tallied unit_sum tt (map name_of ts) [])
held_texts ts s =
    record {
      ascending = tallied_ascending unit_sum tt (map name_of ts) [] (ascending_none before);
      clean = clean_from _ (tallied_clean unit_sum tt ts [] s tt);
      texts_are = λ t. found_in unit_sum tt ts s t ∙ there_from_none (times t ts);
    }

-- no row has a key that is before the first
none_before : {K V : Type 0} (before : K → K → Bool) (laws : Order before) (k : K) (e : Entry K V) (es : List (Entry K V)) → Ascending before (e ∷ es) → before k e.key ≡ true → lookup before k (e ∷ es) ≡ None
none_before {K} {V} before laws k e es up l = lookup_none before k (e ∷ es) apart
  where
    apart : (i : ℕ) (d : Entry K V) → i < suc (length es) → equivalent before k (get_or (e ∷ es) i d).key ≡ false
    apart zero d h = before_apart before k e.key l
    apart (suc i) d h = before_apart before k _ (laws.transitive k e.key _ l ((ascending_head before e es up).first i d (omega arith)))

-- how often a name stands in a list with one more
times_last : (k : List ℕ) (ns : List (List ℕ)) (n : List ℕ) → times k (ns ++ n ∷ []) ≡ cond (bytes_eq k n) (times k ns + 1) (times k ns)
times_last k [] n = refl
times_last k (m ∷ ns) n = let ih = times_last k ns n in by_tests (bytes_eq k m) (bytes_eq k n) _ _ ih
  where
    by_tests : (b c : Bool) (x y : ℕ) → x ≡ cond c (y + 1) y → cond b (x + 1) x ≡ cond c (cond b (y + 1) y + 1) (cond b (y + 1) y)
    by_tests true true x y e = omega arith
    by_tests true false x y e = omega arith
    by_tests false true x y e = omega arith
    by_tests false false x y e = omega arith

-- the same either way round
same_back : (a b : List ℕ) → bytes_eq a b ≡ bytes_eq b a
same_back a b = same_from_decides (bytes_eq a b) (bytes_eq b a) (bytes_eq-Decides a b) (λ t. sym ((bytes_eq-Decides b a).0 t), λ e. (bytes_eq-Decides b a).1 (sym e))

-- how many are different with one more
different_last : (ns : List (List ℕ)) (n : List ℕ) → different (ns ++ n ∷ []) ≡ cond (eqb (times n ns) 0) (different ns + 1) (different ns)
different_last [] n = refl
different_last (m ∷ ns) n =
    by_tests (bytes_eq m n) (bytes_eq n m) (times m ns) (times n ns) _ (different ns) _ (same_back m n)
    (λ t. ap (λ x. times x ns) ((bytes_eq-Decides m n).0 t)) (times_last m ns n) (different_last ns n)
  where
    by_tests : (b c : Bool) (x y z d f : ℕ) → b ≡ c → (b ≡ true → x ≡ y) → z ≡ cond b (x + 1) x → f ≡ cond (eqb y 0) (d + 1) d →
        cond (eqb z 0) (f + 1) f ≡ cond (eqb (cond c (y + 1) y) 0) (cond (eqb x 0) (d + 1) d + 1) (cond (eqb x 0) (d + 1) d)
    by_tests true true x y z d f p q r s = let e : x ≡ y = q refl in grind (arith, nat_tests)
    by_tests true false x y z d f p q r s = absurd (true≢false p)
    by_tests false true x y z d f p q r s = absurd (false≢true p)
    by_tests false false x y z d f p q r s = grind (arith, nat_tests)

-- what holds of no names and of one name more holds of all
by_last : (P : List (List ℕ) → Type 0) → P [] → ((ns : List (List ℕ)) (n : List ℕ) → P ns → P (ns ++ n ∷ [])) → (ns : List (List ℕ)) → P ns
by_last P none more ns = on [] ns none
  where
    on : (done ns : List (List ℕ)) → P done → P (done ++ ns)
    on done [] p = subst P (sym (append-nil done)) p
    on done (n ∷ ns) p = subst P (append_assoc done (n ∷ []) ns) (on (done ++ n ∷ []) ns (more done n p))

module _ {V : Type 0} (sum : V → V → V) (value : V) where
  -- a key that is there makes no more rows
  grown_on : (v : V) (m x : ℕ) → grown (repeated sum value (Some v) m) x ≡ x
  grown_on v zero x = refl
  grown_on v (suc m) x = grown_on (sum v value) m x

  -- a key that stands in a list makes no more rows, and another makes one
  grown_from_none : (m x : ℕ) → grown (repeated sum value None m) x ≡ cond (eqb m 0) (x + 1) x
  grown_from_none zero x = refl
  grown_from_none (suc m) x = grown_on value m x ∙ sym (cond-false (eqb (suc m) 0) (x + 1) x (ne_eqb (suc m) 0 (λ e. omega arith)))

  -- there is one row for each of the different names
  pub tallied_length : (ns : List (List ℕ)) → length (tallied sum value (map name_of ns) []) ≡ different ns
  tallied_length = by_last (λ ns. length (tallied sum value (map name_of ns) []) ≡ different ns) refl more
    where
      more : (ns : List (List ℕ)) (n : List ℕ) → length (tallied sum value (map name_of ns) []) ≡ different ns → length (tallied sum value (map name_of (ns ++ n ∷ [])) []) ≡ different (ns ++ n ∷ [])
      more ns n e =
          ap (λ ms. length (tallied sum value ms [])) (map-append name_of ns (n ∷ []))
          ∙ (ap length (tallied_append sum value (map name_of ns) (name_of n ∷ []) [])
          ∙ (inserted_length before names_order (name_of n) (summed sum (lookup before (name_of n) (tallied sum value (map name_of ns) [])) value) (tallied sum value (map name_of ns) []) (tallied_ascending sum value (map name_of ns) [] (ascending_none before))
          ∙ (ap (λ o. grown o (length (tallied sum value (map name_of ns) []))) (tallied_has sum value n ns [])
          ∙ (grown_from_none (times n ns) (length (tallied sum value (map name_of ns) []))
          ∙ (ap (λ x. cond (eqb (times n ns) 0) (x + 1) x) e ∙ sym (different_last ns n))))))

-- the rows that names are counted in are as many as the different names
pub counts_length : (ns : List (List ℕ)) → AllShort ns → length (tallied count_sum 1 (map name_of ns) []) ≡ different ns
counts_length ns s = tallied_length count_sum 1 ns

-- the rows that texts are put in are as many as the different texts
pub texts_length : (ts : List (List ℕ)) → AllShort ts → length (tallied unit_sum tt (map name_of ts) []) ≡ different ts
texts_length ts s = tallied_length unit_sum tt ts

-- a count, none as zero
abbrev or_zero : Option ℕ → ℕ
or_zero None = 0
or_zero (Some n) = n

-- the count of a key is one of those that are summed
found_within : (k : Name) (rs : List (Entry Name ℕ)) → or_zero (lookup before k rs) ≤ sum_of rs
found_within k [] = omega arith
found_within k (e ∷ es) =
    cond_both (equivalent before k e.key) _ _ (λ o. or_zero o ≤ e.value + sum_of es) (λ _. omega arith) (λ _. omega (arith, found_within k es))

-- the sum after an insertion: the new value in place of the old
sum_inserted : (k : Name) (v : ℕ) (rs : List (Entry Name ℕ)) → Ascending before rs → sum_of (inserted before k v rs) + or_zero (lookup before k rs) ≡ sum_of rs + v
sum_inserted k v [] up = omega arith
sum_inserted k v (e ∷ es) up =
    cond_both (before e.key k) _ _ Goal
    (λ l. let a : or_zero (lookup before k (e ∷ es)) ≡ or_zero (lookup before k es) = ap or_zero (cond-false _ _ _ (after_apart before k e.key l)) in
    omega (arith, sum_inserted k v es (ascending_tail before e es up)))
    (λ p. cond_both (before k e.key) _ _ Goal
    (λ l. let a : or_zero (lookup before k (e ∷ es)) ≡ 0 = ap or_zero (none_before before names_order k e es up l) in omega arith)
    (λ q. let a : or_zero (lookup before k (e ∷ es)) ≡ e.value = ap or_zero (cond-true _ _ _ (equivalent_from before k e.key q p)) in omega arith))
  where
    Goal : List (Entry Name ℕ) → Type 0
    Goal rs = sum_of rs + or_zero (lookup before k (e ∷ es)) ≡ e.value + sum_of es + v

-- one more, within the range
summed_one : (o : Option ℕ) → or_zero o < 4294967295 → summed count_sum o 1 ≡ or_zero o + 1
summed_one None h = refl
summed_one (Some n) h = omega arith

-- each name that is counted makes the sum one more
sum_tallied : (ns : List Name) (rs : List (Entry Name ℕ)) → Ascending before rs → sum_of rs + length ns ≤ 4294967295 → sum_of (tallied count_sum 1 ns rs) ≡ sum_of rs + length ns
sum_tallied [] rs up h = omega arith
sum_tallied (n ∷ ns) rs up h =
    let a : or_zero (lookup before n rs) ≤ sum_of rs = found_within n rs in
    let b : summed count_sum (lookup before n rs) 1 ≡ or_zero (lookup before n rs) + 1 = summed_one (lookup before n rs) (omega arith) in
    let c = sum_inserted n (summed count_sum (lookup before n rs) 1) rs up in
    let d : sum_of (inserted before n (summed count_sum (lookup before n rs) 1) rs) ≡ sum_of rs + 1 = omega arith in
    let f = sum_tallied ns (inserted before n (summed count_sum (lookup before n rs) 1) rs) (ascending_inserted before names_order n (summed count_sum (lookup before n rs) 1) rs up) (omega arith) in
    f ∙ (ap (λ x. x + length ns) d ∙ (let z : sum_of rs + 1 + length ns ≡ sum_of rs + suc (length ns) = omega arith in z))

-- the counts are as many together as the names
pub counts_sum : (ns : List (List ℕ)) → AllShort ns → length ns ≤ 4294967295 → sum_of (tallied count_sum 1 (map name_of ns) []) ≡ length ns
counts_sum ns s h =
    let e : length (map name_of ns) ≡ length ns = length-map ns name_of in
    sum_tallied (map name_of ns) [] (ascending_none before) (omega arith) ∙ (let z : 0 + length (map name_of ns) ≡ length ns = omega arith in z)

module _ {V : Type 0} where
  -- at each place, so row by row
  clean_each : (rs : List (Entry Name V)) → Clean rs → AllClean rs
  clean_each [] c = tt
  clean_each (e ∷ es) c = (
    (c.clean zero e (omega arith), c.short zero e (omega arith)),
    clean_each es (record { short = λ i d h. c.short (suc i) d (omega arith); clean = λ i d h. c.clean (suc i) d (omega arith) }),
  )

  -- something is not nothing
  some_none : (v : V) (o p : Option V) → o ≡ Some v → p ≡ None → o ≡ p → ⊥
  some_none v o p a b e = let z : ◌≡◌ {A = ℕ} 0 1 = cc in omega arith

  -- the same something is of the same value
  same_some : (v w : V) (o p : Option V) → o ≡ Some v → p ≡ Some w → o ≡ p → v ≡ w
  same_some v w o p a b e = cc

  -- rows with the same key and value are the same
  same_entry : (x y : Entry Name V) → x.key ≡ y.key → x.value ≡ y.value → x ≡ y
  same_entry x y p q = λ i. record { key = p i; value = q i }

  -- the first key has the first value
  found_first : (x : Entry Name V) (xs : List (Entry Name V)) → lookup before x.key (x ∷ xs) ≡ Some x.value
  found_first x xs = cond-true _ _ _ (equivalent_from before x.key x.key (less_irreflexive (bytes_of x.key)) (less_irreflexive (bytes_of x.key)))

  -- rows have the same for every short name
  Alike : List (Entry Name V) → List (Entry Name V) → Type 0
  Alike xs ys = (k : Name) → k ≡ name_of (bytes_of k) → long (bytes_of k) ≡ false → lookup before k xs ≡ lookup before k ys

  -- the same either way round
  alike_back : (xs ys : List (Entry Name V)) → Alike xs ys → Alike ys xs
  unfolding Alike
  alike_back xs ys same k c s = sym (same k c s)

  -- no first key is before the other
  first_not_before : (x y : Entry Name V) (xs ys : List (Entry Name V)) → AllClean (x ∷ xs) → Ascending before (y ∷ ys) → Alike (x ∷ xs) (y ∷ ys) → before x.key y.key ≡ false
  unfolding Alike
  first_not_before x y xs ys c up same =
      false_since _ (λ l. some_none x.value _ _ (found_first x xs) (none_before before names_order x.key y ys up l) (same x.key c.0.0 c.0.1))

  -- what is equivalent to the first key is in no later row
  none_in_tail : (k : Name) (e : Entry Name V) (es : List (Entry Name V)) → Ascending before (e ∷ es) → equivalent before k e.key ≡ true → lookup before k es ≡ None
  none_in_tail k e es up t = lookup_none before k es (λ i d h. not_both before names_order k e.key (get_or es i d).key ((ascending_head before e es up).first i d h) t)

  -- the first rows are the same
  same_first : (x y : Entry Name V) (xs ys : List (Entry Name V)) → AllClean (x ∷ xs) → AllClean (y ∷ ys) → Ascending before (x ∷ xs) → Ascending before (y ∷ ys) → Alike (x ∷ xs) (y ∷ ys) → x ≡ y
  unfolding Alike
  same_first x y xs ys c d up vp same = same_entry x y key (same_some x.value y.value _ _ (found_first x xs) (ap (λ k. lookup before k (y ∷ ys)) key ∙ found_first y ys) (same x.key c.0.0 c.0.1))
    where
      bytes : bytes_of x.key ≡ bytes_of y.key
      bytes = less_total (bytes_of x.key) (bytes_of y.key) (first_not_before x y xs ys c vp same) (first_not_before y x ys xs d up (alike_back (x ∷ xs) (y ∷ ys) same))

      key : x.key ≡ y.key
      key = c.0.0 ∙ (ap name_of bytes ∙ sym d.0.0)

  -- the later rows have the same
  same_rest : (x : Entry Name V) (xs ys : List (Entry Name V)) → Ascending before (x ∷ xs) → Ascending before (x ∷ ys) → Alike (x ∷ xs) (x ∷ ys) → Alike xs ys
  unfolding Alike
  same_rest x xs ys up vp same k c s = elim (cases_Bool (equivalent before k x.key)) [
    | inl t ↦ none_in_tail k x xs up t ∙ sym (none_in_tail k x ys vp t)
    | inr f ↦ sym (cond-false _ _ _ f) ∙ (same k c s ∙ cond-false _ _ _ f)
  ]

  -- rows that have the same are the same
  same_rows : (xs ys : List (Entry Name V)) → AllClean xs → AllClean ys → Ascending before xs → Ascending before ys → Alike xs ys → xs ≡ ys
  unfolding Alike
  same_rows [] [] c d up vp same = refl
  same_rows [] (y ∷ ys) c d up vp same = absurd (some_none y.value _ None (found_first y ys) refl (sym (same y.key d.0.0 d.0.1)))
  same_rows (x ∷ xs) [] c d up vp same = absurd (some_none x.value _ None (found_first x xs) refl (same x.key c.0.0 c.0.1))
  same_rows (x ∷ xs) (y ∷ ys) c d up vp same =
      let e : x ≡ y = same_first x y xs ys c d up vp same in
      let wp : Ascending before (x ∷ ys) = subst (λ z. Ascending before (z ∷ ys)) (sym e) vp in
      let alike : Alike (x ∷ xs) (x ∷ ys) = subst (λ z. Alike (x ∷ xs) (z ∷ ys)) (sym e) same in
      let rest : xs ≡ ys = same_rows xs ys c.1 d.1 (ascending_tail before x xs up) (ascending_tail before y ys vp) (same_rest x xs ys up wp alike) in
      ap (λ z. z ∷ xs) e ∙ ap (λ zs. y ∷ zs) rest

  -- what is found of a short name is what the rows have for it
  alike_found : (xs ys : List (Entry Name V)) → ((n : List ℕ) → found n xs ≡ found n ys) → Alike xs ys
  unfolding Alike
  alike_found xs ys same k c s = at_record xs ∙ (same (bytes_of k) ∙ sym (at_record ys))
    where
      at_record : (rs : List (Entry Name V)) → lookup before k rs ≡ found (bytes_of k) rs
      at_record rs = ap (λ x. lookup before x rs) c ∙ sym (cond-false (long (bytes_of k)) None (lookup before (name_of (bytes_of k)) rs) s)

-- rows of short names that hold the same counts are the same rows
pub counts_only : (ns : List (List ℕ)) (rs us : List (Entry Name ℕ)) → HoldsCounts ns rs → HoldsCounts ns us → rs ≡ us
counts_only ns rs us h k =
    same_rows rs us (clean_each rs h.clean) (clean_each us k.clean) h.ascending k.ascending (alike_found rs us (λ n. h.counts n ∙ sym (k.counts n)))

-- rows of short names that hold the same texts are the same rows
pub texts_only : (ts : List (List ℕ)) (rs us : List (Entry Name (Unit {0}))) → HoldsTexts ts rs → HoldsTexts ts us → rs ≡ us
texts_only ts rs us h k =
    same_rows rs us (clean_each rs h.clean) (clean_each us k.clean) h.ascending k.ascending (alike_found rs us (λ n. h.texts_are n ∙ sym (k.texts_are n)))
