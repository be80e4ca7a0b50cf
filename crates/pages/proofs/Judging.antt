-- The judgement by pending places finds what can be found along some tree, and nothing else can be.
use Rattle.std.proofs.Common.{◌≡◌, ℕ, ◌+◌, true, false, List, [], ◌∷◌, sym, refl, ap, ◌∙◌, subst, inl, inr}
use Rattle.std.proofs.lemmas.Bool.{cases_Bool, cond-true, cond-false}
use Rattle.pages.proofs.Comparing.{Parted, both_end, tree_ends, nodes_end, breaks_rule, lies_deep, Compared, parted, in_order}
use Rattle.pages.proofs.Filling.{Filled, filled_none, filled_before, filled_begins, filled_not_empty, unfilled_empty, fill}
use Rattle.pages.specs.Pending.{Entry, pop, push, visit, judge}
use Rattle.pages.specs.Shape.{Visit, shapely, is_deep, Fine, Verdict, misshapen, deep}
use Rattle.pages.specs.Trees.{Node}

-- some filling of the places along which this is found
pub record Found (s : List Entry) (ns : List Node) (i : ℕ) (w : Verdict) : Type 0 where
  pub along : List Visit
  pub filled : Filled s along
  pub compared : Compared along ns i w

module _ (e : Entry) (s : List Entry) (i : ℕ) (n : Node) (ns : List Node) where
  pub judge_misshapen : shapely (visit e n) ≡ false → judge (e ∷ s) i (n ∷ ns) ≡ misshapen i
  judge_misshapen f = cond-false (shapely (visit e n)) _ _ f

  pub judge_deep : shapely (visit e n) ≡ true → is_deep (visit e n) ≡ true → judge (e ∷ s) i (n ∷ ns) ≡ deep i
  judge_deep f d = cond-true (shapely (visit e n)) _ _ f ∙ cond-true (is_deep (visit e n)) _ _ d

  pub judge_on : shapely (visit e n) ≡ true → is_deep (visit e n) ≡ false
      → judge (e ∷ s) i (n ∷ ns) ≡ judge (push n (e.level + 1) (pop e s)) (i + 1) ns
  judge_on f d = cond-true (shapely (visit e n)) _ _ f ∙ cond-false (is_deep (visit e n)) _ _ d

found_early : (e : Entry) (s : List Entry) (i : ℕ) (vs : List Visit) → Filled (e ∷ s) vs → Found (e ∷ s) [] i (misshapen i)
found_early e s i [] d = absurd (filled_not_empty d)
found_early e s i (v ∷ vs) d = record { along = v ∷ vs; filled = d; compared = parted nodes_end }

module _ (e : Entry) (s : List Entry) (i : ℕ) (n : Node) (ns : List Node) where
  -- what is found at a node, whatever stands after it
  found_here : {w : Verdict} → ((vs : List Visit) → Parted (visit e n ∷ vs) (n ∷ ns) i w) → Found (e ∷ s) (n ∷ ns) i w
  found_here p = let q = fill (push n (e.level + 1) (pop e s)) in
      record { along = visit e n ∷ q.0; filled = filled_before e s n q.1; compared = parted (p q.0) }

  found_on : {w : Verdict} → Fine (visit e n) → Found (push n (e.level + 1) (pop e s)) ns (i + 1) w → Found (e ∷ s) (n ∷ ns) i w
  found_on f q =
      record { along = visit e n ∷ q.along; filled = filled_before e s n q.filled; compared = in_order refl f q.compared }

  found_more : Found (push n (e.level + 1) (pop e s)) ns (i + 1) (judge (push n (e.level + 1) (pop e s)) (i + 1) ns)
      → Found (e ∷ s) (n ∷ ns) i (judge (e ∷ s) i (n ∷ ns))
  found_more q =
      elim (cases_Bool (shapely (visit e n))) [
        | inr f ↦ subst (λ (w : Verdict). Found (e ∷ s) (n ∷ ns) i w) (sym (judge_misshapen e s i n ns f)) (found_here (λ vs. breaks_rule refl f))
        | inl f ↦ elim (cases_Bool (is_deep (visit e n))) [
          | inl d ↦ subst (λ (w : Verdict). Found (e ∷ s) (n ∷ ns) i w) (sym (judge_deep e s i n ns f d)) (found_here (λ vs. lies_deep refl f d))
          | inr d ↦ subst (λ (w : Verdict). Found (e ∷ s) (n ∷ ns) i w) (sym (judge_on e s i n ns f d)) (found_on (f, d) q)
        ]
      ]

pub judge_found : (ns : List Node) (s : List Entry) (i : ℕ) → Found s ns i (judge s i ns)
judge_found [] [] i = record { along = []; filled = filled_none; compared = parted both_end }
judge_found [] (e ∷ s) i = found_early e s i (fill (e ∷ s)).0 (fill (e ∷ s)).1
judge_found (n ∷ ns) [] i = record { along = []; filled = filled_none; compared = parted tree_ends }
judge_found (n ∷ ns) (e ∷ s) i = found_more e s i n ns (judge_found ns (push n (e.level + 1) (pop e s)) (i + 1))

-- the visit of a node that stands first where a place is filled
first_is : {e : Entry} {s : List Entry} {v : Visit} {vs : List Visit} {n : Node} → v.node ≡ n → Filled (e ∷ s) (v ∷ vs) → v ≡ visit e n
first_is {e} h d = (filled_begins d).first ∙ ap (visit e) h

others_filled : {e : Entry} {s : List Entry} {v : Visit} {vs : List Visit} {n : Node}
    → v.node ≡ n → Filled (e ∷ s) (v ∷ vs) → Filled (push n (e.level + 1) (pop e s)) vs
others_filled {e} {s} {v} {vs} h d =
    subst (λ (x : Node). Filled (push x (e.level + 1) (pop e s)) vs) h (filled_begins d).others

parted_judge : {vs : List Visit} {ns : List Node} {i : ℕ} {w : Verdict} → Parted vs ns i w → (s : List Entry) → Filled s vs → w ≡ judge s i ns
parted_judge both_end [] d = refl
parted_judge both_end (e ∷ s) d = absurd (filled_not_empty d)
parted_judge tree_ends [] d = refl
parted_judge tree_ends (e ∷ s) d = absurd (filled_not_empty d)
parted_judge nodes_end [] d = absurd (unfilled_empty d)
parted_judge nodes_end (e ∷ s) d = refl
parted_judge (breaks_rule h f) [] d = absurd (unfilled_empty d)
parted_judge (breaks_rule {n = n} {ns = ns} {i = i} h f) (e ∷ s) d =
    sym (judge_misshapen e s i n ns (subst (λ (x : Visit). shapely x ≡ false) (first_is h d) f))
parted_judge (lies_deep h f g) [] d = absurd (unfilled_empty d)
parted_judge (lies_deep {n = n} {ns = ns} {i = i} h f g) (e ∷ s) d =
    sym (judge_deep e s i n ns (subst (λ (x : Visit). shapely x ≡ true) (first_is h d) f) (subst (λ (x : Visit). is_deep x ≡ true) (first_is h d) g))

-- along any filling nothing else is found
pub compared_judge : {vs : List Visit} {ns : List Node} {i : ℕ} {w : Verdict} → Compared vs ns i w → (s : List Entry) → Filled s vs → w ≡ judge s i ns
compared_judge (parted p) s d = parted_judge p s d
compared_judge (in_order h f c) [] d = absurd (unfilled_empty d)
compared_judge (in_order {n = n} {ns = ns} {i = i} h f c) (e ∷ s) d =
    compared_judge c (push n (e.level + 1) (pop e s)) (others_filled h d)
    ∙ sym (judge_on e s i n ns (subst (λ (x : Visit). shapely x ≡ true) (first_is h d) f.0) (subst (λ (x : Visit). is_deep x ≡ false) (first_is h d) f.1))
