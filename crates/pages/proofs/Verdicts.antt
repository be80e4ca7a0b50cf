-- Every list of nodes has one verdict, and it is the judgement by pending places.
use Rattle.std.proofs.Common.{◌≡◌, ℕ, ◌+◌, List, [], ◌∷◌, ◌++◌, map, length, Result, sym, refl, ap, ◌∙◌, subst, append-nil, zero-add}
use mathlib.Core.List.{map-append}
use lib.ListN.{length-map}
use Rattle.pages.proofs.Comparing.{Parted, both_end, tree_ends, nodes_end, breaks_rule, lies_deep, Compared, parted, compared_after, split}
use Rattle.pages.proofs.Filling.{Filled, filled_none, filled_one}
use Rattle.pages.proofs.Judging.{judge_found, compared_judge}
use Rattle.pages.proofs.OneTree.{nodes_one_tree}
use Rattle.pages.specs.declared.kind.Kind.{Kind}
use Rattle.pages.specs.declared.refusal.Refusal.{Refusal}
use Rattle.pages.specs.declared.row.Flags.{Flags}
use Rattle.pages.specs.declared.shape.Place.{Place}
use Rattle.pages.specs.declared.shape.Place.TheVariants.{Child}
use Rattle.pages.specs.Pending.{judge, start}
use Rattle.pages.specs.Refusals.{answer, Checked}
use Rattle.pages.specs.Shape.{Visit, Fine, All, node_of, visits, visits_all, tour, Verdict, lawful, misshapen, deep, Judged, whole, left_over, too_early, at_fault, too_deep}
use Rattle.pages.specs.Trees.{Tree, Forest, tree, none, more, count, Node, nodes, nodes_all}

mutual
  -- a walk meets the nodes of the tree
  pub nodes_visited : (t : Tree) (p : Place) (level : ℕ) → nodes t ≡ map node_of (visits p level t)
  nodes_visited (tree l f) p level = ap {B = List Node} (λ (ns : List Node). record { label = l; children = count f } ∷ ns) (all_visited f l.kind l.flags 0 (level + 1))

  all_visited : (f : Forest) (k : Kind) (fl : Flags) (i level : ℕ) → nodes_all f ≡ map node_of (visits_all k fl i level f)
  all_visited none k fl i level = refl
  all_visited (more t f) k fl i level =
      let h = nodes_visited t (Child k fl i) level in
      let g = all_visited f k fl (i + 1) level in
      let m = map-append node_of (visits (Child k fl i) level t) (visits_all k fl (i + 1) level f) in
      cc

pub nodes_toured : (t : Tree) → nodes t ≡ map node_of (tour t)
nodes_toured t = nodes_visited t _ 1

pub tour_filled : (t : Tree) → Filled start (tour t)
tour_filled t = filled_one t [] filled_none (sym (append-nil (tour t)))

filled_nowhere : {vs : List Visit} → Filled [] vs → vs ≡ []
filled_nowhere filled_none = refl

pub filled_tour : {vs : List Visit} → Filled start vs → (t : Tree) × (tour t ≡ vs)
filled_tour (filled_one t us d h) = (t, sym (h ∙ ap (λ (x : List Visit). tour t ++ x) (filled_nowhere d) ∙ append-nil (tour t)))

judged_along : (ns : List Node) (t : Tree) (front later : List Visit) (rest : List Node) (w : Verdict)
    → tour t ≡ front ++ later → All Fine front → ns ≡ map node_of front ++ rest → Parted later rest (length front) w → w ≡ judge start 0 ns
judged_along ns t front later rest w e f h p =
    let c : Compared (front ++ later) (map node_of front ++ rest) 0 w =
    compared_after front 0 f (parted (subst (λ (k : ℕ). Parted later rest k w) (sym (zero-add (length front))) p)) in
    compared_judge c start (subst (λ (vs : List Visit). Filled start vs) e (tour_filled t)) ∙ ap (judge start 0) (sym h)

-- nodes along a whole tree
toured : (ns : List Node) (t : Tree) (rest : List Node) → ns ≡ nodes t ++ rest → ns ≡ map node_of (tour t) ++ rest
toured ns t rest h = h ∙ ap (λ (x : List Node). x ++ rest) (nodes_toured t)

length_toured : (t : Tree) → length (nodes t) ≡ length (tour t)
length_toured t = ap length (nodes_toured t) ∙ length-map (tour t) node_of

-- no other verdict can be reached
pub judged_judge : {ns : List Node} {w : Verdict} → Judged ns w → w ≡ judge start 0 ns
judged_judge {ns} (whole t f h) =
    judged_along ns t (tour t) [] [] lawful (sym (append-nil (tour t))) f (toured ns t [] (h ∙ sym (append-nil (nodes t)))) both_end
judged_judge {ns} (left_over t n rest f h) =
    judged_along ns t (tour t) [] (n ∷ rest) (misshapen (length (nodes t))) (sym (append-nil (tour t))) f (toured ns t (n ∷ rest) h)
    (subst (λ (k : ℕ). Parted [] (n ∷ rest) (length (tour t)) (misshapen k)) (sym (length_toured t)) tree_ends)
judged_judge {ns} (too_early t front v later e f h) =
    judged_along ns t front (v ∷ later) [] (misshapen (length front)) e f (h ∙ sym (append-nil (map node_of front))) nodes_end
judged_judge {ns} (at_fault t front v later rest e f g h) =
    judged_along ns t front (v ∷ later) (v.node ∷ rest) (misshapen (length front)) e f h (breaks_rule refl g)
judged_judge {ns} (too_deep t front v later rest e f g d h) =
    judged_along ns t front (v ∷ later) (v.node ∷ rest) (deep (length front)) e f h (lies_deep refl g d)

pub judged_once : {ns : List Node} {v w : Verdict} → Judged ns v → Judged ns w → v ≡ w
judged_once p q = judged_judge p ∙ sym (judged_judge q)

lawful_at : (ns : List Node) (t : Tree) (front : List Visit)
    → tour t ≡ front ++ [] → All Fine front → ns ≡ map node_of front ++ [] → Judged ns lawful
lawful_at ns t front e f h =
    let k : front ≡ tour t = sym (e ∙ append-nil front) in
    whole t (subst (λ (x : List Visit). All Fine x) k f) (h ∙ append-nil (map node_of front) ∙ ap (map node_of) k ∙ sym (nodes_toured t))

left_over_at : (ns : List Node) (t : Tree) (front : List Visit) (n : Node) (rest : List Node)
    → tour t ≡ front ++ [] → All Fine front → ns ≡ map node_of front ++ n ∷ rest → Judged ns (misshapen (length front))
left_over_at ns t front n rest e f h =
    let k : front ≡ tour t = sym (e ∙ append-nil front) in
    subst (λ (x : ℕ). Judged ns (misshapen x)) (length_toured t ∙ ap length (sym k))
    (left_over t n rest (subst (λ (x : List Visit). All Fine x) k f)
    (h ∙ ap (λ (x : List Node). x ++ n ∷ rest) (ap (map node_of) k ∙ sym (nodes_toured t))))

parted_judged : {later : List Visit} {rest : List Node} {i : ℕ} {w : Verdict} → Parted later rest i w
    → (ns : List Node) (t : Tree) (front : List Visit)
    → i ≡ length front → tour t ≡ front ++ later → All Fine front → ns ≡ map node_of front ++ rest → Judged ns w
parted_judged both_end ns t front k e f h = lawful_at ns t front e f h
parted_judged (tree_ends {n = n} {ns = rest}) ns t front k e f h =
    subst (λ (x : ℕ). Judged ns (misshapen x)) (sym k) (left_over_at ns t front n rest e f h)
parted_judged (nodes_end {v = v} {vs = later}) ns t front k e f h =
    subst (λ (x : ℕ). Judged ns (misshapen x)) (sym k) (too_early t front v later e f (h ∙ append-nil (map node_of front)))
parted_judged (breaks_rule {v = v} {vs = later} {n = n} {ns = rest} m g) ns t front k e f h =
    subst (λ (x : ℕ). Judged ns (misshapen x)) (sym k)
    (at_fault t front v later rest e f g (h ∙ ap (λ (x : Node). map node_of front ++ x ∷ rest) (sym m)))
parted_judged (lies_deep {v = v} {vs = later} {n = n} {ns = rest} m g d) ns t front k e f h =
    subst (λ (x : ℕ). Judged ns (deep x)) (sym k)
    (too_deep t front v later rest e f g d (h ∙ ap (λ (x : Node). map node_of front ++ x ∷ rest) (sym m)))

compared_judged : {vs : List Visit} {ns : List Node} {w : Verdict} → Compared vs ns 0 w → (t : Tree) → tour t ≡ vs → Judged ns w
compared_judged {ns = ns} c t e = let q = split c in
    parted_judged q.ending ns t q.front (zero-add (length q.front)) (e ∙ q.visits_are) q.fine q.nodes_are

-- a verdict there always is
pub judge_judged : (ns : List Node) → Judged ns (judge start 0 ns)
judge_judged ns = let q = judge_found ns start 0 in
    let t = filled_tour q.filled in
    compared_judged q.compared t.0 t.1

-- who answers by the judgement has checked the nodes
pub checked_by_judge : (ns : List Node) (r : Result (Unit {0}) Refusal) → answer (judge start 0 ns) ≡ r → Checked ns r
checked_by_judge ns r h =
    record {
      verdict = judge start 0 ns;
      judged = judge_judged ns;
      answered = sym h;
      only = λ v p. judged_judge p;
      one_tree = λ t u a b. nodes_one_tree t u (sym a ∙ b);
    }
