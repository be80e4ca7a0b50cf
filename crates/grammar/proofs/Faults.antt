-- The lowest misshapen node of a listed tree is its first fault; with none, the tree is lawful.
use Rattle.std.proofs.Common.{◌≡◌, ℕ, ◌+◌, ◌<◌, ◌≤◌, Bool, true, false, cond, ltb, List, [], ◌∷◌, ◌++◌, map, length, Some, None, Option, sym, refl, ap, ◌∙◌, subst, ap₂, arith}
use Rattle.std.proofs.lemmas.Bool.{le-ltb, lt-ltb, cond-true}
use Rattle.std.proofs.lemmas.List.{map-append}
use Rattle.pages.specs.declared.kind.Kind.{Kind}
use Rattle.pages.specs.declared.row.Flags.{Flags}
use Rattle.pages.specs.declared.shape.Place.{Place}
use Rattle.pages.specs.declared.shape.Place.TheVariants.{Root, Child}
use Rattle.pages.specs.Trees.{Tree, Forest, tree, none, more, count, Node, nodes, nodes_all}
use Rattle.pages.specs.Shape.{Visit, shapely, is_deep, Fine, All, all_none, all_more, visits, visits_all, tour, node_of, Lawful, Judged, at_fault, misshapen}
use Rattle.grammar.specs.Grammar.{Form, form, Children, close, child, tree_of, forest_of, height, height_children, Listing}
use Rattle.grammar.specs.Scan.{lower}
use Rattle.grammar.proofs.Lowest.{lowest}

abbrev Shapely : Visit → Type 0
Shapely v = shapely v ≡ true

abbrev NotDeep : Visit → Type 0
NotDeep v = is_deep v ≡ false

all_append : (P : Visit → Type 0) {vs ws : List Visit} → All P vs → All P ws → All P (vs ++ ws)
all_append P all_none q = q
all_append P (all_more p a) q = all_more p (all_append P a q)

all_front : (P : Visit → Type 0) (vs ws : List Visit) → All P (vs ++ ws) → All P vs
all_front P [] ws a = all_none
all_front P (v ∷ vs) ws (all_more p a) = all_more p (all_front P vs ws a)

all_fine : (vs : List Visit) → All Shapely vs → All NotDeep vs → All Fine vs
all_fine [] a b = all_none
all_fine (v ∷ vs) (all_more p a) (all_more q b) = all_more (p, q) (all_fine vs a b)

mutual
  pub nodes_of_visits : (t : Tree) (p : Place) (level : ℕ) → map node_of (visits p level t) ≡ nodes t
  nodes_of_visits (tree l f) p level =
      ap (λ (x : List Node). record { label = l; children = count f } ∷ x) (nodes_of_visits_all f l.kind l.flags 0 (level + 1))

  nodes_of_visits_all : (f : Forest) (k : Kind) (l : Flags) (i level : ℕ) → map node_of (visits_all k l i level f) ≡ nodes_all f
  nodes_of_visits_all none k l i level = refl
  nodes_of_visits_all (more t f) k l i level =
      map-append node_of (visits (Child k l i) level t) (visits_all k l (i + 1) level f)
      ∙ ap₂ (λ (x y : List Node). x ++ y) (nodes_of_visits t (Child k l i) level) (nodes_of_visits_all f k l (i + 1) level)

mutual
  form_not_deep : (x : Form) (p : Place) (level : ℕ) → level + height x ≤ 65 → All NotDeep (visits p level (tree_of x))
  form_not_deep (form h c) p level fits =
      all_more (le-ltb 64 level (omega arith)) (children_not_deep c _ _ 0 (level + 1) (omega arith))

  children_not_deep : (c : Children) (k : Kind) (l : Flags) (i level : ℕ) → level + height_children c ≤ 65 → All NotDeep (visits_all k l i level (forest_of c))
  children_not_deep (close g) k l i level fits = all_none
  children_not_deep (child g x c) k l i level fits =
      all_append NotDeep (form_not_deep x (Child k l i) level (omega arith)) (children_not_deep c k l (i + 1) level (omega arith))

-- no node of a listed tree lies too deep
pub listing_not_deep : {s : List ℕ} {t : Tree} → Listing s t → All NotDeep (tour t)
listing_not_deep y = rw (← y.tree_is) (form_not_deep y.root Root 1 (omega (arith, y.height_is)))

lower_some : (F : Option ℕ) (n : ℕ) → lower F n ≡ None → ⊥
lower_some None n e = let z : ◌≡◌ {A = ℕ} 0 1 = cc in omega arith
lower_some (Some m) n e = let z : ◌≡◌ {A = ℕ} 0 1 = cc in omega arith

lowest_none : (n : ℕ) (vs : List Visit) → lowest None n vs ≡ None → All Shapely vs
lowest_none n [] e = all_none
lowest_none n (v ∷ vs) e = go (shapely v) refl e (lowest_none (n + 1) vs)
  where
    go : (t : Bool) → shapely v ≡ t → cond t (lowest None (n + 1) vs) (lower (lowest None (n + 1) vs) n) ≡ None
        → (lowest None (n + 1) vs ≡ None → All Shapely vs) → All Shapely (v ∷ vs)
    go true s e rest = all_more s (rest e)
    go false s e rest = absurd (lower_some (lowest None (n + 1) vs) n e)

-- the first misshapen node of a walk whose nodes are numbered from `k` on
record First (k : ℕ) (vs : List Visit) (n : ℕ) : Type 0 where
  front : List Visit
  bad : Visit
  later : List Visit
  is : vs ≡ front ++ bad ∷ later
  good_front : All Shapely front
  is_bad : shapely bad ≡ false
  number : n ≡ k + length front

lower_first : (F : Option ℕ) (k n : ℕ) → lower F k ≡ Some n → ((m : ℕ) → F ≡ Some m → k < m) → n ≡ k
lower_first None k n e below = cc
lower_first (Some m) k n e below =
    let p = cond-true (ltb k m) k m (lt-ltb k m (below m refl)) in
    let q : cond (ltb k m) k m ≡ n = cc in
    cc

lowest_some : (k : ℕ) (vs : List Visit) (n : ℕ) → lowest None k vs ≡ Some n → First k vs n
lowest_some k [] n e = absurd (let z : ◌≡◌ {A = ℕ} 0 1 = cc in omega arith)
lowest_some k (v ∷ vs) n e = go (shapely v) refl e (lowest_some (k + 1) vs)
  where
    go : (t : Bool) → shapely v ≡ t → cond t (lowest None (k + 1) vs) (lower (lowest None (k + 1) vs) k) ≡ Some n
        → ((n : ℕ) → lowest None (k + 1) vs ≡ Some n → First (k + 1) vs n) → First k (v ∷ vs) n
    go true s e rest =
        let w = rest n e in
        record {
          front = v ∷ w.front;
          bad = w.bad;
          later = w.later;
          is = ap (λ (x : List Visit). v ∷ x) w.is;
          good_front = all_more s w.good_front;
          is_bad = w.is_bad;
          number = omega (arith, w.number);
        }
    go false s e rest =
        let same = lower_first (lowest None (k + 1) vs) k n e (λ m z. omega (arith, (rest m z).number)) in
        record { front = []; bad = v; later = vs; is = refl; good_front = all_none; is_bad = s; number = omega arith }

-- the lowest misshapen node is the first fault of a listed tree
pub first_fault : {s : List ℕ} {t : Tree} → Listing s t → (n : ℕ) → lowest None 0 (tour t) ≡ Some n → Judged (nodes t) (misshapen n)
first_fault {t = t} y n e =
    let w = lowest_some 0 (tour t) n e in
    let c = w.front in
    let fine : All Fine c = all_fine c w.good_front (all_front NotDeep c (w.bad ∷ w.later) (subst (All NotDeep) w.is (listing_not_deep y))) in
    let ns : nodes t ≡ map node_of c ++ w.bad.node ∷ map node_of w.later =
    sym (nodes_of_visits t Root 1) ∙ ap (map node_of) w.is ∙ map-append node_of c (w.bad ∷ w.later) in
    let j : Judged (nodes t) (misshapen (length c)) = at_fault t c w.bad w.later (map node_of w.later) w.is fine w.is_bad ns in
    let same : length c ≡ n = omega (arith, w.number) in
    subst (λ (k : ℕ). Judged (nodes t) (misshapen k)) same j

-- where none is found, every node of a listed tree keeps every rule
pub no_fault : {s : List ℕ} {t : Tree} → Listing s t → lowest None 0 (tour t) ≡ None → Lawful t
no_fault {t = t} y e = all_fine (tour t) (lowest_none 0 (tour t) e) (listing_not_deep y)
