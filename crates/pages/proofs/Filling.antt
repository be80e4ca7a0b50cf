-- Places filled with trees, and what one then meets, node by node.
use Rattle.std.proofs.Common.{◌≡◌, ℕ, zero, suc, ◌+◌, false, List, [], ◌∷◌, ◌++◌, sym, refl, ap, ◌∙◌, subst, ap₂, append_assoc, add-one, arith}
use Rattle.pages.specs.declared.kind.Kind.{Kind}
use Rattle.pages.specs.declared.kind.Kind.TheVariants.{Name}
use Rattle.pages.specs.declared.row.Flags.{Flags}
use Rattle.pages.specs.declared.shape.Place.{Place}
use Rattle.pages.specs.declared.shape.Place.TheVariants.{Child}
use Rattle.pages.specs.Pending.{Entry, next_place, pend, pop, push, visit}
use Rattle.pages.specs.Shape.{Visit, visits, visits_all}
use Rattle.pages.specs.Trees.{without, Label, Tree, Forest, tree, none, more, count, Node}

-- the visits that one makes when the places are filled with trees
pub data Filled : List Entry → List Visit → Type 0 where
  filled_none : Filled [] []
  filled_one : {e : Entry} {s : List Entry} {vs : List Visit} (t : Tree) (us : List Visit)
      → Filled (pop e s) us → vs ≡ visits e.place e.level t ++ us → Filled (e ∷ s) vs

-- neighbouring places filled by the trees of a forest
pub record Gathered (n : ℕ) (k : Kind) (fl : Flags) (i level : ℕ) (s : List Entry) (vs : List Visit) : Type 0 where
  pub forest : Forest
  pub others : List Visit
  pub counted : count forest ≡ n
  pub filled : Filled s others
  pub visits_are : vs ≡ visits_all k fl i level forest ++ others

pub gather : (n : ℕ) (k : Kind) (fl : Flags) (i level : ℕ) (s : List Entry) {vs : List Visit}
    → Filled (pend n (Child k fl i) level s) vs → Gathered n k fl i level s vs
gather zero k fl i level s {vs} d = record { forest = none; others = vs; counted = refl; filled = d; visits_are = refl }
gather (suc n) k fl i level s (filled_one t us d e) = let q = gather n k fl (i + 1) level s d in
    record {
      forest = more t q.forest;
      others = q.others;
      counted = let h = q.counted in omega arith;
      filled = q.filled;
      visits_are = e ∙ ap (λ (vs : List Visit). visits (Child k fl i) level t ++ vs) q.visits_are
          ∙ sym (append_assoc (visits (Child k fl i) level t) (visits_all k fl (i + 1) level q.forest) q.others);
    }

pub spread : (f : Forest) (k : Kind) (fl : Flags) (i level : ℕ) (s : List Entry) (us : List Visit)
    → Filled s us → Filled (pend (count f) (Child k fl i) level s) (visits_all k fl i level f ++ us)
spread none k fl i level s us d = d
spread (more t f) k fl i level s us d =
    rw (add-one (count f))
    (filled_one t (visits_all k fl (i + 1) level f ++ us) (spread f k fl (i + 1) level s us d)
    (append_assoc (visits (Child k fl i) level t) (visits_all k fl (i + 1) level f) us))

-- a node put before what fills its children's places and the others
pub filled_before : (e : Entry) (s : List Entry) (n : Node) {vs : List Visit}
    → Filled (push n (e.level + 1) (pop e s)) vs → Filled (e ∷ s) (visit e n ∷ vs)
filled_before e s n d = let q = gather n.children n.label.kind n.label.flags 0 (e.level + 1) (pop e s) d in
    filled_one (tree n.label q.forest) q.others q.filled
    (ap₂ {B = List Visit} (λ (k : ℕ) (us : List Visit). record { place = e.place; level = e.level; node = record { label = n.label; children = k } } ∷ us) (sym q.counted) q.visits_are)

-- the first node taken away from what fills a place and others
pub record Begun (e : Entry) (s : List Entry) (v : Visit) (vs : List Visit) : Type 0 where
  pub first : v ≡ visit e v.node
  pub others : Filled (push v.node (e.level + 1) (pop e s)) vs

begun_by : (e : Entry) (s : List Entry) (v : Visit) (vs : List Visit) (l : Label) (f : Forest) (us : List Visit)
    → Filled (pop e s) us → v ∷ vs ≡ visits e.place e.level (tree l f) ++ us → Begun e s v vs
begun_by e s v vs l f us d h =
    let n : Node = record { label = l; children = count f } in
    let hv : v ≡ visit e n = cc in
    let ht : vs ≡ visits_all l.kind l.flags 0 (e.level + 1) f ++ us = cc in
    record {
      first = subst (λ (x : Visit). x ≡ visit e x.node) (sym hv) refl;
      others = subst (λ (x : Visit). Filled (push x.node (e.level + 1) (pop e s)) vs) (sym hv)
          (subst (λ (x : List Visit). Filled (push n (e.level + 1) (pop e s)) x) (sym ht) (spread f l.kind l.flags 0 (e.level + 1) (pop e s) us d));
    }

pub filled_begins : {e : Entry} {s : List Entry} {v : Visit} {vs : List Visit} → Filled (e ∷ s) (v ∷ vs) → Begun e s v vs
filled_begins {e} {s} {v} {vs} (filled_one (tree l f) us d h) = begun_by e s v vs l f us d h

pub filled_not_empty : {e : Entry} {s : List Entry} → Filled (e ∷ s) [] → ⊥
filled_not_empty (filled_one (tree l f) us d h) = let z : ◌≡◌ {A = ℕ} 0 1 = cc in omega arith

-- some tree
leaf : Tree
leaf = tree (record { kind = Name; flags = record { optional = false; computed = false; shorthand = false }; start = 0; text = without }) none

fill_pending : (n : ℕ) (p : Place) (level : ℕ) (s : List Entry) {us : List Visit}
    → Filled s us → (vs : List Visit) × Filled (pend n p level s) vs
fill_pending zero p level s {us} d = (us, d)
fill_pending (suc n) p level s d = let q = fill_pending n (next_place p) level s d in
    (visits p level leaf ++ q.0, filled_one leaf q.0 q.1 refl)

-- any places can be filled
pub fill : (s : List Entry) → (vs : List Visit) × Filled s vs
fill [] = ([], filled_none)
fill (e ∷ s) = fill_pending (suc e.after) e.place e.level s (fill s).1

pub unfilled_empty : {v : Visit} {vs : List Visit} → Filled [] (v ∷ vs) → ⊥
unfilled_empty d = elim d [ ]
