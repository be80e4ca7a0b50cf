-- Nodes held against the visits of a tree, one by one.
use Rattle.std.proofs.Common.{◌≡◌, ℕ, ◌+◌, true, false, List, [], ◌∷◌, ◌++◌, map, length, refl, ap, subst, add-zero, arith}
use Rattle.pages.specs.Shape.{Visit, shapely, is_deep, Fine, All, all_none, all_more, node_of, Verdict, lawful, misshapen, deep}
use Rattle.pages.specs.Trees.{Node}

-- what is found where the visits and the nodes part, at this number
pub data Parted : List Visit → List Node → ℕ → Verdict → Type 0 where
  both_end : {i : ℕ} → Parted [] [] i lawful
  tree_ends : {n : Node} {ns : List Node} {i : ℕ} → Parted [] (n ∷ ns) i (misshapen i)
  nodes_end : {v : Visit} {vs : List Visit} {i : ℕ} → Parted (v ∷ vs) [] i (misshapen i)
  breaks_rule : {v : Visit} {vs : List Visit} {n : Node} {ns : List Node} {i : ℕ}
      → v.node ≡ n → shapely v ≡ false → Parted (v ∷ vs) (n ∷ ns) i (misshapen i)
  lies_deep : {v : Visit} {vs : List Visit} {n : Node} {ns : List Node} {i : ℕ}
      → v.node ≡ n → shapely v ≡ true → is_deep v ≡ true → Parted (v ∷ vs) (n ∷ ns) i (deep i)

-- the same after nodes in order
pub data Compared : List Visit → List Node → ℕ → Verdict → Type 0 where
  parted : {vs : List Visit} {ns : List Node} {i : ℕ} {w : Verdict} → Parted vs ns i w → Compared vs ns i w
  in_order : {v : Visit} {vs : List Visit} {n : Node} {ns : List Node} {i : ℕ} {w : Verdict}
      → v.node ≡ n → Fine v → Compared vs ns (i + 1) w → Compared (v ∷ vs) (n ∷ ns) i w

-- visits and nodes taken apart where they part
pub record Split (vs : List Visit) (ns : List Node) (i : ℕ) (w : Verdict) : Type 0 where
  pub front : List Visit
  pub later : List Visit
  pub rest : List Node
  pub fine : All Fine front
  pub visits_are : vs ≡ front ++ later
  pub nodes_are : ns ≡ map node_of front ++ rest
  pub ending : Parted later rest (i + length front) w

pub compared_after : (front : List Visit) {later : List Visit} {rest : List Node} {w : Verdict} (i : ℕ)
    → All Fine front → Compared later rest (i + length front) w → Compared (front ++ later) (map node_of front ++ rest) i w
compared_after [] i all_none c = rw add-zero at c
compared_after (v ∷ front) {later} {rest} {w} i (all_more f fs) c =
    let e : i + length (v ∷ front) ≡ (i + 1) + length front = omega arith in
    in_order refl f (compared_after front (i + 1) fs (subst (λ (k : ℕ). Compared later rest k w) e c))

pub split : {vs : List Visit} {ns : List Node} {i : ℕ} {w : Verdict} → Compared vs ns i w → Split vs ns i w
split (parted {vs} {ns} {i} {w} p) =
    record {
      front = [];
      later = vs;
      rest = ns;
      fine = all_none;
      visits_are = refl;
      nodes_are = refl;
      ending = let e : i ≡ i + 0 = omega arith in subst (λ (k : ℕ). Parted vs ns k w) e p;
    }
split (in_order {v} {vs} {n} {ns} {i} {w} e f c) = let q = split c in
    record {
      front = v ∷ q.front;
      later = q.later;
      rest = q.rest;
      fine = all_more f q.fine;
      visits_are = ap (λ (us : List Visit). v ∷ us) q.visits_are;
      nodes_are = cc;
      ending = let k : (i + 1) + length q.front ≡ i + length (v ∷ q.front) = omega arith in subst (λ (k : ℕ). Parted q.later q.rest k w) k q.ending;
    }
