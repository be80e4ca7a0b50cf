-- Nodes, parent first and each with its number of children, are those of one tree only.
use Rattle.std.proofs.Common.{◌≡◌, List, [], ◌++◌, sym, refl, ap, ◌∙◌, ap₂, append_assoc, arith}
use Rattle.pages.specs.Trees.{Tree, Forest, tree, none, more, count, Node, nodes, nodes_all}

mutual
  same_tree : (t u : Tree) (r q : List Node) → nodes t ++ r ≡ nodes u ++ q → (t ≡ u) × (r ≡ q)
  same_tree (tree l f) (tree k g) r q h =
      let a : Node = record { label = l; children = count f } in
      let b : Node = record { label = k; children = count g } in
      let hn : a ≡ b = cc in
      let ht : nodes_all f ++ r ≡ nodes_all g ++ q = cc in
      let s = same_forest f g r q (ap (λ (n : Node). n.children) hn) ht in
      (ap₂ tree (ap (λ (n : Node). n.label) hn) s.0, s.1)

  same_forest : (f g : Forest) (r q : List Node) → count f ≡ count g → nodes_all f ++ r ≡ nodes_all g ++ q → (f ≡ g) × (r ≡ q)
  same_forest none none r q c h = (refl, h)
  same_forest none (more u g) r q c h = absurd (omega arith)
  same_forest (more t f) none r q c h = absurd (omega arith)
  same_forest (more t f) (more u g) r q c h =
      let k : nodes t ++ (nodes_all f ++ r) ≡ nodes u ++ (nodes_all g ++ q) =
      sym (append_assoc (nodes t) (nodes_all f) r) ∙ h ∙ append_assoc (nodes u) (nodes_all g) q in
      let s = same_tree t u (nodes_all f ++ r) (nodes_all g ++ q) k in
      let z = same_forest f g r q (omega arith) s.1 in
      (ap₂ more s.0 z.0, z.1)

pub nodes_one_tree : (t u : Tree) → nodes t ≡ nodes u → t ≡ u
nodes_one_tree t u h = (same_tree t u [] [] (ap (λ (ns : List Node). ns ++ []) h)).0
