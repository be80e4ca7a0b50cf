-- How each node of a tree is walked: plain, or as a key.
use Rattle.std.specs.Prelude.{ℕ, ◌+◌, Bool, true, false, ◌&&◌, ◌||◌, List, [], ◌∷◌, ◌++◌, ◌==◌, nat_le}
use Rattle.pages.specs.declared.kind.Kind.{Kind}
use Rattle.pages.specs.declared.kind.Kind.TheVariants.{Node, Name, Number, Key, Private, Jattr, String, Directive, Template, Paren, Cond, Seq, In, Default, Member, Jmember, Index, Slot, Prop, Bind, Full, Method, Field, Accessor, Bare}
use Rattle.pages.specs.Trees.{Label, Tree, Forest, tree, none, more, count}

-- the children that are walked as keys however their parent is walked: the second of a computed member, the first of
-- `in`, and the first of the six kinds that have keys; by the parent's kind and the child's position, from 0
abbrev pub key_child : Kind → ℕ → Bool
key_child Index i = i == 1
key_child Slot i = i == 1
key_child In i = i == 0
key_child Prop i = i == 0
key_child Bind i = i == 0
key_child Full i = i == 0
key_child Method i = i == 0
key_child Field i = i == 0
key_child Accessor i = i == 0
key_child Node i = false
key_child Name i = false
key_child Number i = false
key_child Key i = false
key_child Private i = false
key_child Jattr i = false
key_child String i = false
key_child Directive i = false
key_child Template i = false
key_child Paren i = false
key_child Cond i = false
key_child Seq i = false
key_child Default i = false
key_child Member i = false
key_child Jmember i = false
key_child Bare i = false

-- the children to which a node that is walked as a key passes that on: that of a wrapper, the two results of a
-- condition, the last of a sequence; by the kind, the child's position, and the number of children
abbrev pub passes_on : Kind → ℕ → ℕ → Bool
passes_on Paren i n = true
passes_on Cond i n = nat_le 1 i
passes_on Seq i n = i + 1 == n
passes_on Node i n = false
passes_on Name i n = false
passes_on Number i n = false
passes_on Key i n = false
passes_on Private i n = false
passes_on Jattr i n = false
passes_on String i n = false
passes_on Directive i n = false
passes_on Template i n = false
passes_on In i n = false
passes_on Default i n = false
passes_on Member i n = false
passes_on Jmember i n = false
passes_on Index i n = false
passes_on Slot i n = false
passes_on Prop i n = false
passes_on Bind i n = false
passes_on Full i n = false
passes_on Method i n = false
passes_on Field i n = false
passes_on Accessor i n = false
passes_on Bare i n = false

-- whether the child in a position is walked as a key, where its parent is or is not
abbrev pub child_walk : Bool → Kind → ℕ → ℕ → Bool
child_walk as_key k i n = key_child k i || (as_key && passes_on k i n)

-- A position is a node of a tree with its walk.
pub record Position : Type 0 where
  pub label : Label
  pub as_key : Bool

abbrev mutual
  -- the positions of a tree, parent first and children in order, where the root is walked so
  pub walked : Bool → Tree → List Position
  walked w (tree l f) = record { label = l; as_key = w } ∷ walked_all w l.kind 0 (count f) f

  -- those of children, from a position on, of a node of this kind with so many children that is walked so
  pub walked_all : Bool → Kind → ℕ → ℕ → Forest → List Position
  walked_all w k i n none = []
  walked_all w k i n (more t f) = walked (child_walk w k i n) t ++ walked_all w k (i + 1) n f

-- the positions of a whole tree: it is walked plain from its root on; the position with number i is that of row i
abbrev pub positions : Tree → List Position
positions t = walked false t
