-- Which nodes are misshapen, and what is told of rows that form no lawful tree.
use Rattle.std.specs.Prelude.{◌≡◌, ℕ, ◌+◌, Bool, true, false, cond, not, ◌&&◌, ◌||◌, List, [], ◌∷◌, ◌++◌, map, length, Some, None, Option, ◌==◌, nat_le, nat_lt}
use Rattle.pages.specs.declared.kind.Kind.{Kind}
use Rattle.pages.specs.declared.kind.Texts.{Texts}
use Rattle.pages.specs.declared.kind.Texts.TheVariants.{Never, Always, Maybe, Childless}
use Rattle.pages.specs.declared.kind.Standing.{Standing}
use Rattle.pages.specs.declared.kind.Standing.TheVariants.{PlainKey, PrivateKey, Literal, Expression}
use Rattle.pages.specs.declared.row.Flags.{Flags}
use Rattle.pages.specs.declared.shape.Place.{Place}
use Rattle.pages.specs.declared.shape.Place.TheVariants.{Root, Child}
use Rattle.pages.specs.Kinds.{Rule, rule}
use Rattle.pages.specs.Trees.{Text, without, bytes, astray, Tree, Forest, tree, none, more, count, Node, nodes}

-- a text is there or not, as the kind has it; with children, a `Childless` kind has none
abbrev pub text_right : Texts → ℕ → Text → Bool
text_right Never n without = true
text_right Never n (bytes s) = false
text_right Never n astray = false
text_right Always n without = false
text_right Always n (bytes s) = true
text_right Always n astray = false
text_right Maybe n without = true
text_right Maybe n (bytes s) = true
text_right Maybe n astray = false
text_right Childless n without = true
text_right Childless n (bytes s) = n == 0
text_right Childless n astray = false

abbrev pub at_most : ℕ → Option ℕ → Bool
at_most n None = true
at_most n (Some m) = nat_le n m

abbrev pub count_right : Rule → ℕ → Bool
count_right r n = nat_le r.least n && at_most n r.most

-- each flag that is set is one that the kind has
abbrev pub flags_right : Rule → Flags → Bool
flags_right r f =
    (not f.optional || r.optional) && ((not f.computed || r.computed) && (not f.shorthand || r.shorthand))

-- away from a key's place nothing stands that is a key only
abbrev pub off_key : Standing → Bool
off_key PlainKey = false
off_key PrivateKey = false
off_key Literal = true
off_key Expression = true

-- a key that is not computed
abbrev pub literal_key : Standing → Bool
literal_key PlainKey = true
literal_key PrivateKey = true
literal_key Literal = true
literal_key Expression = false

abbrev pub plain_key : Standing → Bool
plain_key PlainKey = true
plain_key PrivateKey = false
plain_key Literal = false
plain_key Expression = false

-- what may be the key of a node with these flags: computed, any expression; else a literal key; and a
-- shorthand wants a plain key, so that no key is right where computed and shorthand are both set
abbrev pub key_right : Flags → Standing → Bool
key_right f k = cond f.computed (off_key k) (literal_key k) && (not f.shorthand || plain_key k)

-- a node of this kind may stand here; the kinds with a key are those that can be computed
abbrev pub place_right : Place → Kind → Bool
place_right Root k = off_key (rule k).standing
place_right (Child parent flags position) k =
    cond ((rule parent).computed && position == 0) (key_right flags (rule k).standing) (off_key (rule k).standing)

-- a node as a walk over the tree meets it: where it stands, on which level (the root's is 1), and what it is
pub record Visit : Type 0 where
  pub place : Place
  pub level : ℕ
  pub node : Node

-- the node keeps every rule but that on levels
abbrev pub shapely : Visit → Bool
shapely v =
    place_right v.place v.node.label.kind
    && (text_right (rule v.node.label.kind).text v.node.children v.node.label.text
    && (count_right (rule v.node.label.kind) v.node.children && flags_right (rule v.node.label.kind) v.node.label.flags))

-- below level 64
abbrev pub is_deep : Visit → Bool
is_deep v = nat_lt 64 v.level

abbrev pub Fine : Visit → Type 0
Fine v = (shapely v ≡ true) × (is_deep v ≡ false)

pub data All (P : Visit → Type 0) : List Visit → Type 0 where
  all_none : All P []
  all_more : {v : Visit} {vs : List Visit} → P v → All P vs → All P (v ∷ vs)

abbrev mutual
  -- the nodes of a tree with where they stand, parent first and children in order
  pub visits : Place → ℕ → Tree → List Visit
  visits p level (tree l f) =
      record { place = p; level = level; node = record { label = l; children = count f } }
      ∷ visits_all l.kind l.flags 0 (level + 1) f

  -- the children of a node of this kind and these flags, from this position on
  pub visits_all : Kind → Flags → ℕ → ℕ → Forest → List Visit
  visits_all k fl i level none = []
  visits_all k fl i level (more t f) = visits (Child k fl i) level t ++ visits_all k fl (i + 1) level f

-- a whole tree's visits
abbrev pub tour : Tree → List Visit
tour t = visits Root 1 t

abbrev pub node_of : Visit → Node
node_of v = v.node

-- a tree each of whose nodes keeps every rule
abbrev pub Lawful : Tree → Type 0
Lawful t = All Fine (tour t)

-- What is found of nodes that should form a lawful tree.
pub data Verdict : Type 0 where
  lawful : Verdict
  misshapen : ℕ → Verdict
  deep : ℕ → Verdict

-- Along some tree the first nodes are in order, and what comes then decides: both end; only the tree
-- ends; only the nodes end; a node breaks a rule; a node breaks no rule but lies too deep.
pub data Judged (ns : List Node) : Verdict → Type 0 where
  whole : (t : Tree) → Lawful t → ns ≡ nodes t → Judged ns lawful
  left_over : (t : Tree) (n : Node) (rest : List Node) → Lawful t → ns ≡ nodes t ++ n ∷ rest → Judged ns (misshapen (length (nodes t)))
  too_early : (t : Tree) (front : List Visit) (v : Visit) (later : List Visit)
      → tour t ≡ front ++ v ∷ later → All Fine front → ns ≡ map node_of front → Judged ns (misshapen (length front))
  at_fault : (t : Tree) (front : List Visit) (v : Visit) (later : List Visit) (rest : List Node)
      → tour t ≡ front ++ v ∷ later → All Fine front → shapely v ≡ false → ns ≡ map node_of front ++ v.node ∷ rest → Judged ns (misshapen (length front))
  too_deep : (t : Tree) (front : List Visit) (v : Visit) (later : List Visit) (rest : List Node)
      → tour t ≡ front ++ v ∷ later → All Fine front → shapely v ≡ true → is_deep v ≡ true → ns ≡ map node_of front ++ v.node ∷ rest → Judged ns (deep (length front))
