-- A tree that stands in rows, and the writing of its form: what the private walk is held to. No public promise rests on it.
use Rattle.std.specs.Prelude.{◌≡◌, ℕ, ◌+◌, ◌^◌, ◌<◌, ◌≤◌, List, [], ◌++◌, length, drop, Result, MatchResult, slice_index}
use Rattle.std.proofs.lemmas.List.Edits.{sets}
use Rattle.pages.specs.declared.row.Row.{Row}
use Rattle.pages.specs.declared.shape.Place.{Place}
use Rattle.pages.specs.Trees.{Text, without, bytes, astray, Label, Tree, Forest, tree, none, more, Node, nodes, shown}
use Rattle.pages.specs.Shape.{All, Fine, visits}
use Rattle.grammar.specs.Written.{out_tree, written}
use Rattle.writer.specs.declared.output.Output.{Output}
use Rattle.writer.specs.declared.output.Full.{Full}
use Rattle.writer.specs.Puts.{Wrote, NoRoom}

-- The rows from this one on show a tree, and then the rest. Each of its nodes is fine where it stands, with
-- the root on the level of this indent.
pub record Stands (rows : List Row) (text : List ℕ) (row indent : ℕ) : Type 0 where
  pub label : Label
  pub forest : Forest
  pub rest : List Node
  pub place : Place
  pub shows_it : shown text (drop row rows) ≡ nodes (tree label forest) ++ rest
  pub fine : All Fine (visits place (indent + 1) (tree label forest))

-- bytes of 8 bits
abbrev pub SmallText : Text → Type 0
SmallText without = Unit {0}
SmallText (bytes s) = (i : ℕ) → slice_index s i < 256
SmallText astray = Unit {0}

-- what a row can hold: a start of 32 bits, and a text of bytes
abbrev pub Small : Label → Type 0
Small l = (l.start < 2 ^ 32) × SmallText l.text

abbrev mutual
  -- a tree of such labels
  pub SmallTree : Tree → Type 0
  SmallTree (tree l f) = Small l × SmallForest f

  pub SmallForest : Forest → Type 0
  SmallForest none = Unit {0}
  SmallForest (more t f) = SmallTree t × SmallForest f

-- The form of the tree is written, and the next row lies past those of the tree; or it does not fit the room.
pub record Formed (t : Tree) (indent row : ℕ) (before after : Output) (next : ℕ) : Type 0 where
  pub past : next ≡ row + length (nodes t)
  pub small : SmallTree t
  pub wrote : Wrote (out_tree indent t []) before after

abbrev pub Forms : Tree → ℕ → ℕ → Output → Output → Result ℕ Full → Type 0
Forms t indent row before after r = MatchResult r (Formed t indent row before after) (λ _. NoRoom (out_tree indent t []) before)

-- The whole listing is written from the first byte on, and its labels are such as a row can hold; or it does
-- not fit the room.
pub record Placed (t : Tree) (out : List ℕ) (room : ℕ) (after : List ℕ) (len : ℕ) : Type 0 where
  pub small : SmallTree t
  pub all : len ≡ length (written t)
  pub within : len ≤ room
  pub put : after ≡ sets out 0 (written t)

abbrev pub Lists : Tree → List ℕ → ℕ → List ℕ → Result ℕ Full → Type 0
Lists t out room after r = MatchResult r (Placed t out room after) (λ _. room < length (written t))
