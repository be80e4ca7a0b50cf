-- Trees, and which rows hold one.
use Rattle.std.specs.Prelude.{ℕ, ◌+◌, cond, List, [], ◌∷◌, ◌++◌, map, length, take, drop, Some, None, Option, nat_le}
use Rattle.pages.specs.declared.kind.Kind.{Kind}
use Rattle.pages.specs.declared.row.Flags.{Flags}
use Rattle.pages.specs.declared.row.Part.{Part}
use Rattle.pages.specs.declared.row.Row.{Row}

-- The text of a node: none, these bytes, or a part that does not lie within the page's text. No lawful
-- tree has the third.
pub data Text : Type 0 where
  without : Text
  bytes : List ℕ → Text
  astray : Text

-- what stands at a node
pub record Label : Type 0 where
  pub kind : Kind
  pub flags : Flags
  pub start : ℕ
  pub text : Text

mutual
  pub data Tree : Type 0 where
    tree : Label → Forest → Tree

  -- trees in a row, the first in front
  pub data Forest : Type 0 where
    none : Forest
    more : Tree → Forest → Forest

-- how many trees there are
abbrev pub count : Forest → ℕ
count none = 0
count (more t f) = count f + 1

-- a node as a row shows it: its label and its number of children
pub record Node : Type 0 where
  pub label : Label
  pub children : ℕ

abbrev mutual
  -- the nodes of a tree, parent first and children in order
  pub nodes : Tree → List Node
  nodes (tree l f) = record { label = l; children = count f } ∷ nodes_all f

  pub nodes_all : Forest → List Node
  nodes_all none = []
  nodes_all (more t f) = nodes t ++ nodes_all f

-- the text that a row's part has in a page's text
abbrev pub text_in : List ℕ → Option Part → Text
text_in s None = without
text_in s (Some p) =
    cond (nat_le (p.offset + p.length) (length s)) (bytes (take p.length (drop p.offset s))) astray

abbrev pub shows : List ℕ → Row → Node
shows s r =
    record {
      label = record { kind = r.kind; flags = r.flags; start = r.start; text = text_in s r.text };
      children = r.children;
    }

-- the nodes that rows show over a page's text
abbrev pub shown : List ℕ → List Row → List Node
shown s rows = map (shows s) rows
