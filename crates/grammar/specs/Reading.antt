-- What a reading of a listing gives.
use Rattle.std.specs.Prelude.{ℕ, ◌+◌, ◌<◌, ◌≤◌, false, List, [], ◌∷◌, ◌++◌, length, take, drop, replicate, Some, None, Option}
use Rattle.pages.specs.declared.kind.Kind.TheVariants.{Node as NodeKind}
use Rattle.pages.specs.declared.row.Part.{Part}
use Rattle.pages.specs.declared.row.Row.{Row}
use Rattle.pages.specs.Trees.{Text, without, bytes, astray, Tree, Node, nodes}
use Rattle.pages.specs.Shape.{Lawful, Judged, misshapen}
use Rattle.grammar.specs.Grammar.{Listing, GoesOn}

-- Bytes that are no listing break off at a place: some listing begins with the bytes before it, and none
-- goes on with the byte there; where the bytes end first, the place is their number.
pub record BreaksOff (s : List ℕ) (place : ℕ) : Type 0 where
  pub within : place ≤ length s
  pub begun : GoesOn (take place s)
  pub stuck : place < length s → GoesOn (take (place + 1) s) → ⊥
  pub no_listing : (t : Tree) → Listing s t → ⊥

-- the bytes of a node's text
abbrev pub text_of : Text → List ℕ
text_of without = []
text_of (bytes s) = s
text_of astray = []

-- the texts of nodes one after the other, in the nodes' order
abbrev pub texts : List Node → List ℕ
texts [] = []
texts (n ∷ ns) = text_of n.label.text ++ texts ns

-- the part of a text whose bytes begin at this offset
abbrev pub part_at : ℕ → Text → Option Part
part_at at without = None
part_at at (bytes s) = Some (record { offset = at; length = length s })
part_at at astray = None

abbrev pub row_at : ℕ → Node → Row
row_at at n =
    record { kind = n.label.kind; flags = n.label.flags; start = n.label.start; text = part_at at n.label.text; children = n.children }

-- the rows of nodes whose texts lie one after the other from this offset on
abbrev pub laid : ℕ → List Node → List Row
laid at [] = []
laid at (n ∷ ns) = row_at at n ∷ laid (at + length (text_of n.label.text)) ns

-- The tree has room: in as many rows and bytes as were handed, and under the limits on every tree.
pub record Fits (t : Tree) (rows text : ℕ) : Type 0 where
  pub rows_handed : length (nodes t) ≤ rows
  pub rows_limit : length (nodes t) ≤ 65536
  pub bytes_handed : length (texts (nodes t)) ≤ text
  pub bytes_limit : length (texts (nodes t)) ≤ 1048576

-- a cleared row
abbrev pub zero_row : Row
zero_row =
    record {
      kind = NodeKind;
      flags = record { optional = false; computed = false; shorthand = false };
      start = 0;
      text = None;
      children = 0;
    }

-- What a reading comes to. Anything but a read page leaves every handed row and byte zero.
pub data Outcome : Type 0 where
  read : Tree → Outcome
  unread : ℕ → Outcome
  misread : ℕ → Outcome
  overfull : Outcome

-- Which outcome these bytes have, where so many rows and bytes are handed: bytes that are no listing are
-- unread; then a tree that is not lawful is refused at its first faulty node; then one without room.
pub data ComesTo (s : List ℕ) (rows text : ℕ) : Outcome → Type 0 where
  is_unread : (place : ℕ) → BreaksOff s place → ComesTo s rows text (unread place)
  is_misread : (t : Tree) (n : ℕ) → Listing s t → Judged (nodes t) (misshapen n) → ComesTo s rows text (misread n)
  is_overfull : (t : Tree) → Listing s t → Lawful t → (Fits t rows text → ⊥) → ComesTo s rows text overfull
  is_read : (t : Tree) → Listing s t → Lawful t → Fits t rows text → ComesTo s rows text (read t)

-- the rows after a reading: those of the tree, and what stood past them; or all zero
abbrev pub rows_after : Outcome → List Row → List Row
rows_after (read t) rows = laid 0 (nodes t) ++ drop (length (nodes t)) rows
rows_after (unread place) rows = replicate (length rows) zero_row
rows_after (misread n) rows = replicate (length rows) zero_row
rows_after overfull rows = replicate (length rows) zero_row

abbrev pub text_after : Outcome → List ℕ → List ℕ
text_after (read t) text = texts (nodes t) ++ drop (length (texts (nodes t))) text
text_after (unread place) text = replicate (length text) 0
text_after (misread n) text = replicate (length text) 0
text_after overfull text = replicate (length text) 0
