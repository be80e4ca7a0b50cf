-- What the two walks over the rows are held to. No public promise rests on it.
use Rattle.std.specs.Prelude.{◌≡◌, ℕ, ◌+◌, Bool, true, List, ◌++◌, length, drop, Ok, Err, Result, nat_lt}
use Rattle.pages.specs.declared.refusal.Refusal.{Refusal}
use Rattle.pages.specs.declared.row.Row.{Row}
use Rattle.pages.specs.declared.shape.Place.{Place}
use Rattle.pages.specs.Shape.{All, Fine, visits}
use Rattle.pages.specs.Trees.{Label, Tree, Forest, tree, Node, nodes, shown, shows}
use Rattle.positions.specs.declared.page.Page.{Page}
use Rattle.positions.specs.Roles.{Setting, counted, occupied}
use Rattle.positions.specs.Walks.{Position, walked}
use Rattle.table.specs.declared.table.Entry.{Entry}
use Rattle.table.specs.Maps.{Ascending}
use Rattle.gather.specs.declared.collection.PropertyMangleCollection.{PropertyMangleCollection}
use Rattle.gather.specs.declared.note.Shortfall.{Shortfall}
use Rattle.gather.specs.Faults.{AllRight, FirstWrong}
use Rattle.gather.specs.Filling.{BothLent, Moves}

-- The rows from this one on show a tree, and then the rest; each of its nodes is fine where it stands.
pub record Stands (rows : List Row) (text : List ℕ) (row : ℕ) : Type 0 where
  pub label : Label
  pub forest : Forest
  pub rest : List Node
  pub place : Place
  pub level : ℕ
  pub shows_it : shown text (drop row rows) ≡ nodes (tree label forest) ++ rest
  pub fine : All Fine (visits place level (tree label forest))

-- the places and the options of a page
abbrev pub setting : Page → Setting
setting page = record { places = page.places.now; options = page.options }

-- the position of a row that is walked so
abbrev pub position : List ℕ → Row → Bool → Position
position text row w = record { label = (shows text row).label; as_key = w }

-- places that are said to ascend do
pub record AscendIf (sorted : Bool) (places : List (Entry ℕ (Unit {0}))) : Type 0 where
  pub ascend : sorted ≡ true → Ascending nat_lt places

-- A tree was walked, and the row after it is told; the names of its positions are right, and were counted, and its texts
-- occupied.
pub record WalkedOver (s : Setting) (w : Bool) (t : Tree) (at : ℕ) (c c' : PropertyMangleCollection) (l l' : Shortfall) (next : ℕ) : Type 0 where
  pub past : next ≡ at + length (nodes t)
  pub right : AllRight (counted s (walked w t))
  pub moves : Moves (counted s (walked w t)) (occupied s (walked w t)) c c' l l'

-- A name was wrong, and the memory is the same.
pub record Stopped (s : Setting) (w : Bool) (t : Tree) (at : ℕ) (c c' : PropertyMangleCollection) (refusal : Refusal) : Type 0 where
  pub wrong : FirstWrong s at (walked w t) refusal
  pub lent : BothLent c c'

abbrev pub Walks : Setting → Bool → Tree → ℕ → PropertyMangleCollection → PropertyMangleCollection → Shortfall → Shortfall → Result ℕ Refusal → Type 0
Walks s w t at c c' l l' (Ok next) = WalkedOver s w t at c c' l l' next
Walks s w t at c c' l l' (Err refusal) = Stopped s w t at c c' refusal
