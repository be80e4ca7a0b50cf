-- What gathering a page gives.
use Rattle.std.specs.Prelude.{◌≡◌, ℕ, ◌≤◌, min, ◌⊎◌, List, [], length, drop, replicate, Ok, Err, Result}
use Rattle.names.specs.declared.name.Name.{Name}
use Rattle.names.specs.Names.{name_of}
use Rattle.pages.specs.declared.refusal.Refusal.{Refusal}
use Rattle.pages.specs.declared.refusal.Refusal.TheVariants.{Misshapen, Deep, Overfull}
use Rattle.pages.specs.Trees.{Tree, Node, nodes, shown}
use Rattle.positions.specs.declared.page.Page.{Page}
use Rattle.gather.specs.Filling.{BothLent}
use Rattle.gather.specs.Walking.{setting}
use Rattle.pages.specs.Shape.{Lawful, Judged, misshapen, deep}
use Rattle.positions.specs.Roles.{Setting, counted, occupied}
use Rattle.positions.specs.Walks.{positions}
use Rattle.table.specs.declared.table.Table.{Table}
use Rattle.table.specs.Rows.{memory, rows}
use Rattle.gather.specs.declared.collection.PropertyMangleCollection.{PropertyMangleCollection}
use Rattle.gather.specs.Counting.{HoldsCounts, HoldsTexts, different, kept, sum_of}
use Rattle.gather.specs.Faults.{AllRight, FirstWrong}

-- How much there is of a page, and how many entries there are for what is gathered from it.
pub record Size : Type 0 where
  pub rows : ℕ
  pub text : ℕ
  pub places : ℕ
  pub for_names : ℕ
  pub for_texts : ℕ

-- The page is under the limits, and the different names and texts have room.
pub record HasRoom (s : Setting) (t : Tree) (z : Size) : Type 0 where
  pub rows_limit : z.rows ≤ 65536
  pub text_limit : z.text ≤ 1048576
  pub places_limit : z.places ≤ 4096
  pub names_room : different (counted s (positions t)) ≤ min 4096 z.for_names
  pub texts_room : different (kept (occupied s (positions t))) ≤ min 4096 z.for_texts

-- What gathering comes to.
pub data Outcome : Type 0 where
  misshapen_at : ℕ → Outcome
  deep_at : ℕ → Outcome
  wrong_name : Refusal → Outcome
  overfull : Outcome
  gathered : Tree → Outcome

-- Which outcome a page has whose rows show these nodes: rows that form no lawful tree are refused at the node that is to
-- blame; then the first name that is wrong; then what has no room; else its names and texts are gathered.
pub data ComesTo (s : Setting) (ns : List Node) (z : Size) : Outcome → Type 0 where
  is_misshapen : (n : ℕ) → Judged ns (misshapen n) → ComesTo s ns z (misshapen_at n)
  is_deep : (n : ℕ) → Judged ns (deep n) → ComesTo s ns z (deep_at n)
  is_wrong : (t : Tree) (refusal : Refusal) → ns ≡ nodes t → Lawful t → FirstWrong s 0 (positions t) refusal → ComesTo s ns z (wrong_name refusal)
  is_overfull : (t : Tree) → ns ≡ nodes t → Lawful t → AllRight (counted s (positions t)) → (HasRoom s t z → ⊥) → ComesTo s ns z overfull
  is_gathered : (t : Tree) → ns ≡ nodes t → Lawful t → AllRight (counted s (positions t)) → HasRoom s t z → ComesTo s ns z (gathered t)

abbrev pub answer : Outcome → Result (Unit {0}) Refusal
answer (misshapen_at n) = Err (Misshapen n)
answer (deep_at n) = Err (Deep n)
answer (wrong_name refusal) = Err refusal
answer overfull = Err Overfull
answer (gathered t) = Ok tt

-- how much there is of a page, and of two tables
abbrev pub size : Page → PropertyMangleCollection → Size
size page c =
    record {
      rows = length page.rows.now;
      text = length page.text.now;
      places = length page.places.now;
      for_names = length (memory c.frequencies);
      for_texts = length (memory c.occupied);
    }

-- A table that is emptied, in the same memory: every entry that it was lent is zero.
pub record Emptied {V : Type 0} (zero_value : V) (before after : Table Name V) : Type 0 where
  pub no_rows : after.len ≡ 0
  pub lent : after.entries.ghost_name ≡ before.entries.ghost_name
  pub zeros : memory after ≡ replicate (length (memory before)) (record { key = name_of []; value = zero_value })

-- Both tables hold what the tree's positions count and occupy, and the counts sum to the number of positions that count;
-- what lies past the rows is as it was.
pub record Filled (s : Setting) (t : Tree) (before after : PropertyMangleCollection) : Type 0 where
  pub names : HoldsCounts (counted s (positions t)) (rows after.frequencies)
  pub texts : HoldsTexts (kept (occupied s (positions t))) (rows after.occupied)
  pub names_within : after.frequencies.len ≤ length (memory after.frequencies)
  pub texts_within : after.occupied.len ≤ length (memory after.occupied)
  pub sums : sum_of (rows after.frequencies) ≡ length (counted s (positions t))
  pub names_past : drop after.frequencies.len (memory after.frequencies) ≡ drop after.frequencies.len (memory before.frequencies)
  pub texts_past : drop after.occupied.len (memory after.occupied) ≡ drop after.occupied.len (memory before.occupied)

pub record Cleared (before after : PropertyMangleCollection) : Type 0 where
  pub names : Emptied 0 before.frequencies after.frequencies
  pub texts : Emptied tt before.occupied after.occupied

-- the tables after each outcome: a refusal leaves both empty
abbrev pub Left : Setting → Outcome → PropertyMangleCollection → PropertyMangleCollection → Type 0
Left s (misshapen_at n) before after = Cleared before after
Left s (deep_at n) before after = Cleared before after
Left s (wrong_name refusal) before after = Cleared before after
Left s overfull before after = Cleared before after
Left s (gathered t) before after = Filled s t before after

-- The same before the tables of a refused gathering are emptied; their memory is the same.
pub record Finds (page : Page) (before after : PropertyMangleCollection) (r : Result (Unit {0}) Refusal) : Type 0 where
  pub outcome : Outcome
  pub comes_to : ComesTo (setting page) (shown page.text.now page.rows.now) (size page before) outcome
  pub only : (o : Outcome) → ComesTo (setting page) (shown page.text.now page.rows.now) (size page before) o → o ≡ outcome
  pub answered : r ≡ answer outcome
  pub filled : (t : Tree) → outcome ≡ gathered t → Filled (setting page) t before after
  pub lent : BothLent before after

-- What the private walk over a page comes to, whose rows form this tree: the tables are filled
pub record Whole (page : Page) (t : Tree) (before after : PropertyMangleCollection) : Type 0 where
  pub right : AllRight (counted (setting page) (positions t))
  pub room : HasRoom (setting page) t (size page before)
  pub filled : Filled (setting page) t before after
  pub lent : BothLent before after

-- the names are right, and there is no room for them or the texts
pub record NoRoom (page : Page) (t : Tree) (before : PropertyMangleCollection) (refusal : Refusal) : Type 0 where
  pub overfull_is : refusal ≡ Overfull
  pub right : AllRight (counted (setting page) (positions t))
  pub lacking : HasRoom (setting page) t (size page before) → ⊥

-- or the first wrong name is refused, or else what has no room
pub record BrokenOff (page : Page) (t : Tree) (before after : PropertyMangleCollection) (refusal : Refusal) : Type 0 where
  pub why : FirstWrong (setting page) 0 (positions t) refusal ⊎ NoRoom page t before refusal
  pub lent : BothLent before after

abbrev pub WalksWhole : Page → Tree → PropertyMangleCollection → PropertyMangleCollection → Result (Unit {0}) Refusal → Type 0
WalksWhole page t before after (Ok done) = Whole page t before after
WalksWhole page t before after (Err refusal) = BrokenOff page t before after refusal

-- The page was gathered, or refused, and `r` was answered: its outcome, which is the only one that it can have, the
-- answer, and what is left in the tables.
pub record Gathers (s : Setting) (ns : List Node) (z : Size) (before after : PropertyMangleCollection) (r : Result (Unit {0}) Refusal) : Type 0 where
  pub outcome : Outcome
  pub comes_to : ComesTo s ns z outcome
  pub only : (o : Outcome) → ComesTo s ns z o → o ≡ outcome
  pub answered : r ≡ answer outcome
  pub left : Left s outcome before after
