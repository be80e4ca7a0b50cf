-- What a reading of a listing answers and leaves.
use Rattle.std.specs.Prelude.{◌≡◌, ℕ, List, length, take, Ok, Err, Result}
use Rattle.pages.specs.declared.refusal.Refusal.{Refusal}
use Rattle.pages.specs.declared.refusal.Refusal.TheVariants.{Misshapen, Unread, Overfull}
use Rattle.pages.specs.declared.row.Row.{Row}
use Rattle.pages.specs.Trees.{Tree, nodes, shown}
use Rattle.grammar.specs.Grammar.{Listing}
use Rattle.grammar.specs.Reading.{Outcome, read, unread, misread, overfull, ComesTo, rows_after, text_after, texts}
use Rattle.reader.specs.declared.Size.{Size}

-- the answer to each outcome: how many rows and bytes the page takes, or the refusal
abbrev pub answer_to : Outcome → Result Size Refusal
answer_to (read t) = Ok (record { nodes = length (nodes t); bytes = length (texts (nodes t)) })
answer_to (unread place) = Err (Unread place)
answer_to (misread n) = Err (Misshapen n)
answer_to overfull = Err Overfull

-- Bytes read into rows and text: their outcome, which is the only one that they can have, its answer, and
-- all that is left in memory. The rows of a read page hold the one tree that the bytes list.
pub record Reads (s : List ℕ) (rows : List Row) (text : List ℕ) (r : Result Size Refusal) (rows' : List Row) (text' : List ℕ) : Type 0 where
  pub outcome : Outcome
  pub comes : ComesTo s (length rows) (length text) outcome
  pub answered : r ≡ answer_to outcome
  pub rows_are : rows' ≡ rows_after outcome rows
  pub text_are : text' ≡ text_after outcome text
  pub only : (o : Outcome) → ComesTo s (length rows) (length text) o → o ≡ outcome
  pub one_tree : (t u : Tree) → Listing s t → Listing s u → t ≡ u
  pub holds : (t : Tree) → outcome ≡ read t → shown text' (take (length (nodes t)) rows') ≡ nodes t

-- The same before the memory of a refused reading is cleared.
pub record Finds (s : List ℕ) (rows : List Row) (text : List ℕ) (r : Result Size Refusal) (rows' : List Row) (text' : List ℕ) : Type 0 where
  pub outcome : Outcome
  pub comes : ComesTo s (length rows) (length text) outcome
  pub answered : r ≡ answer_to outcome
  pub filled : (t : Tree) → outcome ≡ read t → (rows' ≡ rows_after (read t) rows) × (text' ≡ text_after (read t) text)
