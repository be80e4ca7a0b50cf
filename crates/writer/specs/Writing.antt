-- What the writing of a page as a listing gives.
use Rattle.std.specs.Prelude.{◌≡◌, ℕ, ◌≤◌, List, ◌++◌, length, take, drop, Ok, Err, Result}
use Rattle.pages.specs.declared.refusal.Refusal.{Refusal}
use Rattle.pages.specs.declared.refusal.Refusal.TheVariants.{Misshapen, Deep, Overfull}
use Rattle.pages.specs.declared.row.Row.{Row}
use Rattle.pages.specs.Trees.{Tree, Node, nodes, shown}
use Rattle.pages.specs.Shape.{Lawful, Judged, misshapen, deep}
use Rattle.grammar.specs.Grammar.{Listing}
use Rattle.grammar.specs.Written.{written}
use Rattle.grammar.specs.Reading.{Fits, texts}
use Rattle.reader.specs.declared.Size.{Size}
use Rattle.reader.specs.Reads.{Reads}

-- The page of this many rows and text bytes is under the limits on every page, and the listing of its tree
-- has room.
pub record HasRoom (t : Tree) (rows text room : ℕ) : Type 0 where
  pub rows_limit : rows ≤ 65536
  pub text_limit : text ≤ 1048576
  pub listing_room : length (written t) ≤ room

-- What a writing comes to.
pub data Outcome : Type 0 where
  misshapen_at : ℕ → Outcome
  deep_at : ℕ → Outcome
  overfull : Outcome
  listed : Tree → Outcome

-- Which outcome a page has whose rows show these nodes: rows that form no lawful tree are refused at the node
-- that is to blame; then a page past a limit, or without room for its listing; else its tree is listed.
pub data ComesTo (ns : List Node) (rows text room : ℕ) : Outcome → Type 0 where
  is_misshapen : (n : ℕ) → Judged ns (misshapen n) → ComesTo ns rows text room (misshapen_at n)
  is_deep : (n : ℕ) → Judged ns (deep n) → ComesTo ns rows text room (deep_at n)
  is_overfull : (t : Tree) → ns ≡ nodes t → Lawful t → (HasRoom t rows text room → ⊥) → ComesTo ns rows text room overfull
  is_listed : (t : Tree) → ns ≡ nodes t → Lawful t → HasRoom t rows text room → ComesTo ns rows text room (listed t)

-- the answer: the length of the listing, or the refusal
abbrev pub answer : Outcome → Result ℕ Refusal
answer (misshapen_at n) = Err (Misshapen n)
answer (deep_at n) = Err (Deep n)
answer overfull = Err Overfull
answer (listed t) = Ok (length (written t))

-- the memory after a writing: the listing, and what stood past it; a refusal changes nothing
abbrev pub memory_after : Outcome → List ℕ → List ℕ
memory_after (misshapen_at n) out = out
memory_after (deep_at n) out = out
memory_after overfull out = out
memory_after (listed t) out = written t ++ drop (length (written t)) out

-- The length of the listing was answered, or why there is none in this room. No other outcome is possible.
pub record Measured (ns : List Node) (rows text room : ℕ) (r : Result ℕ Refusal) : Type 0 where
  pub outcome : Outcome
  pub comes_to : ComesTo ns rows text room outcome
  pub only : (o : Outcome) → ComesTo ns rows text room o → o ≡ outcome
  pub answered : r ≡ answer outcome

-- The bytes read back: every reading of them into memory that has room for the tree gives the page of these
-- nodes again, whose rows differ at most in where their texts lie.
abbrev pub ReadsBack : List Node → Tree → List ℕ → Type 0
ReadsBack ns t s =
    (rows : List Row) (text : List ℕ) (r : Result Size Refusal) (rows' : List Row) (text' : List ℕ)
    → Reads s rows text r rows' text' → Fits t (length rows) (length text)
    → (r ≡ Ok (record { nodes = length ns; bytes = length (texts ns) })) × (shown text' (take (length ns) rows') ≡ ns)

-- The listing was written to the front of the memory, or nothing was, and `r` was answered. No other outcome is
-- possible. What was written is a listing by the grammar, and reads back.
pub record Listed (ns : List Node) (rows text : ℕ) (out after : List ℕ) (r : Result ℕ Refusal) : Type 0 where
  pub outcome : Outcome
  pub comes_to : ComesTo ns rows text (length out) outcome
  pub only : (o : Outcome) → ComesTo ns rows text (length out) o → o ≡ outcome
  pub answered : r ≡ answer outcome
  pub left : after ≡ memory_after outcome out
  pub is_listing : (t : Tree) → outcome ≡ listed t → Listing (written t) t
  pub reads_back : (t : Tree) → outcome ≡ listed t → ReadsBack ns t (written t)
