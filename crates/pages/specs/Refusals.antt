-- The number and the place that are told of each refusal, and how a verdict on rows is answered.
use Rattle.std.specs.Prelude.{◌≡◌, ℕ, List, ◌∷◌, ◌++◌, Ok, Err, Result}
use Rattle.std.specs.Fmt.{decimal}
use Rattle.pages.specs.declared.refusal.Refusal.{Refusal}
use Rattle.pages.specs.declared.refusal.Refusal.TheVariants.{Misshapen, Deep, Unread, Long, Foreign, BadPin, LongNumber, Spent, Overfull}
use Rattle.pages.specs.Shape.{Verdict, lawful, misshapen, deep, Judged}
use Rattle.pages.specs.Trees.{Tree, Node, nodes}

abbrev pub number_of : Refusal → ℕ
number_of (Misshapen n) = 1
number_of (Deep n) = 2
number_of (Unread n) = 3
number_of (Long n) = 4
number_of (Foreign n) = 5
number_of (BadPin a b) = 6
number_of (LongNumber n) = 7
number_of (Spent n) = 8
number_of Overfull = 9

-- the node, byte or rank that is told; 0 where there is none to tell
abbrev pub place_of : Refusal → ℕ
place_of (Misshapen n) = n
place_of (Deep n) = n
place_of (Unread n) = n
place_of (Long n) = n
place_of (Foreign n) = n
place_of (BadPin a b) = 0
place_of (LongNumber n) = n
place_of (Spent n) = n
place_of Overfull = 0

-- the bytes that a refusal is printed as: its number, a blank and its place, both in decimal
abbrev pub told : Refusal → List ℕ
told r = decimal (number_of r) ++ 32 ∷ decimal (place_of r)

-- the answer to rows of which this was found
abbrev pub answer : Verdict → Result (Unit {0}) Refusal
answer lawful = Ok tt
answer (misshapen n) = Err (Misshapen n)
answer (deep n) = Err (Deep n)

-- The nodes were checked and `r` was answered: a verdict on them was reached, it is the answer, and no other
-- can be reached; nor are there two trees with these nodes.
pub record Checked (ns : List Node) (r : Result (Unit {0}) Refusal) : Type 0 where
  pub verdict : Verdict
  pub judged : Judged ns verdict
  pub answered : r ≡ answer verdict
  pub only : (v : Verdict) → Judged ns v → v ≡ verdict
  pub one_tree : (t u : Tree) → ns ≡ nodes t → ns ≡ nodes u → t ≡ u
