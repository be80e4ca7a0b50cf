-- What the private walk over the rows is held to: a judgement by the places that are still to be filled.
use Rattle.std.specs.Prelude.{◌≡◌, ℕ, zero, suc, ◌+◌, ◌<◌, ◌≤◌, cond, List, [], ◌∷◌, length, drop, Err}
use Rattle.pages.specs.declared.refusal.Refusal.{Refusal}
use Rattle.pages.specs.declared.shape.Place.{Place}
use Rattle.pages.specs.declared.shape.Place.TheVariants.{Root, Child}
use Rattle.pages.specs.Refusals.{answer}
use Rattle.pages.specs.Shape.{Visit, shapely, is_deep, Verdict, lawful, misshapen, deep}
use Rattle.pages.specs.Trees.{Node}

-- neighbouring places to be filled: the first, their level, and how many come after the first
pub record Entry : Type 0 where
  pub place : Place
  pub level : ℕ
  pub after : ℕ

-- the place to the right
abbrev pub next_place : Place → Place
next_place Root = Root
next_place (Child parent flags position) = Child parent flags (position + 1)

-- so many neighbouring places, in front of others
abbrev pub pend : ℕ → Place → ℕ → List Entry → List Entry
pend zero p level s = s
pend (suc n) p level s = record { place = p; level = level; after = n } ∷ s

-- what is left when the first place is filled
abbrev pub pop : Entry → List Entry → List Entry
pop e s = pend e.after (next_place e.place) e.level s

-- the places of a node's children, on this level
abbrev pub push : Node → ℕ → List Entry → List Entry
push n level s = pend n.children (Child n.label.kind n.label.flags 0) level s

-- the node in the first of these places
abbrev pub visit : Entry → Node → Visit
visit e n = record { place = e.place; level = e.level; node = n }

-- what is found when these places are filled by nodes, of which the first has this number
abbrev pub judge : List Entry → ℕ → List Node → Verdict
judge [] at [] = lawful
judge [] at (n ∷ ns) = misshapen at
judge (e ∷ s) at [] = misshapen at
judge (e ∷ s) at (n ∷ ns) =
    cond (shapely (visit e n)) (cond (is_deep (visit e n)) (deep at) (judge (push n (e.level + 1) (pop e s)) (at + 1) ns)) (misshapen at)

-- a whole tree's place
abbrev pub start : List Entry
start = record { place = Root; level = 1; after = 0 } ∷ []

-- A walk that begins at the node with number `i`, in the place `p`, has filled that place, and the node with number
-- `next` comes then: whatever other places there are, the judgement goes on from there.
pub record Passes (ns : List Node) (p : Place) (level i next : ℕ) : Type 0 where
  pub later : i < next
  pub within : next ≤ length ns
  pub onward : (n : ℕ) (s : List Entry)
      → judge (pend (suc n) p level s) i (drop i ns) ≡ judge (pend n (next_place p) level s) next (drop next ns)

-- Such a walk has met what is refused: whatever other places there are, that is the answer.
pub record Stops (ns : List Node) (p : Place) (level i : ℕ) (refusal : Refusal) : Type 0 where
  pub refused : (n : ℕ) (s : List Entry) → answer (judge (pend (suc n) p level s) i (drop i ns)) ≡ Err refusal
