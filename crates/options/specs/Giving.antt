-- What is wrong with a name that is given, and what comes of giving it.
use Rattle.std.specs.Prelude.{◌≡◌, ℕ, Bool, cond, not, ◌&&◌, ◌||◌, List, Some, None, Ok, Err, Option, Result}
use Rattle.std.specs.Borrow.{Bor}
use Rattle.pages.specs.declared.refusal.Refusal.{Refusal}
use Rattle.pages.specs.declared.refusal.Refusal.TheVariants.{Long, Foreign, BadPin, Overfull}
use Rattle.names.specs.declared.name.Name.{Name}
use Rattle.names.specs.Names.{before, long, name_of}
use Rattle.names.specs.Identifiers.{identifier}
use Rattle.names.specs.Texts.{hard, foreign}
use Rattle.table.specs.declared.table.Table.{Table}
use Rattle.table.specs.declared.table.Entry.{Entry}
use Rattle.table.specs.Calls.{Stored, Refused}
use Rattle.table.specs.Maps.{lookup}

-- what a name may be changed to: an identifier name that is not hard
abbrev pub target : List ℕ → Bool
target s = identifier s && not (hard s)

-- what is wrong with a name, told at a node: too long, or else foreign
abbrev pub fault_at : ℕ → List ℕ → Option Refusal
fault_at node s = cond (long s) (Some (Long node)) (cond (foreign s) (Some (Foreign node)) None)

-- what is wrong with a name to keep or to reserve, which no node has
abbrev pub name_fault : List ℕ → Option Refusal
name_fault = fault_at 0

-- what is wrong with a name and its pin: too long, foreign, or a pin that may be no property name, in this order
abbrev pub pin_fault : Bor (List ℕ) → Bor (List ℕ) → Option Refusal
pin_fault name pin =
    cond (long name.now || long pin.now) (Some (Long 0))
    (cond (foreign name.now || foreign pin.now) (Some (Foreign 0)) (cond (target pin.now) None (Some (BadPin name pin))))

-- a value, unless something is wrong
abbrev pub unless : {A : Type 0} → Option Refusal → A → Result A Refusal
unless (Some x) value = Err x
unless None value = Ok value

-- what rows have for a name; a name of over 255 bytes is in none
abbrev pub found : {V : Type 0} → List ℕ → List (Entry Name V) → Option V
found s rows = cond (long s) None (lookup before (name_of s) rows)

-- A key is given a value in a table, unless something is wrong with it: it stands there now, with what it replaces gone;
-- or it is new and there is no room for it. A refusal changes nothing.
abbrev pub Gives : {K V : Type 0} → (K → K → Bool) → ℕ → Option Refusal → K → V → Table K V → Table K V → Result (Unit {0}) Refusal → Type 0
Gives less limit (Some x) key value before after r = (r ≡ Err x) × (after ≡ before)
Gives {V = V} less limit None key value before after (Ok done) = (old : Option V) × Stored less limit key value before after old
Gives less limit None key value before after (Err x) = (x ≡ Overfull) × Refused less limit key before × (after ≡ before)
