-- What writing bytes comes to: what the private steps are held to. No public promise rests on it.
use Rattle.std.specs.Prelude.{◌≡◌, ℕ, ◌+◌, ◌<◌, List, length, Result, MatchResult}
use Rattle.std.proofs.lemmas.List.Edits.{sets}
use Rattle.writer.specs.declared.output.Output.{Output}
use Rattle.writer.specs.declared.output.Full.{Full}

-- The bytes stand from the place on, as far as the memory goes, and the place moves past them. Memory and room
-- are those that they were.
pub record Wrote (bytes : List ℕ) (before after : Output) : Type 0 where
  pub lent : after.memory.ghost_name ≡ before.memory.ghost_name
  pub room : after.room ≡ before.room
  pub moved : after.at ≡ before.at + length bytes
  pub put : after.memory.now ≡ sets before.memory.now before.at bytes

-- The room ends before bytes that are put from the place on.
pub record NoRoom (bytes : List ℕ) (out : Output) : Type 0 where
  pub past : out.room < out.at + length bytes

-- The bytes are written, or do not fit the room.
abbrev pub Puts : List ℕ → Output → Output → Result (Unit {0}) Full → Type 0
Puts bytes before after r = MatchResult r (λ _. Wrote bytes before after) (λ _. NoRoom bytes before)
