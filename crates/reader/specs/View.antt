-- The reader as its steps are described.
use Rattle.std.specs.Prelude.{◌≡◌, ℕ, zero, suc, List, [], ◌∷◌, length, take, slice_index_or, Result, Ok, Err}
use Rattle.grammar.specs.Reading.{zero_row}
use Rattle.grammar.specs.Scan as scan
use Rattle.grammar.specs.Scan.{Phase, Scan, Step, Memory}
use Rattle.pages.specs.declared.row.Row.{Row}
use Rattle.reader.specs.declared.word.Word.{Word}
use Rattle.reader.specs.declared.memory.Memory as lent
use Rattle.reader.specs.declared.open.State.{State}
use Rattle.reader.specs.declared.open.State.TheVariants as state
use Rattle.reader.specs.declared.open.Open.{Open}
use Rattle.reader.specs.declared.open.Effect.{Effect}
use Rattle.reader.specs.declared.open.Effect.TheVariants as effect
use Rattle.reader.specs.declared.open.Unread.{Unread}
use Rattle.reader.specs.declared.reader.Reader.{Reader}

-- the letters so far
abbrev pub letters_of : Word → List ℕ
letters_of w = take w.len w.letters

abbrev pub phase_of : State → Phase
phase_of state.Before = scan.before
phase_of state.Opened = scan.opened
phase_of (state.Word w) = scan.in_word (letters_of w)
phase_of state.Named = scan.named
phase_of state.Starting = scan.starting
phase_of state.Start = scan.in_start
phase_of state.Started = scan.started
phase_of state.Flags = scan.in_flags
phase_of state.Flagged = scan.flags_done
phase_of state.Text = scan.in_text
phase_of state.Escape = scan.escape
phase_of (state.Hex h) = scan.in_hex h
phase_of state.Inside = scan.inside
phase_of state.After = scan.after

abbrev pub open_of : Open → scan.Open
open_of e = record { row = e.row; number = e.number }

abbrev pub no_open : Open
no_open = record { row = zero_row; number = 0 }

-- the open brackets, the innermost first
abbrev pub unwound : ℕ → List Open → List scan.Open
unwound zero s = []
unwound (suc d) s = open_of (slice_index_or s d no_open) ∷ unwound d s

abbrev pub view : Reader → Scan
view r =
    record { phase = phase_of r.state; stack = unwound r.depth r.stack; nodes = r.nodes; bytes = r.bytes; fault = r.fault }

abbrev pub effect_of : Result Effect Unread → scan.Effect
effect_of (Ok effect.Quiet) = scan.quiet
effect_of (Ok (effect.Text b at)) = scan.text_byte at b
effect_of (Ok (effect.Done e)) = scan.row_done e.number e.row
effect_of (Err e) = scan.unread

-- the step that led to this reader and had this effect
abbrev pub stepped : Reader → Result Effect Unread → Step
stepped r e = record { to = view r; effect = effect_of e }

abbrev pub memory_of : List Row → List ℕ → Memory
memory_of rows text = record { rows = rows; text = text }

-- the lent memory, as the steps see it
abbrev pub held : lent.Memory → Memory
held m = memory_of m.rows.now m.text.now

-- the memory that was lent, whatever stands in it
pub record IsSame (m m' : lent.Memory) : Type 0 where
  pub rows : m'.rows.ghost_name ≡ m.rows.ghost_name
  pub text : m'.text.ghost_name ≡ m.text.ghost_name
  pub rows_len : length m'.rows.now ≡ length m.rows.now
  pub text_len : length m'.text.now ≡ length m.text.now
