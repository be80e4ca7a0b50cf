-- The reader's private steps, by what each byte does: a reading of listings as a machine. Nothing that is
-- promised in public rests on this; the proofs tie it to the grammar.
use Rattle.std.specs.Prelude.{ℕ, ◌+◌, ◌-◌, ◌*◌, Bool, true, false, cond, ◌&&◌, ◌||◌, List, [], ◌∷◌, ◌++◌, length, replicate, Some, None, Option, ◌==◌, nat_le, nat_lt, slice_set}
use Rattle.pages.specs.declared.kind.Kind.{Kind}
use Rattle.pages.specs.declared.row.Flags.{Flags}
use Rattle.pages.specs.declared.row.Part.{Part}
use Rattle.pages.specs.declared.row.Row.{Row}
use Rattle.pages.specs.declared.shape.Place.{Place}
use Rattle.pages.specs.declared.shape.Place.TheVariants.{Root, Child}
use Rattle.pages.specs.Trees.{shows}
use Rattle.pages.specs.Shape.{shapely}
use Rattle.grammar.specs.Words.{word, kinds}
use Rattle.grammar.specs.Reading.{zero_row}

-- what the reader waits for
pub data Phase : Type 0 where
  before : Phase  -- the root's bracket
  opened : Phase  -- a kind's first letter
  in_word : List ℕ → Phase  -- more of a kind's name, after these letters
  named : Phase  -- the `@`
  starting : Phase  -- a start's first digit
  in_start : Phase  -- more digits
  started : Phase  -- flags, a text, children or the end
  in_flags : Phase  -- more flags
  flags_done : Phase  -- a text, children or the end
  in_text : Phase  -- more of a text
  escape : Phase  -- what a backslash stands before
  in_hex : ℕ → Phase  -- the second digit, after this first one
  inside : Phase  -- children or the end
  after : Phase  -- nothing more

-- an open bracket: its row so far, and its node's number
pub record Open : Type 0 where
  pub row : Row
  pub number : ℕ

-- the reader: the open brackets with the innermost first, how many nodes and text bytes there were, and
-- the lowest node found misshapen
pub record Scan : Type 0 where
  pub phase : Phase
  pub stack : List Open
  pub nodes : ℕ
  pub bytes : ℕ
  pub fault : Option ℕ

-- what a byte adds to the page: nothing, a text byte at a place, the row of a node; or it is unread
pub data Effect : Type 0 where
  quiet : Effect
  text_byte : ℕ → ℕ → Effect
  row_done : ℕ → Row → Effect
  unread : Effect

pub record Step : Type 0 where
  pub to : Scan
  pub effect : Effect

abbrev pub prefix : List ℕ → List ℕ → Bool
prefix [] w = true
prefix (a ∷ u) [] = false
prefix (a ∷ u) (b ∷ w) = a == b && prefix u w

abbrev pub same : List ℕ → List ℕ → Bool
same [] [] = true
same [] (b ∷ w) = false
same (a ∷ u) [] = false
same (a ∷ u) (b ∷ w) = a == b && same u w

abbrev pub some_begins : List Kind → List ℕ → Bool
some_begins [] w = false
some_begins (k ∷ ks) w = prefix w (word k) || some_begins ks w

-- some kind's name begins with these letters
unfoldable pub begun : List ℕ → Bool
begun w = some_begins kinds w

abbrev pub first_named : List Kind → List ℕ → Option Kind
first_named [] w = None
first_named (k ∷ ks) w = cond (same w (word k)) (Some k) (first_named ks w)

-- the kind with this name
unfoldable pub kind_named : List ℕ → Option Kind
kind_named w = first_named kinds w

abbrev pub is_blank : ℕ → Bool
is_blank b = b == 32 || b == 10

abbrev pub is_digit : ℕ → Bool
is_digit b = nat_le 48 b && nat_le b 57

abbrev pub is_hex : ℕ → Bool
is_hex b = is_digit b || (nat_le 97 b && nat_le b 102)

abbrev pub hex_value : ℕ → ℕ
hex_value b = cond (nat_le b 57) (b - 48) (b - 87)

abbrev pub stuck : Scan → Step
stuck a = record { to = a; effect = unread }

abbrev pub moved : Phase → Scan → Scan
moved p a = record { phase = p; stack = a.stack; nodes = a.nodes; bytes = a.bytes; fault = a.fault }

-- goes on to a phase, and adds nothing
abbrev pub on_to : Phase → Scan → Step
on_to p a = record { to = moved p a; effect = quiet }

-- the same with another stack
abbrev pub restacked : List Open → Scan → Scan
restacked s a = record { phase = a.phase; stack = s; nodes = a.nodes; bytes = a.bytes; fault = a.fault }

abbrev pub with_kind : Kind → Open → Open
with_kind k e =
    record { row = record { kind = k; flags = e.row.flags; start = e.row.start; text = e.row.text; children = e.row.children }; number = e.number }

abbrev pub with_start : ℕ → Open → Open
with_start n e =
    record { row = record { kind = e.row.kind; flags = e.row.flags; start = n; text = e.row.text; children = e.row.children }; number = e.number }

abbrev pub with_flags : Flags → Open → Open
with_flags f e =
    record { row = record { kind = e.row.kind; flags = f; start = e.row.start; text = e.row.text; children = e.row.children }; number = e.number }

abbrev pub with_text : Part → Open → Open
with_text p e =
    record { row = record { kind = e.row.kind; flags = e.row.flags; start = e.row.start; text = Some p; children = e.row.children }; number = e.number }

abbrev pub with_child : Open → Open
with_child e =
    record { row = record { kind = e.row.kind; flags = e.row.flags; start = e.row.start; text = e.row.text; children = e.row.children + 1 }; number = e.number }

-- the innermost open bracket changed; nothing where none is open
abbrev pub innermost : (Open → Open) → List Open → List Open
innermost f [] = []
innermost f (e ∷ s) = f e ∷ s

-- a bracket opens: one child more for the innermost, and a new entry
abbrev pub open_bracket : Scan → Step
open_bracket a =
    cond (nat_lt (length a.stack) 64)
    (record {
      to = record {
        phase = opened;
        stack = record { row = zero_row; number = a.nodes } ∷ innermost with_child a.stack;
        nodes = a.nodes + 1;
        bytes = a.bytes;
        fault = a.fault;
      };
      effect = quiet;
    })
    (stuck a)

-- where the node of the innermost bracket stands
abbrev pub place_in : List Open → Place
place_in [] = Root
place_in (e ∷ s) = Child e.row.kind e.row.flags (e.row.children - 1)

-- the lower of the faulty node found so far and this one
abbrev pub lower : Option ℕ → ℕ → Option ℕ
lower None n = Some n
lower (Some m) n = Some (cond (nat_lt n m) n m)

-- the fault found so far, after the node of a bracket that closes
abbrev pub fault_after : Open → List Open → Scan → Option ℕ
fault_after e s a =
    cond (shapely (record { place = place_in s; level = 1; node = shows (replicate a.bytes 0) e.row }))
    a.fault (lower a.fault e.number)

abbrev pub phase_in : List Open → Phase
phase_in [] = after
phase_in (e ∷ s) = inside

-- a bracket closes: its row is done
abbrev pub close_bracket : List Open → Scan → Step
close_bracket [] a = stuck a
close_bracket (e ∷ s) a =
    record {
      to = record { phase = phase_in s; stack = s; nodes = a.nodes; bytes = a.bytes; fault = fault_after e s a };
      effect = row_done e.number e.row;
    }

-- one letter more of a kind's name
abbrev pub on_letter : List ℕ → Scan → ℕ → Step
on_letter w a b = cond (begun (w ++ b ∷ [])) (on_to (in_word (w ++ b ∷ [])) a) (stuck a)

-- the blank after a kind's name
abbrev pub on_name : Option Kind → Scan → Step
on_name None a = stuck a
on_name (Some k) a = on_to named (restacked (innermost (with_kind k) a.stack) a)

abbrev pub start_of : List Open → ℕ
start_of [] = 0
start_of (e ∷ s) = e.row.start

abbrev pub flags_of : List Open → Flags
flags_of [] = zero_row.flags
flags_of (e ∷ s) = e.row.flags

-- the start becomes this number
abbrev pub on_number : ℕ → Scan → Step
on_number n a = on_to in_start (restacked (innermost (with_start n) a.stack) a)

-- one digit more: none after a first 0, and none that takes the start over 32 bits
abbrev pub on_digit : Scan → ℕ → Step
on_digit a d =
    cond (start_of a.stack == 0 || nat_le 4294967296 (start_of a.stack * 10 + d)) (stuck a) (on_number (start_of a.stack * 10 + d) a)

abbrev pub on_flags : Flags → Scan → Step
on_flags f a = on_to in_flags (restacked (innermost (with_flags f) a.stack) a)

-- one flag more: o before c before s, each once
abbrev pub on_flag : Flags → Scan → ℕ → Step
on_flag f a b =
    cond (b == 111)
    (cond (f.optional || (f.computed || f.shorthand)) (stuck a) (on_flags (record { optional = true; computed = false; shorthand = false }) a))
    (cond (b == 99)
    (cond (f.computed || f.shorthand) (stuck a) (on_flags (record { optional = f.optional; computed = true; shorthand = false }) a))
    (cond f.shorthand (stuck a) (on_flags (record { optional = f.optional; computed = f.computed; shorthand = true }) a)))

abbrev pub is_flag : ℕ → Bool
is_flag b = b == 111 || (b == 99 || b == 115)

-- a blank or a bracket after a part; a blank leads to this phase
abbrev pub between : Phase → Scan → ℕ → Step
between p a b =
    cond (is_blank b) (on_to p a) (cond (b == 40) (open_bracket a) (cond (b == 41) (close_bracket a.stack a) (stuck a)))

-- the opening quote: a text that begins at the next byte
abbrev pub on_quote : Scan → Step
on_quote a = on_to in_text (restacked (innermost (with_text (record { offset = a.bytes; length = 0 })) a.stack) a)

abbrev pub grown : Option Part → Part
grown None = record { offset = 0; length = 1 }
grown (Some p) = record { offset = p.offset; length = p.length + 1 }

abbrev pub with_byte : Open → Open
with_byte e = with_text (grown e.row.text) e

-- one byte more of a text
abbrev pub on_byte : Scan → ℕ → Step
on_byte a b =
    record {
      to = record { phase = in_text; stack = innermost with_byte a.stack; nodes = a.nodes; bytes = a.bytes + 1; fault = a.fault };
      effect = text_byte a.bytes b;
    }

abbrev pub in_phase : Phase → Scan → ℕ → Step
in_phase before a b = cond (is_blank b) (on_to before a) (cond (b == 40) (open_bracket a) (stuck a))
in_phase opened a b = cond (is_blank b) (on_to opened a) (on_letter [] a b)
in_phase (in_word w) a b = cond (is_blank b) (on_name (kind_named w) a) (on_letter w a b)
in_phase named a b = cond (is_blank b) (on_to named a) (cond (b == 64) (on_to starting a) (stuck a))
in_phase starting a b = cond (is_digit b) (on_number (b - 48) a) (stuck a)
in_phase in_start a b = cond (is_digit b) (on_digit a (b - 48)) (between started a b)
in_phase started a b = cond (b == 34) (on_quote a) (cond (is_flag b) (on_flag (flags_of a.stack) a b) (between started a b))
in_phase in_flags a b = cond (is_flag b) (on_flag (flags_of a.stack) a b) (between flags_done a b)
in_phase flags_done a b = cond (b == 34) (on_quote a) (between flags_done a b)
in_phase in_text a b =
    cond (b == 34) (on_to inside a) (cond (b == 92) (on_to escape a) (cond (nat_le 32 b && nat_le b 126) (on_byte a b) (stuck a)))
in_phase escape a b =
    cond (b == 34 || b == 92) (on_byte a b) (cond (is_hex b) (on_to (in_hex (hex_value b)) a) (stuck a))
in_phase (in_hex h) a b = cond (is_hex b) (on_byte a (16 * h + hex_value b)) (stuck a)
in_phase inside a b = between inside a b
in_phase after a b = cond (is_blank b) (on_to after a) (stuck a)

-- what one byte does
abbrev pub next : Scan → ℕ → Step
next a b = in_phase a.phase a b

-- the page's memory
pub record Memory : Type 0 where
  pub rows : List Row
  pub text : List ℕ

-- the memory after an effect; past its end nothing is written
abbrev pub applied : Effect → Memory → Memory
applied quiet m = m
applied (text_byte at b) m = record { rows = m.rows; text = slice_set m.text at b }
applied (row_done n r) m = record { rows = slice_set m.rows n r; text = m.text }
applied unread m = m

-- a whole reading: it ends, or breaks off with so many bytes left
pub data Ran : Type 0 where
  ended : Scan → Memory → Ran
  broke : ℕ → Ran

-- breaks off here with so many bytes left, if the byte is unread
abbrev pub carried : Effect → ℕ → Ran → Ran
carried quiet n r = r
carried (text_byte at b) n r = r
carried (row_done k row) n r = r
carried unread n r = broke n

unfoldable pub run : List ℕ → Scan → Memory → Ran
run [] a m = ended a m
run (b ∷ s) a m =
    carried (next a b).effect (length s + 1) (run s (next a b).to (applied (next a b).effect m))

-- the reader before its first byte
abbrev pub at_start : Scan
at_start = record { phase = before; stack = []; nodes = 0; bytes = 0; fault = None }
