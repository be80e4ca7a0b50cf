-- The grammar of listings. A `Form` is a derivation: what stands in a form, with the free choices of its
-- layout. Its yield is the bytes that it is written with, and its tree is what it means.
-- Each yield is put in front of the bytes that follow.
use Rattle.std.specs.Prelude.{◌≡◌, ℕ, ◌+◌, ◌*◌, ◌^◌, ◌<◌, ◌≤◌, max, true, false, List, [], ◌∷◌, ◌++◌, decimal}
use Rattle.pages.specs.declared.kind.Kind.{Kind}
use Rattle.pages.specs.declared.row.Flags.{Flags}
use Rattle.pages.specs.Trees.{Text, without, bytes, Label, Tree, Forest, tree, none, more}
use Rattle.grammar.specs.Words.{word, flag_word, flagged, stands, hex}

-- what separates parts: the blank and the line end
pub data Blank : Type 0 where
  space : Blank
  line_end : Blank

abbrev pub blank : Blank → ℕ
blank space = 32
blank line_end = 10

-- any number of blanks
abbrev pub gap : List Blank → List ℕ → List ℕ
gap [] r = r
gap (b ∷ g) r = blank b ∷ gap g r

-- how one byte of a text is written: as itself, by a backslash and itself (the quote and the backslash),
-- or by a backslash and two hexadecimal digits
pub data Letter : Type 0 where
  itself : (b : ℕ) → stands b ≡ true → Letter
  quote : Letter
  backslash : Letter
  digits : (high low : ℕ) → high < 16 → low < 16 → Letter

abbrev pub letter : Letter → List ℕ → List ℕ
letter (itself b p) r = b ∷ r
letter quote r = 92 ∷ 34 ∷ r
letter backslash r = 92 ∷ 92 ∷ r
letter (digits high low p q) r = 92 ∷ hex high ∷ hex low ∷ r

abbrev pub letter_byte : Letter → ℕ
letter_byte (itself b p) = b
letter_byte quote = 34
letter_byte backslash = 92
letter_byte (digits high low p q) = 16 * high + low

-- a text up to and with its closing quote
abbrev pub letters : List Letter → List ℕ → List ℕ
letters [] r = 34 ∷ r
letters (l ∷ ls) r = letter l (letters ls r)

abbrev pub letters_bytes : List Letter → List ℕ
letters_bytes [] = []
letters_bytes (l ∷ ls) = letter_byte l ∷ letters_bytes ls

-- the flags of a form, with at least one blank in front; no part where no flag is set
pub data FlagPart : Type 0 where
  unflagged : FlagPart
  marked : Blank → List Blank → (f : Flags) → flagged f ≡ true → FlagPart

abbrev pub flag_part : FlagPart → List ℕ → List ℕ
flag_part unflagged r = r
flag_part (marked b g f p) r = blank b ∷ gap g (flag_word f ++ r)

abbrev pub part_flags : FlagPart → Flags
part_flags unflagged = record { optional = false; computed = false; shorthand = false }
part_flags (marked b g f p) = f

-- the quoted text of a form, with at least one blank in front, or none
pub data TextPart : Type 0 where
  textless : TextPart
  quoted : Blank → List Blank → List Letter → TextPart

abbrev pub text_part : TextPart → List ℕ → List ℕ
text_part textless r = r
text_part (quoted b g ls) r = blank b ∷ gap g (34 ∷ letters ls r)

abbrev pub part_text : TextPart → Text
part_text textless = without
part_text (quoted b g ls) = bytes (letters_bytes ls)

-- what stands in a form before its children
pub record Head : Type 0 where
  pub before_kind : List Blank
  pub kind : Kind
  pub after_kind : Blank
  pub before_start : List Blank
  pub start : ℕ
  pub start_fits : start < 2 ^ 32
  pub flags : FlagPart
  pub text : TextPart

abbrev pub head : Head → List ℕ → List ℕ
head h r =
    gap h.before_kind (word h.kind ++ (blank h.after_kind ∷ gap h.before_start (64 ∷ (decimal h.start ++ flag_part h.flags (text_part h.text r)))))

abbrev pub head_label : Head → Label
head_label h = record { kind = h.kind; flags = part_flags h.flags; start = h.start; text = part_text h.text }

mutual
  -- a form in its brackets
  pub data Form : Type 0 where
    form : Head → Children → Form

  -- the children of a form, up to its closing bracket
  pub data Children : Type 0 where
    close : List Blank → Children
    child : List Blank → Form → Children → Children

abbrev mutual
  pub yield : Form → List ℕ → List ℕ
  yield (form h c) r = 40 ∷ head h (yield_children c r)

  pub yield_children : Children → List ℕ → List ℕ
  yield_children (close g) r = gap g (41 ∷ r)
  yield_children (child g f c) r = gap g (yield f (yield_children c r))

abbrev mutual
  pub tree_of : Form → Tree
  tree_of (form h c) = tree (head_label h) (forest_of c)

  pub forest_of : Children → Forest
  forest_of (close g) = none
  forest_of (child g f c) = more (tree_of f) (forest_of c)

abbrev mutual
  -- how many brackets are open at once, at most
  pub height : Form → ℕ
  height (form h c) = height_children c + 1

  pub height_children : Children → ℕ
  height_children (close g) = 0
  height_children (child g f c) = max (height f) (height_children c)

-- The bytes are a listing of the tree: one form, with blanks around it, and at most 64 brackets open at once.
pub record Listing (s : List ℕ) (t : Tree) : Type 0 where
  pub before : List Blank
  pub root : Form
  pub after : List Blank
  pub bytes_are : s ≡ gap before (yield root (gap after []))
  pub tree_is : tree_of root ≡ t
  pub height_is : height root ≤ 64

-- some listing begins with these bytes
abbrev pub GoesOn : List ℕ → Type 0
GoesOn s = (q : List ℕ) × ((t : Tree) × Listing (s ++ q) t)
