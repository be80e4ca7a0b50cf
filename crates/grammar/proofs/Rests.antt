-- What the grammar says of the bytes that are left, at each point of a reading: with these bytes a listing
-- is complete from here.
use Rattle.std.proofs.Common.{◌≡◌, ℕ, zero, suc, ◌+◌, ◌^◌, ◌<◌, ◌≤◌, true, List, [], ◌∷◌, ◌++◌, length, decimal}
use Rattle.pages.specs.declared.kind.Kind.{Kind}
use Rattle.pages.specs.declared.row.Flags.{Flags}
use Rattle.grammar.specs.Words.{word, flag_word, flagged, hex}
use Rattle.grammar.specs.Grammar.{Blank, blank, gap, Letter, letters, FlagPart, flag_part, TextPart, text_part, Form, Children, yield, yield_children, height, height_children}
use Rattle.grammar.specs.Reading.{zero_row}
use Rattle.grammar.specs.Scan.{Phase, before, opened, in_word, named, starting, in_start, started, in_flags, flags_done, in_text, escape, in_hex, inside, after, Open}

-- the flags of a form that has none yet
abbrev pub none_set : Flags
none_set = zero_row.flags

-- so many brackets are open: the children of the innermost and its closing bracket, then those of the outer ones
abbrev pub Tail : ℕ → List ℕ → Type 0
Tail zero s = (g : List Blank) × (s ≡ gap g [])
Tail (suc d) s = (c : Children) × (r : List ℕ) × (s ≡ yield_children c r) × (suc d ≤ 64 → suc d + height_children c ≤ 64) × Tail d r

-- a text or none, then the rest
abbrev pub TextRest : ℕ → List ℕ → Type 0
TextRest d s = (t : TextPart) × (r : List ℕ) × (s ≡ text_part t r) × Tail d r

-- flags or none, then a text or none, then the rest
abbrev pub FlagRest : ℕ → List ℕ → Type 0
FlagRest d s = (p : FlagPart) × (r : List ℕ) × (s ≡ flag_part p r) × TextRest d r

-- the rest of a text
abbrev pub LettersRest : ℕ → List ℕ → Type 0
LettersRest d s = (ls : List Letter) × (r : List ℕ) × (s ≡ letters ls r) × Tail d r

-- more flags after these
abbrev pub FlagsMore : ℕ → Flags → List ℕ → Type 0
FlagsMore d f s =
    (f' : Flags) × (w : List ℕ) × (r : List ℕ) × (flagged f' ≡ true) × (flag_word f' ≡ flag_word f ++ w) × (s ≡ w ++ r) × TextRest d r

-- more digits after those of this number
abbrev pub DigitsMore : ℕ → ℕ → List ℕ → Type 0
DigitsMore d n s =
    (n' : ℕ) × (w : List ℕ) × (r : List ℕ) × (n' < 2 ^ 32) × (decimal n' ≡ decimal n ++ w) × (s ≡ w ++ r) × FlagRest d r

-- a whole start
abbrev pub StartRest : ℕ → List ℕ → Type 0
StartRest d s = (n : ℕ) × (r : List ℕ) × (n < 2 ^ 32) × (s ≡ decimal n ++ r) × FlagRest d r

-- blanks, and a start with its sign
abbrev pub NamedRest : ℕ → List ℕ → Type 0
NamedRest d s = (g : List Blank) × (r : List ℕ) × (s ≡ gap g (64 ∷ r)) × StartRest d r

-- more of a kind's name after these letters
abbrev pub WordMore : ℕ → List ℕ → List ℕ → Type 0
WordMore d w s =
    (k : Kind) × (w' : List ℕ) × (b : Blank) × (r : List ℕ) × (word k ≡ w ++ w') × (s ≡ w' ++ blank b ∷ r) × NamedRest d r

-- blanks and a kind's name
abbrev pub OpenedRest : ℕ → List ℕ → Type 0
OpenedRest d s = (g : List Blank) × (r : List ℕ) × (s ≡ gap g r) × WordMore d [] r

-- blanks and a form, then the rest
abbrev pub FormRest : ℕ → List ℕ → Type 0
FormRest d s = (g : List Blank) × (f : Form) × (r : List ℕ) × (s ≡ gap g (yield f r)) × (d + height f ≤ 64) × Tail d r

-- With the innermost bracket open, these bytes complete a listing, if what is kept of it is sound: no flags
-- before the flags and some after the first, a start below 2 ^ 32, a digit below 16. After a blank, they do so with any blank in front.
abbrev pub Inner : Phase → ℕ → ℕ → Flags → List ℕ → Type 0
Inner before d n f s = FormRest d s
Inner opened d n f s = f ≡ none_set → OpenedRest d s
Inner (in_word w) d n f s = f ≡ none_set → WordMore d w s
Inner named d n f s = f ≡ none_set → NamedRest d s
Inner starting d n f s = f ≡ none_set → StartRest d s
Inner in_start d n f s = f ≡ none_set → n < 2 ^ 32 → DigitsMore d n s
Inner started d n f s = f ≡ none_set → (b : Blank) → FlagRest d (blank b ∷ s)
Inner in_flags d n f s = flagged f ≡ true → FlagsMore d f s
Inner flags_done d n f s = (b : Blank) → TextRest d (blank b ∷ s)
Inner in_text d n f s = LettersRest d s
Inner escape d n f s = LettersRest d (92 ∷ s)
Inner (in_hex h) d n f s = h < 16 → LettersRest d (92 ∷ hex h ∷ s)
Inner inside d n f s = Tail d s
Inner after d n f s = Tail 0 s

-- the same with no bracket open: before and after the root
abbrev pub Outer : Phase → List ℕ → Type 0
Outer before s = FormRest 0 s
Outer opened s = Unit
Outer (in_word w) s = Unit
Outer named s = Unit
Outer starting s = Unit
Outer in_start s = Unit
Outer started s = Unit
Outer in_flags s = Unit
Outer flags_done s = Unit
Outer in_text s = Unit
Outer escape s = Unit
Outer (in_hex h) s = Unit
Outer inside s = Unit
Outer after s = Tail 0 s

abbrev pub Rest : Phase → List Open → List ℕ → Type 0
Rest p [] s = Outer p s
Rest p (e ∷ st) s = Inner p (suc (length st)) e.row.start e.row.flags s
