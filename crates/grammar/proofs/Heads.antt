-- The reader over what stands in a form before its children.
use Rattle.std.proofs.Common.{◌≡◌, ℕ, ◌+◌, ◌-◌, ◌*◌, ◌/◌, ◌%◌, ◌^◌, ◌<◌, ◌≤◌, Bool, true, false, cond, ◌&&◌, ◌||◌, eqb, ltb, leb, List, [], ◌∷◌, ◌++◌, length, set, Some, None, decimal, Option, refl, ap, ◌∙◌, ap₂, ⊎_elim, arith}
use Rattle.std.proofs.lemmas.Bool.{and_from, and_parts, or_from, or_left, or_right, ne_eqb, le-leb, lt-leb, lt-ltb, le-ltb, cond-true, cond-false, cases_lt, false≢true}
use Rattle.std.proofs.lemmas.List.{append_assoc}
use Rattle.std.proofs.lemmas.Fmt.{decimal_by_steps}
use Rattle.pages.specs.declared.kind.Kind.{Kind}
use Rattle.pages.specs.declared.kind.Kind.TheVariants.{Node, Name, Number, Key, Private, Jattr, String, Directive, Template, Paren, Cond, Seq, In, Default, Member, Jmember, Index, Slot, Prop, Bind, Full, Method, Field, Accessor, Bare}
use Rattle.pages.specs.declared.row.Flags.{Flags}
use Rattle.grammar.specs.Words.{word, flag_word, flagged, stands, hex}
use Rattle.grammar.specs.Grammar.{Blank, space, line_end, blank, gap, Letter, itself, quote, backslash, digits, letter, letter_byte, letters, letters_bytes, FlagPart, unflagged, marked, flag_part, part_flags, TextPart, textless, quoted, text_part, part_text, Head, head}
use Rattle.grammar.specs.Scan.{Phase, before, opened, in_word, named, starting, in_start, started, in_flags, flags_done, in_text, escape, in_hex, inside, after, Open, Scan, Memory, Ran, Step, next, on_to, run, begun, kind_named, with_kind, carried, applied, on_name, is_digit, is_hex, hex_value, with_start, on_number, on_digit, stuck, between, with_flags, with_byte, with_text, on_byte}
use Rattle.pages.specs.declared.row.Part.{Part}
use Rattle.grammar.specs.Reading.{part_at, text_of, zero_row}
use Rattle.grammar.proofs.Puts.{puts}

-- the reader at a phase
abbrev pub scan : Phase → List Open → ℕ → ℕ → Option ℕ → Scan
scan p s n b f = record { phase = p; stack = s; nodes = n; bytes = b; fault = f }

abbrev pub no_flags : Flags
no_flags = record { optional = false; computed = false; shorthand = false }

-- one byte, where its step is known
pub stepped : (a : Scan) (b : ℕ) (r : List ℕ) (m : Memory) (t : Step) → next a b ≡ t
    → run (b ∷ r) a m ≡ carried t.effect (length r + 1) (run r t.to (applied t.effect m))
unfolding run
stepped a b r m t e = ap (λ (t : Step). carried t.effect (length r + 1) (run r t.to (applied t.effect m))) e

-- the phases that a blank keeps
pub data Waits : Phase → Type 0 where
  at_before : Waits before
  at_opened : Waits opened
  at_named : Waits named
  at_started : Waits started
  at_flags_done : Waits flags_done
  at_inside : Waits inside
  at_after : Waits after

-- the phases that a blank ends, each with the phase that it leads to
data BlankEnds : Phase → Phase → Type 0 where
  ends_start : BlankEnds in_start started
  ends_flags : BlankEnds in_flags flags_done

kind_of_word : (k : Kind) → kind_named (word k) ≡ Some k
unfolding kind_named
kind_of_word Node = refl
kind_of_word Name = refl
kind_of_word Number = refl
kind_of_word Key = refl
kind_of_word Private = refl
kind_of_word Jattr = refl
kind_of_word String = refl
kind_of_word Directive = refl
kind_of_word Template = refl
kind_of_word Paren = refl
kind_of_word Cond = refl
kind_of_word Seq = refl
kind_of_word In = refl
kind_of_word Default = refl
kind_of_word Member = refl
kind_of_word Jmember = refl
kind_of_word Index = refl
kind_of_word Slot = refl
kind_of_word Prop = refl
kind_of_word Bind = refl
kind_of_word Full = refl
kind_of_word Method = refl
kind_of_word Field = refl
kind_of_word Accessor = refl
kind_of_word Bare = refl

digit_is : (d : ℕ) → d < 10 → is_digit (48 + d) ≡ true
digit_is d h = and_from _ _ (le-leb 48 (48 + d) (omega arith)) (le-leb (48 + d) 57 (omega arith))

-- a lower-case hexadecimal digit is read back
record HexRead (d x : ℕ) : Type 0 where
  no_quote : (eqb x 34 || eqb x 92) ≡ false
  is : is_hex x ≡ true
  value : hex_value x ≡ d

hex_small : (d x : ℕ) → d < 10 → x ≡ 48 + d → HexRead d x
hex_small d x h e =
    record {
      no_quote = or_from _ _ (ne_eqb x 34 (λ z. omega arith)) (ne_eqb x 92 (λ z. omega arith));
      is = or_left _ _ (and_from _ _ (le-leb 48 x (omega arith)) (le-leb x 57 (omega arith)));
      value = cond-true (leb x 57) (x - 48) (x - 87) (le-leb x 57 (omega arith)) ∙ omega arith;
    }

hex_large : (d x : ℕ) → 10 ≤ d → d < 16 → x ≡ 87 + d → HexRead d x
hex_large d x l h e =
    record {
      no_quote = or_from _ _ (ne_eqb x 34 (λ z. omega arith)) (ne_eqb x 92 (λ z. omega arith));
      is = or_right _ _ (and_from _ _ (le-leb 97 x (omega arith)) (le-leb x 102 (omega arith)));
      value = cond-false (leb x 57) (x - 48) (x - 87) (lt-leb x 57 (omega arith)) ∙ omega arith;
    }

hex_read : (d : ℕ) → d < 16 → HexRead d (hex d)
hex_read d h =
    ⊎_elim
    (λ l. hex_small d (hex d) l (cond-true (ltb d 10) (48 + d) (87 + d) (lt-ltb d 10 l)))
    (λ g. hex_large d (hex d) g h (cond-false (ltb d 10) (48 + d) (87 + d) (le-ltb d 10 g)))
    (cases_lt d 10)

-- a byte that stands for itself
record Stands (x : ℕ) : Type 0 where
  no_quote : eqb x 34 ≡ false
  no_backslash : eqb x 92 ≡ false
  printable : (leb 32 x && leb x 126) ≡ true

neither : (x y : Bool) → cond x false (cond y false true) ≡ true → (x ≡ false) × (y ≡ false)
neither true y h = absurd (false≢true h)
neither false true h = absurd (false≢true h)
neither false false h = (refl, refl)

stands_read : (x : ℕ) → stands x ≡ true → Stands x
stands_read x h =
    let p = and_parts (leb 32 x && leb x 126) (cond (eqb x 34) false (cond (eqb x 92) false true)) h in
    let q = neither (eqb x 34) (eqb x 92) p.1 in
    record { no_quote = q.0; no_backslash = q.1; printable = p.0 }

module _ (s : List Open) (n b : ℕ) (f : Option ℕ) (m : Memory) where
  blank_kept : {p : Phase} → Waits p → (c : Blank) (r : List ℕ) → run (blank c ∷ r) (scan p s n b f) m ≡ run r (scan p s n b f) m
  unfolding run
  blank_kept at_before space r = refl
  blank_kept at_before line_end r = refl
  blank_kept at_opened space r = refl
  blank_kept at_opened line_end r = refl
  blank_kept at_named space r = refl
  blank_kept at_named line_end r = refl
  blank_kept at_started space r = refl
  blank_kept at_started line_end r = refl
  blank_kept at_flags_done space r = refl
  blank_kept at_flags_done line_end r = refl
  blank_kept at_inside space r = refl
  blank_kept at_inside line_end r = refl
  blank_kept at_after space r = refl
  blank_kept at_after line_end r = refl

  pub gap_kept : {p : Phase} → Waits p → (g : List Blank) (r : List ℕ) → run (gap g r) (scan p s n b f) m ≡ run r (scan p s n b f) m
  gap_kept w [] r = refl
  gap_kept w (c ∷ g) r = blank_kept w c (gap g r) ∙ gap_kept w g r

  blank_ends : {p q : Phase} → BlankEnds p q → (c : Blank) (r : List ℕ) → run (blank c ∷ r) (scan p s n b f) m ≡ run r (scan q s n b f) m
  unfolding run
  blank_ends ends_start space r = refl
  blank_ends ends_start line_end r = refl
  blank_ends ends_flags space r = refl
  blank_ends ends_flags line_end r = refl

  word_read : (k : Kind) (r : List ℕ) → run (word k ++ r) (scan opened s n b f) m ≡ run r (scan (in_word (word k)) s n b f) m
  unfolding run begun
  word_read Node r = refl
  word_read Name r = refl
  word_read Number r = refl
  word_read Key r = refl
  word_read Private r = refl
  word_read Jattr r = refl
  word_read String r = refl
  word_read Directive r = refl
  word_read Template r = refl
  word_read Paren r = refl
  word_read Cond r = refl
  word_read Seq r = refl
  word_read In r = refl
  word_read Default r = refl
  word_read Member r = refl
  word_read Jmember r = refl
  word_read Index r = refl
  word_read Slot r = refl
  word_read Prop r = refl
  word_read Bind r = refl
  word_read Full r = refl
  word_read Method r = refl
  word_read Field r = refl
  word_read Accessor r = refl
  word_read Bare r = refl

  -- the blank after a kind's name
  name_read : (e : Open) (k : Kind) (c : Blank) (r : List ℕ)
      → run (blank c ∷ r) (scan (in_word (word k)) (e ∷ s) n b f) m ≡ run r (scan named (with_kind k e ∷ s) n b f) m
  name_read e k space r =
      stepped (scan (in_word (word k)) (e ∷ s) n b f) 32 r m (on_to named (scan (in_word (word k)) (with_kind k e ∷ s) n b f))
      (ap (λ (o : Option Kind). on_name o (scan (in_word (word k)) (e ∷ s) n b f)) (kind_of_word k))
  name_read e k line_end r =
      stepped (scan (in_word (word k)) (e ∷ s) n b f) 10 r m (on_to named (scan (in_word (word k)) (with_kind k e ∷ s) n b f))
      (ap (λ (o : Option Kind). on_name o (scan (in_word (word k)) (e ∷ s) n b f)) (kind_of_word k))

  at_sign_read : (r : List ℕ) → run (64 ∷ r) (scan named s n b f) m ≡ run r (scan starting s n b f) m
  unfolding run
  at_sign_read r = refl

  first_digit : (e : Open) (d : ℕ) (r : List ℕ) → d < 10
      → run ((48 + d) ∷ r) (scan starting (e ∷ s) n b f) m ≡ run r (scan in_start (with_start d e ∷ s) n b f) m
  first_digit e d r h =
      let a : Scan = scan starting (e ∷ s) n b f in
      stepped a (48 + d) r m (on_number d a)
      (cond-true (is_digit (48 + d)) (on_number (48 + d - 48) a) (stuck a) (digit_is d h)
      ∙ ap (λ (k : ℕ). on_number k a) (omega arith))

  more_digit : (e : Open) (d : ℕ) (r : List ℕ) → d < 10 → 0 < e.row.start → e.row.start * 10 + d < 2 ^ 32
      → run ((48 + d) ∷ r) (scan in_start (e ∷ s) n b f) m ≡ run r (scan in_start (with_start (e.row.start * 10 + d) e ∷ s) n b f) m
  more_digit e d r h z fits =
      let a : Scan = scan in_start (e ∷ s) n b f in
      let q : ℕ = e.row.start in
      stepped a (48 + d) r m (on_number (q * 10 + d) a)
      (cond-true (is_digit (48 + d)) (on_digit a (48 + d - 48)) (between started a (48 + d)) (digit_is d h)
      ∙ ap (on_digit a) (omega arith)
      ∙ cond-false (eqb q 0 || leb 4294967296 (q * 10 + d)) (stuck a) (on_number (q * 10 + d) a)
      (or_from _ _ (ne_eqb q 0 (λ x. omega arith)) (lt-leb 4294967296 (q * 10 + d) (omega arith))))

  number_read : (e : Open) (d : ℕ) (r : List ℕ) → d < 2 ^ 32
      → run (decimal d ++ r) (scan starting (e ∷ s) n b f) m ≡ run r (scan in_start (with_start d e ∷ s) n b f) m
  number_read e d r h = decimal_by_steps P one more d (omega arith) h r
    where
      P : ℕ → List ℕ → Type 0
      P d ds = d < 2 ^ 32 → (r : List ℕ) → run (ds ++ r) (scan starting (e ∷ s) n b f) m ≡ run r (scan in_start (with_start d e ∷ s) n b f) m

      one : (d : ℕ) → d < 10 → P d ((48 + d) ∷ [])
      one d small fits r = first_digit e d r small

      more : (d : ℕ) (ds : List ℕ) → 10 ≤ d → P (d / 10) ds → P d (ds ++ ((48 + d % 10) ∷ []))
      more d ds large front fits r =
          ap (λ (x : List ℕ). run x (scan starting (e ∷ s) n b f) m) (append_assoc ds ((48 + d % 10) ∷ []) r)
          ∙ front (omega arith) ((48 + d % 10) ∷ r)
          ∙ more_digit (with_start (d / 10) e) (d % 10) r (omega arith) (omega arith) (omega arith)
          ∙ ap (λ (k : ℕ). run r (scan in_start (with_start k e ∷ s) n b f) m) (omega arith)

  some_flags : (e : Open) (o c h : Bool) (r : List ℕ) → flagged (record { optional = o; computed = c; shorthand = h }) ≡ true
      → run (flag_word (record { optional = o; computed = c; shorthand = h }) ++ r) (scan started (with_flags no_flags e ∷ s) n b f) m
      ≡ run r (scan in_flags (with_flags (record { optional = o; computed = c; shorthand = h }) e ∷ s) n b f) m
  unfolding run
  some_flags e true true true r h = refl
  some_flags e true true false r h = refl
  some_flags e true false true r h = refl
  some_flags e true false false r h = refl
  some_flags e false true true r h = refl
  some_flags e false true false r h = refl
  some_flags e false false true r h = refl
  some_flags e false false false r h = absurd (false≢true h)

  -- one letter of a text
  letter_read : (e : Open) (l : Letter) (r : List ℕ)
      → run (letter l r) (scan in_text (e ∷ s) n b f) m
      ≡ run r (scan in_text (with_byte e ∷ s) n (b + 1) f) (record { rows = m.rows; text = set m.text b (letter_byte l) })
  unfolding run
  letter_read e (itself c p) r =
      let a : Scan = scan in_text (e ∷ s) n b f in
      let q = stands_read c p in
      stepped a c r m (on_byte a c)
      (cond-false (eqb c 34) (on_to inside a) _ q.no_quote
      ∙ cond-false (eqb c 92) (on_to escape a) _ q.no_backslash
      ∙ cond-true (leb 32 c && leb c 126) (on_byte a c) (stuck a) q.printable)
  letter_read e quote r = refl
  letter_read e backslash r = refl
  letter_read e (digits high low p q) r =
      let a : Scan = scan escape (e ∷ s) n b f in
      let x = hex_read high p in
      let y = hex_read low q in
      let z : Scan = scan (in_hex high) (e ∷ s) n b f in
      stepped a (hex high) (hex low ∷ r) m (on_to (in_hex high) a)
      (cond-false (eqb (hex high) 34 || eqb (hex high) 92) (on_byte a (hex high)) _ x.no_quote
      ∙ cond-true (is_hex (hex high)) (on_to (in_hex (hex_value (hex high))) a) (stuck a) x.is
      ∙ ap (λ (k : ℕ). on_to (in_hex k) a) x.value)
      ∙ stepped z (hex low) r m (on_byte z (16 * high + low))
      (cond-true (is_hex (hex low)) (on_byte z (16 * high + hex_value (hex low))) (stuck z) y.is
      ∙ ap (λ (k : ℕ). on_byte z (16 * high + k)) y.value)

-- an open bracket, by its parts
abbrev pub entry : Kind → Flags → ℕ → Option Part → ℕ → ℕ → Open
entry k l at x i j = record { row = record { kind = k; flags = l; start = at; text = x; children = i }; number = j }

-- a text up to and with its closing quote
letters_read : (s : List Open) (n : ℕ) (f : Option ℕ) (e : Open) (o l : ℕ) (ls : List Letter) (r : List ℕ) (b : ℕ) (m : Memory)
    → run (letters ls r) (scan in_text (with_text (record { offset = o; length = l }) e ∷ s) n b f) m
    ≡ run r (scan inside (with_text (record { offset = o; length = l + length (letters_bytes ls) }) e ∷ s) n (b + length (letters_bytes ls)) f)
    (record { rows = m.rows; text = puts b (letters_bytes ls) m.text })
unfolding run
letters_read s n f e o l [] r b m =
    ap₂ (λ (k j : ℕ). run r (scan inside (with_text (record { offset = o; length = k }) e ∷ s) n j f) m) (omega arith) (omega arith)
letters_read s n f e o l (x ∷ ls) r b m =
    letter_read s n b f m (with_text (record { offset = o; length = l }) e) x (letters ls r)
    ∙ letters_read s n f e o (l + 1) ls r (b + 1) (record { rows = m.rows; text = set m.text b (letter_byte x) })
    ∙ ap₂
    (λ (k j : ℕ). run r (scan inside (with_text (record { offset = o; length = k }) e ∷ s) n j f)
    (record { rows = m.rows; text = puts b (letters_bytes (x ∷ ls)) m.text }))
    (omega arith) (omega arith)

-- the phases in which children or the end of a form may come
pub data Between : Phase → Type 0 where
  after_start : Between in_start
  after_started : Between started
  after_flags : Between in_flags
  after_flags_done : Between flags_done
  after_inside : Between inside

-- where blanks lead from such a phase: what is shown of any such phase after them holds before them
pub gap_between : (g : List Blank) {p : Phase} → Between p → (s : List Open) (n b : ℕ) (f : Option ℕ) (m : Memory) (r : List ℕ) (X : Ran)
    → ((u : Phase) → Between u → run r (scan u s n b f) m ≡ X) → run (gap g r) (scan p s n b f) m ≡ X
gap_between [] {p} w s n b f m r X goes = goes p w
gap_between (c ∷ g) after_start s n b f m r X goes = blank_ends s n b f m ends_start c (gap g r) ∙ gap_between g after_started s n b f m r X goes
gap_between (c ∷ g) after_started s n b f m r X goes = blank_kept s n b f m at_started c (gap g r) ∙ gap_between g after_started s n b f m r X goes
gap_between (c ∷ g) after_flags s n b f m r X goes = blank_ends s n b f m ends_flags c (gap g r) ∙ gap_between g after_flags_done s n b f m r X goes
gap_between (c ∷ g) after_flags_done s n b f m r X goes = blank_kept s n b f m at_flags_done c (gap g r) ∙ gap_between g after_flags_done s n b f m r X goes
gap_between (c ∷ g) after_inside s n b f m r X goes = blank_kept s n b f m at_inside c (gap g r) ∙ gap_between g after_inside s n b f m r X goes

ends_between : {p q : Phase} → BlankEnds p q → Between p
ends_between ends_start = after_start
ends_between ends_flags = after_flags

ends_waits : {p q : Phase} → BlankEnds p q → Waits q
ends_waits ends_start = at_started
ends_waits ends_flags = at_flags_done

module _ (s : List Open) (n b : ℕ) (f : Option ℕ) (m : Memory) where
  quote_read : {p q : Phase} → BlankEnds p q → (e : Open) (r : List ℕ)
      → run (34 ∷ r) (scan q (e ∷ s) n b f) m ≡ run r (scan in_text (with_text (record { offset = b; length = 0 }) e ∷ s) n b f) m
  unfolding run
  quote_read ends_start e r = refl
  quote_read ends_flags e r = refl

  -- where the text of a form, or its absence, leads; what is shown of any such place holds of the start
  text_read : {p q : Phase} → BlankEnds p q → (k : Kind) (l : Flags) (at i j : ℕ) (x : TextPart) (r : List ℕ) (X : Ran)
      → ((u : Phase) → Between u
      → run r (scan u (entry k l at (part_at b (part_text x)) i j ∷ s) n (b + length (text_of (part_text x))) f)
      (record { rows = m.rows; text = puts b (text_of (part_text x)) m.text }) ≡ X)
      → run (text_part x r) (scan p (entry k l at None i j ∷ s) n b f) m ≡ X
  text_read {p} z k l at i j textless r X goes =
      ap (λ (c : ℕ). run r (scan p (entry k l at None i j ∷ s) n c f) m) (omega arith) ∙ goes p (ends_between z)
  text_read z k l at i j (quoted c g ls) r X goes =
      blank_ends (entry k l at None i j ∷ s) n b f m z c (gap g (34 ∷ letters ls r))
      ∙ gap_kept (entry k l at None i j ∷ s) n b f m (ends_waits z) g (34 ∷ letters ls r)
      ∙ quote_read z (entry k l at None i j) (letters ls r)
      ∙ letters_read s n f (entry k l at None i j) b 0 ls r b m
      ∙ ap (λ (c : ℕ). run r (scan inside (entry k l at (Some (record { offset = b; length = c })) i j ∷ s) n (b + length (letters_bytes ls)) f)
      (record { rows = m.rows; text = puts b (letters_bytes ls) m.text })) (omega arith)
      ∙ goes inside after_inside

  -- where the flags and the text of a form lead
  parts_read : (k : Kind) (at i j : ℕ) (l : FlagPart) (x : TextPart) (r : List ℕ) (X : Ran)
      → ((u : Phase) → Between u
      → run r (scan u (entry k (part_flags l) at (part_at b (part_text x)) i j ∷ s) n (b + length (text_of (part_text x))) f)
      (record { rows = m.rows; text = puts b (text_of (part_text x)) m.text }) ≡ X)
      → run (flag_part l (text_part x r)) (scan in_start (entry k no_flags at None i j ∷ s) n b f) m ≡ X
  parts_read k at i j unflagged x r X goes = text_read ends_start k no_flags at i j x r X goes
  parts_read k at i j (marked c g l p) x r X goes =
      blank_ends (entry k no_flags at None i j ∷ s) n b f m ends_start c (gap g (flag_word l ++ text_part x r))
      ∙ gap_kept (entry k no_flags at None i j ∷ s) n b f m at_started g (flag_word l ++ text_part x r)
      ∙ some_flags s n b f m (entry k no_flags at None i j) l.optional l.computed l.shorthand (text_part x r) p
      ∙ text_read ends_flags k l at i j x r X goes

  -- where what stands in a form before its children leads
  pub head_read : (j : ℕ) (h : Head) (r : List ℕ) (X : Ran)
      → ((u : Phase) → Between u
      → run r (scan u (entry h.kind (part_flags h.flags) h.start (part_at b (part_text h.text)) 0 j ∷ s) n (b + length (text_of (part_text h.text))) f)
      (record { rows = m.rows; text = puts b (text_of (part_text h.text)) m.text }) ≡ X)
      → run (head h r) (scan opened (record { row = zero_row; number = j } ∷ s) n b f) m ≡ X
  head_read j h r X goes =
      let rest : List ℕ = flag_part h.flags (text_part h.text r) in
      let digits_on : List ℕ = decimal h.start ++ rest in
      let e : Open = record { row = zero_row; number = j } in
      gap_kept (e ∷ s) n b f m at_opened h.before_kind (word h.kind ++ (blank h.after_kind ∷ gap h.before_start (64 ∷ digits_on)))
      ∙ word_read (e ∷ s) n b f m h.kind (blank h.after_kind ∷ gap h.before_start (64 ∷ digits_on))
      ∙ name_read s n b f m e h.kind h.after_kind (gap h.before_start (64 ∷ digits_on))
      ∙ gap_kept (entry h.kind no_flags 0 None 0 j ∷ s) n b f m at_named h.before_start (64 ∷ digits_on)
      ∙ at_sign_read (entry h.kind no_flags 0 None 0 j ∷ s) n b f m digits_on
      ∙ number_read s n b f m (entry h.kind no_flags 0 None 0 j) h.start rest h.start_fits
      ∙ parts_read h.kind h.start 0 j h.flags h.text r X goes
