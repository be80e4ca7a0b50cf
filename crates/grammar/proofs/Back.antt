-- One byte back: what completes a listing after a byte that is read completes it, with that byte in front, before.
use Rattle.std.proofs.Common.{◌≡◌, ℕ, zero, suc, ◌+◌, ◌-◌, ◌*◌, ◌/◌, ◌%◌, ◌^◌, ◌<◌, ◌≤◌, Bool, true, false, cond, ◌&&◌, ◌||◌, eqb, ltb, leb, ◌⊎◌, List, [], ◌∷◌, ◌++◌, length, Some, None, decimal, Option, sym, refl, ap, ◌∙◌, subst, inl, inr, append_assoc, append-nil, arith}
use Rattle.std.proofs.lemmas.Bool.{eqb-true, eqb-false, ltb-true, leb-true, leb-false, or_cases, or_parts, and_parts, and_from, cond-true, cond-false, lt-ltb, le-ltb, le-leb, lt-leb, false≢true}
use Rattle.std.proofs.lemmas.Fmt.{decimal_digit, decimal_step}
use Rattle.pages.specs.declared.kind.Kind.{Kind}
use Rattle.pages.specs.declared.row.Flags.{Flags}
use Rattle.grammar.specs.Words.{word, kinds, flag_word, stands, hex}
use Rattle.grammar.specs.Grammar.{Blank, space, line_end, blank, itself, quote, backslash, digits, letters, unflagged, marked, textless, quoted, Form, form, close, child, yield, height}
use Rattle.grammar.specs.Scan.{Phase, before, opened, in_word, named, starting, in_start, started, in_flags, flags_done, in_text, escape, in_hex, inside, after, Open, Scan, unread, Step, in_phase, is_blank, is_digit, is_hex, hex_value, is_flag, open_bracket, close_bracket, between, on_letter, on_name, on_flag, kind_named, begun, first_named, same}
use Rattle.grammar.proofs.Rests.{none_set, Tail, TextRest, FlagRest, LettersRest, FlagsMore, DigitsMore, StartRest, WordMore, OpenedRest, FormRest, Inner, Rest}

abbrev pub at : Phase → List Open → ℕ → ℕ → Option ℕ → Scan
at p st n by fl = record { phase = p; stack = st; nodes = n; bytes = by; fault = fl }

abbrev pub RestOf : Scan → List ℕ → Type 0
RestOf a s = Rest a.phase a.stack s

-- from what completes a listing after this step, where its byte is read, this follows
abbrev pub Back : Type 0 → List ℕ → Step → Type 0
Back G s x = (x.effect ≡ unread → ⊥) → RestOf x.to s → G

back_cond : (G : Type 0) (s : List ℕ) (t : Bool) (x y : Step) → (t ≡ true → Back G s x) → (t ≡ false → Back G s y) → Back G s (cond t x y)
back_cond G s true x y p q = p refl
back_cond G s false x y p q = q refl

at_blank : (P : ℕ → Type 0) → ((k : Blank) → P (blank k)) → (b : ℕ) → is_blank b ≡ true → P b
at_blank P f b e = elim (or_cases (eqb b 32) (eqb b 10) e) [
  | inl h ↦ subst P (sym (eqb-true b 32 h)) (f space)
  | inr h ↦ subst P (sym (eqb-true b 10 h)) (f line_end)
]

at_byte : (P : ℕ → Type 0) (n : ℕ) → P n → (b : ℕ) → eqb b n ≡ true → P b
at_byte P n p b e = subst P (sym (eqb-true b n e)) p

-- blanks in front

blank_tail : (d : ℕ) (b : Blank) (s : List ℕ) → Tail d s → Tail d (blank b ∷ s)
blank_tail zero b s (g, e) = (b ∷ g, ap (λ x. blank b ∷ x) e)
blank_tail (suc d) b s (close g, r, e, h, t) = (close (b ∷ g), r, ap (λ x. blank b ∷ x) e, h, t)
blank_tail (suc d) b s (child g f c, r, e, h, t) = (child (b ∷ g) f c, r, ap (λ x. blank b ∷ x) e, h, t)

blank_text : (d : ℕ) (b : Blank) (s : List ℕ) → TextRest d s → TextRest d (blank b ∷ s)
blank_text d b s (textless, r, e, t) = (textless, blank b ∷ r, ap (λ x. blank b ∷ x) e, blank_tail d b r t)
blank_text d b s (quoted b' g ls, r, e, t) = (quoted b (b' ∷ g) ls, r, ap (λ x. blank b ∷ x) e, t)

blank_flag : (d : ℕ) (b : Blank) (s : List ℕ) → FlagRest d s → FlagRest d (blank b ∷ s)
blank_flag d b s (unflagged, r, e, t) = (unflagged, blank b ∷ r, ap (λ x. blank b ∷ x) e, blank_text d b r t)
blank_flag d b s (marked b' g f p, r, e, t) = (marked b (b' ∷ g) f p, r, ap (λ x. blank b ∷ x) e, t)

tail_text : (d : ℕ) (s : List ℕ) → Tail d s → TextRest d s
tail_text d s t = (textless, s, refl, t)

text_flag : (d : ℕ) (s : List ℕ) → TextRest d s → FlagRest d s
text_flag d s t = (unflagged, s, refl, t)

-- brackets

-- one whole form, then the rest
abbrev Formed : ℕ → List ℕ → Type 0
Formed d s = (f : Form) × (r : List ℕ) × (s ≡ yield f r) × (d + height f ≤ 64) × Tail d r

open_form : (d : ℕ) (s : List ℕ) → d < 64 → OpenedRest (suc d) s → Formed d (40 ∷ s)
open_form d s low (g, r, e1, (k, w, b, r2, e2, e3, (g2, r3, e4, (n, r4, fits, e5, (p, r5, e6, (t, r6, e7, (c, r7, e8, h, rest))))))) = (
  form (record { before_kind = g; kind = k; after_kind = b; before_start = g2; start = n; start_fits = fits; flags = p; text = t }) c,
  r7,
  cc,
  omega arith,
  rest,
)

form_tail : (d : ℕ) (s : List ℕ) → Formed (suc d) s → Tail (suc d) s
form_tail d s (f, r, e, h, (c, r2, e2, h2, t)) = (child [] f c, r2, cc, omega arith, t)

close_tail : (d : ℕ) (s : List ℕ) → Tail d s → Tail (suc d) (41 ∷ s)
close_tail d s t = (close [], s, refl, omega arith, t)

-- what follows where a bracket opens: the form that it begins, and the rest after it
back_open : (G : Type 0) (st : List Open) (n by : ℕ) (fl : Option ℕ) (p : Phase) (s : List ℕ) → (Formed (length st) (40 ∷ s) → G)
    → Back G s (open_bracket (at p st n by fl))
back_open G [] n by fl p s k = λ h r. k (open_form 0 s (omega arith) (r refl))
back_open G (e ∷ st) n by fl p s k =
    back_cond G s (ltb (suc (length st)) 64) _ _ (λ q h r. k (open_form (suc (length st)) s (ltb-true _ _ q) (r refl))) (λ q h r. absurd (h refl))

-- where a bracket closes
back_close : (G : Type 0) (e : Open) (st : List Open) (a : Scan) (s : List ℕ) → (Tail (suc (length st)) (41 ∷ s) → G) → Back G s (close_bracket (e ∷ st) a)
back_close G e [] a s k h r = k (close_tail 0 s r)
back_close G e (e2 ∷ st) a s k h r = k (close_tail (suc (length st)) s r)

-- a blank or a bracket inside of a form; after the blank this phase
back_between : (G : ℕ → Type 0) (e : Open) (st : List Open) (n by : ℕ) (fl : Option ℕ) (p p' : Phase) (s : List ℕ)
    → ((b : Blank) → Inner p' (suc (length st)) e.row.start e.row.flags s → G (blank b))
    → ((b : ℕ) → Tail (suc (length st)) (b ∷ s) → G b)
    → (b : ℕ) → Back (G b) s (between p' (at p (e ∷ st) n by fl) b)
back_between G e st n by fl p p' s on_blank on_bracket b =
    back_cond (G b) s (is_blank b) _ _
    (λ q h r. at_blank G (λ k. on_blank k r) b q)
    (λ q. back_cond (G b) s (eqb b 40) _ _
    (λ q2. back_open (G b) (e ∷ st) n by fl p s (λ f. at_byte G 40 (on_bracket 40 (form_tail (length st) (40 ∷ s) f)) b q2))
    (λ q2. back_cond (G b) s (eqb b 41) _ _
    (λ q3. back_close (G b) e st (at p (e ∷ st) n by fl) s (λ t. at_byte G 41 (on_bracket 41 t) b q3))
    (λ q3 h r. absurd (h refl))))

-- phase by phase

back_inside : (e : Open) (st : List Open) (n by : ℕ) (fl : Option ℕ) (b : ℕ) (s : List ℕ)
    → Back (Rest inside (e ∷ st) (b ∷ s)) s (in_phase inside (at inside (e ∷ st) n by fl) b)
back_inside e st n by fl b s =
    back_between (λ b. Tail (suc (length st)) (b ∷ s)) e st n by fl inside inside s (λ b r. blank_tail (suc (length st)) b s r) (λ b t. t) b

back_after : (st : List Open) (n by : ℕ) (fl : Option ℕ) (b : ℕ) (s : List ℕ) → Back (Rest after st (b ∷ s)) s (in_phase after (at after st n by fl) b)
back_after [] n by fl b s =
    back_cond (Tail 0 (b ∷ s)) s (is_blank b) _ _ (λ q h r. at_blank (λ b. Tail 0 (b ∷ s)) (λ k. blank_tail 0 k s r) b q) (λ q h r. absurd (h refl))
back_after (e ∷ st) n by fl b s =
    back_cond (Tail 0 (b ∷ s)) s (is_blank b) _ _ (λ q h r. at_blank (λ b. Tail 0 (b ∷ s)) (λ k. blank_tail 0 k s r) b q) (λ q h r. absurd (h refl))

back_before : (st : List Open) (n by : ℕ) (fl : Option ℕ) (b : ℕ) (s : List ℕ) → Back (FormRest (length st) (b ∷ s)) s (in_phase before (at before st n by fl) b)
back_before st n by fl b s =
    back_cond _ s (is_blank b) _ _
    (λ q h r. at_blank (λ b. FormRest (length st) (b ∷ s)) (λ k. blank_form st k r) b q)
    (λ q. back_cond _ s (eqb b 40) _ _
    (λ q2. back_open _ st n by fl before s (λ (f, r, e, h, t). at_byte (λ b. FormRest (length st) (b ∷ s)) 40 ([], f, r, e, h, t) b q2))
    (λ q2 h r. absurd (h refl)))
  where
    blank_form : (st : List Open) (k : Blank) → Rest before st s → FormRest (length st) (blank k ∷ s)
    blank_form [] k (g, f, r, e, h, t) = (k ∷ g, f, r, ap (λ x. blank k ∷ x) e, h, t)
    blank_form (o ∷ st) k (g, f, r, e, h, t) = (k ∷ g, f, r, ap (λ x. blank k ∷ x) e, h, t)

-- names

pub same_true : (u w : List ℕ) → same u w ≡ true → u ≡ w
same_true [] [] e = refl
same_true [] (b ∷ w) e = absurd (false≢true e)
same_true (a ∷ u) [] e = absurd (false≢true e)
same_true (a ∷ u) (b ∷ w) e =
    let p = and_parts (eqb a b) (same u w) e in
    let h : a ≡ b = eqb-true a b p.0 in
    let t : u ≡ w = same_true u w p.1 in
    cc

first_named_word : (ks : List Kind) (w : List ℕ) (k : Kind) → first_named ks w ≡ Some k → w ≡ word k
first_named_word [] w k e = cc
first_named_word (j ∷ ks) w k e = go (same w (word j)) refl e (first_named_word ks w k)
  where
    go : (t : Bool) → same w (word j) ≡ t → cond t (Some j) (first_named ks w) ≡ Some k → (first_named ks w ≡ Some k → w ≡ word k) → w ≡ word k
    go true q e ih = let h : w ≡ word j = same_true w (word j) q in let i : j ≡ k = cc in h ∙ ap word i
    go false q e ih = ih e

letter_more : (d : ℕ) (w : List ℕ) (b : ℕ) (s : List ℕ) → WordMore d (w ++ b ∷ []) s → WordMore d w (b ∷ s)
letter_more d w b s (k, w', b', r, e, e2, t) = (k, b ∷ w', b', r, e ∙ append_assoc w (b ∷ []) w', ap (λ x. b ∷ x) e2, t)

back_letter : (G : Type 0) (w : List ℕ) (e : Open) (st : List Open) (n by : ℕ) (fl : Option ℕ) (p : Phase) (b : ℕ) (s : List ℕ)
    → ((e.row.flags ≡ none_set → WordMore (suc (length st)) w (b ∷ s)) → G) → Back G s (on_letter w (at p (e ∷ st) n by fl) b)
back_letter G w e st n by fl p b s k =
    back_cond G s (begun (w ++ b ∷ [])) _ _ (λ q h r. k (λ z. letter_more (suc (length st)) w b s (r z))) (λ q h r. absurd (h refl))

back_opened : (e : Open) (st : List Open) (n by : ℕ) (fl : Option ℕ) (b : ℕ) (s : List ℕ)
    → Back (Rest opened (e ∷ st) (b ∷ s)) s (in_phase opened (at opened (e ∷ st) n by fl) b)
back_opened e st n by fl b s =
    back_cond _ s (is_blank b) _ _
    (λ q h r. at_blank (λ b. Rest opened (e ∷ st) (b ∷ s)) (λ k z. let (g, r2, e2, t) = r z in (k ∷ g, r2, ap (λ x. blank k ∷ x) e2, t)) b q)
    (λ q. back_letter _ [] e st n by fl opened b s (λ f z. ([], b ∷ s, refl, f z)))

back_name : (w : List ℕ) (e : Open) (st : List Open) (n by : ℕ) (fl : Option ℕ) (b : Blank) (s : List ℕ) (o : Option Kind) → kind_named w ≡ o
    → Back (Rest (in_word w) (e ∷ st) (blank b ∷ s)) s (on_name o (at (in_word w) (e ∷ st) n by fl))
unfolding kind_named
back_name w e st n by fl b s None q = λ h r. absurd (h refl)
back_name w e st n by fl b s (Some k) q = λ h r z. (k, [], b, s, sym (first_named_word kinds w k q) ∙ sym (append-nil w), refl, r z)

back_in_word : (w : List ℕ) (e : Open) (st : List Open) (n by : ℕ) (fl : Option ℕ) (b : ℕ) (s : List ℕ)
    → Back (Rest (in_word w) (e ∷ st) (b ∷ s)) s (in_phase (in_word w) (at (in_word w) (e ∷ st) n by fl) b)
back_in_word w e st n by fl b s =
    back_cond _ s (is_blank b) _ _
    (λ q h r. at_blank (λ b. Rest (in_word w) (e ∷ st) (b ∷ s)) (λ k. back_name w e st n by fl k s (kind_named w) refl h r) b q)
    (λ q. back_letter _ w e st n by fl (in_word w) b s (λ f. f))

back_named : (e : Open) (st : List Open) (n by : ℕ) (fl : Option ℕ) (b : ℕ) (s : List ℕ)
    → Back (Rest named (e ∷ st) (b ∷ s)) s (in_phase named (at named (e ∷ st) n by fl) b)
back_named e st n by fl b s =
    back_cond _ s (is_blank b) _ _
    (λ q h r. at_blank (λ b. Rest named (e ∷ st) (b ∷ s)) (λ k z. let (g, r2, e2, t) = r z in (k ∷ g, r2, ap (λ x. blank k ∷ x) e2, t)) b q)
    (λ q. back_cond _ s (eqb b 64) _ _
    (λ q2 h r. at_byte (λ b. Rest named (e ∷ st) (b ∷ s)) 64 (λ z. ([], s, refl, r z)) b q2)
    (λ q2 h r. absurd (h refl)))

-- starts

is_digit_bounds : (b : ℕ) → is_digit b ≡ true → (48 ≤ b) × (b ≤ 57)
is_digit_bounds b q = let p = and_parts (leb 48 b) (leb b 57) q in (leb-true 48 b p.0, leb-true b 57 p.1)

first_digit : (d b : ℕ) (s : List ℕ) → 48 ≤ b → b ≤ 57 → DigitsMore d (b - 48) s → StartRest d (b ∷ s)
first_digit d b s lo hi (n, w, r, fits, e, e2, t) =
    let one : decimal (b - 48) ≡ (48 + (b - 48)) ∷ [] = decimal_digit (b - 48) (omega arith) in
    let whole : 48 + (b - 48) ≡ b = omega arith in
    let here : decimal n ≡ b ∷ w = e ∙ ap (λ x. x ++ w) (one ∙ ap (λ x. x ∷ []) whole) in
    (n, r, fits, ap (λ x. b ∷ x) e2 ∙ sym (ap (λ x. x ++ r) here), t)

back_starting : (e : Open) (st : List Open) (n by : ℕ) (fl : Option ℕ) (b : ℕ) (s : List ℕ)
    → Back (Rest starting (e ∷ st) (b ∷ s)) s (in_phase starting (at starting (e ∷ st) n by fl) b)
back_starting e st n by fl b s =
    back_cond _ s (is_digit b) _ _
    (λ q h r z. let p = is_digit_bounds b q in first_digit (suc (length st)) b s p.0 p.1 (r z (omega arith)))
    (λ q h r. absurd (h refl))

pub decimal_more : (n d : ℕ) → 0 < n → d < 10 → n * 10 + d < 2 ^ 32 → decimal (n * 10 + d) ≡ decimal n ++ (48 + d) ∷ []
decimal_more n d pos low fits =
    let over : (n * 10 + d) / 10 ≡ n = omega arith in
    let left : (n * 10 + d) % 10 ≡ d = omega arith in
    decimal_step (n * 10 + d) (omega arith) (omega arith) ∙ cc

next_digit : (d n b : ℕ) (s : List ℕ) → 48 ≤ b → b ≤ 57 → 0 < n → n * 10 + (b - 48) < 2 ^ 32 → DigitsMore d (n * 10 + (b - 48)) s → DigitsMore d n (b ∷ s)
next_digit d n b s lo hi pos low (m, w, r, fits, e, e2, t) =
    let whole : 48 + (b - 48) ≡ b = omega arith in
    let one : decimal (n * 10 + (b - 48)) ≡ decimal n ++ b ∷ [] = decimal_more n (b - 48) pos (omega arith) low ∙ ap (λ x. decimal n ++ x ∷ []) whole in
    (m, b ∷ w, r, fits, e ∙ (ap (λ x. x ++ w) one ∙ append_assoc (decimal n) (b ∷ []) w), ap (λ x. b ∷ x) e2, t)

back_in_start : (e : Open) (st : List Open) (n by : ℕ) (fl : Option ℕ) (b : ℕ) (s : List ℕ)
    → Back (Rest in_start (e ∷ st) (b ∷ s)) s (in_phase in_start (at in_start (e ∷ st) n by fl) b)
back_in_start e st n by fl b s =
    back_cond _ s (is_digit b) _ _
    (λ q. back_cond _ s (eqb e.row.start 0 || leb 4294967296 (e.row.start * 10 + (b - 48))) _ _
    (λ q2 h r. absurd (h refl))
    (λ q2 h r z low.
    let p = is_digit_bounds b q in
    let t = or_parts (eqb e.row.start 0) (leb 4294967296 (e.row.start * 10 + (b - 48))) q2 in
    let some : e.row.start ≡ 0 → ⊥ = eqb-false e.row.start 0 t.0 in
    let fits : e.row.start * 10 + (b - 48) < 4294967296 = leb-false _ _ t.1 in
    next_digit (suc (length st)) e.row.start b s p.0 p.1 (omega arith) fits (r z fits)))
    (λ q. back_between (λ b. Rest in_start (e ∷ st) (b ∷ s)) e st n by fl in_start started s
    (λ k r z low. (e.row.start, [], blank k ∷ s, low, sym (append-nil (decimal e.row.start)), refl, r z k))
    (λ b t z low. (e.row.start, [], b ∷ s, low, sym (append-nil (decimal e.row.start)), refl, text_flag (suc (length st)) (b ∷ s) (tail_text (suc (length st)) (b ∷ s) t)))
    b)

-- flags

flag_more : (d : ℕ) (f f' : Flags) (b : ℕ) (s : List ℕ) → flag_word f' ≡ flag_word f ++ b ∷ [] → FlagsMore d f' s → FlagsMore d f (b ∷ s)
flag_more d f f' b s q (g, w, r, set, e, e2, t) =
    (g, b ∷ w, r, set, e ∙ (ap (λ x. x ++ w) q ∙ append_assoc (flag_word f) (b ∷ []) w), ap (λ x. b ∷ x) e2, t)

abbrev flags : Bool → Bool → Bool → Flags
flags o c h = record { optional = o; computed = c; shorthand = h }

back_o : (G : Type 0) (o c h : Bool) (e : Open) (st : List Open) (n by : ℕ) (fl : Option ℕ) (p : Phase) (s : List ℕ)
    → (FlagsMore (suc (length st)) (flags o c h) (111 ∷ s) → G) → Back G s (on_flag (flags o c h) (at p (e ∷ st) n by fl) 111)
back_o G false false false e st n by fl p s k = λ h r. k (flag_more (suc (length st)) (flags false false false) (flags true false false) 111 s refl (r refl))
back_o G false false true e st n by fl p s k = λ h r. absurd (h refl)
back_o G false true h e st n by fl p s k = λ h r. absurd (h refl)
back_o G true c h e st n by fl p s k = λ h r. absurd (h refl)

back_c : (G : Type 0) (o c h : Bool) (e : Open) (st : List Open) (n by : ℕ) (fl : Option ℕ) (p : Phase) (s : List ℕ)
    → (FlagsMore (suc (length st)) (flags o c h) (99 ∷ s) → G) → Back G s (on_flag (flags o c h) (at p (e ∷ st) n by fl) 99)
back_c G false false false e st n by fl p s k = λ h r. k (flag_more (suc (length st)) (flags false false false) (flags false true false) 99 s refl (r refl))
back_c G true false false e st n by fl p s k = λ h r. k (flag_more (suc (length st)) (flags true false false) (flags true true false) 99 s refl (r refl))
back_c G o false true e st n by fl p s k = λ h r. absurd (h refl)
back_c G o true h e st n by fl p s k = λ h r. absurd (h refl)

back_s : (G : Type 0) (o c h : Bool) (e : Open) (st : List Open) (n by : ℕ) (fl : Option ℕ) (p : Phase) (s : List ℕ)
    → (FlagsMore (suc (length st)) (flags o c h) (115 ∷ s) → G) → Back G s (on_flag (flags o c h) (at p (e ∷ st) n by fl) 115)
back_s G false false false e st n by fl p s k = λ h r. k (flag_more (suc (length st)) (flags false false false) (flags false false true) 115 s refl (r refl))
back_s G false true false e st n by fl p s k = λ h r. k (flag_more (suc (length st)) (flags false true false) (flags false true true) 115 s refl (r refl))
back_s G true false false e st n by fl p s k = λ h r. k (flag_more (suc (length st)) (flags true false false) (flags true false true) 115 s refl (r refl))
back_s G true true false e st n by fl p s k = λ h r. k (flag_more (suc (length st)) (flags true true false) (flags true true true) 115 s refl (r refl))
back_s G o c true e st n by fl p s k = λ h r. absurd (h refl)

back_flag : (G : ℕ → Type 0) (e : Open) (st : List Open) (n by : ℕ) (fl : Option ℕ) (p : Phase) (s : List ℕ)
    → ((b : ℕ) → FlagsMore (suc (length st)) e.row.flags (b ∷ s) → G b)
    → (b : ℕ) → is_flag b ≡ true → Back (G b) s (on_flag e.row.flags (at p (e ∷ st) n by fl) b)
back_flag G e st n by fl p s k b q = go (or_cases (eqb b 111) (eqb b 99 || eqb b 115) q)
  where
    P : ℕ → Type 0
    P x = Back (G x) s (on_flag e.row.flags (at p (e ∷ st) n by fl) x)

    two : (eqb b 99 ≡ true) ⊎ (eqb b 115 ≡ true) → P b
    two (inl h) = at_byte P 99 (back_c (G 99) e.row.flags.optional e.row.flags.computed e.row.flags.shorthand e st n by fl p s (k 99)) b h
    two (inr h) = at_byte P 115 (back_s (G 115) e.row.flags.optional e.row.flags.computed e.row.flags.shorthand e st n by fl p s (k 115)) b h

    go : (eqb b 111 ≡ true) ⊎ ((eqb b 99 || eqb b 115) ≡ true) → P b
    go (inl h) = at_byte P 111 (back_o (G 111) e.row.flags.optional e.row.flags.computed e.row.flags.shorthand e st n by fl p s (k 111)) b h
    go (inr h) = two (or_cases (eqb b 99) (eqb b 115) h)

-- the first flag of a form
mark_flags : (d : ℕ) (f : Flags) (b : Blank) (s : List ℕ) → f ≡ none_set → FlagsMore d f s → FlagRest d (blank b ∷ s)
mark_flags d f b s z (g, w, r, set, e, e2, t) =
    (marked b [] g set, r, ap (λ x. blank b ∷ x) (e2 ∙ sym (ap (λ x. x ++ r) (e ∙ ap (λ x. flag_word x ++ w) z))), t)

quote_text : (d : ℕ) (b : Blank) (s : List ℕ) → LettersRest d s → TextRest d (blank b ∷ 34 ∷ s)
quote_text d b s (ls, r, e, t) = (quoted b [] ls, r, ap (λ x. blank b ∷ 34 ∷ x) e, t)

back_started : (e : Open) (st : List Open) (n by : ℕ) (fl : Option ℕ) (b : ℕ) (s : List ℕ)
    → Back (Rest started (e ∷ st) (b ∷ s)) s (in_phase started (at started (e ∷ st) n by fl) b)
back_started e st n by fl b s =
    back_cond _ s (eqb b 34) _ _
    (λ q h r. at_byte (λ b. Rest started (e ∷ st) (b ∷ s)) 34 (λ z k. text_flag (suc (length st)) _ (quote_text (suc (length st)) k s r)) b q)
    (λ q. back_cond _ s (is_flag b) _ _
    (λ q2. back_flag (λ b. Rest started (e ∷ st) (b ∷ s)) e st n by fl started s (λ b m z k. mark_flags (suc (length st)) e.row.flags k (b ∷ s) z m) b q2)
    (λ q2. back_between (λ b. Rest started (e ∷ st) (b ∷ s)) e st n by fl started started s
    (λ b r z k. blank_flag (suc (length st)) k (blank b ∷ s) (r z b))
    (λ b t z k. blank_flag (suc (length st)) k (b ∷ s) (text_flag (suc (length st)) (b ∷ s) (tail_text (suc (length st)) (b ∷ s) t)))
    b))

back_in_flags : (e : Open) (st : List Open) (n by : ℕ) (fl : Option ℕ) (b : ℕ) (s : List ℕ)
    → Back (Rest in_flags (e ∷ st) (b ∷ s)) s (in_phase in_flags (at in_flags (e ∷ st) n by fl) b)
back_in_flags e st n by fl b s =
    back_cond _ s (is_flag b) _ _
    (λ q. back_flag (λ b. Rest in_flags (e ∷ st) (b ∷ s)) e st n by fl in_flags s (λ b m z. m) b q)
    (λ q. back_between (λ b. Rest in_flags (e ∷ st) (b ∷ s)) e st n by fl in_flags flags_done s
    (λ k r z. (e.row.flags, [], blank k ∷ s, z, sym (append-nil (flag_word e.row.flags)), refl, r k))
    (λ b t z. (e.row.flags, [], b ∷ s, z, sym (append-nil (flag_word e.row.flags)), refl, tail_text (suc (length st)) (b ∷ s) t))
    b)

back_flags_done : (e : Open) (st : List Open) (n by : ℕ) (fl : Option ℕ) (b : ℕ) (s : List ℕ)
    → Back (Rest flags_done (e ∷ st) (b ∷ s)) s (in_phase flags_done (at flags_done (e ∷ st) n by fl) b)
back_flags_done e st n by fl b s =
    back_cond _ s (eqb b 34) _ _
    (λ q h r. at_byte (λ b. Rest flags_done (e ∷ st) (b ∷ s)) 34 (λ k. quote_text (suc (length st)) k s r) b q)
    (λ q. back_between (λ b. Rest flags_done (e ∷ st) (b ∷ s)) e st n by fl flags_done flags_done s
    (λ b r k. blank_text (suc (length st)) k (blank b ∷ s) (r b))
    (λ b t k. blank_text (suc (length st)) k (b ∷ s) (tail_text (suc (length st)) (b ∷ s) t))
    b)

-- texts

-- a byte that is a hexadecimal digit is that of its value
pub hex_back : (b : ℕ) → is_hex b ≡ true → (hex_value b < 16) × (hex (hex_value b) ≡ b)
hex_back b q = go (or_cases (is_digit b) (leb 97 b && leb b 102) q)
  where
    go : (is_digit b ≡ true) ⊎ ((leb 97 b && leb b 102) ≡ true) → (hex_value b < 16) × (hex (hex_value b) ≡ b)
    go (inl h) =
        let p = is_digit_bounds b h in
        let v : hex_value b ≡ b - 48 = cond-true (leb b 57) (b - 48) (b - 87) (le-leb b 57 p.1) in
        (omega arith, ap hex v ∙ (cond-true (ltb (b - 48) 10) (48 + (b - 48)) (87 + (b - 48)) (lt-ltb (b - 48) 10 (omega arith)) ∙ omega arith))
    go (inr h) =
        let p = and_parts (leb 97 b) (leb b 102) h in
        let lo : 97 ≤ b = leb-true 97 b p.0 in
        let hi : b ≤ 102 = leb-true b 102 p.1 in
        let v : hex_value b ≡ b - 87 = cond-false (leb b 57) (b - 48) (b - 87) (lt-leb b 57 (omega arith)) in
        (omega arith, ap hex v ∙ (cond-false (ltb (b - 87) 10) (48 + (b - 87)) (87 + (b - 87)) (le-ltb (b - 87) 10 (omega arith)) ∙ omega arith))

plain_stands : (b : ℕ) → eqb b 34 ≡ false → eqb b 92 ≡ false → (leb 32 b && leb b 126) ≡ true → stands b ≡ true
plain_stands b p q r = and_from (leb 32 b && leb b 126) _ r (cond-false (eqb b 34) _ _ p ∙ cond-false (eqb b 92) _ _ q)

back_in_text : (e : Open) (st : List Open) (n by : ℕ) (fl : Option ℕ) (b : ℕ) (s : List ℕ)
    → Back (Rest in_text (e ∷ st) (b ∷ s)) s (in_phase in_text (at in_text (e ∷ st) n by fl) b)
back_in_text e st n by fl b s =
    back_cond _ s (eqb b 34) _ _
    (λ q h r. at_byte (λ b. Rest in_text (e ∷ st) (b ∷ s)) 34 ([], s, refl, r) b q)
    (λ q. back_cond _ s (eqb b 92) _ _
    (λ q2 h r. at_byte (λ b. Rest in_text (e ∷ st) (b ∷ s)) 92 r b q2)
    (λ q2. back_cond _ s (leb 32 b && leb b 126) _ _
    (λ q3 h (ls, r, e2, t). (itself b (plain_stands b q q2 q3) ∷ ls, r, ap (λ x. b ∷ x) e2, t))
    (λ q3 h r. absurd (h refl))))

back_escape : (e : Open) (st : List Open) (n by : ℕ) (fl : Option ℕ) (b : ℕ) (s : List ℕ)
    → Back (Rest escape (e ∷ st) (b ∷ s)) s (in_phase escape (at escape (e ∷ st) n by fl) b)
back_escape e st n by fl b s =
    back_cond _ s (eqb b 34 || eqb b 92) _ _
    (λ q h r. own r (or_cases (eqb b 34) (eqb b 92) q))
    (λ q. back_cond _ s (is_hex b) _ _
    (λ q2 h r. let p = hex_back b q2 in subst (λ x. LettersRest (suc (length st)) (92 ∷ x ∷ s)) p.1 (r p.0))
    (λ q2 h r. absurd (h refl)))
  where
    own : LettersRest (suc (length st)) s → (eqb b 34 ≡ true) ⊎ (eqb b 92 ≡ true) → LettersRest (suc (length st)) (92 ∷ b ∷ s)
    own (ls, r, e2, t) (inl h) = (quote ∷ ls, r, ap (λ x. 92 ∷ b ∷ x) e2 ∙ ap (λ x. 92 ∷ x ∷ letters ls r) (eqb-true b 34 h), t)
    own (ls, r, e2, t) (inr h) = (backslash ∷ ls, r, ap (λ x. 92 ∷ b ∷ x) e2 ∙ ap (λ x. 92 ∷ x ∷ letters ls r) (eqb-true b 92 h), t)

back_in_hex : (v : ℕ) (e : Open) (st : List Open) (n by : ℕ) (fl : Option ℕ) (b : ℕ) (s : List ℕ)
    → Back (Rest (in_hex v) (e ∷ st) (b ∷ s)) s (in_phase (in_hex v) (at (in_hex v) (e ∷ st) n by fl) b)
back_in_hex v e st n by fl b s =
    back_cond _ s (is_hex b) _ _
    (λ q h (ls, r, e2, t) low. let p = hex_back b q in
    (digits v (hex_value b) low p.0 ∷ ls, r, ap (λ x. 92 ∷ hex v ∷ b ∷ x) e2 ∙ ap (λ x. 92 ∷ hex v ∷ x ∷ letters ls r) (sym p.1), t))
    (λ q h r. absurd (h refl))

-- all phases

pub back : (p : Phase) (st : List Open) (n by : ℕ) (fl : Option ℕ) (b : ℕ) (s : List ℕ) → Back (Rest p st (b ∷ s)) s (in_phase p (at p st n by fl) b)
back before [] n by fl b s = back_before [] n by fl b s
back before (e ∷ st) n by fl b s = back_before (e ∷ st) n by fl b s
back opened [] n by fl b s = λ h r. tt
back opened (e ∷ st) n by fl b s = back_opened e st n by fl b s
back (in_word w) [] n by fl b s = λ h r. tt
back (in_word w) (e ∷ st) n by fl b s = back_in_word w e st n by fl b s
back named [] n by fl b s = λ h r. tt
back named (e ∷ st) n by fl b s = back_named e st n by fl b s
back starting [] n by fl b s = λ h r. tt
back starting (e ∷ st) n by fl b s = back_starting e st n by fl b s
back in_start [] n by fl b s = λ h r. tt
back in_start (e ∷ st) n by fl b s = back_in_start e st n by fl b s
back started [] n by fl b s = λ h r. tt
back started (e ∷ st) n by fl b s = back_started e st n by fl b s
back in_flags [] n by fl b s = λ h r. tt
back in_flags (e ∷ st) n by fl b s = back_in_flags e st n by fl b s
back flags_done [] n by fl b s = λ h r. tt
back flags_done (e ∷ st) n by fl b s = back_flags_done e st n by fl b s
back in_text [] n by fl b s = λ h r. tt
back in_text (e ∷ st) n by fl b s = back_in_text e st n by fl b s
back escape [] n by fl b s = λ h r. tt
back escape (e ∷ st) n by fl b s = back_escape e st n by fl b s
back (in_hex v) [] n by fl b s = λ h r. tt
back (in_hex v) (e ∷ st) n by fl b s = back_in_hex v e st n by fl b s
back inside [] n by fl b s = λ h r. tt
back inside (e ∷ st) n by fl b s = back_inside e st n by fl b s
back after [] n by fl b s = back_after [] n by fl b s
back after (e ∷ st) n by fl b s = back_after (e ∷ st) n by fl b s
