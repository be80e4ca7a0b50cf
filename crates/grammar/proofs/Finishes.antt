-- Every reading that has not broken off can be finished, so some listing begins with what it has read.
use Rattle.std.proofs.Common.{◌≡◌, ℕ, ◌+◌, Bool, true, false, cond, not, ◌&&◌, eqb, ◌⊎◌, List, [], ◌∷◌, ◌++◌, Some, Option, sym, refl, ap, ◌∙◌, subst, inl, inr, append_assoc, append-nil, arith}
use Rattle.std.proofs.lemmas.Bool.{eqb-true, eq-eqb, or_cases, or_left, or_right, and_parts, and_from, cond-true, cond-false, not-true, false≢true}
use Rattle.pages.specs.declared.kind.Kind.{Kind}
use Rattle.pages.specs.declared.row.Row.{Row}
use Rattle.grammar.specs.Words.{word, kinds}
use Rattle.grammar.specs.Grammar.{GoesOn}
use Rattle.grammar.specs.Scan.{Phase, before, opened, in_word, named, starting, in_start, started, in_flags, flags_done, in_text, escape, in_hex, inside, after, Open, Scan, Step, stuck, on_to, on_name, on_letter, quiet, text_byte, row_done, unread, next, prefix, same, some_begins, begun, first_named, kind_named, is_blank, phase_in, fault_after, with_kind, with_start, with_byte, Memory, applied, ended, run, at_start}
use Rattle.grammar.specs.Reading.{zero_row}
use Rattle.grammar.proofs.Back.{at}
use Rattle.grammar.proofs.Runs.{run_none, run_read, run_append}
use Rattle.grammar.proofs.Sound.{SoundWithin, SoundOutside, Sound, SoundScan, run_sound}
use Rattle.grammar.proofs.Ended.{ended_listing}

-- some bytes lead from here to the end of the root
abbrev Finishes : Scan → Type 0
Finishes a = (m : Memory) → (q : List ℕ) × (a' : Scan) × (m' : Memory) × (run q a m ≡ ended a' m') × (a'.phase ≡ after)

finish_step : (a : Scan) (b : ℕ) → ((next a b).effect ≡ unread → ⊥) → Finishes (next a b).to → Finishes a
finish_step a b h f m =
    let (q, a', m', e, p) = f (applied (next a b).effect m) in
    (b ∷ q, a', m', run_read b q a m h ∙ e, p)

quiet_read : quiet ≡ unread → ⊥
quiet_read h = let z : ◌≡◌ {A = ℕ} 0 1 = cc in omega arith

text_read : (i b : ℕ) → text_byte i b ≡ unread → ⊥
text_read i b h = let z : ◌≡◌ {A = ℕ} 0 1 = cc in omega arith

row_read : (i : ℕ) (r : Row) → row_done i r ≡ unread → ⊥
row_read i r h = let z : ◌≡◌ {A = ℕ} 0 1 = cc in omega arith

finish_after : (st : List Open) (n by : ℕ) (fl : Option ℕ) → Finishes (at after st n by fl)
finish_after st n by fl m = ([], at after st n by fl, m, run_none (at after st n by fl) m, refl)

-- closing brackets, as many as are open
finish_closing : (st : List Open) (n by : ℕ) (fl : Option ℕ) → Finishes (at (phase_in st) st n by fl)
finish_closing [] n by fl = finish_after [] n by fl
finish_closing (e ∷ st) n by fl =
    finish_step (at inside (e ∷ st) n by fl) 41 (row_read e.number e.row) (finish_closing st n by (fault_after e st (at inside (e ∷ st) n by fl)))

finish_in_start : (e : Open) (st : List Open) (n by : ℕ) (fl : Option ℕ) → Finishes (at in_start (e ∷ st) n by fl)
finish_in_start e st n by fl =
    finish_step (at in_start (e ∷ st) n by fl) 41 (row_read e.number e.row) (finish_closing st n by (fault_after e st (at in_start (e ∷ st) n by fl)))

finish_started : (e : Open) (st : List Open) (n by : ℕ) (fl : Option ℕ) → Finishes (at started (e ∷ st) n by fl)
finish_started e st n by fl =
    finish_step (at started (e ∷ st) n by fl) 41 (row_read e.number e.row) (finish_closing st n by (fault_after e st (at started (e ∷ st) n by fl)))

finish_in_flags : (e : Open) (st : List Open) (n by : ℕ) (fl : Option ℕ) → Finishes (at in_flags (e ∷ st) n by fl)
finish_in_flags e st n by fl =
    finish_step (at in_flags (e ∷ st) n by fl) 41 (row_read e.number e.row) (finish_closing st n by (fault_after e st (at in_flags (e ∷ st) n by fl)))

finish_flags_done : (e : Open) (st : List Open) (n by : ℕ) (fl : Option ℕ) → Finishes (at flags_done (e ∷ st) n by fl)
finish_flags_done e st n by fl =
    finish_step (at flags_done (e ∷ st) n by fl) 41 (row_read e.number e.row) (finish_closing st n by (fault_after e st (at flags_done (e ∷ st) n by fl)))

-- a start of 0
finish_starting : (e : Open) (st : List Open) (n by : ℕ) (fl : Option ℕ) → Finishes (at starting (e ∷ st) n by fl)
finish_starting e st n by fl = finish_step (at starting (e ∷ st) n by fl) 48 quiet_read (finish_in_start (with_start 0 e) st n by fl)

finish_named : (e : Open) (st : List Open) (n by : ℕ) (fl : Option ℕ) → Finishes (at named (e ∷ st) n by fl)
finish_named e st n by fl = finish_step (at named (e ∷ st) n by fl) 64 quiet_read (finish_starting e st n by fl)

finish_in_text : (e : Open) (st : List Open) (n by : ℕ) (fl : Option ℕ) → Finishes (at in_text (e ∷ st) n by fl)
finish_in_text e st n by fl = finish_step (at in_text (e ∷ st) n by fl) 34 quiet_read (finish_closing (e ∷ st) n by fl)

finish_escape : (e : Open) (st : List Open) (n by : ℕ) (fl : Option ℕ) → Finishes (at escape (e ∷ st) n by fl)
finish_escape e st n by fl = finish_step (at escape (e ∷ st) n by fl) 34 (text_read by 34) (finish_in_text (with_byte e) st n (by + 1) fl)

finish_in_hex : (v : ℕ) (e : Open) (st : List Open) (n by : ℕ) (fl : Option ℕ) → Finishes (at (in_hex v) (e ∷ st) n by fl)
finish_in_hex v e st n by fl = finish_step (at (in_hex v) (e ∷ st) n by fl) 48 (text_read by _) (finish_in_text (with_byte e) st n (by + 1) fl)

-- names

data Among (k : Kind) : List Kind → Type 0 where
  here : {ks : List Kind} → Among k (k ∷ ks)
  later : {j : Kind} {ks : List Kind} → Among k ks → Among k (j ∷ ks)

prefix_rest : (u w : List ℕ) → prefix u w ≡ true → (v : List ℕ) × (w ≡ u ++ v)
prefix_rest [] w e = (w, refl)
prefix_rest (a ∷ u) [] e = absurd (false≢true e)
prefix_rest (a ∷ u) (b ∷ w) e =
    let p = and_parts (eqb a b) (prefix u w) e in
    let (v, q) = prefix_rest u w p.1 in
    let h : a ≡ b = eqb-true a b p.0 in
    (v, cc)

prefix_append : (u v : List ℕ) → prefix u (u ++ v) ≡ true
prefix_append [] v = refl
prefix_append (a ∷ u) v = and_from (eqb a a) (prefix u (u ++ v)) (eq-eqb a a refl) (prefix_append u v)

same_self : (u : List ℕ) → same u u ≡ true
same_self [] = refl
same_self (a ∷ u) = and_from (eqb a a) (same u u) (eq-eqb a a refl) (same_self u)

begun_of : (ks : List Kind) (w : List ℕ) → some_begins ks w ≡ true → (k : Kind) × (v : List ℕ) × Among k ks × (word k ≡ w ++ v)
begun_of [] w e = absurd (false≢true e)
begun_of (k ∷ ks) w e = go (or_cases (prefix w (word k)) (some_begins ks w) e) (begun_of ks w)
  where
    go : (prefix w (word k) ≡ true) ⊎ (some_begins ks w ≡ true) → (some_begins ks w ≡ true → (j : Kind) × (v : List ℕ) × Among j ks × (word j ≡ w ++ v))
        → (j : Kind) × (v : List ℕ) × Among j (k ∷ ks) × (word j ≡ w ++ v)
    go (inl h) ih = let (v, q) = prefix_rest w (word k) h in (k, v, here, q)
    go (inr h) ih = let (j, v, i, q) = ih h in (j, v, later i, q)

begins_among : {k : Kind} {ks : List Kind} (w : List ℕ) → Among k ks → prefix w (word k) ≡ true → some_begins ks w ≡ true
begins_among {k} w (here {ks = ks}) e = or_left (prefix w (word k)) (some_begins ks w) e
begins_among w (later {j = j} {ks = ks} i) e = or_right (prefix w (word j)) (some_begins ks w) (begins_among w i e)

named_among : {k : Kind} {ks : List Kind} (w : List ℕ) → Among k ks → w ≡ word k → (j : Kind) × (first_named ks w ≡ Some j)
named_among {k} w (here {ks = ks}) e = (k, cond-true (same w (word k)) (Some k) (first_named ks w) (subst (λ x. same w x ≡ true) e (same_self w)))
named_among w (later {j = j} {ks = ks} i) e = go (same w (word j)) (named_among w i e)
  where
    go : (t : Bool) → (l : Kind) × (first_named ks w ≡ Some l) → (l : Kind) × (cond t (Some j) (first_named ks w) ≡ Some l)
    go true h = (j, refl)
    go false h = h

-- no blank stands in these letters
abbrev plain : List ℕ → Bool
plain [] = true
plain (b ∷ w) = not (is_blank b) && plain w

abbrev plain_all : List Kind → Bool
plain_all [] = true
plain_all (k ∷ ks) = plain (word k) && plain_all ks

plain_among : {k : Kind} {ks : List Kind} → Among k ks → plain_all ks ≡ true → plain (word k) ≡ true
plain_among {k} (here {ks = ks}) e = (and_parts (plain (word k)) (plain_all ks) e).0
plain_among (later {j = j} {ks = ks} i) e = plain_among i (and_parts (plain (word j)) (plain_all ks) e).1

plain_at : (u : List ℕ) (b : ℕ) (v : List ℕ) → plain (u ++ b ∷ v) ≡ true → is_blank b ≡ false
plain_at [] b v e = not-true (is_blank b) (and_parts (not (is_blank b)) (plain v) e).0
plain_at (c ∷ u) b v e = plain_at u b v (and_parts (not (is_blank c)) (plain (u ++ b ∷ v)) e).1

finish_as : (a : Scan) (b : ℕ) (x : Step) → next a b ≡ x → (x.effect ≡ unread → ⊥) → Finishes x.to → Finishes a
finish_as a b x e h f = finish_step a b (subst (λ y. y.effect ≡ unread → ⊥) (sym e) h) (subst (λ y. Finishes y.to) (sym e) f)

-- the rest of a kind's name
finish_word : {k : Kind} (v w : List ℕ) → Among k kinds → word k ≡ w ++ v
    → (e : Open) (st : List Open) (n by : ℕ) (fl : Option ℕ) → Finishes (at (in_word w) (e ∷ st) n by fl)
unfolding kind_named begun
finish_word [] w i q e st n by fl =
    let (j, named_is) = named_among w i (sym (q ∙ append-nil w)) in
    finish_as (at (in_word w) (e ∷ st) n by fl) 32 (on_name (Some j) (at (in_word w) (e ∷ st) n by fl))
    (ap (λ o. on_name o (at (in_word w) (e ∷ st) n by fl)) named_is) quiet_read (finish_named (with_kind j e) st n by fl)
finish_word (c ∷ v) w i q e st n by fl =
    let whole = q ∙ sym (append_assoc w (c ∷ []) v) in
    let letter : is_blank c ≡ false = plain_at w c v (subst (λ x. plain x ≡ true) q (plain_among i refl)) in
    let more : begun (w ++ c ∷ []) ≡ true = begins_among (w ++ c ∷ []) i (subst (λ x. prefix (w ++ c ∷ []) x ≡ true) (sym whole) (prefix_append (w ++ c ∷ []) v)) in
    finish_as (at (in_word w) (e ∷ st) n by fl) c (on_to (in_word (w ++ c ∷ [])) (at (in_word w) (e ∷ st) n by fl))
    (cond-false (is_blank c) (on_name (kind_named w) (at (in_word w) (e ∷ st) n by fl)) (on_letter w (at (in_word w) (e ∷ st) n by fl) c) letter
    ∙ cond-true (begun (w ++ c ∷ [])) (on_to (in_word (w ++ c ∷ [])) (at (in_word w) (e ∷ st) n by fl)) (stuck (at (in_word w) (e ∷ st) n by fl)) more)
    quiet_read (finish_word v (w ++ c ∷ []) i whole e st n by fl)

finish_in_word : (w : List ℕ) → begun w ≡ true → (e : Open) (st : List Open) (n by : ℕ) (fl : Option ℕ) → Finishes (at (in_word w) (e ∷ st) n by fl)
unfolding begun
finish_in_word w h e st n by fl = let (k, v, i, q) = begun_of kinds w h in finish_word v w i q e st n by fl

finish_opened : (e : Open) (st : List Open) (n by : ℕ) (fl : Option ℕ) → Finishes (at opened (e ∷ st) n by fl)
unfolding begun kind_named
finish_opened e st n by fl = finish_step (at opened (e ∷ st) n by fl) 105 quiet_read (finish_in_word (105 ∷ []) refl e st n by fl)

finish_before : (n by : ℕ) (fl : Option ℕ) → Finishes (at before [] n by fl)
finish_before n by fl = finish_step (at before [] n by fl) 40 quiet_read (finish_opened (record { row = zero_row; number = n }) [] (n + 1) by fl)

finish_within : (p : Phase) (e : Open) (st : List Open) (n by : ℕ) (fl : Option ℕ) → SoundWithin p → Finishes (at p (e ∷ st) n by fl)
finish_within before e st n by fl s = absurd s
finish_within opened e st n by fl s = finish_opened e st n by fl
finish_within (in_word w) e st n by fl s = finish_in_word w s e st n by fl
finish_within named e st n by fl s = finish_named e st n by fl
finish_within starting e st n by fl s = finish_starting e st n by fl
finish_within in_start e st n by fl s = finish_in_start e st n by fl
finish_within started e st n by fl s = finish_started e st n by fl
finish_within in_flags e st n by fl s = finish_in_flags e st n by fl
finish_within flags_done e st n by fl s = finish_flags_done e st n by fl
finish_within in_text e st n by fl s = finish_in_text e st n by fl
finish_within escape e st n by fl s = finish_escape e st n by fl
finish_within (in_hex v) e st n by fl s = finish_in_hex v e st n by fl
finish_within inside e st n by fl s = finish_closing (e ∷ st) n by fl
finish_within after e st n by fl s = finish_after (e ∷ st) n by fl

finish_outside : (p : Phase) (n by : ℕ) (fl : Option ℕ) → SoundOutside p → Finishes (at p [] n by fl)
finish_outside before n by fl s = finish_before n by fl
finish_outside opened n by fl s = absurd s
finish_outside (in_word w) n by fl s = absurd s
finish_outside named n by fl s = absurd s
finish_outside starting n by fl s = absurd s
finish_outside in_start n by fl s = absurd s
finish_outside started n by fl s = absurd s
finish_outside in_flags n by fl s = absurd s
finish_outside flags_done n by fl s = absurd s
finish_outside in_text n by fl s = absurd s
finish_outside escape n by fl s = absurd s
finish_outside (in_hex v) n by fl s = absurd s
finish_outside inside n by fl s = absurd s
finish_outside after n by fl s = finish_after [] n by fl

finish : (p : Phase) (st : List Open) (n by : ℕ) (fl : Option ℕ) → Sound p st → Finishes (at p st n by fl)
finish p [] n by fl s = finish_outside p n by fl s
finish p (e ∷ st) n by fl s = finish_within p e st n by fl s

-- some listing begins with the bytes that a reading has read
pub ended_goes_on : (s : List ℕ) (m : Memory) (a : Scan) (m' : Memory) → run s at_start m ≡ ended a m' → GoesOn s
ended_goes_on s m a m' e =
    let sound : SoundScan a = run_sound s at_start m a m' e tt in
    let (q, a2, m2, e2, p) = finish a.phase a.stack a.nodes a.bytes a.fault sound m' in
    (q, ended_listing (s ++ q) m a2 m2 (run_append s q at_start m a m' e ∙ e2) p)
