-- What holds of every scan that a reading comes to.
use Rattle.std.proofs.Common.{◌≡◌, ℕ, ◌+◌, ◌-◌, ◌*◌, Bool, true, false, cond, ◌&&◌, ◌||◌, eqb, ltb, leb, List, [], ◌∷◌, ◌++◌, length, Some, None, Option, sym, refl, ◌∙◌, subst}
use Rattle.pages.specs.declared.kind.Kind.{Kind}
use Rattle.pages.specs.declared.row.Flags.{Flags}
use Rattle.grammar.specs.Scan.{Phase, before, opened, in_word, named, starting, in_start, started, in_flags, flags_done, in_text, escape, in_hex, inside, after, Open, Scan, unread, Step, in_phase, next, is_blank, is_digit, is_hex, is_flag, open_bracket, close_bracket, between, on_letter, on_name, on_flag, kind_named, begun, Memory, applied, ended, run}
use Rattle.grammar.proofs.Back.{at}
use Rattle.grammar.proofs.Runs.{ended_scan, run_none, step_ended}

-- with no bracket open the reading is before or after the root
abbrev pub SoundOutside : Phase → Type 0
SoundOutside before = Unit
SoundOutside opened = ⊥
SoundOutside (in_word w) = ⊥
SoundOutside named = ⊥
SoundOutside starting = ⊥
SoundOutside in_start = ⊥
SoundOutside started = ⊥
SoundOutside in_flags = ⊥
SoundOutside flags_done = ⊥
SoundOutside in_text = ⊥
SoundOutside escape = ⊥
SoundOutside (in_hex h) = ⊥
SoundOutside inside = ⊥
SoundOutside after = Unit

-- with a bracket open it is not before the root, and the letters read begin some kind's name
abbrev pub SoundWithin : Phase → Type 0
SoundWithin before = ⊥
SoundWithin opened = Unit
SoundWithin (in_word w) = begun w ≡ true
SoundWithin named = Unit
SoundWithin starting = Unit
SoundWithin in_start = Unit
SoundWithin started = Unit
SoundWithin in_flags = Unit
SoundWithin flags_done = Unit
SoundWithin in_text = Unit
SoundWithin escape = Unit
SoundWithin (in_hex h) = Unit
SoundWithin inside = Unit
SoundWithin after = Unit

abbrev pub Sound : Phase → List Open → Type 0
Sound p [] = SoundOutside p
Sound p (e ∷ st) = SoundWithin p

abbrev pub SoundScan : Scan → Type 0
SoundScan a = Sound a.phase a.stack

-- where the byte is read, the step leads to a sound scan
abbrev Keeps : Step → Type 0
Keeps x = (x.effect ≡ unread → ⊥) → SoundScan x.to

keep_cond : (t : Bool) (x y : Step) → (t ≡ true → Keeps x) → (t ≡ false → Keeps y) → Keeps (cond t x y)
keep_cond true x y p q = p refl
keep_cond false x y p q = q refl

keep_open : (a : Scan) → Keeps (open_bracket a)
keep_open a = keep_cond (ltb (length a.stack) 64) _ _ (λ q h. tt) (λ q h. absurd (h refl))

keep_close : (e : Open) (st : List Open) (a : Scan) → Keeps (close_bracket (e ∷ st) a)
keep_close e [] a h = tt
keep_close e (o ∷ st) a h = tt

keep_between : (p p' : Phase) (e : Open) (st : List Open) (n by : ℕ) (fl : Option ℕ) (b : ℕ) → SoundWithin p' → Keeps (between p' (at p (e ∷ st) n by fl) b)
keep_between p p' e st n by fl b k =
    keep_cond (is_blank b) _ _ (λ q h. k)
    (λ q. keep_cond (eqb b 40) _ _ (λ q. keep_open (at p (e ∷ st) n by fl))
    (λ q. keep_cond (eqb b 41) _ _ (λ q. keep_close e st (at p (e ∷ st) n by fl)) (λ q h. absurd (h refl))))

keep_letter : (w : List ℕ) (p : Phase) (e : Open) (st : List Open) (n by : ℕ) (fl : Option ℕ) (b : ℕ) → Keeps (on_letter w (at p (e ∷ st) n by fl) b)
keep_letter w p e st n by fl b = keep_cond (begun (w ++ b ∷ [])) _ _ (λ q h. q) (λ q h. absurd (h refl))

keep_name : (o : Option Kind) (p : Phase) (e : Open) (st : List Open) (n by : ℕ) (fl : Option ℕ) → Keeps (on_name o (at p (e ∷ st) n by fl))
keep_name None p e st n by fl h = absurd (h refl)
keep_name (Some k) p e st n by fl h = tt

keep_flag : (f : Flags) (p : Phase) (e : Open) (st : List Open) (n by : ℕ) (fl : Option ℕ) (b : ℕ) → Keeps (on_flag f (at p (e ∷ st) n by fl) b)
keep_flag f p e st n by fl b =
    keep_cond (eqb b 111) _ _
    (λ q. keep_cond (f.optional || (f.computed || f.shorthand)) _ _ (λ q h. absurd (h refl)) (λ q h. tt))
    (λ q. keep_cond (eqb b 99) _ _
    (λ q. keep_cond (f.computed || f.shorthand) _ _ (λ q h. absurd (h refl)) (λ q h. tt))
    (λ q. keep_cond f.shorthand _ _ (λ q h. absurd (h refl)) (λ q h. tt)))

keep_within : (p : Phase) (e : Open) (st : List Open) (n by : ℕ) (fl : Option ℕ) (b : ℕ) → SoundWithin p → Keeps (in_phase p (at p (e ∷ st) n by fl) b)
keep_within before e st n by fl b s = absurd s
keep_within opened e st n by fl b s = keep_cond (is_blank b) _ _ (λ q h. tt) (λ q. keep_letter [] opened e st n by fl b)
keep_within (in_word w) e st n by fl b s =
    keep_cond (is_blank b) _ _ (λ q. keep_name (kind_named w) (in_word w) e st n by fl) (λ q. keep_letter w (in_word w) e st n by fl b)
keep_within named e st n by fl b s =
    keep_cond (is_blank b) _ _ (λ q h. tt) (λ q. keep_cond (eqb b 64) _ _ (λ q h. tt) (λ q h. absurd (h refl)))
keep_within starting e st n by fl b s = keep_cond (is_digit b) _ _ (λ q h. tt) (λ q h. absurd (h refl))
keep_within in_start e st n by fl b s =
    keep_cond (is_digit b) _ _
    (λ q. keep_cond (eqb e.row.start 0 || leb 4294967296 (e.row.start * 10 + (b - 48))) _ _ (λ q h. absurd (h refl)) (λ q h. tt))
    (λ q. keep_between in_start started e st n by fl b tt)
keep_within started e st n by fl b s =
    keep_cond (eqb b 34) _ _ (λ q h. tt)
    (λ q. keep_cond (is_flag b) _ _ (λ q. keep_flag e.row.flags started e st n by fl b) (λ q. keep_between started started e st n by fl b tt))
keep_within in_flags e st n by fl b s =
    keep_cond (is_flag b) _ _ (λ q. keep_flag e.row.flags in_flags e st n by fl b) (λ q. keep_between in_flags flags_done e st n by fl b tt)
keep_within flags_done e st n by fl b s =
    keep_cond (eqb b 34) _ _ (λ q h. tt) (λ q. keep_between flags_done flags_done e st n by fl b tt)
keep_within in_text e st n by fl b s =
    keep_cond (eqb b 34) _ _ (λ q h. tt)
    (λ q. keep_cond (eqb b 92) _ _ (λ q h. tt) (λ q. keep_cond (leb 32 b && leb b 126) _ _ (λ q h. tt) (λ q h. absurd (h refl))))
keep_within escape e st n by fl b s =
    keep_cond (eqb b 34 || eqb b 92) _ _ (λ q h. tt) (λ q. keep_cond (is_hex b) _ _ (λ q h. tt) (λ q h. absurd (h refl)))
keep_within (in_hex v) e st n by fl b s = keep_cond (is_hex b) _ _ (λ q h. tt) (λ q h. absurd (h refl))
keep_within inside e st n by fl b s = keep_between inside inside e st n by fl b tt
keep_within after e st n by fl b s = keep_cond (is_blank b) _ _ (λ q h. tt) (λ q h. absurd (h refl))

keep_outside : (p : Phase) (n by : ℕ) (fl : Option ℕ) (b : ℕ) → SoundOutside p → Keeps (in_phase p (at p [] n by fl) b)
keep_outside before n by fl b s =
    keep_cond (is_blank b) _ _ (λ q h. tt) (λ q. keep_cond (eqb b 40) _ _ (λ q. keep_open (at before [] n by fl)) (λ q h. absurd (h refl)))
keep_outside opened n by fl b s = absurd s
keep_outside (in_word w) n by fl b s = absurd s
keep_outside named n by fl b s = absurd s
keep_outside starting n by fl b s = absurd s
keep_outside in_start n by fl b s = absurd s
keep_outside started n by fl b s = absurd s
keep_outside in_flags n by fl b s = absurd s
keep_outside flags_done n by fl b s = absurd s
keep_outside in_text n by fl b s = absurd s
keep_outside escape n by fl b s = absurd s
keep_outside (in_hex v) n by fl b s = absurd s
keep_outside inside n by fl b s = absurd s
keep_outside after n by fl b s = keep_cond (is_blank b) _ _ (λ q h. tt) (λ q h. absurd (h refl))

keep : (p : Phase) (st : List Open) (n by : ℕ) (fl : Option ℕ) (b : ℕ) → Sound p st → Keeps (in_phase p (at p st n by fl) b)
keep p [] n by fl b s = keep_outside p n by fl b s
keep p (e ∷ st) n by fl b s = keep_within p e st n by fl b s

-- a reading from a sound scan ends in a sound one
pub run_sound : (s : List ℕ) (a : Scan) (m : Memory) (a' : Scan) (m' : Memory) → run s a m ≡ ended a' m' → SoundScan a → SoundScan a'
run_sound [] a m a' m' e k = subst SoundScan (ended_scan a a' m m' (sym (run_none a m) ∙ e)) k
run_sound (b ∷ s) a m a' m' e k =
    let (read, rest) = step_ended b s a m a' m' e in
    run_sound s (next a b).to (applied (next a b).effect m) a' m' rest (keep a.phase a.stack a.nodes a.bytes a.fault b k read)
