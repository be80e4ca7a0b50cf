-- After n bytes no counter of the reader is past n, and a first hexadecimal digit is below 16.
use Rattle.std.proofs.Common.{◌≡◌, ℕ, ◌+◌, ◌-◌, ◌*◌, ◌<◌, ◌≤◌, Bool, true, false, cond, ◌&&◌, ◌||◌, eqb, ltb, leb, ◌⊎◌, List, [], ◌∷◌, ◌++◌, length, Some, None, Option, inl, inr, arith}
use Rattle.std.proofs.lemmas.Bool.{cond_both, leb-true, leb-false, and_parts, or_cases}
use Rattle.pages.specs.declared.kind.Kind.{Kind}
use Rattle.pages.specs.declared.row.Flags.{Flags}
use Rattle.pages.specs.declared.row.Part.{Part}
use Rattle.grammar.specs.Scan.{Phase, before, opened, in_word, named, starting, in_start, started, in_flags, flags_done, in_text, escape, in_hex, inside, after, Open, Scan, Step, stuck, on_to, restacked, innermost, with_kind, with_start, with_flags, with_text, with_child, with_byte, grown, open_bracket, close_bracket, phase_in, on_letter, on_name, on_number, on_digit, on_flags, on_flag, between, on_quote, on_byte, in_phase, next, kind_named, is_hex, is_digit, hex_value, flags_of, start_of, begun, is_blank, is_flag}

abbrev pub text_length : Option Part → ℕ
text_length None = 0
text_length (Some p) = p.length

pub record Small (n : ℕ) (e : Open) : Type 0 where
  pub children : e.row.children ≤ n
  pub length : text_length e.row.text ≤ n

abbrev pub AllSmall : ℕ → List Open → Type 0
AllSmall n [] = Unit {0}
AllSmall n (e ∷ s) = Small n e × AllSmall n s

abbrev pub Digit : Phase → Type 0
Digit before = Unit {0}
Digit opened = Unit {0}
Digit (in_word w) = Unit {0}
Digit named = Unit {0}
Digit starting = Unit {0}
Digit in_start = Unit {0}
Digit started = Unit {0}
Digit in_flags = Unit {0}
Digit flags_done = Unit {0}
Digit in_text = Unit {0}
Digit escape = Unit {0}
Digit (in_hex h) = h < 16
Digit inside = Unit {0}
Digit after = Unit {0}

pub record Within (n : ℕ) (a : Scan) : Type 0 where
  pub nodes : a.nodes ≤ n
  pub bytes : a.bytes ≤ n
  pub entries : AllSmall n a.stack
  pub digit : Digit a.phase

small_more : {n : ℕ} {e : Open} → Small n e → Small (n + 1) e
small_more h = record { children = omega (arith, h.children); length = omega (arith, h.length) }

all_more : (n : ℕ) (s : List Open) → AllSmall n s → AllSmall (n + 1) s
all_more n [] h = tt
all_more n (e ∷ s) h = (small_more h.0, all_more n s h.1)

innermost_small : (n : ℕ) (f : Open → Open) → ((e : Open) → Small n e → Small (n + 1) (f e)) → (s : List Open) → AllSmall n s → AllSmall (n + 1) (innermost f s)
innermost_small n f g [] h = tt
innermost_small n f g (e ∷ s) h = (g e h.0, all_more n s h.1)

-- the step leads to a scan within one more
abbrev Leads : ℕ → Step → Type 0
Leads n t = Within (n + 1) t.to

module _ (n : ℕ) (a : Scan) (w : Within n a) where
  stays : Leads n (stuck a)
  stays = record { nodes = omega (arith, w.nodes); bytes = omega (arith, w.bytes); entries = all_more n a.stack w.entries; digit = w.digit }

  goes : (p : Phase) → Digit p → Leads n (on_to p a)
  goes p d = record { nodes = omega (arith, w.nodes); bytes = omega (arith, w.bytes); entries = all_more n a.stack w.entries; digit = d }

  changes : (f : Open → Open) → ((e : Open) → Small n e → Small (n + 1) (f e)) → (p : Phase) → Digit p → Leads n (on_to p (restacked (innermost f a.stack) a))
  changes f g p d =
      record { nodes = omega (arith, w.nodes); bytes = omega (arith, w.bytes); entries = innermost_small n f g a.stack w.entries; digit = d }

  either : (t : Bool) (x y : Step) → (t ≡ true → Leads n x) → (t ≡ false → Leads n y) → Leads n (cond t x y)
  either t x y p q = cond_both t x y (Leads n) p q

  opens : Leads n (open_bracket a)
  opens =
      either (ltb (length a.stack) 64) _ (stuck a)
      (λ _. record {
        nodes = omega (arith, w.nodes);
        bytes = omega (arith, w.bytes);
        entries = (record { children = omega arith; length = omega arith }, innermost_small n with_child (λ e h. record { children = omega (arith, h.children); length = omega (arith, h.length) }) a.stack w.entries);
        digit = tt;
      })
      (λ _. stays)

  closes : (s : List Open) → AllSmall n s → Leads n (close_bracket s a)
  closes [] h = stays
  closes (e ∷ s) h =
      record { nodes = omega (arith, w.nodes); bytes = omega (arith, w.bytes); entries = all_more n s h.1; digit = outside s }
    where
      outside : (s : List Open) → Digit (phase_in s)
      outside [] = tt
      outside (e ∷ s) = tt

  lettered : (u : List ℕ) (b : ℕ) → Leads n (on_letter u a b)
  lettered u b = either (begun (u ++ b ∷ [])) _ (stuck a) (λ _. goes (in_word (u ++ b ∷ [])) tt) (λ _. stays)

  names : (k : Option Kind) → Leads n (on_name k a)
  names None = stays
  names (Some k) = changes (with_kind k) (λ e h. record { children = omega (arith, h.children); length = omega (arith, h.length) }) named tt

  numbers : (v : ℕ) → Leads n (on_number v a)
  numbers v = changes (with_start v) (λ e h. record { children = omega (arith, h.children); length = omega (arith, h.length) }) in_start tt

  digits : (d : ℕ) → Leads n (on_digit a d)
  digits d = either _ (stuck a) _ (λ _. stays) (λ _. numbers (start_of a.stack * 10 + d))

  marks : (f : Flags) → Leads n (on_flags f a)
  marks f = changes (with_flags f) (λ e h. record { children = omega (arith, h.children); length = omega (arith, h.length) }) in_flags tt

  flags : (f : Flags) (b : ℕ) → Leads n (on_flag f a b)
  flags f b =
      either (eqb b 111) _ _
      (λ _. either _ (stuck a) _ (λ _. stays) (λ _. marks _))
      (λ _. either (eqb b 99) _ _
      (λ _. either _ (stuck a) _ (λ _. stays) (λ _. marks _))
      (λ _. either f.shorthand (stuck a) _ (λ _. stays) (λ _. marks _)))

  betweens : (p : Phase) → Digit p → (b : ℕ) → Leads n (between p a b)
  betweens p d b =
      either (is_blank b) _ _ (λ _. goes p d)
      (λ _. either (eqb b 40) _ _ (λ _. opens) (λ _. either (eqb b 41) _ (stuck a) (λ _. closes a.stack w.entries) (λ _. stays)))

  quotes : Leads n (on_quote a)
  quotes = changes (with_text (record { offset = a.bytes; length = 0 })) (λ e h. record { children = omega (arith, h.children); length = omega arith }) in_text tt

  grown_length : (t : Option Part) → text_length t ≤ n → (grown t).length ≤ n + 1
  grown_length None h = omega arith
  grown_length (Some p) h = omega arith

  reads : (b : ℕ) → Leads n (on_byte a b)
  reads b =
      record {
        nodes = omega (arith, w.nodes);
        bytes = omega (arith, w.bytes);
        entries = innermost_small n with_byte (λ e h. record { children = omega (arith, h.children); length = grown_length e.row.text h.length }) a.stack w.entries;
        digit = tt;
      }

hex_small : (b : ℕ) → is_hex b ≡ true → hex_value b < 16
hex_small b e =
    cond_both (leb b 57) (b - 48) (b - 87) (λ v. v < 16)
    (λ h. omega (arith, leb-true b 57 h))
    (λ h. high h (or_cases (is_digit b) (leb 97 b && leb b 102) e))
  where
    high : leb b 57 ≡ false → (is_digit b ≡ true) ⊎ ((leb 97 b && leb b 102) ≡ true) → b - 87 < 16
    high h (inl d) = absurd (omega (arith, leb-true b 57 (and_parts (leb 48 b) (leb b 57) d).1, leb-false b 57 h))
    high h (inr d) = omega (arith, leb-true b 102 (and_parts (leb 97 b) (leb b 102) d).1)

module _ (n : ℕ) (a : Scan) (w : Within n a) (b : ℕ) where
  in_phase_within : (p : Phase) → Leads n (in_phase p a b)
  in_phase_within before =
      either n a w (is_blank b) _ _ (λ _. goes n a w before tt) (λ _. either n a w (eqb b 40) _ (stuck a) (λ _. opens n a w) (λ _. stays n a w))
  in_phase_within opened = either n a w (is_blank b) _ _ (λ _. goes n a w opened tt) (λ _. lettered n a w [] b)
  in_phase_within (in_word u) = either n a w (is_blank b) _ _ (λ _. names n a w (kind_named u)) (λ _. lettered n a w u b)
  in_phase_within named =
      either n a w (is_blank b) _ _ (λ _. goes n a w named tt) (λ _. either n a w (eqb b 64) _ (stuck a) (λ _. goes n a w starting tt) (λ _. stays n a w))
  in_phase_within starting = either n a w (is_digit b) _ (stuck a) (λ _. numbers n a w (b - 48)) (λ _. stays n a w)
  in_phase_within in_start = either n a w (is_digit b) _ _ (λ _. digits n a w (b - 48)) (λ _. betweens n a w started tt b)
  in_phase_within started =
      either n a w (eqb b 34) _ _ (λ _. quotes n a w)
      (λ _. either n a w (is_flag b) _ _ (λ _. flags n a w (flags_of a.stack) b) (λ _. betweens n a w started tt b))
  in_phase_within in_flags = either n a w (is_flag b) _ _ (λ _. flags n a w (flags_of a.stack) b) (λ _. betweens n a w flags_done tt b)
  in_phase_within flags_done = either n a w (eqb b 34) _ _ (λ _. quotes n a w) (λ _. betweens n a w flags_done tt b)
  in_phase_within in_text =
      either n a w (eqb b 34) _ _ (λ _. goes n a w inside tt)
      (λ _. either n a w (eqb b 92) _ _ (λ _. goes n a w escape tt) (λ _. either n a w (leb 32 b && leb b 126) _ (stuck a) (λ _. reads n a w b) (λ _. stays n a w)))
  in_phase_within escape =
      either n a w (eqb b 34 || eqb b 92) _ _ (λ _. reads n a w b)
      (λ _. either n a w (is_hex b) _ (stuck a) (λ e. goes n a w (in_hex (hex_value b)) (hex_small b e)) (λ _. stays n a w))
  in_phase_within (in_hex h) = either n a w (is_hex b) _ (stuck a) (λ _. reads n a w (16 * h + hex_value b)) (λ _. stays n a w)
  in_phase_within inside = betweens n a w inside tt b
  in_phase_within after = either n a w (is_blank b) _ (stuck a) (λ _. goes n a w after tt) (λ _. stays n a w)

-- one byte more, and each counter is up by one at most
pub within_next : (n : ℕ) (a : Scan) → Within n a → (b : ℕ) → Within (n + 1) (next a b).to
within_next n a w b = in_phase_within n a w b a.phase
