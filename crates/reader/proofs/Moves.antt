-- What the reader's changes come to in its description.
use Rattle.std.proofs.Common.{◌≡◌, ℕ, ◌+◌, ◌-◌, ◌<◌, ◌≤◌, min, Bool, true, false, eqb, ltb, List, [], ◌∷◌, ◌++◌, length, get_or, take, set, sym, refl, ap, ◌∙◌, inl, inr, arith, get_or-take}
use Rattle.std.proofs.lemmas.List.{length-append, length-take}
use Rattle.std.proofs.lemmas.Bool.{cond-true, lt-ltb, and_parts, or_cases, both_ways}
use Rattle.pages.specs.declared.shape.Place.TheVariants.{Child}
use Rattle.pages.specs.declared.kind.Kind.{Kind}
use Rattle.grammar.specs.Words.{word, kinds}
use Rattle.grammar.specs.Reading.{zero_row}
use Rattle.grammar.specs.Scan as scan
use Rattle.grammar.specs.Scan.{Scan, Step, opened, quiet, restacked, innermost, with_child, open_bracket, place_in, prefix, some_begins, begun, phase_in}
use Rattle.reader.specs.declared.open.Open.{Open}
use Rattle.reader.specs.declared.reader.Reader.{Reader}
use Rattle.reader.specs.View.{view, unwound, no_open}
use Rattle.reader.proofs.Stack.{unwound_length, unwound_push, unwound_pop}

-- after the innermost has its new child, a new entry makes the bracket open
pub open_after : (r r' : Reader) → r'.depth ≡ r.depth → view r' ≡ restacked (innermost with_child (view r).stack) (view r)
    → r.depth < 64 → r'.depth < length r'.stack
    → ◌≡◌ {A = Step}
    (record {
      to = record {
        phase = opened;
        stack = unwound (r'.depth + 1) (set r'.stack r'.depth (record { row = zero_row; number = r.nodes }));
        nodes = r.nodes + 1;
        bytes = r'.bytes;
        fault = r'.fault;
      };
      effect = quiet;
    })
    (open_bracket (view r))
open_after r r' ed ev few within =
    let opens : List scan.Open → Scan → Step = λ s v. record { to = record { phase = opened; stack = s; nodes = r.nodes + 1; bytes = v.bytes; fault = v.fault }; effect = quiet } in
    let entry : scan.Open = record { row = zero_row; number = r.nodes } in
    let below : ltb (length (unwound r.depth r.stack)) 64 ≡ true = rw (unwound_length r.depth r.stack) (lt-ltb r.depth 64 few) in
    ap (λ s. opens s (view r')) (unwound_push r'.depth r'.stack (record { row = zero_row; number = r.nodes }) within)
    ∙ (ap (λ (v : Scan). opens (entry ∷ v.stack) v) ev ∙ sym (cond-true (ltb (length (unwound r.depth r.stack)) 64) _ (scan.stuck (view r)) below))

-- the node of the innermost bracket is the last child so far of the bracket around it
pub place_around : (d : ℕ) (s : List Open) → d ≤ length s → 2 ≤ length (take d s)
    → place_in (unwound (d - 1) s)
    ≡ Child (get_or (take d s) (length (take d s) - 2) no_open).row.kind (get_or (take d s) (length (take d s) - 2) no_open).row.flags
    ((get_or (take d s) (length (take d s) - 2) no_open).row.children - 1)
place_around d s l h =
    let n : length (take d s) ≡ d = omega (arith, length-take d s) in
    let e : d - 1 - 1 ≡ d - 2 = omega arith in
    let g : get_or (take d s) (d - 2) no_open ≡ get_or s (d - 2) no_open = get_or-take d s (d - 2) no_open (omega arith) in
    ap place_in (unwound_pop (d - 1) s (omega arith)) ∙ rw (e, n, g) refl

-- a name has at most nine letters
prefix_length : (w v : List ℕ) → prefix w v ≡ true → length w ≤ length v
prefix_length [] v e = omega arith
prefix_length (a ∷ w) [] e = absurd (both_ways true (sym e) refl)
prefix_length (a ∷ w) (b ∷ v) e =
    let h : length w ≤ length v = prefix_length w v (and_parts (eqb a b) (prefix w v) e).1 in omega arith

-- none of these kinds has a longer name
abbrev Longest : ℕ → List Kind → Type 0
Longest n [] = Unit {0}
Longest n (k ∷ ks) = (length (word k) ≤ n) × Longest n ks

some_begins_length : (ks : List Kind) (n : ℕ) (w : List ℕ) → Longest n ks → some_begins ks w ≡ true → length w ≤ n
some_begins_length [] n w l e = absurd (both_ways true (sym e) refl)
some_begins_length (k ∷ ks) n w l e =
    elim (or_cases (prefix w (word k)) (some_begins ks w) e) [
      | inl h ↦ (let p : length w ≤ length (word k) = prefix_length w (word k) h in let q : length (word k) ≤ n = l.0 in omega arith)
      | inr h ↦ some_begins_length ks n w l.1 h
    ]

pub begun_length : (w : List ℕ) → begun w ≡ true → length w ≤ 9
unfolding begun
begun_length w e = some_begins_length kinds 9 w (omega arith) e

-- so more than nine letters begin no name
pub begun_long : (w : List ℕ) (n b : ℕ) → length w ≡ 9 → 9 ≤ n → begun (take n w ++ b ∷ []) ≡ false
begun_long w n b l h = go (begun (take n w ++ b ∷ [])) refl
  where
    go : (t : Bool) → begun (take n w ++ b ∷ []) ≡ t → t ≡ false
    go true e =
        let k : length (take n w ++ b ∷ []) ≤ 9 = begun_length (take n w ++ b ∷ []) e in
        let s : length (take n w ++ b ∷ []) ≡ min n (length w) + 1 = length-append (take n w) (b ∷ []) ∙ ap (λ m. m + 1) (length-take n w) in
        absurd (omega arith)
    go false e = refl
