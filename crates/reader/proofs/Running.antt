-- One turn of a reading.
use Rattle.std.proofs.Common.{◌≡◌, ℕ, suc, ◌+◌, ◌-◌, ◌<◌, ◌≤◌, List, length, get_or, drop, Ok, Err, sym, refl, ap, ◌∙◌, add-one, arith, drop-cons}
use Rattle.std.proofs.lemmas.List.{length-drop, drop_all}
use Rattle.grammar.specs.Scan.{Scan, Step, Memory, Ran, ended, broke, run, carried, applied, next}
use Rattle.reader.specs.declared.open.Effect.{Effect}
use Rattle.reader.specs.declared.open.Effect.TheVariants.{Quiet, Text, Done}
use Rattle.reader.specs.declared.open.Unread.{Unread}
use Rattle.reader.specs.declared.reader.Reader.{Reader}
use Rattle.reader.specs.View.{view, stepped, effect_of}

-- the byte at an index, where its step is known
pub run_at : (s : List ℕ) (i : ℕ) (a : Scan) (m : Memory) → i < length s → (t : Step) → t ≡ next a (get_or s i 0)
    → run (drop i s) a m ≡ carried t.effect (length s - i) (run (drop (i + 1) s) t.to (applied t.effect m))
unfolding run
run_at s i a m h t e =
    let n : length (drop (suc i) s) + 1 ≡ length s - i = rw (length-drop (suc i) s) (omega arith) in
    let step : Step → Ran = λ u. carried u.effect (length s - i) (run (drop (suc i) s) u.to (applied u.effect m)) in
    ap (λ l. run l a m) (drop-cons s i 0 h)
    ∙ (ap (λ k. carried (next a (get_or s i 0)).effect k (run (drop (suc i) s) (next a (get_or s i 0)).to (applied (next a (get_or s i 0)).effect m))) n
    ∙ (ap step (sym e) ∙ rw add-one refl))

module _ (s : List ℕ) (i : ℕ) (a : Scan) (m : Memory) (within : i < length s) (r : Reader) where
  -- a byte that is read, and what it adds to the memory
  pub run_more : (e : Effect) (m' : Memory) → stepped r (Ok e) ≡ next a (get_or s i 0) → m' ≡ applied (effect_of (Ok e)) m
      → run (drop i s) a m ≡ run (drop (i + 1) s) (view r) m'
  run_more e m' step after =
      run_at s i a m within (stepped r (Ok e)) step ∙ (carried_on e ∙ ap (run (drop (i + 1) s) (view r)) (sym after))
    where
      carried_on : (e : Effect) → carried (effect_of (Ok e)) (length s - i) (run (drop (i + 1) s) (view r) (applied (effect_of (Ok e)) m)) ≡ run (drop (i + 1) s) (view r) (applied (effect_of (Ok e)) m)
      carried_on Quiet = refl
      carried_on (Text at b) = refl
      carried_on (Done o) = refl

  -- a byte that is unread
  pub run_stuck : (e : Unread) → stepped r (Err e) ≡ next a (get_or s i 0) → run (drop i s) a m ≡ broke (length s - i)
  run_stuck e step = run_at s i a m within (stepped r (Err e)) step

-- all bytes are read
pub run_all : (s : List ℕ) (i : ℕ) (a : Scan) (m : Memory) → length s ≤ i → run (drop i s) a m ≡ ended a m
unfolding run
run_all s i a m h = ap (λ l. run l a m) (drop_all i s h)
