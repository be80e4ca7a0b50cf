-- Where a reading breaks off, or ends before its root does, the bytes are no listing, and break off just there.
use Rattle.std.proofs.Common.{◌≡◌, ℕ, suc, ◌+◌, ◌-◌, ◌<◌, ◌≤◌, List, [], ◌∷◌, ◌++◌, length, take, sym, refl, ap, ◌∙◌, subst, append_assoc, arith, length-append}
use Rattle.pages.specs.Trees.{Tree}
use Rattle.grammar.specs.Grammar.{Listing, GoesOn}
use Rattle.grammar.specs.Reading.{BreaksOff}
use Rattle.grammar.specs.Scan.{after, Scan, unread, next, Memory, ended, broke, run, at_start}
use Rattle.grammar.proofs.Runs.{ended_not_broke, ended_scan, run_unread, run_append, Broken, run_broken}
use Rattle.grammar.proofs.Finishes.{ended_goes_on}
use Rattle.grammar.proofs.Forms.{listing_runs}

-- every listing is read to the end of its root
forward : (s : List ℕ) (t : Tree) (m : Memory) → Listing s t → (a : Scan) × (m' : Memory) × (run s at_start m ≡ ended a m') × (a.phase ≡ after)
forward s t m l = (_, _, listing_runs s t m l, refl)

take_front : (u v : List ℕ) → take (length u) (u ++ v) ≡ u
take_front [] v = refl
take_front (a ∷ u) v = ap (λ x. a ∷ x) (take_front u v)

take_one_more : (u : List ℕ) (b : ℕ) (v : List ℕ) → take (suc (length u)) (u ++ b ∷ v) ≡ u ++ b ∷ []
take_one_more [] b v = refl
take_one_more (a ∷ u) b v = ap (λ x. a ∷ x) (take_one_more u b v)

take_all : (u : List ℕ) → take (length u) u ≡ u
take_all [] = refl
take_all (a ∷ u) = ap (λ x. a ∷ x) (take_all u)

-- no listing goes on with a byte that is unread after these
unread_ends : (u : List ℕ) (b : ℕ) (m : Memory) (a : Scan) (m' : Memory)
    → run u at_start m ≡ ended a m' → (next a b).effect ≡ unread → GoesOn (u ++ b ∷ []) → ⊥
unread_ends u b m a m' e h (q, (t, l)) =
    let (a2, m2, e2, p) = forward ((u ++ b ∷ []) ++ q) t m l in
    ended_not_broke a2 m2 (length q + 1)
    (sym e2 ∙ (ap (λ x. run x at_start m) (append_assoc u (b ∷ []) q) ∙ (run_append u (b ∷ q) at_start m a m' e ∙ run_unread b q a m' h)))

broken_off : (s : List ℕ) (m : Memory) (k : ℕ) → Broken s at_start m k → run s at_start m ≡ broke k → BreaksOff s (length s - k)
broken_off s m k r e =
    let whole : length s ≡ length r.front + suc (length r.back) = ap length r.bytes_are ∙ length-append r.front (r.byte ∷ r.back) in
    let place : length s - k ≡ length r.front = omega (arith, r.left_is) in
    let more : length s - k + 1 ≡ suc (length r.front) = omega (arith, r.left_is) in
    let before : take (length s - k) s ≡ r.front = ap (λ x. take x s) place ∙ (ap (take (length r.front)) r.bytes_are ∙ take_front r.front (r.byte ∷ r.back)) in
    let with : take (length s - k + 1) s ≡ r.front ++ r.byte ∷ [] =
    ap (λ x. take x s) more ∙ (ap (take (suc (length r.front))) r.bytes_are ∙ take_one_more r.front r.byte r.back) in
    record {
      within = omega arith;
      begun = subst GoesOn (sym before) (ended_goes_on r.front m r.scan r.memory r.front_ends);
      stuck = λ h g. unread_ends r.front r.byte m r.scan r.memory r.front_ends r.byte_unread (subst GoesOn with g);
      no_listing = λ t l. let (a, m2, e2, p) = forward s t m l in ended_not_broke a m2 k (sym e2 ∙ e);
    }

pub broke_breaks_off : (s : List ℕ) (m : Memory) (k : ℕ) → run s at_start m ≡ broke k → BreaksOff s (length s - k)
broke_breaks_off s m k e = broken_off s m k (run_broken s at_start m k e) e

-- some bytes are left, and no more than there were
pub broke_left : (s : List ℕ) (m : Memory) (k : ℕ) → run s at_start m ≡ broke k → (0 < k) × (k ≤ length s)
broke_left s m k e =
    let r = run_broken s at_start m k e in
    let whole : length s ≡ length r.front + suc (length r.back) = ap length r.bytes_are ∙ length-append r.front (r.byte ∷ r.back) in
    (omega (arith, r.left_is), omega (arith, r.left_is))

pub short_breaks_off : (s : List ℕ) (m : Memory) (a : Scan) (m' : Memory)
    → run s at_start m ≡ ended a m' → (a.phase ≡ after → ⊥) → BreaksOff s (length s)
short_breaks_off s m a m' e open_still =
    record {
      within = omega arith;
      begun = subst GoesOn (sym (take_all s)) (ended_goes_on s m a m' e);
      stuck = λ h g. omega arith;
      no_listing = λ t l.
          let (a2, m2, e2, p) = forward s t m l in
          open_still (ap (λ x. x.phase) (ended_scan a a2 m' m2 (sym e ∙ e2)) ∙ p);
    }
