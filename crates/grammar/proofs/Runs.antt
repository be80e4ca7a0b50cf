-- How `run` goes over bytes: a step at a time, over bytes one after the other, and up to where it breaks off.
use Rattle.std.proofs.Common.{◌≡◌, ℕ, ◌+◌, ◌⊎◌, List, [], ◌∷◌, ◌++◌, length, sym, refl, ap, ◌∙◌, inl, inr, arith}
use Rattle.grammar.specs.Scan.{Scan, Effect, quiet, text_byte, row_done, unread, Memory, applied, next, Ran, ended, broke, carried, run}

pub ended_not_broke : (a : Scan) (m : Memory) (k : ℕ) → ended a m ≡ broke k → ⊥
ended_not_broke a m k e = let z : ◌≡◌ {A = ℕ} 0 1 = cc in omega arith

pub ended_scan : (a a' : Scan) (m m' : Memory) → ended a m ≡ ended a' m' → a ≡ a'
ended_scan a a' m m' e = cc

pub ended_memory : (a a' : Scan) (m m' : Memory) → ended a m ≡ ended a' m' → m ≡ m'
ended_memory a a' m m' e = cc

-- where a reading ends, its first byte was read
carried_ended : (x : Effect) (n : ℕ) (r : Ran) (a : Scan) (m : Memory) → carried x n r ≡ ended a m → (x ≡ unread → ⊥) × (r ≡ ended a m)
carried_ended quiet n r a m e = (λ h. let z : ◌≡◌ {A = ℕ} 0 1 = cc in omega arith, e)
carried_ended (text_byte i b) n r a m e = (λ h. let z : ◌≡◌ {A = ℕ} 0 1 = cc in omega arith, e)
carried_ended (row_done i row) n r a m e = (λ h. let z : ◌≡◌ {A = ℕ} 0 1 = cc in omega arith, e)
carried_ended unread n r a m e = absurd (ended_not_broke a m n (sym e))

pub run_none : (a : Scan) (m : Memory) → run [] a m ≡ ended a m
unfolding run
run_none a m = refl

pub step_ended : (b : ℕ) (s : List ℕ) (a : Scan) (m : Memory) (a' : Scan) (m' : Memory) → run (b ∷ s) a m ≡ ended a' m'
    → ((next a b).effect ≡ unread → ⊥) × (run s (next a b).to (applied (next a b).effect m) ≡ ended a' m')
unfolding run
step_ended b s a m a' m' e = carried_ended (next a b).effect (length s + 1) (run s (next a b).to (applied (next a b).effect m)) a' m' e

carried_read : (x : Effect) (n : ℕ) (r : Ran) → (x ≡ unread → ⊥) → carried x n r ≡ r
carried_read quiet n r h = refl
carried_read (text_byte i b) n r h = refl
carried_read (row_done i row) n r h = refl
carried_read unread n r h = absurd (h refl)

-- a byte that is read
pub run_read : (b : ℕ) (s : List ℕ) (a : Scan) (m : Memory) → ((next a b).effect ≡ unread → ⊥) → run (b ∷ s) a m ≡ run s (next a b).to (applied (next a b).effect m)
unfolding run
run_read b s a m h = carried_read (next a b).effect (length s + 1) (run s (next a b).to (applied (next a b).effect m)) h

-- a byte that is not
pub run_unread : (b : ℕ) (s : List ℕ) (a : Scan) (m : Memory) → (next a b).effect ≡ unread → run (b ∷ s) a m ≡ broke (length s + 1)
unfolding run
run_unread b s a m h = ap (λ x. carried x (length s + 1) (run s (next a b).to (applied (next a b).effect m))) h

-- a reading that ends goes on with the bytes that follow
pub run_append : (s q : List ℕ) (a : Scan) (m : Memory) (a' : Scan) (m' : Memory) → run s a m ≡ ended a' m' → run (s ++ q) a m ≡ run q a' m'
run_append [] q a m a' m' e =
    let here : ended a m ≡ ended a' m' = sym (run_none a m) ∙ e in
    ap (λ x. run q x m) (ended_scan a a' m m' here) ∙ ap (λ x. run q a' x) (ended_memory a a' m m' here)
run_append (b ∷ s) q a m a' m' e =
    let (read, rest) = step_ended b s a m a' m' e in
    run_read b (s ++ q) a m read ∙ run_append s q (next a b).to (applied (next a b).effect m) a' m' rest

read_or_not : (x : Effect) → (x ≡ unread) ⊎ (x ≡ unread → ⊥)
read_or_not quiet = inr (λ h. let z : ◌≡◌ {A = ℕ} 0 1 = cc in omega arith)
read_or_not (text_byte i b) = inr (λ h. let z : ◌≡◌ {A = ℕ} 0 1 = cc in omega arith)
read_or_not (row_done i row) = inr (λ h. let z : ◌≡◌ {A = ℕ} 0 1 = cc in omega arith)
read_or_not unread = inl refl

-- A reading that breaks off: bytes that are read, to this scan and memory, then a byte that is not, and what is left.
pub record Broken (s : List ℕ) (a : Scan) (m : Memory) (k : ℕ) : Type 0 where
  pub front : List ℕ
  pub byte : ℕ
  pub back : List ℕ
  pub scan : Scan
  pub memory : Memory
  pub bytes_are : s ≡ front ++ byte ∷ back
  pub front_ends : run front a m ≡ ended scan memory
  pub byte_unread : (next scan byte).effect ≡ unread
  pub left_is : k ≡ length back + 1

pub run_broken : (s : List ℕ) (a : Scan) (m : Memory) (k : ℕ) → run s a m ≡ broke k → Broken s a m k
run_broken [] a m k e = absurd (ended_not_broke a m k (sym (run_none a m) ∙ e))
run_broken (b ∷ s) a m k e = go (read_or_not (next a b).effect) (run_broken s (next a b).to (applied (next a b).effect m) k)
  where
    go : ((next a b).effect ≡ unread) ⊎ ((next a b).effect ≡ unread → ⊥)
        → (run s (next a b).to (applied (next a b).effect m) ≡ broke k → Broken s (next a b).to (applied (next a b).effect m) k) → Broken (b ∷ s) a m k
    go (inl h) ih =
        let same : broke (length s + 1) ≡ broke k = sym (run_unread b s a m h) ∙ e in
        record { front = []; byte = b; back = s; scan = a; memory = m; bytes_are = refl; front_ends = run_none a m; byte_unread = h; left_is = cc }
    go (inr h) ih =
        let r = ih (sym (run_read b s a m h) ∙ e) in
        record {
          front = b ∷ r.front;
          byte = r.byte;
          back = r.back;
          scan = r.scan;
          memory = r.memory;
          bytes_are = ap (λ x. b ∷ x) r.bytes_are;
          front_ends = run_read b r.front a m h ∙ r.front_ends;
          byte_unread = r.byte_unread;
          left_is = r.left_is;
        }
