-- A number that fits 16 bits, by what `try_from` and `ok` answered.
use Rattle.std.proofs.Common.{◌≡◌, ℕ, ◌<◌, ◌≤◌, Some, None, Ok, Err, Result, ◌∙◌, arith}
use Rattle.std.specs.Result.{OkIff, result_ok}

pub attempt_told : {E : Type 0} (r : Result ℕ E) (n k : ℕ) → OkIff r (n < 65536) n → Some k ≡ result_ok r → (n < 65536) × (k ≡ n)
attempt_told (Ok x) n k h e = (h.0, (let same : k ≡ x = cc in same) ∙ h.1)
attempt_told (Err x) n k h e = absurd (cc)

pub no_attempt : {E : Type 0} (r : Result ℕ E) (n : ℕ) → OkIff r (n < 65536) n → None ≡ result_ok r → 65536 ≤ n
no_attempt (Ok x) n h e = absurd (cc)
no_attempt (Err x) n h e = omega (arith, h)
