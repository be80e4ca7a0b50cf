-- A text that stands so often.
use Rattle.std.proofs.Common.{◌≡◌, ℕ, zero, suc, ◌+◌, ◌-◌, ◌<◌, List, [], ◌∷◌, ◌++◌, length, refl, ap, append_assoc, ◌∙◌, arith}
use Rattle.std.specs.List.{repeat}

pub repeat_nothing : (n : ℕ) → repeat {A = ℕ} n [] ≡ []
repeat_nothing zero = refl
repeat_nothing (suc n) = repeat_nothing n

-- one turn more leaves one text less to come
pub repeat_turn : (bytes text : List ℕ) (i n : ℕ) → i < n → (bytes ++ text) ++ repeat (n - (i + 1)) text ≡ bytes ++ repeat (n - i) text
repeat_turn bytes text i n h =
    append_assoc bytes text (repeat (n - (i + 1)) text)
    ∙ ap (λ (k : ℕ). bytes ++ repeat k text) (let e : suc (n - (i + 1)) ≡ n - i = omega arith in e)

pub no_length : (text : List ℕ) → length text ≡ 0 → text ≡ []
no_length [] e = refl
no_length (b ∷ text) e = absurd (omega arith)
