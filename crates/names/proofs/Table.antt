-- The table that a rule gives: its entry at each place is what the rule says of that place.
use Rattle.std.proofs.Common.{◌≡◌, ℕ, zero, suc, ◌+◌, ◌<◌, List, [], ◌∷◌, get_or, sym, ap, ◌∙◌, le_of_suc-le-suc, not-suc-le-zero, add-zero, add-suc, suc-add, zero-add}

-- what the rule says of n places, from i on
abbrev pub entries : {X : Type 0} → (ℕ → X) → ℕ → ℕ → List X
entries rule i zero = []
entries rule i (suc n) = rule i ∷ entries rule (suc i) n

entry_from : {X : Type 0} (rule : ℕ → X) (i n k : ℕ) (d : X) → k < n → get_or (entries rule i n) k d ≡ rule (i + k)
entry_from rule i zero k d h = absurd (not-suc-le-zero h)
entry_from rule i (suc n) zero d h = ap rule (sym (add-zero i))
entry_from rule i (suc n) (suc k) d h =
    entry_from rule (suc i) n k d (le_of_suc-le-suc h) ∙ ap rule (suc-add i k ∙ sym (add-suc i k))

-- a table that is computed to be the rule's follows the rule
pub entry_by_rule : {X : Type 0} (rule : ℕ → X) (n k : ℕ) (d : X) → k < n → get_or (entries rule 0 n) k d ≡ rule k
entry_by_rule rule n k d h = entry_from rule 0 n k d h ∙ ap rule (zero-add k)
