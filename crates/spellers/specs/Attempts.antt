-- Lists that come from a rule.
use Rattle.std.specs.Prelude.{ℕ, List, map, length, nat_le}
use Rattle.std.specs.List.{range_with_len, filter}

-- the spellings that a rule gives for the attempts 0 to 65,535, but for those with more bytes than a length
unfoldable pub attempts : (ℕ → List ℕ) → ℕ → List (List ℕ)
attempts rule longest = filter (λ s. nat_le (length s) longest) (map rule (range_with_len 0 65536))
