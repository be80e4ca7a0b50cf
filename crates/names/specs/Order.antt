-- The order of names: byte by byte.
use Rattle.std.specs.Prelude.{ℕ, Bool, List}
use Rattle.std.specs.Ordering.{is_lt, nat_cmp}
use Rattle.std.specs.Cmp.Lexicographic.{slice_cmp}

-- whether a list stands before another: the first byte in which they differ decides, and a front
-- stands before what it begins
abbrev pub less : List ℕ → List ℕ → Bool
less a b = is_lt (slice_cmp nat_cmp a b)
