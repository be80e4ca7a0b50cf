-- Identifier names: one or more of A-Z, a-z, $ and _, and, after the first, also 0-9.
use Rattle.std.specs.Prelude.{ℕ, Bool, false, cond, ◌&&◌, ◌||◌, List, [], ◌∷◌, ◌==◌, nat_le}
use Rattle.std.specs.List.{list_all}
use Rattle.names.specs.declared.identifier.Class.{Class}
use Rattle.names.specs.declared.identifier.Class.TheVariants.{Start, Part, Other}

-- A-Z, a-z, $ or _
unfoldable pub starts : ℕ → Bool
starts b = (nat_le 65 b && nat_le b 90) || ((nat_le 97 b && nat_le b 122) || (b == 36 || b == 95))

-- 0-9
unfoldable pub digit : ℕ → Bool
digit b = nat_le 48 b && nat_le b 57

-- what may stand after the first byte
unfoldable pub goes_on : ℕ → Bool
goes_on b = starts b || digit b

-- each byte may stand after the first
abbrev pub all_go_on : List ℕ → Bool
all_go_on text = list_all goes_on text

-- at least one byte; the first may stand first, and the others after it
abbrev pub identifier : List ℕ → Bool
identifier [] = false
identifier (b ∷ bs) = starts b && all_go_on bs

-- the class of a byte: whether it may stand first, or only after the first, or nowhere
unfoldable pub class : ℕ → Class
class b = cond (starts b) Start (cond (digit b) Part Other)
