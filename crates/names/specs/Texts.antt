-- Hard names, and texts that are not ASCII.
use Rattle.std.specs.Prelude.{ℕ, Bool, ◌||◌, List, codes, nat_le}
use Rattle.std.specs.List.{list_any}
use Rattle.std.specs.Str.{bytes_eq}

-- one of the three hard names
unfoldable pub hard : List ℕ → Bool
hard text =
    bytes_eq text (codes "__proto__") || (bytes_eq text (codes "constructor") || bytes_eq text (codes "prototype"))

-- some byte is 128 or more
abbrev pub foreign : List ℕ → Bool
foreign text = list_any (nat_le 128) text
