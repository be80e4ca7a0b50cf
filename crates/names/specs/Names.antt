-- What a name record holds.
use Rattle.std.specs.Prelude.{ℕ, ◌-◌, Bool, cond, List, ◌++◌, length, take, replicate, Some, None, Option, nat_le, nat_lt}
use Rattle.names.specs.declared.name.Name.{Name}
use Rattle.names.specs.Order.{less}

-- the bytes of a name
abbrev pub bytes_of : Name → List ℕ
bytes_of n = take n.len n.bytes

-- over 255 bytes
abbrev pub long : List ℕ → Bool
long text = nat_lt 255 (length text)

-- the record of a name with at most 255 bytes: zeros come after them
abbrev pub name_of : List ℕ → Name
name_of text = record { bytes = text ++ replicate (255 - length text) 0; len = length text }

-- the name with these bytes, zeros after them; none where there are over 255
abbrev pub made_of : List ℕ → Option Name
made_of text =
    cond (nat_le (length text) 255) (Some (record { bytes = text ++ replicate (255 - length text) 0; len = length text })) None

-- names in the order of their bytes
abbrev pub before : Name → Name → Bool
before a b = less (bytes_of a) (bytes_of b)
