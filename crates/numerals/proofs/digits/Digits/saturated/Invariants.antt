use Rattle.std.proofs.Common.{◌≡◌, min, take}
use Rattle.numerals.specs.Deciding.{value}
use Rattle.numerals.proofs.digits.Digits.saturated.Given as goal

-- the number that the digits so far write
abbrev pub invariant-loop-b : goal.invariant-loop-b
invariant-loop-b l = l.n ≡ min 1000 (value (take l.b-index l.self.bytes.now))
