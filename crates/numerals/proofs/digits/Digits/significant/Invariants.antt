use Rattle.std.proofs.Common.{◌≡◌, length}
use Rattle.numerals.specs.Deciding.{trim}
use Rattle.numerals.proofs.digits.Digits.significant.Given as goal

-- only zeros were left out so far
abbrev pub invariant-loop-kept : goal.invariant-loop-kept
invariant-loop-kept l = trim l.kept ≡ trim l.fn.self.bytes.now

abbrev pub decreases-loop-kept : goal.decreases-loop-kept
decreases-loop-kept l = length l.kept
