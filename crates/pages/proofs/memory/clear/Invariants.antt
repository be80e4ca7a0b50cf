use Rattle.std.proofs.Common.{◌≡◌, take, replicate}
use Rattle.pages.proofs.memory.clear.Given as goal

abbrev pub invariant-loop-i : goal.invariant-loop-i
invariant-loop-i g l = take l.i l.memory ≡ replicate l.i l.x
