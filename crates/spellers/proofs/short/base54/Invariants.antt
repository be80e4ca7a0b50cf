use Rattle.spellers.proofs.Spelling.{Spelling}
use Rattle.spellers.proofs.short.base54.Given as goal

abbrev pub invariant-loop-len : goal.invariant-loop-len
invariant-loop-len l = Spelling l.n l.bytes l.len l.left
