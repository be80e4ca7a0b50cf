-- So many blanks are written as there were turns.
use Rattle.std.proofs.Common.{replicate}
use Rattle.writer.specs.Puts.{Wrote}
use Rattle.writer.proofs.output.Output.put_blanks.Given as goal

abbrev pub invariant-loop : goal.invariant-loop
invariant-loop l = Wrote (replicate l.counter 32) l.initial.self l.self
