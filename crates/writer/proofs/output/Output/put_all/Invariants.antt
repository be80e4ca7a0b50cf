-- What is written is the front of the bytes, as far as the loop has come.
use Rattle.std.proofs.Common.{take}
use Rattle.std.specs.List.{flat_map}
use Rattle.writer.specs.Puts.{Wrote}
use Rattle.writer.proofs.Putting.{itself}
use Rattle.writer.proofs.output.Output.put_all.Given as goal

abbrev pub invariant-loop-b : goal.invariant-loop-b
invariant-loop-b l = Wrote (flat_map itself (take l.b-index l.bytes)) l.initial.self l.self
