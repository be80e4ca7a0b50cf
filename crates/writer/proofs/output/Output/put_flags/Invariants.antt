-- What is written is the letters of the flags so far.
use Rattle.std.proofs.Common.{take}
use Rattle.std.specs.List.{flat_map}
use Rattle.writer.specs.Puts.{Wrote}
use Rattle.writer.proofs.Spelling.{as_flag}
use Rattle.writer.proofs.output.Output.put_flags.Given as goal

abbrev pub invariant-loop-set : goal.invariant-loop-set
invariant-loop-set l = Wrote (flat_map as_flag (take l.set-index l.set-items)) l.initial.self l.self
