-- What is written is the front of the text, as far as the loop has come.
use Rattle.std.proofs.Common.{take}
use Rattle.std.specs.List.{flat_map}
use Rattle.writer.specs.Puts.{Wrote}
use Rattle.writer.proofs.Spelling.{as_letter}
use Rattle.writer.proofs.output.Output.put_letters.Given as goal

abbrev pub invariant-loop-b : goal.invariant-loop-b
invariant-loop-b l = Wrote (flat_map as_letter (take l.b-index l.text)) l.initial.self l.self
