use Rattle.writer.proofs.Putting.{wrote_blank}
use Rattle.writer.proofs.output.Output.put_blanks.Goals as goal

pub loop-preserved : goal.loop-preserved
loop-preserved c = wrote_blank c.loop.counter c.loop.invariant c.in_ok-put.ensures
