use Rattle.std.proofs.Common.{arith}
use Rattle.std.proofs.lemmas.Result.{MatchResult-from_err}
use Rattle.writer.proofs.Putting.{wrote_more, full_more, wrote_all, itself, by_itself}
use Rattle.writer.proofs.output.Output.put_all.Goals as goal

pub loop-b-preserved : goal.loop-b-preserved
loop-b-preserved c =
    wrote_more itself c.args.bytes.now c.loop-b.b-index 0 (omega arith) c.loop-b.invariant c.in_ok-put.ensures

pub returns-in_err-put : goal.returns-in_err-put
returns-in_err-put c =
    rw (by_itself c.args.bytes.now)
    (MatchResult-from_err _ _ _ c.from_residual.ensures.0
    (λ _. full_more itself c.args.bytes.now c.loop-b.b-index 0 (omega arith) c.loop-b.invariant c.in_err-put.ensures))

pub returns : goal.returns
returns c =
    rw (by_itself c.args.bytes.now) (wrote_all itself c.args.bytes.now c.loop-b.b-index c.loop-b-test.false c.loop-b.invariant)
