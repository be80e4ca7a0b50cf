use Rattle.std.proofs.Common.{arith}
use Rattle.std.proofs.lemmas.Result.{MatchResult-from_err}
use Rattle.writer.proofs.Putting.{wrote_more, full_more, wrote_all}
use Rattle.writer.proofs.Spelling.{as_letter, by_letter}
use Rattle.writer.proofs.output.Output.put_letters.Goals as goal

pub loop-b-preserved : goal.loop-b-preserved
loop-b-preserved c =
    wrote_more as_letter c.args.text.now c.loop-b.b-index 0 (omega arith) c.loop-b.invariant c.in_ok-put_letter.ensures

pub returns-in_err-put_letter : goal.returns-in_err-put_letter
returns-in_err-put_letter c =
    rw (by_letter c.args.text.now)
    (MatchResult-from_err _ _ _ c.from_residual.ensures.0
    (λ _. full_more as_letter c.args.text.now c.loop-b.b-index 0 (omega arith) c.loop-b.invariant c.in_err-put_letter.ensures))

pub returns : goal.returns
returns c =
    rw (by_letter c.args.text.now) (wrote_all as_letter c.args.text.now c.loop-b.b-index c.loop-b-test.false c.loop-b.invariant)
