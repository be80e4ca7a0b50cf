use Rattle.std.proofs.Common.{[], ◌∷◌}
use Rattle.std.proofs.lemmas.Result.{MatchResult-from_err}
use Rattle.writer.proofs.Putting.{puts_after, full_after, full_before}
use Rattle.writer.proofs.Spelling.{quoted_parts}
use Rattle.writer.proofs.output.Output.put_quoted.Goals as goal

pub returns-in_err-put_letters : goal.returns-in_err-put_letters
returns-in_err-put_letters c =
    rw (quoted_parts c.args.text.now)
    (MatchResult-from_err _ _ _ c.from_residual-in_err-put_letters.ensures.0
    (λ _. full_after _ c.in_ok-put_all.ensures (full_before (34 ∷ []) c.in_err-put_letters.ensures)))

pub returns : goal.returns
returns c =
    rw (quoted_parts c.args.text.now)
    (puts_after _ _ c.put.result c.in_ok-put_all.ensures (puts_after _ _ c.put.result c.in_ok-put_letters.ensures c.put.ensures))
