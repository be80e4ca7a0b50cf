use Rattle.std.proofs.Common.{sym, ◌∙◌}
use Rattle.std.proofs.lemmas.Bool.{eqb-true}
use Rattle.matchers.proofs.Turning.{walk_ends}
use Rattle.matchers.proofs.walk.run.Goals as goal

pub returns-clause-answer : goal.returns-clause-answer
returns-clause-answer c =
    let i = c.loop-walk.invariant in
    c.is_all_runs.ensures ∙ sym (walk_ends c.loop-walk.walk i.sound (eqb-true _ 0 (sym c.loop-walk-test.ensures))) ∙ i.same
