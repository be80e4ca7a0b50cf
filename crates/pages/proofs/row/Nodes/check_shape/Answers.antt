use Rattle.std.proofs.Common.{◌≤◌, ◌<◌, length, arith}
use Rattle.std.proofs.lemmas.Result.{err_from_is_err_and}
use Rattle.pages.proofs.Verdicts.{checked_by_judge}
use Rattle.pages.proofs.Walking.{length_shown, answer_stopped, answer_whole, answer_left_over}
use Rattle.pages.proofs.row.Nodes.check_shape.Goals as goal
use Rattle.pages.specs.Trees.{shown}

pub returns-in_err-next : goal.returns-in_err-next
returns-in_err-next c =
    let p = err_from_is_err_and c.from_residual.result c.from_residual.ensures.1 in
    rw (p.1, p.2) (checked_by_judge _ _ (answer_stopped _ _ c.in_err-next.ensures))

pub returns-then-next-self : goal.returns-then-next-self
returns-then-next-self c =
    let h : c.in_ok-next.next < length (shown c.args.self.text.now c.args.self.rows.now) =
    omega (arith, length_shown c.args.self.text.now c.args.self.rows.now) in
    checked_by_judge _ _ (answer_left_over _ _ c.in_ok-next.ensures h)

pub returns-else-next-self : goal.returns-else-next-self
returns-else-next-self c =
    let h : length (shown c.args.self.text.now c.args.self.rows.now) ≤ c.in_ok-next.next =
    omega (arith, length_shown c.args.self.text.now c.args.self.rows.now) in
    checked_by_judge _ _ (answer_whole _ _ c.in_ok-next.ensures h)
