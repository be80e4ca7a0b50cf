use Rattle.std.proofs.Common.{[]}
use Rattle.gather.specs.Faults.{AllRight}
use Rattle.gather.specs.Filling.{Moves}
use Rattle.positions.specs.Roles.{text_if}
use Rattle.pages.specs.Trees.{bytes}
use Rattle.gather.proofs.Moving.{moves_none, moves_then}
use Rattle.gather.proofs.gatherer.Gatherer.take_in.Goals as goal
use Rattle.gather.proofs.gatherer.Gatherer.take_in.Goals.{then-role+in_ok-count, else-role, then-role-2, else-role-2}

pub returns-clause-takes : goal.returns-clause-takes
returns-clause-takes c =
    let counted : AllRight (text_if c.args.role.counted (bytes c.args.text.now)) × Moves (text_if c.args.role.counted (bytes c.args.text.now)) [] c.args.self.now.into.now c.if-role.self.into.now c.args.self.now.lacks c.if-role.self.lacks =
    elim c.if-role.branch [
      | then-role+in_ok-count w ↦ rw (w.if-role.true, w.self-is) (w.in_ok-count.ensures.counts)
      | else-role w ↦ rw (w.if-role.false, w.self-is) (tt, moves_none c.args.self.now.into.now c.args.self.now.lacks c.args.self.now.sounds)
    ] in
    let occupied : Moves [] (text_if c.args.role.occupied (bytes c.args.text.now)) c.if-role.self.into.now c.if-role-2.self.into.now c.if-role.self.lacks c.if-role-2.self.lacks =
    elim c.if-role-2.branch [
      | then-role-2 w ↦ rw (w.if-role-2.true, w.self-is) w.occupy.ensures.moves
      | else-role-2 w ↦ rw (w.if-role-2.false, w.self-is) (moves_none c.if-role.self.into.now c.if-role.self.lacks c.if-role.self.sounds)
    ] in
    (counted.0, moves_then counted.1 occupied)
