use Rattle.std.proofs.Common.{refl}
use Rattle.std.proofs.lemmas.Result.{err_from_is_err_and}
use Rattle.gather.specs.Faults.{long_number}
use Rattle.gather.proofs.Naming.{checked_right, checked_wrong}
use Rattle.gather.proofs.note.name_to_count.Goals as goal

pub returns-in_err-name : goal.returns-in_err-name
returns-in_err-name c =
    let p = err_from_is_err_and c.from_residual.result c.from_residual.ensures.1 in
    rw (p.1, p.2) (checked_wrong c.args.node c.args.text.now _ c.in_err-name.ensures)

pub returns-then-is_long_number : goal.returns-then-is_long_number
returns-then-is_long_number c =
    let m = checked_right c.args.node c.args.text.now c.in_ok-name.name c.in_ok-name.ensures in
    long_number m.not_long m.not_foreign (c.if-is_long_number.ensures.exactly.0 refl)
