use Rattle.writer.proofs.Putting.{puts_after}
use Rattle.writer.proofs.output.Output.put_opening.Goals as goal

pub returns-clause-puts : goal.returns-clause-puts
returns-clause-puts c =
    let r = c.put_decimal.result in
    rw (← c.kind_name.ensures)
    (puts_after _ _ r c.in_ok-put_blanks.ensures
    (puts_after _ _ r c.in_ok-put.ensures
    (puts_after _ _ r c.in_ok-put_all.ensures (puts_after _ _ r c.in_ok-put_all-2.ensures c.put_decimal.ensures))))
