-- The children of the root stand where the loop begins; so far, as many are written as there were turns.
use Rattle.std.proofs.Common.{◌-◌}
use Rattle.writer.proofs.Walking.{Brood, Turn}
use Rattle.writer.proofs.output.Output.+put_form.Given as goal

abbrev pub decreases-put_form : goal.decreases-put_form
decreases-put_form l = 64 - l.indent

abbrev pub invariant-loop : goal.invariant-loop
invariant-loop l =
    (s : Brood l.nodes.rows.now l.nodes.text.now l.initial.next l.indent l.end) → Turn s l.initial.self l.counter l.self l.next
