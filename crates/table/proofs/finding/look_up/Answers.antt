use Rattle.std.proofs.Common.{sym, ◌∙◌}
use Rattle.table.proofs.Inserting.{looked_at, looked_past}
use Rattle.table.proofs.Places.{Order}
use Rattle.table.proofs.finding.look_up.Given as given
use Rattle.table.proofs.finding.look_up.Goals as goal

laws : (g : given.Over) → Order g.K.Key.less
laws g = record { irreflexive = g.met.K.Key.irreflexive; transitive = g.met.K.Key.transitive; comparable = g.met.K.Key.comparable }

pub returns-in_err-at : goal.returns-in_err-at
returns-in_err-at g c up =
    c.from_residual.ensures
    ∙ looked_past (laws g) c.args.key.now c.args.rows.now c.seek.result (sym c.ok.ensures.value ∙ c.in_err-at.was) up (c.seek.ensures.sought up)

pub returns : goal.returns
returns g c up =
    looked_at (laws g) c.args.key.now c.args.rows.now c.seek.result c.in_ok-at.at c.index-rows-at.result
    (sym c.ok.ensures.value ∙ c.in_ok-at.was) c.seek.ensures.within (c.seek.ensures.sought up)
