use Rattle.std.proofs.Common.{ap, ◌∙◌}
use Rattle.table.specs.Rows.{rows}
use Rattle.table.proofs.Places.{Order}
use Rattle.tally.specs.Steps.{new_keys}
use Rattle.tally.proofs.Joining.{needs_of, same_count}
use Rattle.tally.proofs.merging.merged_len.Given as given
use Rattle.tally.proofs.merging.merged_len.Goals as goal

laws : (g : given.Over) → Order g.K.Key.less
laws g = record { irreflexive = g.met.K.Key.irreflexive; transitive = g.met.K.Key.transitive; comparable = g.met.K.Key.comparable }

pub returns : goal.returns
returns g c s t =
    needs_of g.K.Key.less (laws g) g.V.Sum.sum c.args.table.now c.args.other.now c.saturating_add.result s t
    (c.saturating_add.ensures
    ∙ same_count c.len.result _ c.new_keys.result _ 18446744073709551615 c.len.ensures
    (c.new_keys.ensures s ∙ ap (λ es. new_keys g.K.Key.less (rows c.args.table.now) es) c.rows.ensures))
