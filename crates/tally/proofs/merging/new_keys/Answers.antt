use Rattle.std.proofs.Common.{rules, tests, not, is_some, ◌∙◌}
use Rattle.std.proofs.lemmas.Iterator.{YieldsList-from_slice}
use Rattle.std.proofs.lemmas.Iterator.Consumers.{count_from_yields_List, YieldsList-from_filter}
use Rattle.std.proofs.lemmas.List.Sums.{length-filter}
use Rattle.table.specs.declared.table.Entry.{Entry}
use Rattle.table.specs.Maps.{lookup}
use Rattle.table.specs.Rows.{rows}
use Rattle.tally.proofs.merging.new_keys.Goals as goal

pub returns : goal.returns
returns g c s =
    let new = λ (e : Entry g.row.K.Denot g.row.V.Denot). not (is_some (lookup g.K.Key.less e.key (rows c.args.table.now))) in
    count_from_yields_List c.filter.result c.count.result c.count.ensures.ran
    (YieldsList-from_filter _ new (YieldsList-from_slice c.args.other.now cc) c.filter.ensures.closure (λ x b q k. search (rules, tests)))
    ∙ length-filter new c.args.other.now
