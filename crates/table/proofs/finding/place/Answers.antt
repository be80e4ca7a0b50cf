use Rattle.std.proofs.Common.{rules}
use Rattle.std.proofs.lemmas.Fn.{always_returns_same}
use Rattle.table.proofs.Places.{Order, partitioned, parted}
use Rattle.table.proofs.finding.place.Given as given
use Rattle.table.proofs.finding.place.Goals as goal

laws : (g : given.Over) → Order g.K.Key.less
laws g = record { irreflexive = g.met.K.Key.irreflexive; transitive = g.met.K.Key.transitive; comparable = g.met.K.Key.comparable }

-- the closure tells whether a row's key is before the key
pub returns-clause-parts : goal.returns-clause-parts
returns-clause-parts g c up =
    parted (laws g) c.args.key.now c.args.rows.now c.partition_point.result
    (c.partition_point.ensures.partitioned (λ row. g.K.Key.less row.key c.args.key.now) (always_returns_same _ _ _ (λ a r f' called. search rules))
    (partitioned (laws g) c.args.key.now c.args.rows.now up))
