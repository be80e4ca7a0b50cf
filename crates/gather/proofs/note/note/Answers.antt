use Rattle.std.proofs.Common.{[], ◌∷◌, refl}
use Rattle.gather.proofs.Tallying.{fills_one, fills_past}
use Rattle.gather.proofs.note.note.Goals as goal

pub returns-then-not-full : goal.returns-then-not-full
returns-then-not-full g c =
    fills_one g.V.Sum.sum c.args.value c.args.name c.args.table.now c.add.new.table 4096 refl c.requires c.add.ensures.lent c.add.ensures.grows c.add.result c.add.ensures.kept (c.add.ensures.adds c.requires) c.args.full.now c.is_err.result c.if-not-full.true c.is_err.ensures.value

pub returns-else-not-full : goal.returns-else-not-full
returns-else-not-full g c = fills_past g.V.Sum.sum c.args.value (c.args.name ∷ []) c.args.table.now c.args.full.now c.requires c.if-not-full.false
