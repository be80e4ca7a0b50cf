use Rattle.std.proofs.Common.{sym, refl, ap, ◌∙◌, subst, arith}
use Rattle.table.specs.Maps.{Ascending}
use Rattle.table.specs.Rows.{rows}
use Rattle.table.proofs.Places.{Order}
use Rattle.tally.specs.Steps.{new_keys}
use Rattle.tally.proofs.Joining.{any_order, joined, merge_turn, only, overfull, same_memory_after, same_test}
use Rattle.tally.proofs.Together.{midway_none}
use Rattle.tally.proofs.merging.merge.Given as given
use Rattle.tally.proofs.merging.merge.Goals as goal

laws : (g : given.Over) → Order g.K.Key.less
laws g = record { irreflexive = g.met.K.Key.irreflexive; transitive = g.met.K.Key.transitive; comparable = g.met.K.Key.comparable }

pub returns-then-not-has_room : goal.returns-then-not-has_room
returns-then-not-has_room g c =
    record {
      lent = record { lent = refl; room = refl; past = refl };
      grows = omega arith;
      kept = refl;
      merges = λ s t.
          overfull g.K.Key.less (laws g) g.V.Sum.sum c.args.limit c.args.table.now c.args.other.now s t
          (same_test c.len.result _ c.new_keys.result _ c.min-room.result _ c.has_room.result _ c.len.ensures
          (c.new_keys.ensures s ∙ ap (λ es. new_keys g.K.Key.less (rows c.args.table.now) es) c.rows-rows.ensures)
          c.min-room.ensures c.has_room.ensures c.if-not-has_room.true);
      only = only g.K.Key.less (laws g) g.V.Sum.sum;
      any_order = any_order g.V.Sum.sum g.met.V.Sum.commutes g.met.V.Sum.associates;
    }

pub loop-row-init : goal.loop-row-init
loop-row-init g c = (
  record { lent = refl; room = refl; past = refl },
  omega arith,
  λ s up. (s, midway_none g.K.Key.less (laws g) g.V.Sum.sum (rows c.args.table.now) s.ascending),
)

pub loop-row-preserved : goal.loop-row-preserved
loop-row-preserved g c = (
  same_memory_after c.args.table.now c.loop-row.table c.add.new.table c.loop-row.invariant.0 c.add.ensures.lent c.add.ensures.grows,
  omega (arith, c.loop-row.invariant.1, c.add.ensures.grows),
  λ s up.
      merge_turn g.K.Key.less (laws g) g.V.Sum.sum c.args.limit c.args.table.now c.loop-row.table c.rows-rows.result.now c.loop-row.row-index
      c.row-item.result c.row-item.is (omega arith) up c.loop-row.invariant.0 (c.loop-row.invariant.2 s up).0
      (same_test c.len.result _ c.new_keys.result _ c.min-room.result _ c.has_room.result _ c.len.ensures (c.new_keys.ensures s) c.min-room.ensures
      c.has_room.ensures c.if-not-has_room.false)
      (c.loop-row.invariant.2 s up).1 c.add.new.table c.add.result (c.add.ensures.adds (c.loop-row.invariant.2 s up).0),
)

pub returns : goal.returns
returns g c =
    record {
      lent = c.loop-row.invariant.0;
      grows = c.loop-row.invariant.1;
      kept = tt;
      merges = λ s t.
          joined g.K.Key.less (laws g) g.V.Sum.sum c.args.limit c.args.table.now c.args.other.now c.loop-row.table c.rows-rows.result.now c.loop-row.row-index
          c.rows-rows.ensures (omega arith)
          (same_test c.len.result _ c.new_keys.result _ c.min-room.result _ c.has_room.result _ c.len.ensures (c.new_keys.ensures s) c.min-room.ensures
          c.has_room.ensures c.if-not-has_room.false)
          (c.loop-row.invariant.2 s (subst (λ es. Ascending g.K.Key.less es) (sym c.rows-rows.ensures) t.ascending));
      only = only g.K.Key.less (laws g) g.V.Sum.sum;
      any_order = any_order g.V.Sum.sum g.met.V.Sum.commutes g.met.V.Sum.associates;
    }
