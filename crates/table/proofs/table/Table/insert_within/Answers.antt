use Rattle.std.proofs.Common.{◌≤◌, List, length, get_or, set, refl, ap, subst, arith}
use Rattle.table.specs.declared.table.Entry.{Entry}
use Rattle.table.specs.Maps.{Ascending}
use Rattle.table.specs.Rows.{rows}
use Rattle.table.specs.Search.{Found, Missing}
use Rattle.table.proofs.Inserting.{found_in_rows, missing_none, stored_same, stored_new}
use Rattle.table.proofs.Places.{Order}
use Rattle.table.proofs.table.Table.insert_within.Given as given
use Rattle.table.proofs.table.Table.insert_within.Goals as goal

laws : (g : given.Over) → Order g.K.Key.less
laws g = record { irreflexive = g.met.K.Key.irreflexive; transitive = g.met.K.Key.transitive; comparable = g.met.K.Key.comparable }

pub returns-in-Ok-clause-answered : goal.returns-in-Ok-clause-answered
returns-in-Ok-clause-answered g c s =
    let memory : List (Entry g.row.K.Denot g.row.V.Denot) = c.args.self.now.entries.now in
    let after = ap (λ (v : g.row.V.Denot). set memory c.in-Ok.at (record { key = (get_or memory c.in-Ok.at c.index-self-at.result).key; value = v })) c.replace-old.ensures.after in
    stored_same g.K.Key.less (laws g) c.args.limit c.args.key c.args.value c.args.self.now _ c.in-Ok.at c.index-self-at.result
    c.replace-old.result c.replace-old.ensures.value after refl (found_in_rows c.args.self.now c.rows.result.now c.in-Ok.at c.rows.ensures c.in-Ok.ensures.within)
    (subst (λ rs. Ascending g.K.Key.less rs → Found g.K.Key.less c.args.key rs c.in-Ok.at) c.rows.ensures c.in-Ok.ensures.sought s.ascending)
    s

pub returns-then-len-min-clause-answered : goal.returns-then-len-min-clause-answered
returns-then-len-min-clause-answered g c s =
    record {
      new_key = missing_none g.K.Key.less (laws g) c.args.key (rows c.args.self.now) c.in-Err.at s.ascending
          (subst (λ rs. Ascending g.K.Key.less rs → Missing g.K.Key.less c.args.key rs c.in-Err.at) c.rows.ensures c.in-Err.ensures.sought s.ascending);
      no_room = omega arith;
    }

pub returns-else-len-min-clause-answered : goal.returns-else-len-min-clause-answered
returns-else-len-min-clause-answered g c s =
    stored_new g.K.Key.less (laws g) c.args.limit c.args.key c.args.value c.args.self.now _ c.in-Err.at
    c.put_in.ensures refl c.put_in.auto.entries (omega arith)
    (subst (λ rs. c.in-Err.at ≤ length rs) c.rows.ensures c.in-Err.ensures.within)
    (subst (λ rs. Ascending g.K.Key.less rs → Missing g.K.Key.less c.args.key rs c.in-Err.at) c.rows.ensures c.in-Err.ensures.sought s.ascending)
    s
