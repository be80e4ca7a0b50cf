use Rattle.std.proofs.Common.{◌<◌, length, refl, arith}
use Rattle.std.proofs.lemmas.Result.{err_from_is_err_and}
use Rattle.pages.proofs.Walking.{length_shown, walking_none, walking_more, walking_stops, stops_misshapen, stops_deep, stops_below, passes_all}
use Rattle.pages.proofs.row.Nodes.+subtree.Goals as goal

pub returns-then-not-is_shapely : goal.returns-then-not-is_shapely
returns-then-not-is_shapely t c =
    stops_misshapen c.args.self.text.now _ _ _ _ c.in_ok-row.row.now (grind arith) (grind arith)
    _ (c.is_shapely.ensures c.args.self.text.now c.args.level refl) c.if-not-is_shapely.true

pub returns-then-level-gt-LEVEL_LIMIT : goal.returns-then-level-gt-LEVEL_LIMIT
returns-then-level-gt-LEVEL_LIMIT t c =
    stops_deep c.args.self.text.now _ _ _ _ c.in_ok-row.row.now (grind arith) (grind arith)
    _ (c.is_shapely.ensures c.args.self.text.now c.args.level refl) c.if-not-is_shapely.false c.if-level-gt-LEVEL_LIMIT.true

pub loop-position-init : goal.loop-position-init
loop-position-init t c =
    let k : c.args.at < length c.args.self.rows.now = grind arith in
    walking_none _ _ _ _ _ _ (omega (arith, length_shown c.args.self.text.now c.args.self.rows.now))

pub returns-in_err-next : goal.returns-in_err-next
returns-in_err-next t c =
    let p = err_from_is_err_and c.from_residual-in_err-next.result c.from_residual-in_err-next.ensures.1 in
    rw (p.1, p.2)
    (stops_below c.args.self.text.now _ _ _ _ c.in_ok-row.row.now (grind arith) (grind arith)
    _ (c.is_shapely.ensures c.args.self.text.now c.args.level refl) c.if-not-is_shapely.false c.if-level-gt-LEVEL_LIMIT.false _
    (walking_stops _ _ _ _ _ _ _ _ c.loop-position.invariant c.loop-position-test.true _ c.in_err-next.ensures))

pub loop-position-preserved : goal.loop-position-preserved
loop-position-preserved t c =
    walking_more _ _ _ _ _ _ _ _ c.loop-position.invariant c.loop-position-test.true _ c.in_ok-next.ensures

pub returns : goal.returns
returns t c =
    passes_all c.args.self.text.now _ _ _ _ c.in_ok-row.row.now (grind arith) (grind arith)
    _ (c.is_shapely.ensures c.args.self.text.now c.args.level refl) c.if-not-is_shapely.false c.if-level-gt-LEVEL_LIMIT.false _ _ c.loop-position.invariant c.loop-position-test.false
