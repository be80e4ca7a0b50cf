use Rattle.std.proofs.Common.{rules}
use Rattle.pages.specs.Trees.{tree}
use Rattle.gather.proofs.Walked.{no_more_nodes}
use Rattle.gather.proofs.Whole.{broken_by_limit, broken_by_room, whole}
use Rattle.gather.proofs.collection.PropertyMangleCollection.fill.Goals as goal
use Rattle.gather.proofs.collection.PropertyMangleCollection.fill.Goals.{then-is_any-via-then-is_any, then-is_any-via-else-is_any+then-not-keeps_limits}

pub returns-then-is_any : goal.returns-then-is_any
returns-then-is_any c =
    λ t. elim c.then-is_any.branch [
      | then-is_any-via-then-is_any w ↦ broken_by_room c.args.page.now (tree t.label t.forest) c.args.self.now _ c.plain_walk.new.self.into.now _ c.clear.ensures.empty c.clear-2.ensures.empty _ c.new.ensures (search rules) c.default.result c.plain_walk.new.self.lacks _ c.default.ensures (c.in_ok-plain_walk.ensures.walks t) w.if-is_any.ensures
      | then-is_any-via-else-is_any+then-not-keeps_limits w ↦ broken_by_limit c.args.page.now (tree t.label t.forest) c.args.self.now _ c.plain_walk.new.self.into.now _ c.clear.ensures.empty c.clear-2.ensures.empty _ c.new.ensures (search rules) c.default.result c.plain_walk.new.self.lacks _ c.default.ensures (c.in_ok-plain_walk.ensures.walks t) w.if-not-keeps_limits.ensures
    ]

pub returns : goal.returns
returns c =
    λ t. whole c.args.page.now (tree t.label t.forest) c.args.self.now _ c.plain_walk.new.self.into.now _ c.clear.ensures.empty c.clear-2.ensures.empty _ c.new.ensures (search rules) c.default.result c.plain_walk.new.self.lacks _ c.default.ensures (c.in_ok-plain_walk.ensures.walks t) c.if-is_any.ensures c.if-not-keeps_limits.ensures (no_more_nodes t)
