-- The root's row shows it, and each turn walks one child.
use Rattle.std.proofs.Common.{◌≡◌, ◌+◌, true, false, get_or, sym, rules}
use Rattle.std.proofs.lemmas.Result.{err_from_is_err_and}
use Rattle.gather.specs.Gatherers.{setting_of}
use Rattle.gather.proofs.Keeping.{ChildDone, child_at, child_done}
use Rattle.gather.proofs.Walked.{Brood, brood, one_more, root_kind, stopped, stopped_at_child, text_within, turn_first, whole_tree, zero_row}
use Rattle.gather.proofs.gatherer.Gatherer.+key_walk_plain_walk.Goals as goal
use Rattle.gather.proofs.gatherer.Gatherer.+key_walk_plain_walk.Goals.{plain_walk-then-is_walked_as_key, plain_walk-else-is_walked_as_key, key_walk-then-is_walked_as_key, key_walk-else-is_walked_as_key}

pub plain_walk-visit-requires : goal.plain_walk-visit-requires
plain_walk-visit-requires t c = text_within c.requires

pub plain_walk-loop-position-init : goal.plain_walk-loop-position-init
plain_walk-loop-position-init t c =
    record { kept = c.in_ok-visit.ensures.kept; turn = λ b e. turn_first b (setting_of c.args.self.now) false c.visit.new.self.into.now c.visit.new.self.lacks c.visit.new.self.sounds }

pub plain_walk-key_walk-requires : goal.plain_walk-key_walk-requires
plain_walk-key_walk-requires t c =
    let a = child_at c.requires (c.loop-position.invariant.turn (brood c.requires) (sym (root_kind c.requires))) c.loop-position-test.true c.loop-position.invariant.kept in
    (search rules, a.stands)

pub plain_walk-plain_walk-requires : goal.plain_walk-plain_walk-requires
plain_walk-plain_walk-requires t c =
    let a = child_at c.requires (c.loop-position.invariant.turn (brood c.requires) (sym (root_kind c.requires))) c.loop-position-test.true c.loop-position.invariant.kept in
    (search rules, a.stands)

pub plain_walk-returns-in_err-next-clause-walks : goal.plain_walk-returns-in_err-next-clause-walks
plain_walk-returns-in_err-next-clause-walks t c =
    λ s. let turn = c.loop-position.invariant.turn (brood s) (sym (root_kind s)) in
    let done : ChildDone c.args.self.now c.loop-position.self (brood s) turn c.loop-position-test.true c.if-is_walked_as_key.self c.if-is_walked_as_key.branch' =
    elim c.if-is_walked_as_key.branch [
      | plain_walk-then-is_walked_as_key w ↦ child_done (brood s) turn c.loop-position-test.true _ c.loop-position.invariant.kept (sym (root_kind s)) w.if-is_walked_as_key.ensures w.self-is w.branch'-is w.key_walk.ensures.kept w.key_walk.ensures.walks
      | plain_walk-else-is_walked_as_key w ↦ child_done (brood s) turn c.loop-position-test.true _ c.loop-position.invariant.kept (sym (root_kind s)) w.if-is_walked_as_key.ensures w.self-is w.branch'-is w.plain_walk.ensures.kept w.plain_walk.ensures.walks
    ] in
    let p = err_from_is_err_and c.from_residual-in_err-next.result c.from_residual-in_err-next.ensures.1 in
    rw (p.1, p.2)
    (stopped_at_child s (setting_of c.args.self.now) false _ c.args.self.now.into.now c.visit.new.self.into.now c.if-is_walked_as_key.self.into.now c.args.self.now.lacks c.visit.new.self.lacks c.in_ok-visit.ensures.takes
    (stopped (brood s) (setting_of c.args.self.now) false turn c.loop-position-test.true c.if-is_walked_as_key.self.into.now c.if-is_walked_as_key.self.lacks c.if-is_walked_as_key.branch' _ c.in_err-next.was done.walked))

pub plain_walk-loop-position-preserved : goal.plain_walk-loop-position-preserved
plain_walk-loop-position-preserved t c =
    let done : (b : Brood c.args.self.now.nodes.rows.now c.args.self.now.nodes.text.now (c.args.at + 1) (get_or c.args.self.now.nodes.rows.now c.args.at zero_row).children) (e : b.kind ≡ (get_or c.args.self.now.nodes.rows.now c.args.at zero_row).kind)
    → ChildDone c.args.self.now c.loop-position.self b (c.loop-position.invariant.turn b e) c.loop-position-test.true c.if-is_walked_as_key.self c.if-is_walked_as_key.branch' =
    λ b e. elim c.if-is_walked_as_key.branch [
      | plain_walk-then-is_walked_as_key w ↦ child_done b (c.loop-position.invariant.turn b e) c.loop-position-test.true _ c.loop-position.invariant.kept e w.if-is_walked_as_key.ensures w.self-is w.branch'-is w.key_walk.ensures.kept w.key_walk.ensures.walks
      | plain_walk-else-is_walked_as_key w ↦ child_done b (c.loop-position.invariant.turn b e) c.loop-position-test.true _ c.loop-position.invariant.kept e w.if-is_walked_as_key.ensures w.self-is w.branch'-is w.plain_walk.ensures.kept w.plain_walk.ensures.walks
    ] in
    record {
      kept = (done (brood c.requires) (sym (root_kind c.requires))).kept;
      turn = λ b e. one_more b (setting_of c.args.self.now) false (c.loop-position.invariant.turn b e) c.loop-position-test.true c.if-is_walked_as_key.self.into.now c.if-is_walked_as_key.self.lacks c.if-is_walked_as_key.branch' c.in_ok-next.next c.in_ok-next.was (done b e).walked;
    }

pub plain_walk-returns-clause-walks : goal.plain_walk-returns-clause-walks
plain_walk-returns-clause-walks t c =
    λ s. whole_tree s (setting_of c.args.self.now) false c.args.self.now.into.now c.visit.new.self.into.now c.loop-position.self.into.now c.args.self.now.lacks c.visit.new.self.lacks c.loop-position.self.lacks c.loop-position.position c.loop-position.next
    c.in_ok-visit.ensures.takes (c.loop-position.invariant.turn (brood s) (sym (root_kind s))) c.loop-position-test.false

pub key_walk-visit-requires : goal.key_walk-visit-requires
key_walk-visit-requires t c = text_within c.requires

pub key_walk-loop-position-init : goal.key_walk-loop-position-init
key_walk-loop-position-init t c =
    record { kept = c.in_ok-visit.ensures.kept; turn = λ b e. turn_first b (setting_of c.args.self.now) true c.visit.new.self.into.now c.visit.new.self.lacks c.visit.new.self.sounds }

pub key_walk-key_walk-requires : goal.key_walk-key_walk-requires
key_walk-key_walk-requires t c =
    let a = child_at c.requires (c.loop-position.invariant.turn (brood c.requires) (sym (root_kind c.requires))) c.loop-position-test.true c.loop-position.invariant.kept in
    (search rules, a.stands)

pub key_walk-plain_walk-requires : goal.key_walk-plain_walk-requires
key_walk-plain_walk-requires t c =
    let a = child_at c.requires (c.loop-position.invariant.turn (brood c.requires) (sym (root_kind c.requires))) c.loop-position-test.true c.loop-position.invariant.kept in
    (search rules, a.stands)

pub key_walk-returns-in_err-next-clause-walks : goal.key_walk-returns-in_err-next-clause-walks
key_walk-returns-in_err-next-clause-walks t c =
    λ s. let turn = c.loop-position.invariant.turn (brood s) (sym (root_kind s)) in
    let done : ChildDone c.args.self.now c.loop-position.self (brood s) turn c.loop-position-test.true c.if-is_walked_as_key.self c.if-is_walked_as_key.branch' =
    elim c.if-is_walked_as_key.branch [
      | key_walk-then-is_walked_as_key w ↦ child_done (brood s) turn c.loop-position-test.true _ c.loop-position.invariant.kept (sym (root_kind s)) w.if-is_walked_as_key.ensures w.self-is w.branch'-is w.key_walk.ensures.kept w.key_walk.ensures.walks
      | key_walk-else-is_walked_as_key w ↦ child_done (brood s) turn c.loop-position-test.true _ c.loop-position.invariant.kept (sym (root_kind s)) w.if-is_walked_as_key.ensures w.self-is w.branch'-is w.plain_walk.ensures.kept w.plain_walk.ensures.walks
    ] in
    let p = err_from_is_err_and c.from_residual-in_err-next.result c.from_residual-in_err-next.ensures.1 in
    rw (p.1, p.2)
    (stopped_at_child s (setting_of c.args.self.now) true _ c.args.self.now.into.now c.visit.new.self.into.now c.if-is_walked_as_key.self.into.now c.args.self.now.lacks c.visit.new.self.lacks c.in_ok-visit.ensures.takes
    (stopped (brood s) (setting_of c.args.self.now) true turn c.loop-position-test.true c.if-is_walked_as_key.self.into.now c.if-is_walked_as_key.self.lacks c.if-is_walked_as_key.branch' _ c.in_err-next.was done.walked))

pub key_walk-loop-position-preserved : goal.key_walk-loop-position-preserved
key_walk-loop-position-preserved t c =
    let done : (b : Brood c.args.self.now.nodes.rows.now c.args.self.now.nodes.text.now (c.args.at + 1) (get_or c.args.self.now.nodes.rows.now c.args.at zero_row).children) (e : b.kind ≡ (get_or c.args.self.now.nodes.rows.now c.args.at zero_row).kind)
    → ChildDone c.args.self.now c.loop-position.self b (c.loop-position.invariant.turn b e) c.loop-position-test.true c.if-is_walked_as_key.self c.if-is_walked_as_key.branch' =
    λ b e. elim c.if-is_walked_as_key.branch [
      | key_walk-then-is_walked_as_key w ↦ child_done b (c.loop-position.invariant.turn b e) c.loop-position-test.true _ c.loop-position.invariant.kept e w.if-is_walked_as_key.ensures w.self-is w.branch'-is w.key_walk.ensures.kept w.key_walk.ensures.walks
      | key_walk-else-is_walked_as_key w ↦ child_done b (c.loop-position.invariant.turn b e) c.loop-position-test.true _ c.loop-position.invariant.kept e w.if-is_walked_as_key.ensures w.self-is w.branch'-is w.plain_walk.ensures.kept w.plain_walk.ensures.walks
    ] in
    record {
      kept = (done (brood c.requires) (sym (root_kind c.requires))).kept;
      turn = λ b e. one_more b (setting_of c.args.self.now) true (c.loop-position.invariant.turn b e) c.loop-position-test.true c.if-is_walked_as_key.self.into.now c.if-is_walked_as_key.self.lacks c.if-is_walked_as_key.branch' c.in_ok-next.next c.in_ok-next.was (done b e).walked;
    }

pub key_walk-returns-clause-walks : goal.key_walk-returns-clause-walks
key_walk-returns-clause-walks t c =
    λ s. whole_tree s (setting_of c.args.self.now) true c.args.self.now.into.now c.visit.new.self.into.now c.loop-position.self.into.now c.args.self.now.lacks c.visit.new.self.lacks c.loop-position.self.lacks c.loop-position.position c.loop-position.next
    c.in_ok-visit.ensures.takes (c.loop-position.invariant.turn (brood s) (sym (root_kind s))) c.loop-position-test.false
