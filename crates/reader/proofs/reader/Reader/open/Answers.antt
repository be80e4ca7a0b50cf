use Rattle.std.proofs.Common.{◌≡◌, rules, arith}
use Rattle.grammar.specs.Scan.{restacked, innermost, with_child}
use Rattle.reader.specs.View.{view}
use Rattle.reader.proofs.Moves.{open_after}
use Rattle.reader.proofs.reader.Reader.open.Goals as goal

pub returns : goal.returns
returns c =
    let r = c.args.self.now in
    let e : view c.change.new.self ≡ restacked (innermost with_child (view r).stack) (view r) = c.change.ensures.after with_child (record { at = λ e row k. search rules }) in
    open_after r c.change.new.self c.change.ensures.depth e c.if-self-ge-LEVEL_LIMIT.false (omega (arith, c.change.ensures.depth))
