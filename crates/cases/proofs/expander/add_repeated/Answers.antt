use Rattle.std.proofs.Common.{◌+◌, ◌-◌, ◌++◌, sym, ap, ◌∙◌, append-nil, arith}
use Rattle.std.proofs.lemmas.Bool.Decides.{nat_tests}
use Rattle.std.specs.List.{repeat}
use Rattle.cases.proofs.Repeating.{repeat_nothing, repeat_turn, no_length}
use Rattle.cases.proofs.expander.add_repeated.Goals as goal

pub returns-then-is_empty : goal.returns-then-is_empty
returns-then-is_empty c =
    sym (ap (λ t. c.args.bytes.now.items ++ repeat c.args.times t) (no_length c.args.text.now (grind (arith, nat_tests)))
    ∙ ap (λ t. c.args.bytes.now.items ++ t) (repeat_nothing c.args.times) ∙ append-nil c.args.bytes.now.items)

pub loop-preserved : goal.loop-preserved
loop-preserved c =
    ap (λ bs. bs ++ repeat (c.args.times - (c.loop.counter + 1)) c.args.text.now) c.in_ok-extend_from_slice.ensures.items
    ∙ repeat_turn c.loop.bytes.items c.args.text.now c.loop.counter c.args.times (omega arith) ∙ c.loop.invariant
