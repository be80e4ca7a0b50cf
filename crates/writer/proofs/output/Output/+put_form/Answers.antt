-- The root's row shows it, each turn writes one child, and a part that does not fit is a part of the form.
use Rattle.std.proofs.Common.{◌<◌, rules}
use Rattle.std.proofs.lemmas.Result.{MatchResult-from_err}
use Rattle.writer.proofs.Walking.{stands_shallow, text_within, brood, next_turn, brood_done, no_opening, no_marks, no_children, no_bracket, formed}
use Rattle.writer.proofs.output.Output.+put_form.Goals as goal

pub put_marks-requires : goal.put_marks-requires
put_marks-requires t c = text_within c.requires

pub returns-in_err-put_opening : goal.returns-in_err-put_opening
returns-in_err-put_opening t c =
    λ s. MatchResult-from_err _ _ _ c.from_residual.ensures.0 (λ _. no_opening s c.in_err-put_opening.ensures.puts)

pub returns-in_err-put_marks : goal.returns-in_err-put_marks
returns-in_err-put_marks t c =
    λ s. MatchResult-from_err _ _ _ c.from_residual-in_err-put_marks.ensures.0
    (λ _. no_marks s c.in_ok-put_opening.ensures.puts c.in_err-put_marks.ensures.puts)

pub returns-in_err-put : goal.returns-in_err-put
returns-in_err-put t c =
    λ s. MatchResult-from_err _ _ _ c.from_residual-in_err-put.ensures.0
    (λ _. no_children s c.in_ok-put_opening.ensures.puts c.in_ok-put_marks.ensures.puts
    ((next_turn (brood s) (c.loop.invariant (brood s)) c.loop-test.true).no_line c.in_err-put.ensures))

pub put_form-requires : goal.put_form-requires
put_form-requires t c =
    let h : c.args.indent < 64 = stands_shallow c.requires in
    (search rules, (next_turn (brood c.requires) (c.loop.invariant (brood c.requires)) c.loop-test.true).child)

pub returns-in_err-next : goal.returns-in_err-next
returns-in_err-next t c =
    λ s. let n = next_turn (brood s) (c.loop.invariant (brood s)) c.loop-test.true in
    MatchResult-from_err _ _ _ c.from_residual-in_err-next.ensures.0
    (λ _. no_children s c.in_ok-put_opening.ensures.puts c.in_ok-put_marks.ensures.puts (n.no_child c.in_ok-put.ensures (c.in_err-next.ensures n.child)))

pub loop-preserved : goal.loop-preserved
loop-preserved t c =
    λ s. let n = next_turn s (c.loop.invariant s) c.loop-test.true in n.turn_next c.in_ok-put.ensures (c.in_ok-next.ensures n.child)

pub returns-in_err-put-2 : goal.returns-in_err-put-2
returns-in_err-put-2 t c =
    λ s. MatchResult-from_err _ _ _ c.from_residual-in_err-put-2.ensures.0
    (λ _. no_bracket s c.in_ok-put_opening.ensures.puts c.in_ok-put_marks.ensures.puts
    (brood_done (brood s) (c.loop.invariant (brood s)) c.loop-test.false) c.in_err-put-2.ensures)

pub returns : goal.returns
returns t c =
    λ s. formed s c.in_ok-put_opening.ensures.puts c.in_ok-put_marks.ensures.puts
    (brood_done (brood s) (c.loop.invariant (brood s)) c.loop-test.false)
    (c.put_opening.ensures.fits, c.put_marks.ensures.fits)
    c.in_ok-put-2.ensures
