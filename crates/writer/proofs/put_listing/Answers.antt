use Rattle.std.proofs.Common.{refl, rules}
use Rattle.std.proofs.lemmas.Result.{MatchResult-from_err}
use Rattle.pages.specs.Trees.{tree}
use Rattle.writer.proofs.Outcomes.{list_no_form, list_no_end, lists_all}
use Rattle.writer.proofs.put_listing.Goals as goal

pub returns-in_err-put_form : goal.returns-in_err-put_form
returns-in_err-put_form c =
    λ s. MatchResult-from_err _ _ _ c.from_residual.ensures.0 (λ _. list_no_form (tree s.label s.forest) refl (c.in_err-put_form.ensures s))

pub returns-in_err-put : goal.returns-in_err-put
returns-in_err-put c =
    λ s. MatchResult-from_err _ _ _ c.from_residual-in_err-put.ensures.0
    (λ _. list_no_end (tree s.label s.forest) refl (c.in_ok-put_form.ensures s) c.in_err-put.ensures)

-- The memory that is left is the one that was lent, since each step kept it.
pub returns : goal.returns
returns c =
    λ s. let f = c.in_ok-put_form.ensures s in
    let p = lists_all (tree s.label s.forest) refl f c.in_ok-put.ensures in
    let kept = f.wrote.lent in
    record { small = p.small; all = p.all; within = p.within; put = search rules }
