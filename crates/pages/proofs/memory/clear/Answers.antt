use Rattle.std.proofs.Common.{◌≡◌, ◌<◌, ◌≤◌, [], ◌∷◌, ◌++◌, length, replicate, sym, ap, ◌∙◌, arith}
use Rattle.std.proofs.lemmas.List.{take_more_set, take_all, replicate-append-replicate}
use Rattle.pages.proofs.memory.clear.Goals as goal

pub loop-i-preserved : goal.loop-i-preserved
loop-i-preserved g c =
    let h : c.loop-i.i < length c.loop-i.memory = omega arith in
    take_more_set c.loop-i.memory c.loop-i.i c.args.x h
    ∙ (ap (λ l. l ++ c.args.x ∷ []) c.loop-i.invariant ∙ replicate-append-replicate c.loop-i.i 1 c.args.x)

pub returns : goal.returns
returns g c =
    let h : length c.loop-i.memory ≤ c.loop-i.i = omega arith in
    let e : c.loop-i.i ≡ length c.args.memory.now = omega arith in
    sym (take_all c.loop-i.i c.loop-i.memory h) ∙ (c.loop-i.invariant ∙ ap (λ n. replicate n c.args.x) e)
