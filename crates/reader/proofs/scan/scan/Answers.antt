use Rattle.std.proofs.Common.{◌≡◌, ◌+◌, get_or, Ok, Err, sym, ◌∙◌, subst, rules}
use Rattle.grammar.specs.Scan.{Step, next}
use Rattle.reader.specs.View.{view, stepped, held}
use Rattle.reader.proofs.Bounds.{Within, within_next}
use Rattle.reader.proofs.Running.{run_more, run_stuck, run_all}
use Rattle.reader.proofs.scan.scan.Goals as goal

pub returns-in_err-effect-clause-read : goal.returns-in_err-effect-clause-read
returns-in_err-effect-clause-read c =
    let s = c.args.listing.now in
    let i = c.loop-place.place-counter in
    let a = view c.loop-place.reader in
    let unread : c.take.result ≡ Err (record {}) = search rules in
    let step = subst (λ t. stepped c.take.new.self t ≡ next a (get_or s i 0)) unread c.take.ensures in
    let e : c.from_residual.result ≡ Err i = search rules in
    rw e (c.loop-place-test.true, c.loop-place.invariant.1 ∙ run_stuck s i a (held c.loop-place.memory) c.loop-place-test.true c.take.new.self (record {}) step)

pub loop-place-preserved : goal.loop-place-preserved
loop-place-preserved c =
    let s = c.args.listing.now in
    let i = c.loop-place.place-counter in
    let a = view c.loop-place.reader in
    let read : c.take.result ≡ Ok c.in_ok-effect.effect = search rules in
    let step = subst (λ t. stepped c.take.new.self t ≡ next a (get_or s i 0)) read c.take.ensures in (
      search rules,
      c.loop-place.invariant.1 ∙ run_more s i a (held c.loop-place.memory) c.loop-place-test.true c.take.new.self c.in_ok-effect.effect (held c.add.new.self) step c.add.ensures.after,
      subst (λ (t : Step). Within (i + 1) t.to) (sym c.take.ensures) (within_next i a c.loop-place.invariant.2 (get_or s i 0)),
    )

pub returns-clause-read : goal.returns-clause-read
returns-clause-read c =
    c.loop-place.invariant.1
    ∙ run_all c.args.listing.now c.loop-place.place-counter (view c.loop-place.reader) (held c.loop-place.memory) c.loop-place-test.false
