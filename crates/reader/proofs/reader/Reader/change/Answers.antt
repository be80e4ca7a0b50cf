use Rattle.std.proofs.Common.{◌-◌, slice_index_or, refl, ap, arith}
use Rattle.grammar.specs.Scan.{restacked}
use Rattle.reader.specs.View.{view, open_of, no_open}
use Rattle.reader.proofs.Stack.{changed_innermost}
use Rattle.reader.proofs.reader.Reader.change.Goals as goal

pub returns-then-self-gt0-clause-after : goal.returns-then-self-gt0-clause-after
returns-then-self-gt0-clause-after g c f m =
    let r = c.args.self.now in
    ap (λ s. restacked s (view r)) (changed_innermost f r.stack r.depth _ c.if-self-gt0.true (omega arith)
    (m.at (open_of (slice_index_or r.stack (r.depth - 1) no_open)) _ (record { shown = _; shows = refl; left = _; met = c.f.ensures; leaves = refl })))
