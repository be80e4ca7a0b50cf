use Rattle.std.proofs.Common.{◌≡◌, drop}
use Rattle.grammar.specs.Scan.{run, at_start}
use Rattle.reader.specs.View.{view, held, IsSame}
use Rattle.reader.proofs.Bounds.{Within}
use Rattle.reader.proofs.scan.scan.Given as goal

abbrev pub invariant-loop-place : goal.invariant-loop-place
invariant-loop-place l =
    IsSame l.initial.memory l.memory
    × (run l.listing at_start (held l.initial.memory) ≡ run (drop l.place-counter l.listing) (view l.reader) (held l.memory))
    × Within l.place-counter (view l.reader)
