-- What was taken, completed by what is left, is what the whole text stands for.
use Rattle.std.proofs.Common.{◌≡◌, drop}
use Rattle.cases.specs.Cases.{expansion_in}
use Rattle.cases.specs.Expander.{bits_of, complete}
use Rattle.cases.proofs.expander.expanded_in.Given as goal

abbrev pub invariant-loop-b : goal.invariant-loop-b
invariant-loop-b l = complete l.expander (drop l.b-index l.text) ≡ expansion_in (bits_of l.fn.width) l.text
