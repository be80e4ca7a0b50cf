use Rattle.std.proofs.Common.{ap, ◌∙◌, arith}
use Rattle.names.specs.Identifiers.{class, starts, digit}
use Rattle.names.proofs.Table.{entry_by_rule}
use Rattle.names.proofs.identifier.class_of.Goals as goal

-- the code's table is the rule's: antt computes all 256 entries and compares
pub returns : goal.returns
unfolding class starts digit
returns c = entry_by_rule class 256 c.from.result _ (omega arith) ∙ ap class c.from.ensures
