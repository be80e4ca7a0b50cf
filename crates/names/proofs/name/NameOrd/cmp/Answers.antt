use Rattle.names.specs.Laws.{less_total}
use Rattle.names.proofs.name.NameOrd.cmp.Goals as goal

pub returns-clause-total : goal.returns-clause-total
returns-clause-total c = less_total
