use Rattle.std.proofs.Common.{rules, tests}
use Rattle.std.proofs.lemmas.Iterator.{YieldsList-from_slice}
use Rattle.std.proofs.lemmas.Iterator.Search.{all_from_yields_List}
use Rattle.names.specs.Identifiers.{goes_on}
use Rattle.names.proofs.Identifying.{identifier_by_rest}
use Rattle.names.proofs.identifier.is_identifier_name.Goals as goal

pub returns-then-may_start : goal.returns-then-may_start
returns-then-may_start c =
    identifier_by_rest c.args.text.now c.all.result c.if-may_start.ensures
    (all_from_yields_List goes_on _ _ _ c.all.ensures.ran (YieldsList-from_slice _ cc) (λ x b q k. search (rules, tests)))
