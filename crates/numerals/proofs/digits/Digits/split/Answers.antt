use Rattle.std.proofs.Common.{◌≡◌, ◌∙◌, ap, take, drop, rules, tests}
use Rattle.std.proofs.lemmas.Iterator.{YieldsList-from_slice}
use Rattle.std.proofs.lemmas.Iterator.Consumers.{count_from_yields_List}
use Rattle.std.proofs.lemmas.Iterator.Search.{YieldsList-from_take_while}
use Rattle.std.proofs.lemmas.List.Folds.{length-prefix_len}
use Rattle.std.specs.List.{prefix_len}
use Rattle.numerals.specs.Deciding.{is_digit, front}
use Rattle.numerals.proofs.Cutting.{front_front}
use Rattle.numerals.proofs.Runs.{front_cut, rest_cut}
use Rattle.numerals.proofs.digits.Digits.split.Goals.{After-split_at}
use Rattle.numerals.proofs.digits.Digits.split.Goals as goal

counted : (c : After-split_at) → c.count-count.result ≡ prefix_len is_digit c.args.text.now
counted c =
    count_from_yields_List c.take_while.result _ c.count-count.ensures.ran
    (YieldsList-from_take_while _ is_digit (YieldsList-from_slice c.args.text.now cc) c.take_while.ensures.closure c.take_while.ensures.done (λ x b q k. search (rules, tests)))
    ∙ length-prefix_len is_digit c.args.text.now

before : (c : After-split_at) → c.split_at.result.0.now ≡ front c.args.text.now
before c = c.split_at.ensures.front ∙ (ap (λ n. take n c.args.text.now) (counted c) ∙ front_cut c.args.text.now)

pub invariant_of-result : goal.invariant_of-result
invariant_of-result c = record { only_digits = rw (before (goal.at.invariant_of-result c).After-split_at, front_front) }

pub returns-clause-before : goal.returns-clause-before
returns-clause-before c = before (goal.at.returns-clause-before c).After-split_at

pub returns-clause-after : goal.returns-clause-after
returns-clause-after c =
    let n = counted (goal.at.returns-clause-after c).After-split_at in
    c.split_at.ensures.back ∙ (ap (λ n. drop n c.args.text.now) n ∙ rest_cut c.args.text.now)
