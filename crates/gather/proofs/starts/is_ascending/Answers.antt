use Rattle.std.proofs.Common.{nat_lt, rules}
use Rattle.std.proofs.lemmas.List.Sorted.{answers_always}
use Rattle.gather.proofs.Placing.{all_ascend}
use Rattle.gather.proofs.starts.is_ascending.Goals as goal

pub returns : goal.returns
returns c =
    all_ascend c.args.places.now c.is_sorted_by.result
    (c.is_sorted_by.ensures.cases (λ x y. nat_lt x.key y.key) (answers_always _ _ _ (λ f a r g h. search rules)))
