use Rattle.std.proofs.Common.{rules, tests, eqb, ◌∙◌}
use Rattle.std.proofs.lemmas.Iterator.{YieldsList-from_slice}
use Rattle.std.proofs.lemmas.Iterator.Search.{any_from_yields_List}
use Rattle.std.specs.List.{starts_with}
use Rattle.grammar.specs.Words.{word, kinds}
use Rattle.grammar.specs.Scan.{begun}
use Rattle.reader.specs.View.{letters_of}
use Rattle.reader.proofs.Fronts.{any_begins}
use Rattle.reader.proofs.word.Word.begins_name.Goals as goal

pub returns : goal.returns
unfolding begun
returns c =
    any_from_yields_List (λ k. starts_with eqb (word k) (letters_of c.args.self.now)) _ _ c.any.result c.any.ensures.ran (YieldsList-from_slice kinds (cc)) (λ x b q k. search (rules, tests))
    ∙ any_begins kinds (letters_of c.args.self.now)
