use Rattle.std.proofs.Common.{rules, tests, eqb, sym, ◌∙◌}
use Rattle.std.proofs.lemmas.Iterator.{YieldsList-from_slice}
use Rattle.std.proofs.lemmas.Iterator.Consumers.{YieldsList-from_copied}
use Rattle.std.proofs.lemmas.Iterator.Adapters.{option_map_id}
use Rattle.std.proofs.lemmas.Iterator.Search.{find_from_yields_List}
use Rattle.std.specs.Cmp.Lexicographic.{pointwise}
use Rattle.grammar.specs.Words.{word, kinds}
use Rattle.grammar.specs.Scan.{kind_named}
use Rattle.reader.specs.View.{letters_of}
use Rattle.reader.proofs.Fronts.{find_named}
use Rattle.reader.proofs.word.Word.kind.Goals as goal

pub returns : goal.returns
unfolding kind_named
returns c =
    sym (option_map_id c.find.result)
    ∙ find_from_yields_List (λ k. pointwise eqb (letters_of c.args.self.now) (word k)) _ _ c.find.result c.find.ensures.ran (YieldsList-from_copied (YieldsList-from_slice kinds (cc))) (λ x b q k. search (rules, tests))
    ∙ find_named kinds (letters_of c.args.self.now)
