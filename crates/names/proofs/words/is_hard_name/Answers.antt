use Rattle.std.proofs.Common.{◌≡◌, codes, sym, ap, rules}
use Rattle.std.proofs.lemmas.Slice.Eq.{text_from_reads}
use Rattle.names.specs.Texts.{hard}
use Rattle.names.proofs.words.is_hard_name.Goals as goal

pub returns-in-95 : goal.returns-in-95
unfolding hard
returns-in-95 c = let e : c.args.text.now ≡ codes "__proto__" = search (rules, text_from_reads) in sym (ap hard e)

pub returns-in-95-2 : goal.returns-in-95-2
unfolding hard
returns-in-95-2 c = let e : c.args.text.now ≡ codes "prototype" = search (rules, text_from_reads) in sym (ap hard e)

pub returns-in-95-3 : goal.returns-in-95-3
unfolding hard
returns-in-95-3 c = let e : c.args.text.now ≡ codes "constructor" = search (rules, text_from_reads) in sym (ap hard e)
