use Rattle.std.proofs.Common.{rules}
use Rattle.numerals.proofs.Runs.{ends_told}
use Rattle.numerals.proofs.digits.Digits.ends_well.Goals as goal

pub returns : goal.returns
returns c = ends_told c.args.self.bytes.now c.last.result _ c.last.ensures.value (search rules)
