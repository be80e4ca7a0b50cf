use Rattle.std.proofs.Common.{rules}
use Rattle.numerals.proofs.Readings.{one_number}
use Rattle.numerals.proofs.Verdicts.{long_decides}
use Rattle.numerals.proofs.is_long_number.Goals as goal

pub returns : goal.returns
returns c =
    record {
      exactly = long_decides c.args.text.now c.text_form.result c.text_form.ensures _ (search rules);
      unique = one_number c.args.text.now;
    }
