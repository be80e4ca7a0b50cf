use Rattle.numerals.proofs.Readings.{one_number}
use Rattle.numerals.proofs.Verdicts.{form_decides}
use Rattle.numerals.proofs.is_number_form.Goals as goal

pub returns : goal.returns
returns c =
    record {
      exactly = rw c.is_some.ensures (form_decides c.args.text.now c.text_form.result c.text_form.ensures);
      unique = one_number c.args.text.now;
    }
