use Rattle.std.proofs.Common.{rules}
use Rattle.numerals.proofs.Readings.{one_number}
use Rattle.numerals.proofs.Verdicts.{short_canonical, other_canonical}
use Rattle.numerals.proofs.is_canonical_numeric.Goals as goal

pub returns-then-eq : goal.returns-then-eq
returns-then-eq c =
    record {
      exactly = (λ _. short_canonical c.args.text.now c.text_form.result c.text_form.ensures (search rules), λ _. c.if-eq.true);
      unique = one_number c.args.text.now;
    }

pub returns-else-eq : goal.returns-else-eq
returns-else-eq c =
    record {
      exactly = other_canonical c.args.text.now c.text_form.result c.text_form.ensures _ (search rules) c.is_special.ensures;
      unique = one_number c.args.text.now;
    }
