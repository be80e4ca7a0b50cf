use Rattle.std.proofs.Common.{ap, ◌∙◌}
use Rattle.spellers.specs.Numbering.{short}
use Rattle.spellers.specs.Shortening.{bytes_of_three_bytes, no_short_name, short_full, short_name}
use Rattle.spellers.proofs.Numbers.{attempt_told, no_attempt}
use Rattle.spellers.proofs.short.ShortSpellerSpeller.spell.Goals as goal

pub returns-in_err-n : goal.returns-in_err-n
returns-in_err-n c =
    let past = no_attempt c.try_from.result c.args.n c.try_from.ensures c.in_err-n.ensures.value in
    record { answer = c.from_residual.ensures ∙ no_short_name c.args.n past; full = short_full }

pub returns : goal.returns
returns c =
    let told = attempt_told c.try_from.result c.args.n c.in_ok-n.n c.try_from.ensures c.in_ok-n.ensures.value in
    record {
      answer =
          c.new.ensures
          ∙ short_name c.args.n c.as_bytes.result.now told.0
          (c.as_bytes.ensures ∙ (bytes_of_three_bytes c.base54.result (short c.in_ok-n.n) c.base54.ensures.spelled ∙ ap short told.1));
      full = short_full;
    }
