use Rattle.std.proofs.Common.{ap, ◌∙◌}
use Rattle.names.specs.Names.{made_of}
use Rattle.spellers.specs.Debugging.{debug_name}
use Rattle.spellers.specs.Debugged.{debug_edges, debug_fits, no_debug_name}
use Rattle.spellers.proofs.Numbers.{attempt_told, no_attempt}
use Rattle.spellers.proofs.debug.DebugSpellerSpeller.spell.Goals as goal

pub returns-in_err-attempt : goal.returns-in_err-attempt
returns-in_err-attempt c =
    let past = no_attempt c.try_from.result c.args.n c.try_from.ensures c.in_err-attempt.ensures.value in
    record { answer = c.from_residual.ensures ∙ no_debug_name c.args.original.now c.args.n past; edges = debug_edges }

pub returns : goal.returns
returns c =
    let told = attempt_told c.try_from.result c.args.n c.in_ok-attempt.attempt c.try_from.ensures c.in_ok-attempt.ensures.value in
    record {
      answer =
          c.debug_name.ensures
          ∙ (ap (λ n. made_of (debug_name c.args.original.now n)) told.1 ∙ debug_fits c.args.original.now c.args.n told.0);
      edges = debug_edges;
    }
