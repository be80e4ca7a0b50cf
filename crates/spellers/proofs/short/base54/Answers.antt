use Rattle.std.proofs.Common.{◌≡◌, ◌≤◌, subst, ⊎_elim, arith}
use Rattle.std.proofs.lemmas.Bool.{cases_lt}
use Rattle.spellers.specs.Shortening.{short_apart, short_edges, written_once}
use Rattle.spellers.proofs.Spelling.{Spelling, spelling_begins, spelling_room, spelling_more, spelling_ends}
use Rattle.spellers.proofs.short.base54.Goals as goal

pub loop-len-init : goal.loop-len-init
loop-len-init c = spelling_begins c.args.n c.letter_of.result (omega arith) c.letter_of.ensures

pub returns-then-left-eq0 : goal.returns-then-left-eq0
returns-then-left-eq0 c =
    record {
      spelled = spelling_ends c.args.n c.loop-len.bytes c.loop-len.len c.loop-len.left c.loop-len.invariant (omega arith);
      written = written_once;
      apart = short_apart;
      edges = short_edges;
    }

pub loop-len-preserved : goal.loop-len-preserved
loop-len-preserved c =
    rw c.from.ensures
    (spelling_more c.args.n c.loop-len.bytes c.loop-len.len c.loop-len.left c.loop-len.invariant c.letter_of-in-loop-len.result (omega arith) c.letter_of-in-loop-len.ensures)

-- there is no room for a fourth letter, so nothing is left
pub returns : goal.returns
returns c =
    let done : c.loop-len.left ≤ 0 = ⊎_elim (λ more. absurd (omega (arith, spelling_room c.args.n c.loop-len.bytes c.loop-len.len c.loop-len.left c.loop-len.invariant more))) (λ le. le) (cases_lt 0 c.loop-len.left) in
    let three : c.loop-len.len ≡ 3 = omega arith in
    record {
      spelled = spelling_ends c.args.n c.loop-len.bytes 3 c.loop-len.left (subst (λ k. Spelling c.args.n c.loop-len.bytes k c.loop-len.left) three c.loop-len.invariant) done;
      written = written_once;
      apart = short_apart;
      edges = short_edges;
    }
