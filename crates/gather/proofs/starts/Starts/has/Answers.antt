use Rattle.std.proofs.Common.{eqb, refl, rules}
use Rattle.std.proofs.lemmas.List.Recursion.{or_is}
use Rattle.positions.specs.Roles.{is_place}
use Rattle.gather.proofs.Placing.{place_first}
use Rattle.gather.proofs.starts.Starts.has.Goals as goal

pub returns-else-self : goal.returns-else-self
returns-else-self c =
    or_is (λ places. is_place places c.args.start) (λ place. eqb place.key c.args.start) refl (place_first c.args.start) c.args.self.places.now (record { key = 0; value = tt }) _
    (search rules) (search rules)
