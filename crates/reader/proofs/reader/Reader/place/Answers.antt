use Rattle.std.proofs.Common.{◌-◌, length, take, get_or, sym, ap, ◌∙◌, arith}
use Rattle.pages.specs.declared.shape.Place.TheVariants.{Child}
use Rattle.reader.specs.View.{no_open}
use Rattle.reader.proofs.Moves.{place_around}
use Rattle.reader.proofs.reader.Reader.place.Goals as goal

pub returns-in-len2-up : goal.returns-in-len2-up
returns-in-len2-up c =
    let d = c.args.self.now.depth in
    let s = take d c.args.self.now.stack in
    let e = get_or s (length s - 2) no_open in
    ap (λ n. Child e.row.kind e.row.flags n) c.saturating_sub.ensures
    ∙ sym (place_around d c.args.self.now.stack (omega arith) c.in-len2-up.len_at_least)
