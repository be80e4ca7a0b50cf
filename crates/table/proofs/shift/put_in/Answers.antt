use Rattle.std.proofs.Common.{arith}
use Rattle.table.proofs.Shifting.{put_in, whole_is}
use Rattle.table.proofs.shift.put_in.Goals as goal

pub returns : goal.returns
returns g c =
    put_in c.args.entries.now c.args.len c.args.at c.args.entry (omega arith) (omega arith) _
    (whole_is c.args.entries.now c.args.len c.args.at c.args.entry (omega arith) (omega arith) c.rotate_right.new.self c.rotate_right.ensures.after)
