use Rattle.std.proofs.Common.{arith}
use Rattle.names.proofs.Filling.{filled_is_made}
use Rattle.names.proofs.name.Name.new.Goals as goal

pub returns : goal.returns
returns c = filled_is_made c.args.text.now c.put_first.new.bytes c.put_first.ensures (omega arith)
