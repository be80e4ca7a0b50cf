use Rattle.std.proofs.Common.{arith}
use Rattle.reader.proofs.Moves.{begun_long}
use Rattle.reader.proofs.word.Word.with.Goals as goal

pub returns-then-self-ge-LONGEST : goal.returns-then-self-ge-LONGEST
returns-then-self-ge-LONGEST c = begun_long c.args.self.letters c.args.self.len c.args.b (omega arith) c.if-self-ge-LONGEST.true
