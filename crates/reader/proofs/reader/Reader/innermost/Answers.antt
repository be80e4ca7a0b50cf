use Rattle.std.proofs.Common.{arith}
use Rattle.reader.proofs.Stack.{innermost_last}
use Rattle.reader.proofs.reader.Reader.innermost.Goals as goal

pub returns : goal.returns
returns c = innermost_last c.args.self.now.depth c.args.self.now.stack c.last.result (omega arith) c.last.ensures.value
