use Rattle.std.proofs.Common.{replicate, rules}
use Rattle.std.proofs.lemmas.List.{length-replicate}
use Rattle.reader.proofs.reader.Reader.fault_after.Goals as goal

pub returns-then-is_shapely : goal.returns-then-is_shapely
returns-then-is_shapely c =
    let e = c.is_shapely.ensures (replicate c.args.self.now.bytes 0) 1 (length-replicate c.args.self.now.bytes 0) in
    search rules

pub returns-else-is_shapely : goal.returns-else-is_shapely
returns-else-is_shapely c =
    let e = c.is_shapely.ensures (replicate c.args.self.now.bytes 0) 1 (length-replicate c.args.self.now.bytes 0) in
    search rules
