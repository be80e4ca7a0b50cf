use Rattle.std.specs.Vec.Iter.{into_iter_len}
use Rattle.shorten.proofs.take_all.Given as goal

abbrev pub decreases-loop-words : goal.decreases-loop-words
decreases-loop-words g l = into_iter_len l.words
