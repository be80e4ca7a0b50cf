use Rattle.std.proofs.Common.{◌≡◌, ◌+◌, ◌*◌, ◌≤◌, length}
use Rattle.matchers.specs.Patterns.{matched}
use Rattle.matchers.specs.Walks.{answers, Sound, Within, left}
use Rattle.matchers.proofs.walk.run.Given as goal

abbrev pub invariant-loop-walk : goal.invariant-loop-walk
invariant-loop-walk l = record {
  sound : Sound l.walk;
  within : Within (length l.pattern) l.walk;
  same : answers l.walk ≡ matched l.pattern l.name;
  bound : l.turns + left (length l.pattern) l.walk ≤ length l.name * (length l.pattern + 1) + length l.pattern;
  count : length l.name ≤ l.turns + length l.walk.at.name.now;
}

abbrev pub decreases-loop-walk : goal.decreases-loop-walk
decreases-loop-walk l = left (length l.pattern) l.walk
