-- The remaining rows fall. So far, as many children are walked as there were turns.
use Rattle.std.proofs.Common.{◌≡◌, ◌-◌, true, false, length}
use Rattle.gather.specs.Gatherers.{Kept, setting_of}
use Rattle.gather.proofs.Walked.{Brood, Turn}
use Rattle.gather.proofs.gatherer.Gatherer.+key_walk_plain_walk.Given as goal

abbrev pub decreases-key_walk : goal.decreases-key_walk
decreases-key_walk l = length l.self.now.nodes.rows.now - l.at

abbrev pub decreases-plain_walk : goal.decreases-plain_walk
decreases-plain_walk l = length l.self.now.nodes.rows.now - l.at

abbrev pub invariant-key_walk-loop-position : goal.invariant-key_walk-loop-position
invariant-key_walk-loop-position l = record {
  kept : Kept l.fn.self l.self;
  turn : (b : Brood l.fn.self.nodes.rows.now l.fn.self.nodes.text.now l.initial.next l.row.children)
      → b.kind ≡ l.row.kind
      → Turn b (setting_of l.fn.self) true l.initial.self.into.now l.initial.self.lacks l.position l.next l.self.into.now l.self.lacks;
}

abbrev pub invariant-plain_walk-loop-position : goal.invariant-plain_walk-loop-position
invariant-plain_walk-loop-position l = record {
  kept : Kept l.fn.self l.self;
  turn : (b : Brood l.fn.self.nodes.rows.now l.fn.self.nodes.text.now l.initial.next l.row.children)
      → b.kind ≡ l.row.kind
      → Turn b (setting_of l.fn.self) false l.initial.self.into.now l.initial.self.lacks l.position l.next l.self.into.now l.self.lacks;
}
