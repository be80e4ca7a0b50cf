use Rattle.std.proofs.Common.{◌+◌, ◌-◌}
use Rattle.pages.proofs.Walking.{Walking}
use Rattle.pages.proofs.row.Nodes.+subtree.Given as goal
use Rattle.pages.specs.Trees.{shown}

-- a walk goes one level down with each call, and none below level 65
abbrev pub decreases-subtree : goal.decreases-subtree
decreases-subtree l = 65 - l.level

-- the children before `position` are passed
abbrev pub invariant-loop-position : goal.invariant-loop-position
invariant-loop-position l = Walking (shown l.self.text.now l.self.rows.now) l.row.kind l.row.flags l.row.children l.position (l.level + 1) l.at l.next
