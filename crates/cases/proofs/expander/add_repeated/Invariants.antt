-- What stands there, and the text so often as turns are left, is what is to come of it.
use Rattle.std.proofs.Common.{◌≡◌, ◌-◌, ◌++◌}
use Rattle.std.specs.List.{repeat}
use Rattle.cases.proofs.expander.add_repeated.Given as goal

abbrev pub invariant-loop : goal.invariant-loop
invariant-loop l = l.bytes.items ++ repeat (l.times - l.counter) l.text ≡ l.initial.bytes.items ++ repeat l.times l.text
