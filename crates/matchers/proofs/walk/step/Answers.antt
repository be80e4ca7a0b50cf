use Rattle.std.proofs.Common.{◌≡◌, ◌<◌, ◌≤◌, length, eqb, false, get_or, sym, refl, arith, rules}
use Rattle.std.proofs.lemmas.Bool.{ne_eqb}
use Rattle.matchers.specs.Walks.{fits}
use Rattle.matchers.proofs.Stepping.{stuck_past, stuck_byte}
use Rattle.matchers.proofs.Turning.{turned_run, turned_byte, turned_again, turned_nowhere, last_within, split_first}
use Rattle.matchers.proofs.walk.step.Goals.{In_default, in_default-via-then-at-lt1, in_default-via-else-at-lt1+in_default+then-this-lt1, in_default-via-in-len1-up-len1-up+else-takes}
use Rattle.matchers.proofs.walk.step.Goals as goal

pub returns-in-42-default : goal.returns-in-42-default
returns-in-42-default c =
    let at = c.args.walk.at in
    let first : get_or at.pattern.now 0 0 ≡ 42 = omega arith in
    turned_run c.args.walk c.requires.sound _ (rw first at (split_first at.pattern.now c.in-42-default.len_at_least)) refl

pub returns-in-len1-up-len1-up : goal.returns-in-len1-up-len1-up
returns-in-len1-up-len1-up c =
    let at = c.args.walk.at in
    let other : eqb (get_or at.pattern.now 0 0) 42 ≡ false = ne_eqb (get_or at.pattern.now 0 0) 42 (omega arith) in
    let some : 1 ≤ length at.pattern.now = search rules in
    turned_byte c.args.walk c.requires.sound _ _ _ (split_first at.pattern.now some) (split_first at.name.now c.requires.within) other (sym c.if-takes.ensures)

stuck : (c : In_default) → fits c.args.walk.at ≡ false
stuck c =
    let at = c.args.walk.at in
    elim c.in_default.branch [
      | in_default-via-then-at-lt1 w ↦ stuck_past at.pattern.now at.name.now c.requires.within (search rules)
      | in_default-via-else-at-lt1+in_default+then-this-lt1 w ↦
          let none : length at.name.now < 1 = search rules in
          absurd (omega (arith, c.requires.within))
      | in_default-via-in-len1-up-len1-up+else-takes w ↦
          let some : 1 ≤ length at.pattern.now = search rules in
          stuck_byte at.pattern.now at.name.now c.requires.within some (omega arith) w.if-takes.ensures
    ]

pub returns-in_err-last-in_default : goal.returns-in_err-last-in_default
returns-in_err-last-in_default c =
    rw c.from_residual.ensures (turned_nowhere c.args.walk c.in_err-last-in_default.was (stuck (goal.at.returns-in_err-last-in_default c).In_default))

pub returns-in_ok-last-in_default : goal.returns-in_ok-last-in_default
returns-in_ok-last-in_default c =
    turned_again c.args.walk c.requires.sound c.in_ok-last-in_default.last _ _ c.in_ok-last-in_default.was (stuck (goal.at.returns-in_ok-last-in_default c).In_default) refl (split_first c.in_ok-last-in_default.last.name.now (omega (arith, last_within c.args.walk c.requires.sound _ c.in_ok-last-in_default.was)))
