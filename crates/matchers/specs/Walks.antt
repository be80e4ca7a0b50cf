-- What the private steps of the walk are held to. No public promise rests on it.
use Rattle.std.specs.Prelude.{◌≡◌, ℕ, ◌+◌, ◌*◌, ◌<◌, ◌≤◌, Bool, true, false, ◌||◌, List, [], ◌∷◌, length, Some, None, Option, MatchOption, ◌==◌}
use Rattle.std.specs.List.{list_all}
use Rattle.matchers.specs.declared.walk.Place.{Place}
use Rattle.matchers.specs.declared.walk.Walk.{Walk}
use Rattle.matchers.specs.Patterns.{matched, some_suffix}

-- whether each byte of a pattern is `*`
abbrev pub all_runs : List ℕ → Bool
all_runs bs = list_all (λ b. b == 42) bs

-- whether a byte of a pattern that is no `*` stands for this byte: it is a `?` or the byte itself
abbrev pub taking : ℕ → ℕ → Bool
taking b x = b == 63 || b == x

-- whether what is left of a name behind one or more of its bytes passes a test
abbrev pub later : (List ℕ → Bool) → List ℕ → Bool
later test [] = false
later test (x ∷ xs) = some_suffix test xs

-- whether what is to go of the pattern means what is to go of the name
abbrev pub fits : Place → Bool
fits p = matched p.pattern.now p.name.now

-- whether it means what is left of that behind one or more of its bytes
abbrev pub fits_later : Place → Bool
fits_later p = later (matched p.pattern.now) p.name.now

-- the name fits from here on, or, behind a `*`, in an attempt that begins later than the last one
abbrev pub answers_at : Place → Option Place → Bool
answers_at at None = fits at
answers_at at (Some last) = fits at || fits_later last

abbrev pub answers : Walk → Bool
answers w = answers_at w.at w.retry

-- the last attempt began no later than here; and if a later one fits, then what is to go of the pattern fits later than
-- here
pub record Behind (at last : Place) : Type 0 where
  pub before : length at.name.now ≤ length last.name.now
  pub ahead : fits_later last ≡ true → fits_later at ≡ true

abbrev pub Sound_at : Place → Option Place → Type 0
Sound_at at None = Unit {0}
Sound_at at (Some last) = Behind at last

-- behind a `*`, the last attempt is as said above
abbrev pub Sound : Walk → Type 0
Sound w = Sound_at w.at w.retry

-- how much of the name was to go where the present attempt began
abbrev pub since : Place → Option Place → ℕ
since at None = length at.name.now
since at (Some last) = length last.name.now

-- no more of a pattern is to go than so many bytes, here and where an attempt begins again
abbrev pub Within : ℕ → Walk → Type 0
Within most w = (length w.at.pattern.now ≤ most) × MatchOption w.retry (Unit {0}) (λ last. length last.pattern.now ≤ most)

-- how many turns are left at most, in a pattern of so many bytes
abbrev pub left : ℕ → Walk → ℕ
left most w = since w.at w.retry * (most + 1) + length w.at.pattern.now

-- what a turn makes of a walk: the answer is the same, fewer turns are left, and it is at most one byte further
pub record Turned (w next : Walk) : Type 0 where
  pub sound : Sound next
  pub same : answers next ≡ answers w
  pub near : length w.at.name.now ≤ length next.at.name.now + 1
  pub fewer : (most : ℕ) → Within most w → Within most next × (left most next < left most w)
