-- What is wrong with a name that is to be counted.
use Rattle.std.specs.Prelude.{◌≡◌, ℕ, ◌+◌, true, false, ◌⊎◌, List, [], ◌∷◌}
use Rattle.names.specs.Names.{long}
use Rattle.names.specs.Texts.{foreign}
use Rattle.numerals.specs.Numeral.{HasLongForm}
use Rattle.pages.specs.declared.refusal.Refusal.{Refusal}
use Rattle.pages.specs.declared.refusal.Refusal.TheVariants.{Long, Foreign, LongNumber}
use Rattle.positions.specs.Roles.{Setting, counted_at}
use Rattle.positions.specs.Walks.{Position}

-- Nothing is wrong with it.
pub record Right (name : List ℕ) : Type 0 where
  pub not_long : long name ≡ false
  pub not_foreign : foreign name ≡ false
  pub no_long_number : HasLongForm name → ⊥

-- It is too long, or else foreign, or else a long number: the refusal of a name to count at a node.
pub data Wrong (node : ℕ) (name : List ℕ) : Refusal → Type 0 where
  too_long : long name ≡ true → Wrong node name (Long node)
  not_ascii : long name ≡ false → foreign name ≡ true → Wrong node name (Foreign node)
  long_number : long name ≡ false → foreign name ≡ false → HasLongForm name → Wrong node name (LongNumber node)

-- a name that is counted, if there is one, is right
abbrev pub AllRight : List (List ℕ) → Type 0
AllRight [] = Unit {0}
AllRight (n ∷ ns) = Right n × AllRight ns

-- Of positions of which the first has this number, the first whose name is wrong is refused so.
abbrev pub FirstWrong : Setting → ℕ → List Position → Refusal → Type 0
FirstWrong s node [] refusal = ⊥
FirstWrong s node (p ∷ ps) refusal =
    ((name : List ℕ) × (counted_at s p ≡ name ∷ []) × Wrong node name refusal)
    ⊎ (AllRight (counted_at s p) × FirstWrong s (node + 1) ps refusal)
