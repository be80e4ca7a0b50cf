-- What the reader asks of the kinds' names, in the library's words.
use Rattle.std.proofs.Common.{◌≡◌, ℕ, cond, ◌&&◌, ◌||◌, eqb, List, [], ◌∷◌, Some, refl, ap}
use Rattle.std.specs.List.{list_any, find, starts_with}
use Rattle.std.specs.Cmp.Lexicographic.{pointwise}
use Rattle.pages.specs.declared.kind.Kind.{Kind}
use Rattle.grammar.specs.Words.{word}
use Rattle.grammar.specs.Scan.{prefix, same, some_begins, first_named}

starts_prefix : (u w : List ℕ) → starts_with eqb w u ≡ prefix u w
starts_prefix [] w = refl
starts_prefix (a ∷ u) [] = refl
starts_prefix (a ∷ u) (b ∷ w) = ap (λ t. eqb a b && t) (starts_prefix u w)

equal_same : (u w : List ℕ) → pointwise eqb u w ≡ same u w
equal_same [] [] = refl
equal_same [] (b ∷ w) = refl
equal_same (a ∷ u) [] = refl
equal_same (a ∷ u) (b ∷ w) = ap (λ t. eqb a b && t) (equal_same u w)

pub any_begins : (ks : List Kind) (w : List ℕ) → list_any (λ k. starts_with eqb (word k) w) ks ≡ some_begins ks w
any_begins [] w = refl
any_begins (k ∷ ks) w = (λ i. starts_prefix w (word k) i || any_begins ks w i)

pub find_named : (ks : List Kind) (w : List ℕ) → find (λ k. pointwise eqb w (word k)) ks ≡ first_named ks w
find_named [] w = refl
find_named (k ∷ ks) w = (λ i. cond (equal_same w (word k) i) (Some k) (find_named ks w i))
