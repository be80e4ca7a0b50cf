-- The lowest misshapen node of a walk.
use Rattle.std.proofs.Common.{◌≡◌, ℕ, ◌+◌, Bool, true, false, cond, ltb, List, [], ◌∷◌, ◌++◌, length, Some, None, Option, sym, refl, ap, ◌∙◌, arith}
use Rattle.std.proofs.lemmas.Bool.Decides.{nat_tests}
use Rattle.pages.specs.Shape.{Visit, shapely}
use Rattle.grammar.specs.Scan.{lower}

-- the lower of a node found before and the first misshapen one of these, which are numbered from `n` on
abbrev pub lowest : Option ℕ → ℕ → List Visit → Option ℕ
lowest F n [] = F
lowest F n (v ∷ vs) = cond (shapely v) (lowest F (n + 1) vs) (lower (lowest F (n + 1) vs) n)

least_swap : (m a b : ℕ) → cond (ltb b (cond (ltb a m) a m)) b (cond (ltb a m) a m) ≡ cond (ltb a (cond (ltb b m) b m)) a (cond (ltb b m) b m)
least_swap m a b = grind (arith, nat_tests)

lower_swap : (F : Option ℕ) (a b : ℕ) → lower (lower F a) b ≡ lower (lower F b) a
lower_swap None a b = ap {B = Option ℕ} Some (grind (arith, nat_tests))
lower_swap (Some m) a b = ap {B = Option ℕ} Some (least_swap m a b)

cond_lower : (t : Bool) (F G : Option ℕ) (x : ℕ) → lower (cond t F G) x ≡ cond t (lower F x) (lower G x)
cond_lower true F G x = refl
cond_lower false F G x = refl

lower_lowest : (F : Option ℕ) (x n : ℕ) (vs : List Visit) → lower (lowest F n vs) x ≡ lowest (lower F x) n vs
lower_lowest F x n [] = refl
lower_lowest F x n (v ∷ vs) =
    cond_lower (shapely v) (lowest F (n + 1) vs) (lower (lowest F (n + 1) vs) n) x
    ∙ ap (λ (G : Option ℕ). cond (shapely v) (lower (lowest F (n + 1) vs) x) G) (lower_swap (lowest F (n + 1) vs) n x)
    ∙ ap (λ (G : Option ℕ). cond (shapely v) G (lower G n)) (lower_lowest F x (n + 1) vs)

lowest_cond : (t : Bool) (F G : Option ℕ) (n : ℕ) (vs : List Visit) → lowest (cond t F G) n vs ≡ cond t (lowest F n vs) (lowest G n vs)
lowest_cond true F G n vs = refl
lowest_cond false F G n vs = refl

-- one stretch of a walk after the other
pub lowest_append : (F : Option ℕ) (n : ℕ) (vs ws : List Visit) → lowest F n (vs ++ ws) ≡ lowest (lowest F n vs) (n + length vs) ws
lowest_append F n [] ws = ap (λ (k : ℕ). lowest F k ws) (omega arith)
lowest_append F n (v ∷ vs) ws =
    ap (λ (G : Option ℕ). cond (shapely v) G (lower G n)) (lowest_append F (n + 1) vs ws)
    ∙ ap (λ (G : Option ℕ). cond (shapely v) (lowest (lowest F (n + 1) vs) (n + 1 + length vs) ws) G)
    (lower_lowest (lowest F (n + 1) vs) n (n + 1 + length vs) ws)
    ∙ sym (lowest_cond (shapely v) (lowest F (n + 1) vs) (lower (lowest F (n + 1) vs) n) (n + 1 + length vs) ws)
    ∙ ap (λ (k : ℕ). lowest (lowest F n (v ∷ vs)) k ws) (omega arith)
