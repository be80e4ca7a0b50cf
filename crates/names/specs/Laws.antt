-- The order of bytes is a strict order, and tells any two lists apart.
use Rattle.std.specs.Prelude.{◌≡◌, ℕ, true, false, cond, List, [], ◌∷◌, ◌==◌, nat_lt, refl}
use Rattle.std.proofs.Common.{ap, sym, ◌∙◌, arith}
use Rattle.std.specs.declared.cmp.Ordering.{Ordering}
use Rattle.std.specs.declared.cmp.Ordering.TheVariants.{Less, Equal, Greater}
use Rattle.std.specs.Ordering.{is_lt, nat_cmp, ordering_reverse}
use Rattle.std.specs.Cmp.{alike_right, tied_itself}
use Rattle.std.specs.Cmp.Lexicographic.{nat_list_cmp_total, slice_cmp}
use Rattle.std.proofs.lemmas.Bool.{false≢true, true≢false}
use Rattle.std.proofs.lemmas.Bool.Decides.{nat_tests}
use Rattle.std.proofs.lemmas.Map.Lookups.{exact_bytes}
use Rattle.names.specs.Order.{less}

-- a front stands before what it begins
pub less_front : (y : ℕ) (ys : List ℕ) → less [] (y ∷ ys) ≡ true
less_front y ys = refl

-- and nothing stands before no bytes
pub less_nothing : (xs : List ℕ) → less xs [] ≡ false
less_nothing [] = refl
less_nothing (x ∷ xs) = refl

-- where the first bytes differ they decide, and else the bytes after them
pub less_first : (x y : ℕ) (xs ys : List ℕ) → less (x ∷ xs) (y ∷ ys) ≡ cond (x == y) (less xs ys) (nat_lt x y)
less_first x y xs ys = grind (arith, nat_tests)

pub less_irreflexive : (a : List ℕ) → less a a ≡ false
less_irreflexive a = ap is_lt (tied_itself nat_list_cmp_total a)

less_is : (r : Ordering) → is_lt r ≡ true → r ≡ Less
less_is Less e = refl
less_is Equal e = absurd (false≢true e)
less_is Greater e = absurd (false≢true e)

pub less_transitive : (a b c : List ℕ) → less a b ≡ true → less b c ≡ true → less a c ≡ true
less_transitive a b c p q = ap is_lt (nat_list_cmp_total.trans a b c (less_is _ p) (less_is _ q))

-- what stands before c stands before all that does not
pub less_before_others : (a b c : List ℕ) → less a c ≡ true → less b c ≡ false → less a b ≡ true
less_before_others a b c p q = between (slice_cmp nat_cmp b c) refl q
  where
    between : (r : Ordering) → slice_cmp nat_cmp b c ≡ r → is_lt r ≡ false → less a b ≡ true
    between Less e q = absurd (true≢false q)
    between Equal e q = ap is_lt (alike_right nat_list_cmp_total b c a e) ∙ p
    between Greater e q = ap is_lt (nat_list_cmp_total.trans a c b (less_is _ p) (nat_list_cmp_total.antisymm c b ∙ ap ordering_reverse e))

pub less_total : (a b : List ℕ) → less a b ≡ false → less b a ≡ false → a ≡ b
less_total a b p q = exact_bytes a b (neither (slice_cmp nat_cmp a b) p (sym (ap is_lt (nat_list_cmp_total.antisymm b a)) ∙ q))
  where
    neither : (r : Ordering) → is_lt r ≡ false → is_lt (ordering_reverse r) ≡ false → r ≡ Equal
    neither Less p q = absurd (true≢false p)
    neither Equal p q = refl
    neither Greater p q = absurd (true≢false q)
