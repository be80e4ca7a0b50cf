-- What is left of a name passes a test.
use Rattle.std.proofs.Common.{◌≡◌, ℕ, Bool, true, false, ◌||◌, List, [], ◌∷◌, ◌++◌, sym, refl, ap, ◌∙◌, inl, inr}
use Rattle.std.proofs.lemmas.Bool.{or_cases, or_left, or_right, false≢true}
use Rattle.matchers.specs.Patterns.{some_suffix}
use Rattle.matchers.specs.Walks.{later}

or_false : (b : Bool) → b ≡ (b || false)
or_false true = refl
or_false false = refl

pub suffix_or_later : (test : List ℕ → Bool) (name : List ℕ) → some_suffix test name ≡ (test name || later test name)
suffix_or_later test [] = or_false (test [])
suffix_or_later test (x ∷ xs) = refl

-- what passes, split off
pub suffix_found : (test : List ℕ → Bool) (name : List ℕ) → some_suffix test name ≡ true → (part : List ℕ) × (rest : List ℕ) × (name ≡ part ++ rest) × (test rest ≡ true)
suffix_found test [] e = ([], [], refl, e)
suffix_found test (x ∷ xs) e =
    elim (or_cases (test (x ∷ xs)) (some_suffix test xs) e) [
      | inl h ↦ ([], x ∷ xs, refl, h)
      | inr h ↦ let f = suffix_found test xs h in (x ∷ f.0, f.1, ap (λ t. x ∷ t) f.2, f.3)
    ]

pub suffix_made : (test : List ℕ → Bool) (part rest : List ℕ) → test rest ≡ true → some_suffix test (part ++ rest) ≡ true
suffix_made test [] [] h = h
suffix_made test [] (x ∷ xs) h = or_left (test (x ∷ xs)) (some_suffix test xs) h
suffix_made test (p ∷ ps) rest h =
    or_right (test (p ∷ (ps ++ rest))) (some_suffix test (ps ++ rest)) (suffix_made test ps rest h)

-- what is left of what is left is left
suffix_twice : (test : List ℕ → Bool) (name : List ℕ) → some_suffix (some_suffix test) name ≡ true → some_suffix test name ≡ true
suffix_twice test [] h = h
suffix_twice test (x ∷ xs) h =
    elim (or_cases (some_suffix test (x ∷ xs)) (some_suffix (some_suffix test) xs) h) [
      | inl e ↦ e
      | inr e ↦ or_right (test (x ∷ xs)) (some_suffix test xs) (suffix_twice test xs e)
    ]

pub later_earlier : (test : List ℕ → Bool) (name : List ℕ) → later (some_suffix test) name ≡ true → some_suffix test name ≡ true
later_earlier test [] h = absurd (false≢true h)
later_earlier test (x ∷ xs) h = or_right (test (x ∷ xs)) (some_suffix test xs) (suffix_twice test xs h)

-- a test that takes one byte and then asks another
module _ (test first : List ℕ → Bool) (none : first [] ≡ false) (takes : (x : ℕ) (xs : List ℕ) → first (x ∷ xs) ≡ true → test xs ≡ true) where
  pub later_behind_one : (name : List ℕ) → some_suffix first name ≡ true → later test name ≡ true
  later_behind_one [] h = absurd (false≢true (sym none ∙ h))
  later_behind_one (x ∷ xs) h =
      elim (or_cases (first (x ∷ xs)) (some_suffix first xs) h) [
        | inl e ↦ suffix_made test [] xs (takes x xs e)
        | inr e ↦ suffix_or_later test xs ∙ or_right (test xs) (later test xs) (later_behind_one xs e)
      ]

  pub later_moves : (x : ℕ) (xs : List ℕ) → later first (x ∷ xs) ≡ true → later test xs ≡ true
  later_moves x xs h = later_behind_one xs h
