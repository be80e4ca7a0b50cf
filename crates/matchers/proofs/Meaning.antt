-- The test of a pattern decides what the pattern means.
use Rattle.std.proofs.Common.{◌≡◌, ℕ, Bool, true, eqb, List, [], ◌∷◌, ◌++◌, length, Decides, sym, refl, ap, arith}
use Rattle.std.proofs.lemmas.Bool.{and_parts, and_from, eqb-true, eq-eqb, false≢true}
use Rattle.matchers.specs.Patterns.{Piece, run, one, itself, piece, StandsFor, Means, parted, matched}
use Rattle.matchers.proofs.Suffixes.{suffix_found, suffix_made}

module _ (test : List ℕ → Bool) (Fact : List ℕ → Type 0) where
  Parted : Piece → List ℕ → Type 0
  Parted p name = (part : List ℕ) × (rest : List ℕ) × (name ≡ part ++ rest) × StandsFor p part × Fact rest

  part_found : ((rest : List ℕ) → test rest ≡ true → Fact rest) → (p : Piece) (name : List ℕ) → parted p test name ≡ true → Parted p name
  unfolding Parted
  part_found told run name h = let f = suffix_found test name h in (f.0, f.1, f.2, tt, told f.1 f.3)
  part_found told one [] h = absurd (false≢true h)
  part_found told one (x ∷ xs) h = (x ∷ [], xs, refl, refl, told xs h)
  part_found told (itself b) [] h = absurd (false≢true h)
  part_found told (itself b) (x ∷ xs) h =
      let both = and_parts (eqb b x) (test xs) h in
      (x ∷ [], xs, refl, ap (λ y. y ∷ []) (sym (eqb-true b x both.0)), told xs both.1)

  single : (part rest : List ℕ) → length part ≡ 1 → test rest ≡ true → parted one test (part ++ rest) ≡ true
  single [] rest l h = absurd (omega arith)
  single (x ∷ []) rest l h = h
  single (x ∷ y ∷ ys) rest l h = absurd (omega arith)

  part_made : ((rest : List ℕ) → Fact rest → test rest ≡ true) → (p : Piece) (part rest : List ℕ) → StandsFor p part → Fact rest → parted p test (part ++ rest) ≡ true
  part_made told run part rest s h = suffix_made test part rest (told rest h)
  part_made told one part rest s h = single part rest s (told rest h)
  part_made told (itself b) part rest s h =
      rw s (and_from (eqb b b) (test rest) (eq-eqb b b refl) (told rest h))

pub matched_means : (pattern name : List ℕ) → matched pattern name ≡ true → Means pattern name
unfolding matched Parted
matched_means [] [] h = refl
matched_means [] (x ∷ xs) h = absurd (false≢true h)
matched_means (b ∷ bs) name h = part_found (matched bs) (Means bs) (matched_means bs) (piece b) name h

pub means_matched : (pattern name : List ℕ) → Means pattern name → matched pattern name ≡ true
unfolding matched
means_matched [] name h = rw h refl
means_matched (b ∷ bs) name h =
    rw h.2 (part_made (matched bs) (Means bs) (means_matched bs) (piece b) h.0 h.1 h.3 h.4)

pub matched_decides : (pattern name : List ℕ) → Decides (matched pattern name) (Means pattern name)
matched_decides pattern name = (matched_means pattern name, means_matched pattern name)
