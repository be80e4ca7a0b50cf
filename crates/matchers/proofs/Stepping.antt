-- The steps of the walk keep the answer.
use Rattle.std.proofs.Common.{◌≡◌, ℕ, ◌<◌, ◌≤◌, Bool, true, false, cond, ◌&&◌, ◌||◌, eqb, List, [], ◌∷◌, length, get_or, sym, refl, ap, ◌∙◌, inl, inr, arith}
use Rattle.std.proofs.lemmas.Bool.{and_parts, cases_Bool, ne_eqb}
use Rattle.matchers.specs.Patterns.{one, itself, piece, some_suffix, parted, matched}
use Rattle.matchers.specs.Walks.{taking, all_runs, later}
use Rattle.matchers.proofs.Suffixes.{suffix_or_later, later_earlier, later_moves}

-- what holds of a pattern that begins with `*`
module _ (b : ℕ) (bs : List ℕ) (is : eqb b 42 ≡ true) where
  pub run_matched : (name : List ℕ) → matched (b ∷ bs) name ≡ some_suffix (matched bs) name
  unfolding matched piece
  run_matched name = rw is refl

  pub run_later : (name : List ℕ) → matched (b ∷ bs) name ≡ (matched bs name || later (matched bs) name)
  run_later name = run_matched name ∙ suffix_or_later (matched bs) name

  pub run_earlier : (name : List ℕ) → later (matched (b ∷ bs)) name ≡ true → matched (b ∷ bs) name ≡ true
  unfolding matched piece
  run_earlier name = rw is (later_earlier (matched bs) name)

-- and of one that begins with another byte
module _ (b : ℕ) (bs : List ℕ) (is : eqb b 42 ≡ false) where
  pub byte_matched : (x : ℕ) (xs : List ℕ) → matched (b ∷ bs) (x ∷ xs) ≡ ((eqb b 63 || eqb b x) && matched bs xs)
  unfolding matched piece
  byte_matched x xs =
      rw is (elim (eqb b 63) as (λ v. parted (cond v one (itself b)) (matched bs) (x ∷ xs) ≡ ((v || eqb b x) && matched bs xs)) [ true ↦ refl | false ↦ refl ])

  pub byte_none : matched (b ∷ bs) [] ≡ false
  unfolding matched piece
  byte_none = rw is (elim (eqb b 63) as (λ v. parted (cond v one (itself b)) (matched bs) [] ≡ false) [ true ↦ refl | false ↦ refl ])

  pub byte_moves : (x : ℕ) (xs : List ℕ) → later (matched (b ∷ bs)) (x ∷ xs) ≡ true → later (matched bs) xs ≡ true
  byte_moves =
      later_moves (matched bs) (matched (b ∷ bs)) byte_none
      (λ x xs h. (and_parts (eqb b 63 || eqb b x) (matched bs xs) (sym (byte_matched x xs) ∙ h)).1)

-- no byte of the pattern is left, or the one that is left is no `*` and does not take the next
pub stuck_past : (pattern name : List ℕ) → 0 < length name → length pattern < 1 → matched pattern name ≡ false
unfolding matched
stuck_past pattern [] within past = absurd (omega arith)
stuck_past [] (x ∷ xs) within past = refl
stuck_past (b ∷ bs) (x ∷ xs) within past = absurd (omega arith)

pub stuck_byte : (pattern name : List ℕ) → 0 < length name → 1 ≤ length pattern → (get_or pattern 0 0 ≡ 42 → ⊥) → false ≡ taking (get_or pattern 0 0) (get_or name 0 0) → matched pattern name ≡ false
stuck_byte pattern [] within here other t = absurd (omega arith)
stuck_byte [] (x ∷ xs) within here other t = absurd (omega arith)
stuck_byte (b ∷ bs) (x ∷ xs) within here other t =
    byte_matched b bs (ne_eqb b 42 other) x xs ∙ ap (λ v. v && matched bs xs) (sym t)

-- at the end of the name
pub ends : (pattern : List ℕ) → matched pattern [] ≡ all_runs pattern
unfolding matched
ends [] = refl
ends (b ∷ bs) =
    elim (cases_Bool (eqb b 42)) [
      | inl e ↦ run_matched b bs e [] ∙ (rw e (ends bs))
      | inr e ↦ byte_none b bs e ∙ (rw e refl)
    ]

pub absorbed : (m l : Bool) → (l ≡ true → m ≡ true) → (m || l) ≡ m
absorbed true l h = refl
absorbed false true h = sym (h refl)
absorbed false false h = refl
