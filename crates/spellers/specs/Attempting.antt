-- Where an attempt fits if the next one does, those that fit are the first ones.
use Rattle.std.specs.Prelude.{◌≡◌, ℕ, zero, suc, ◌+◌, ◌<◌, ◌≤◌, true, not, leb, List, [], ◌∷◌, map, length, Some, None, nat_le}
use Rattle.std.proofs.Math.Path.{refl, ap, subst}
use Rattle.std.proofs.Common.{sym, ◌∙◌}
use Rattle.std.proofs.Math.Logic.{inl, inr}
use native.Mathlib.Omega.{arith}
use Rattle.std.specs.List.{slice_get, range_with_len, filter}
use Rattle.std.proofs.lemmas.List.FromFn.{length-map-range_with_len}
use Rattle.std.proofs.lemmas.Option.{slice_get_past, slice_get_within}
use Rattle.std.proofs.lemmas.List.Filters.{length-filter_both}
use Rattle.std.proofs.lemmas.Bool.{cases_lt, le-leb, lt-leb}
use Rattle.names.specs.Identifiers.{identifier}
use Rattle.spellers.specs.Attempts.{attempts}
use Rattle.spellers.specs.Lawful.{Lawful}

pub past_from_nth : {X : Type 0} (xs : List X) (n : ℕ) → slice_get xs n ≡ None → length xs ≤ n
past_from_nth [] n e = omega arith
past_from_nth (x ∷ xs) zero e = absurd (cc)
past_from_nth (x ∷ xs) (suc n) e = let ih = past_from_nth xs n e in omega arith

module _ (rule : ℕ → List ℕ) (longest top : ℕ) (sooner : (j : ℕ) → j + 1 < top → length (rule (j + 1)) ≤ longest → length (rule j) ≤ longest) where
  much_sooner : (a n j : ℕ) → a + n ≡ j → j < top → length (rule j) ≤ longest → length (rule a) ≤ longest
  much_sooner a zero j e h f = let same : a ≡ j = omega arith in subst (λ i. length (rule i) ≤ longest) (sym same) f
  much_sooner a (suc n) j e h f = sooner a (omega arith) (much_sooner (a + 1) n j (omega arith) h f)

  later_too : (a : ℕ) → a + 1 < top → longest < length (rule a) → longest < length (rule (a + 1))
  later_too a h f = elim (cases_lt longest (length (rule (a + 1)))) [
    | inl long ↦ long
    | inr fits ↦ absurd (omega (arith, sooner a h fits))
  ]

  kept : ℕ → ℕ → List (List ℕ)
  kept a c = filter (λ s. leb (length s) longest) (map rule (range_with_len a c))

  kept_some : (a c n j : ℕ) → a + n ≡ j → a + c ≤ top → n < c → length (rule j) ≤ longest → slice_get (kept a c) n ≡ Some (rule j)
  unfolding kept
  kept_some a zero n j e t h f = absurd (omega arith)
  kept_some a (suc c) zero j e t h f =
      let same : a ≡ j = omega arith in
      rw (same, le-leb (length (rule j)) longest f) refl
  kept_some a (suc c) (suc n) j e t h f =
      rw (le-leb (length (rule a)) longest (much_sooner a (suc n) j e (omega arith) f)) (kept_some (a + 1) c n j (omega arith) (omega arith) (omega arith) f)

  kept_nothing : (a c : ℕ) → a + c ≤ top → longest < length (rule a) → kept a c ≡ []
  unfolding kept
  kept_nothing a zero t f = refl
  kept_nothing a (suc zero) t f = rw (lt-leb (length (rule a)) longest f) refl
  kept_nothing a (suc (suc c)) t f =
      rw (lt-leb (length (rule a)) longest f) (kept_nothing (a + 1) (suc c) (omega arith) (later_too a (omega arith) f))

  kept_long : (a c n j : ℕ) → a + n ≡ j → a + c ≤ top → j < top → longest < length (rule j) → slice_get (kept a c) n ≡ None
  unfolding kept
  kept_long a zero n j e t h f = refl
  kept_long a (suc c) zero j e t h f =
      let same : a ≡ j = omega arith in
      let long : longest < length (rule a) = subst (λ i. longest < length (rule i)) (sym same) f in
      ap (λ xs. slice_get xs zero) (kept_nothing a (suc c) t long)
  kept_long a (suc c) (suc n) j e t h f = elim (cases_lt longest (length (rule a))) [
    | inl long ↦ ap (λ xs. slice_get xs (suc n)) (kept_nothing a (suc c) t long)
    | inr fits ↦ rw (le-leb (length (rule a)) longest fits) (kept_long (a + 1) c n j (omega arith) (omega arith) h f)
  ]

few_kept : (rule : ℕ → List ℕ) (longest count : ℕ) → length (filter (λ s. leb (length s) longest) (map rule (range_with_len 0 count))) ≤ count
few_kept rule longest count =
    omega (arith, length-filter_both (λ s. leb (length s) longest) (λ s. not (nat_le (length s) longest)) (λ _. refl) (map rule (range_with_len 0 count)), length-map-range_with_len rule 0 count)

-- of the attempts of a rule below 65,536
module _ (rule : ℕ → List ℕ) (longest : ℕ) (sooner : (j : ℕ) → j + 1 < 65536 → length (rule (j + 1)) ≤ longest → length (rule j) ≤ longest) where
  pub attempt_fits : (n : ℕ) → n < 65536 → length (rule n) ≤ longest → slice_get (attempts rule longest) n ≡ Some (rule n)
  unfolding attempts kept
  attempt_fits n h f = kept_some rule longest 65536 sooner 0 65536 n n (omega arith) (omega arith) h f

  pub attempt_too_long : (n : ℕ) → n < 65536 → longest < length (rule n) → slice_get (attempts rule longest) n ≡ None
  unfolding attempts kept
  attempt_too_long n h f = kept_long rule longest 65536 sooner 0 65536 n n (omega arith) (omega arith) h f

  pub few_attempts : length (attempts rule longest) ≤ 65536
  unfolding attempts
  few_attempts = few_kept rule longest 65536

  pub attempt_past : (n : ℕ) → 65536 ≤ n → slice_get (attempts rule longest) n ≡ None
  attempt_past n h = slice_get_past (attempts rule longest) n (omega (arith, few_attempts))

  record From (n : ℕ) (s : List ℕ) : Type 0 where
    within : n < 65536
    fits : length s ≤ longest
    ruled : s ≡ rule n

  from_rule : (n : ℕ) (s : List ℕ) → slice_get (attempts rule longest) n ≡ Some s → From n s
  from_rule n s e = elim (cases_lt n 65536) [
    | inr past ↦ let none = attempt_past n past in absurd (cc)
    | inl lt ↦ elim (cases_lt longest (length (rule n))) [
      | inl long ↦ let none = attempt_too_long n lt long in absurd (cc)
      | inr fits ↦ let some = attempt_fits n lt fits in
          let same : s ≡ rule n = cc in
          record { within = lt; fits = subst (λ t. length t ≤ longest) (sym same) fits; ruled = same }
    ]
  ]

  pub lawful_attempts : ((m n : ℕ) → m < 65536 → n < 65536 → rule m ≡ rule n → m ≡ n) → ((n : ℕ) → n < 65536 → identifier (rule n) ≡ true) → Lawful (attempts rule longest) longest
  lawful_attempts same ident =
      record {
        few = few_attempts;
        apart = λ m n s e f. same m n (from_rule m s e).within (from_rule n s f).within (sym (from_rule m s e).ruled ∙ (from_rule n s f).ruled);
        identifiers = λ n s e. subst (λ t. identifier t ≡ true) (sym (from_rule n s e).ruled) (ident n (from_rule n s e).within);
        bounded = λ n s e. (from_rule n s e).fits;
      }

  -- the list ends where an attempt does not fit
  pub attempts_end : (n : ℕ) → n < 65536 → longest < length (rule n) → length (attempts rule longest) ≤ n
  attempts_end n h f = past_from_nth (attempts rule longest) n (attempt_too_long n h f)

  -- and not before one that fits
  pub attempts_go_on : (n : ℕ) → n < 65536 → length (rule n) ≤ longest → n < length (attempts rule longest)
  attempts_go_on n h f = slice_get_within (attempts rule longest) n (rule n) (attempt_fits n h f)
