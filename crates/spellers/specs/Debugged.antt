-- The laws of debug spellings.
use Rattle.std.specs.Prelude.{◌≡◌, ℕ, zero, suc, ◌+◌, ◌/◌, ◌%◌, ◌^◌, ◌<◌, ◌≤◌, true, false, List, [], ◌∷◌, ◌++◌, length, None, codes, decimal}
use Rattle.std.proofs.Math.Path.{refl}
use Rattle.std.proofs.Common.{sym, ap, subst, ◌∙◌, inl, inr, arith}
use Rattle.std.proofs.Math.ListN.{length-append}
use Rattle.std.proofs.lemmas.Fmt.{decimal_by_steps, decimal_digit, decimal_nonempty, decimal_step, decimal_injective}
use Rattle.std.proofs.lemmas.List.{append_cancel_left, append_cancel_right}
use Rattle.std.proofs.lemmas.Bool.{agree_below_at, and_from, and_parts, cases_Bool, cases_lt, cond-false, cond-true, or_left}
use Rattle.std.specs.List.{slice_get}
use Rattle.names.specs.Names.{made_of}
use Rattle.names.proofs.Filling.{too_long_for_a_name}
use Rattle.names.specs.Identifiers.{identifier, all_go_on, goes_on, starts, digit}
use Rattle.spellers.specs.Attempts.{attempts}
use Rattle.spellers.specs.Debugging.{attempt_mark, debug_name, told, DebugEdges}
use Rattle.spellers.specs.Lawful.{Lawful, as_name}
use Rattle.spellers.specs.Attempting.{attempt_fits, attempt_past, attempt_too_long, attempts_end, attempts_go_on, lawful_attempts}

-- a larger number has no fewer digits
longer : (k m n : ℕ) → n ≤ k → m ≤ n → n < 2 ^ 64 → length (decimal m) ≤ length (decimal n)
longer zero m n h e f = let same : m ≡ n = omega arith in subst (λ i. length (decimal m) ≤ length (decimal i)) same (omega arith)
longer (suc k) m n h e f = elim (cases_lt m 10) [
  | inl one ↦ omega (arith, ap length (decimal_digit m one), decimal_nonempty n f)
  | inr more ↦ omega (arith, ap length (decimal_step m more (omega arith)), ap length (decimal_step n (omega arith) f), length-append (decimal (m / 10)) ((48 + m % 10) ∷ []), length-append (decimal (n / 10)) ((48 + n % 10) ∷ []), longer k (m / 10) (n / 10) (omega arith) (omega arith) (omega arith))
]

-- the digits of a number may stand after the first byte of an identifier name
go_on_append : (xs ys : List ℕ) → all_go_on xs ≡ true → all_go_on ys ≡ true → all_go_on (xs ++ ys) ≡ true
go_on_append [] ys p q = q
go_on_append (x ∷ xs) ys p q =
    and_from (goes_on x) (all_go_on (xs ++ ys)) (and_parts (goes_on x) (all_go_on xs) p).0 (go_on_append xs ys (and_parts (goes_on x) (all_go_on xs) p).1 q)

digit_goes_on : (d : ℕ) → d < 10 → goes_on (48 + d) ≡ true
unfolding goes_on starts digit
digit_goes_on d h = agree_below_at (λ k. goes_on (48 + k)) (λ _. true) 10 d refl h

decimal_goes_on : (n : ℕ) → n < 2 ^ 64 → all_go_on (decimal n) ≡ true
decimal_goes_on =
    decimal_by_steps (λ _ ds. all_go_on ds ≡ true)
    (λ n h. and_from (goes_on (48 + n)) true (digit_goes_on n h) refl)
    (λ n ds h ih. go_on_append ds ((48 + n % 10) ∷ []) ih (and_from (goes_on (48 + n % 10)) true (digit_goes_on (n % 10) (omega arith)) refl))

-- an identifier name goes on from its first byte
identifier_goes_on : (s : List ℕ) → identifier s ≡ true → all_go_on s ≡ true
unfolding goes_on
identifier_goes_on [] h = absurd (cc)
identifier_goes_on (b ∷ bs) h =
    and_from (goes_on b) (all_go_on bs) (or_left (starts b) (digit b) (and_parts (starts b) (all_go_on bs) h).0) (and_parts (starts b) (all_go_on bs) h).1

mark_goes_on : (n : ℕ) → n < 65536 → all_go_on (attempt_mark n) ≡ true
unfolding goes_on starts digit
mark_goes_on zero h = refl
mark_goes_on (suc n) h = decimal_goes_on (suc n) (omega arith)

mark_longer : (n m : ℕ) → n + 1 ≡ m → m < 65536 → length (attempt_mark n) ≤ length (attempt_mark m)
mark_longer n zero e h = absurd (omega arith)
mark_longer zero (suc m) e h = omega arith
mark_longer (suc n) (suc m) e h = omega (arith, longer (suc m) (suc n) (suc m) (omega arith) (omega arith) (omega arith))

mark_apart : (m n : ℕ) → m < 65536 → n < 65536 → attempt_mark m ≡ attempt_mark n → m ≡ n
mark_apart zero zero h k e = refl
mark_apart zero (suc n) h k e = absurd (cc)
mark_apart (suc m) zero h k e = absurd (cc)
mark_apart (suc m) (suc n) h k e = decimal_injective (suc m) (suc n) (omega arith) (omega arith) (let d : decimal (suc m) ≡ decimal (suc n) = cc in d)

property_goes_on : all_go_on (codes "property") ≡ true
unfolding goes_on starts digit
property_goes_on = refl

-- by whether the original is an identifier name
module _ (original : List ℕ) where
  told_name : identifier original ≡ true → (n : ℕ) → told original n ≡ original ++ attempt_mark n
  told_name e n = cond-true (identifier original) _ _ e

  told_number : identifier original ≡ false → (n : ℕ) → told original n ≡ codes "property" ++ decimal n
  told_number e n = cond-false (identifier original) _ _ e

  length_debug : (n : ℕ) → length (debug_name original n) ≡ length (told original n) + 4
  unfolding debug_name
  length_debug n = omega (arith, length-append (told original n) (codes "$_"))

  told_longer : (n : ℕ) → n + 1 < 65536 → length (told original n) ≤ length (told original (n + 1))
  told_longer n h = elim (cases_Bool (identifier original)) [
    | inl e ↦ omega (arith, ap length (told_name e n), ap length (told_name e (n + 1)), length-append original (attempt_mark n), length-append original (attempt_mark (n + 1)), mark_longer n (n + 1) refl h)
    | inr e ↦ omega (arith, ap length (told_number e n), ap length (told_number e (n + 1)), longer (n + 1) n (n + 1) (omega arith) (omega arith) (omega arith))
  ]

  pub debug_sooner : (n : ℕ) → n + 1 < 65536 → length (debug_name original (n + 1)) ≤ 255 → length (debug_name original n) ≤ 255
  debug_sooner n h f = omega (arith, length_debug n, length_debug (n + 1), told_longer n h)

  told_apart : (m n : ℕ) → m < 65536 → n < 65536 → told original m ≡ told original n → m ≡ n
  told_apart m n h k same = elim (cases_Bool (identifier original)) [
    | inl e ↦ mark_apart m n h k (append_cancel_left original (attempt_mark m) (attempt_mark n) (sym (told_name e m) ∙ (same ∙ told_name e n)))
    | inr e ↦ decimal_injective m n (omega arith) (omega arith) (append_cancel_left (codes "property") (decimal m) (decimal n) (sym (told_number e m) ∙ (same ∙ told_number e n)))
  ]

  debug_apart : (m n : ℕ) → m < 65536 → n < 65536 → debug_name original m ≡ debug_name original n → m ≡ n
  unfolding debug_name
  debug_apart m n h k same =
      told_apart m n h k (append_cancel_right (told original m) (told original n) (codes "$_") (append_cancel_left (codes "_$") (told original m ++ codes "$_") (told original n ++ codes "$_") same))

  told_goes_on : (n : ℕ) → n < 65536 → all_go_on (told original n) ≡ true
  told_goes_on n h = elim (cases_Bool (identifier original)) [
    | inl e ↦ subst (λ s. all_go_on s ≡ true) (sym (told_name e n)) (go_on_append original (attempt_mark n) (identifier_goes_on original e) (mark_goes_on n h))
    | inr e ↦ subst (λ s. all_go_on s ≡ true) (sym (told_number e n)) (go_on_append (codes "property") (decimal n) property_goes_on (decimal_goes_on n (omega arith)))
  ]

  debug_identifier : (n : ℕ) → n < 65536 → identifier (debug_name original n) ≡ true
  unfolding debug_name goes_on starts digit
  debug_identifier n h = go_on_append (told original n) (codes "$_") (told_goes_on n h) refl

  pub debug_lawful : Lawful (attempts (debug_name original) 255) 255
  debug_lawful = lawful_attempts (debug_name original) 255 debug_sooner debug_apart debug_identifier

-- the name of the spelling at a place of the list
pub debug_fits : (original : List ℕ) (n : ℕ) → n < 65536 → made_of (debug_name original n) ≡ as_name (slice_get (attempts (debug_name original) 255) n)
debug_fits original n h = elim (cases_lt 255 (length (debug_name original n))) [
  | inl long ↦ sym (too_long_for_a_name (debug_name original n) long) ∙ ap as_name (sym (attempt_too_long (debug_name original) 255 (debug_sooner original) n h long))
  | inr fits ↦ ap as_name (sym (attempt_fits (debug_name original) 255 (debug_sooner original) n h fits))
]

pub no_debug_name : (original : List ℕ) (n : ℕ) → 65536 ≤ n → None ≡ as_name (slice_get (attempts (debug_name original) 255) n)
no_debug_name original n h = ap as_name (sym (attempt_past (debug_name original) 255 (debug_sooner original) n h))

length_of_name : (original : List ℕ) → identifier original ≡ true → (n : ℕ) → length (debug_name original n) ≡ length original + length (attempt_mark n) + 4
length_of_name original e n = omega (arith, length_debug original n, ap length (told_name original e n), length-append original (attempt_mark n))

pub debug_edges : DebugEdges
debug_edges original e = (
  (λ h. omega (arith, attempts_go_on (debug_name original) 255 (debug_sooner original) 0 (omega arith) (omega (arith, length_of_name original e 0)), attempts_end (debug_name original) 255 (debug_sooner original) 1 (omega arith) (omega (arith, length_of_name original e 1, decimal_nonempty 1 (omega arith))))),
  (λ h. omega (arith, attempts_end (debug_name original) 255 (debug_sooner original) 0 (omega arith) (omega (arith, length_of_name original e 0)))),
)
