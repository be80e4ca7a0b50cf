-- Letters tell digits apart, and spell identifier names.
use Rattle.std.specs.Prelude.{◌≡◌, ℕ, suc, ◌<◌, true, cond, List, [], ◌∷◌, map, ◌==◌, nat_eq, refl}
use Rattle.std.proofs.Common.{sym, ap, ◌∙◌}
use Rattle.std.proofs.lemmas.Bool.{agree_below_at, eqb-true}
use Rattle.names.specs.Identifiers.{starts, digit, goes_on, all_go_on}
use Rattle.spellers.specs.Numbering.{alphabet, letter, AllBelow}

-- where a byte first stands in a list
abbrev place_of : ℕ → List ℕ → ℕ
place_of b [] = 0
place_of b (x ∷ xs) = cond (b == x) 0 (suc (place_of b xs))

-- the digit that a letter stands for
abbrev digit_of : ℕ → ℕ
digit_of b = place_of b alphabet

digit_of_letter : (d : ℕ) → d < 64 → digit_of (letter d) ≡ d
unfolding letter
digit_of_letter d h = eqb-true (digit_of (letter d)) d (agree_below_at (λ k. nat_eq (digit_of (letter k)) k) (λ _. true) 64 d refl h)

pub letter_starts : (d : ℕ) → d < 54 → starts (letter d) ≡ true
unfolding letter starts
letter_starts d h = agree_below_at (λ k. starts (letter k)) (λ _. true) 54 d refl h

letter_goes_on : (d : ℕ) → d < 64 → goes_on (letter d) ≡ true
unfolding letter goes_on starts digit
letter_goes_on d h = agree_below_at (λ k. goes_on (letter k)) (λ _. true) 64 d refl h

pub letters_go_on : (ds : List ℕ) → AllBelow 64 ds → all_go_on (map letter ds) ≡ true
letters_go_on [] h = refl
letters_go_on (d ∷ ds) h = rw (letter_goes_on d h.0) (letters_go_on ds h.1)

digits_of_letters : (ds : List ℕ) → AllBelow 64 ds → map digit_of (map letter ds) ≡ ds
digits_of_letters [] h = refl
digits_of_letters (d ∷ ds) h = λ i. digit_of_letter d h.0 i ∷ digits_of_letters ds h.1 i

-- digits that are spelled alike are the same
pub same_digits : (ds es : List ℕ) → AllBelow 64 ds → AllBelow 64 es → map letter ds ≡ map letter es → ds ≡ es
same_digits ds es h k e = sym (digits_of_letters ds h) ∙ (ap (map digit_of) e ∙ digits_of_letters es k)
