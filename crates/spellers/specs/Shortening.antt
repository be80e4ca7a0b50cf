-- The laws of short spellings.
use Rattle.std.specs.Prelude.{◌≡◌, ℕ, zero, suc, ◌+◌, ◌-◌, ◌/◌, ◌<◌, ◌≤◌, true, List, [], ◌∷◌, map, length, take, replicate, None}
use Rattle.std.proofs.Math.Path.{refl}
use Rattle.std.proofs.Common.{arith}
use Rattle.names.specs.Identifiers.{identifier}
use Rattle.names.specs.Names.{made_of}
use Rattle.std.specs.List.{slice_get}
use Rattle.std.proofs.lemmas.List.{take_at}
use Rattle.std.proofs.lemmas.Bool.{and_from}
use Rattle.spellers.specs.Attempts.{attempts}
use Rattle.spellers.specs.declared.short.ShortSpelling.{ShortSpelling}
use Rattle.spellers.specs.Lawful.{Lawful, as_name}
use Rattle.spellers.specs.Numbering.{letter, digits, short, three_bytes, AllBelow, ShortEdges, Writes, WrittenOnce}
use Rattle.spellers.specs.Attempting.{attempt_fits, attempt_past, attempts_go_on, few_attempts, lawful_attempts}
use Rattle.spellers.specs.Digits.{digits_unique, digits_write, same_number, one_digit, two_digits, three_digits}
use Rattle.spellers.specs.Lettering.{letter_starts, letters_go_on, same_digits}

written_below : (ds : List ℕ) (n : ℕ) → Writes ds n → AllBelow 64 ds
written_below [] n w = tt
written_below (d ∷ ds) n w = let small : d < 54 = w.0 in (omega arith, w.1)

written_identifier : (ds : List ℕ) (n : ℕ) → Writes ds n → identifier (map letter ds) ≡ true
written_identifier [] n w = absurd w
written_identifier (d ∷ ds) n w = and_from _ _ (letter_starts d w.0) (letters_go_on ds w.1)

pub short_identifier : (n : ℕ) → identifier (short n) ≡ true
unfolding short
short_identifier n = written_identifier (digits n) n (digits_write n)

-- no two numbers are spelled alike
pub short_apart : (m n : ℕ) → short m ≡ short n → m ≡ n
unfolding short
short_apart m n e =
    same_number m n
    (same_digits (digits m) (digits n) (written_below (digits m) m (digits_write m)) (written_below (digits n) n (digits_write n)) e)

-- the three shapes of a spelling below 65,536, by what is left after its first digit and after its second
data Shape (n : ℕ) : Type 0 where
  one : n / 54 ≡ 0 → Shape n
  two : (left : ℕ) → n / 54 ≡ suc left → left / 64 ≡ 0 → Shape n
  three : (left rest : ℕ) → n / 54 ≡ suc left → left / 64 ≡ suc rest → rest / 64 ≡ 0 → Shape n

two_or_three : (n left more : ℕ) → n < 65536 → n / 54 ≡ suc left → left / 64 ≡ more → Shape n
two_or_three n left zero h e f = two left e f
two_or_three n left (suc rest) h e f = three left rest e f (omega arith)

one_or_more : (n left : ℕ) → n < 65536 → n / 54 ≡ left → Shape n
one_or_more n zero h e = one e
one_or_more n (suc left) h e = two_or_three n left (left / 64) h e refl

short_by_shape : (n : ℕ) → Shape n → length (short n) ≤ 3
unfolding short
short_by_shape n (one e) = rw (one_digit n e) (omega arith)
short_by_shape n (two left e f) = rw (two_digits n left e f) (omega arith)
short_by_shape n (three left rest e f g) = rw (three_digits n left rest e f g) (omega arith)

pub short_fits : (n : ℕ) → n < 65536 → length (short n) ≤ 3
short_fits n h = short_by_shape n (one_or_more n (n / 54) h refl)

pub short_sooner : (j : ℕ) → j + 1 < 65536 → length (short (j + 1)) ≤ 3 → length (short j) ≤ 3
short_sooner j h f = short_fits j (omega arith)

pub short_lawful : Lawful (attempts short 3) 3
short_lawful = lawful_attempts short 3 short_sooner (λ m n _ _ e. short_apart m n e) (λ n _. short_identifier n)

pub short_full : length (attempts short 3) ≡ 65536
short_full = omega (arith, few_attempts short 3 short_sooner, attempts_go_on short 3 short_sooner 65535 (omega arith) (short_fits 65535 (omega arith)))

-- what was promised of all short spellings
pub written_once : WrittenOnce
written_once n = (digits_write n, λ ds w. digits_unique ds n w)

pub short_edges : ShortEdges
unfolding short digits letter
short_edges = (refl, refl, refl, refl)

-- the name of the spelling at a place of the list
pub short_name : (n : ℕ) (text : List ℕ) → n < 65536 → text ≡ short n → made_of text ≡ as_name (slice_get (attempts short 3) n)
short_name n text h e = rw (attempt_fits short 3 short_sooner n h (short_fits n h), e) refl

pub no_short_name : (n : ℕ) → 65536 ≤ n → None ≡ as_name (slice_get (attempts short 3) n)
no_short_name n h = rw (attempt_past short 3 short_sooner n h) refl

-- the bytes of three bytes are what they were made of
pub bytes_of_three_bytes : (spelling : ShortSpelling) (s : List ℕ) → spelling ≡ three_bytes s → take spelling.len spelling.bytes ≡ s
bytes_of_three_bytes spelling s e = rw (e) (take_at s (replicate (3 - length s) 0) (length s) refl)
