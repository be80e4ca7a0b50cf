-- Each number is written by just one list of digits, and by at most three below 65,536.
use Rattle.std.specs.Prelude.{◌≡◌, ℕ, zero, suc, ◌+◌, ◌*◌, ◌/◌, ◌%◌, ◌<◌, ◌≤◌, List, [], ◌∷◌, refl}
use Rattle.std.proofs.Common.{sym, ◌∙◌, arith}
use Rattle.std.proofs.Math.Path.{ap}
use Rattle.spellers.specs.Numbering.{later_digits, digits, later_number, AllBelow, Writes}

later_count : (most left : ℕ) → left ≤ most → later_number (later_digits most left) ≡ left
later_count most zero h = refl
later_count zero (suc left) h = absurd (omega arith)
later_count (suc most) (suc left) h =
    let ih = later_count most (left / 64) (omega arith) in omega arith

later_below : (most left : ℕ) → AllBelow 64 (later_digits most left)
later_below most zero = tt
later_below zero (suc left) = tt
later_below (suc most) (suc left) = (omega arith, later_below most (left / 64))

pub digits_write : (n : ℕ) → Writes (digits n) n
unfolding digits
digits_write n = (omega arith, later_below n (n / 54), (let e = later_count n (n / 54) (omega arith) in omega arith))

one_more : (most left d rest : ℕ) → left % 64 ≡ d → left / 64 ≡ rest → later_digits (suc most) (suc left) ≡ d ∷ later_digits most rest
one_more most left d rest e f = λ i. e i ∷ later_digits most (f i)

later_unique : (most left : ℕ) (ds : List ℕ) → AllBelow 64 ds → later_number ds ≡ left → left ≤ most → ds ≡ later_digits most left
later_unique most zero [] h e k = refl
later_unique most (suc left) [] h e k = absurd (omega arith)
later_unique most zero (d ∷ ds) h e k = absurd (omega arith)
later_unique zero (suc left) (d ∷ ds) h e k = absurd (omega arith)
later_unique (suc most) (suc left) (d ∷ ds) h e k =
    let small : d < 64 = h.0 in
    let ih = later_unique most (left / 64) ds h.1 (omega arith) (omega arith) in
    ap (λ rest. d ∷ rest) ih ∙ sym (one_more most left d (left / 64) (omega arith) refl)

-- digits that write a number are those of the number
pub digits_unique : (ds : List ℕ) (n : ℕ) → Writes ds n → ds ≡ digits n
unfolding digits
digits_unique [] n w = absurd w
digits_unique (d ∷ ds) n w =
    let small : d < 54 = w.0 in
    let sum : n ≡ d + 54 * later_number ds = w.2 in
    let first : d ≡ n % 54 = omega arith in
    let later = later_unique n (n / 54) ds w.1 (omega arith) (omega arith) in
    λ i. first i ∷ later i

number : List ℕ → ℕ
number [] = 0
number (d ∷ ds) = d + 54 * later_number ds

number_written : (ds : List ℕ) (n : ℕ) → Writes ds n → n ≡ number ds
unfolding number
number_written [] n w = absurd w
number_written (d ∷ ds) n w = w.2

-- numbers with the same digits are the same
pub same_number : (m n : ℕ) → digits m ≡ digits n → m ≡ n
same_number m n e = number_written (digits m) m (digits_write m) ∙ (ap number e ∙ sym (number_written (digits n) n (digits_write n)))

-- the digits of a number, according to what is left after each
module _ (n : ℕ) where
  pub one_digit : n / 54 ≡ 0 → digits n ≡ (n % 54) ∷ []
  unfolding digits
  one_digit e = ap (λ left. (n % 54) ∷ later_digits n left) e

  pub two_digits : (left : ℕ) → n / 54 ≡ suc left → left / 64 ≡ 0 → digits n ≡ (n % 54) ∷ ((left % 64) ∷ [])
  two_digits left e f = sym (digits_unique ((n % 54) ∷ ((left % 64) ∷ [])) n (omega arith, (omega arith, tt), omega arith))

  pub three_digits : (left rest : ℕ) → n / 54 ≡ suc left → left / 64 ≡ suc rest → rest / 64 ≡ 0 → digits n ≡ (n % 54) ∷ ((left % 64) ∷ ((rest % 64) ∷ []))
  three_digits left rest e f g = sym (digits_unique ((n % 54) ∷ ((left % 64) ∷ ((rest % 64) ∷ []))) n (omega arith, (omega arith, (omega arith, tt)), omega arith))
