-- A short spelling that is made letter by letter.
use Rattle.std.proofs.Common.{◌≡◌, ℕ, zero, suc, ◌+◌, ◌-◌, ◌/◌, ◌%◌, ◌<◌, ◌≤◌, List, [], ◌∷◌, ◌++◌, map, length, take, drop, set, replicate, sym, refl, ap, ◌∙◌, append-nil, append_assoc, length-append, arith}
use Rattle.std.proofs.lemmas.List.{length-set, length-take-le, take_more_set, drop-set-lt, drop-drop, drop-replicate, take-append-drop}
use Rattle.spellers.specs.Numbering.{letter, later_digits, digits, short, three_bytes}
use Rattle.spellers.specs.Shortening.{short_fits}

-- how many digits are asked for does not matter where there are enough
enough : (a b left : ℕ) → left ≤ a → left ≤ b → later_digits a left ≡ later_digits b left
enough a b zero h k = refl
enough zero b (suc left) h k = absurd (omega arith)
enough (suc a) zero (suc left) h k = absurd (omega arith)
enough (suc a) (suc b) (suc left) h k = ap (λ ds. (left % 64) ∷ ds) (enough a b (left / 64) (omega arith) (omega arith))

-- the letters of what is left
pub letters : ℕ → List ℕ
letters left = map letter (later_digits left left)

letters_more : (left : ℕ) → 0 < left → letters left ≡ letter ((left - 1) % 64) ∷ letters ((left - 1) / 64)
unfolding letters
letters_more zero h = absurd (omega arith)
letters_more (suc m) h =
    let e : suc m - 1 ≡ m = omega arith in
    rw (e, enough m (m / 64) (m / 64) (omega arith) (omega arith)) refl

-- the first bytes are the letters so far, what is left gives the others, and there are zeros in their places
pub record Spelling (n : ℕ) (bytes : List ℕ) (len left : ℕ) : Type 0 where
  pub small : n < 65536
  pub three : length bytes ≡ 3
  pub inside : len ≤ 3
  pub spelled : take len bytes ++ letters left ≡ short n
  pub zeros : drop len bytes ≡ replicate (3 - len) 0

pub spelling_begins : (n x : ℕ) → n < 65536 → x ≡ letter (n % 54) → Spelling n (x ∷ (0 ∷ (0 ∷ []))) 1 (n / 54)
unfolding letters short digits
spelling_begins n x h e =
    record {
      small = h;
      three = refl;
      inside = omega arith;
      spelled = rw (e, enough (n / 54) n (n / 54) (omega arith) (omega arith)) refl;
      zeros = refl;
    }

module _ (n : ℕ) (bytes : List ℕ) (len left : ℕ) (s : Spelling n bytes len left) where
  pub spelling_room : 0 < left → len < 3
  spelling_room h =
      let t = ap length s.spelled in
      omega (arith, s.small, s.three, s.inside, t, ap length (letters_more left h), length-append (take len bytes) (letters left), length-take-le len bytes (omega (arith, s.three, s.inside)), short_fits n s.small)

  pub spelling_more : (x : ℕ) → 0 < left → x ≡ letter ((left - 1) % 64) → Spelling n (set bytes len x) (len + 1) ((left - 1) / 64)
  spelling_more x h e =
      let room = spelling_room h in
      record {
        small = s.small;
        three = length-set bytes len x ∙ s.three;
        inside = omega arith;
        spelled =
            rw (take_more_set bytes len x (omega (arith, s.three)), e)
            (append_assoc (take len bytes) (letter ((left - 1) % 64) ∷ []) (letters ((left - 1) / 64)) ∙ (ap (λ t. take len bytes ++ t) (sym (letters_more left h)) ∙ s.spelled));
        zeros =
            drop-set-lt (len + 1) bytes len x (omega arith)
            ∙ (sym (drop-drop 1 len bytes) ∙ (ap (drop 1) s.zeros ∙ drop-replicate 1 (3 - len) 0) ∙ ap (λ k. replicate k 0) (let k : 3 - len - 1 ≡ 3 - (len + 1) = omega arith in k));
      }

pub spelling_ends : (n : ℕ) (bytes : List ℕ) (len left : ℕ) → Spelling n bytes len left → left ≤ 0 → record { bytes = bytes; len = len } ≡ three_bytes (short n)
unfolding letters
spelling_ends n bytes len (suc left) s h = absurd (omega arith)
spelling_ends n bytes len zero s h =
    let front : short n ≡ take len bytes = sym s.spelled ∙ append-nil (take len bytes) in
    let count : length (short n) ≡ len = ap length front ∙ length-take-le len bytes (omega (arith, s.three, s.inside)) in
    let whole : bytes ≡ short n ++ replicate (3 - length (short n)) 0 = sym (take-append-drop len bytes) ∙ (ap (λ t. t ++ drop len bytes) (sym front) ∙ (ap (λ t. short n ++ t) s.zeros ∙ ap (λ k. short n ++ replicate (3 - k) 0) (sym count))) in
    λ i. record { bytes = whole i; len = sym count i }
