-- A name is made by writing its bytes over zeros.
use Rattle.std.proofs.Common.{◌≡◌, ℕ, ◌+◌, ◌-◌, ◌<◌, ◌≤◌, leb, List, [], ◌++◌, length, take, drop, replicate, Some, None, Option, sym, refl, ap, ◌∙◌, inl, inr, append_assoc, arith, length-append}
use borrow.Rule.Slice.PartMut.{put_mid}
use Rattle.std.proofs.lemmas.List.{append-nil, drop_all, drop_at, drop-replicate, length-replicate, take_at, take-replicate}
use Rattle.std.proofs.lemmas.Bool.{le-leb, lt-leb, cases_lt, cond-true, cond-false}
use Rattle.names.specs.declared.name.Name.{Name}
use Rattle.names.specs.Names.{bytes_of, made_of}

pub filled_is_made : (text bytes : List ℕ) → bytes ≡ text ++ drop (length text) (replicate 255 0) → length text ≤ 255 → ◌≡◌ {A = Option Name} (Some (record { bytes = bytes; len = length text })) (made_of text)
filled_is_made text bytes f h = rw (f, drop-replicate {X = ℕ} (length text) 255 0, le-leb (length text) 255 h) refl

pub too_long_for_a_name : (text : List ℕ) → 255 < length text → ◌≡◌ {A = Option Name} None (made_of text)
too_long_for_a_name text h = rw (lt-leb (length text) 255 h) refl

-- a second text is written behind a first, over zeros
module _ (front text : List ℕ) (len limit : ℕ) (long : length front ≡ len) (fits : len + length text ≤ limit) where
  over_zeros : text ++ drop (length text) (take (limit - len) (drop len (front ++ replicate (limit - len) 0))) ≡ text ++ replicate (limit - (len + length text)) 0
  over_zeros =
      let left : limit - len - length text ≡ limit - (len + length text) = omega arith in
      rw (drop_at front (replicate (limit - len) 0) len long, take-replicate {X = ℕ} (limit - len) (limit - len) 0 (omega arith), drop-replicate {X = ℕ} (length text) (limit - len) 0, left) refl

  behind : (first second : List ℕ) → first ≡ front ++ replicate (limit - len) 0 → second ≡ text ++ drop (length text) (take (limit - len) (drop len first)) → put_mid len (limit - len) first second ≡ (front ++ text) ++ replicate (limit - (len + length text)) 0
  behind first second f g =
      let none : drop {A = ℕ} (limit - len) (replicate (limit - len) 0) ≡ [] = drop_all (limit - len) (replicate (limit - len) 0) (omega (arith, length-replicate {A = ℕ} (limit - len) 0)) in
      rw (g, f, over_zeros, take_at front (replicate (limit - len) 0) len long, drop_at front (replicate (limit - len) 0) len long, none, append-nil (text ++ replicate (limit - (len + length text)) 0))
      (sym (append_assoc front text (replicate (limit - (len + length text)) 0)))

pub followed_is_made : (front text first second : List ℕ) (len : ℕ) → length front ≡ len → len + length text ≤ 255 → first ≡ front ++ drop (length front) (replicate 255 0) → second ≡ text ++ drop (length text) (take (255 - len) (drop len first)) → ◌≡◌ {A = Option Name} (Some (record { bytes = put_mid len (255 - len) first second; len = len + length text })) (made_of (front ++ text))
followed_is_made front text first second len long fits f g =
    let f' : first ≡ front ++ replicate (255 - len) 0 = f ∙ (rw (drop-replicate {X = ℕ} (length front) 255 0, long) refl) in
    let sum : length (front ++ text) ≡ len + length text = length-append front text ∙ ap (λ n. n + length text) long in
    rw (behind front text len 255 long fits first second f' g, sum, le-leb (len + length text) 255 fits) refl

-- a name that is made has the bytes that it is made of
pub made_has_the_bytes : (text : List ℕ) (n : Name) → made_of text ≡ Some n → bytes_of n ≡ text
made_has_the_bytes text n e = elim (cases_lt 255 (length text)) [
  | inl h ↦ let none : ◌≡◌ {A = Option Name} None (Some n) = sym (cond-false (leb (length text) 255) _ _ (lt-leb (length text) 255 h)) ∙ e in
      absurd (let z : ◌≡◌ {A = ℕ} 0 1 = cc in omega arith)
  | inr h ↦ let some : ◌≡◌ {A = Option Name} (Some (record { bytes = text ++ replicate (255 - length text) 0; len = length text })) (Some n) = sym (cond-true (leb (length text) 255) _ _ (le-leb (length text) 255 h)) ∙ e in
      let same : record { bytes = text ++ replicate (255 - length text) 0; len = length text } ≡ n = cc in
      ap bytes_of (sym same) ∙ take_at text (replicate (255 - length text) 0) (length text) refl
]
