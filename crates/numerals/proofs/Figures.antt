-- The figure that is found in a text is what the text is written of, and every figure is found in its text.
use Rattle.std.proofs.Common.{◌≡◌, ℕ, zero, suc, ◌+◌, ◌-◌, ◌<◌, ◌≤◌, Bool, true, false, ◌&&◌, eqb, ltb, leb, List, [], ◌∷◌, ◌++◌, length, take, drop, ℤ, pos, negsuc, Some, None, Option, sym, refl, ap, ◌∙◌, append_assoc, arith}
use Rattle.std.proofs.lemmas.List.{length-append, length-replicate, length-take-le, length-drop, take-append-drop}
use Rattle.std.proofs.lemmas.Bool.{cond-true, cond_both, and_parts, and_from, eqb-true, leb-true, leb-false, le-leb, ltb-true, ltb-false, not-false, false≢true}
use Rattle.std.specs.Int.Digits.{digits_of}
use Rattle.numerals.specs.Numeral.{spelled, zeros, positional, exponential, unsigned}
use Rattle.numerals.specs.Deciding.{trim, leading, begins, ends, value, is_lone}
use Rattle.numerals.proofs.Shapes.{Shape, whole, fraction, power, fraction_power, misshapen, shape, Figure, below, when, power_figure, fraction_figure, figure}
use Rattle.numerals.proofs.Cutting.{AllDigits, Cut, shape_cut, shape_whole, shape_fraction, shape_power, shape_fraction_power}
use Rattle.numerals.proofs.Zeros.{digits_left, digits_right, digits_append, digits_zeros, begins_some, ends_some, begins_append, ends_append, trim_at, trim_split, begins_trim, ends_trim, leading_split, leading_at, drop_leading, begins_leading, ends_leading}
use Rattle.numerals.proofs.Exponents.{exponent_digits, exponent_begins, exponent_value, value_exponent}
use Rattle.numerals.proofs.Texts.{unsigned_whole, unsigned_parted, unsigned_below, unsigned_plus, unsigned_minus, exponential_lone, exponential_more}

-- bytes of digits that neither begin nor end with `0`
pub record Right (ds : List ℕ) : Type 0 where
  pub digits : AllDigits ds
  pub first : begins ds ≡ true
  pub final : ends ds ≡ true

-- the text is written of the figure, if there is one
abbrev pub RightFor : List ℕ → Option Figure → Type 0
RightFor s None = Unit {0}
RightFor s (Some f) = Right f.digits × (s ≡ unsigned f.digits f.place)

when_right : (s : List ℕ) (b : Bool) (f : Figure) → (b ≡ true → RightFor s (Some f)) → RightFor s (when b f)
when_right s true f h = h refl
when_right s false f h = tt

power_right : (s ds : List ℕ) (c : ℕ) (e : List ℕ) → Right ds → AllDigits e → ((n : ℕ) → spelled (digits_of 10 n) ≡ e → s ≡ exponential ds c n) → RightFor s (power_figure ds c e)
power_right s ds c e r d p =
    cond_both (eqb c 43) _ _ (RightFor s)
    (λ q. when_right s (begins e && leb 21 (value e)) _ (λ h.
    let b = and_parts (begins e) (leb 21 (value e)) h in
    (r, p (value e) (value_exponent e d b.0) ∙ (ap (λ x. exponential ds x (value e)) (eqb-true c 43 q) ∙ sym (unsigned_plus ds (value e) (leb-true 21 (value e) b.1))))))
    (λ _. when_right s (eqb c 45 && (begins e && leb 7 (value e))) _ (λ h.
    let a = and_parts (eqb c 45) (begins e && leb 7 (value e)) h in
    let b = and_parts (begins e) (leb 7 (value e)) a.1 in
    (r, p (value e) (value_exponent e d b.0) ∙ (ap (λ x. exponential ds x (value e)) (eqb-true c 45 a.0) ∙ sym (unsigned_minus ds (value e) (leb-true 7 (value e) b.1))))))

whole_right : (s a : List ℕ) → AllDigits a → s ≡ a → RightFor s (figure (whole a))
whole_right s a d p =
    when_right s (begins a && leb (length a) 21) _ (λ h.
    let b = and_parts (begins a) (leb (length a) 21) h in
    let t = trim_split a in
    let l : length a ≡ length (trim a) + t.0 = ap length t.1 ∙ (length-append (trim a) (zeros t.0) ∙ ap (λ k. length (trim a) + k) (length-replicate t.0 48)) in
    let r : Right (trim a) = record { digits = digits_left (trim a) (zeros t.0) (rw t.1 at d); first = begins_trim a b.0; final = ends_trim a b.0 } in
    (r, p ∙ (t.1 ∙ sym (unsigned_whole (trim a) (length a) t.0 l (begins_some a b.0) (leb-true (length a) 21 b.1)))))

-- a lone digit that is not a beginning is `0`
lone_nought : (a : List ℕ) → begins a ≡ false → eqb (length a) 1 ≡ true → a ≡ 48 ∷ []
lone_nought [] b e = absurd (false≢true e)
lone_nought (x ∷ []) b e = ap (λ y. y ∷ []) (eqb-true x 48 (not-false (eqb x 48) b))
lone_nought (x ∷ y ∷ a) b e = absurd (omega (arith, eqb-true (length (x ∷ y ∷ a)) 1 e))

fraction_right : (s a b : List ℕ) → AllDigits a → AllDigits b → s ≡ a ++ (46 ∷ b) → ends b ≡ true → RightFor s (fraction_figure a b)
fraction_right s a b d f p z =
    cond_both (begins a) _ _ (RightFor s)
    (λ q. when_right s (leb (length a) 21) _ (λ h.
    let r : Right (a ++ b) = record { digits = digits_append a b d f; first = begins_append a b q; final = ends_append a b (ends_some b z) ∙ z } in
    (r, p ∙ sym (unsigned_parted a b (length a) refl (begins_some a q) (leb-true (length a) 21 h) (ends_some b z)))))
    (λ q. when_right s (eqb (length a) 1 && leb (leading b) 5) _ (λ h.
    let c = and_parts (eqb (length a) 1) (leb (leading b) 5) h in
    let r : Right (drop (leading b) b) = record { digits = digits_right (zeros (leading b)) (drop (leading b) b) (rw (leading_split b) at f); first = begins_leading b z; final = ends_leading b z } in (
      r,
      p ∙ (ap (λ t. t ++ (46 ∷ b)) (lone_nought a q c.0)
          ∙ (ap (λ t. 48 ∷ 46 ∷ t) (leading_split b) ∙ sym (unsigned_below (drop (leading b) b) (leading b) (leb-true (leading b) 5 c.1)))),
    )))

-- one digit also ends with it
lone_ends : (a : List ℕ) → begins a ≡ true → length a ≡ 1 → ends a ≡ true
lone_ends [] b e = b
lone_ends (x ∷ []) b e = b
lone_ends (x ∷ y ∷ a) b e = absurd (omega arith)

lone_parts : (a : List ℕ) → is_lone a ≡ true → (begins a ≡ true) × (length a ≡ 1)
lone_parts a h = let p = and_parts (begins a) (eqb (length a) 1) h in (p.0, eqb-true (length a) 1 p.1)

pub figure_right : (s : List ℕ) (sh : Shape) → Cut s sh → RightFor s (figure sh)
figure_right s (whole a) (d, p) = whole_right s a d p
figure_right s (fraction a b) (d, f, p) =
    cond_both (ends b) _ _ (RightFor s) (fraction_right s a b d f p) (λ _. tt)
figure_right s (power a c e) (d, f, p) =
    cond_both (is_lone a) _ _ (RightFor s)
    (λ h. let l = lone_parts a h in
    power_right s a c e (record { digits = d; first = l.0; final = lone_ends a l.0 l.1 }) f
    (λ n q. p ∙ (ap (λ t. a ++ (101 ∷ c ∷ t)) (sym q) ∙ sym (exponential_lone a c n l.1))))
    (λ _. tt)
figure_right s (fraction_power a b c e) (d, f, g, p) =
    cond_both (is_lone a && ends b) _ _ (RightFor s)
    (λ h. let k = and_parts (is_lone a) (ends b) h in
    let l = lone_parts a k.0 in
    let n = ends_some b k.1 in
    power_right s (a ++ b) c e
    (record { digits = digits_append a b d f; first = begins_append a b l.0; final = ends_append a b n ∙ k.1 }) g
    (λ m q. p ∙ (ap (λ t. a ++ (46 ∷ (b ++ (101 ∷ c ∷ t)))) (sym q)
    ∙ (sym (append_assoc a (46 ∷ b) (101 ∷ c ∷ spelled (digits_of 10 m))) ∙ sym (exponential_more a b c m l.1 n)))))
    (λ _. tt)
figure_right s misshapen t = tt

-- the figure found in a text is what the text is written of
pub found_right : (s : List ℕ) → RightFor s (figure (shape s))
found_right s = figure_right s (shape s) (shape_cut s)

-- Every figure is found in its text.
abbrev Found : List ℕ → List ℕ → ℤ → Type 0
Found s ds n = figure (shape s) ≡ Some (record { digits = ds; place = n })

when_at : (b : Bool) (f : Figure) → b ≡ true → when b f ≡ Some f
when_at b f e = rw e refl

module _ (ds : List ℕ) (r : Right ds) where
  found_whole : (m n : ℕ) → m ≡ length ds + n → m ≤ 21 → Found (ds ++ zeros n) ds (pos m)
  found_whole m n e h =
      let l : length (ds ++ zeros n) ≡ m = length-append ds (zeros n) ∙ (ap (λ k. length ds + k) (length-replicate n 48) ∙ sym e) in
      let b : (begins (ds ++ zeros n) && leb (length (ds ++ zeros n)) 21) ≡ true = and_from _ _ (begins_append ds (zeros n) r.first) (le-leb _ _ (omega arith)) in
      ap figure (shape_whole (ds ++ zeros n) (digits_append ds (zeros n) r.digits (digits_zeros n)))
      ∙ (when_at _ _ b ∙ (λ i. Some (record { digits = trim_at ds n r.final i; place = pos (l i) })))

  found_below : (z : ℕ) → z ≤ 5 → Found (48 ∷ 46 ∷ (zeros z ++ ds)) ds (below z)
  found_below z h =
      let l = leading_at z ds r.first in
      let e : ends (zeros z ++ ds) ≡ true = ends_append (zeros z) ds (begins_some ds r.first) ∙ r.final in
      let b : leb (leading (zeros z ++ ds)) 5 ≡ true = le-leb _ _ (omega arith) in
      ap figure (shape_fraction (48 ∷ []) (zeros z ++ ds) (refl, tt) (digits_append (zeros z) ds (digits_zeros z) r.digits))
      ∙ (cond-true (ends (zeros z ++ ds)) _ _ e
      ∙ (when_at _ _ b ∙ (ap (λ k. Some (record { digits = drop k (zeros z ++ ds); place = below k })) l
      ∙ ap (λ t. Some (record { digits = t; place = below z })) (drop_leading z ds))))

  found_plus : (n : ℕ) → 21 ≤ n → power_figure ds 43 (spelled (digits_of 10 n)) ≡ Some (record { digits = ds; place = pos (suc n) })
  found_plus n h =
      let v = exponent_value n in
      when_at _ _ (and_from _ _ (exponent_begins n (omega arith)) (le-leb 21 (value (spelled (digits_of 10 n))) (omega arith)))
      ∙ ap (λ k. Some (record { digits = ds; place = pos (suc k) })) v

  found_minus : (n : ℕ) → 7 ≤ n → power_figure ds 45 (spelled (digits_of 10 n)) ≡ Some (record { digits = ds; place = negsuc (n - 2) })
  found_minus n h =
      let v = exponent_value n in
      when_at _ _ (and_from _ _ (exponent_begins n (omega arith)) (le-leb 7 (value (spelled (digits_of 10 n))) (omega arith)))
      ∙ ap (λ k. Some (record { digits = ds; place = negsuc (k - 2) })) v

begins_left : (a b : List ℕ) → 0 < length a → begins (a ++ b) ≡ begins a
begins_left [] b h = absurd (omega arith)
begins_left (x ∷ a) b h = refl

found_parted : (a b : List ℕ) → Right (a ++ b) → 0 < length a → 0 < length b → length a ≤ 21 → Found (a ++ (46 ∷ b)) (a ++ b) (pos (length a))
found_parted a b r p q h =
    ap figure (shape_fraction a b (digits_left a b r.digits) (digits_right a b r.digits))
    ∙ (cond-true (ends b) _ _ (sym (ends_append a b q) ∙ r.final)
    ∙ (cond-true (begins a) _ _ (sym (begins_left a b p) ∙ r.first) ∙ when_at _ _ (le-leb (length a) 21 h)))

found_exponential : (ds : List ℕ) (c n : ℕ) (f : Figure) → Right ds → power_figure ds c (spelled (digits_of 10 n)) ≡ Some f → figure (shape (exponential ds c n)) ≡ Some f
found_exponential [] c n f r e = absurd (false≢true r.first)
found_exponential (x ∷ []) c n f r e =
    ap (λ s. figure (shape s)) (exponential_lone (x ∷ []) c n refl)
    ∙ (ap figure (shape_power (x ∷ []) c (spelled (digits_of 10 n)) r.digits (exponent_digits n))
    ∙ (cond-true (is_lone (x ∷ [])) _ _ (and_from _ _ r.first refl) ∙ e))
found_exponential (x ∷ y ∷ b) c n f r e =
    ap (λ s. figure (shape s)) (exponential_more (x ∷ []) (y ∷ b) c n refl (omega arith))
    ∙ (ap figure (shape_fraction_power (x ∷ []) (y ∷ b) c (spelled (digits_of 10 n)) (r.digits.0, tt) r.digits.1 (exponent_digits n))
    ∙ (cond-true (is_lone (x ∷ []) && ends (y ∷ b)) _ _ (and_from _ _ (and_from _ _ r.first refl) r.final) ∙ e))

positional_found : (ds : List ℕ) (n : ℕ) → Right ds → 0 < n → n ≤ 21 → Found (positional ds n) ds (pos n)
positional_found ds n r p h =
    cond_both (leb (length ds) n) _ _ (λ s. Found s ds (pos n))
    (λ q. found_whole ds r n (n - length ds) (omega (arith, leb-true (length ds) n q)) h)
    (λ q.
    let w : n < length ds = leb-false (length ds) n q in
    let l : length (take n ds) ≡ n = length-take-le n ds (omega arith) in
    let j = take-append-drop n ds in
    let m : 0 < length (drop n ds) = simp length-drop (omega arith) in
    let r' : Right (take n ds ++ drop n ds) = rw j r in
    found_parted (take n ds) (drop n ds) r' (omega arith) m (omega arith)
    ∙ (λ i. Some (record { digits = j i; place = pos (l i) })))

pub found : (ds : List ℕ) (n : ℤ) → Right ds → Found (unsigned ds n) ds n
found ds (pos zero) r = found_below ds r 0 (omega arith)
found ds (pos (suc n)) r =
    cond_both (leb (suc n) 21) _ _ (λ s. Found s ds (pos (suc n)))
    (λ h. positional_found ds (suc n) r (omega arith) (leb-true (suc n) 21 h))
    (λ h. found_exponential ds 43 n _ r (found_plus ds r n (omega (arith, leb-false (suc n) 21 h))))
found ds (negsuc n) r =
    cond_both (ltb (suc n) 6) _ _ (λ s. Found s ds (negsuc n))
    (λ h. found_below ds r (suc n) (omega (arith, ltb-true (suc n) 6 h)))
    (λ h.
    let e : suc (suc n) - 2 ≡ n = omega arith in
    found_exponential ds 45 (suc (suc n)) _ r
    (found_minus ds r (suc (suc n)) (omega (arith, ltb-false (suc n) 6 h)) ∙ ap (λ k. Some (record { digits = ds; place = negsuc k })) e))
