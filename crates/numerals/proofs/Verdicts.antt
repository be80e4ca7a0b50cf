-- What the form of a text says of it, and so each answer of the public functions.
use Rattle.std.proofs.Common.{◌≡◌, ℕ, suc, ◌<◌, Bool, true, ◌||◌, ltb, ◌⊎◌, List, length, ℤ, pos, negsuc, Some, None, Decides, Option, sym, refl, ◌∙◌, subst, inl, inr}
use Rattle.std.proofs.lemmas.Bool.{cond_both, false≢true, both_ways, ltb-true, lt-ltb, or_cases, or_left, or_right}
use Rattle.std.specs.Option.{is_some}
use Rattle.numerals.specs.declared.form.Form.{Form}
use Rattle.numerals.specs.declared.form.Form.TheVariants.{Short, Long}
use Rattle.numerals.specs.Numeral.{Number, nought, finite, Numeral, Far, HasForm, HasLongForm, Canonical, of_number, negative_nought, not_a_number, infinite, negative_infinite}
use Rattle.numerals.specs.Numeral.{Long as IsLong}
use Rattle.numerals.specs.Deciding.{text_form, Special}
use Rattle.numerals.proofs.Shapes.{far}
use Rattle.numerals.proofs.Readings.{number_form, reading, Reads, reading_right, reading_found, form_is, one_number}

-- the text has number form, of a number that is not long
pub record HasShortForm (s : List ℕ) : Type 0 where
  pub number : Number
  pub numeral : Numeral s number
  pub short : IsLong number → ⊥

abbrev Says : List ℕ → Option Form → Type 0
Says s None = HasForm s → ⊥
Says s (Some Short) = HasShortForm s
Says s (Some Long) = HasLongForm s

far_is : (n : ℤ) → far n ≡ true → Far n
far_is (pos n) h = ltb-true 300 n h
far_is (negsuc n) h = ltb-true 300 (suc n) h

is_far : (n : ℤ) → Far n → far n ≡ true
is_far (pos n) h = lt-ltb 300 n h
is_far (negsuc n) h = lt-ltb 300 (suc n) h

long_is : (ds : List ℕ) (n : ℤ) → (ltb 15 (length ds) ≡ true) ⊎ (far n ≡ true) → (15 < length ds) ⊎ Far n
long_is ds n (inl h) = inl (ltb-true 15 (length ds) h)
long_is ds n (inr h) = inr (far_is n h)

is_long : (ds : List ℕ) (n : ℤ) → (15 < length ds) ⊎ Far n → (ltb 15 (length ds) || far n) ≡ true
is_long ds n (inl h) = or_left (ltb 15 (length ds)) (far n) (lt-ltb 15 (length ds) h)
is_long ds n (inr h) = or_right (ltb 15 (length ds)) (far n) (is_far n h)

never_some : (m : Number) → ◌≡◌ {A = Option Number} None (Some m) → ⊥
never_some m e = cc

number_says : (s : List ℕ) (o : Option Number) → reading s ≡ o → Reads s o → Says s (number_form o)
number_says s None e r = λ h. never_some h.number (sym e ∙ reading_found s h.number h.numeral)
number_says s (Some nought) e r = record { number = nought; numeral = r; short = λ l. l }
number_says s (Some (finite negative ds n)) e r =
    cond_both (ltb 15 (length ds) || far n) Long Short (λ f. Says s (Some f))
    (λ h. record { number = finite negative ds n; numeral = r; long = long_is ds n (or_cases (ltb 15 (length ds)) (far n) h) })
    (λ h. record { number = finite negative ds n; numeral = r; short = λ l. both_ways (ltb 15 (length ds) || far n) h (is_long ds n l) })

says : (s : List ℕ) (f : Option Form) → f ≡ text_form s → Says s f
says s f e = subst (Says s) (sym (form_is s) ∙ sym e) (number_says s (reading s) refl (reading_right s))

module _ (s : List ℕ) where
  pub formless_has_none : None ≡ text_form s → HasForm s → ⊥
  formless_has_none e = says s None e

  pub long_is_long : Some Long ≡ text_form s → HasLongForm s
  long_is_long e = says s (Some Long) e

  pub short_not_long : Some Short ≡ text_form s → HasLongForm s → ⊥
  short_not_long e h =
      let k = says s (Some Short) e in
      k.short (subst IsLong (one_number s h.number k.number h.numeral k.numeral) h.long)

  -- what the form of the text is, by what is written of the text
  has_form : (o : Option Form) → o ≡ text_form s → HasForm s → is_some o ≡ true
  has_form None e h = absurd (formless_has_none e h)
  has_form (Some f) e h = refl

  form_has : (o : Option Form) → o ≡ text_form s → is_some o ≡ true → HasForm s
  form_has None e h = absurd (false≢true h)
  form_has (Some Short) e h = let k = says s (Some Short) e in record { number = k.number; numeral = k.numeral }
  form_has (Some Long) e h = let k = says s (Some Long) e in record { number = k.number; numeral = k.numeral }

  long_only : (o : Option Form) → o ≡ text_form s → HasLongForm s → o ≡ Some Long
  long_only None e h = absurd (formless_has_none e (record { number = h.number; numeral = h.numeral }))
  long_only (Some Short) e h = absurd (short_not_long e h)
  long_only (Some Long) e h = refl

  short_only : (o : Option Form) → o ≡ text_form s → HasShortForm s → o ≡ Some Short
  short_only None e h = absurd (formless_has_none e (record { number = h.number; numeral = h.numeral }))
  short_only (Some Short) e h = refl
  short_only (Some Long) e h =
      let k = says s (Some Long) e in
      absurd (h.short (subst IsLong (one_number s k.number h.number k.numeral h.numeral) k.long))

  special_canonical : Special s → Canonical s
  special_canonical (inl e) = negative_nought e
  special_canonical (inr (inl e)) = not_a_number e
  special_canonical (inr (inr (inl e))) = infinite e
  special_canonical (inr (inr (inr e))) = negative_infinite e

  -- without a short form, a canonical text is a special one
  canonical_special : (HasShortForm s → ⊥) → Canonical s → Special s
  canonical_special none (of_number m h l) = absurd (none (record { number = m; numeral = h; short = l }))
  canonical_special none (negative_nought e) = inl e
  canonical_special none (not_a_number e) = inr (inl e)
  canonical_special none (infinite e) = inr (inr (inl e))
  canonical_special none (negative_infinite e) = inr (inr (inr e))

  module _ (o : Option Form) (e : o ≡ text_form s) where
    pub form_decides : Decides (is_some o) (HasForm s)
    form_decides = (form_has o e, has_form o e)

    pub long_decides : (r : Bool) → Decides r (o ≡ Some Long) → Decides r (HasLongForm s)
    long_decides r d = (λ h. long_is_long (sym (d.0 h) ∙ e), λ h. d.1 (long_only o e h))

    pub short_canonical : o ≡ Some Short → Canonical s
    short_canonical h = let k = says s (Some Short) (sym h ∙ e) in of_number k.number k.numeral k.short

    pub other_canonical : (r : Bool) → (o ≡ Some Short → ⊥) → Decides r (Special s) → Decides r (Canonical s)
    other_canonical r n d =
        (λ h. special_canonical (d.0 h), λ h. d.1 (canonical_special (λ k. n (short_only o e k)) h))
