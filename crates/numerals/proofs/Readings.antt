-- The number that a text is written of, and so the form of the text.
use Rattle.std.proofs.Common.{◌≡◌, ℕ, ◌+◌, ◌-◌, Bool, true, false, cond, ◌||◌, eqb, ltb, List, [], ◌∷◌, length, Some, None, Option, sym, refl, ap, ◌∙◌, arith}
use Rattle.std.proofs.lemmas.List.{length-map}
use Rattle.std.proofs.lemmas.Bool.{cond_both, cond-false, and_parts, and_right, eqb-true, ne_eqb, eqb-false, not-true, not_from_false, false≢true}
use Rattle.numerals.specs.declared.form.Form.{Form}
use Rattle.numerals.specs.declared.form.Form.TheVariants.{Short, Long}
use Rattle.numerals.specs.Numeral.{last, spelled, unsigned, signed, Number, nought, finite, Shortest, Numeral, OneNumber}
use Rattle.numerals.specs.Deciding.{ends, unsigned_form, signed_form, is_nought, text_form}
use Rattle.numerals.proofs.Shapes.{Figure, figure, shape, far, figure_form}
use Rattle.numerals.proofs.Exponents.{values, values_spelled, spelled_values, values_under, spelled_digits, values_first, spelled_begins}
use Rattle.numerals.proofs.Sorting.{unsigned_is}
use Rattle.numerals.proofs.Figures.{Right, RightFor, found_right, found}

-- digits and their bytes
last_spelled : (ds : List ℕ) (x : ℕ) → last (spelled ds) (48 + x) ≡ 48 + last ds x
last_spelled [] x = refl
last_spelled (d ∷ ds) x = last_spelled ds d

spelled_ends : (ds : List ℕ) → (last ds 0 ≡ 0 → ⊥) → ends (spelled ds) ≡ true
spelled_ends ds h =
    let e = last_spelled ds 0 in
    not_from_false _ (ne_eqb (last (spelled ds) 48) 48 (λ p. h (omega arith)))

pub right_from_shortest : (ds : List ℕ) → Shortest ds → Right (spelled ds)
right_from_shortest ds s =
    record { digits = spelled_digits ds s.below; first = spelled_begins ds s.first; final = spelled_ends ds s.final }

shortest_spelled : (s ds : List ℕ) → spelled ds ≡ s → ends s ≡ true → last ds 0 ≡ 0 → ⊥
shortest_spelled s ds e h z =
    let l = last_spelled ds 0 in
    let k : last s 48 ≡ last (spelled ds) 48 = ap (λ t. last t 48) (sym e) in
    eqb-false (last s 48) 48 (not-true (eqb (last s 48) 48) h) (omega arith)

pub shortest_from_right : (s : List ℕ) → Right s → Shortest (values s)
shortest_from_right s r =
    record {
      below = values_under s r.digits;
      first = values_first s r.digits r.first;
      final = shortest_spelled s (values s) (spelled_values s r.digits) r.final;
    }

-- The number of a text.
abbrev pub finished : Bool → Option Figure → Option Number
finished negative None = None
finished negative (Some f) = Some (finite negative (values f.digits) f.place)

abbrev pub signed_reading : List ℕ → Option Number
signed_reading [] = None
signed_reading (x ∷ s) = cond (eqb x 45) (finished true (figure (shape s))) (finished false (figure (shape (x ∷ s))))

abbrev pub reading : List ℕ → Option Number
reading s = cond (is_nought s) (Some nought) (signed_reading s)

abbrev pub Reads : List ℕ → Option Number → Type 0
Reads s None = Unit {0}
Reads s (Some m) = Numeral s m

finished_right : (negative : Bool) (s t : List ℕ) (o : Option Figure) → t ≡ signed negative s → RightFor s o → Reads t (finished negative o)
finished_right negative s t None e r = tt
finished_right negative s t (Some f) e r = (
  shortest_from_right f.digits r.0,
  e ∙ ap (signed negative) (r.1 ∙ ap (λ ds. unsigned ds f.place) (sym (spelled_values f.digits r.0.digits))),
)

nought_text : (s : List ℕ) → is_nought s ≡ true → s ≡ 48 ∷ []
nought_text [] h = absurd (false≢true h)
nought_text (x ∷ []) h = ap (λ y. y ∷ []) (eqb-true x 48 (and_parts (eqb 1 1) (eqb x 48) h).1)
nought_text (x ∷ y ∷ s) h =
    absurd (omega (arith, eqb-true (length (x ∷ y ∷ s)) 1 (and_parts (eqb (length (x ∷ y ∷ s)) 1) (eqb x 48) h).0))

signed_right : (s : List ℕ) → Reads s (signed_reading s)
signed_right [] = tt
signed_right (x ∷ s) =
    cond_both (eqb x 45) _ _ (Reads (x ∷ s))
    (λ e. finished_right true s (x ∷ s) (figure (shape s)) (ap (λ y. y ∷ s) (eqb-true x 45 e)) (found_right s))
    (λ _. finished_right false (x ∷ s) (x ∷ s) (figure (shape (x ∷ s))) refl (found_right (x ∷ s)))

pub reading_right : (s : List ℕ) → Reads s (reading s)
reading_right s = cond_both (is_nought s) _ _ (Reads s) (nought_text s) (λ _. signed_right s)

-- A text without a sign that has a figure is neither `0` nor begins with a minus.
never_some : (f : Figure) → ◌≡◌ {A = Option Figure} None (Some f) → ⊥
never_some f e = cc

nought_figure : figure (shape (48 ∷ [])) ≡ None
unfolding shape
nought_figure = refl

empty_figure : figure (shape []) ≡ None
unfolding shape
empty_figure = refl

minus_figure : (s : List ℕ) → figure (shape (45 ∷ s)) ≡ None
unfolding shape
minus_figure s = refl

plain_reading : (s : List ℕ) (f : Figure) → figure (shape s) ≡ Some f → reading s ≡ finished false (Some f)
plain_reading [] f h = absurd (never_some f (sym empty_figure ∙ h))
plain_reading (x ∷ s) f h =
    cond_both (is_nought (x ∷ s)) _ _ (λ o. o ≡ finished false (Some f))
    (λ q. absurd (never_some f (sym nought_figure ∙ (ap (λ t. figure (shape t)) (sym (nought_text (x ∷ s) q)) ∙ h))))
    (λ _. cond_both (eqb x 45) _ _ (λ o. o ≡ finished false (Some f))
    (λ q. absurd (never_some f (sym (minus_figure s) ∙ (ap (λ y. figure (shape (y ∷ s))) (sym (eqb-true x 45 q)) ∙ h))))
    (λ _. ap (finished false) h))

minus_reading : (s : List ℕ) (f : Figure) → figure (shape s) ≡ Some f → reading (45 ∷ s) ≡ finished true (Some f)
minus_reading s f h =
    cond-false (is_nought (45 ∷ s)) _ _ (and_right (eqb (length (45 ∷ s)) 1) (eqb 45 48) refl) ∙ ap (finished true) h

sign_reading : (negative : Bool) (s : List ℕ) (f : Figure) → figure (shape s) ≡ Some f → reading (signed negative s) ≡ finished negative (Some f)
sign_reading true s f h = minus_reading s f h
sign_reading false s f h = plain_reading s f h

pub reading_found : (s : List ℕ) (m : Number) → Numeral s m → reading s ≡ Some m
reading_found s nought e = ap reading e
reading_found s (finite negative ds n) (short, e) =
    ap reading e
    ∙ (sign_reading negative (unsigned (spelled ds) n) (record { digits = spelled ds; place = n }) (found (spelled ds) n (right_from_shortest ds short))
    ∙ ap (λ t. Some (finite negative t n)) (values_spelled ds))

-- No text is written of two numbers.
same_some : (m m' : Number) → ◌≡◌ {A = Option Number} (Some m) (Some m') → m ≡ m'
same_some m m' e = cc

pub one_number : (s : List ℕ) → OneNumber s
one_number s m m' h h' = same_some m m' (sym (reading_found s m h) ∙ reading_found s m' h')

-- The form of a text is that of its number.
abbrev pub number_form : Option Number → Option Form
number_form None = None
number_form (Some nought) = Some Short
number_form (Some (finite negative ds n)) = Some (cond (ltb 15 (length ds) || far n) Long Short)

finished_form : (negative : Bool) (o : Option Figure) → figure_form o ≡ number_form (finished negative o)
finished_form negative None = refl
finished_form negative (Some f) =
    ap (λ k. Some (cond (ltb 15 k || far f.place) Long Short)) (sym (length-map f.digits (λ b. b - 48)))

signed_is : (s : List ℕ) → signed_form s ≡ number_form (signed_reading s)
signed_is [] = refl
signed_is (x ∷ s) =
    elim (eqb x 45) as (λ v. cond v (unsigned_form s) (unsigned_form (x ∷ s)) ≡ number_form (cond v (finished true (figure (shape s))) (finished false (figure (shape (x ∷ s)))))) [
      | true ↦ unsigned_is s ∙ finished_form true (figure (shape s))
      | false ↦ unsigned_is (x ∷ s) ∙ finished_form false (figure (shape (x ∷ s)))
    ]

pub form_is : (s : List ℕ) → text_form s ≡ number_form (reading s)
form_is s =
    elim (is_nought s) as (λ v. cond v (Some Short) (signed_form s) ≡ number_form (cond v (Some nought) (signed_reading s))) [
      | true ↦ refl
      | false ↦ signed_is s
    ]
