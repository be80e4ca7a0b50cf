-- A text cut into its parts, and the digits and the point place that the parts give.
use Rattle.std.proofs.Common.{ℕ, zero, suc, ◌-◌, Bool, true, false, cond, ◌&&◌, eqb, ltb, leb, List, [], ◌∷◌, ◌++◌, length, drop, ℤ, pos, negsuc, Some, None, Option}
use Rattle.numerals.specs.declared.form.Form.{Form}
use Rattle.numerals.specs.Deciding.{front, rest, trim, leading, begins, ends, value, is_lone, form_of}

-- A text by its parts: digits; digits on both sides of a point; either with `e`, a sign and digits after it; or
-- anything else.
pub data Shape : Type 0 where
  whole : List ℕ → Shape
  fraction : List ℕ → List ℕ → Shape
  power : List ℕ → ℕ → List ℕ → Shape
  fraction_power : List ℕ → List ℕ → ℕ → List ℕ → Shape
  misshapen : Shape

abbrev pub power_ended : List ℕ → ℕ → List ℕ → List ℕ → Shape
power_ended a c e [] = power a c e
power_ended a c e (x ∷ r) = misshapen

abbrev pub power_shape : List ℕ → List ℕ → Shape
power_shape a [] = misshapen
power_shape a (c ∷ s) = power_ended a c (front s) (rest s)

abbrev pub fraction_power_ended : List ℕ → List ℕ → ℕ → List ℕ → List ℕ → Shape
fraction_power_ended a b c e [] = fraction_power a b c e
fraction_power_ended a b c e (x ∷ r) = misshapen

abbrev pub fraction_power_shape : List ℕ → List ℕ → List ℕ → Shape
fraction_power_shape a b [] = misshapen
fraction_power_shape a b (c ∷ s) = fraction_power_ended a b c (front s) (rest s)

-- after a point
abbrev pub fraction_shape : List ℕ → List ℕ → List ℕ → Shape
fraction_shape a b [] = fraction a b
fraction_shape a b (x ∷ s) = cond (eqb x 101) (fraction_power_shape a b s) misshapen

-- after the first digits
abbrev pub shape_after : List ℕ → List ℕ → Shape
shape_after a [] = whole a
shape_after a (x ∷ s) = cond (eqb x 46) (fraction_shape a (front s) (rest s)) (cond (eqb x 101) (power_shape a s) misshapen)

unfoldable pub shape : List ℕ → Shape
shape s = shape_after (front s) (rest s)

-- the digits as bytes, and the point place
pub record Figure : Type 0 where
  pub digits : List ℕ
  pub place : ℤ

-- the integer that lies so far below 0
abbrev pub below : ℕ → ℤ
below zero = pos 0
below (suc n) = negsuc n

abbrev pub when : Bool → Figure → Option Figure
when true f = Some f
when false f = None

-- the figure of digits with an exponent
abbrev pub power_figure : List ℕ → ℕ → List ℕ → Option Figure
power_figure ds c e =
    cond (eqb c 43) (when (begins e && leb 21 (value e)) (record { digits = ds; place = pos (suc (value e)) }))
    (when (eqb c 45 && (begins e && leb 7 (value e))) (record { digits = ds; place = negsuc (value e - 2) }))

abbrev pub fraction_figure : List ℕ → List ℕ → Option Figure
fraction_figure a b =
    cond (begins a) (when (leb (length a) 21) (record { digits = a ++ b; place = pos (length a) }))
    (when (eqb (length a) 1 && leb (leading b) 5) (record { digits = drop (leading b) b; place = below (leading b) }))

abbrev pub figure : Shape → Option Figure
figure (whole a) = when (begins a && leb (length a) 21) (record { digits = trim a; place = pos (length a) })
figure (fraction a b) = cond (ends b) (fraction_figure a b) None
figure (power a c e) = cond (is_lone a) (power_figure a c e) None
figure (fraction_power a b c e) = cond (is_lone a && ends b) (power_figure (a ++ b) c e) None
figure misshapen = None

-- whether a figure is of a long number
abbrev pub far : ℤ → Bool
far (pos n) = ltb 300 n
far (negsuc n) = ltb 300 (suc n)

abbrev pub figure_form : Option Figure → Option Form
figure_form None = None
figure_form (Some f) = Some (form_of (length f.digits) (far f.place))
