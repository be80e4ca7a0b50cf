-- The stack of open brackets, as an array with a depth and as a list with the innermost first.
use Rattle.std.proofs.Common.{◌≡◌, ℕ, zero, suc, ◌+◌, ◌-◌, ◌<◌, ◌≤◌, ◌≢◌, List, ◌∷◌, length, get_or, take, set, sym, refl, ap, ◌∙◌, add-one, arith, Bor, Some, None, Option, MatchOption, length-take, get_or-take}
use Rattle.std.proofs.lemmas.List.{get_or-set_same, get_or-set_other}
use Rattle.std.proofs.lemmas.Option.{none-some, slice_get-get_or, slice_get_within, get_or_from_slice_get}
use Rattle.std.specs.List.{slice_get}
use Rattle.std.specs.Option.{option_copied}
use Rattle.grammar.specs.Scan as scan
use Rattle.grammar.specs.Scan.{innermost}
use Rattle.reader.specs.declared.open.Open.{Open}
use Rattle.reader.specs.View.{unwound, open_of, no_open}

pub unwound_length : (d : ℕ) (s : List Open) → length (unwound d s) ≡ d
unwound_length zero s = refl
unwound_length (suc d) s = ap suc (unwound_length d s)

-- what stands at or above the depth does not count
pub unwound_set : (d : ℕ) (s : List Open) (i : ℕ) (x : Open) → d ≤ i → unwound d (set s i x) ≡ unwound d s
unwound_set zero s i x h = refl
unwound_set (suc d) s i x h =
    let ne : d ≢ i = omega arith in
    let e : get_or (set s i x) d no_open ≡ get_or s d no_open = get_or-set_other s i d x no_open ne in
    let u : unwound d (set s i x) ≡ unwound d s = unwound_set d s i x (omega arith) in
    rw (e, u) refl

pub unwound_top : (d : ℕ) (s : List Open) (x : Open) → d < length s → unwound (suc d) (set s d x) ≡ open_of x ∷ unwound d s
unwound_top d s x h =
    let e : get_or (set s d x) d no_open ≡ x = get_or-set_same s d x no_open h in
    rw (e, unwound_set d s d x (omega arith)) refl

-- one bracket more
pub unwound_push : (d : ℕ) (s : List Open) (x : Open) → d < length s → unwound (d + 1) (set s d x) ≡ open_of x ∷ unwound d s
unwound_push d s x h = rw add-one (unwound_top d s x h)

-- the innermost entry and those around it
pub unwound_pop : (d : ℕ) (s : List Open) → 0 < d → unwound d s ≡ open_of (get_or s (d - 1) no_open) ∷ unwound (d - 1) s
unwound_pop zero s h = absurd (omega arith)
unwound_pop (suc d) s h = let e : suc d - 1 ≡ d = omega arith in rw e refl

pub changed_innermost : (f : scan.Open → scan.Open) (s : List Open) (d : ℕ) (x : Open) → 0 < d → d ≤ length s
    → open_of x ≡ f (open_of (get_or s (d - 1) no_open)) → unwound d (set s (d - 1) x) ≡ innermost f (unwound d s)
changed_innermost f s zero x h l e = absurd (omega arith)
changed_innermost f s (suc d) x h l e =
    let p : suc d - 1 ≡ d = omega arith in
    let e' : open_of x ≡ f (open_of (get_or s d no_open)) = rw p at e in
    rw p (unwound_top d s x (omega arith) ∙ ap (λ o. o ∷ unwound d s) e')

-- the last of the entries below the depth is the innermost
pub innermost_last : (d : ℕ) (s : List Open) (r : Option (Bor Open)) → d ≤ length s → option_copied r ≡ slice_get (take d s) (length (take d s) - 1)
    → MatchOption r (d ≡ 0) (λ e. (0 < d) × (unwound d s ≡ open_of e.now ∷ unwound (d - 1) s))
innermost_last zero s None h e = refl
innermost_last (suc d) s None h e =
    let n : length (take (suc d) s) ≡ suc d = omega (arith, length-take (suc d) s) in
    let w : length (take (suc d) s) - 1 < length (take (suc d) s) = omega arith in
    absurd (none-some _ (e ∙ slice_get-get_or (take (suc d) s) (length (take (suc d) s) - 1) no_open w))
innermost_last d s (Some x) h e =
    let w : length (take d s) - 1 < length (take d s) = slice_get_within (take d s) (length (take d s) - 1) x.now (sym e) in
    let n : length (take d s) ≡ d = omega (arith, length-take d s) in
    let p : 0 < d = omega arith in
    let q : get_or (take d s) (length (take d s) - 1) no_open ≡ x.now = get_or_from_slice_get (take d s) (length (take d s) - 1) x.now no_open (sym e) in
    let g : get_or s (d - 1) no_open ≡ x.now = sym (get_or-take d s (d - 1) no_open (omega arith)) ∙ (ap (λ k. get_or (take d s) (k - 1) no_open) (sym n) ∙ q) in
    (p, unwound_pop d s p ∙ ap (λ o. open_of o ∷ unwound (d - 1) s) g)
