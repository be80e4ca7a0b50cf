-- Bytes have one outcome.
use Rattle.std.proofs.Common.{◌≡◌, ℕ, ◌+◌, ◌<◌, ◌≤◌, List, ◌++◌, take, drop, sym, refl, ap, ◌∙◌, subst, inl, inr, append_assoc, arith}
use Rattle.std.proofs.lemmas.List.{take-append-drop, take-take}
use Rattle.std.proofs.lemmas.Bool.{cases_order}
use Rattle.pages.specs.Trees.{Tree, nodes}
use Rattle.pages.specs.Shape.{lawful, misshapen, Judged, whole, Lawful}
use Rattle.pages.proofs.Verdicts.{judged_once}
use Rattle.grammar.specs.Grammar.{Listing, GoesOn}
use Rattle.grammar.specs.Reading.{BreaksOff, Outcome, read, unread, misread, ComesTo, is_unread, is_misread, is_overfull, is_read, Fits}
use Rattle.grammar.proofs.Shown.{listing_one_tree}

-- what a listing begins with, one begins with the front of
goes_on_front : (u v : List ℕ) → GoesOn (u ++ v) → GoesOn u
goes_on_front u v (q, (t, l)) = (v ++ q, (t, subst (λ x. Listing x t) (append_assoc u v q) l))

goes_on_less : (i j : ℕ) (s : List ℕ) → i ≤ j → GoesOn (take j s) → GoesOn (take i s)
goes_on_less i j s h g =
    goes_on_front (take i s) (drop i (take j s))
    (subst GoesOn (sym (take-append-drop i (take j s)) ∙ ap (λ x. x ++ drop i (take j s)) (take-take i j s h)) g)

one_before : (s : List ℕ) (p q : ℕ) → BreaksOff s p → BreaksOff s q → p < q → ⊥
one_before s p q x y h =
    x.stuck (omega (arith, y.within)) (goes_on_less (p + 1) q s (omega arith) y.begun)

breaks_once : (s : List ℕ) (p q : ℕ) → BreaksOff s p → BreaksOff s q → p ≡ q
breaks_once s p q x y =
    elim (cases_order p q) [
      | inl e ↦ e
      | inr o ↦ elim o [ inl h ↦ absurd (one_before s p q x y h) | inr h ↦ absurd (one_before s q p y x h) ]
    ]

same_place : (n m : ℕ) → misshapen n ≡ misshapen m → n ≡ m
same_place n m e = cc

never_lawful : (n : ℕ) → misshapen n ≡ lawful → ⊥
never_lawful n e = let z : ◌≡◌ {A = ℕ} 0 1 = cc in omega arith

module _ (s : List ℕ) where
  misread_once : (t u : Tree) (n m : ℕ) → Listing s t → Listing s u → Judged (nodes t) (misshapen n) → Judged (nodes u) (misshapen m) → n ≡ m
  misread_once t u n m x y j k =
      same_place n m (judged_once j (subst (λ v. Judged (nodes v) (misshapen m)) (sym (listing_one_tree s t u x y)) k))

  misread_not_lawful : (t u : Tree) (n : ℕ) → Listing s t → Listing s u → Judged (nodes t) (misshapen n) → Lawful u → ⊥
  misread_not_lawful t u n x y j k =
      never_lawful n (judged_once j (whole t (subst Lawful (sym (listing_one_tree s t u x y)) k) refl))

  module _ (rows text : ℕ) where
    fits_same : (t u : Tree) → Listing s t → Listing s u → Fits t rows text → Fits u rows text
    fits_same t u x y = subst (λ v. Fits v rows text) (listing_one_tree s t u x y)

    pub comes_once : {o p : Outcome} → ComesTo s rows text o → ComesTo s rows text p → o ≡ p
    comes_once (is_unread i x) (is_unread j y) = ap unread (breaks_once s i j x y)
    comes_once (is_unread i x) (is_misread u m y k) = absurd (x.no_listing u y)
    comes_once (is_unread i x) (is_overfull u y k r) = absurd (x.no_listing u y)
    comes_once (is_unread i x) (is_read u y k r) = absurd (x.no_listing u y)
    comes_once (is_misread t n x j) (is_unread i y) = absurd (y.no_listing t x)
    comes_once (is_misread t n x j) (is_misread u m y k) = ap misread (misread_once t u n m x y j k)
    comes_once (is_misread t n x j) (is_overfull u y k r) = absurd (misread_not_lawful t u n x y j k)
    comes_once (is_misread t n x j) (is_read u y k r) = absurd (misread_not_lawful t u n x y j k)
    comes_once (is_overfull t x j q) (is_unread i y) = absurd (y.no_listing t x)
    comes_once (is_overfull t x j q) (is_misread u m y k) = absurd (misread_not_lawful u t m y x k j)
    comes_once (is_overfull t x j q) (is_overfull u y k r) = refl
    comes_once (is_overfull t x j q) (is_read u y k r) = absurd (q (fits_same u t y x r))
    comes_once (is_read t x j q) (is_unread i y) = absurd (y.no_listing t x)
    comes_once (is_read t x j q) (is_misread u m y k) = absurd (misread_not_lawful u t m y x k j)
    comes_once (is_read t x j q) (is_overfull u y k r) = absurd (r (fits_same t u x y q))
    comes_once (is_read t x j q) (is_read u y k r) = ap read (listing_one_tree s t u x y)
