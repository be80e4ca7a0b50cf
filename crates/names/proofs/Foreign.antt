-- What the library's test for ASCII says of foreign texts.
use Rattle.std.proofs.Common.{◌≡◌, ℕ, zero, suc, ◌≤◌, Bool, true, false, not, List, [], ◌∷◌, refl, sym, arith, slice_index, leb}
use Rattle.std.specs.Prelude.{MatchBool}
use Rattle.std.specs.Str.{IsAscii, IsNotAscii}
use Rattle.std.proofs.Math.Bool.{or-true}
use Rattle.std.proofs.lemmas.Bool.{le-leb, lt-leb}
use Rattle.names.specs.Texts.{foreign}

pub foreign_by_ascii : (text : List ℕ) (r : Bool) → MatchBool r (IsAscii text) (IsNotAscii text) → not r ≡ foreign text
foreign_by_ascii text true all = sym (none text all)
  where
    none : (bs : List ℕ) → IsAscii bs → foreign bs ≡ false
    none [] f = refl
    none (b ∷ bs) f = rw (lt-leb 128 b (f 0), none bs (λ i. f (suc i))) refl
foreign_by_ascii text false some = sym (there text some.0 some.1)
  where
    there : (bs : List ℕ) (i : ℕ) → 128 ≤ slice_index bs i → foreign bs ≡ true
    there [] i h = absurd (omega arith)
    there (b ∷ bs) zero h = rw (le-leb 128 b h) refl
    there (b ∷ bs) (suc i) h = rw (there bs i h) (or-true (leb 128 b))
