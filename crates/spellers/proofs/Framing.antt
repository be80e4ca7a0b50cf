-- Names that are made of several texts, one behind the other.
use Rattle.std.proofs.Common.{◌≡◌, ℕ, ◌<◌, List, ◌++◌, length, Some, None, sym, ap, ◌∙◌, inl, inr, arith, length-append}
use Rattle.std.proofs.lemmas.Bool.{cases_lt, le-leb, cond-true}
use Rattle.names.specs.declared.name.Name.{Name}
use Rattle.names.specs.Names.{bytes_of, made_of}
use Rattle.names.proofs.Filling.{made_has_the_bytes, too_long_for_a_name}

-- a text that is no name is too long
too_long : (text : List ℕ) → made_of text ≡ None → 255 < length text
too_long text e = elim (cases_lt 255 (length text)) [
  | inl h ↦ h
  | inr h ↦ let some = sym (cond-true _ _ _ (le-leb (length text) 255 h)) ∙ e in
      absurd (cc)
]

-- what is too long stays so when more follows
pub still_too_long : (front more : List ℕ) → made_of front ≡ None → None ≡ made_of (front ++ more)
still_too_long front more e = too_long_for_a_name (front ++ more) (omega (arith, too_long front e, length-append front more))

-- more behind a name is more behind its bytes
pub more_behind : (front more : List ℕ) (name : Name) → made_of front ≡ Some name → made_of (bytes_of name ++ more) ≡ made_of (front ++ more)
more_behind front more name e = ap (λ bytes. made_of (bytes ++ more)) (made_has_the_bytes front name e)

pub ruleset text_behind = (more_behind, still_too_long)
