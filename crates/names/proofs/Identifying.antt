-- A text is an identifier name by its first byte and the others.
use Rattle.std.proofs.Common.{◌≡◌, ℕ, ◌-◌, Bool, true, List, [], ◌∷◌, length, get_or, take, drop, refl, ◌∙◌, arith}
use Rattle.std.proofs.lemmas.List.{take_all}
use Rattle.std.proofs.lemmas.Bool.{true≢false}
use Rattle.names.specs.Identifiers.{starts, all_go_on, identifier}

-- a text whose first byte may stand first is an identifier name if the rest goes on; no byte, read as 0, may not
pub identifier_by_rest : (text : List ℕ) (r : Bool) → true ≡ starts (get_or text 0 0) → r ≡ all_go_on (take (length text - 1) (drop 1 text)) → r ≡ identifier text
unfolding starts
identifier_by_rest [] r s e = absurd (true≢false s)
identifier_by_rest (b ∷ bs) r s e = e ∙ (rw (← s, take_all (length (b ∷ bs) - 1) bs (omega arith)) refl)
