-- A reading that ends after a root has read a listing.
use Rattle.std.proofs.Common.{◌≡◌, ℕ, List, [], ◌∷◌, sym, refl, ap, ◌∙◌, subst, arith}
use Rattle.pages.specs.Trees.{Tree}
use Rattle.grammar.specs.Grammar.{gap, yield, tree_of, Listing}
use Rattle.grammar.specs.Scan.{after, Open, Scan, Memory, applied, next, ended, run, at_start}
use Rattle.grammar.proofs.Rests.{FormRest, Rest}
use Rattle.grammar.proofs.Back.{RestOf, back}
use Rattle.grammar.proofs.Runs.{ended_scan, run_none, step_ended}

nothing_left : (st : List Open) → Rest after st []
nothing_left [] = ([], refl)
nothing_left (e ∷ st) = ([], refl)

-- what a reading reads to the end of a root completes a listing
ended_rest : (s : List ℕ) (a : Scan) (m : Memory) (a' : Scan) (m' : Memory) → run s a m ≡ ended a' m' → a'.phase ≡ after → RestOf a s
ended_rest [] a m a' m' e p =
    let here : a ≡ a' = ended_scan a a' m m' (sym (run_none a m) ∙ e) in
    subst (λ x. Rest x a.stack []) (sym (ap (λ x. x.phase) here ∙ p)) (nothing_left a.stack)
ended_rest (b ∷ s) a m a' m' e p =
    let (read, rest) = step_ended b s a m a' m' e in
    back a.phase a.stack a.nodes a.bytes a.fault b s read
    (ended_rest s (next a b).to (applied (next a b).effect m) a' m' rest p)

rest_listing : (s : List ℕ) → FormRest 0 s → (t : Tree) × Listing s t
rest_listing s (g, f, r, e, h, (g', e')) =
    (tree_of f, record { before = g; root = f; after = g'; bytes_are = e ∙ ap (λ x. gap g (yield f x)) e'; tree_is = refl; height_is = omega arith })

pub ended_listing : (s : List ℕ) (m : Memory) (a : Scan) (m' : Memory) → run s at_start m ≡ ended a m' → a.phase ≡ after → (t : Tree) × Listing s t
ended_listing s m a m' e p = rest_listing s (ended_rest s at_start m a m' e p)
