-- What fine nodes are, and what the rows after some nodes show.
use Rattle.std.proofs.Common.{◌≡◌, ℕ, ◌+◌, Bool, true, ◌&&◌, List, [], ◌∷◌, ◌++◌, length, drop, sym, ap, ◌∙◌, subst, drop-drop}
use lib.Seq.{drop-append_seam}
use Rattle.std.proofs.lemmas.List.{drop-map}
use Rattle.std.proofs.lemmas.Bool.{and_parts, false≢true}
use Rattle.pages.specs.declared.row.Row.{Row}
use Rattle.pages.specs.declared.kind.Texts.{Texts}
use Rattle.pages.specs.declared.kind.Texts.TheVariants.{Never, Always, Maybe, Childless}
use Rattle.pages.specs.Kinds.{rule}
use Rattle.pages.specs.Trees.{Text, astray, Node, shown, shows}
use Rattle.pages.specs.Shape.{All, all_none, all_more, Fine, Visit, text_right, place_right, count_right, flags_right}

-- what holds of all holds of the first and of the others
pub all_first : {P : Visit → Type 0} {v : Visit} {vs : List Visit} → All P (v ∷ vs) → P v
all_first (all_more p ps) = p

pub all_others : {P : Visit → Type 0} {v : Visit} {vs : List Visit} → All P (v ∷ vs) → All P vs
all_others (all_more p ps) = ps

pub all_front : {P : Visit → Type 0} (vs ws : List Visit) → All P (vs ++ ws) → All P vs
all_front [] ws a = all_none
all_front (v ∷ vs) ws (all_more p ps) = all_more p (all_front vs ws ps)

pub all_back : {P : Visit → Type 0} (vs ws : List Visit) → All P (vs ++ ws) → All P ws
all_back [] ws a = a
all_back (v ∷ vs) ws (all_more p ps) = all_back vs ws ps

-- no kind takes a text that lies astray
pub text_right_astray : (t : Texts) (n : ℕ) → text_right t n astray ≡ true → ⊥
text_right_astray Never n e = false≢true e
text_right_astray Always n e = false≢true e
text_right_astray Maybe n e = false≢true e
text_right_astray Childless n e = false≢true e

-- a fine node's text does not lie astray
pub fine_text : (v : Visit) → Fine v → v.node.label.text ≡ astray → ⊥
fine_text v f e =
    let k : Texts = (rule v.node.label.kind).text in
    let n : ℕ = v.node.children in
    let others : Bool = count_right (rule v.node.label.kind) n && flags_right (rule v.node.label.kind) v.node.label.flags in
    let both : (text_right k n v.node.label.text && others) ≡ true =
    (and_parts (place_right v.place v.node.label.kind) (text_right k n v.node.label.text && others) f.0).1 in
    text_right_astray k n
    (subst (λ (x : Text). text_right k n x ≡ true) e (and_parts (text_right k n v.node.label.text) others both).0)

-- equal lists have equal first elements, and equal others
pub same_first : {A : Type 0} (x y : A) (xs ys : List A) → x ∷ xs ≡ y ∷ ys → x ≡ y
same_first x y xs ys e = cc

pub same_others : {A : Type 0} (x y : A) (xs ys : List A) → x ∷ xs ≡ y ∷ ys → xs ≡ ys
same_others x y xs ys e = cc

-- What later rows show.
pub shown_later : (rows : List Row) (text : List ℕ) (ns ms : List Node) (row k : ℕ) → shown text (drop row rows) ≡ ns ++ ms → k ≡ row + length ns → shown text (drop k rows) ≡ ms
shown_later rows text ns ms row k e p =
    ap (λ (i : ℕ). shown text (drop i rows)) p
    ∙ ap (shown text) (sym (drop-drop (length ns) row rows))
    ∙ sym (drop-map (shows text) (length ns) (drop row rows))
    ∙ ap (drop (length ns)) e
    ∙ drop-append_seam ns ms
