-- Rows whose texts lie one after the other show the nodes that they were laid for, and so a listing has
-- one tree.
use Rattle.std.proofs.Common.{◌≡◌, ℕ, ◌+◌, ◌≤◌, Bool, true, false, leb, List, [], ◌∷◌, ◌++◌, length, take, drop, replicate, sym, refl, ap, ◌∙◌, ap₂, arith, length-append, take_at, drop_at}
use lib.ListN.{length-replicate}
use Rattle.std.proofs.lemmas.Bool.{le-leb, cond-true, false≢true}
use Rattle.std.proofs.lemmas.List.{append_assoc}
use Rattle.pages.specs.declared.row.Row.{Row}
use Rattle.pages.specs.Trees.{Text, without, bytes, astray, Tree, Node, nodes, nodes_all, text_in, shown}
use Rattle.pages.proofs.OneTree.{nodes_one_tree}
use Rattle.grammar.specs.Grammar.{TextPart, textless, quoted, part_text, Form, form, Children, close, child, tree_of, forest_of, Listing}
use Rattle.grammar.specs.Reading.{text_of, texts, part_at, laid, zero_row}
use Rattle.grammar.specs.Scan.{Scan, Memory, ended}
use Rattle.grammar.proofs.Puts.{puts, puts_all}
use Rattle.grammar.proofs.Forms.{length_laid, ends_at, listing_runs}

-- there is no text, or its bytes are known
abbrev pub is_told : Text → Bool
is_told without = true
is_told (bytes s) = true
is_told astray = false

-- nodes none of whose texts is astray
pub data Told : List Node → Type 0 where
  told_none : Told []
  told_more : {n : Node} {ns : List Node} → is_told n.label.text ≡ true → Told ns → Told (n ∷ ns)

told_append : {ns os : List Node} → Told ns → Told os → Told (ns ++ os)
told_append told_none q = q
told_append (told_more p t) q = told_more p (told_append t q)

told_part : (x : TextPart) → is_told (part_text x) ≡ true
told_part textless = refl
told_part (quoted c g ls) = refl

mutual
  pub form_told : (x : Form) → Told (nodes (tree_of x))
  form_told (form h c) = told_more (told_part h.text) (children_told c)

  children_told : (c : Children) → Told (nodes_all (forest_of c))
  children_told (close g) = told_none
  children_told (child g x c) = told_append (form_told x) (children_told c)

text_laid : (x : Text) → is_told x ≡ true → (front rest : List ℕ) (b : ℕ) → length front ≡ b → text_in (front ++ (text_of x ++ rest)) (part_at b x) ≡ x
text_laid without h front rest b e = refl
text_laid (bytes s) h front rest b e =
    let all : List ℕ = front ++ (s ++ rest) in
    cond-true (leb (b + length s) (length all)) (bytes (take (length s) (drop b all))) astray
    (le-leb (b + length s) (length all) (omega (arith, length-append front (s ++ rest), length-append s rest)))
    ∙ ap {B = Text} bytes (ap (take (length s)) (drop_at front (s ++ rest) b e) ∙ take_at s rest (length s) refl)
text_laid astray h front rest b e = absurd (false≢true h)

-- rows laid from an offset on, behind as many bytes in front
pub shown_laid_at : {ns : List Node} → Told ns → (front rest : List ℕ) (b : ℕ) → length front ≡ b → shown (front ++ (texts ns ++ rest)) (laid b ns) ≡ ns
shown_laid_at told_none front rest b e = refl
shown_laid_at (told_more {n = n} {ns = ns} p t) front rest b e =
    let own : List ℕ = text_of n.label.text in
    let here : text_in (front ++ (own ++ (texts ns ++ rest))) (part_at b n.label.text) ≡ n.label.text = text_laid n.label.text p front (texts ns ++ rest) b e in
    ap (λ (x : List ℕ). shown (front ++ x) (laid b (n ∷ ns))) (append_assoc own (texts ns) rest)
    ∙ (λ i. record { label = record { kind = n.label.kind; flags = n.label.flags; start = n.label.start; text = here i }; children = n.children }
    ∷ shown (front ++ (own ++ (texts ns ++ rest))) (laid (b + length own) ns))
    ∙ ap (λ (x : List Node). n ∷ x)
    (ap (λ (x : List ℕ). shown x (laid (b + length own) ns)) (sym (append_assoc front own (texts ns ++ rest)))
    ∙ shown_laid_at t (front ++ own) rest (b + length own) (length-append front own ∙ ap (λ (k : ℕ). k + length own) e))

pub shown_laid : {ns : List Node} → Told ns → (rest : List ℕ) → shown (texts ns ++ rest) (laid 0 ns) ≡ ns
shown_laid t rest = shown_laid_at t [] rest 0 refl

pub listing_told : {s : List ℕ} {t : Tree} → Listing s t → Told (nodes t)
listing_told y = rw (← y.tree_is) (form_told y.root)

-- the rows of a listed tree show its nodes
pub listing_shown : {s : List ℕ} {t : Tree} → Listing s t → (rest : List ℕ) → shown (texts (nodes t) ++ rest) (laid 0 (nodes t)) ≡ nodes t
listing_shown y rest = shown_laid (listing_told y) rest

-- written into a memory that is large enough, they still do
pub puts_shown : {s : List ℕ} {t : Tree} → Listing s t → (rows : List Row) (text : List ℕ) → length (nodes t) ≤ length rows → length (texts (nodes t)) ≤ length text
    → shown (puts 0 (texts (nodes t)) text) (take (length (nodes t)) (puts 0 (laid 0 (nodes t)) rows)) ≡ nodes t
puts_shown {t = t} y rows text h k =
    let l = length_laid 0 (nodes t) in
    ap₂ (λ (x : List ℕ) (r : List Row). shown x r)
    (puts_all (texts (nodes t)) text k)
    (ap (take (length (nodes t))) (puts_all (laid 0 (nodes t)) rows (omega arith))
    ∙ take_at (laid 0 (nodes t)) (drop (length (laid 0 (nodes t))) rows) (length (nodes t)) l)
    ∙ listing_shown y (drop (length (texts (nodes t))) text)

same_ends : (a c : Scan) (m w : Memory) → ended a m ≡ ended c w → (a ≡ c) × (m ≡ w)
same_ends a c m w e = (cc, cc)

-- a listing has one tree
pub listing_one_tree : (s : List ℕ) (t u : Tree) → Listing s t → Listing s u → t ≡ u
listing_one_tree s t u x y =
    let rows : List Row = replicate (length (nodes t) + length (nodes u)) zero_row in
    let text : List ℕ = replicate (length (texts (nodes t)) + length (texts (nodes u))) 0 in
    let m : Memory = record { rows = rows; text = text } in
    let same : ends_at t m ≡ ends_at u m = sym (listing_runs s t m x) ∙ listing_runs s u m y in
    let ends = same_ends _ _ _ _ same in
    let p : length (nodes t) ≡ length (nodes u) = ap (λ (a : Scan). a.nodes) ends.0 in
    let q : puts 0 (laid 0 (nodes t)) rows ≡ puts 0 (laid 0 (nodes u)) rows = ap (λ (w : Memory). w.rows) ends.1 in
    let r : puts 0 (texts (nodes t)) text ≡ puts 0 (texts (nodes u)) text = ap (λ (w : Memory). w.text) ends.1 in
    let k = length-replicate (length (nodes t) + length (nodes u)) zero_row in
    let l = length-replicate {A = ℕ} (length (texts (nodes t)) + length (texts (nodes u))) 0 in
    nodes_one_tree t u
    (sym (puts_shown x rows text (omega arith) (omega arith))
    ∙ (λ i. shown (r i) (take (p i) (q i)))
    ∙ puts_shown y rows text (omega arith) (omega arith))
