-- The written form of a lawful tree is a listing of it.
use Rattle.std.proofs.Common.{◌≡◌, ℕ, zero, suc, ◌+◌, ◌/◌, ◌%◌, ◌<◌, ◌≤◌, Bool, true, false, cond, eqb, List, [], ◌∷◌, ◌++◌, get_or, replicate, decimal, sym, refl, ap, ◌∙◌, arith}
use Rattle.std.proofs.lemmas.Bool.{eqb-true, ltb-false}
use Rattle.pages.specs.declared.row.Flags.{Flags}
use Rattle.pages.specs.declared.kind.Kind.{Kind}
use Rattle.pages.specs.declared.shape.Place.{Place}
use Rattle.pages.specs.declared.shape.Place.TheVariants.{Root, Child}
use Rattle.pages.specs.Trees.{Text, without, bytes, astray, Label, Tree, Forest, tree, none, more, count}
use Rattle.pages.specs.Shape.{All, Fine, visits, visits_all, Lawful}
use Rattle.pages.proofs.Fineness.{all_first, all_others, all_front, all_back, fine_text}
use Rattle.grammar.specs.Words.{word, stands, hex}
use Rattle.grammar.specs.Written.{out_byte, out_bytes, out_flags, out_text, out_label, out_tree, out_forest, written}
use Rattle.grammar.specs.Grammar.{space, line_end, gap, Letter, itself, quote, backslash, digits, letter, letter_byte, letters, letters_bytes, FlagPart, unflagged, marked, flag_part, part_flags, TextPart, textless, quoted, text_part, part_text, Head, head, head_label, Form, form, Children, close, child, yield, yield_children, tree_of, forest_of, height, height_children, Listing}
use Rattle.writer.specs.Walk.{SmallText, Small, SmallTree, SmallForest}

-- a byte as a letter
record ByteListed (b : ℕ) : Type 0 where
  of : Letter
  yields : (r : List ℕ) → letter of r ≡ out_byte b r
  means : letter_byte of ≡ b

list_byte : (b : ℕ) → b < 256 → ByteListed b
list_byte b small =
    let g = go (stands b) (eqb b 34) (eqb b 92) refl refl refl in record { of = g.0; yields = g.1; means = g.2 }
  where
    go : (x y z : Bool) → stands b ≡ x → eqb b 34 ≡ y → eqb b 92 ≡ z
        → (l : Letter) × ((r : List ℕ) → letter l r ≡ cond x (b ∷ r) (cond y (92 ∷ 34 ∷ r) (cond z (92 ∷ 92 ∷ r) (92 ∷ hex (b / 16) ∷ hex (b % 16) ∷ r)))) × (letter_byte l ≡ b)
    go true y z s q k = (itself b s, (λ r. refl), refl)
    go false true z s q k = (quote, (λ r. refl), sym (eqb-true b 34 q))
    go false false true s q k = (backslash, (λ r. refl), sym (eqb-true b 92 k))
    go false false false s q k = (digits (b / 16) (b % 16) (omega arith) (omega arith), (λ r. refl), omega arith)

-- a text as letters
record BytesListed (s : List ℕ) : Type 0 where
  of : List Letter
  yields : (r : List ℕ) → letters of r ≡ out_bytes s (34 ∷ r)
  means : letters_bytes of ≡ s

list_bytes : (s : List ℕ) → ((i : ℕ) → get_or s i 0 < 256) → BytesListed s
list_bytes [] small = record { of = []; yields = λ r. refl; means = refl }
list_bytes (b ∷ s) small =
    let x = list_byte b (small 0) in
    let xs = list_bytes s (λ i. small (suc i)) in
    record {
      of = x.of ∷ xs.of;
      yields = λ r. ap (letter x.of) (xs.yields r) ∙ x.yields (out_bytes s (34 ∷ r));
      means = ap (λ (y : ℕ). y ∷ letters_bytes xs.of) x.means ∙ ap (λ (ys : List ℕ). b ∷ ys) xs.means;
    }

record TextListed (t : Text) : Type 0 where
  of : TextPart
  yields : (r : List ℕ) → text_part of r ≡ out_text t r
  means : part_text of ≡ t

list_text : (t : Text) → (t ≡ astray → ⊥) → SmallText t → TextListed t
list_text without here small = record { of = textless; yields = λ r. refl; means = refl }
list_text (bytes s) here small =
    let xs = list_bytes s small in
    record { of = quoted space [] xs.of; yields = λ r. ap (λ (x : List ℕ). 32 ∷ 34 ∷ x) (xs.yields r); means = ap bytes xs.means }
list_text astray here small = absurd (here refl)

record FlagsListed (f : Flags) : Type 0 where
  of : FlagPart
  yields : (r : List ℕ) → flag_part of r ≡ out_flags f r
  means : part_flags of ≡ f

list_flags : (f : Flags) → FlagsListed f
list_flags f = go f.optional f.computed f.shorthand
  where
    go : (o c s : Bool) → FlagsListed (record { optional = o; computed = c; shorthand = s })
    go true c s = record { of = marked space [] (record { optional = true; computed = c; shorthand = s }) refl; yields = λ r. refl; means = refl }
    go false true s = record { of = marked space [] (record { optional = false; computed = true; shorthand = s }) refl; yields = λ r. refl; means = refl }
    go false false true = record { of = marked space [] (record { optional = false; computed = false; shorthand = true }) refl; yields = λ r. refl; means = refl }
    go false false false = record { of = unflagged; yields = λ r. refl; means = refl }

record LabelListed (l : Label) : Type 0 where
  of : Head
  yields : (r : List ℕ) → head of r ≡ out_label l r
  means : head_label of ≡ l

list_label : (l : Label) → (l.text ≡ astray → ⊥) → Small l → LabelListed l
list_label l here small =
    let f = list_flags l.flags in
    let t = list_text l.text here small.1 in
    record {
      of = record {
        before_kind = [];
        kind = l.kind;
        after_kind = space;
        before_start = [];
        start = l.start;
        start_fits = small.0;
        flags = f.of;
        text = t.of;
      };
      yields = λ r.
          ap (λ (x : List ℕ). word l.kind ++ (32 ∷ 64 ∷ (decimal l.start ++ x))) (f.yields (text_part t.of r) ∙ ap (out_flags l.flags) (t.yields r));
      means = ap (λ (x : Flags). record { kind = l.kind; flags = x; start = l.start; text = part_text t.of }) f.means
          ∙ ap (λ (x : Text). record { kind = l.kind; flags = l.flags; start = l.start; text = x }) t.means;
    }

gap_blanks : (n : ℕ) (r : List ℕ) → gap (replicate n space) r ≡ replicate n 32 ++ r
gap_blanks zero r = refl
gap_blanks (suc n) r = ap (λ (x : List ℕ). 32 ∷ x) (gap_blanks n r)

-- a form of the tree on this level, and the children of a node with those on this level
record TreeListed (indent level : ℕ) (t : Tree) : Type 0 where
  of : Form
  yields : (r : List ℕ) → replicate indent 32 ++ yield of r ≡ out_tree indent t r
  means : tree_of of ≡ t
  tall : level + height of ≤ 65

record ForestListed (indent level : ℕ) (f : Forest) : Type 0 where
  of : Children
  yields : (r : List ℕ) → yield_children of r ≡ out_forest indent f (41 ∷ r)
  means : forest_of of ≡ f
  tall : level + height_children of ≤ 65

list_node : {indent level : ℕ} (l : Label) (f : Forest) → LabelListed l → ForestListed (indent + 1) (level + 1) f → TreeListed indent level (tree l f)
list_node {indent} {level} l f h c =
    record {
      of = form h.of c.of;
      yields = λ r. ap (λ (x : List ℕ). replicate indent 32 ++ (40 ∷ x)) (ap (head h.of) (c.yields r) ∙ h.yields (out_forest (indent + 1) f (41 ∷ r)));
      means = ap (λ (x : Label). tree x (forest_of c.of)) h.means ∙ ap (tree l) c.means;
      tall = omega (arith, c.tall);
    }

list_child : {indent level : ℕ} (t : Tree) (f : Forest) → TreeListed indent level t → ForestListed indent level f → ForestListed indent level (more t f)
list_child {indent} {level} t f x c =
    record {
      of = child (line_end ∷ replicate indent space) x.of c.of;
      yields = λ r.
          ap (λ (y : List ℕ). 10 ∷ y)
          (gap_blanks indent (yield x.of (yield_children c.of r))
          ∙ x.yields (yield_children c.of r)
          ∙ ap (out_tree indent t) (c.yields r));
      means = ap (λ (y : Tree). more y (forest_of c.of)) x.means ∙ ap (more t) c.means;
      tall = omega (arith, x.tall, c.tall);
    }

mutual
  list_tree : (t : Tree) (p : Place) (indent level : ℕ) → All Fine (visits p level t) → SmallTree t → TreeListed indent level t
  list_tree (tree l f) p indent level fine small =
      list_node l f
      (list_label l (fine_text (record { place = p; level = level; node = record { label = l; children = count f } }) (all_first fine)) small.0)
      (list_forest f l.kind l.flags 0 (indent + 1) (level + 1) (omega (arith, ltb-false 64 level (all_first fine).1)) (all_others fine) small.1)

  list_forest : (f : Forest) (k : Kind) (fl : Flags) (i indent level : ℕ) → level ≤ 65 → All Fine (visits_all k fl i level f) → SmallForest f → ForestListed indent level f
  list_forest none k fl i indent level h fine small = record { of = close []; yields = λ r. refl; means = refl; tall = omega arith }
  list_forest (more t f) k fl i indent level h fine small =
      list_child t f
      (list_tree t (Child k fl i) indent level (all_front (visits (Child k fl i) level t) _ fine) small.0)
      (list_forest f k fl (i + 1) indent level h (all_back (visits (Child k fl i) level t) _ fine) small.1)

-- The written form of a lawful tree whose labels a page can hold is a listing of it.
pub written_lists : (t : Tree) → Lawful t → SmallTree t → Listing (written t) t
written_lists t lawful small =
    let x = list_tree t Root 0 1 lawful small in
    record {
      before = [];
      root = x.of;
      after = line_end ∷ [];
      bytes_are = sym (x.yields (10 ∷ []));
      tree_is = x.means;
      height_is = omega (arith, x.tall);
    }
