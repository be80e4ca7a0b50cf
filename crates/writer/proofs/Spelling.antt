-- The written form of each piece, in front of a rest and with none.
use Rattle.std.proofs.Common.{◌≡◌, ℕ, ◌+◌, ◌/◌, ◌%◌, Bool, true, false, cond, eqb, List, [], ◌∷◌, ◌++◌, replicate, decimal, sym, refl, ap, ◌∙◌, append_assoc, append-nil}
use Rattle.std.specs.List.{flat_map}
use Rattle.pages.specs.declared.row.Flags.{Flags}
use Rattle.pages.specs.Trees.{Text, without, bytes, astray, Label, Tree, Forest, tree, none, more}
use Rattle.grammar.specs.Words.{flag_word, flagged, stands, hex, word}
use Rattle.grammar.specs.Written.{out_byte, out_bytes, out_flags, out_text, out_label, out_tree, out_forest}

-- what is chosen, in front of a rest
pub cond_rest : (t : Bool) (a b r : List ℕ) → cond t (a ++ r) (b ++ r) ≡ cond t a b ++ r
cond_rest true a b r = refl
cond_rest false a b r = refl

pub out_byte_rest : (b : ℕ) (r : List ℕ) → out_byte b r ≡ out_byte b [] ++ r
out_byte_rest b r =
    go (stands b) (eqb b 34) (eqb b 92)
  where
    go : (x y z : Bool)
        → cond x (b ∷ r) (cond y (92 ∷ 34 ∷ r) (cond z (92 ∷ 92 ∷ r) (92 ∷ hex (b / 16) ∷ hex (b % 16) ∷ r)))
        ≡ cond x (b ∷ []) (cond y (92 ∷ 34 ∷ []) (cond z (92 ∷ 92 ∷ []) (92 ∷ hex (b / 16) ∷ hex (b % 16) ∷ []))) ++ r
    go true y z = refl
    go false true z = refl
    go false false true = refl
    go false false false = refl

pub out_bytes_rest : (s r : List ℕ) → out_bytes s r ≡ out_bytes s [] ++ r
out_bytes_rest [] r = refl
out_bytes_rest (b ∷ s) r =
    out_byte_rest b (out_bytes s r)
    ∙ ap (λ (x : List ℕ). out_byte b [] ++ x) (out_bytes_rest s r)
    ∙ sym (append_assoc (out_byte b []) (out_bytes s []) r)
    ∙ ap (λ (x : List ℕ). x ++ r) (sym (out_byte_rest b (out_bytes s [])))

-- a text, byte by byte
abbrev pub as_letter : ℕ → List ℕ
as_letter b = out_byte b []

pub by_letter : (s : List ℕ) → out_bytes s [] ≡ flat_map as_letter s
by_letter [] = refl
by_letter (b ∷ s) = out_byte_rest b (out_bytes s []) ∙ ap (λ (x : List ℕ). out_byte b [] ++ x) (by_letter s)

-- a quoted text and its parts
pub quoted_parts : (s : List ℕ) → out_text (bytes s) [] ≡ (32 ∷ 34 ∷ []) ++ (out_bytes s [] ++ (34 ∷ []))
quoted_parts s = ap (λ (x : List ℕ). 32 ∷ 34 ∷ x) (out_bytes_rest s (34 ∷ []))

-- a flag's letter where it is set
abbrev pub as_flag : Bool × ℕ → List ℕ
as_flag (set, letter) = cond set (letter ∷ []) []

pub out_flags_rest : (f : Flags) (r : List ℕ) → out_flags f r ≡ out_flags f [] ++ r
out_flags_rest f r =
    ap (λ (x : List ℕ). cond (flagged f) (32 ∷ (x ++ r)) r) (sym (append-nil (flag_word f)))
    ∙ cond_rest (flagged f) (32 ∷ (flag_word f ++ [])) [] r

pub out_text_rest : (t : Text) (r : List ℕ) → out_text t r ≡ out_text t [] ++ r
out_text_rest without r = refl
out_text_rest (bytes s) r =
    ap (λ (x : List ℕ). 32 ∷ 34 ∷ x)
    (out_bytes_rest s (34 ∷ r) ∙ sym (append_assoc (out_bytes s []) (34 ∷ []) r) ∙ ap (λ (x : List ℕ). x ++ r) (sym (out_bytes_rest s (34 ∷ []))))
out_text_rest astray r = refl

-- a label and its parts
pub label_parts : (l : Label) (r : List ℕ)
    → out_label l r ≡ word l.kind ++ ((32 ∷ 64 ∷ decimal l.start) ++ (out_flags l.flags [] ++ out_text l.text r))
label_parts l r =
    ap (λ (x : List ℕ). word l.kind ++ (32 ∷ 64 ∷ (decimal l.start ++ x))) (out_flags_rest l.flags (out_text l.text r))

pub out_label_rest : (l : Label) (r : List ℕ) → out_label l r ≡ out_label l [] ++ r
out_label_rest l r =
    label_parts l r
    ∙ ap (λ (x : List ℕ). word l.kind ++ ((32 ∷ 64 ∷ decimal l.start) ++ (out_flags l.flags [] ++ x))) (out_text_rest l.text r)
    ∙ regroup (word l.kind) (32 ∷ 64 ∷ decimal l.start) (out_flags l.flags []) (out_text l.text []) r
    ∙ ap (λ (x : List ℕ). x ++ r) (sym (label_parts l []))
  where
    regroup : (a b c d e : List ℕ) → a ++ (b ++ (c ++ (d ++ e))) ≡ (a ++ (b ++ (c ++ d))) ++ e
    regroup a b c d e = sym (simp append_assoc)

-- the line that a form begins with
abbrev pub line : ℕ → Label → List ℕ
line indent l = replicate indent 32 ++ (40 ∷ out_label l [])

-- the opening of a form, and what may be absent from it
abbrev pub opening : ℕ → Label → List ℕ
opening indent l = replicate indent 32 ++ (40 ∷ (word l.kind ++ (32 ∷ 64 ∷ decimal l.start)))

abbrev pub marks : Label → List ℕ
marks l = out_flags l.flags [] ++ out_text l.text []

pub line_parts : (indent : ℕ) (l : Label) → line indent l ≡ opening indent l ++ marks l
line_parts indent l =
    ap (λ (x : List ℕ). replicate indent 32 ++ (40 ∷ x))
    (label_parts l [] ∙ sym (append_assoc (word l.kind) (32 ∷ 64 ∷ decimal l.start) (marks l)))
    ∙ sym (append_assoc (replicate indent 32) (40 ∷ (word l.kind ++ (32 ∷ 64 ∷ decimal l.start))) (marks l))

-- a form, and its line in front of its children
pub tree_parts : (indent : ℕ) (l : Label) (f : Forest) (r : List ℕ) → out_tree indent (tree l f) r ≡ line indent l ++ out_forest (indent + 1) f (41 ∷ r)
tree_parts indent l f r =
    ap (λ (x : List ℕ). replicate indent 32 ++ (40 ∷ x)) (out_label_rest l (out_forest (indent + 1) f (41 ∷ r)))
    ∙ sym (append_assoc (replicate indent 32) (40 ∷ out_label l []) (out_forest (indent + 1) f (41 ∷ r)))

mutual
  pub out_tree_rest : (t : Tree) (indent : ℕ) (r : List ℕ) → out_tree indent t r ≡ out_tree indent t [] ++ r
  out_tree_rest (tree l f) indent r =
      tree_parts indent l f r
      ∙ ap (λ (x : List ℕ). line indent l ++ x) (out_forest_rest f (indent + 1) (41 ∷ r) ∙ sym (append_assoc (out_forest (indent + 1) f []) (41 ∷ []) r)
      ∙ ap (λ (x : List ℕ). x ++ r) (sym (out_forest_rest f (indent + 1) (41 ∷ []))))
      ∙ sym (append_assoc (line indent l) (out_forest (indent + 1) f (41 ∷ [])) r)
      ∙ ap (λ (x : List ℕ). x ++ r) (sym (tree_parts indent l f []))

  pub out_forest_rest : (f : Forest) (indent : ℕ) (r : List ℕ) → out_forest indent f r ≡ out_forest indent f [] ++ r
  out_forest_rest none indent r = refl
  out_forest_rest (more t f) indent r =
      ap (λ (x : List ℕ). 10 ∷ x)
      (out_tree_rest t indent (out_forest indent f r)
      ∙ ap (λ (x : List ℕ). out_tree indent t [] ++ x) (out_forest_rest f indent r)
      ∙ sym (append_assoc (out_tree indent t []) (out_forest indent f []) r)
      ∙ ap (λ (x : List ℕ). x ++ r) (sym (out_tree_rest t indent (out_forest indent f []))))
