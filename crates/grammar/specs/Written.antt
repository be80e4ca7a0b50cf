-- The form in which trees are written: each node on a line of its own, indented by one blank for each
-- level below the root, one blank between parts, closing brackets after the last child, nothing escaped
-- that need not be. Each definition puts its bytes in front of those that follow.
use Rattle.std.specs.Prelude.{ℕ, ◌+◌, ◌/◌, ◌%◌, cond, List, [], ◌∷◌, ◌++◌, replicate, decimal, ◌==◌}
use Rattle.pages.specs.declared.row.Flags.{Flags}
use Rattle.pages.specs.Trees.{Text, without, bytes, astray, Label, Tree, Forest, tree, none, more}
use Rattle.grammar.specs.Words.{word, flag_word, flagged, stands, hex}

abbrev pub out_byte : ℕ → List ℕ → List ℕ
out_byte b r =
    cond (stands b) (b ∷ r) (cond (b == 34) (92 ∷ 34 ∷ r) (cond (b == 92) (92 ∷ 92 ∷ r) (92 ∷ hex (b / 16) ∷ hex (b % 16) ∷ r)))

abbrev pub out_bytes : List ℕ → List ℕ → List ℕ
out_bytes [] r = r
out_bytes (b ∷ bs) r = out_byte b (out_bytes bs r)

abbrev pub out_flags : Flags → List ℕ → List ℕ
out_flags f r = cond (flagged f) (32 ∷ (flag_word f ++ r)) r

-- a text that lies outside the page has no written form; no tree that is written has one
abbrev pub out_text : Text → List ℕ → List ℕ
out_text without r = r
out_text (bytes s) r = 32 ∷ 34 ∷ out_bytes s (34 ∷ r)
out_text astray r = r

abbrev pub out_label : Label → List ℕ → List ℕ
out_label l r =
    word l.kind ++ (32 ∷ 64 ∷ (decimal l.start ++ out_flags l.flags (out_text l.text r)))

abbrev mutual
  -- a form with its indent
  pub out_tree : ℕ → Tree → List ℕ → List ℕ
  out_tree indent (tree l f) r = replicate indent 32 ++ (40 ∷ out_label l (out_forest (indent + 1) f (41 ∷ r)))

  -- each child on a new line
  pub out_forest : ℕ → Forest → List ℕ → List ℕ
  out_forest indent none r = r
  out_forest indent (more t f) r = 10 ∷ out_tree indent t (out_forest indent f r)

-- the whole listing of a tree, with its last line end
abbrev pub written : Tree → List ℕ
written t = out_tree 0 t (10 ∷ [])
