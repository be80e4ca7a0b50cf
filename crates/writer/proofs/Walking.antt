-- The walk over a tree that stands in rows, while its form is written.
use Rattle.std.proofs.Common.{◌≡◌, ℕ, ◌+◌, ◌-◌, ◌<◌, ◌≤◌, List, [], ◌∷◌, ◌++◌, length, get_or, drop, sym, refl, ap, ◌∙◌, subst, append_assoc, append-nil, arith, length-append, length-drop}
use lib.ListN.{length-map}
use Rattle.std.proofs.lemmas.List.{drop_more}
use Rattle.std.proofs.lemmas.Bool.{ltb-false}
use Rattle.pages.specs.declared.row.Row.{Row}
use Rattle.pages.specs.declared.row.Flags.{Flags}
use Rattle.pages.specs.declared.kind.Kind.{Kind}
use Rattle.pages.specs.declared.shape.Place.TheVariants.{Child}
use Rattle.pages.specs.Trees.{astray, Label, Forest, tree, none, more, count, Node, nodes, nodes_all, shown, shows, text_in}
use Rattle.pages.specs.Shape.{All, Fine, visits, visits_all}
use Rattle.pages.proofs.Fineness.{all_first, all_others, all_front, all_back, fine_text, shown_later}
use Rattle.grammar.specs.Reading.{zero_row}
use Rattle.grammar.specs.Written.{out_tree, out_forest}
use Rattle.writer.specs.declared.output.Output.{Output}
use Rattle.writer.specs.Puts.{Wrote, NoRoom}
use Rattle.writer.specs.Walk.{Stands, Small, SmallForest, Formed}
use Rattle.writer.proofs.Putting.{wrote_both, full_after, full_before}
use Rattle.writer.proofs.Spelling.{line, opening, marks, line_parts, tree_parts, out_tree_rest, out_forest_rest}

module _ {rows : List Row} {text : List ℕ} {row indent : ℕ} (s : Stands rows text row indent) where
  pub stands_within : row < length rows
  stands_within =
      let e : length rows - row ≡ length (nodes (tree s.label s.forest) ++ s.rest) =
      sym (length-drop row rows) ∙ sym (length-map (drop row rows) (shows text)) ∙ ap length s.shows_it in
      omega arith

  stands_split : ◌≡◌ {A = List Node} (shows text (get_or rows row zero_row) ∷ shown text (drop (row + 1) rows))
      (record { label = s.label; children = count s.forest } ∷ (nodes_all s.forest ++ s.rest))
  stands_split = ap (shown text) (sym (drop_more rows row zero_row stands_within)) ∙ s.shows_it

  -- the row shows the root, and the next rows its children
  pub stands_root : shows text (get_or rows row zero_row) ≡ record { label = s.label; children = count s.forest }
  stands_root = cc stands_split

  pub stands_children : shown text (drop (row + 1) rows) ≡ nodes_all s.forest ++ s.rest
  stands_children = cc stands_split

  pub stands_shallow : indent < 64
  stands_shallow = omega (arith, ltb-false 64 (indent + 1) (all_first s.fine).1)

  -- the root's text lies within the page's
  pub stands_text : s.label.text ≡ astray → ⊥
  stands_text e =
      fine_text (record { place = s.place; level = indent + 1; node = record { label = s.label; children = count s.forest } }) (all_first s.fine) e

-- The rows from this one on show so many children of a node with this indent, and then the rest.
pub record Brood (rows : List Row) (text : List ℕ) (row indent number : ℕ) : Type 0 where
  pub kind : Kind
  pub flags : Flags
  pub forest : Forest
  pub rest : List Node
  pub counted : count forest ≡ number
  pub shows_it : shown text (drop row rows) ≡ nodes_all forest ++ rest
  pub fine : All Fine (visits_all kind flags 0 (indent + 1 + 1) forest)

-- the bytes of all the children
abbrev pub brood_bytes : {rows : List Row} {text : List ℕ} {row indent number : ℕ} → Brood rows text row indent number → List ℕ
brood_bytes {rows} {text} {row} {indent} s = out_forest (indent + 1) s.forest []

-- The children so far: which are left, and where they stand; what was written, and that what is left gives
-- the rest.
pub record Turn {rows : List Row} {text : List ℕ} {row indent number : ℕ} (s : Brood rows text row indent number)
    (first : Output) (turns : ℕ) (now : Output) (next : ℕ) : Type 0 where
  pub left : Forest
  pub so_far : List ℕ
  pub counted : turns + count left ≡ number
  pub shows_left : shown text (drop next rows) ≡ nodes_all left ++ s.rest
  pub fine_left : All Fine (visits_all s.kind s.flags turns (indent + 1 + 1) left)
  pub past : next + length (nodes_all left) ≡ row + length (nodes_all s.forest)
  pub small : SmallForest left → SmallForest s.forest
  pub wrote : Wrote so_far first now
  pub bytes_are : brood_bytes s ≡ so_far ++ out_forest (indent + 1) left []

-- A child is left: it stands where the walk is, and its form is what comes next.
pub record Next {rows : List Row} {text : List ℕ} {row indent number : ℕ} (s : Brood rows text row indent number)
    (first : Output) (turns : ℕ) (now : Output) (next : ℕ) : Type 0 where
  pub child : Stands rows text next (indent + 1)
  pub no_line : NoRoom (10 ∷ []) now → NoRoom (brood_bytes s) first
  pub no_child : {mid : Output} → Wrote (10 ∷ []) now mid → NoRoom (out_tree (indent + 1) (tree child.label child.forest) []) mid → NoRoom (brood_bytes s) first
  pub turn_next : {mid end : Output} {after : ℕ} → Wrote (10 ∷ []) now mid
      → Formed (tree child.label child.forest) (indent + 1) next mid end after → Turn s first (turns + 1) end after

module _ {rows : List Row} {text : List ℕ} {row indent number : ℕ} (s : Brood rows text row indent number)
    {first now : Output} {turns next : ℕ} (so_far : List ℕ) where
  next_from : (left : Forest) → turns + count left ≡ number → shown text (drop next rows) ≡ nodes_all left ++ s.rest
      → All Fine (visits_all s.kind s.flags turns (indent + 1 + 1) left)
      → next + length (nodes_all left) ≡ row + length (nodes_all s.forest)
      → (SmallForest left → SmallForest s.forest)
      → Wrote so_far first now
      → brood_bytes s ≡ so_far ++ out_forest (indent + 1) left []
      → turns < number → Next s first turns now next
  next_from none counted shows_left fine_left past small wrote bytes_are h = absurd (omega arith)
  next_from (more (tree l g) f) counted shows_left fine_left past small wrote bytes_are h =
      record {
        child = record {
          label = l;
          forest = g;
          rest = nodes_all f ++ s.rest;
          place = Child s.kind s.flags turns;
          shows_it = shows_left ∙ append_assoc (nodes (tree l g)) (nodes_all f) s.rest;
          fine = all_front (visits (Child s.kind s.flags turns) (indent + 1 + 1) (tree l g)) _ fine_left;
        };
        no_line = λ h. rw bytes_are (full_after (10 ∷ out_tree (indent + 1) (tree l g) others) wrote
            (full_before (out_tree (indent + 1) (tree l g) others) h));
        no_child = λ w h. rw bytes_are (full_after (10 ∷ out_tree (indent + 1) (tree l g) others) wrote
            (full_after (out_tree (indent + 1) (tree l g) others) w (rw (out_tree_rest (tree l g) (indent + 1) others) (full_before others h))));
        turn_next = λ w fm. record {
          left = f;
          so_far = so_far ++ ((10 ∷ []) ++ out_tree (indent + 1) (tree l g) []);
          counted = omega arith;
          shows_left = shown_later rows text (nodes (tree l g)) (nodes_all f ++ s.rest) next _
              (shows_left ∙ append_assoc (nodes (tree l g)) (nodes_all f) s.rest) fm.past;
          fine_left = all_back (visits (Child s.kind s.flags turns) (indent + 1 + 1) (tree l g)) _ fine_left;
          past = omega (arith, fm.past, length-append (nodes (tree l g)) (nodes_all f));
          small = λ h. small (fm.small, h);
          wrote = wrote_both wrote (wrote_both w fm.wrote);
          bytes_are = bytes_are
              ∙ ap (λ (x : List ℕ). so_far ++ (10 ∷ x)) (out_tree_rest (tree l g) (indent + 1) others)
              ∙ sym (append_assoc so_far (10 ∷ out_tree (indent + 1) (tree l g) []) others);
        };
      }
    where
      others : List ℕ
      others = out_forest (indent + 1) f []

-- a child is left as long as there were fewer turns than children
pub next_turn : {rows : List Row} {text : List ℕ} {row indent number : ℕ} (s : Brood rows text row indent number)
    {first now : Output} {turns next : ℕ} → Turn s first turns now next → turns < number → Next s first turns now next
next_turn s n h = next_from s n.so_far n.left n.counted n.shows_left n.fine_left n.past n.small n.wrote n.bytes_are h

none_left : (f : Forest) → count f ≡ 0 → f ≡ none
none_left none e = refl
none_left (more t f) e = absurd (omega arith)

-- All children are written.
pub record Done {rows : List Row} {text : List ℕ} {row indent number : ℕ} (s : Brood rows text row indent number) (first last : Output) (next : ℕ) : Type 0 where
  pub past : next ≡ row + length (nodes_all s.forest)
  pub small : SmallForest s.forest
  pub wrote : Wrote (brood_bytes s) first last

pub brood_done : {rows : List Row} {text : List ℕ} {row indent number : ℕ} (s : Brood rows text row indent number)
    {first now : Output} {turns next : ℕ} → Turn s first turns now next → number ≤ turns → Done s first now next
brood_done {indent = indent} s {first} {now} n h =
    let gone : n.left ≡ none = none_left n.left (omega (arith, n.counted)) in
    record {
      past = omega (arith, n.past, ap (λ (f : Forest). length (nodes_all f)) gone);
      small = n.small (subst SmallForest (sym gone) tt);
      wrote = subst (λ (x : List ℕ). Wrote x first now)
          (sym (n.bytes_are ∙ ap (λ (f : Forest). n.so_far ++ out_forest (indent + 1) f []) gone ∙ append-nil n.so_far))
          n.wrote;
    }

module _ {rows : List Row} {text : List ℕ} {row indent : ℕ} (s : Stands rows text row indent) where
  -- the children of the root stand after its row
  abbrev pub brood : Brood rows text (row + 1) indent (get_or rows row zero_row).children
  brood =
      record {
        kind = s.label.kind;
        flags = s.label.flags;
        forest = s.forest;
        rest = s.rest;
        counted = sym (ap (λ (n : Node). n.children) (stands_root s));
        shows_it = stands_children s;
        fine = all_others s.fine;
      }

  pub text_within : text_in text (get_or rows row zero_row).text ≡ astray → ⊥
  text_within e = stands_text s (sym (ap (λ (n : Node). n.label.text) (stands_root s)) ∙ e)

  -- what the root's row shows
  abbrev pub root : Label
  root = (shows text (get_or rows row zero_row)).label

  -- the parts of the form: its opening, what may be absent, its children and the closing bracket
  form_parts : out_tree indent (tree s.label s.forest) [] ≡ opening indent root ++ (marks root ++ (out_forest (indent + 1) s.forest [] ++ (41 ∷ [])))
  form_parts =
      tree_parts indent s.label s.forest []
      ∙ ap (λ (r : List ℕ). line indent s.label ++ r) (out_forest_rest s.forest (indent + 1) (41 ∷ []))
      ∙ ap (λ (n : Node). line indent n.label ++ (out_forest (indent + 1) s.forest [] ++ (41 ∷ []))) (sym (stands_root s))
      ∙ ap (λ (r : List ℕ). r ++ (out_forest (indent + 1) s.forest [] ++ (41 ∷ []))) (line_parts indent root)
      ∙ append_assoc (opening indent root) (marks root) (out_forest (indent + 1) s.forest [] ++ (41 ∷ []))

  -- one of them does not fit
  pub no_opening : {o : Output} → NoRoom (opening indent root) o → NoRoom (out_tree indent (tree s.label s.forest) []) o
  no_opening h = rw form_parts (full_before _ h)

  module _ {o p : Output} (u : Wrote (opening indent root) o p) where
    pub no_marks : NoRoom (marks root) p → NoRoom (out_tree indent (tree s.label s.forest) []) o
    no_marks h = rw form_parts (full_after _ u (full_before _ h))

    module _ {q : Output} (v : Wrote (marks root) p q) where
      pub no_children : NoRoom (out_forest (indent + 1) s.forest []) q → NoRoom (out_tree indent (tree s.label s.forest) []) o
      no_children h = rw form_parts (full_after _ u (full_after _ v (full_before _ h)))

      module _ {last : Output} {next : ℕ} (d : Done brood q last next) where
        pub no_bracket : NoRoom (41 ∷ []) last → NoRoom (out_tree indent (tree s.label s.forest) []) o
        no_bracket h = rw form_parts (full_after _ u (full_after _ v (full_after _ d.wrote h)))

        -- all of them are written
        pub formed : {end : Output} → Small root → Wrote (41 ∷ []) last end → Formed (tree s.label s.forest) indent row o end next
        formed small x =
            record {
              past = omega (arith, d.past);
              small = (subst Small (ap (λ (n : Node). n.label) (stands_root s)) small, d.small);
              wrote = rw form_parts (wrote_both u (wrote_both v (wrote_both d.wrote x)));
            }
