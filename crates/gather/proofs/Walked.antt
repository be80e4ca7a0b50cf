-- The walks over a tree that stands in rows.
use Rattle.std.proofs.Common.{◌≡◌, ℕ, ◌+◌, ◌-◌, ◌<◌, ◌≤◌, Bool, false, List, [], ◌∷◌, ◌++◌, length, get_or, drop, None, Ok, Err, Result, sym, refl, ap, ◌∙◌, subst, inl, inr, append_assoc, arith, length-append, length-drop}
use lib.ListN.{length-map}
use Rattle.std.proofs.lemmas.List.{append-nil, drop_more}
use Rattle.pages.specs.declared.refusal.Refusal.{Refusal}
use Rattle.pages.specs.declared.row.Flags.{Flags}
use Rattle.pages.specs.declared.row.Row.{Row}
use Rattle.pages.specs.declared.kind.Kind.{Kind}
use Rattle.pages.specs.declared.kind.Kind.TheVariants.{Node as NodeKind}
use Rattle.pages.specs.declared.shape.Place.TheVariants.{Child}
use Rattle.pages.specs.Trees.{astray, Tree, Forest, tree, none, more, count, Node, nodes, nodes_all, shown, shows, text_in}
use Rattle.pages.specs.Shape.{All, Fine, visits, visits_all}
use Rattle.pages.proofs.Fineness.{all_first, all_others, all_front, all_back, fine_text, same_first, same_others, shown_later}
use Rattle.positions.specs.Roles.{Setting, counted, counted_at, occupied, occupied_at}
use Rattle.positions.specs.Walks.{Position, child_walk, walked, walked_all}
use Rattle.gather.specs.declared.collection.PropertyMangleCollection.{PropertyMangleCollection}
use Rattle.gather.specs.declared.note.Shortfall.{Shortfall}
use Rattle.gather.specs.Faults.{AllRight, FirstWrong}
use Rattle.gather.specs.Filling.{BothLent, Moves, Sounds}
use Rattle.gather.specs.Walking.{Stands, Stopped, WalkedOver, Walks, position}
use Rattle.gather.proofs.Moving.{both_lent_then, moves_both, moves_lent, moves_none}

-- a tree has as many positions as nodes
mutual
  pub as_many : (w : Bool) (t : Tree) → length (walked w t) ≡ length (nodes t)
  as_many w (tree l f) = omega (arith, as_many_all w l.kind 0 (count f) f)

  as_many_all : (w : Bool) (k : Kind) (i n : ℕ) (f : Forest) → length (walked_all w k i n f) ≡ length (nodes_all f)
  as_many_all w k i n none = refl
  as_many_all w k i n (more t f) =
      omega (arith, length-append (walked (child_walk w k i n) t) (walked_all w k (i + 1) n f), length-append (nodes t) (nodes_all f), as_many (child_walk w k i n) t, as_many_all w k (i + 1) n f)

-- what positions count and occupy, some after others
module _ (s : Setting) where
  pub counted_append : (ps qs : List Position) → counted s (ps ++ qs) ≡ counted s ps ++ counted s qs
  counted_append [] qs = refl
  counted_append (p ∷ ps) qs = ap (λ ns. counted_at s p ++ ns) (counted_append ps qs) ∙ sym (append_assoc (counted_at s p) (counted s ps) (counted s qs))

  pub occupied_append : (ps qs : List Position) → occupied s (ps ++ qs) ≡ occupied s ps ++ occupied s qs
  occupied_append [] qs = refl
  occupied_append (p ∷ ps) qs = ap (λ ns. occupied_at s p ++ ns) (occupied_append ps qs) ∙ sym (append_assoc (occupied_at s p) (occupied s ps) (occupied s qs))

  all_right_append : (ns ms : List (List ℕ)) → AllRight ns → AllRight ms → AllRight (ns ++ ms)
  all_right_append [] ms p q = q
  all_right_append (n ∷ ns) ms p q = (p.0, all_right_append ns ms p.1 q)

  all_right_front : (ns ms : List (List ℕ)) → AllRight (ns ++ ms) → AllRight ns
  all_right_front [] ms h = tt
  all_right_front (n ∷ ns) ms h = (h.0, all_right_front ns ms h.1)

  all_right_back : (ns ms : List (List ℕ)) → AllRight (ns ++ ms) → AllRight ms
  all_right_back [] ms h = h
  all_right_back (n ∷ ns) ms h = all_right_back ns ms h.1

  right_both : (ps qs : List Position) → AllRight (counted s ps) → AllRight (counted s qs) → AllRight (counted s (ps ++ qs))
  right_both ps qs p q = subst AllRight (sym (counted_append ps qs)) (all_right_append (counted s ps) (counted s qs) p q)

  -- after positions with right names, the first wrong one of the others is the first of all
  wrong_later : (at next : ℕ) (ps qs : List Position) (r : Refusal) → next ≡ at + length ps → AllRight (counted s ps) → FirstWrong s next qs r → FirstWrong s at (ps ++ qs) r
  wrong_later at next [] qs r e right h = subst (λ n. FirstWrong s n qs r) (let z : next ≡ at = omega arith in z) h
  wrong_later at next (p ∷ ps) qs r e right h =
      inr (all_right_front (counted_at s p) (counted s ps) right, wrong_later (at + 1) next ps qs r (omega arith) (all_right_back (counted_at s p) (counted s ps) right) h)

  -- it is so however many positions follow
  wrong_front : (at : ℕ) (ps qs : List Position) (r : Refusal) → FirstWrong s at ps r → FirstWrong s at (ps ++ qs) r
  wrong_front at [] qs r h = absurd h
  wrong_front at (p ∷ ps) qs r (inl h) = inl h
  wrong_front at (p ∷ ps) qs r (inr h) = inr (h.0, wrong_front (at + 1) ps qs r h.1)

  moves_positions : (ps qs : List Position) {c m c' : PropertyMangleCollection} {l k l' : Shortfall} → Moves (counted s ps) (occupied s ps) c m l k → Moves (counted s qs) (occupied s qs) m c' k l' → Moves (counted s (ps ++ qs)) (occupied s (ps ++ qs)) c c' l l'
  moves_positions ps qs {c} {m} {c'} {l} {k} {l'} f g =
      subst (λ names. Moves names (occupied s (ps ++ qs)) c c' l l') (sym (counted_append ps qs))
      (subst (λ texts. Moves (counted s ps ++ counted s qs) texts c c' l l') (sym (occupied_append ps qs)) (moves_both f g))

-- The rows from this one on show so many children of a node, and then the rest.
pub record Brood (rows : List Row) (text : List ℕ) (row number : ℕ) : Type 0 where
  pub kind : Kind
  pub flags : Flags
  pub forest : Forest
  pub rest : List Node
  pub level : ℕ
  pub full : count forest ≡ number
  pub shows_it : shown text (drop row rows) ≡ nodes_all forest ++ rest
  pub fine : All Fine (visits_all kind flags 0 level forest)

-- The children so far: which are left, and where they stand; the positions of the others, whose names are right and
-- were counted, and whose texts were occupied.
pub record Turn {rows : List Row} {text : List ℕ} {row number : ℕ} (b : Brood rows text row number) (s : Setting) (w : Bool)
    (c : PropertyMangleCollection) (l : Shortfall) (turns next : ℕ) (c' : PropertyMangleCollection) (l' : Shortfall) : Type 0 where
  pub left : Forest
  pub done : List Position
  pub counts : turns + count left ≡ number
  pub shows_left : shown text (drop next rows) ≡ nodes_all left ++ b.rest
  pub fine_left : All Fine (visits_all b.kind b.flags turns b.level left)
  pub past : next + length (nodes_all left) ≡ row + length (nodes_all b.forest)
  pub far : next ≡ row + length done
  pub all_of_them : walked_all w b.kind 0 number b.forest ≡ done ++ walked_all w b.kind turns number left
  pub right : AllRight (counted s done)
  pub moves : Moves (counted s done) (occupied s done) c c' l l'

module _ {rows : List Row} {text : List ℕ} {row number : ℕ} (b : Brood rows text row number) (s : Setting) (w : Bool) where
  -- no child is walked
  pub turn_first : (c : PropertyMangleCollection) (l : Shortfall) → Sounds c → Turn b s w c l 0 row c l
  turn_first c l sounds =
      record {
        left = b.forest;
        done = [];
        counts = omega (arith, b.full);
        shows_left = b.shows_it;
        fine_left = b.fine;
        past = refl;
        far = omega arith;
        all_of_them = refl;
        right = tt;
        moves = moves_none c l sounds;
      }

  -- A child is left: it stands where the walk is.
  pub record Next (c : PropertyMangleCollection) (l : Shortfall) (turns next : ℕ) (c' : PropertyMangleCollection) (l' : Shortfall) : Type 0 where
    pub child : Stands rows text next
    pub turn_next : {c'' : PropertyMangleCollection} {l'' : Shortfall} {after : ℕ} → WalkedOver s (child_walk w b.kind turns number) (tree child.label child.forest) next c' c'' l' l'' after → Turn b s w c l (turns + 1) after c'' l''
    pub stop : {c'' : PropertyMangleCollection} (refusal : Refusal) → Stopped s (child_walk w b.kind turns number) (tree child.label child.forest) next c' c'' refusal → FirstWrong s row (walked_all w b.kind 0 number b.forest) refusal × BothLent c c''

  next_from : {c c' : PropertyMangleCollection} {l l' : Shortfall} {turns next : ℕ} (left : Forest) (done : List Position) → turns + count left ≡ number → shown text (drop next rows) ≡ nodes_all left ++ b.rest → All Fine (visits_all b.kind b.flags turns b.level left) → next + length (nodes_all left) ≡ row + length (nodes_all b.forest) → next ≡ row + length done → walked_all w b.kind 0 number b.forest ≡ done ++ walked_all w b.kind turns number left → AllRight (counted s done) → Moves (counted s done) (occupied s done) c c' l l' → turns < number → Next c l turns next c' l'
  next_from none done counts shows_left fine_left past far all_of_them right moves h = absurd (omega arith)
  next_from {c} {c'} {l} {l'} {turns} {next} (more (tree lab g) f) done counts shows_left fine_left past far all_of_them right moves h =
      record {
        child = record {
          label = lab;
          forest = g;
          rest = nodes_all f ++ b.rest;
          place = Child b.kind b.flags turns;
          level = b.level;
          shows_it = shows_left ∙ append_assoc (nodes (tree lab g)) (nodes_all f) b.rest;
          fine = all_front (visits (Child b.kind b.flags turns) b.level (tree lab g)) _ fine_left;
        };
        turn_next = λ v. record {
          left = f;
          done = done ++ walked (child_walk w b.kind turns number) (tree lab g);
          counts = omega arith;
          shows_left = shown_later rows text (nodes (tree lab g)) (nodes_all f ++ b.rest) next _
              (shows_left ∙ append_assoc (nodes (tree lab g)) (nodes_all f) b.rest) v.past;
          fine_left = all_back (visits (Child b.kind b.flags turns) b.level (tree lab g)) _ fine_left;
          past = omega (arith, v.past, length-append (nodes (tree lab g)) (nodes_all f));
          far = omega (arith, v.past, length-append done (walked (child_walk w b.kind turns number) (tree lab g)), as_many (child_walk w b.kind turns number) (tree lab g));
          all_of_them = all_of_them ∙ sym (append_assoc done (walked (child_walk w b.kind turns number) (tree lab g)) (walked_all w b.kind (turns + 1) number f));
          right = right_both s done (walked (child_walk w b.kind turns number) (tree lab g)) right v.right;
          moves = moves_positions s done (walked (child_walk w b.kind turns number) (tree lab g)) moves v.moves;
        };
        stop = λ refusal v. (
          subst (λ ps. FirstWrong s row ps refusal) (sym all_of_them)
              (wrong_later s row next done _ refusal far right (wrong_front s next (walked (child_walk w b.kind turns number) (tree lab g)) (walked_all w b.kind (turns + 1) number f) refusal v.wrong)),
          both_lent_then (moves_lent moves) v.lent,
        );
      }

  -- a child is left as long as there were fewer turns than children
  pub next_turn : {c c' : PropertyMangleCollection} {l l' : Shortfall} {turns next : ℕ} → Turn b s w c l turns next c' l' → turns < number → Next c l turns next c' l'
  next_turn n h = next_from n.left n.done n.counts n.shows_left n.fine_left n.past n.far n.all_of_them n.right n.moves h

  none_left : (f : Forest) → count f ≡ 0 → f ≡ none
  none_left none e = refl
  none_left (more t f) e = absurd (omega arith)

  -- all children are walked
  module _ {c c' : PropertyMangleCollection} {l l' : Shortfall} {turns next : ℕ} (n : Turn b s w c l turns next c' l') (all_done : number ≤ turns) where
    no_child_left : n.left ≡ none
    no_child_left = none_left n.left (omega (arith, n.counts))

    done_are : walked_all w b.kind 0 number b.forest ≡ n.done
    done_are = n.all_of_them ∙ (ap (λ f. n.done ++ walked_all w b.kind turns number f) no_child_left ∙ append-nil n.done)

    pub brood_past : next ≡ row + length (nodes_all b.forest)
    brood_past = omega (arith, n.past, ap (λ f. length (nodes_all f)) no_child_left)

    pub brood_right : AllRight (counted s (walked_all w b.kind 0 number b.forest))
    brood_right = subst (λ ps. AllRight (counted s ps)) (sym done_are) n.right

    pub brood_moves : Moves (counted s (walked_all w b.kind 0 number b.forest)) (occupied s (walked_all w b.kind 0 number b.forest)) c c' l l'
    brood_moves = subst (λ ps. Moves (counted s ps) (occupied s ps) c c' l l') (sym done_are) n.moves

abbrev pub zero_row : Row
zero_row =
    record {
      kind = NodeKind;
      flags = record { optional = false; computed = false; shorthand = false };
      start = 0;
      text = None;
      children = 0;
    }

module _ {rows : List Row} {text : List ℕ} {row : ℕ} (t : Stands rows text row) where
  pub stands_within : row < length rows
  stands_within =
      let e : length rows - row ≡ length (nodes (tree t.label t.forest) ++ t.rest) =
      sym (length-drop row rows) ∙ (sym (length-map (drop row rows) (shows text)) ∙ ap length t.shows_it) in
      omega arith

  stands_split : ◌≡◌ {A = List Node} (shows text (get_or rows row zero_row) ∷ shown text (drop (row + 1) rows))
      (record { label = t.label; children = count t.forest } ∷ (nodes_all t.forest ++ t.rest))
  stands_split = ap (shown text) (sym (drop_more rows row zero_row stands_within)) ∙ t.shows_it

  pub stands_root : shows text (get_or rows row zero_row) ≡ record { label = t.label; children = count t.forest }
  stands_root = same_first _ _ _ _ stands_split

  pub stands_children : shown text (drop (row + 1) rows) ≡ nodes_all t.forest ++ t.rest
  stands_children = same_others _ _ _ _ stands_split

  pub root_kind : (get_or rows row zero_row).kind ≡ t.label.kind
  root_kind = ap (λ (n : Node). n.label.kind) stands_root

  pub root_position : (w : Bool) → position text (get_or rows row zero_row) w ≡ record { label = t.label; as_key = w }
  root_position w = ap (λ (n : Node). record { label = n.label; as_key = w }) stands_root

  pub text_within : text_in text (get_or rows row zero_row).text ≡ astray → ⊥
  text_within e =
      fine_text (record { place = t.place; level = t.level; node = record { label = t.label; children = count t.forest } }) (all_first t.fine)
      (sym (ap (λ (n : Node). n.label.text) stands_root) ∙ e)

  -- the children of the root stand after its row
  abbrev pub brood : Brood rows text (row + 1) (get_or rows row zero_row).children
  brood =
      record {
        kind = t.label.kind;
        flags = t.label.flags;
        forest = t.forest;
        rest = t.rest;
        level = t.level + 1;
        full = sym (ap (λ (n : Node). n.children) stands_root);
        shows_it = stands_children;
        fine = all_others t.fine;
      }

  -- the whole tree, from its root and its children
  module _ (s : Setting) (w : Bool) where
    number_is : (get_or rows row zero_row).children ≡ count t.forest
    number_is = ap (λ (n : Node). n.children) stands_root

    pub stopped_at_child : (refusal : Refusal) (c m c' : PropertyMangleCollection) (l l' : Shortfall)
        → AllRight (counted_at s (position text (get_or rows row zero_row) w)) × Moves (counted_at s (position text (get_or rows row zero_row) w)) (occupied_at s (position text (get_or rows row zero_row) w)) c m l l'
        → FirstWrong s (row + 1) (walked_all w t.label.kind 0 (get_or rows row zero_row).children t.forest) refusal × BothLent m c'
        → Stopped s w (tree t.label t.forest) row c c' refusal
    stopped_at_child refusal c m c' l l' root h =
        record {
          wrong = inr (subst (λ p. AllRight (counted_at s p)) (root_position w) root.0, subst (λ n. FirstWrong s (row + 1) (walked_all w t.label.kind 0 n t.forest) refusal) number_is h.0);
          lent = both_lent_then (moves_lent root.1) h.1;
        }

    pub whole_tree : (c m c' : PropertyMangleCollection) (l k l' : Shortfall) (turns next : ℕ)
        → AllRight (counted_at s (position text (get_or rows row zero_row) w)) × Moves (counted_at s (position text (get_or rows row zero_row) w)) (occupied_at s (position text (get_or rows row zero_row) w)) c m l k
        → (n : Turn brood s w m k turns next c' l') → (get_or rows row zero_row).children ≤ turns
        → WalkedOver s w (tree t.label t.forest) row c c' l l' next
    whole_tree c m c' l k l' turns next root n h =
        record {
          past = omega (arith, brood_past brood s w n h);
          right = all_right_append s (counted_at s own) (counted s below) own_right (subst (λ i. AllRight (counted s (walked_all w t.label.kind 0 i t.forest))) number_is (brood_right brood s w n h));
          moves = moves_both own_moves (subst (λ i. Moves (counted s (walked_all w t.label.kind 0 i t.forest)) (occupied s (walked_all w t.label.kind 0 i t.forest)) m c' k l') number_is (brood_moves brood s w n h));
        }
      where
        own : Position
        own = record { label = t.label; as_key = w }

        below : List Position
        below = walked_all w t.label.kind 0 (count t.forest) t.forest

        own_right : AllRight (counted_at s own)
        own_right = subst (λ p. AllRight (counted_at s p)) (root_position w) root.0

        own_moves : Moves (counted_at s own) (occupied_at s own) c m l k
        own_moves = subst (λ p. Moves (counted_at s p) (occupied_at s p) c m l k) (root_position w) root.1

module _ {rows : List Row} {text : List ℕ} {row number : ℕ} (b : Brood rows text row number) (s : Setting) (w : Bool)
    {c c' : PropertyMangleCollection} {l l' : Shortfall} {turns next : ℕ} (n : Turn b s w c l turns next c' l') (h : turns < number) where
  -- the child that comes next
  abbrev pub child : Stands rows text next
  child = (next_turn b s w n h).child

  abbrev pub ChildWalked : PropertyMangleCollection → Shortfall → Result ℕ Refusal → Type 0
  ChildWalked c'' l'' r = Walks s (child_walk w b.kind turns number) (tree child.label child.forest) next c' c'' l' l'' r

  pub one_more : (c'' : PropertyMangleCollection) (l'' : Shortfall) (r : Result ℕ Refusal) (after : ℕ) → r ≡ Ok after → ChildWalked c'' l'' r → Turn b s w c l (turns + 1) after c'' l''
  one_more c'' l'' r after e x = (next_turn b s w n h).turn_next (subst (λ o. ChildWalked c'' l'' o) e x)

  pub stopped : (c'' : PropertyMangleCollection) (l'' : Shortfall) (r : Result ℕ Refusal) (refusal : Refusal) → r ≡ Err refusal → ChildWalked c'' l'' r → FirstWrong s row (walked_all w b.kind 0 number b.forest) refusal × BothLent c c''
  stopped c'' l'' r refusal e x = (next_turn b s w n h).stop refusal (subst (λ o. ChildWalked c'' l'' o) e x)

-- a tree that stands in rows has no more nodes than there are rows
pub no_more_nodes : {rows : List Row} {text : List ℕ} {row : ℕ} (t : Stands rows text row) → length (nodes (tree t.label t.forest)) ≤ length rows
no_more_nodes {rows} {text} {row} t =
    omega (arith, ap length t.shows_it, length-map (drop row rows) (shows text), length-drop row rows, length-append (nodes (tree t.label t.forest)) t.rest)
