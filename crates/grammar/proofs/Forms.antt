-- The reader over whole forms: it ends in the scan and the memory that the tree determines.
use Rattle.std.proofs.Common.{◌≡◌, ℕ, suc, ◌+◌, ◌-◌, ◌<◌, ◌≤◌, Bool, cond, ◌&&◌, ltb, leb, List, [], ◌∷◌, ◌++◌, length, take, drop, set, replicate, None, Option, sym, refl, ap, ◌∙◌, ap₂, arith, length-append}
use lib.ListN.{length-replicate}
use Rattle.std.proofs.lemmas.Bool.{le-leb, lt-ltb, cond-true}
use Rattle.std.proofs.lemmas.List.{append_assoc}
use Rattle.pages.specs.declared.kind.Kind.{Kind}
use Rattle.pages.specs.declared.kind.Texts.{Texts}
use Rattle.pages.specs.declared.kind.Texts.TheVariants.{Never, Always, Maybe, Childless}
use Rattle.pages.specs.declared.row.Flags.{Flags}
use Rattle.pages.specs.declared.row.Part.{Part}
use Rattle.pages.specs.declared.row.Row.{Row}
use Rattle.pages.specs.declared.shape.Place.{Place}
use Rattle.pages.specs.declared.shape.Place.TheVariants.{Child}
use Rattle.pages.specs.Kinds.{rule}
use Rattle.pages.specs.Trees.{bytes, astray, Tree, Forest, tree, none, more, count, Node, nodes, nodes_all, text_in, shows}
use Rattle.pages.specs.Shape.{shapely, text_right, count_right, flags_right, place_right, visits, visits_all, tour}
use Rattle.grammar.specs.Grammar.{gap, TextPart, textless, quoted, part_text, part_flags, letters_bytes, Head, head, head_label, Form, form, Children, close, child, yield, yield_children, tree_of, forest_of, height, height_children, Listing}
use Rattle.grammar.specs.Reading.{text_of, texts, part_at, row_at, laid, zero_row}
use Rattle.grammar.specs.Scan.{Phase, before, opened, inside, after, Open, Memory, Ran, ended, Step, next, run, at_start, innermost, with_child, place_in, phase_in, fault_after, open_bracket, stuck, quiet, lower}
use Rattle.grammar.proofs.Puts.{puts, puts_append, set_puts}
use Rattle.grammar.proofs.Lowest.{lowest, lowest_append}
use Rattle.grammar.proofs.Heads.{scan, entry, stepped, at_before, at_after, Between, after_start, after_started, after_flags, after_flags_done, after_inside, gap_kept, gap_between, head_read}

mutual
  pub length_visits : (t : Tree) (p : Place) (level : ℕ) → length (visits p level t) ≡ length (nodes t)
  length_visits (tree l f) p level = ap suc (length_visits_all f l.kind l.flags 0 (level + 1))

  length_visits_all : (f : Forest) (k : Kind) (l : Flags) (i level : ℕ) → length (visits_all k l i level f) ≡ length (nodes_all f)
  length_visits_all none k l i level = refl
  length_visits_all (more t f) k l i level =
      length-append (visits (Child k l i) level t) (visits_all k l (i + 1) level f)
      ∙ ap₂ (λ (a b : ℕ). a + b) (length_visits t (Child k l i) level) (length_visits_all f k l (i + 1) level)
      ∙ sym (length-append (nodes t) (nodes_all f))

pub texts_append : (ns os : List Node) → texts (ns ++ os) ≡ texts ns ++ texts os
texts_append [] os = refl
texts_append (n ∷ ns) os =
    ap (λ (x : List ℕ). text_of n.label.text ++ x) (texts_append ns os)
    ∙ sym (append_assoc (text_of n.label.text) (texts ns) (texts os))

pub length_laid : (b : ℕ) (ns : List Node) → length (laid b ns) ≡ length ns
length_laid b [] = refl
length_laid b (n ∷ ns) = ap suc (length_laid (b + length (text_of n.label.text)) ns)

laid_append : (b : ℕ) (ns os : List Node) → laid b (ns ++ os) ≡ laid b ns ++ laid (b + length (texts ns)) os
laid_append b [] os = ap (λ (k : ℕ). laid k os) (omega arith)
laid_append b (n ∷ ns) os =
    let k : ℕ = length (text_of n.label.text) in
    ap (λ (x : List Row). row_at b n ∷ x)
    (laid_append (b + k) ns os
    ∙ ap (λ (c : ℕ). laid (b + k) ns ++ laid c os) (omega (arith, length-append (text_of n.label.text) (texts ns))))

-- the memory after the rows of these nodes from the row `n` on, and their texts from the byte `b` on
abbrev pub wrote : ℕ → ℕ → List Node → Memory → Memory
wrote n b ns m = record { rows = puts n (laid b ns) m.rows; text = puts b (texts ns) m.text }

wrote_append : (n b : ℕ) (ns os : List Node) (m : Memory)
    → wrote (n + length ns) (b + length (texts ns)) os (wrote n b ns m) ≡ wrote n b (ns ++ os) m
wrote_append n b ns os m =
    let R : puts (n + length ns) (laid (b + length (texts ns)) os) (puts n (laid b ns) m.rows) ≡ puts n (laid b (ns ++ os)) m.rows =
    ap (λ (k : ℕ). puts (n + k) (laid (b + length (texts ns)) os) (puts n (laid b ns) m.rows)) (sym (length_laid b ns))
    ∙ sym (puts_append n (laid b ns) (laid (b + length (texts ns)) os) m.rows)
    ∙ ap (λ (x : List Row). puts n x m.rows) (sym (laid_append b ns os)) in
    let T : puts (b + length (texts ns)) (texts os) (puts b (texts ns) m.text) ≡ puts b (texts (ns ++ os)) m.text =
    sym (puts_append b (texts ns) (texts os) m.text) ∙ ap (λ (x : List ℕ). puts b x m.text) (sym (texts_append ns os)) in
    λ i. record { rows = R i; text = T i }

-- whether a text is right does not hang on its bytes
text_kept : (x : TextPart) (b B : ℕ) → b + length (text_of (part_text x)) ≤ B → (q : Texts) (c : ℕ)
    → text_right q c (text_in (replicate B 0) (part_at b (part_text x))) ≡ text_right q c (part_text x)
text_kept textless b B h q c = refl
text_kept (quoted d g ls) b B h q c =
    let k : ℕ = length (letters_bytes ls) in
    let s : List ℕ = take k (drop b (replicate B 0)) in
    ap (text_right q c) (cond-true (leb (b + k) (length (replicate B 0))) (bytes s) astray (le-leb (b + k) (length (replicate B 0)) (omega (arith, length-replicate {A = ℕ} B 0))))
    ∙ bytes_alike q c s (letters_bytes ls)
  where
    bytes_alike : (q : Texts) (c : ℕ) (s t : List ℕ) → text_right q c (bytes s) ≡ text_right q c (bytes t)
    bytes_alike Never c s t = refl
    bytes_alike Always c s t = refl
    bytes_alike Maybe c s t = refl
    bytes_alike Childless c s t = refl

-- the node of a closing bracket is judged as the tree's
shapely_kept : (p : Place) (level : ℕ) (h : Head) (b B i : ℕ) → b + length (text_of (part_text h.text)) ≤ B
    → shapely (record { place = p; level = 1; node = shows (replicate B 0) (entry h.kind (part_flags h.flags) h.start (part_at b (part_text h.text)) i 0).row })
    ≡ shapely (record { place = p; level = level; node = record { label = head_label h; children = i } })
shapely_kept p level h b B i fits =
    ap
    (λ (t : Bool). place_right p h.kind && (t && (count_right (rule h.kind) i && flags_right (rule h.kind) (part_flags h.flags))))
    (text_kept h.text b B fits (rule h.kind).text i)

-- the phases in which a form may begin
pub data Begins : Phase → Type 0 where
  begins_root : Begins before
  begins_child : {u : Phase} → Between u → Begins u

opens : {u : Phase} → Begins u → (s : List Open) (n b : ℕ) (f : Option ℕ) → next (scan u s n b f) 40 ≡ open_bracket (scan u s n b f)
opens begins_root s n b f = refl
opens (begins_child after_start) s n b f = refl
opens (begins_child after_started) s n b f = refl
opens (begins_child after_flags) s n b f = refl
opens (begins_child after_flags_done) s n b f = refl
opens (begins_child after_inside) s n b f = refl

bracket_read : {u : Phase} → Begins u → (s : List Open) (n b : ℕ) (f : Option ℕ) (m : Memory) (r : List ℕ) → length s < 64
    → run (40 ∷ r) (scan u s n b f) m ≡ run r (scan opened (record { row = zero_row; number = n } ∷ innermost with_child s) (n + 1) b f) m
bracket_read {u} w s n b f m r h =
    let to : Step = record { to = scan opened (record { row = zero_row; number = n } ∷ innermost with_child s) (n + 1) b f; effect = quiet } in
    stepped (scan u s n b f) 40 r m to (opens w s n b f ∙ cond-true (ltb (length s) 64) to (stuck (scan u s n b f)) (lt-ltb (length s) 64 h))

-- the rest of a reading, after a form of these parts has closed
abbrev closed : List ℕ → Kind → Flags → ℕ → Option Part → ℕ → ℕ → List Open → ℕ → ℕ → Option ℕ → Memory → Ran
closed r k l at x j i s n b f m =
    run r (scan (phase_in s) s n b (fault_after (entry k l at x i j) s (scan inside s n b f)))
    (record { rows = set m.rows j (entry k l at x i j).row; text = m.text })

close_read : {u : Phase} → Between u → (k : Kind) (l : Flags) (at : ℕ) (x : Option Part) (j i : ℕ) (s : List Open) (n b : ℕ) (f : Option ℕ) (m : Memory) (r : List ℕ)
    → run (41 ∷ r) (scan u (entry k l at x i j ∷ s) n b f) m ≡ closed r k l at x j i s n b f m
unfolding run
close_read after_start k l at x j i s n b f m r = refl
close_read after_started k l at x j i s n b f m r = refl
close_read after_flags k l at x j i s n b f m r = refl
close_read after_flags_done k l at x j i s n b f m r = refl
close_read after_inside k l at x j i s n b f m r = refl

closed_alike : (r : List ℕ) (k : Kind) (l : Flags) (at : ℕ) (x : Option Part) (j : ℕ) (s : List Open) {i i' n n' b b' : ℕ} {f f' : Option ℕ} {m m' : Memory}
    → i ≡ i' → n ≡ n' → b ≡ b' → f ≡ f' → m ≡ m' → closed r k l at x j i s n b f m ≡ closed r k l at x j i' s n' b' f' m'
closed_alike r k l at x j s p q t u v = λ z. closed r k l at x j (p z) s (q z) (t z) (u z) (v z)

-- what the reader has found and written, after the form of a tree
abbrev landed : List ℕ → List Open → ℕ → ℕ → ℕ → Option ℕ → Memory → Tree → Ran
landed r s level n b f m t =
    run r (scan (phase_in s) s (n + length (nodes t)) (b + length (texts (nodes t))) (lowest f n (visits (place_in s) level t))) (wrote n b (nodes t) m)

-- the same, after the last children of a form
abbrev landed_all : List ℕ → Kind → Flags → ℕ → Option Part → ℕ → ℕ → List Open → ℕ → ℕ → ℕ → Option ℕ → Memory → Forest → Ran
landed_all r k l at x j i s level n b f m c =
    closed r k l at x j (i + count c) s (n + length (nodes_all c)) (b + length (texts (nodes_all c))) (lowest f n (visits_all k l i level c)) (wrote n b (nodes_all c) m)

-- one child more
landed_more : (r : List ℕ) (k : Kind) (l : Flags) (at : ℕ) (x : Option Part) (j i : ℕ) (s : List Open) (level n b : ℕ) (f : Option ℕ) (m : Memory) (t : Tree) (c : Forest)
    → landed_all r k l at x j (i + 1) s level (n + length (nodes t)) (b + length (texts (nodes t))) (lowest f n (visits (Child k l (i + 1 - 1)) level t)) (wrote n b (nodes t) m) c
    ≡ landed_all r k l at x j i s level n b f m (more t c)
landed_more r k l at x j i s level n b f m t c =
    closed_alike r k l at x j s
    (omega arith)
    (omega (arith, length-append (nodes t) (nodes_all c)))
    (omega (arith, ap {B = ℕ} length (texts_append (nodes t) (nodes_all c)), length-append (texts (nodes t)) (texts (nodes_all c))))
    (ap₂ (λ (p q : ℕ). lowest (lowest f n (visits (Child k l p) level t)) (n + q) (visits_all k l (i + 1) level c)) (omega arith) (sym (length_visits t (Child k l i) level))
    ∙ sym (lowest_append f n (visits (Child k l i) level t) (visits_all k l (i + 1) level c)))
    (wrote_append n b (nodes t) (nodes_all c) m)

-- a form closes
landed_form : (r : List ℕ) (h : Head) (s : List Open) (level n b : ℕ) (f : Option ℕ) (m : Memory) (c : Forest)
    → landed_all r h.kind (part_flags h.flags) h.start (part_at b (part_text h.text)) n 0 s (level + 1) (n + 1) (b + length (text_of (part_text h.text))) f
    (record { rows = m.rows; text = puts b (text_of (part_text h.text)) m.text }) c
    ≡ landed r s level n b f m (tree (head_label h) c)
landed_form r h s level n b f m c =
    let k : ℕ = length (text_of (part_text h.text)) in
    let ns : List Node = nodes_all c in
    let B : ℕ = b + length (text_of (part_text h.text) ++ texts ns) in
    let F : Option ℕ = lowest f (n + 1) (visits_all h.kind (part_flags h.flags) 0 (level + 1) c) in
    let row : Row = row_at b (record { label = head_label h; children = count c }) in
    let sum : b + k + length (texts ns) ≡ B = omega (arith, length-append (text_of (part_text h.text)) (texts ns)) in
    let shape = shapely_kept (place_in s) level h b B (count c) (omega (arith, length-append (text_of (part_text h.text)) (texts ns))) in
    let R : set (puts (n + 1) (laid (b + k) ns) m.rows) n row ≡ puts (n + 1) (laid (b + k) ns) (set m.rows n row) = set_puts n row (n + 1) (laid (b + k) ns) m.rows (omega arith) in
    let T : puts (b + k) (texts ns) (puts b (text_of (part_text h.text)) m.text) ≡ puts b (text_of (part_text h.text) ++ texts ns) m.text =
    sym (puts_append b (text_of (part_text h.text)) (texts ns) m.text) in
    closed_alike r h.kind (part_flags h.flags) h.start (part_at b (part_text h.text)) n s
    {m = record { rows = puts (n + 1) (laid (b + k) ns) m.rows; text = puts (b + k) (texts ns) (puts b (text_of (part_text h.text)) m.text) }}
    {m' = record { rows = puts (n + 1) (laid (b + k) ns) m.rows; text = puts b (text_of (part_text h.text) ++ texts ns) m.text }}
    (omega arith) (omega arith) sum refl
    (λ i. record { rows = puts (n + 1) (laid (b + k) ns) m.rows; text = T i })
    ∙ (λ i. run r (scan (phase_in s) s (n + length (nodes (tree (head_label h) c))) B (cond (shape i) F (lower F n)))
    (record { rows = R i; text = puts b (text_of (part_text h.text) ++ texts ns) m.text }))

length_innermost : (s : List Open) → length (innermost with_child s) ≡ length s
length_innermost [] = refl
length_innermost (e ∷ s) = refl

mutual
  -- the reader over a form
  pub form_read : (x : Form) {u : Phase} → Begins u → (s : List Open) (level n b : ℕ) (f : Option ℕ) (m : Memory) (r : List ℕ) → length s + height x ≤ 64
      → run (yield x r) (scan u s n b f) m ≡ landed r (innermost with_child s) level n b f m (tree_of x)
  form_read (form h c) w s level n b f m r fits =
      bracket_read w s n b f m (head h (yield_children c r)) (omega arith)
      ∙ head_read (innermost with_child s) (n + 1) b f m n h (yield_children c r) (landed r (innermost with_child s) level n b f m (tree (head_label h) (forest_of c)))
      (λ u v.
      children_read c v h.kind (part_flags h.flags) h.start (part_at b (part_text h.text)) n 0 (innermost with_child s) (level + 1) (n + 1)
      (b + length (text_of (part_text h.text))) f (record { rows = m.rows; text = puts b (text_of (part_text h.text)) m.text }) r
      (omega (arith, length_innermost s))
      ∙ landed_form r h (innermost with_child s) level n b f m (forest_of c))

  -- the reader over the children of a form that are left, and its closing bracket
  children_read : (c : Children) {u : Phase} → Between u → (k : Kind) (l : Flags) (at : ℕ) (x : Option Part) (j i : ℕ) (s : List Open) (level n b : ℕ) (f : Option ℕ) (m : Memory) (r : List ℕ)
      → length s + 1 + height_children c ≤ 64
      → run (yield_children c r) (scan u (entry k l at x i j ∷ s) n b f) m ≡ landed_all r k l at x j i s level n b f m (forest_of c)
  children_read (close g) w k l at x j i s level n b f m r fits =
      gap_between g w (entry k l at x i j ∷ s) n b f m (41 ∷ r) (landed_all r k l at x j i s level n b f m none)
      (λ u v.
      close_read v k l at x j i s n b f m r
      ∙ closed_alike r k l at x j s {f = f} {f' = f} {m = m} {m' = m} (omega arith) (omega arith) (omega arith) refl refl)
  children_read (child g y c) w k l at x j i s level n b f m r fits =
      gap_between g w (entry k l at x i j ∷ s) n b f m (yield y (yield_children c r)) (landed_all r k l at x j i s level n b f m (more (tree_of y) (forest_of c)))
      (λ u v.
      form_read y (begins_child v) (entry k l at x i j ∷ s) level n b f m (yield_children c r) (omega arith)
      ∙ children_read c after_inside k l at x j (i + 1) s level (n + length (nodes (tree_of y))) (b + length (texts (nodes (tree_of y))))
      (lowest f n (visits (Child k l (i + 1 - 1)) level (tree_of y))) (wrote n b (nodes (tree_of y)) m) r (omega arith)
      ∙ landed_more r k l at x j i s level n b f m (tree_of y) (forest_of c))

-- where the reader ends on a listing of the tree
abbrev pub ends_at : Tree → Memory → Ran
ends_at t m =
    ended
    (record { phase = after; stack = []; nodes = length (nodes t); bytes = length (texts (nodes t)); fault = lowest None 0 (tour t) })
    (record { rows = puts 0 (laid 0 (nodes t)) m.rows; text = puts 0 (texts (nodes t)) m.text })

-- a listing is read to its tree
pub listing_runs : (s : List ℕ) (t : Tree) (m : Memory) → Listing s t → run s at_start m
    ≡ ended
    (record { phase = after; stack = []; nodes = length (nodes t); bytes = length (texts (nodes t)); fault = lowest None 0 (tour t) })
    (record { rows = puts 0 (laid 0 (nodes t)) m.rows; text = puts 0 (texts (nodes t)) m.text })
unfolding run
listing_runs s t m y =
    ap (λ (x : List ℕ). run x at_start m) y.bytes_are
    ∙ gap_kept [] 0 0 None m at_before y.before (yield y.root (gap y.after []))
    ∙ form_read y.root begins_root [] 1 0 0 None m (gap y.after []) (omega (arith, y.height_is))
    ∙ gap_kept [] _ _ _ _ at_after y.after []
    ∙ ap₂ (λ (n b : ℕ). ended (scan after [] n b (lowest None 0 (tour (tree_of y.root)))) (wrote 0 0 (nodes (tree_of y.root)) m)) (omega arith) (omega arith)
    ∙ ap (λ (u : Tree). ends_at u m) y.tree_is
