-- What a writing comes to, from the verdict on the rows and from what was put.
use Rattle.std.proofs.Common.{◌≡◌, ℕ, ◌+◌, ◌<◌, ◌≤◌, true, false, ◌&&◌, leb, List, [], ◌∷◌, ◌++◌, length, take, drop, Ok, Err, Result, MatchResult, sym, refl, ap, ◌∙◌, subst, ⊎_elim, append-nil, zero-add, arith}
use Rattle.std.proofs.lemmas.Bool.{and_cases, and_parts, leb-false, leb-true}
use lib.Seq.{sets, sets-eq}
use Rattle.pages.specs.declared.row.Row.{Row}
use Rattle.pages.specs.declared.refusal.Refusal.{Refusal}
use Rattle.pages.specs.declared.refusal.Refusal.TheVariants.{Misshapen, Deep, Overfull}
use Rattle.pages.specs.declared.shape.Place.TheVariants.{Root}
use Rattle.pages.specs.Trees.{Label, Tree, Forest, tree, Node, nodes, shown}
use Rattle.pages.specs.Shape.{Lawful, Verdict, lawful, misshapen, deep, Judged, whole}
use Rattle.pages.specs.Refusals.{Checked}
use Rattle.pages.specs.Refusals as refusals
use Rattle.pages.proofs.OneTree.{nodes_one_tree}
use Rattle.pages.proofs.Verdicts.{judged_once}
use Rattle.grammar.specs.Grammar.{Listing}
use Rattle.grammar.specs.Written.{out_tree, written}
use Rattle.grammar.specs.Reading.{texts, read, is_read}
use Rattle.reader.specs.Reads.{answer_to}
use Rattle.writer.specs.declared.output.Output.{Output}
use Rattle.writer.specs.declared.output.Full.{Full}
use Rattle.writer.specs.Puts.{Wrote, NoRoom}
use Rattle.writer.specs.Walk.{Stands, Formed, Placed, Lists}
use Rattle.writer.specs.Writing.{HasRoom, Outcome, misshapen_at, deep_at, overfull, listed, ComesTo, is_misshapen, is_deep, is_overfull, is_listed, answer, memory_after, Measured, Listed, ReadsBack}
use Rattle.writer.proofs.Putting.{wrote_both, full_after, full_before}
use Rattle.writer.proofs.Spelling.{out_tree_rest}
use Rattle.writer.proofs.Listed.{written_lists}

-- the form and the last line end do not fit, from the first byte on
too_long : (t : Tree) {o : Output} → o.at ≡ 0 → NoRoom (out_tree 0 t [] ++ (10 ∷ [])) o → o.room < length (written t)
too_long t z h = rw (out_tree_rest t 0 (10 ∷ [])) (omega (arith, h.past))

-- the form does not fit, so neither does the listing
pub list_no_form : (t : Tree) {o : Output} → o.at ≡ 0 → NoRoom (out_tree 0 t []) o → o.room < length (written t)
list_no_form t z h = too_long t z (full_before (10 ∷ []) h)

-- the form is written, and the last line end does not fit
pub list_no_end : (t : Tree) {o p : Output} {next : ℕ} → o.at ≡ 0 → Formed t 0 0 o p next → NoRoom (10 ∷ []) p → o.room < length (written t)
list_no_end t z fm h = too_long t z (full_after (10 ∷ []) fm.wrote h)

-- the form, and then the last line end
pub lists_all : (t : Tree) {o p q : Output} {next : ℕ} → o.at ≡ 0 → Formed t 0 0 o p next → Wrote (10 ∷ []) p q → Placed t o.memory.now o.room q.memory.now q.at
lists_all t {o} {p} {q} z fm x =
    let w : Wrote (written t) o q = rw (out_tree_rest t 0 (10 ∷ [])) (wrote_both fm.wrote x) in
    record {
      small = fm.small;
      all = omega (arith, w.moved);
      within = omega (arith, q.within, w.room);
      put = w.put ∙ ap (λ (k : ℕ). sets o.memory.now k (written t)) z;
    }

-- The rows show a lawful tree and nothing more.
pub record Page (ns : List Node) : Type 0 where
  pub label : Label
  pub forest : Forest
  pub shows_it : ns ≡ nodes (tree label forest)
  pub is_lawful : Lawful (tree label forest)

page_of : (ns : List Node) (t : Tree) → ns ≡ nodes t → Lawful t → Page ns
page_of ns (tree l f) e h = record { label = l; forest = f; shows_it = e; is_lawful = h }

judged_page : {ns : List Node} → Judged ns lawful → Page ns
judged_page {ns} (whole t l e) = page_of ns t e l

-- rows that pass the check show a lawful tree
pub checked_page : (ns : List Node) → Checked ns (Ok tt) → Page ns
checked_page ns ch = go ch.verdict ch.judged ch.answered
  where
    go : (v : Verdict) → Judged ns v → Ok tt ≡ refusals.answer v → Page ns
    go lawful j e = judged_page j
    go (misshapen n) j e = absurd (cc)
    go (deep n) j e = absurd (cc)

abbrev pub page_stands : {rows : List Row} {text : List ℕ} → Page (shown text rows) → Stands rows text 0 0
page_stands p =
    record {
      label = p.label;
      forest = p.forest;
      rest = [];
      place = Root;
      shows_it = p.shows_it ∙ sym (append-nil (nodes (tree p.label p.forest)));
      fine = p.is_lawful;
    }

-- a page comes to one outcome
one_outcome : {ns : List Node} {rows text room : ℕ} {o p : Outcome} → ComesTo ns rows text room o → ComesTo ns rows text room p → o ≡ p
one_outcome (is_misshapen m j) (is_misshapen n k) = let e = judged_once j k in cc
one_outcome (is_misshapen m j) (is_deep n k) = let e = judged_once j k in cc
one_outcome (is_misshapen m j) (is_overfull u e l h) = let e = judged_once j (whole u l e) in cc
one_outcome (is_misshapen m j) (is_listed u e l h) = let e = judged_once j (whole u l e) in cc
one_outcome (is_deep m j) (is_misshapen n k) = let e = judged_once j k in cc
one_outcome (is_deep m j) (is_deep n k) = let e = judged_once j k in cc
one_outcome (is_deep m j) (is_overfull u e l h) = let e = judged_once j (whole u l e) in cc
one_outcome (is_deep m j) (is_listed u e l h) = let e = judged_once j (whole u l e) in cc
one_outcome (is_overfull t d i g) (is_misshapen n k) = let e = judged_once (whole t i d) k in cc
one_outcome (is_overfull t d i g) (is_deep n k) = let e = judged_once (whole t i d) k in cc
one_outcome (is_overfull t d i g) (is_overfull u e l h) = refl
one_outcome {rows = rows} {text} {room} (is_overfull t d i g) (is_listed u e l h) =
    absurd (g (subst (λ (y : Tree). HasRoom y rows text room) (nodes_one_tree u t (sym e ∙ d)) h))
one_outcome (is_listed t d i g) (is_misshapen n k) = let e = judged_once (whole t i d) k in cc
one_outcome (is_listed t d i g) (is_deep n k) = let e = judged_once (whole t i d) k in cc
one_outcome {rows = rows} {text} {room} (is_listed t d i g) (is_overfull u e l h) =
    absurd (h (subst (λ (x : Tree). HasRoom x rows text room) (nodes_one_tree t u (sym d ∙ e)) g))
one_outcome (is_listed t d i g) (is_listed u e l h) = ap listed (nodes_one_tree t u (sym d ∙ e))

-- what it comes to, and with that answer
comes : {ns : List Node} {rows text room : ℕ} (o : Outcome) → ComesTo ns rows text room o → Measured ns rows text room (answer o)
comes o c = record { outcome = o; comes_to = c; only = λ p d. one_outcome d c; answered = refl }

same_err : {A B : Type 0} (e d : Refusal) → ◌≡◌ {A = Result A Refusal} (Err e) (Err d) → ◌≡◌ {A = Result B Refusal} (Err e) (Err d)
same_err e d q = let g : e ≡ d = cc in ap Err g

-- rows that do not pass the check are refused as it refuses them
pub measured_unlawful : {ns : List Node} (rows text room : ℕ) {e : Refusal} → Checked ns (Err e) → Measured ns rows text room (Err e)
measured_unlawful {ns} rows text room {e} ch = go ch.verdict ch.judged ch.answered
  where
    go : (v : Verdict) → Judged ns v → Err e ≡ refusals.answer v → Measured ns rows text room (Err e)
    go lawful j q = absurd (cc)
    go (misshapen n) j q = subst (Measured ns rows text room) (sym (same_err e (Misshapen n) q)) (comes (misshapen_at n) (is_misshapen n j))
    go (deep n) j q = subst (Measured ns rows text room) (sym (same_err e (Deep n) q)) (comes (deep_at n) (is_deep n j))

-- a page past a limit, or without room
pub measured_overfull : {ns : List Node} {rows text room : ℕ} (ch : Checked ns (Ok tt))
    → (HasRoom (tree (checked_page ns ch).label (checked_page ns ch).forest) rows text room → ⊥) → Measured ns rows text room (Err Overfull)
measured_overfull {ns} ch h =
    let p = checked_page ns ch in
    comes overfull (is_overfull (tree p.label p.forest) p.shows_it p.is_lawful h)

-- a page with room
measured_listed : {ns : List Node} {rows text room : ℕ} (ch : Checked ns (Ok tt)) (out after : List ℕ) (len : ℕ) → rows ≤ 65536 → text ≤ 1048576
    → Placed (tree (checked_page ns ch).label (checked_page ns ch).forest) out room after len → Measured ns rows text room (Ok len)
measured_listed {ns} {rows} {text} {room} ch out after len rows_limit text_limit l =
    let p = checked_page ns ch in
    let t : Tree = tree p.label p.forest in
    subst (λ (n : ℕ). Measured ns rows text room (Ok n)) (sym l.all)
    (comes (listed t) (is_listed t p.shows_it p.is_lawful
    (record { rows_limit = rows_limit; text_limit = text_limit; listing_room = omega (arith, l.all, l.within) })))

-- a page past a limit
pub measured_beyond : {ns : List Node} {rows text room : ℕ} → Checked ns (Ok tt) → false ≡ (leb rows 65536 && leb text 1048576) → Measured ns rows text room (Err Overfull)
measured_beyond {ns} {rows} {text} ch e =
    measured_overfull ch
    (λ h. ⊎_elim (λ a. omega (arith, h.rows_limit, leb-false _ _ a)) (λ a. omega (arith, h.text_limit, leb-false _ _ a))
    (and_cases (leb rows 65536) (leb text 1048576) (sym e)))

-- a page under the limits, by whether its listing fits
pub measured_put : {ns : List Node} {rows text room : ℕ} (ch : Checked ns (Ok tt)) (out after : List ℕ) (l : Result ℕ Full) (r : Result ℕ Refusal)
    → true ≡ (leb rows 65536 && leb text 1048576)
    → Lists (tree (checked_page ns ch).label (checked_page ns ch).forest) out room after l
    → MatchResult l (λ x. r ≡ Ok x) (λ _. r ≡ Err Overfull) → Measured ns rows text room r
measured_put {ns} {rows} {text} {room} ch out after (Ok len) r within h e =
    let both = and_parts (leb rows 65536) (leb text 1048576) (sym within) in
    rw e (measured_listed ch out after len (leb-true _ _ both.0) (leb-true _ _ both.1) h)
measured_put {ns} {rows} {text} {room} ch out after (Err _) r within h e = rw e (measured_overfull ch (λ k. omega (arith, h, k.listing_room)))

-- A page that was measured: the outcome is its tree's listing, which has room.
pub record Sized {ns : List Node} {rows text room len : ℕ} (m : Measured ns rows text room (Ok len)) : Type 0 where
  pub page : Page ns
  pub outcome_is : m.outcome ≡ listed (tree page.label page.forest)
  pub is_len : len ≡ length (written (tree page.label page.forest))
  pub has_room : len ≤ room

pub sized : {ns : List Node} {rows text room len : ℕ} (m : Measured ns rows text room (Ok len)) → Sized m
sized {ns} {rows} {text} {room} {len} m = go m.outcome m.comes_to m.answered refl
  where
    go : (o : Outcome) → ComesTo ns rows text room o → Ok len ≡ answer o → m.outcome ≡ o → Sized m
    go (misshapen_at n) c q e = absurd (cc)
    go (deep_at n) c q e = absurd (cc)
    go overfull c q e = absurd (cc)
    go (listed (tree l f)) (is_listed _ d h g) q e =
        let n : len ≡ length (written (tree l f)) = cc in
        record {
          page = record { label = l; forest = f; shows_it = d; is_lawful = h };
          outcome_is = e;
          is_len = n;
          has_room = omega (arith, g.listing_room);
        }

same_listed : (t u : Tree) → ◌≡◌ {A = Outcome} (listed t) (listed u) → t ≡ u
same_listed t u e = cc

-- a listing of a lawful tree reads back to it
back : (ns : List Node) (t : Tree) → ns ≡ nodes t → Lawful t → Listing (written t) t → ReadsBack ns t (written t)
back ns t e l x rows text r rows' text' rd fits =
    let only : read t ≡ rd.outcome = rd.only (read t) (is_read t x l fits) in (
      rd.answered ∙ (ap answer_to (sym only) ∙ (λ k. Ok (record { nodes = length (sym e k); bytes = length (texts (sym e k)) }))),
      (λ k. shown text' (take (length (e k)) rows')) ∙ (rd.holds t (sym only) ∙ sym e),
    )

reads_again : {ns : List Node} {rows text room : ℕ} {o : Outcome} → ComesTo ns rows text room o → (t : Tree) → o ≡ listed t → Listing (written t) t
    → ReadsBack ns t (written t)
reads_again (is_misshapen n j) t e x = absurd (cc)
reads_again (is_deep n j) t e x = absurd (cc)
reads_again (is_overfull u d i g) t e x = absurd (cc)
reads_again {ns} (is_listed u d i g) t e x =
    let same : u ≡ t = same_listed u t e in
    back ns t (d ∙ ap nodes same) (subst Lawful same i) x

-- what is put into a measured room is the listing
pub listed_whole : {ns : List Node} {rows text len : ℕ} {out : List ℕ} (m : Measured ns rows text (length out) (Ok len)) (after : List ℕ) (l : Result ℕ Full)
    → Lists (tree (sized m).page.label (sized m).page.forest) out len after l → Listed ns rows text out after (Ok len)
listed_whole {ns} {rows} {text} {len} {out} m after (Err _) l = absurd (omega (arith, (sized m).is_len))
listed_whole {ns} {rows} {text} {len} {out} m after (Ok next) l =
    let t : Tree = tree (sized m).page.label (sized m).page.forest in
    let fits : 0 + length (written t) ≤ length out = omega (arith, (sized m).is_len, (sized m).has_room) in
    let lists : (u : Tree) → m.outcome ≡ listed u → Listing (written u) u =
    λ u e. subst (λ (v : Tree). Listing (written v) v) (same_listed t u (sym (sized m).outcome_is ∙ e)) (written_lists t (sized m).page.is_lawful l.small) in
    record {
      outcome = m.outcome;
      comes_to = m.comes_to;
      only = m.only;
      answered = m.answered;
      left = l.put
          ∙ sets-eq (written t) out 0 fits
          ∙ ap (λ (n : ℕ). written t ++ drop n out) (zero-add (length (written t)))
          ∙ ap (λ (o : Outcome). memory_after o out) (sym (sized m).outcome_is);
      is_listing = lists;
      reads_back = λ u e. reads_again m.comes_to u e (lists u e);
    }
