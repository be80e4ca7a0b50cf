-- What is found of a page, and what is left of the tables.
use Rattle.std.proofs.Common.{◌≡◌, ℕ, List, [], Ok, Err, Result, sym, refl, ap, ◌∙◌, subst, ⊎_elim, append-nil, arith}
use Rattle.pages.specs.declared.refusal.Refusal.{Refusal}
use Rattle.pages.specs.declared.row.Row.{Row}
use Rattle.pages.specs.declared.shape.Place.TheVariants.{Root}
use Rattle.pages.specs.Refusals.{Checked}
use Rattle.pages.specs.Shape.{Lawful}
use Rattle.pages.specs.Trees.{Node, Tree, tree, nodes, shown}
use Rattle.positions.specs.declared.page.Page.{Page}
use Rattle.gather.specs.declared.collection.PropertyMangleCollection.{PropertyMangleCollection}
use Rattle.gather.specs.Filling.{BothLent}
use Rattle.gather.specs.Gathering.{ComesTo, Filled, Finds, Outcome, WalksWhole, answer, gathered, is_gathered, is_overfull, is_wrong, overfull, size, wrong_name}
use Rattle.gather.specs.Walking.{Stands, setting}
use Rattle.gather.proofs.Outcomes.{checked_once, lawful_shape, one_outcome, refused_shape}

-- Rows that form a lawful tree hold it from the first one on.
pub record Shaped (rows : List Row) (text : List ℕ) : Type 0 where
  pub stands : Stands rows text 0
  pub is : shown text rows ≡ nodes (tree stands.label stands.forest)
  pub lawful : Lawful (tree stands.label stands.forest)

tree_shaped : (rows : List Row) (text : List ℕ) (t : Tree) → shown text rows ≡ nodes t → Lawful t → Shaped rows text
tree_shaped rows text (tree l f) e lawful =
    record {
      stands = record { label = l; forest = f; rest = []; place = Root; level = 1; shows_it = e ∙ sym (append-nil (nodes (tree l f))); fine = lawful };
      is = e;
      lawful = lawful;
    }

pub page_shaped : (rows : List Row) (text : List ℕ) → Checked (shown text rows) (Ok tt) → Shaped rows text
page_shaped rows text c =
    tree_shaped rows text (lawful_shape (shown text rows) c).0 (lawful_shape (shown text rows) c).1 (lawful_shape (shown text rows) c).2

not_gathered : (o : Outcome) (refusal : Refusal) (t : Tree) → Err refusal ≡ answer o → o ≡ gathered t → ⊥
not_gathered o refusal t e f =
    let ok : Err refusal ≡ Ok tt = e ∙ ap answer f in
    let z : ◌≡◌ {A = ℕ} 0 1 = cc in omega arith

module _ (page : Page) (b : PropertyMangleCollection) where
  abbrev ns : List Node
  ns = shown page.text.now page.rows.now

  no_change : BothLent b b
  no_change = record { names = record { lent = refl; as_long = refl }; texts = record { lent = refl; as_long = refl } }

  -- rows of no lawful shape are refused, with nothing changed
  pub found_misshapen : (refusal : Refusal) → Checked ns (Err refusal) → Finds page b b (Err refusal)
  found_misshapen refusal ch =
      let found = refused_shape (setting page) ns (size page b) refusal ch in
      record {
        outcome = found.0;
        comes_to = found.1;
        only = λ o d. one_outcome (setting page) ns (size page b) (checked_once ns (Err refusal) ch) ch.one_tree o found.0 d found.1;
        answered = found.2;
        filled = λ t e. absurd (not_gathered found.0 refusal t found.2 e);
        lent = no_change;
      }

  module _ (after : PropertyMangleCollection) (ch : Checked ns (Ok tt)) (sh : Shaped page.rows.now page.text.now) where
    abbrev whole_tree : Tree
    whole_tree = tree sh.stands.label sh.stands.forest

    with_outcome : (r : Result (Unit {0}) Refusal) (o : Outcome) → ComesTo (setting page) ns (size page b) o → r ≡ answer o → ((t : Tree) → o ≡ gathered t → Filled (setting page) t b after) → BothLent b after → Finds page b after r
    with_outcome r o d e filled lent =
        record {
          outcome = o;
          comes_to = d;
          only = λ p c. one_outcome (setting page) ns (size page b) (checked_once ns (Ok tt) ch) ch.one_tree p o c d;
          answered = e;
          filled = filled;
          lent = lent;
        }

    -- a page of lawful shape is gathered or refused as its walk came out
    pub found_walked : (r : Result (Unit {0}) Refusal) → WalksWhole page whole_tree b after r → Finds page b after r
    found_walked (Ok done) w =
        with_outcome (Ok done) (gathered whole_tree) (is_gathered whole_tree sh.is sh.lawful w.right w.room) refl
        (λ t e. subst (λ u. Filled (setting page) u b after) (same_tree t e) w.filled) w.lent
      where
        same_tree : (t : Tree) → gathered whole_tree ≡ gathered t → whole_tree ≡ t
        same_tree t e = cc
    found_walked (Err refusal) w =
        ⊎_elim
        (λ wrong. with_outcome (Err refusal) (wrong_name refusal) (is_wrong whole_tree refusal sh.is sh.lawful wrong) refl (λ t e. absurd (not_gathered (wrong_name refusal) refusal t refl e)) w.lent)
        (λ none. with_outcome (Err refusal) overfull (is_overfull whole_tree sh.is sh.lawful none.right none.lacking) (ap Err none.overfull_is) (λ t e. absurd (not_gathered overfull refusal t (ap Err none.overfull_is) e)) w.lent)
        w.why
