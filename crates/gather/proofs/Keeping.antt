-- What is known of a page holds in later states of its walk.
use Rattle.std.proofs.Common.{◌≡◌, ℕ, ◌<◌, Bool, length, get_or, Result, sym, ap, ◌∙◌, subst, arith}
use Rattle.pages.specs.declared.kind.Kind.{Kind}
use Rattle.pages.specs.declared.refusal.Refusal.{Refusal}
use Rattle.pages.specs.declared.row.Nodes.{Nodes}
use Rattle.pages.specs.Trees.{tree}
use Rattle.positions.specs.Roles.{Setting}
use Rattle.positions.specs.Walks.{child_walk}
use Rattle.gather.specs.declared.collection.PropertyMangleCollection.{PropertyMangleCollection}
use Rattle.gather.specs.declared.gatherer.Gatherer.{Gatherer}
use Rattle.gather.specs.declared.note.Shortfall.{Shortfall}
use Rattle.gather.specs.Gatherers.{Kept, setting_of}
use Rattle.gather.specs.Walking.{Stands, Walks}
use Rattle.gather.proofs.Walked.{Brood, ChildWalked, Turn, brood, child, stands_within, zero_row}

setting_kept : {g m : Gatherer} → Kept g m → setting_of m ≡ setting_of g
setting_kept k = λ i. record { places = (k.starts i).places.now; options = k.options i }

-- A child that is left stands ahead in the rows.
pub record ChildAt (g m : Gatherer) (at next : ℕ) : Type 0 where
  pub here : at < length g.nodes.rows.now
  pub ahead : at < next
  pub as_many : length m.nodes.rows.now ≡ length g.nodes.rows.now
  pub stands : Stands m.nodes.rows.now m.nodes.text.now next

pub child_at : {g m : Gatherer} {at turns next : ℕ} {c : PropertyMangleCollection} {l : Shortfall} {w : Bool} (s : Stands g.nodes.rows.now g.nodes.text.now at)
    → (turn : Turn (brood s) (setting_of g) w c l turns next m.into.now m.lacks) → turns < (get_or g.nodes.rows.now at zero_row).children → Kept g m → ChildAt g m at next
child_at {g} {m} {at} {turns} {next} {c} {l} {w} s turn more kept =
    record {
      here = stands_within s;
      ahead = omega (arith, turn.far);
      as_many = ap (λ (n : Nodes). length n.rows.now) kept.nodes;
      stands = subst (λ (n : Nodes). Stands n.rows.now n.text.now next) (sym kept.nodes) (child (brood s) (setting_of g) w turn more);
    }

-- A child was walked, which is told of the page as it was at first.
pub record ChildDone (g m : Gatherer) {row number turns next : ℕ} {c : PropertyMangleCollection} {l : Shortfall} {w : Bool} (b : Brood g.nodes.rows.now g.nodes.text.now row number)
    (turn : Turn b (setting_of g) w c l turns next m.into.now m.lacks) (more : turns < number) (m' : Gatherer) (r : Result ℕ Refusal) : Type 0 where
  pub kept : Kept g m'
  pub walked : ChildWalked b (setting_of g) w turn more m'.into.now m'.lacks r

pub child_done : {g m m' n : Gatherer} {row number turns next : ℕ} {c : PropertyMangleCollection} {l : Shortfall} {w v : Bool} {r r' : Result ℕ Refusal} (b : Brood g.nodes.rows.now g.nodes.text.now row number)
    (turn : Turn b (setting_of g) w c l turns next m.into.now m.lacks) (more : turns < number) (k : Kind) → Kept g m → b.kind ≡ k → v ≡ child_walk w k turns number → m' ≡ n → r ≡ r' → Kept m n
    → ((t : Stands m.nodes.rows.now m.nodes.text.now next) → Walks (setting_of m) v (tree t.label t.forest) next m.into.now n.into.now m.lacks n.lacks r')
    → ChildDone g m b turn more m' r
child_done {g} {m} {m'} {n} {row} {number} {turns} {next} {c} {l} {w} {v} {r} {r'} b turn more k first same_kind way same_state same_answer later walks =
    record {
      kept = subst (λ (x : Gatherer). Kept g x) (sym same_state)
          (record { nodes = later.nodes ∙ first.nodes; starts = later.starts ∙ first.starts; options = later.options ∙ first.options; same_tables = later.same_tables ∙ first.same_tables });
      walked =
          subst (λ (a : Bool). told a m' r) (way ∙ sym (ap (λ (x : Kind). child_walk w x turns number) same_kind))
          (subst (λ (x : Gatherer). told v x r) (sym same_state) (subst (λ (o : Result ℕ Refusal). told v n o) (sym same_answer) (over_first (child b (setting_of g) w turn more))));
    }
  where
    told : Bool → Gatherer → Result ℕ Refusal → Type 0
    told a x o =
        let t = child b (setting_of g) w turn more in
        Walks (setting_of g) a (tree t.label t.forest) next m.into.now x.into.now m.lacks x.lacks o

    over_first : (t : Stands g.nodes.rows.now g.nodes.text.now next) → Walks (setting_of g) v (tree t.label t.forest) next m.into.now n.into.now m.lacks n.lacks r'
    over_first =
        subst (λ (p : Nodes). (t : Stands p.rows.now p.text.now next) → Walks (setting_of g) v (tree t.label t.forest) next m.into.now n.into.now m.lacks n.lacks r') first.nodes
        (λ t. subst (λ (s : Setting). Walks s v (tree t.label t.forest) next m.into.now n.into.now m.lacks n.lacks r') (setting_kept first) (walks t))
