-- The steps of the walk over a subtree.
use Rattle.std.proofs.Common.{◌≡◌, ℕ, suc, ◌+◌, ◌-◌, ◌<◌, ◌≤◌, Bool, true, false, List, [], ◌∷◌, map, length, get_or, drop, Ok, Err, sym, ap, ap₂, refl, ◌∙◌, arith, drop_of_length-le, length-drop}
use lib.ListN.{length-map}
use Rattle.std.proofs.lemmas.List.{drop-map, drop_more}
use Rattle.std.proofs.lemmas.Bool.{lt-ltb, le-ltb}
use Rattle.pages.proofs.Judging.{judge_misshapen, judge_deep, judge_on}
use Rattle.pages.specs.declared.kind.Kind.{Kind}
use Rattle.pages.specs.declared.refusal.Refusal.{Refusal}
use Rattle.pages.specs.declared.refusal.Refusal.TheVariants.{Misshapen, Deep}
use Rattle.pages.specs.declared.row.Flags.{Flags}
use Rattle.pages.specs.declared.row.Row.{Row}
use Rattle.pages.specs.declared.shape.Place.{Place}
use Rattle.pages.specs.declared.shape.Place.TheVariants.{Root, Child}
use Rattle.pages.specs.Pending.{Entry, next_place, pend, push, judge, start, Passes, Stops}
use Rattle.pages.specs.Refusals.{answer}
use Rattle.pages.specs.Shape.{shapely}
use Rattle.pages.specs.Trees.{Node, shows, shown}

-- of the children of the node with number `i`, those before `position` are passed, and `next` comes then
pub record Walking (ns : List Node) (k : Kind) (fl : Flags) (children position level i next : ℕ) : Type 0 where
  pub later : i < next
  pub within : next ≤ length ns
  pub onward : (s : List Entry)
      → judge (pend children (Child k fl 0) level s) (i + 1) (drop (i + 1) ns)
      ≡ judge (pend (children - position) (Child k fl position) level s) next (drop next ns)

module _ (ns : List Node) (k : Kind) (fl : Flags) (children level i : ℕ) where
  pub walking_none : i < length ns → Walking ns k fl children 0 level i (i + 1)
  walking_none h =
      let e : children ≡ children - 0 = omega arith in
      record {
        later = omega arith;
        within = omega arith;
        onward = λ s. ap (λ (n : ℕ). judge (pend n (Child k fl 0) level s) (i + 1) (drop (i + 1) ns)) e;
      }

  module _ (position next : ℕ) (w : Walking ns k fl children position level i next) (below : position < children) where
    -- the next child is pending
    pending : (s : List Entry)
        → judge (pend children (Child k fl 0) level s) (i + 1) (drop (i + 1) ns)
        ≡ judge (pend (suc (children - (position + 1))) (Child k fl position) level s) next (drop next ns)
    pending s =
        let e : children - position ≡ suc (children - (position + 1)) = omega arith in
        w.onward s ∙ ap (λ (n : ℕ). judge (pend n (Child k fl position) level s) next (drop next ns)) e

    pub walking_more : (after : ℕ) → Passes ns (Child k fl position) level next after → Walking ns k fl children (position + 1) level i after
    walking_more after p =
        record {
          later = let a = w.later in let b = p.later in omega arith;
          within = p.within;
          onward = λ s. pending s ∙ p.onward (children - (position + 1)) s;
        }

    pub walking_stops : (r : Refusal) → Stops ns (Child k fl position) level next r → (s : List Entry)
        → answer (judge (pend children (Child k fl 0) level s) (i + 1) (drop (i + 1) ns)) ≡ Err r
    walking_stops r p s = ap answer (pending s) ∙ p.refused (children - (position + 1)) s

pub length_shown : (s : List ℕ) (rows : List Row) → length (shown s rows) ≡ length rows
length_shown s rows = length-map rows (shows s)

-- A row that was looked up, and whether it was found shapely.
module _ (t : List ℕ) (rows : List Row) (p : Place) (level i : ℕ) (r : Row) (within : i < length rows) (got : r ≡ get_or rows i r) where
  shown_here : drop i (shown t rows) ≡ shows t r ∷ drop (i + 1) (shown t rows)
  shown_here =
      drop-map (shows t) i rows ∙ ap (map (shows t)) (drop_more rows i r within)
      ∙ ap₂ {B = List Node} (λ (x : Row) (ns : List Node). shows t x ∷ ns) (sym got) (sym (drop-map (shows t) (i + 1) rows))

  judge_here : (n : ℕ) (s : List Entry)
      → judge (pend (suc n) p level s) i (drop i (shown t rows)) ≡ judge (pend (suc n) p level s) i (shows t r ∷ drop (i + 1) (shown t rows))
  judge_here n s = ap (judge (pend (suc n) p level s) i) shown_here

  module _ (found : Bool) (judged : found ≡ shapely (record { place = p; level = level; node = shows t r })) where
    pub stops_misshapen : found ≡ false → Stops (shown t rows) p level i (Misshapen i)
    stops_misshapen f =
        record { refused = λ n s. ap answer (judge_here n s ∙ judge_misshapen (record { place = p; level = level; after = n }) s i (shows t r) (drop (i + 1) (shown t rows)) (sym judged ∙ f)) }

    module _ (fine : found ≡ true) where
      pub stops_deep : 64 < level → Stops (shown t rows) p level i (Deep i)
      stops_deep h =
          record { refused = λ n s. ap answer (judge_here n s ∙ judge_deep (record { place = p; level = level; after = n }) s i (shows t r) (drop (i + 1) (shown t rows)) (sym judged ∙ fine) (lt-ltb 64 level h)) }

      -- the judgement goes on with the children
      judge_children : level ≤ 64 → (n : ℕ) (s : List Entry)
          → judge (pend (suc n) p level s) i (drop i (shown t rows))
          ≡ judge (push (shows t r) (level + 1) (pend n (next_place p) level s)) (i + 1) (drop (i + 1) (shown t rows))
      judge_children h n s =
          judge_here n s ∙ judge_on (record { place = p; level = level; after = n }) s i (shows t r) (drop (i + 1) (shown t rows)) (sym judged ∙ fine) (le-ltb 64 level h)

      pub stops_below : level ≤ 64 → (e : Refusal)
          → ((s : List Entry) → answer (judge (push (shows t r) (level + 1) s) (i + 1) (drop (i + 1) (shown t rows))) ≡ Err e) → Stops (shown t rows) p level i e
      stops_below h e g =
          record { refused = λ n s. ap answer (judge_children h n s) ∙ g (pend n (next_place p) level s) }

      pub passes_all : level ≤ 64 → (position next : ℕ)
          → Walking (shown t rows) r.kind r.flags r.children position (level + 1) i next → r.children ≤ position → Passes (shown t rows) p level i next
      passes_all h position next w all =
          let e : r.children - position ≡ 0 = omega arith in
          record {
            later = w.later;
            within = w.within;
            onward = λ n s. judge_children h n s ∙ w.onward (pend n (next_place p) level s)
                ∙ ap (λ (k : ℕ). judge (pend k (Child r.kind r.flags position) (level + 1) (pend n (next_place p) level s)) next (drop next (shown t rows))) e;
          }

-- nodes are left over where no place is
none_pending : (i : ℕ) (ns : List Node) → 0 < length ns → answer (judge [] i ns) ≡ Err (Misshapen i)
none_pending i [] h = absurd (omega arith)
none_pending i (n ∷ ns) h = refl

-- the answers after the walk over the whole tree
module _ (ns : List Node) where
  pub answer_stopped : (r : Refusal) → Stops ns Root 1 0 r → answer (judge start 0 ns) ≡ Err r
  answer_stopped r p = p.refused 0 []

  pub answer_whole : (next : ℕ) → Passes ns Root 1 0 next → length ns ≤ next → answer (judge start 0 ns) ≡ Ok tt
  answer_whole next p h =
      let e : drop next ns ≡ [] = drop_of_length-le ns h in
      ap answer (p.onward 0 [] ∙ ap (judge [] next) e)

  pub answer_left_over : (next : ℕ) → Passes ns Root 1 0 next → next < length ns → answer (judge start 0 ns) ≡ Err (Misshapen next)
  answer_left_over next p h =
      ap answer (p.onward 0 []) ∙ none_pending next (drop next ns) (omega (arith, length-drop next ns))
