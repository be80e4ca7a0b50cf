-- From the walk over a whole page to what gathering it gives.
use Rattle.std.proofs.Common.{◌≡◌, ℕ, ◌<◌, ◌≤◌, min, Bool, true, false, ◌&&◌, ◌||◌, leb, List, [], ◌∷◌, map, length, drop, sym, refl, ap, ◌∙◌, subst, inr, ⊎_elim, arith, length-append}
use Rattle.std.proofs.lemmas.Bool.{and_cases, and_parts, false≢true, leb-false, leb-true, or_cases, or_parts}
use Rattle.names.specs.declared.name.Name.{Name}
use Rattle.names.specs.Names.{name_of}
use Rattle.pages.specs.declared.refusal.Refusal.TheVariants.{Overfull}
use Rattle.pages.specs.Trees.{Text, Tree, astray, bytes, nodes, without}
use Rattle.positions.specs.declared.page.Page.{Page}
use Rattle.positions.specs.Roles.{Setting, counted, counted_at, occupied, role_of, text_if}
use Rattle.positions.specs.Walks.{Position, positions}
use Rattle.table.specs.declared.table.Table.{Table}
use Rattle.table.specs.Rows.{cleared, memory, rows}
use Rattle.tally.specs.Counts.{count_sum}
use Rattle.gather.specs.declared.collection.PropertyMangleCollection.{PropertyMangleCollection}
use Rattle.gather.specs.declared.note.Shortfall.{Shortfall}
use Rattle.gather.specs.Counting.{HoldsCounts, HoldsTexts, different, kept, sum_of}
use Rattle.gather.specs.Filling.{BothLent, Fills, Lent, room, tallied, unit_sum}
use Rattle.gather.specs.Gathering.{BrokenOff, HasRoom, Whole, size}
use Rattle.gather.specs.Walking.{WalkedOver, setting}
use Rattle.gather.proofs.Held.{AllShort, counts_length, counts_sum, held_counts, held_texts, kept_short, right_short, texts_length}
use Rattle.gather.proofs.Moving.{both_lent_then, moves_lent}
use Rattle.gather.proofs.Placing.{Places}
use Rattle.gather.proofs.Walked.{as_many}

-- a position counts one name at most
one_at_most : (wanted : Bool) (t : Text) → length (text_if wanted t) ≤ 1
one_at_most wanted without = omega arith
one_at_most true (bytes s) = omega arith
one_at_most false (bytes s) = omega arith
one_at_most wanted astray = omega arith

few_names : (s : Setting) (ps : List Position) → length (counted s ps) ≤ length ps
few_names s [] = omega arith
few_names s (p ∷ ps) = omega (arith, length-append (counted_at s p) (counted s ps), one_at_most (role_of s p).counted p.label.text, few_names s ps)

-- a table that began with no rows
module _ {V : Type 0} (sum : V → V → V) (value : V) (names : List Name) (b f f' : Table Name V) (began : f ≡ cleared b) where
  no_rows : rows f ≡ []
  no_rows = ap rows began

  as_long : length (memory f) ≡ length (memory b)
  as_long = ap (λ t. length (memory t)) began

  lacks_room : (k : ℕ) → length (tallied sum value names []) ≡ k → Fills sum value names f f' false true → k ≤ min 4096 (length (memory b)) → ⊥
  lacks_room k e fills h =
      ⊎_elim false≢true
      (λ lack. omega (arith, as_long, e, subst (λ rs. room f < length (tallied sum value names rs)) no_rows lack))
      (fills.out refl)

  rows_are : Fills sum value names f f' false false → rows f' ≡ tallied sum value names []
  rows_are fills = (fills.on refl).1 ∙ ap (tallied sum value names) no_rows

  has_room : (k : ℕ) → length (tallied sum value names []) ≡ k → Fills sum value names f f' false false → k ≤ min 4096 (length (memory b))
  has_room k e fills =
      let fit : length (rows f') ≤ room f = fills.fitting refl (omega (arith, ap length no_rows)) in
      omega (arith, as_long, ap length (rows_are fills), e, fit)

-- the memory of a table that began with no rows
lent_cleared : {V : Type 0} (b f : Table Name V) → f ≡ cleared b → Lent b f
lent_cleared b f e = record { lent = ap (λ t. t.entries.ghost_name) e; as_long = ap (λ t. length (memory t)) e }

-- A walk from the beginning, over the page's places, and the tables as it left them.
module _ (page : Page) (t : Tree) (b c c' last : PropertyMangleCollection) (f : c.frequencies ≡ cleared b.frequencies) (g : c.occupied ≡ cleared b.occupied)
    (places : Places) (same : places ≡ page.places.now) (over : last ≡ c') where
  names : List (List ℕ)
  names = counted (setting page) (positions t)

  texts : List (List ℕ)
  texts = occupied (setting page) (positions t)

  began : BothLent b c
  began = record { names = lent_cleared b.frequencies c.frequencies f; texts = lent_cleared b.occupied c.occupied g }

  module _ (l l' : Shortfall) (next : ℕ) (nothing : (l.names ≡ false) × (l.texts ≡ false)) (walk : WalkedOver (record { places = places; options = page.options }) false t 0 c c' l l' next) where
    w : WalkedOver (setting page) false t 0 c last (record { names = false; texts = false }) l' next
    w =
        subst (λ (d : PropertyMangleCollection). WalkedOver (setting page) false t 0 c d (record { names = false; texts = false }) l' next) (sym over)
        (subst (λ (k : Shortfall). WalkedOver (setting page) false t 0 c c' k l' next) (λ i. record { names = nothing.0 i; texts = nothing.1 i })
        (subst (λ (ps : Places). WalkedOver (record { places = ps; options = page.options }) false t 0 c c' l l' next) same walk))

    lent_all : BothLent b last
    lent_all = both_lent_then began (moves_lent w.moves)

    broken : (HasRoom (setting page) t (size page b) → ⊥) → BrokenOff page t b last Overfull
    broken lacking = record { why = inr (record { overfull_is = refl; right = w.right; lacking = lacking }); lent = lent_all }

    names_lack : l'.names ≡ true → HasRoom (setting page) t (size page b) → ⊥
    unfolding names
    names_lack e h =
        lacks_room count_sum 1 (map name_of names) b.frequencies c.frequencies last.frequencies f (different names) (counts_length names (right_short names w.right))
        (subst (λ v. Fills count_sum 1 (map name_of names) c.frequencies last.frequencies false v) e w.moves.counting) h.names_room

    texts_lack : l'.texts ≡ true → HasRoom (setting page) t (size page b) → ⊥
    unfolding texts
    texts_lack e h =
        lacks_room unit_sum tt (map name_of (kept texts)) b.occupied c.occupied last.occupied g (different (kept texts)) (texts_length (kept texts) (kept_short texts))
        (subst (λ v. Fills unit_sum tt (map name_of (kept texts)) c.occupied last.occupied false v) e w.moves.occupying) h.texts_room

    -- what has no room is refused
    pub broken_by_room : true ≡ (l'.names || l'.texts) → BrokenOff page t b last Overfull
    broken_by_room e = broken (⊎_elim names_lack texts_lack (or_cases l'.names l'.texts (sym e)))

    -- and so is a page past a limit
    pub broken_by_limit : false ≡ ((leb (length page.rows.now) 65536 && leb (length page.text.now) 1048576) && leb (length page.places.now) 4096) → BrokenOff page t b last Overfull
    broken_by_limit e =
        broken
        (λ h. ⊎_elim
        (λ r. ⊎_elim (λ a. omega (arith, h.rows_limit, leb-false _ _ a)) (λ a. omega (arith, h.text_limit, leb-false _ _ a)) (and_cases (leb (length page.rows.now) 65536) (leb (length page.text.now) 1048576) r))
        (λ a. omega (arith, h.places_limit, leb-false _ _ a))
        (and_cases (leb (length page.rows.now) 65536 && leb (length page.text.now) 1048576) (leb (length page.places.now) 4096) (sym e)))

    -- else the tables are filled
    module _ (on : false ≡ (l'.names || l'.texts)) (within : true ≡ ((leb (length page.rows.now) 65536 && leb (length page.text.now) 1048576) && leb (length page.places.now) 4096))
        (few : length (nodes t) ≤ length page.rows.now) where
      counting : Fills count_sum 1 (map name_of names) c.frequencies last.frequencies false false
      unfolding names
      counting = subst (λ v. Fills count_sum 1 (map name_of names) c.frequencies last.frequencies false v) (or_parts l'.names l'.texts (sym on)).0 w.moves.counting

      occupying : Fills unit_sum tt (map name_of (kept texts)) c.occupied last.occupied false false
      unfolding texts
      occupying = subst (λ v. Fills unit_sum tt (map name_of (kept texts)) c.occupied last.occupied false v) (or_parts l'.names l'.texts (sym on)).1 w.moves.occupying

      limits : (length page.rows.now ≤ 65536) × (length page.text.now ≤ 1048576) × (length page.places.now ≤ 4096)
      limits =
          let a = and_parts (leb (length page.rows.now) 65536 && leb (length page.text.now) 1048576) (leb (length page.places.now) 4096) (sym within) in
          let p = and_parts (leb (length page.rows.now) 65536) (leb (length page.text.now) 1048576) a.0 in
          (leb-true _ _ p.0, leb-true _ _ p.1, leb-true _ _ a.1)

      few_enough : length names ≤ 4294967295
      unfolding names
      few_enough = omega (arith, few_names (setting page) (positions t), as_many false t, limits.0)

      pub whole : Whole page t b last
      unfolding names texts
      whole =
          record {
            right = w.right;
            room = record {
              rows_limit = limits.0;
              text_limit = limits.1;
              places_limit = limits.2;
              names_room = has_room count_sum 1 (map name_of names) b.frequencies c.frequencies last.frequencies f (different names) (counts_length names short) counting;
              texts_room = has_room unit_sum tt (map name_of (kept texts)) b.occupied c.occupied last.occupied g (different (kept texts)) (texts_length (kept texts) (kept_short texts)) occupying;
            };
            filled = record {
              names = subst (λ rs. HoldsCounts names rs) (sym rows_f) (held_counts names short few_enough);
              texts = subst (λ rs. HoldsTexts (kept texts) rs) (sym rows_o) (held_texts (kept texts) (kept_short texts));
              names_within = counting.sound.within;
              texts_within = occupying.sound.within;
              sums = ap sum_of rows_f ∙ counts_sum names short few_enough;
              names_past = counting.kept_memory.past ∙ ap (λ u. drop last.frequencies.len (memory u)) f;
              texts_past = occupying.kept_memory.past ∙ ap (λ u. drop last.occupied.len (memory u)) g;
            };
            lent = lent_all;
          }
        where
          short : AllShort names
          short = right_short names w.right

          rows_f : rows last.frequencies ≡ tallied count_sum 1 (map name_of names) []
          rows_f = rows_are count_sum 1 (map name_of names) b.frequencies c.frequencies last.frequencies f counting

          rows_o : rows last.occupied ≡ tallied unit_sum tt (map name_of (kept texts)) []
          rows_o = rows_are unit_sum tt (map name_of (kept texts)) b.occupied c.occupied last.occupied g occupying
