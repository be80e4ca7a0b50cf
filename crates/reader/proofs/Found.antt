-- Each way in which a reading ends, as its outcome.
use Rattle.std.proofs.Common.{◌≡◌, ℕ, ◌-◌, ◌<◌, true, false, ◌&&◌, leb, List, [], ◌++◌, length, take, drop, replicate, Some, None, Ok, Err, Result, sym, refl, ap, ◌∙◌, subst, arith}
use Rattle.std.proofs.lemmas.List.{take_at}
use Rattle.std.proofs.lemmas.Bool.{and_parts, and_from, le-leb, leb-true, both_ways}
use Rattle.pages.specs.declared.refusal.Refusal.{Refusal}
use Rattle.pages.specs.declared.refusal.Refusal.TheVariants.{Misshapen, Unread, Overfull}
use Rattle.pages.specs.declared.row.Row.{Row}
use Rattle.pages.specs.Trees.{Tree, nodes, shown}
use Rattle.pages.specs.Shape.{tour}
use Rattle.grammar.specs.Grammar.{Listing}
use Rattle.grammar.specs.Reading.{BreaksOff, Outcome, read, unread, misread, overfull, ComesTo, is_unread, is_misread, is_overfull, is_read, Fits, rows_after, text_after, texts, laid, zero_row}
use Rattle.grammar.specs.Scan.{Scan, Memory, ended, broke, run, at_start, after}
use Rattle.grammar.proofs.Puts.{puts, puts_all}
use Rattle.grammar.proofs.Lowest.{lowest}
use Rattle.grammar.proofs.Forms.{listing_runs, length_laid}
use Rattle.grammar.proofs.Shown.{listing_shown, listing_one_tree}
use Rattle.grammar.proofs.Faults.{first_fault, no_fault}
use Rattle.grammar.proofs.Runs.{ended_scan, ended_memory}
use Rattle.grammar.proofs.Ended.{ended_listing}
use Rattle.grammar.proofs.Outcomes.{comes_once}
use Rattle.grammar.proofs.Breaks.{broke_breaks_off, short_breaks_off}
use Rattle.reader.specs.declared.Size.{Size}
use Rattle.reader.specs.Reads.{Reads, Finds, answer_to}
use Rattle.reader.specs.View.{memory_of}

abbrev IsRead : Outcome → Type 0
IsRead (read t) = Unit {0}
IsRead (unread place) = ⊥
IsRead (misread n) = ⊥
IsRead overfull = ⊥

same_tree : (t u : Tree) → ◌≡◌ {A = Outcome} (read t) (read u) → t ≡ u
same_tree t u e = cc

-- the scan and memory in which a listing of this tree ends
abbrev scan_of : Tree → Scan
scan_of t = record { phase = after; stack = []; nodes = length (nodes t); bytes = length (texts (nodes t)); fault = lowest None 0 (tour t) }

abbrev memory_with : Tree → Memory → Memory
memory_with t m = record { rows = puts 0 (laid 0 (nodes t)) m.rows; text = puts 0 (texts (nodes t)) m.text }

record Listed (s : List ℕ) (m : Memory) (a : Scan) (m' : Memory) : Type 0 where
  tree : Tree
  listing : Listing s tree
  scan_is : a ≡ scan_of tree
  memory_is : m' ≡ memory_with tree m

listed : (s : List ℕ) (m : Memory) (a : Scan) (m' : Memory) → run s at_start m ≡ ended a m' → a.phase ≡ after → Listed s m a m'
listed s m a m' e p =
    let (t, l) = ended_listing s m a m' e p in
    let q : ended a m' ≡ ended (scan_of t) (memory_with t m) = sym e ∙ listing_runs s t m l in
    record { tree = t; listing = l; scan_is = ended_scan a (scan_of t) m' (memory_with t m) q; memory_is = ended_memory a (scan_of t) m' (memory_with t m) q }

module _ (s : List ℕ) (rows : List Row) (text : List ℕ) where
  pub found_broke : (place : ℕ) (rows' : List Row) (text' : List ℕ) → place < length s
      → run s at_start (memory_of rows text) ≡ broke (length s - place) → Finds s rows text (Err (Unread place)) rows' text'
  found_broke place rows' text' h e =
      let p : length s - (length s - place) ≡ place = omega arith in
      record {
        outcome = unread place;
        comes = is_unread place (subst (BreaksOff s) p (broke_breaks_off s (memory_of rows text) (length s - place) e));
        answered = refl;
        filled = λ t q. absurd (subst IsRead (sym q) tt);
      }

  module _ (a : Scan) (rows' : List Row) (text' : List ℕ) (e : run s at_start (memory_of rows text) ≡ ended a (memory_of rows' text')) where
    pub found_short : (a.phase ≡ after → ⊥) → Finds s rows text (Err (Unread (length s))) rows' text'
    found_short h =
        record {
          outcome = unread (length s);
          comes = is_unread (length s) (short_breaks_off s (memory_of rows text) a (memory_of rows' text') e h);
          answered = refl;
          filled = λ t q. absurd (subst IsRead (sym q) tt);
        }

    module _ (p : a.phase ≡ after) where
      pub found_fault : (n : ℕ) → a.fault ≡ Some n → Finds s rows text (Err (Misshapen n)) rows' text'
      found_fault n f =
          let l = listed s (memory_of rows text) a (memory_of rows' text') e p in
          record {
            outcome = misread n;
            comes = is_misread l.tree n l.listing (first_fault l.listing n (ap (λ (x : Scan). x.fault) (sym l.scan_is) ∙ f));
            answered = refl;
            filled = λ t q. absurd (subst IsRead (sym q) tt);
          }

      module _ (f : a.fault ≡ None) where
        pub found_overfull : (leb a.nodes (length rows) && (leb a.bytes (length text) && (leb a.nodes 65536 && leb a.bytes 1048576))) ≡ false
            → Finds s rows text (Err Overfull) rows' text'
        found_overfull h =
            let l = listed s (memory_of rows text) a (memory_of rows' text') e p in
            let n : a.nodes ≡ length (nodes l.tree) = ap (λ (x : Scan). x.nodes) l.scan_is in
            let b : a.bytes ≡ length (texts (nodes l.tree)) = ap (λ (x : Scan). x.bytes) l.scan_is in
            let no_room : Fits l.tree (length rows) (length text) → ⊥ =
            λ r. both_ways _ h
            (and_from _ _ (le-leb a.nodes (length rows) (omega (arith, r.rows_handed)))
            (and_from _ _ (le-leb a.bytes (length text) (omega (arith, r.bytes_handed)))
            (and_from _ _ (le-leb a.nodes 65536 (omega (arith, r.rows_limit))) (le-leb a.bytes 1048576 (omega (arith, r.bytes_limit)))))) in
            record {
              outcome = overfull;
              comes = is_overfull l.tree l.listing (no_fault l.listing (ap (λ (x : Scan). x.fault) (sym l.scan_is) ∙ f)) no_room;
              answered = refl;
              filled = λ t q. absurd (subst IsRead (sym q) tt);
            }

        pub found_room : (leb a.nodes (length rows) && (leb a.bytes (length text) && (leb a.nodes 65536 && leb a.bytes 1048576))) ≡ true
            → Finds s rows text (Ok (record { nodes = a.nodes; bytes = a.bytes })) rows' text'
        found_room h =
            let l = listed s (memory_of rows text) a (memory_of rows' text') e p in
            let n : a.nodes ≡ length (nodes l.tree) = ap (λ (x : Scan). x.nodes) l.scan_is in
            let b : a.bytes ≡ length (texts (nodes l.tree)) = ap (λ (x : Scan). x.bytes) l.scan_is in
            let first = and_parts (leb a.nodes (length rows)) _ h in
            let second = and_parts (leb a.bytes (length text)) _ first.1 in
            let third = and_parts (leb a.nodes 65536) (leb a.bytes 1048576) second.1 in
            let room : Fits l.tree (length rows) (length text) =
            record {
              rows_handed = omega (arith, leb-true a.nodes (length rows) first.0);
              rows_limit = omega (arith, leb-true a.nodes 65536 third.0);
              bytes_handed = omega (arith, leb-true a.bytes (length text) second.0);
              bytes_limit = omega (arith, leb-true a.bytes 1048576 third.1);
            } in
            let r : rows' ≡ rows_after (read l.tree) rows =
            ap (λ (m : Memory). m.rows) l.memory_is
            ∙ (puts_all (laid 0 (nodes l.tree)) rows (omega (arith, length_laid 0 (nodes l.tree), room.rows_handed))
            ∙ ap (λ k. laid 0 (nodes l.tree) ++ drop k rows) (length_laid 0 (nodes l.tree))) in
            let t : text' ≡ text_after (read l.tree) text =
            ap (λ (m : Memory). m.text) l.memory_is ∙ puts_all (texts (nodes l.tree)) text room.bytes_handed in
            record {
              outcome = read l.tree;
              comes = is_read l.tree l.listing (no_fault l.listing (ap (λ (x : Scan). x.fault) (sym l.scan_is) ∙ f)) room;
              answered = λ z. Ok (record { nodes = n z; bytes = b z });
              filled = λ u q. subst (λ (v : Tree). (rows' ≡ rows_after (read v) rows) × (text' ≡ text_after (read v) text)) (same_tree l.tree u q) (r, t);
            }

-- the rows and bytes of a read page show its tree
page_holds : (s : List ℕ) (t : Tree) → Listing s t → (rows : List Row) (text : List ℕ)
    → shown (text_after (read t) text) (take (length (nodes t)) (rows_after (read t) rows)) ≡ nodes t
page_holds s t l rows text =
    ap (shown (text_after (read t) text)) (take_at (laid 0 (nodes t)) (drop (length (nodes t)) rows) (length (nodes t)) (length_laid 0 (nodes t)))
    ∙ listing_shown l (drop (length (texts (nodes t))) text)

ok_not_err : (z : Size) (x : Refusal) → ◌≡◌ {A = Result Size Refusal} (Ok z) (Err x) → ⊥
ok_not_err z x e = let n : ◌≡◌ {A = ℕ} 0 1 = cc in omega arith

module _ (s : List ℕ) (rows : List Row) (text : List ℕ) (rows' : List Row) (text' : List ℕ) where
  abbrev Filled : Outcome → Type 0
  Filled o = (t : Tree) → o ≡ read t → (rows' ≡ rows_after (read t) rows) × (text' ≡ text_after (read t) text)

  made : (z : Size) {o : Outcome} → ComesTo s (length rows) (length text) o → Ok z ≡ answer_to o → Filled o → Reads s rows text (Ok z) rows' text'
  made z (is_unread i x) e g = absurd (ok_not_err z (Unread i) e)
  made z (is_misread t n l j) e g = absurd (ok_not_err z (Misshapen n) e)
  made z (is_overfull t l j q) e g = absurd (ok_not_err z Overfull e)
  made z (is_read t l j q) e g =
      let (r, x) = g t refl in
      let page : shown text' (take (length (nodes t)) rows') ≡ nodes t =
      (λ k. shown (x k) (take (length (nodes t)) (r k))) ∙ page_holds s t l rows text in
      record {
        outcome = read t;
        comes = is_read t l j q;
        answered = e;
        rows_are = r;
        text_are = x;
        only = λ o k. comes_once s (length rows) (length text) k (is_read t l j q);
        one_tree = listing_one_tree s;
        holds = λ u w. subst (λ (v : Tree). shown text' (take (length (nodes v)) rows') ≡ nodes v) (same_tree t u w) page;
      }

  refused : (x : Refusal) {o : Outcome} → ComesTo s (length rows) (length text) o → Err x ≡ answer_to o
      → rows' ≡ replicate (length rows) zero_row → text' ≡ replicate (length text) 0 → Reads s rows text (Err x) rows' text'
  refused x (is_read t l j q) e r c = absurd (ok_not_err _ x (sym e))
  refused x (is_unread i y) e r c =
      record {
        outcome = unread i;
        comes = is_unread i y;
        answered = e;
        rows_are = r;
        text_are = c;
        only = λ o k. comes_once s (length rows) (length text) k (is_unread i y);
        one_tree = listing_one_tree s;
        holds = λ u w. absurd (subst IsRead (sym w) tt);
      }
  refused x (is_misread t n l j) e r c =
      record {
        outcome = misread n;
        comes = is_misread t n l j;
        answered = e;
        rows_are = r;
        text_are = c;
        only = λ o k. comes_once s (length rows) (length text) k (is_misread t n l j);
        one_tree = listing_one_tree s;
        holds = λ u w. absurd (subst IsRead (sym w) tt);
      }
  refused x (is_overfull t l j q) e r c =
      record {
        outcome = overfull;
        comes = is_overfull t l j q;
        answered = e;
        rows_are = r;
        text_are = c;
        only = λ o k. comes_once s (length rows) (length text) k (is_overfull t l j q);
        one_tree = listing_one_tree s;
        holds = λ u w. absurd (subst IsRead (sym w) tt);
      }

-- a page that is read stays as it is in the memory
pub reads_made : (s : List ℕ) (rows : List Row) (text : List ℕ) (rows' rows'' : List Row) (text' text'' : List ℕ) (z : Size)
    → Finds s rows text (Ok z) rows' text' → rows'' ≡ rows' → text'' ≡ text' → Reads s rows text (Ok z) rows'' text''
reads_made s rows text rows' rows'' text' text'' z f r c =
    rw (r, c) (made s rows text rows' text' z f.comes f.answered f.filled)

-- a refused reading, once all its memory is cleared
pub reads_refused : (s : List ℕ) (rows : List Row) (text : List ℕ) (x : Refusal) (rows' rows'' : List Row) (text' text'' : List ℕ)
    → Finds s rows text (Err x) rows' text' → length rows' ≡ length rows → length text' ≡ length text
    → rows'' ≡ replicate (length rows') zero_row → text'' ≡ replicate (length text') 0 → Reads s rows text (Err x) rows'' text''
reads_refused s rows text x rows' rows'' text' text'' f m n r c =
    refused s rows text rows'' text'' x f.comes f.answered (r ∙ ap (λ k. replicate k zero_row) m) (c ∙ ap (λ k. replicate k 0) n)
