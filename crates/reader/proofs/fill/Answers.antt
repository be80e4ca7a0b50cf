use Rattle.std.proofs.Common.{◌≡◌, ℕ, ◌&&◌, leb, length, Ok, Err, sym, ◌∙◌, arith, rules}
use Rattle.pages.specs.declared.refusal.Refusal.TheVariants.{Unread}
use Rattle.reader.specs.View.{view}
use Rattle.reader.proofs.Found.{found_broke, found_short, found_fault, found_overfull, found_room}
use Rattle.reader.proofs.fill.Goals as goal

pub returns-in_err-reader-clause-finds : goal.returns-in_err-reader-clause-finds
returns-in_err-reader-clause-finds c =
    let e : (place : ℕ) × (c.scan.result ≡ Err place) × (c.from_residual.result ≡ Err (Unread place)) = search rules in
    let h = rw e.1 at c.scan.ensures.read in
    rw e.2 (found_broke _ _ _ e.0 _ _ h.0 h.1)

pub returns-then-not-is_done-clause-finds : goal.returns-then-not-is_done-clause-finds
returns-then-not-is_done-clause-finds c =
    let e : c.scan.result ≡ Ok c.in_ok-reader.reader = search rules in
    found_short _ _ _ (view c.in_ok-reader.reader) _ _ (rw e at c.scan.ensures.read) c.if-not-is_done.ensures

pub returns-in-Some-clause-finds : goal.returns-in-Some-clause-finds
returns-in-Some-clause-finds c =
    let e : c.scan.result ≡ Ok c.in_ok-reader.reader = search rules in
    found_fault _ _ _ (view c.in_ok-reader.reader) _ _ (rw e at c.scan.ensures.read) c.if-not-is_done.ensures c.in-Some.node c.in-Some.is

pub returns-then-fits-clause-finds : goal.returns-then-fits-clause-finds
returns-then-fits-clause-finds c =
    let e : c.scan.result ≡ Ok c.in_ok-reader.reader = search rules in
    let r : length c.scan.new.memory.rows.now ≡ length c.args.memory.now.rows.now = omega arith in
    let t : length c.scan.new.memory.text.now ≡ length c.args.memory.now.text.now = omega arith in
    let a = view c.in_ok-reader.reader in
    found_room _ _ _ a _ _ (rw e at c.scan.ensures.read) c.if-not-is_done.ensures c.in_default.is
    ((λ k. leb a.nodes (sym r k) && (leb a.bytes (sym t k) && (leb a.nodes 65536 && leb a.bytes 1048576))) ∙ (sym c.fits.ensures ∙ c.if-fits.true))

pub returns-else-fits-clause-finds : goal.returns-else-fits-clause-finds
returns-else-fits-clause-finds c =
    let e : c.scan.result ≡ Ok c.in_ok-reader.reader = search rules in
    let r : length c.scan.new.memory.rows.now ≡ length c.args.memory.now.rows.now = omega arith in
    let t : length c.scan.new.memory.text.now ≡ length c.args.memory.now.text.now = omega arith in
    let a = view c.in_ok-reader.reader in
    found_overfull _ _ _ a _ _ (rw e at c.scan.ensures.read) c.if-not-is_done.ensures c.in_default.is
    ((λ k. leb a.nodes (sym r k) && (leb a.bytes (sym t k) && (leb a.nodes 65536 && leb a.bytes 1048576))) ∙ (sym c.fits.ensures ∙ c.if-fits.false))
