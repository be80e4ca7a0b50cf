use Rattle.std.proofs.Common.{◌≡◌, Ok, Err, rules}
use Rattle.pages.specs.declared.refusal.Refusal.{Refusal}
use Rattle.reader.specs.declared.Size.{Size}
use Rattle.reader.proofs.Found.{reads_made, reads_refused}
use Rattle.reader.proofs.read.Goals as goal

pub returns-then-is_err-clause-reads : goal.returns-then-is_err-clause-reads
returns-then-is_err-clause-reads c =
    let e : (refusal : Refusal) × (c.fill-found.result ≡ Err refusal) = search rules in
    let same = c.fill-found.ensures.same in
    rw e.1 (reads_refused _ _ _ e.0 _ _ _ _ (rw e.1 at c.fill-found.ensures.finds) same.rows_len same.text_len (search rules) (search rules))

pub returns-else-is_err-clause-reads : goal.returns-else-is_err-clause-reads
returns-else-is_err-clause-reads c =
    let e : (size : Size) × (c.fill-found.result ≡ Ok size) = search rules in
    rw e.1 (reads_made _ _ _ _ _ _ _ e.0 (rw e.1 at c.fill-found.ensures.finds) (search rules) (search rules))
