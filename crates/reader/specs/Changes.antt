-- What a change of the innermost entry's row asks and does.
use Rattle.std.specs.Prelude.{◌≡◌, ◌<◌, ◌-◌, slice_index_or}
use Rattle.std.specs.Borrow.{MutBor}
use Rattle.std.specs.Fn.{Once, FnOnceReturnsAtMut, FnOnceTakesAtMut}
use Rattle.grammar.specs.Scan as scan
use Rattle.grammar.specs.Scan.{restacked, innermost}
use Rattle.pages.specs.declared.row.Row.{Row}
use Rattle.reader.specs.declared.reader.Reader.{Reader}
use Rattle.reader.specs.View.{view, no_open}

module _ {F : Type 0} (call : Once F (MutBor Row × Unit {0}) (Unit {0} × (MutBor Row × Unit {0}))) (f : F) where
  -- f may be called at the innermost row
  abbrev pub Changeable : Reader → Type 0
  Changeable r = 0 < r.depth → FnOnceTakesAtMut call f (slice_index_or r.stack (r.depth - 1) no_open).row

  -- f leaves the row of an entry as g makes it
  pub record Makes (g : scan.Open → scan.Open) : Type 0 where
    pub at : (e : scan.Open) (row : Row) → FnOnceReturnsAtMut call f e.row tt row → record { row = row; number = e.number } ≡ g e

  -- whatever f makes of the innermost entry is what becomes of it
  abbrev pub Changed : Reader → Reader → Type 0
  Changed r r' = (g : scan.Open → scan.Open) → Makes g → view r' ≡ restacked (innermost g (view r).stack) (view r)
