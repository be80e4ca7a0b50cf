-- The check's verdict, then the limits, then whether the listing fits.
use Rattle.std.proofs.Common.{rules}
use Rattle.std.proofs.lemmas.Result.{err_from_is_err_and}
use Rattle.writer.proofs.Outcomes.{checked_page, page_stands, measured_unlawful, measured_beyond, measured_put}
use Rattle.writer.proofs.measure.Goals as goal

pub returns-in_err-check_shape : goal.returns-in_err-check_shape
returns-in_err-check_shape c =
    let p = err_from_is_err_and c.from_residual.result c.from_residual.ensures.1 in rw (p.1, p.2) (measured_unlawful _ _ _ c.in_err-check_shape.ensures)

pub returns-then-not-is_within_limits : goal.returns-then-not-is_within_limits
returns-then-not-is_within_limits c = measured_beyond c.in_ok-check_shape.ensures c.if-not-is_within_limits.ensures

pub put_listing-requires : goal.put_listing-requires
put_listing-requires c = page_stands (checked_page _ c.in_ok-check_shape.ensures)

pub returns : goal.returns
returns c =
    measured_put c.in_ok-check_shape.ensures _ _ c.put_listing.result c.or.result c.if-not-is_within_limits.ensures
    (c.put_listing.ensures (page_stands (checked_page _ c.in_ok-check_shape.ensures)))
    (search rules)
