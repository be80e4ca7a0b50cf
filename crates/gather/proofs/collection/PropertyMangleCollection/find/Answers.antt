use Rattle.std.proofs.lemmas.Result.{err_from_is_err_and}
use Rattle.gather.proofs.Found.{found_misshapen, found_walked, page_shaped}
use Rattle.gather.proofs.collection.PropertyMangleCollection.find.Goals as goal

pub returns-in_err-check_shape : goal.returns-in_err-check_shape
returns-in_err-check_shape c =
    let p = err_from_is_err_and c.from_residual.result c.from_residual.ensures.1 in
    rw (p.1, p.2) (found_misshapen c.args.page.now c.args.self.now _ c.in_err-check_shape.ensures)

pub fill-requires : goal.fill-requires
fill-requires c = (page_shaped c.args.page.now.rows.now c.args.page.now.text.now c.in_ok-check_shape.ensures).stands

pub returns : goal.returns
returns c =
    let shaped = page_shaped c.args.page.now.rows.now c.args.page.now.text.now c.in_ok-check_shape.ensures in
    found_walked c.args.page.now c.args.self.now c.fill.new.self c.in_ok-check_shape.ensures shaped c.fill.result (c.fill.ensures shaped.stands)
