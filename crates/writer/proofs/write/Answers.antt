-- The listing was measured, so that it is put whole.
use Rattle.writer.proofs.Outcomes.{page_stands, sized, listed_whole}
use Rattle.writer.proofs.write.Goals as goal

pub put_listing-requires : goal.put_listing-requires
put_listing-requires c = page_stands (sized c.in_ok-len.ensures).page

pub returns : goal.returns
returns c = listed_whole c.in_ok-len.ensures _ c.put_listing.result (c.put_listing.ensures (page_stands (sized c.in_ok-len.ensures).page))
