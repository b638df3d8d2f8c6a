use Rattle.demi_pdpix.proofs.Untouched.{unused}
use Rattle.demi_pdpix.proofs.making.open_sides.Goals as goal

pub end_all-requires-after_bounds : goal.end_all-requires-after_bounds
end_all-requires-after_bounds g c κs = unused _ _ _ _ _ c.in-Ok.ensures.new

pub end_all-requires-in-Err-sending_on-after_bounds : goal.end_all-requires-in-Err-sending_on-after_bounds
end_all-requires-in-Err-sending_on-after_bounds g c κs = unused _ _ _ _ _ c.in_ok-journal.ensures.new

pub end_all-requires-in-Err-after_bounds : goal.end_all-requires-in-Err-after_bounds
end_all-requires-in-Err-after_bounds g c κs = unused _ _ _ _ _ c.in_ok-journal.ensures.new
