-- Why `run_counted` in src/meeting.rt keeps what `run_live` requires.

use Rattle.ls_live.proofs.Ends.{opened_in_order}
use Rattle.ls_live_trials.proofs.meeting.run_counted.Goals as goal

pub run_live-requires-after_bounds : goal.run_live-requires-after_bounds
run_live-requires-after_bounds g c κs b =
    opened_in_order g.L.Session.seats c.in-Ok.opened.1.items c.in-Ok.ensures.seats c.in-Ok.ensures.seat
