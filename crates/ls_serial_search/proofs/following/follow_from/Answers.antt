-- Why `follow_from` in src/following.rt may call `follow_run`.

use Rattle.ls_serial_search.proofs.following.follow_from.Goals as goal

pub follow_run-requires : goal.follow_run-requires
follow_run-requires c = c.in_ok-run.ensures _ c.requires
