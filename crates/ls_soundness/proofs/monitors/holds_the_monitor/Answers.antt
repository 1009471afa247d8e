-- Why `holds_the_monitor` in src/monitors.rt keeps its contract.

use Rattle.ls_soundness.proofs.Kept.{holds_the_monitor}
use Rattle.ls_soundness.proofs.monitors.holds_the_monitor.Goals as goal

pub returns : goal.returns
returns c = holds_the_monitor
