-- Why `least_below` in src/least.rt keeps its contract.
use Rattle.std.proofs.Common.{length}
use Rattle.ls_checked.specs.Plain.{plain_file}
use Rattle.ls_checked.specs.PlainProgram.{plain_program}
use Rattle.ls_graph.specs.Walks.{IsLeast}
use Rattle.ls_fewest_switches.specs.Levels.{HaveAtLeast}
use Rattle.ls_fewest_switches.proofs.Told.{level_map}
use Rattle.ls_fewest_switches.proofs.least.least_below.Goals as goal

pub returns : goal.returns
returns g c =
    let o = c.args.sought.observer.now in
    let counted = c.args.sought.counted in
    let closing = c.in_ok-closing.closing in
    level_map (g.O.Observer.first o) (g.O.Observer.next o) (g.O.Observer.bad o) c.args.sought.stuck
    (plain_file c.args.file.now) (plain_program c.args.program.now) counted
    (IsLeast counted closing.graph.edges.items (length closing.graph.found.nodes.items) closing.looked.items)
    (HaveAtLeast (g.O.Observer.first o) (g.O.Observer.next o) (g.O.Observer.bad o) c.args.sought.stuck
    (plain_file c.args.file.now) (plain_program c.args.program.now) counted) c.in_ok-closing.ensures c.args.count
    c.in_ok-level.level c.in_ok-level.ensures
