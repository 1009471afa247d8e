-- Why `Reader::pass_opening` in src/groups.rt keeps its clause `passes`.

use Rattle.std.proofs.Common.{◌<◌, ◌≤◌, length, arith}
use Rattle.ls_schedule.specs.Answers.{so_far}
use Rattle.ls_schedule.proofs.Digits.{fails_of}
use Rattle.ls_schedule.proofs.Passed.{opening_fails, opening_passes}
use Rattle.ls_schedule.proofs.groups.Reader.pass_opening.Goals as goal

pub returns-then-len-ge-MOST_GROUPS-clause-passes : goal.returns-then-len-ge-MOST_GROUPS-clause-passes
returns-then-len-ge-MOST_GROUPS-clause-passes c names =
    let full : 8 ≤ length c.args.self.now.open_groups.items = omega arith in
    fails_of _ _ (opening_fails names c.args.self.now.open_groups.items c.args.self.now.filled
    (so_far c.args.self.now.fits c.args.self.now.schedule) c.args.at c.args.text.now c.requires.some
    _ _ c.requires.first full c.as_slice-groups.ensures.value c.outermost_fault.ensures)

pub returns-clause-passes : goal.returns-clause-passes
returns-clause-passes c names =
    let few : length c.args.self.now.open_groups.items < 8 = omega arith in (
      opening_passes names c.args.self.now.open_groups.items c.args.self.now.filled
          (so_far c.args.self.now.fits c.args.self.now.schedule) c.args.at c.args.text.now c.requires.some
          _ _ _ c.requires.first few c.in_ok-open_group.ensures.groups c.in_ok-open_group.ensures.filled
          c.in_ok-open_group.ensures.steps,
      omega arith,
      omega arith,
    )
