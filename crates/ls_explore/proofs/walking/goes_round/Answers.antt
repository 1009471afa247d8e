-- Why `goes_round` in src/walking.rt keeps its clause `never`.

use Rattle.std.proofs.Common.{subst}
use Rattle.ls_code.specs.Machine.{Machine}
use Rattle.ls_explore.specs.Bursts.{IsSilentTo}
use Rattle.ls_explore.specs.Walks.{root_of, walked}
use Rattle.ls_explore.proofs.Walks.{round_never}
use Rattle.ls_explore.proofs.walking.goes_round.Goals as goal

pub returns-clause-never : goal.returns-clause-never
returns-clause-never c = λ yes.
    let start : Machine = walked c.args.ground.now.most (root_of c.args.other.now c.args.ground.now.setup.now)
    c.args.place.now.path in
    let back = c.comes_back.ensures.back yes in
    round_never c.args.count back.0 start c.args.machine.now c.go_silently.new.machine c.args.thread c.requires.silent
    (subst (λ z. IsSilentTo c.args.count z c.args.thread c.go_silently.new.machine) c.stand.ensures.at
    (c.go_silently.ensures.silent c.if-not-go_silently.false))
    back.1
