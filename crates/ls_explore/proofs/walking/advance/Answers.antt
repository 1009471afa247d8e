-- Why `advance` in src/walking.rt keeps its clauses `machine`, `did`, `code` and `cells`.

use Rattle.std.proofs.Common.{ap, ◌∙◌}
use Rattle.ls_code.specs.Code.{Code}
use Rattle.ls_code.specs.Machine.{Machine}
use Rattle.ls_machine.proofs.Back.{runs_keep}
use Rattle.ls_explore.specs.Walks.{tried}
use Rattle.ls_explore.proofs.Walks.{tried_keeps}
use Rattle.ls_explore.proofs.walking.advance.Goals as goal

pub returns-clause-machine : goal.returns-clause-machine
returns-clause-machine c = c.try_thread.ensures.machine ∙ ap (λ m. (tried c.args.count m c.args.thread).machine)
    c.stand.ensures.at

pub returns-clause-did : goal.returns-clause-did
returns-clause-did c = c.try_thread.ensures.did ∙ ap (λ m. (tried c.args.count m c.args.thread).did) c.stand.ensures.at

pub returns-clause-code : goal.returns-clause-code
returns-clause-code c =
    let code : Machine → Code = λ m. m.code in
    ap code c.try_thread.ensures.machine ∙ (tried_keeps runs_keep c.args.count c.stand.new.machine c.args.thread).0 ∙
    c.stand.ensures.code

pub returns-clause-cells : goal.returns-clause-cells
returns-clause-cells c =
    ap (λ (m : Machine). m.cells.limit) c.try_thread.ensures.machine ∙
    (tried_keeps runs_keep c.args.count c.stand.new.machine c.args.thread).1 ∙ c.stand.ensures.cells
