-- Why `go_back` in src/walking.rt keeps its clauses `code` and `cells`.

use Rattle.std.proofs.Common.{ap, ◌∙◌}
use Rattle.ls_code.specs.Code.{Code}
use Rattle.ls_code.specs.Machine.{Machine}
use Rattle.ls_explore.proofs.walking.go_back.Goals as goal

pub returns-clause-code : goal.returns-clause-code
returns-clause-code c =
    let code : Machine → Code = λ m. m.code in
    let keep = c.runs_keep.ensures in
    ap code c.run.ensures ∙ ((keep c.set_back.new.self c.args.ground.now.setup.now).0 ∙ ap code c.set_back.ensures)

pub returns-clause-cells : goal.returns-clause-cells
returns-clause-cells c =
    let limit = λ (m : Machine). m.cells.limit in
    let keep = c.runs_keep.ensures in
    ap limit c.run.ensures ∙ ((keep c.set_back.new.self c.args.ground.now.setup.now).1 ∙ ap limit c.set_back.ensures)
