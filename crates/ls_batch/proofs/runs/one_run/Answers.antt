-- Why `one_run` in src/runs.rt keeps its clauses `code` and `cells`.

use Rattle.std.proofs.Common.{ap, ◌∙◌}
use Rattle.ls_code.specs.Code.{Code}
use Rattle.ls_code.specs.Machine.{Machine}
use Rattle.ls_batch.proofs.Replayed.{played_keeps}
use Rattle.ls_batch.proofs.runs.one_run.Goals as goal

pub returns-clause-code : goal.returns-clause-code
returns-clause-code c =
    let code : Machine → Code = λ m. m.code in
    ap code c.run_seed.ensures ∙
    ((played_keeps c.set_back.new.self c.args.threads c.args.seed c.args.drawing c.runs_keep.ensures).0 ∙
    ap code c.set_back.ensures)

pub returns-clause-cells : goal.returns-clause-cells
returns-clause-cells c = ap (λ (m : Machine). m.cells.limit) c.run_seed.ensures ∙
    ((played_keeps c.set_back.new.self c.args.threads c.args.seed c.args.drawing c.runs_keep.ensures).1 ∙
    ap (λ (m : Machine). m.cells.limit) c.set_back.ensures)
