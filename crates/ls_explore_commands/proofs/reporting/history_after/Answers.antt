-- Why `history_after` in src/reporting.rt keeps its contract.

use Rattle.std.proofs.Common.{◌∙◌, ap, List, ℕ}
use Rattle.ls_meaning.specs.Runs.{source_history}
use Rattle.ls_labels.specs.Names.{names_of}
use Rattle.ls_report.specs.Printing.{run_text}
use Rattle.ls_state.specs.Scene.{Scene}
use Rattle.ls_explore_commands.proofs.reporting.history_after.Goals as goal

pub returns : goal.returns
returns c =
    let ns = names_of c.args.names in
    c.in_ok-text.ensures ∙ ap (run_text ns.program) (c.history.ensures
    ∙ ap (λ (s : Scene). s.history) c.in_ok-scene.ensures.scene
    ∙ ap (λ (s : List ℕ). source_history ns.file ns.program s) c.steps.ensures)
