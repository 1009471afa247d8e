-- Why `turning_answer` in src/deciding.rt keeps its contract.

use Rattle.std.proofs.Common.{◌≡◌, subst}
use Rattle.std.specs.Prelude.{string_bytes}
use Rattle.ls_commands.specs.Compiled.{names_of_image}
use Rattle.ls_explore_reports.specs.ImageNames.{names_in}
use Rattle.ls_explore_commands.specs.Reports.{turning_text}
use Rattle.ls_explore_commands.specs.Verdicts.{IsTurning}
use Rattle.ls_explore_commands.proofs.Decisions.{same_text, tells}
use Rattle.ls_explore_commands.proofs.deciding.turning_answer.Goals as goal

pub returns : goal.returns
returns c = λ classes sfile sprogram good extent turns linear free.
    let i = c.args.image.now in
    let e = c.args.extent in
    let run = c.in_ok-run.run' in
    let t = string_bytes c.in_ok-text.text in
    let text = same_text (λ names threads.
    turning_text run.fewest names threads run.schedule e.limit e.states e.complete)
    _ _ _ _ _ c.names_in.ensures.names c.names_in.ensures.program c.in_ok-text.ensures in
    let uncounted = subst
    (λ b. t ≡ turning_text b (names_in i) (names_of_image i) run.schedule e.limit e.states e.complete)
    c.in_ok-run.ensures.uncounted text in
    tells classes sfile sprogram i e.limit _ _ uncounted
    (IsTurning run.schedule e.states e.complete good extent c.in_ok-run.ensures.acts (c.in_ok-run.ensures.turns turns)
    c.in_ok-run.ensures.reads linear free)
