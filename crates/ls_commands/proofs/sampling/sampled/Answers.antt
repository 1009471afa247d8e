-- Why `sampled` in src/sampling.rt keeps its contract.

use Rattle.std.proofs.Common.{◌∙◌, ap}
use Rattle.std.proofs.lemmas.Result.{err_from_is_err_and}
use Rattle.ls_schedule.specs.Printing.{schedule_text}
use Rattle.ls_schedule.specs.Reading.{thread_names}
use Rattle.ls_commands.specs.Compiled.{names_of_image}
use Rattle.ls_commands.proofs.SampledLemmas.{sample_fails, sample_tells}
use Rattle.ls_commands.proofs.sampling.sampled.Goals as goal

pub returns-in_err-schedule : goal.returns-in_err-schedule
returns-in_err-schedule c =
    let p = err_from_is_err_and c.from_residual.result c.from_residual.ensures.1 in
    let e = c.in_err-schedule.ensures in
    rw (p.1, p.2) (sample_fails c.args.image.now c.args.cells c.args.seed c.args.drawing c.in_err-schedule.field-0.0
    e.bad_cells e.bad_count)

pub returns : goal.returns
returns c =
    let e = c.in_ok-schedule.ensures in
    let taken = c.in_ok-schedule.schedule in
    let said = c.in_ok-print_schedule.ensures ∙ (ap (λ q. schedule_text (thread_names q) taken) c.program.ensures ∙
    ap (schedule_text (names_of_image c.args.image.now)) e.schedule) in
    sample_tells c.args.image.now c.args.cells c.args.seed c.args.drawing taken _ e.bad_cells e.bad_count said
