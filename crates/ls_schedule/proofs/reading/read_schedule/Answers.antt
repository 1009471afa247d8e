-- Why `read_schedule` in src/reading.rt keeps its contract.

use Rattle.std.proofs.Common.{◌∙◌, map, ap, subst}
use Rattle.ls_schedule.specs.Answers.{Gives, capped_schedule}
use Rattle.ls_schedule.specs.Reading.{schedule_of, thread_name, thread_names}
use Rattle.ls_schedule.proofs.Steps.{plain_read}
use Rattle.ls_schedule.proofs.reading.read_schedule.Goals as goal

pub returns-in-None : goal.returns-in-None
returns-in-None c =
    subst (Gives (λ s. s) c.read_steps.result)
    (ap (λ ts. capped_schedule (map thread_name ts) c.as_bytes-bytes.result.now) c.as_slice-threads.ensures.value
    ∙ plain_read (thread_names c.args.program.now) c.as_bytes-bytes.result.now c.in-None.ensures.version
    ∙ ap (schedule_of (thread_names c.args.program.now)) c.as_bytes-bytes.ensures.value) c.read_steps.ensures
