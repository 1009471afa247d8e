-- Why `alone_lines` in src/beside.rt keeps its contract.

use Rattle.std.proofs.Common.{subst}
use Rattle.std.specs.Prelude.{string_bytes}
use Rattle.std.proofs.lemmas.Result.{IfOk-weaker}
use Rattle.ls_alone.specs.Alone.{AreSaid}
use Rattle.ls_explore_reports.specs.ImageNames.{names_in}
use Rattle.ls_image.specs.Images.{program_of_image}
use Rattle.ls_labels.specs.Names.{names_of}
use Rattle.ls_schedule.specs.Reading.{thread_names}
use Rattle.ls_explore_commands.proofs.beside.alone_lines.Goals as goal

pub returns : goal.returns
returns c =
    let i = c.args.image.now in
    IfOk-weaker c.fault_lines.result _
    (λ text. AreSaid (names_in i) (thread_names (program_of_image i)) (string_bytes text))
    (λ text said. subst (λ n. AreSaid n (thread_names (program_of_image i)) (string_bytes text))
    c.names_in.ensures.names
    (subst (λ p. AreSaid (names_of c.names_in.result) (thread_names p) (string_bytes text)) c.names_in.ensures.program
    said))
    c.fault_lines.ensures
