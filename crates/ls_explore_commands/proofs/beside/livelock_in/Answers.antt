-- Why `livelock_in` in src/beside.rt keeps its contract.

use Rattle.std.proofs.Common.{◌≡◌, ◌∙◌, ap, refl}
use Rattle.ls_checked.specs.CheckedTree.{File}
use Rattle.ls_checked.specs.CheckedProgram.{Program}
use Rattle.ls_checked.specs.Plain.{plain_file}
use Rattle.ls_checked.specs.PlainProgram.{plain_program}
use Rattle.ls_types_checked.specs.CheckedFile.{elaborated_file}
use Rattle.ls_progress_laws.specs.Livelocks.{IsLivelock}
use Rattle.ls_translation.specs.Texts.{file_of, program_of}
use Rattle.ls_race_reports.proofs.Same.{at_same}
use Rattle.ls_explore_commands.proofs.LivelockLemmas.{if_some}
use Rattle.ls_explore_commands.proofs.beside.livelock_in.Goals as goal

pub returns : goal.returns
returns c =
    let i = c.args.image.now in
    let file : plain_file c.file.result.now ≡ file_of i =
    ap plain_file c.file.ensures ∙ ap (λ k. (elaborated_file k).file) c.checked.ensures in
    let program : plain_program c.program.result.now ≡ program_of i = ap plain_program c.program.ensures in
    if_some c.in_ok-found.found _ (λ l. IsLivelock (file_of i) (program_of i) l.way.items l.cycle.items)
    (λ l is. at_same (λ (f : File) (p : Program). IsLivelock f p l.way.items l.cycle.items) file program (is refl).is)
    c.in_ok-found.ensures
