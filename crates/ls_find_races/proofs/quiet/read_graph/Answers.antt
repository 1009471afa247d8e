-- Why `read_graph` in src/quiet.rt keeps its clauses.

use Rattle.std.proofs.Common.{◌≡◌, ◌∙◌, ap, map}
use Rattle.std.specs.Prelude.{IsTrue}
use Rattle.ls_checked.specs.CheckedTree.{File}
use Rattle.ls_checked.specs.CheckedProgram.{Program}
use Rattle.ls_checked.specs.Plain.{plain_file}
use Rattle.ls_checked.specs.PlainProgram.{plain_program}
use Rattle.ls_race_laws.specs.Meeting.{NeverMeets}
use Rattle.ls_races.specs.Volatile.{volatile_by}
use Rattle.ls_types_checked.specs.CheckedFile.{elaborated_file}
use Rattle.ls_spinning.specs.Told.{IsTurning}
use Rattle.ls_translation.specs.Texts.{file_of, program_of}
use Rattle.ls_race_reports.proofs.Same.{at_same}
use Rattle.ls_find_races.proofs.quiet.read_graph.Goals as goal

pub returns-clause-turning : goal.returns-clause-turning
returns-clause-turning c =
    let i = c.args.image.now in
    let file : plain_file c.file.result.now ≡ file_of i =
    ap plain_file c.file.ensures ∙ ap (λ k. (elaborated_file k).file) c.checked.ensures in
    let program : plain_program c.program.result.now ≡ program_of i = ap plain_program c.program.ensures in
    at_same (λ (f : File) (p : Program). IsTurning f p c.in_ok-told.told.turning) file program
    c.in_ok-told.ensures.turning

pub returns-clause-races : goal.returns-clause-races
returns-clause-races c =
    let i = c.args.image.now in
    let file : plain_file c.file.result.now ≡ file_of i =
    ap plain_file c.file.ensures ∙ ap (λ k. (elaborated_file k).file) c.checked.ensures in
    let program : plain_program c.program.result.now ≡ program_of i = ap plain_program c.program.ensures in
    at_same (λ (f : File) (p : Program). IsTrue c.in_ok-told.told.race_free →
    NeverMeets (volatile_by (map (λ v. v.items) c.args.flags.now)) f p) file program c.in_ok-told.ensures.races
