-- Why `stuck_run` in src/simple_runs.rt keeps its clauses `stuck`, `reads` and `fewest`.

use Rattle.std.proofs.Common.{◌≡◌, ◌∙◌, ap, true}
use Rattle.ls_checked.specs.CheckedTree.{File}
use Rattle.ls_checked.specs.CheckedProgram.{Program}
use Rattle.ls_checked.specs.Plain.{plain_file}
use Rattle.ls_checked.specs.PlainProgram.{plain_program}
use Rattle.ls_types_checked.specs.CheckedFile.{elaborated_file}
use Rattle.ls_fewest_switches.specs.Switches.{HasFewestStuck}
use Rattle.ls_search.specs.Verdicts.{LeavesStuck}
use Rattle.ls_search_laws.specs.Stepping.{ActAll}
use Rattle.ls_translation.specs.Texts.{file_of, program_of}
use Rattle.ls_race_reports.proofs.Same.{at_same}
use Rattle.ls_explore_commands.proofs.SimpleRuns.{kept}
use Rattle.ls_explore_commands.proofs.simple_runs.stuck_run.Goals as goal

pub returns-clause-stuck : goal.returns-clause-stuck
returns-clause-stuck c = λ stuck.
    let i = c.args.image.now in
    let file : plain_file c.file-file.result.now ≡ file_of i =
    ap plain_file c.file-file.ensures ∙ ap (λ k. (elaborated_file k).file) c.checked.ensures in
    let program : plain_program c.program.result.now ≡ program_of i = ap plain_program c.program.ensures in
    let steps = c.in_ok-found.ensures.steps in record {
      acts = kept ActAll file program steps c.in_ok-run.ensures.acts stuck.acts;
      stuck = kept LeavesStuck file program steps c.in_ok-run.ensures.stuck stuck.stuck;
    }

pub returns-clause-reads : goal.returns-clause-reads
returns-clause-reads c = λ acts.
    let i = c.args.image.now in
    let file : plain_file c.file-file.result.now ≡ file_of i =
    ap plain_file c.file-file.ensures ∙ ap (λ k. (elaborated_file k).file) c.checked.ensures in
    let program : plain_program c.program.result.now ≡ program_of i = ap plain_program c.program.ensures in
    c.requires c.in_ok-run.run'.schedule
    (kept ActAll file program c.in_ok-found.ensures.steps c.in_ok-run.ensures.acts acts) c.fits.ensures

pub returns-clause-fewest : goal.returns-clause-fewest
returns-clause-fewest c =
    let i = c.args.image.now in
    let file : plain_file c.file-file.result.now ≡ file_of i =
    ap plain_file c.file-file.ensures ∙ ap (λ k. (elaborated_file k).file) c.checked.ensures in
    let program : plain_program c.program.result.now ≡ program_of i = ap plain_program c.program.ensures in
    at_same (λ (f : File) (p : Program). c.in_ok-run.run'.fewest ≡ true →
    HasFewestStuck f p c.in_ok-run.run'.schedule) file program c.in_ok-run.ensures.fewest
