-- Why `turning_run` in src/simple_runs.rt keeps its contract.

use Rattle.std.proofs.Common.{◌≡◌, ◌∙◌, ap, arith, length, List, subst, sym, ℕ}
use Rattle.ls_checked.specs.CheckedTree.{File}
use Rattle.ls_checked.specs.CheckedProgram.{Program}
use Rattle.ls_checked.specs.Plain.{plain_file}
use Rattle.ls_checked.specs.PlainProgram.{plain_program}
use Rattle.ls_types_checked.specs.CheckedFile.{elaborated_file}
use Rattle.ls_search_laws.specs.Stepping.{ActAll}
use Rattle.ls_spinning.specs.Turning.{TurnsForEver}
use Rattle.ls_translation.specs.Texts.{file_of, program_of}
use Rattle.ls_race_reports.proofs.Same.{at_same}
use Rattle.ls_explore_commands.proofs.SimpleRuns.{turns_too}
use Rattle.ls_explore_commands.proofs.simple_runs.turning_run.Goals as goal

pub of-requires : goal.of-requires
of-requires c = omega (arith, c.in_ok-steps.ensures.short, ap length c.steps.ensures, c.fits.ensures)

pub returns-clause-acts : goal.returns-clause-acts
returns-clause-acts c =
    let i = c.args.image.now in
    let file : plain_file c.file-file.result.now ≡ file_of i =
    ap plain_file c.file-file.ensures ∙ ap (λ k. (elaborated_file k).file) c.checked.ensures in
    let program : plain_program c.program.result.now ≡ program_of i = ap plain_program c.program.ensures in
    at_same (λ (f : File) (p : Program). ActAll f p c.of.result) file program
    (subst (λ (s : List ℕ). ActAll (plain_file c.file-file.result.now) (plain_program c.program.result.now) s)
    (sym c.of.ensures) c.in_ok-steps.ensures.acts)

pub returns-clause-turns : goal.returns-clause-turns
returns-clause-turns c =
    let i = c.args.image.now in
    let file : plain_file c.file-file.result.now ≡ file_of i =
    ap plain_file c.file-file.ensures ∙ ap (λ k. (elaborated_file k).file) c.checked.ensures in
    let program : plain_program c.program.result.now ≡ program_of i = ap plain_program c.program.ensures in
    let f = plain_file c.file-file.result.now in
    let p = plain_program c.program.result.now in
    at_same (λ (f : File) (p : Program). TurnsForEver f p c.args.found.now → TurnsForEver f p c.of.result) file program
    (λ turns. subst (TurnsForEver f p) (sym c.of.ensures)
    (turns_too f p c.in_ok-steps.steps.items c.steps.result.now c.in_ok-steps.ensures.run c.in_ok-steps.ensures.history
    (subst (TurnsForEver f p) (sym c.steps.ensures) turns)))

pub returns-clause-reads : goal.returns-clause-reads
returns-clause-reads c =
    let i = c.args.image.now in
    let file : plain_file c.file-file.result.now ≡ file_of i =
    ap plain_file c.file-file.ensures ∙ ap (λ k. (elaborated_file k).file) c.checked.ensures in
    let program : plain_program c.program.result.now ≡ program_of i = ap plain_program c.program.ensures in
    c.requires c.of.result
    (at_same (λ (f : File) (p : Program). ActAll f p c.of.result) file program
    (subst (λ (s : List ℕ). ActAll (plain_file c.file-file.result.now) (plain_program c.program.result.now) s)
    (sym c.of.ensures) c.in_ok-steps.ensures.acts))
    (omega (arith, c.in_ok-steps.ensures.short, ap length c.steps.ensures, ap length c.of.ensures, c.fits.ensures))
