-- Why `acting_schedule` in src/sought.rt keeps its contract and what `Schedule::of` requires.

use Rattle.std.proofs.Common.{◌≡◌, ◌∙◌, ap, arith, length, List, subst, sym, ℕ}
use Rattle.ls_checked.specs.CheckedTree.{File}
use Rattle.ls_checked.specs.CheckedProgram.{Program}
use Rattle.ls_checked.specs.Plain.{plain_file}
use Rattle.ls_checked.specs.PlainProgram.{plain_program}
use Rattle.ls_types_checked.specs.CheckedFile.{elaborated_file}
use Rattle.ls_translation.specs.Texts.{file_of, program_of}
use Rattle.ls_find.specs.Verdicts.{HasTurns, IsBadSchedule}
use Rattle.ls_find.specs.declared.verdict.Reason.TheVariants.{Turns}
use Rattle.ls_find.proofs.Simpler.{at_same}
use Rattle.ls_find.proofs.Turned.{still_turning}
use Rattle.ls_find.proofs.sought.acting_schedule.Goals as goal

pub of-requires : goal.of-requires
of-requires c = omega (arith, c.in_ok-steps.ensures.short, ap length c.steps.ensures, c.fits.ensures)

pub returns : goal.returns
returns c =
    let i = c.args.image.now in
    let file : plain_file c.file-file.result.now ≡ file_of i =
    ap plain_file c.file-file.ensures ∙ ap (λ k. (elaborated_file k).file) c.checked.ensures in
    let program : plain_program c.program.result.now ≡ program_of i = ap plain_program c.program.ensures in
    let f = plain_file c.file-file.result.now in
    let p = plain_program c.program.result.now in
    let steps = c.in_ok-steps.steps.items in
    λ given. at_same (λ (f : File) (p : Program). HasTurns given f p c.args.found.now →
    IsBadSchedule Turns given f p c.of.result) file program
    (λ turns. subst (λ (s : List ℕ). IsBadSchedule Turns given f p s) (sym c.of.ensures) (record {
      bad = still_turning f p c.steps.result.now steps c.in_ok-steps.ensures.run c.in_ok-steps.ensures.history given
          (subst (HasTurns given f p) (sym c.steps.ensures) turns);
      acts = c.in_ok-steps.ensures.acts;
    }))
