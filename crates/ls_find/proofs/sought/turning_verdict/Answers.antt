-- Why `turning_verdict` in src/sought.rt keeps its contract.

use Rattle.std.proofs.Common.{◌≡◌, ◌∙◌, Bool, true, false, ap, refl, subst}
use Rattle.std.specs.Prelude.{not}
use Rattle.ls_checked.specs.CheckedTree.{File}
use Rattle.ls_checked.specs.CheckedProgram.{Program}
use Rattle.ls_checked.specs.Plain.{plain_file}
use Rattle.ls_checked.specs.PlainProgram.{plain_program}
use Rattle.ls_endless_calls.specs.Turning.{HasTurning, IsEndless}
use Rattle.ls_specification.specs.Specification.{given_of, spec_file, spec_program}
use Rattle.ls_translation.specs.Texts.{file_of, program_of}
use Rattle.ls_types_checked.specs.CheckedFile.{elaborated_file}
use Rattle.ls_find.proofs.Simpler.{by_same}
use Rattle.ls_find.proofs.sought.turning_verdict.Goals as goal

is_up : (b : Bool) → not b ≡ false → b ≡ true
is_up true down = refl
is_up false down = absurd (up_down down)
  where
    up_down : true ≡ false → ⊥
    up_down h = cc

pub returns-in_ok-schedule-in-After : goal.returns-in_ok-schedule-in-After
returns-in_ok-schedule-in-After c =
    let i = c.args.image.now in
    let file : plain_file c.file-file.result.now ≡ file_of i =
    ap plain_file c.file-file.ensures ∙ ap (λ k. (elaborated_file k).file) c.checked.ensures in
    let program : plain_program c.program.result.now ≡ program_of i = ap plain_program c.program.ensures in
    let s = c.specification_of-specification.result in
    let found = subst (IsEndless (spec_file s) (spec_program s) (plain_file c.file-file.result.now)
    (plain_program c.program.result.now)) c.in-After.is c.in_ok-find_endless.ensures in
    let turns = by_same (λ (sf : File) (sp : Program) (f : File) (p : Program). HasTurning sf sp f p c.in-After.found)
    c.specification_of-specification.ensures.file c.specification_of-specification.ensures.program file program found in
    record {
      asked = is_up c.args.sought.turning c.if-not-sought.false;
      schedule_is = c.in_ok-schedule-in-After.ensures (given_of c.args.given) turns;
    }
