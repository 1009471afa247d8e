-- Why `follow_schedule` in src/machine_steps.rt keeps its clauses `unfit` and `steps` and its loop `step`.

use Rattle.std.proofs.Common.{◌≡◌, ◌≤◌, length, map, rules, arith, ap, subst, ◌∙◌}
use Rattle.std.proofs.lemmas.List.{length-map}
use Rattle.ls_checked.specs.CheckedTree.{File}
use Rattle.ls_checked.specs.Plain.{plain_class, plain_file}
use Rattle.ls_checked.specs.PlainProgram.{plain_name}
use Rattle.ls_checked.specs.declared.program.Program.{Program}
use Rattle.ls_source.specs.Shown.{progress_of}
use Rattle.ls_preservation.specs.Translations.{most_silent, steps_all}
use Rattle.ls_image.specs.Images.{code_of_image, program_of_image}
use Rattle.ls_meaning.specs.Runs.{start}
use Rattle.ls_types_checked.specs.CheckedFile as checked
use Rattle.ls_translation.specs.Room.{IsFirstUnfit}
use Rattle.ls_translation.specs.Texts.{file_of, program_of}
use Rattle.ls_translation.proofs.Following.{is_begun, is_followed, whole_steps}
use Rattle.ls_translation.proofs.RoomLemmas.{no_room, room_begun, room_more}
use Rattle.ls_translation.proofs.machine_steps.follow_schedule.Goals as goal

pub loop-step-init : goal.loop-step-init
loop-step-init c =
    let names = length-map (program_of_image c.args.image.now).names.items plain_name in
    let counted = ap (λ (p : Program). length p.names.items) c.program.ensures in (
      room_begun (file_of c.args.image.now) (program_of c.args.image.now) c.args.cells
          (progress_of c.args.source.now) _ c.requires.source (omega
          (arith, names, counted, c.len.ensures, c.program.result.now.names.ok.0, c.requires.cells)),
      is_begun (file_of c.args.image.now) (program_of c.args.image.now) (progress_of c.args.source.now)
          c.args.run.now c.begin.new.run c.most_silent-most.result c.args.run.now.machine _
          c.steps-thread-items.result.now c.requires.source c.requires.run c.in_ok-is_long.ensures.goes
          c.in_ok-is_long.ensures.long,
    )

pub returns-in_default-clause-unfit : goal.returns-in_default-clause-unfit
returns-in_default-clause-unfit c = λ n e.
    let of_file = ap plain_file (c.file-file.ensures ∙ ap checked.file_of c.checked.ensures) in
    let same : c.loop-step.step ≡ n = cc in
    subst (λ k. IsFirstUnfit (file_of c.args.image.now) (program_of c.args.image.now) c.args.cells c.args.schedule.now
    k) same
    (no_room (file_of c.args.image.now) (program_of c.args.image.now) c.args.cells c.steps-thread-items.result.now
    c.loop-step.step 0 (progress_of c.loop-step.source) c.loop-step.free (search rules) c.loop-step.invariant.0
    (map plain_class c.deref.result.now) c.in_ok-did.did c.free_after.result c.args.schedule.now
    (ap (map plain_class) c.deref.ensures.value ∙ ap (λ (f : File). f.classes) of_file) c.in_ok-did.ensures.did
    c.in_default.is c.free_after.ensures.none c.steps-thread-items.ensures)

pub loop-step-preserved : goal.loop-step-preserved
loop-step-preserved c =
    let of_file = ap plain_file (c.file-file.ensures ∙ ap checked.file_of c.checked.ensures) in (
      room_more (file_of c.args.image.now) (program_of c.args.image.now) c.args.cells c.steps-thread-items.result.now
          c.loop-step.step 0 (progress_of c.loop-step.source) c.loop-step.free (search rules) c.loop-step.invariant.0
          (map plain_class c.deref.result.now) (progress_of c.step.new.self) c.in_ok-did.did c.free_after.result
          c.in-Some.left (ap (map plain_class) c.deref.ensures.value ∙ ap (λ (f : File). f.classes) of_file)
          c.in_ok-did.ensures.run c.in_ok-did.ensures.did c.in-Some.is c.free_after.ensures.some,
      is_followed (progress_of c.loop-step.source) (progress_of c.step.new.self) c.loop-step.run c.follow.new.run _
          c.most_silent-most.result c.steps-thread-items.result.now c.loop-step.step 0 c.in_ok-did.did
          c.loop-step.is_long _ (search rules) c.in_ok-did.ensures.did c.in_ok-did.ensures.run c.loop-step.invariant.1
          c.in_ok-is_long-2.ensures.was_short c.in_ok-is_long-2.ensures.goes c.in_ok-is_long-2.ensures.long,
    )

pub returns-clause-steps : goal.returns-clause-steps
returns-clause-steps c =
    let file = file_of c.args.image.now in
    let program = program_of c.args.image.now in
    let past : length c.steps-thread-items.result.now ≤ c.loop-step.step = omega (arith, c.loop-step-test.false) in
    let whole = whole_steps (progress_of c.loop-step.source) c.loop-step.run c.most_silent-most.result
    c.args.run.now.machine c.steps-thread-items.result.now (steps_all file program c.most_silent-most.result
    (start program) c.args.run.now.machine c.steps-thread-items.result.now) c.loop-step.step c.loop-step.is_long
    c.loop-step.invariant.1 c.if-is_long.false past in
    whole
    ∙ ap (λ n. steps_all file program n (start program) c.args.run.now.machine c.steps-thread-items.result.now)
    c.most_silent-most.ensures
    ∙ ap (steps_all file program (most_silent (code_of_image c.args.image.now)) (start program)
    c.args.run.now.machine) c.steps-thread-items.ensures
