-- Why `explore_source` in src/source.rt keeps its clauses `endless` and `states`.

use Rattle.std.proofs.Common.{◌≡◌, ◌≤◌, ◌∙◌, ap, arith, rules, subst}
use Rattle.std.proofs.lemmas.Result.{err_from_is_err_and}
use Rattle.ls_checked.specs.Plain.{plain_file}
use Rattle.ls_checked.specs.PlainProgram.{plain_program}
use Rattle.ls_checked.specs.CheckedTree.{File}
use Rattle.ls_checked.specs.CheckedProgram.{Program}
use Rattle.ls_types_checked.specs.CheckedFile as checked
use Rattle.ls_translation.specs.Texts.{file_of, program_of}
use Rattle.ls_explore.specs.Settings.{EndsAt, GoesOnFor, IsSetting, SticksAt}
use Rattle.ls_explore.proofs.Settings.{not_ending, not_sticking}
use Rattle.ls_explore.proofs.SourceRefusals.{good_states, source_goes, source_memory, source_no_states}
use Rattle.ls_explore.proofs.SourceRefusals.{source_not, source_states}
use Rattle.ls_explore.proofs.source.explore_source.Goals as goal

pub returns-then-are_bad_states-clause-endless : goal.returns-then-are_bad_states-clause-endless
returns-then-are_bad_states-clause-endless g c =
    source_states (file_of c.args.image.now) (program_of c.args.image.now) c.args.states
    (c.are_bad_states.ensures.0 c.if-are_bad_states.true)

pub returns-in_err-explore_states-in-Ends-clause-endless :
    goal.returns-in_err-explore_states-in-Ends-clause-endless
returns-in_err-explore_states-in-Ends-clause-endless g c =
    let p = err_from_is_err_and c.from_residual-in_err-explore_states-in-Ends.result
    c.from_residual-in_err-explore_states-in-Ends.ensures.1 in
    rw (p.1, p.2) (source_memory (file_of c.args.image.now) (program_of c.args.image.now) c.args.states)

pub returns-in_err-explore_states-in-Sticks-clause-endless :
    goal.returns-in_err-explore_states-in-Sticks-clause-endless
returns-in_err-explore_states-in-Sticks-clause-endless g c =
    let p = err_from_is_err_and c.from_residual-in_err-explore_states-in-Sticks.result
    c.from_residual-in_err-explore_states-in-Sticks.ensures.1 in
    rw (p.1, p.2) (source_memory (file_of c.args.image.now) (program_of c.args.image.now) c.args.states)

pub returns-in_ok-explore_states-in-Ends-clause-endless :
    goal.returns-in_ok-explore_states-in-Ends-clause-endless
returns-in_ok-explore_states-in-Ends-clause-endless g c =
    let ends : EndsAt (file_of c.args.image.now) (program_of c.args.image.now) c.in-Ends.steps = search rules in
    let few : c.in-Ends.steps ≤ 100000 = search rules in
    source_not (file_of c.args.image.now) (program_of c.args.image.now) c.args.states _
    (not_ending (file_of c.args.image.now) (program_of c.args.image.now) c.in-Ends.steps 100001 ends
    (omega (arith, few)))

pub returns-in_ok-explore_states-in-Sticks-clause-endless :
    goal.returns-in_ok-explore_states-in-Sticks-clause-endless
returns-in_ok-explore_states-in-Sticks-clause-endless g c =
    let stands : SticksAt (file_of c.args.image.now) (program_of c.args.image.now) c.in-Sticks.steps = search rules in
    let few : c.in-Sticks.steps ≤ 100000 = search rules in
    source_not (file_of c.args.image.now) (program_of c.args.image.now) c.args.states _
    (not_sticking (file_of c.args.image.now) (program_of c.args.image.now) c.in-Sticks.steps 100001 stands
    (omega (arith, few)))

pub returns-in-GoesOn-clause-states : goal.returns-in-GoesOn-clause-states
returns-in-GoesOn-clause-states g c =
    source_no_states (file_of c.args.image.now) (program_of c.args.image.now) c.args.states
    (good_states c.args.states c.are_bad_states.result c.are_bad_states.ensures c.if-are_bad_states.false)

pub returns-in-GoesOn-clause-endless : goal.returns-in-GoesOn-clause-endless
returns-in-GoesOn-clause-endless g c =
    let file : File = file_of c.args.image.now in
    let program : Program = program_of c.args.image.now in
    let of_file : plain_file c.file-file.result.now ≡ file = ap plain_file
    (c.file-file.ensures ∙ ap checked.file_of c.checked.ensures) in
    let of_program : plain_program c.program-program.result.now ≡ program = ap plain_program c.program-program.ensures
    in
    let first : IsSetting file (plain_program c.program-program.result.now) c.in_ok-setting.setting =
    subst (λ (f : File). IsSetting f (plain_program c.program-program.result.now) c.in_ok-setting.setting) of_file
    c.in_ok-setting.ensures.setting in
    let next : IsSetting file program c.in_ok-setting.setting = subst
    (λ (p : Program). IsSetting file p c.in_ok-setting.setting) of_program first in
    let goes : GoesOnFor file program 100001 = subst (IsSetting file program) c.in-GoesOn.is next in
    source_goes file program c.args.states
    (good_states c.args.states c.are_bad_states.result c.are_bad_states.ensures c.if-are_bad_states.false) goes
