-- Why `explore_image` in src/images.rt keeps its contract and what it calls with.

use Rattle.std.proofs.Common.{◌≡◌, ◌≤◌, ◌∙◌, inl, inr, ap, arith, rules, subst}
use Rattle.ls_checked.specs.Plain.{plain_file}
use Rattle.ls_checked.specs.PlainProgram.{plain_program}
use Rattle.ls_checked.specs.CheckedTree.{File}
use Rattle.ls_checked.specs.CheckedProgram.{Program}
use Rattle.ls_types_checked.specs.CheckedFile as checked
use Rattle.ls_translation.specs.Texts.{file_of, program_of}
use Rattle.ls_explore.specs.Settings.{EndsAt, GoesOnFor, IsSetting, SticksAt}
use Rattle.ls_explore.proofs.Refusals.{endless_cells, endless_goes, endless_late, endless_no_cells}
use Rattle.ls_explore.proofs.Refusals.{endless_no_states, endless_states, good_numbers, late_cells, late_setup}
use Rattle.ls_explore.proofs.Refusals.{late_states, not_both, some_states}
use Rattle.ls_explore.proofs.Settings.{not_ending, not_sticking}
use Rattle.ls_explore.proofs.Tellings.{all_of_whole, ok_so}
use Rattle.ls_explore.proofs.images.explore_image.Goals as goal

pub returns-in-Ends-clause-states : goal.returns-in-Ends-clause-states
returns-in-Ends-clause-states g c =
    late_states (file_of c.args.image.now) (program_of c.args.image.now) c.args.image.now.code c.args.cells _
    c.args.states (good_numbers c.args.image.now.code c.args.cells c.args.states c.are_bad_cells.result
    c.are_bad_states.result c.are_bad_cells.ensures c.if-are_bad_cells.false c.are_bad_states.ensures
    c.if-are_bad_states.false) c.explore_rest.result
    c.explore_rest.ensures.late

pub returns-in-Ends-clause-cells : goal.returns-in-Ends-clause-cells
returns-in-Ends-clause-cells g c =
    late_cells (file_of c.args.image.now) (program_of c.args.image.now) c.args.image.now.code c.args.cells _
    c.args.states (good_numbers c.args.image.now.code c.args.cells c.args.states c.are_bad_cells.result
    c.are_bad_states.result c.are_bad_cells.ensures c.if-are_bad_cells.false c.are_bad_states.ensures
    c.if-are_bad_states.false) c.explore_rest.result
    c.explore_rest.ensures.late

pub returns-in-Ends-clause-endless : goal.returns-in-Ends-clause-endless
returns-in-Ends-clause-endless g c =
    let ends : EndsAt (file_of c.args.image.now) (program_of c.args.image.now) c.in-Ends.count = search rules in
    let few : c.in-Ends.count ≤ 100000 = search rules in
    endless_late (file_of c.args.image.now) (program_of c.args.image.now) c.args.image.now.code c.args.cells
    c.args.states c.in-Ends.count c.explore_rest.result c.explore_rest.ensures.late
    (not_ending (file_of c.args.image.now) (program_of c.args.image.now) c.in-Ends.count 100001 ends
    (omega (arith, few)))

pub returns-in-Ends-clause-setup : goal.returns-in-Ends-clause-setup
returns-in-Ends-clause-setup g c =
    let ends : EndsAt (file_of c.args.image.now) (program_of c.args.image.now) c.in-Ends.count = search rules in
    late_setup (file_of c.args.image.now) (program_of c.args.image.now) c.args.image.now.code c.args.cells
    c.in-Ends.count c.args.states (good_numbers c.args.image.now.code c.args.cells c.args.states c.are_bad_cells.result
    c.are_bad_states.result c.are_bad_cells.ensures c.if-are_bad_cells.false c.are_bad_states.ensures
    c.if-are_bad_states.false) c.explore_rest.result (inl ends)
    c.explore_rest.ensures.late

pub returns-then-are_bad_states-clause-endless : goal.returns-then-are_bad_states-clause-endless
returns-then-are_bad_states-clause-endless g c = endless_states (file_of c.args.image.now) (program_of c.args.image.now)
    c.args.image.now.code c.args.cells c.args.states (c.are_bad_states.ensures.0 c.if-are_bad_states.true)

pub returns-then-are_bad_cells-clause-endless : goal.returns-then-are_bad_cells-clause-endless
returns-then-are_bad_cells-clause-endless g c = endless_cells (file_of c.args.image.now) (program_of c.args.image.now)
    c.args.image.now.code c.args.cells c.args.states (c.are_bad_cells.ensures.0 c.if-are_bad_cells.true)

pub returns-in-Sticks-clause-states : goal.returns-in-Sticks-clause-states
returns-in-Sticks-clause-states g c =
    late_states (file_of c.args.image.now) (program_of c.args.image.now) c.args.image.now.code c.args.cells _
    c.args.states (good_numbers c.args.image.now.code c.args.cells c.args.states c.are_bad_cells.result
    c.are_bad_states.result c.are_bad_cells.ensures c.if-are_bad_cells.false c.are_bad_states.ensures
    c.if-are_bad_states.false) c.explore_stuck.result
    c.explore_stuck.ensures.late

pub returns-in-Sticks-clause-cells : goal.returns-in-Sticks-clause-cells
returns-in-Sticks-clause-cells g c =
    late_cells (file_of c.args.image.now) (program_of c.args.image.now) c.args.image.now.code c.args.cells _
    c.args.states (good_numbers c.args.image.now.code c.args.cells c.args.states c.are_bad_cells.result
    c.are_bad_states.result c.are_bad_cells.ensures c.if-are_bad_cells.false c.are_bad_states.ensures
    c.if-are_bad_states.false) c.explore_stuck.result
    c.explore_stuck.ensures.late

pub returns-in-Sticks-clause-endless : goal.returns-in-Sticks-clause-endless
returns-in-Sticks-clause-endless g c =
    let stands : SticksAt (file_of c.args.image.now) (program_of c.args.image.now) c.in-Sticks.count = search rules in
    let few : c.in-Sticks.count ≤ 100000 = search rules in
    endless_late (file_of c.args.image.now) (program_of c.args.image.now) c.args.image.now.code c.args.cells
    c.args.states c.in-Sticks.count c.explore_stuck.result c.explore_stuck.ensures.late
    (not_sticking (file_of c.args.image.now) (program_of c.args.image.now) c.in-Sticks.count 100001 stands
    (omega (arith, few)))

pub returns-in-Sticks-clause-setup : goal.returns-in-Sticks-clause-setup
returns-in-Sticks-clause-setup g c =
    let stands : SticksAt (file_of c.args.image.now) (program_of c.args.image.now) c.in-Sticks.count = search rules in
    late_setup (file_of c.args.image.now) (program_of c.args.image.now) c.args.image.now.code c.args.cells
    c.in-Sticks.count c.args.states
    (good_numbers c.args.image.now.code c.args.cells c.args.states c.are_bad_cells.result
    c.are_bad_states.result c.are_bad_cells.ensures c.if-are_bad_cells.false c.are_bad_states.ensures
    c.if-are_bad_states.false) c.explore_stuck.result (inr stands)
    c.explore_stuck.ensures.late

pub returns-in-Sticks-clause-few : goal.returns-in-Sticks-clause-few
returns-in-Sticks-clause-few g c =
    let good = (good_numbers c.args.image.now.code c.args.cells c.args.states c.are_bad_cells.result
    c.are_bad_states.result c.are_bad_cells.ensures c.if-are_bad_cells.false c.are_bad_states.ensures
    c.if-are_bad_states.false) in
    ok_so c.explore_stuck.result c.explore_stuck.ensures.one
    (λ e is. omega (arith, is, some_states c.args.states good.states))

pub returns-in-Sticks-clause-cut : goal.returns-in-Sticks-clause-cut
returns-in-Sticks-clause-cut g c =
    ok_so c.explore_stuck.result c.explore_stuck.ensures.complete (λ e is no. absurd (not_both e.complete is no))

pub returns-in-Sticks-clause-narrow : goal.returns-in-Sticks-clause-narrow
returns-in-Sticks-clause-narrow g c =
    ok_so c.explore_stuck.result c.explore_stuck.ensures.roomy (λ e is no. absurd (not_both e.roomy is no))

pub returns-in-Sticks-clause-seen : goal.returns-in-Sticks-clause-seen
returns-in-Sticks-clause-seen g c = ok_so c.explore_stuck.result c.explore_stuck.ensures.seen (λ e is yes. is)

pub returns-in-Sticks-clause-tells : goal.returns-in-Sticks-clause-tells
returns-in-Sticks-clause-tells g c =
    ok_so c.explore_stuck.result c.explore_stuck.ensures.whole
    (λ e is yes. all_of_whole (file_of c.args.image.now) (program_of c.args.image.now) c.args.cells e.rows.items is)

pub returns-in-Sticks-clause-whole : goal.returns-in-Sticks-clause-whole
returns-in-Sticks-clause-whole g c = ok_so c.explore_stuck.result c.explore_stuck.ensures.whole (λ e is yes room. is)

pub explore_rest-requires-clause-some : goal.explore_rest-requires-clause-some
explore_rest-requires-clause-some g c =
    let good = (good_numbers c.args.image.now.code c.args.cells c.args.states c.are_bad_cells.result
    c.are_bad_states.result c.are_bad_cells.ensures c.if-are_bad_cells.false c.are_bad_states.ensures
    c.if-are_bad_states.false) in
    some_states c.args.states good.states

pub returns-in-GoesOn-clause-endless : goal.returns-in-GoesOn-clause-endless
returns-in-GoesOn-clause-endless g c =
    let file : File = file_of c.args.image.now in
    let program : Program = program_of c.args.image.now in
    let of_file : plain_file c.file-file.result.now ≡ file = ap plain_file
    (c.file-file.ensures ∙ ap checked.file_of c.checked.ensures) in
    let of_program : plain_program c.program-program.result.now ≡ program = ap plain_program c.program-program.ensures
    in
    let first : IsSetting file (plain_program c.program-program.result.now) c.in_ok-setting.setting =
    subst (λ (f : File). IsSetting f (plain_program c.program-program.result.now) c.in_ok-setting.setting) of_file
    c.in_ok-setting.ensures.setting in
    let next : IsSetting file program c.in_ok-setting.setting = subst
    (λ (p : Program). IsSetting file p c.in_ok-setting.setting) of_program first in
    let goes : GoesOnFor file program 100001 = subst (IsSetting file program) c.in-GoesOn.is next in
    endless_goes file program c.args.image.now.code c.args.cells c.args.states
    (good_numbers c.args.image.now.code c.args.cells c.args.states c.are_bad_cells.result
    c.are_bad_states.result c.are_bad_cells.ensures c.if-are_bad_cells.false c.are_bad_states.ensures
    c.if-are_bad_states.false) goes

pub returns-in-GoesOn-clause-cells : goal.returns-in-GoesOn-clause-cells
returns-in-GoesOn-clause-cells g c =
    endless_no_cells c.args.image.now.code c.args.cells c.args.states
    (good_numbers c.args.image.now.code c.args.cells c.args.states c.are_bad_cells.result
    c.are_bad_states.result c.are_bad_cells.ensures c.if-are_bad_cells.false c.are_bad_states.ensures
    c.if-are_bad_states.false)

pub returns-in-GoesOn-clause-states : goal.returns-in-GoesOn-clause-states
returns-in-GoesOn-clause-states g c =
    endless_no_states c.args.image.now.code c.args.cells c.args.states
    (good_numbers c.args.image.now.code c.args.cells c.args.states c.are_bad_cells.result
    c.are_bad_states.result c.are_bad_cells.ensures c.if-are_bad_cells.false c.are_bad_states.ensures
    c.if-are_bad_states.false)
