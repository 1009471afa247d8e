-- Why `explore_rest` in src/images.rt keeps its contract.

use Rattle.std.proofs.Common.{ℕ, List, subst}
use Rattle.ls_checked.specs.CheckedTree.{File}
use Rattle.ls_checked.specs.CheckedProgram.{Program}
use Rattle.ls_code.specs.Code.{Code}
use Rattle.ls_explore.specs.Rows.{TellsActs, TellsAll, TellsEnds, TellsFits, TellsFull, TellsNarrow, TellsOver}
use Rattle.ls_explore.specs.Rows.{TellsStates, TellsTruth, TellsWhole}
use Rattle.ls_translation.specs.Texts.{file_of, program_of}
use Rattle.ls_explore.proofs.Tellings.{tell_all, tell_fits, tell_full, tell_narrow, tell_states, tell_truth}
use Rattle.ls_explore.proofs.Tellings.{tell_whole}
use Rattle.ls_explore.proofs.images.explore_rest.Goals as goal

pub returns-clause-told : goal.returns-clause-told
returns-clause-told g c =
    let file : File = file_of c.args.image.now in
    let program : Program = program_of c.args.image.now in
    let code : Code = c.args.image.now.code in
    let setup : List ℕ = c.in_ok-steps.steps in
    let threads : ℕ = c.count_threads-threads.result in
    let rows = c.in_ok-rows.field-0.rows.items in
    tell_truth file program code c.args.cells c.args.image.now.kept c.requires.cells setup c.args.count threads rows
    c.acts_in_time.ensures c.in_ok-steps.ensures.steps c.count_threads-threads.ensures
    (subst (λ (p : Code). TellsTruth p c.args.cells setup rows) c.code.ensures c.in_ok-rows.ensures.told)
    (subst (λ (p : Code). TellsActs p c.args.cells setup rows) c.code.ensures c.in_ok-rows.ensures.acts)
    (subst (λ (p : Code). TellsOver p c.args.cells setup threads rows) c.code.ensures c.in_ok-rows.ensures.over)

pub returns-clause-tells : goal.returns-clause-tells
returns-clause-tells g c = λ yes.
    let file : File = file_of c.args.image.now in
    let program : Program = program_of c.args.image.now in
    let code : Code = c.args.image.now.code in
    let setup : List ℕ = c.in_ok-steps.steps in
    let threads : ℕ = c.count_threads-threads.result in
    let rows = c.in_ok-rows.field-0.rows.items in
    tell_all file program code c.args.cells c.args.image.now.kept c.requires.cells setup c.args.count threads rows
    c.acts_in_time.ensures c.in_ok-steps.ensures.steps c.count_threads-threads.ensures
    (subst (λ (p : Code). TellsAll p c.args.cells setup threads rows) c.code.ensures (c.in_ok-rows.ensures.tells yes))
    (subst (λ (p : Code). TellsEnds p c.args.cells setup threads rows) c.code.ensures (c.in_ok-rows.ensures.ends yes))

pub returns-clause-whole : goal.returns-clause-whole
returns-clause-whole g c = λ yes room.
    let file : File = file_of c.args.image.now in
    let program : Program = program_of c.args.image.now in
    let code : Code = c.args.image.now.code in
    let setup : List ℕ = c.in_ok-steps.steps in
    let threads : ℕ = c.count_threads-threads.result in
    let rows = c.in_ok-rows.field-0.rows.items in
    tell_whole file program code c.args.cells c.args.image.now.kept c.requires.cells setup c.args.count threads rows
    c.acts_in_time.ensures c.in_ok-steps.ensures.steps c.count_threads-threads.ensures
    (subst (λ (p : Code). TellsWhole p c.args.cells setup threads rows) c.code.ensures
    (c.in_ok-rows.ensures.whole yes room))

pub returns-clause-found : goal.returns-clause-found
returns-clause-found g c =
    let file : File = file_of c.args.image.now in
    let program : Program = program_of c.args.image.now in
    let code : Code = c.args.image.now.code in
    let setup : List ℕ = c.in_ok-steps.steps in
    let rows = c.in_ok-rows.field-0.rows.items in
    let states : ℕ = c.in_ok-rows.field-0.states in
    tell_states file program code c.args.cells c.args.image.now.kept c.requires.cells setup c.args.count
    c.count_threads-threads.result rows c.acts_in_time.ensures c.in_ok-steps.ensures.steps
    c.count_threads-threads.ensures states
    (subst (λ (p : Code). TellsStates p c.args.cells setup rows states) c.code.ensures c.in_ok-rows.ensures.found)

pub returns-clause-fits : goal.returns-clause-fits
returns-clause-fits g c =
    let file : File = file_of c.args.image.now in
    let program : Program = program_of c.args.image.now in
    let code : Code = c.args.image.now.code in
    let setup : List ℕ = c.in_ok-steps.steps in
    let threads : ℕ = c.count_threads-threads.result in
    let rows = c.in_ok-rows.field-0.rows.items in
    tell_fits file program code c.args.cells c.args.image.now.kept c.requires.cells setup c.args.count threads rows
    c.acts_in_time.ensures c.in_ok-steps.ensures.steps c.count_threads-threads.ensures
    (subst (λ (p : Code). TellsFits p c.args.cells setup rows) c.code.ensures c.in_ok-rows.ensures.fits)
    c.has_room.ensures.within

pub returns-clause-full : goal.returns-clause-full
returns-clause-full g c =
    let file : File = file_of c.args.image.now in
    let program : Program = program_of c.args.image.now in
    let code : Code = c.args.image.now.code in
    let setup : List ℕ = c.in_ok-steps.steps in
    let threads : ℕ = c.count_threads-threads.result in
    let rows = c.in_ok-rows.field-0.rows.items in
    tell_full file program code c.args.cells c.args.image.now.kept c.requires.cells setup c.args.count threads rows
    c.acts_in_time.ensures c.in_ok-steps.ensures.steps c.count_threads-threads.ensures
    (subst (λ (p : Code). TellsFull p c.args.cells setup threads rows) c.code.ensures c.in_ok-rows.ensures.full)
    c.has_room.ensures.stops

pub returns-clause-narrow : goal.returns-clause-narrow
returns-clause-narrow g c = λ no.
    let file : File = file_of c.args.image.now in
    let program : Program = program_of c.args.image.now in
    let code : Code = c.args.image.now.code in
    let setup : List ℕ = c.in_ok-steps.steps in
    let threads : ℕ = c.count_threads-threads.result in
    let rows = c.in_ok-rows.field-0.rows.items in
    tell_narrow file program code c.args.cells c.args.image.now.kept c.requires.cells setup c.args.count threads rows
    c.acts_in_time.ensures c.in_ok-steps.ensures.steps c.count_threads-threads.ensures
    (subst (λ (p : Code). TellsNarrow p c.args.cells setup) c.code.ensures (c.in_ok-rows.ensures.narrow no))
    c.has_room.ensures.stops

pub returns-clause-few : goal.returns-clause-few
returns-clause-few g c = c.in_ok-rows.ensures.few c.requires.some
