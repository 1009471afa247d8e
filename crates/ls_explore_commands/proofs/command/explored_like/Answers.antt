-- Why `explored_like` in src/command.rt keeps its clause `gives` and what `judge_rows_like` requires.

use Rattle.std.proofs.Common.{◌≡◌, ◌∙◌, ◌++◌, List, Ok, ap, subst, sym}
use Rattle.std.proofs.lemmas.Result.{err_from_is_err_and}
use Rattle.std.specs.Prelude.{All, string_bytes}
use Rattle.ls_checked.specs.CheckedTree.{File}
use Rattle.ls_checked.specs.CheckedProgram.{Program}
use Rattle.ls_checked.specs.Plain.{plain_file}
use Rattle.ls_checked.specs.PlainProgram.{plain_program}
use Rattle.ls_checked.specs.declared.program.Program.{Program as CodeProgram}
use Rattle.ls_image.specs.Images.{program_of_image}
use Rattle.ls_labels.specs.Names.{Names}
use Rattle.ls_schedule.specs.Reading.{thread_names}
use Rattle.ls_specification.specs.Specification.{spec_file, spec_program}
use Rattle.ls_translation.specs.Texts.{file_of, program_of}
use Rattle.ls_types_checked.specs.CheckedFile.{elaborated_file}
use Rattle.ls_explore_reports.specs.ImageNames.{names_in}
use Rattle.ls_explore_reports.specs.Judged.{AreEachOnce, AreMeant, IsToldBelowLike, Judged}
use Rattle.ls_explore_reports.proofs.RowsOnce.{rows_once}
use Rattle.ls_explore_reports.specs.Printing.{last_text, rows_text, shown}
use Rattle.ls_explore_commands.specs.Likeness.{ExploredLike, Tells}
use Rattle.ls_race_reports.proofs.Same.{at_same}
use Rattle.ls_explore_commands.proofs.LikenessLemmas.{like_fails, like_so, long_like_fails}
use Rattle.ls_explore_commands.proofs.command.explored_like.Goals as goal

pub returns-in_err-found-clause-gives : goal.returns-in_err-found-clause-gives
returns-in_err-found-clause-gives g c =
    let p = err_from_is_err_and c.from_residual.result c.from_residual.ensures.1 in
    rw (p.1, p.2) (like_fails c.args.like.now c.args.image.now c.args.exploring c.in_err-found.field-0.0
    c.in_err-found.ensures.refused)

pub judge_rows_like-requires : goal.judge_rows_like-requires
judge_rows_like-requires g c =
    let found = c.in_ok-found.found in
    subst AreEachOnce (sym c.as_slice.ensures.value)
    (rows_once (file_of c.args.image.now) (program_of c.args.image.now) found.setup found.rows.items
    c.in_ok-found.ensures.found.truth)

pub returns-in_err-text-clause-gives : goal.returns-in_err-text-clause-gives
returns-in_err-text-clause-gives g c =
    let i = c.args.image.now in
    let s = c.args.like.now in
    let e = c.args.exploring in
    let found = c.in_ok-found.found in
    let judged : List Judged = c.in_ok-judged.judged.items in
    let file : spec_file c.own-specification.result ≡ file_of s =
    c.own-specification.ensures.file ∙ ap plain_file c.file.ensures ∙ ap (λ k. (elaborated_file k).file)
    c.checked.ensures
    in
    let program : spec_program c.own-specification.result ≡ program_of s =
    c.own-specification.ensures.program ∙ ap plain_program c.program.ensures in
    let meant = at_same (λ (f : File) (p : Program). AreMeant f p judged) file program c.in_ok-judged.ensures.linear in
    let below = at_same (λ (f : File) (p : Program). All (IsToldBelowLike e.order f p) judged) file program
    c.in_ok-judged.ensures.below in
    let of_rows = c.in_ok-judged.ensures.rows ∙ c.as_slice.ensures.value in
    let told = c.in_ok-found.ensures.found in
    let so = like_so c.none_is_unlike.ensures.judged c.none_is_unlike.ensures.fitting s i e.cells e.states e.order
    found.setup found.rows.items judged found.states
    found.complete found.roomy of_rows told.truth told.states told.few told.cut told.by told.whole told.apart told.order
    meant c.in_ok-judged.ensures.sets below in
    let p = err_from_is_err_and c.from_residual-in_err-text.result c.from_residual-in_err-text.ensures.1 in
    rw (p.1, p.2)
    (long_like_fails s i e c.in_err-text.field-0.0 found.setup found.states judged c.as_slice-2.result.now
    found.complete found.roomy c.in_err-text.ensures.only told.good so c.as_slice-2.ensures.value
    c.in_err-text.ensures.long)

pub returns-clause-gives : goal.returns-clause-gives
returns-clause-gives g c =
    let i = c.args.image.now in
    let s = c.args.like.now in
    let e = c.args.exploring in
    let found = c.in_ok-found.found in
    let judged : List Judged = c.in_ok-judged.judged.items in
    let file : spec_file c.own-specification.result ≡ file_of s =
    c.own-specification.ensures.file ∙ ap plain_file c.file.ensures ∙ ap (λ k. (elaborated_file k).file)
    c.checked.ensures
    in
    let program : spec_program c.own-specification.result ≡ program_of s =
    c.own-specification.ensures.program ∙ ap plain_program c.program.ensures in
    let meant = at_same (λ (f : File) (p : Program). AreMeant f p judged) file program c.in_ok-judged.ensures.linear in
    let below = at_same (λ (f : File) (p : Program). All (IsToldBelowLike e.order f p) judged) file program
    c.in_ok-judged.ensures.below in
    let of_rows = c.in_ok-judged.ensures.rows ∙ c.as_slice.ensures.value in
    let told = c.in_ok-found.ensures.found in
    let so = like_so c.none_is_unlike.ensures.judged c.none_is_unlike.ensures.fitting s i e.cells e.states e.order
    found.setup found.rows.items judged found.states
    found.complete found.roomy of_rows told.truth told.states told.few told.cut told.by told.whole told.apart told.order
    meant c.in_ok-judged.ensures.sets below in
    let t = string_bytes c.in_ok-text.text in
    let first = subst (λ (ns : Names). t ≡ rows_text ns (thread_names c.names_in.result.program.now) found.setup
    (shown e c.as_slice-2.result.now) ++
    last_text e.states found.states c.as_slice-2.result.now found.complete found.roomy)
    c.names_in.ensures.names c.in_ok-text.ensures.text in
    let next = subst (λ (q : CodeProgram). t ≡ rows_text (names_in i) (thread_names q) found.setup
    (shown e c.as_slice-2.result.now) ++
    last_text e.states found.states c.as_slice-2.result.now found.complete found.roomy)
    c.names_in.ensures.program first in
    let said = subst (λ (js : List Judged). t ≡ rows_text (names_in i) (thread_names (program_of_image i)) found.setup
    (shown e js) ++ last_text e.states found.states js found.complete found.roomy) c.as_slice-2.ensures.value next in
    subst (λ x. ExploredLike s i e (Ok x)) (sym said)
    (Tells found.setup judged found.states found.complete found.roomy told.good so)
