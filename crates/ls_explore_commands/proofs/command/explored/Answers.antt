-- Why `explored` in src/command.rt keeps its clause `gives` and what `judge_rows` and `print_exploration` require.

use Rattle.std.proofs.Common.{◌∙◌, ap, subst, sym}
use Rattle.std.proofs.lemmas.Result.{err_from_is_err_and}
use Rattle.std.specs.Prelude.{All, string_bytes}
use Rattle.ls_checked.specs.Plain.{plain_file}
use Rattle.ls_checked.specs.PlainProgram.{plain_program}
use Rattle.ls_checked.specs.declared.program.Program.{Program}
use Rattle.ls_image.specs.Images.{program_of_image}
use Rattle.ls_labels.specs.Names.{Names, names_of}
use Rattle.ls_schedule.specs.Reading.{thread_names}
use Rattle.ls_types_checked.specs.CheckedFile.{elaborated_file}
use Rattle.ls_explore_reports.specs.Judged.{AreHistories, IsJudged}
use Rattle.ls_explore_reports.specs.Cuts.{IsExploredText}
use Rattle.ls_explore_reports.specs.ImageNames.{names_in}
use Rattle.ls_explore_commands.proofs.ExploredLemmas.{below_so, explore_fails, explore_tells, judged_so, linear_so}
use Rattle.ls_explore_commands.proofs.ExploredLemmas.{long_fails, rows_named, rows_so, so_here, whole_here}
use Rattle.ls_explore_commands.proofs.command.explored.Goals as goal

pub returns-in_err-found-clause-gives : goal.returns-in_err-found-clause-gives
returns-in_err-found-clause-gives g c =
    let p = err_from_is_err_and c.from_residual.result c.from_residual.ensures.1 in
    rw (p.1, p.2) (explore_fails c.args.image.now c.args.exploring c.in_err-found.field-0.0
    c.in_err-found.ensures.refused)

pub judge_rows-requires : goal.judge_rows-requires
judge_rows-requires g c =
    let found = c.in_ok-found.found in
    subst (λ (q : Program). AreHistories (plain_program q) c.as_slice.result.now) (sym c.program.ensures)
    (subst (λ rows. AreHistories (plain_program (program_of_image c.args.image.now)) rows)
    (sym c.as_slice.ensures.value) (rows_named c.args.image.now found.setup found.rows.items c.requires
    c.in_ok-found.ensures.found.truth))

pub print_exploration-requires : goal.print_exploration-requires
print_exploration-requires g c =
    let i = c.args.image.now in
    let found = c.in_ok-found.found in
    let judged = c.in_ok-judged.judged.items in
    let verdicts = subst (λ (q : Program). All (IsJudged (plain_program q)) judged) c.program.ensures
    c.in_ok-judged.ensures.verdicts in
    let of_rows = c.in_ok-judged.ensures.rows ∙ c.as_slice.ensures.value in
    record {
      so = so_here i found.setup (names_of c.names_in.result) c.as_slice-2.result.now judged c.names_in.ensures.names
          c.as_slice-2.ensures.value
          (rows_so i found.setup found.rows.items judged of_rows c.in_ok-found.ensures.found.truth verdicts);
      whole = λ complete roomy. whole_here i (names_of c.names_in.result) found.rows.items
          c.as_slice-2.result.now judged
          c.names_in.ensures.names c.as_slice-2.ensures.value of_rows
          (c.in_ok-found.ensures.found.whole complete roomy);
    }

pub returns-in_err-text-clause-gives : goal.returns-in_err-text-clause-gives
returns-in_err-text-clause-gives g c =
    let i = c.args.image.now in
    let found = c.in_ok-found.found in
    let judged = c.in_ok-judged.judged.items in
    let of_rows = c.in_ok-judged.ensures.rows ∙ c.as_slice.ensures.value in
    let verdicts = subst (λ (q : Program). All (IsJudged (plain_program q)) judged) c.program.ensures
    c.in_ok-judged.ensures.verdicts in
    let linear = linear_so i (plain_file c.file-file.result.now) c.program.result.now found.complete found.roomy
    c.is_whole-whole.result c.as_slice.result.now found.rows.items judged (ap plain_file c.file-file.ensures
    ∙ ap (λ k. (elaborated_file k).file) c.checked.ensures) c.program.ensures c.is_whole-whole.ensures
    c.as_slice.ensures.value c.in_ok-judged.ensures.linear in
    let below = below_so i (plain_file c.file-file.result.now) c.program.result.now c.args.exploring.order judged
    (ap plain_file c.file-file.ensures ∙ ap (λ k. (elaborated_file k).file) c.checked.ensures) c.program.ensures
    c.in_ok-judged.ensures.below in
    let so =
    judged_so c.linearity_is_meant.ensures c.none_is_illegal.ensures.whole c.none_is_illegal.ensures.fitting
    c.none_is_not_linearizable.ensures.whole c.none_is_not_linearizable.ensures.fitting i c.args.exploring.cells
    c.args.exploring.states c.args.exploring.order found.setup found.rows.items judged
    found.states found.complete found.roomy of_rows c.in_ok-found.ensures.found.truth c.in_ok-found.ensures.found.states
    c.in_ok-found.ensures.found.few c.in_ok-found.ensures.found.cut c.in_ok-found.ensures.found.by
    c.in_ok-found.ensures.found.whole
    c.in_ok-found.ensures.found.apart c.in_ok-found.ensures.found.order verdicts linear below
    in
    let p = err_from_is_err_and c.from_residual-in_err-text.result c.from_residual-in_err-text.ensures.1 in
    rw (p.1, p.2)
    (long_fails i c.args.exploring c.in_err-text.field-0.0 found.setup found.states judged c.as_slice-2.result.now
    found.complete found.roomy c.in_err-text.ensures.only c.in_ok-found.ensures.found.good so c.as_slice-2.ensures.value
    c.in_err-text.ensures.long)

pub returns-clause-gives : goal.returns-clause-gives
returns-clause-gives g c =
    let i = c.args.image.now in
    let e = c.args.exploring in
    let found = c.in_ok-found.found in
    let judged = c.in_ok-judged.judged.items in
    let t = string_bytes c.in_ok-text.text in
    let of_rows = c.in_ok-judged.ensures.rows ∙ c.as_slice.ensures.value in
    let verdicts = subst (λ (q : Program). All (IsJudged (plain_program q)) judged) c.program.ensures
    c.in_ok-judged.ensures.verdicts in
    let linear = linear_so i (plain_file c.file-file.result.now) c.program.result.now found.complete found.roomy
    c.is_whole-whole.result c.as_slice.result.now found.rows.items judged (ap plain_file c.file-file.ensures
    ∙ ap (λ k. (elaborated_file k).file) c.checked.ensures) c.program.ensures c.is_whole-whole.ensures
    c.as_slice.ensures.value c.in_ok-judged.ensures.linear in
    let below = below_so i (plain_file c.file-file.result.now) c.program.result.now c.args.exploring.order judged
    (ap plain_file c.file-file.ensures ∙ ap (λ k. (elaborated_file k).file) c.checked.ensures) c.program.ensures
    c.in_ok-judged.ensures.below in
    let first = subst (λ (ns : Names). IsExploredText ns (thread_names c.names_in.result.program.now) found.setup
    c.as_slice-2.result.now found.states found.complete found.roomy e t) c.names_in.ensures.names
    c.in_ok-text.ensures.text in
    let next = subst (λ (q : Program). IsExploredText (names_in i) (thread_names q) found.setup
    c.as_slice-2.result.now found.states found.complete found.roomy e t) c.names_in.ensures.program first in
    let said = subst (λ js. IsExploredText (names_in i) (thread_names (program_of_image i)) found.setup js
    found.states found.complete found.roomy e t) c.as_slice-2.ensures.value next in
    explore_tells i e found.setup judged found.states found.complete found.roomy t c.in_ok-found.ensures.found.good
    (judged_so c.linearity_is_meant.ensures c.none_is_illegal.ensures.whole c.none_is_illegal.ensures.fitting
    c.none_is_not_linearizable.ensures.whole c.none_is_not_linearizable.ensures.fitting i e.cells e.states e.order
    found.setup found.rows.items judged found.states found.complete found.roomy of_rows
    c.in_ok-found.ensures.found.truth c.in_ok-found.ensures.found.states c.in_ok-found.ensures.found.few
    c.in_ok-found.ensures.found.cut
    c.in_ok-found.ensures.found.by c.in_ok-found.ensures.found.whole c.in_ok-found.ensures.found.apart
    c.in_ok-found.ensures.found.order verdicts linear below)
    said
