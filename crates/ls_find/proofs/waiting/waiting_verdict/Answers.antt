-- Why `waiting_verdict` in src/waiting.rt keeps its contract.

use Rattle.std.proofs.Common.{[], inr, refl, subst}
use Rattle.std.proofs.lemmas.Result.{IfOk-weaker}
use Rattle.ls_checked.specs.CheckedTree.{File}
use Rattle.ls_checked.specs.CheckedProgram.{Program}
use Rattle.ls_serial_search.specs.Histories.{lists_of}
use Rattle.ls_serial_search.specs.Endless.{AreEndlessRuns, TellEndlessRuns}
use Rattle.ls_specification.specs.Specification.{given_file, given_of, given_program}
use Rattle.ls_translation.specs.Texts.{file_of, program_of}
use Rattle.ls_find.specs.Verdicts.{AllExcused, WaitsAt}
use Rattle.ls_find.proofs.Simpler.{at_same}
use Rattle.ls_find.proofs.Waits.{call_waits, none_endless, none_waits, one_waits}
use Rattle.ls_find.proofs.waiting.waiting_verdict.Goals as goal

pub returns-then-is_quiet : goal.returns-then-is_quiet
returns-then-is_quiet c = λ states.
    let given = given_of c.args.given in
    let file : File = file_of c.args.image.now in
    let program : Program = program_of c.args.image.now in
    none_waits given file program c.args.rows.now [] c.runs_decide.ensures.among c.requires.whole
    (none_endless (given_file given file) (given_program given program)) (c.is_quiet.ensures c.if-is_quiet.true)

pub returns-in-None : goal.returns-in-None
returns-in-None c = λ states.
    let given = given_of c.args.given in
    let file : File = file_of c.args.image.now in
    let program : Program = program_of c.args.image.now in
    let runs = lists_of c.in_ok-endless.endless.runs.items in
    let are = at_same (λ (f : File) (p : Program). AreEndlessRuns f p runs)
    c.specification_of-specification.ensures.file
    c.specification_of-specification.ensures.program c.in_ok-endless.ensures.endless in
    none_waits given file program c.args.rows.now runs c.runs_decide.ensures.among c.requires.whole are
    (subst (λ vs. AllExcused (lists_of vs) c.args.rows.now) c.as_slice.ensures.value c.in-None.ensures.none)

pub returns : goal.returns
returns c =
    let given = given_of c.args.given in
    let file : File = file_of c.args.image.now in
    let program : Program = program_of c.args.image.now in
    let runs = lists_of c.in_ok-endless.endless.runs.items in
    let tell = at_same (λ (f : File) (p : Program). TellEndlessRuns f p runs)
    c.specification_of-specification.ensures.file
    c.specification_of-specification.ensures.program (c.in_ok-endless.ensures.all c.if-not-endless.false) in
    let waits = subst (λ vs. WaitsAt (lists_of vs) c.args.rows.now c.in-Some.at) c.as_slice.ensures.value
    c.in-Some.ensures.some in
    IfOk-weaker c.bad_row.result _ _
    (λ v shows states. one_waits file program c.args.setup c.args.rows.now runs c.in-Some.at c.requires.truth waits
    given
    c.runs_decide.ensures.all tell (c.if-not-is_over.ensures refl) v shows states) c.bad_row.ensures

pub returns-then-not-endless : goal.returns-then-not-endless
returns-then-not-endless c = λ states.
    let waits = subst (λ vs. WaitsAt (lists_of vs) c.args.rows.now c.in-Some.at) c.as_slice.ensures.value
    c.in-Some.ensures.some in
    inr (call_waits (file_of c.args.image.now) (program_of c.args.image.now) c.args.setup c.args.rows.now
    (lists_of c.in_ok-endless.endless.runs.items) c.in-Some.at c.requires.truth waits c.requires.cells)
