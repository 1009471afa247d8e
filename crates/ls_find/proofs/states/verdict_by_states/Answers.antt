-- Why `verdict_by_states` in src/states.rt keeps its contract.

use Rattle.std.proofs.Common.{◌≡◌, ◌∙◌, ap, subst}
use Rattle.std.specs.Prelude.{IfNone, IfSome}
use Rattle.std.proofs.lemmas.Result.{IfOk-weaker}
use Rattle.ls_checked.specs.CheckedTree.{File}
use Rattle.ls_checked.specs.CheckedProgram.{Program}
use Rattle.ls_checked.specs.Plain.{plain_file}
use Rattle.ls_checked.specs.PlainProgram.{plain_program}
use Rattle.ls_types_checked.specs.CheckedFile.{elaborated_file}
use Rattle.ls_translation.specs.Texts.{file_of, program_of}
use Rattle.ls_source_judge.specs.Judged.{AllLike, IsUnlikeRun}
use Rattle.ls_search.specs.Verdicts.{NeverStuck}
use Rattle.ls_specification.specs.Specification.{given_file, given_of, given_program, spec_file, spec_program}
use Rattle.ls_find.proofs.Goodness.{all_good}
use Rattle.ls_find.proofs.Simpler.{at_same, by_same}
use Rattle.ls_find.proofs.states.verdict_by_states.Goals as goal

pub returns-then-is_good : goal.returns-then-is_good
returns-then-is_good c =
    let i = c.args.image.now in
    let given = given_of c.args.given in
    let file : plain_file c.file-file.result.now ≡ file_of i =
    ap plain_file c.file-file.ensures ∙ ap (λ k. (elaborated_file k).file) c.checked.ensures in
    let program : plain_program c.program.result.now ≡ program_of i = ap plain_program c.program.ensures in
    let f = plain_file c.file-file.result.now in
    let p = plain_program c.program.result.now in
    let s = c.specification_of-specification.result in
    let is = c.if-is_good.true in
    let complete = c.is_good.ensures.complete is in
    let linear = by_same AllLike c.specification_of-specification.ensures.file
    c.specification_of-specification.ensures.program file program
    (subst (λ o. IfNone o (AllLike (spec_file s) (spec_program s) f p)) (c.is_good.ensures.bad is)
    (c.in_ok-judged.ensures.good complete)) in
    all_good c.args.sought.waiting given (file_of i) (program_of i) linear (λ waiting.
    c.pending_calls_wait.ensures.none (given_file given (file_of i)) (given_program given (program_of i)) (file_of i)
    (program_of i) (λ run over t waits.
    at_same NeverStuck file program
    (subst (λ o. IfNone o (NeverStuck f p)) (c.is_good.ensures.stuck is waiting)
    (c.in_ok-judged.ensures.free complete)) run
    (record { over = over; thread = t; waits = waits })))

pub returns : goal.returns
returns c =
    let i = c.args.image.now in
    let j = c.in_ok-judged.judged in
    let given = given_of c.args.given in
    let file : plain_file c.file-file.result.now ≡ file_of i =
    ap plain_file c.file-file.ensures ∙ ap (λ k. (elaborated_file k).file) c.checked.ensures in
    let program : plain_program c.program.result.now ≡ program_of i = ap plain_program c.program.ensures in
    let bad = by_same (λ (sf : File) (sp : Program) (f : File) (p : Program).
    IfNone j.doubt (IfSome j.bad (λ steps. IsUnlikeRun sf sp f p steps.items)))
    c.specification_of-specification.ensures.file c.specification_of-specification.ensures.program file program
    c.in_ok-judged.ensures.bad in
    IfOk-weaker c.bad_verdict.result _ _ (λ v said. said given bad) c.bad_verdict.ensures
