-- Why `QuietExplorerJudge::judge` in src/quiet.rt keeps its contract and what `judged` requires.

use Rattle.std.proofs.Common.{◌≡◌, Bool, Global, List, Some, Vec, ap₂, map, subst, sym}
use Rattle.std.specs.Prelude.{option_map}
use Rattle.std.proofs.lemmas.Result.{IfOk-weaker}
use Rattle.ls_checked.specs.CheckedTree.{File}
use Rattle.ls_checked.specs.CheckedProgram.{Program}
use Rattle.ls_checked.specs.PlainProgram.{plain_program}
use Rattle.ls_image.specs.Images.{checked_of, program_of_image}
use Rattle.ls_items.specs.Cutting.{plain_text}
use Rattle.ls_race_reports.specs.ClassFlags.{AreFlags}
use Rattle.ls_specification.specs.Specification.{given_of}
use Rattle.ls_translation.specs.Texts.{file_of, program_of}
use Rattle.ls_types_checked.specs.CheckedFile.{elaborated_file}
use Rattle.ls_find.specs.Found.{IsGivenBy}
use Rattle.ls_find_races.proofs.quiet.QuietExplorerJudge.judge.Goals as goal

pub judged-requires : goal.judged-requires
judged-requires c =
    let i = c.in-Ok.image in
    let is = c.in-Ok.ensures.compiled in
    c.source_is_readable.ensures is.file (elaborated_file (checked_of i)) c.args.program.now
    (plain_program (program_of_image i)) is.elaborates is.reads

pub judged-requires-in-Ok-compile : goal.judged-requires-in-Ok-compile
judged-requires-in-Ok-compile c =
    let i = c.in-Ok.image in
    let is = c.in-Ok.ensures.compiled in
    c.source_is_readable.ensures is.file (elaborated_file (checked_of i)) c.args.program.now
    (plain_program (program_of_image i)) is.elaborates is.reads

pub returns-in-Ok-compile : goal.returns-in-Ok-compile
returns-in-Ok-compile c =
    let e = c.args.self.now.explorer.now in
    let s = c.in-Ok-compile.other in
    let given : given_of (Some c.own.result) ≡ Some (file_of s, program_of s) =
    ap₂ (λ (f : File) (p : Program). Some (f, p)) c.own.ensures.file c.own.ensures.program in
    let declared = subst (λ (l : List (Vec Bool Global)). AreFlags e.classes.now (map (λ v. v.items) l))
    (sym c.deref-in-Ok-compile.ensures.value) c.in_ok-flags.ensures in
    IfOk-weaker c.judged-in-Ok-compile.result _ _
    (λ j said. said (option_map plain_text e.specification) e.classes.now c.args.program.now
    (subst (λ o. IsGivenBy (option_map plain_text o) c.args.program.now (given_of (Some c.own.result)))
    (sym c.in-Some.is) (s, c.in-Ok-compile.ensures.compiled, given)) declared c.in-Ok.ensures.compiled)
    c.judged-in-Ok-compile.ensures
