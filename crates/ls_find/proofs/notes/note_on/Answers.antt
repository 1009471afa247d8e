-- Why `note_on` in src/notes.rt keeps its contract and what `hopeless_line` requires.

use Rattle.std.proofs.Common.{String, Global, subst, sym}
use Rattle.std.specs.Prelude.{IfOk, string_bytes}
use Rattle.ls_checked.specs.CheckedProgram.{Program}
use Rattle.ls_checked.specs.CheckedTree.{File}
use Rattle.ls_hopeless.specs.Hopeless.{IsHopelessLine}
use Rattle.ls_linearizable.specs.Linearizable.{IsLinearizable}
use Rattle.ls_meaning.specs.Runs.{source_history}
use Rattle.ls_specification.specs.Specification.{given_of}
use Rattle.ls_translation.specs.Texts.{file_of, program_of}
use Rattle.ls_find.specs.Found.{IsNote}
use Rattle.ls_find.specs.Verdicts.{IsBad}
use Rattle.ls_find.specs.declared.verdict.Reason.{Reason}
use Rattle.ls_find.proofs.Simpler.{at_same}
use Rattle.ls_find.proofs.notes.note_on.Goals as goal

pub hopeless_line-requires : goal.hopeless_line-requires
hopeless_line-requires c = c.requires c.args.schedule.now

pub returns-in-NotLinearizable : goal.returns-in-NotLinearizable
returns-in-NotLinearizable c =
    let given = given_of c.args.given in
    let file : File = file_of c.args.image.now in
    let program : Program = program_of c.args.image.now in
    let schedule = c.args.schedule.now in
    let run = source_history file program schedule in
    let by = c.specification_of-specification.ensures in
    subst (λ (k : Reason). IfOk c.hopeless_line.result (λ (note : String Global).
    IsBad k given file program schedule → IsNote k given file program schedule (string_bytes note)))
    (sym c.in-NotLinearizable.is)
    (at_same (λ (f : File) (p : Program). IfOk c.hopeless_line.result (λ (note : String Global).
    ¬ IsLinearizable f p run → IsHopelessLine f p program run (string_bytes note))) by.file by.program
    c.hopeless_line.ensures)
