-- Why `compile` in src/compiling.rt keeps its contract and what it calls with.

use Rattle.ls_checked.specs.PlainProgram.{plain_program}
use Rattle.ls_types_elaboration.specs.PlacedStatements.{placed_file}
use Rattle.ls_types_checked.specs.CheckedFile.{elaborated_file}
use Rattle.std.proofs.lemmas.Result.{err_from_is_err_and}
use Rattle.ls_types_reading.proofs.Standing.{no_program}
use Rattle.ls_compiler.specs.Answers.{Compiled, NoFile, Breaks, NoProgram, PastLimit}
use Rattle.ls_compiler.proofs.Put.{compiled, has_setup, limited, past, err_of}
use Rattle.ls_compiler.proofs.compiling.compile.Goals as goal

pub new-source-requires : goal.new-source-requires
new-source-requires c = c.in_ok-program.ensures.kept

pub new-requires-clause-runs : goal.new-requires-clause-runs
new-requires-clause-runs c = c.in_ok-code.ensures.runs

pub new-requires-clause-setup : goal.new-requires-clause-setup
new-requires-clause-setup c =
    has_setup c.in_ok-checked.checked c.in_ok-program.program c.new-source.result c.in_ok-code.code c.args.program.now
    c.new-source.ensures.program c.in_ok-program.ensures.spelled c.in_ok-code.ensures.runs

pub returns-clause-compiled : goal.returns-clause-compiled
returns-clause-compiled c =
    compiled c.args.classes.now c.args.program.now (placed_file c.in_ok-parsed.parsed) c.in_ok-checked.checked
    c.in_ok-program.program c.new-source.result c.in_ok-code.code c.new.result
    c.new.ensures.source c.new.ensures.code c.new-source.ensures.checked c.new-source.ensures.program
    c.in_ok-parsed.ensures.file c.in_ok-checked.ensures.checked c.in_ok-program.ensures.spelled
    c.in_ok-code.ensures.runs

pub returns-clause-within : goal.returns-clause-within
returns-clause-within c = limited c.new-source.result c.in_ok-code.code c.new.result c.new.ensures.source
    c.new.ensures.code c.in_ok-code.ensures.code c.in_ok-code.ensures.within

pub returns-clause-refused : goal.returns-clause-refused
returns-clause-refused c = Compiled c.new.result (returns-clause-compiled c)

pub returns-in_err-parsed-clause-refused : goal.returns-in_err-parsed-clause-refused
returns-in_err-parsed-clause-refused c =
    let p = err_from_is_err_and c.from_residual.result c.from_residual.ensures.1 in
    rw (p.1, p.2) (NoFile c.in_err-parsed.field-0.0 c.in_err-parsed.ensures.refused
    (record {
      may = c.in_err-parsed.ensures.comes;
      long = λ l.
          err_of c.in_err-parsed.field-0.0 (c.in_err-parsed.ensures.long l);
    }))

pub returns-in_err-checked-clause-refused : goal.returns-in_err-checked-clause-refused
returns-in_err-checked-clause-refused c =
    let p = err_from_is_err_and c.from_residual-in_err-checked.result c.from_residual-in_err-checked.ensures.1 in
    rw (p.1, p.2) (Breaks (placed_file c.in_ok-parsed.parsed) c.in_err-checked.field-0.0 c.in_ok-parsed.ensures.file
    c.in_err-checked.ensures.refused)

pub returns-in_err-program-clause-refused : goal.returns-in_err-program-clause-refused
returns-in_err-program-clause-refused c =
    let p = err_from_is_err_and c.from_residual-in_err-program.result c.from_residual-in_err-program.ensures.1 in
    rw (p.1, p.2)
    (NoProgram (placed_file c.in_ok-parsed.parsed) (elaborated_file c.in_ok-checked.checked) c.in_err-program.field-0.0
    c.in_ok-parsed.ensures.file c.in_ok-checked.ensures.checked
    (no_program (elaborated_file c.in_ok-checked.checked) c.args.program.now c.in_err-program.field-0.0
    c.in_err-program.ensures.refused c.in_err-program.ensures.stands))

pub returns-in_err-code-clause-refused : goal.returns-in_err-code-clause-refused
returns-in_err-code-clause-refused c =
    let p = err_from_is_err_and c.from_residual-in_err-code.result c.from_residual-in_err-code.ensures.1 in
    let o = elaborated_file c.in_ok-checked.checked in
    let program = plain_program c.in_ok-program.program in
    rw (p.1, p.2)
    (PastLimit (placed_file c.in_ok-parsed.parsed) o program c.in_err-code.field-0.0 c.in_ok-parsed.ensures.file
    c.in_ok-checked.ensures.checked c.in_ok-program.ensures.spelled
    (past c.in_ok-checked.checked c.in_ok-program.program c.new-source.result c.in_err-code.field-0.0
    c.new-source.ensures.checked c.new-source.ensures.program c.in_err-code.ensures.refused))
