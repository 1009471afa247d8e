-- Why `judged_by` in src/judging.rt keeps its clauses of schedules.

use Rattle.ls_checked.specs.CheckedTree.{File}
use Rattle.ls_checked.specs.CheckedProgram.{Program}
use Rattle.ls_checked.specs.Plain.{plain_file}
use Rattle.ls_checked.specs.PlainProgram.{plain_program}
use Rattle.ls_specification.specs.Specification.{spec_file, spec_program}
use Rattle.ls_source_judge.proofs.WholeRuns.{bad_if_none, if_none, none_whole, unjudged_if_some, whole_stuck}
use Rattle.ls_source_judge.proofs.judging.judged_by.Goals as goal

pub returns-clause-good : goal.returns-clause-good
returns-clause-good c = λ complete.
    let file : File = plain_file c.args.file.now in
    let program : Program = plain_program c.args.program.now in
    let f = c.in_ok-setup.field-0 in
    none_whole file program f.setup _ f.bad c.in_ok-bad.bad c.in_ok-bad.ensures
    (if_none f.bad (λ good schedule. c.requires.explained file program schedule (good c.bad_stays_bad.ensures schedule))
    (c.in_ok-setup.ensures.good complete))

pub returns-clause-bad : goal.returns-clause-bad
returns-clause-bad c =
    let file : File = plain_file c.args.file.now in
    let program : Program = plain_program c.args.program.now in
    let f = c.in_ok-setup.field-0 in
    bad_if_none (spec_file c.args.specification) (spec_program c.args.specification) file program f.setup
    c.args.serial.observer c.args.serial.doubt
    c.requires.unexplained f.bad c.in_ok-bad.bad c.in_ok-bad.ensures c.in_ok-setup.ensures.bad

pub returns-clause-unjudged : goal.returns-clause-unjudged
returns-clause-unjudged c =
    let file : File = plain_file c.args.file.now in
    let program : Program = plain_program c.args.program.now in
    let f = c.in_ok-setup.field-0 in
    unjudged_if_some (spec_file c.args.specification) (spec_program c.args.specification) file program f.setup
    c.args.serial.observer c.args.serial.doubt
    c.requires.doubted
    f.bad c.in_ok-bad.bad c.in_ok-bad.ensures c.in_ok-setup.ensures.bad

pub returns-clause-free : goal.returns-clause-free
returns-clause-free c = λ complete.
    let file : File = plain_file c.args.file.now in
    let program : Program = plain_program c.args.program.now in
    let f = c.in_ok-setup.field-0 in
    none_whole file program f.setup _ f.stuck c.in_ok-stuck.stuck c.in_ok-stuck.ensures
    (c.in_ok-setup.ensures.free complete)

pub returns-clause-stuck : goal.returns-clause-stuck
returns-clause-stuck c =
    let file : File = plain_file c.args.file.now in
    let program : Program = plain_program c.args.program.now in
    let f = c.in_ok-setup.field-0 in
    whole_stuck file program f.setup f.stuck c.in_ok-stuck.stuck c.in_ok-stuck.ensures c.in_ok-setup.ensures.stuck
