-- Why `is_calm` in src/programs.rt keeps its contract.

use Rattle.ls_checked.specs.Plain.{plain_file}
use Rattle.ls_checked.specs.PlainProgram.{plain_program}
use Rattle.ls_guarded.proofs.OnOne.{calm_one}
use Rattle.ls_guarded.proofs.programs.is_calm.Goals as goal

pub returns-then-is_some : goal.returns-then-is_some
returns-then-is_some c = λ yes.
    calm_one c.args.guard (plain_file c.args.file.now) c.args.class c.args.methods.now
    (plain_program c.args.program.now)
    c.requires (c.is_some.ensures c.if-is_some.true) (c.is_on_one.ensures yes)
