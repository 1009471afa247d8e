-- Why `is_on_one` in src/programs.rt keeps its contract.

use Rattle.std.proofs.Common.{length, map, subst}
use Rattle.ls_checked.specs.PlainProgram.{plain_name, plain_program, plain_thread}
use Rattle.ls_guarded.specs.Guards.{AreOnOne}
use Rattle.ls_guarded.proofs.OnOne.{on_one}
use Rattle.ls_guarded.proofs.programs.is_on_one.Goals as goal

pub returns : goal.returns
returns c = λ yes.
    on_one c.args.class c.args.methods.now (plain_program c.args.program.now)
    (subst (λ ts. AreOnOne c.args.class c.args.methods.now (length (map plain_name c.args.program.now.names.items))
    (map plain_thread ts))
    c.deref-2.ensures.value
    (subst (λ ns. AreOnOne c.args.class c.args.methods.now (length (map plain_name ns))
    (map plain_thread c.deref-2.result.now))
    c.deref.ensures.value (c.are_on_one.ensures yes)))
