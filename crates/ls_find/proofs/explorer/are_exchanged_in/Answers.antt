-- Why `are_exchanged_in` in src/explorer.rt keeps its contract.

use Rattle.std.proofs.Common.{subst}
use Rattle.ls_checked.specs.PlainProgram.{plain_program}
use Rattle.ls_image.specs.Images.{program_of_image}
use Rattle.ls_exchanged.specs.Doubles.{AreDoubles}
use Rattle.ls_find.proofs.explorer.are_exchanged_in.Goals as goal

pub returns : goal.returns
returns c = λ is.
    let i = c.in-Ok.image in
    let j = c.in-Ok-compile.before in
    let u = c.args.place in record {
      before = j;
      of_first = c.in-Ok-compile.ensures.compiled;
      after = i;
      of_second = c.in-Ok.ensures.compiled;
      doubles = subst (λ p. AreDoubles u (plain_program (program_of_image j)) (plain_program p)) c.program-2.ensures
          (subst (λ p. AreDoubles u (plain_program p) (plain_program c.program-2.result.now)) c.program.ensures
          (c.are_doubles_at.ensures.0 is));
    }
