-- Why `exchanged_in` in src/explorer.rt keeps its contract.

use Rattle.std.proofs.Common.{Option, Some, None, IfSome, subst}
use Rattle.ls_checked.specs.PlainProgram.{plain_program}
use Rattle.ls_image.specs.Images.{program_of_image}
use Rattle.ls_exchanged.specs.Doubles.{AreDoubles}
use Rattle.ls_find.proofs.explorer.exchanged_in.Goals as goal

if_some : {X : Type 0} {P Q : X → Type 0} (o : Option X) → ((x : X) → P x → Q x) → IfSome o P → IfSome o Q
if_some None f p = tt
if_some (Some x) f p = f x p

pub returns : goal.returns
returns c =
    let i = c.in-Ok.image in
    let j = c.in-Ok-compile.before in
    if_some c.place_of_doubles.result (λ u is. record {
      before = j;
      of_first = c.in-Ok-compile.ensures.compiled;
      after = i;
      of_second = c.in-Ok.ensures.compiled;
      doubles = subst (λ p. AreDoubles u (plain_program (program_of_image j)) (plain_program p)) c.program-2.ensures
          (subst (λ p. AreDoubles u (plain_program p) (plain_program c.program-2.result.now)) c.program.ensures is);
    }) c.place_of_doubles.ensures.some
