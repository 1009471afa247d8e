-- Why `is_made_of` in src/menu.rt keeps its contract.

use Rattle.std.proofs.Common.{subst}
use Rattle.std.specs.Prelude.{IfSome}
use Rattle.ls_checked.specs.PlainProgram.{plain_program}
use Rattle.ls_checked.specs.declared.program.Program.{Program}
use Rattle.ls_families.specs.Texts.{alone_text}
use Rattle.ls_guarded.specs.Guards.{IsOnOne}
use Rattle.ls_image.specs.Images.{Compiles}
use Rattle.ls_any_size.proofs.menu.is_made_of.Goals as goal

pub returns-in-Some : goal.returns-in-Some
returns-in-Some c = λ yes. record {
  image = c.in-Some.image;
  compiles = subst (λ o. IfSome o (Compiles c.args.classes.now (alone_text c.args.making.now 0 c.args.call.now)))
      c.in-Some.is c.in_ok-image.ensures;
  on_one = subst (λ (p : Program). IsOnOne c.args.menu.now.class c.args.menu.now.methods.items (plain_program p))
      c.program.ensures
      (subst (λ ms. IsOnOne c.args.menu.now.class ms (plain_program c.program.result.now)) c.deref.ensures.value
      (c.is_on_one.ensures yes));
}
