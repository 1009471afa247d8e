-- Why `faulty_at` in src/faulty.rt keeps its clause `some`.

use Rattle.std.proofs.Common.{refl, subst, sym}
use Rattle.std.specs.Prelude.{IfSome, string_bytes}
use Rattle.ls_find_commands.specs.Faulty.{IsTextAt}
use Rattle.ls_find_commands.proofs.faulty.faulty_at.Goals as goal

pub returns-clause-some : goal.returns-clause-some
returns-clause-some c = record {
  number = refl;
  fault = (c.in-Some.fault, c.in-Some.faulty.now);
  first = sym c.in-Some.ensures;
  text = subst (λ o. IfSome o (λ text. IsTextAt c.args.programs.now c.args.number (string_bytes text))) c.in-Some-2.is
      c.in_ok-program.ensures.some;
  shows = c.in_ok-halt.ensures;
}
