-- Why `judged` in src/quiet.rt keeps its contract.

use Rattle.std.proofs.Common.{map}
use Rattle.ls_specification.specs.Specification.{given_of}
use Rattle.ls_find_races.proofs.quiet.judged.Goals as goal

pub returns-then-branch : goal.returns-then-branch
returns-then-branch c = λ specification classes program is declared compiles. record {
  sound = record {
    image = c.args.image.now;
    compiles = compiles;
    given = given_of c.args.given;
    is_given = is;
    good = c.in_ok-is_settled.ensures.good c.if-branch.true;
  };
  free = record {
    image = c.args.image.now;
    compiles = compiles;
    flags = map (λ v. v.items) c.args.flags.now;
    declared = declared;
    never = c.in_ok-is_settled.ensures.free c.if-branch.true;
  };
}
