-- What the loop `s` of the cycle `statements` in src/trees.rt keeps.

use Rattle.std.proofs.Common.{drop}
use Rattle.ls_checked.specs.Plain.{statements_of}
use Rattle.ls_meaning.specs.Constants.{UseConstants}
use Rattle.ls_renaming.proofs.trees.+statements.Given as goal

abbrev pub invariant-use_constants-loop-s : goal.invariant-use_constants-loop-s
invariant-use_constants-loop-s l = UseConstants (statements_of (drop l.s-index l.ss)) →
    UseConstants (statements_of l.ss)
