-- What the loop `s` of the cycle `flats` in src/stays.rt keeps.

use Rattle.std.proofs.Common.{drop}
use Rattle.ls_lowered.specs.Plain.{statements_of}
use Rattle.ls_finally.specs.Stays.{AreFlat}
use Rattle.ls_finally.proofs.stays.+flats.Given as goal

abbrev pub invariant-are_flat-loop-s : goal.invariant-are_flat-loop-s
invariant-are_flat-loop-s l =
    AreFlat (statements_of (drop l.s-index l.statements)) → AreFlat (statements_of l.statements)
