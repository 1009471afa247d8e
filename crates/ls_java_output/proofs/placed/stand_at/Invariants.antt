-- What the loop of `stand_at` in src/placed.rt keeps.

use Rattle.std.proofs.Common.{◌≡◌, map, take}
use Rattle.ls_java_output.specs.Words.{span_of, spans_of}
use Rattle.ls_java_output.proofs.placed.stand_at.Given as goal

abbrev pub invariant-loop-at : goal.invariant-loop-at
invariant-loop-at l = map span_of (take l.at l.places) ≡ spans_of (take l.at l.words)
