-- What the loop `place` of `trace` in src/telling.rt keeps.

use Rattle.std.proofs.Common.{◌≡◌, ◌+◌, drop, string_bytes}
use Rattle.ls_labels.specs.Names.{names_of}
use Rattle.ls_trace.specs.Lines.{lines}
use Rattle.ls_trace.specs.SeenTeller.{RunsNamed, names_in, told_of}
use Rattle.ls_trace.specs.Told.{begun}
use Rattle.ls_trace.proofs.Rests.{rest_of}
use Rattle.ls_trace.proofs.telling.trace.Given as goal

abbrev pub invariant-loop-place : goal.invariant-loop-place
invariant-loop-place l = record {
  names : names_in l.teller ≡ names_of l.fn.names;
  runs : RunsNamed l.teller;
  text : rest_of (names_of l.fn.names) l.from (l.place + 1) (told_of l.teller) (string_bytes l.text)
      (drop l.place l.steps)
      ≡ lines (names_of l.fn.names) l.from 1 (begun (names_of l.fn.names).program) l.steps;
}
