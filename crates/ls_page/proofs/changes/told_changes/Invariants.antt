-- What the loop `place` of `told_changes` in src/changes.rt keeps.

use Rattle.std.proofs.Common.{◌≡◌, [], ◌+◌, drop, string_bytes}
use Rattle.std.specs.Prelude.{flat_map}
use Rattle.ls_labels.specs.Names.{names_of}
use Rattle.ls_trace.specs.SeenTeller.{RunsNamed, names_in, told_of}
use Rattle.ls_trace.specs.Told.{begun}
use Rattle.ls_page.specs.Changes.{changed, line_text, lines_of}
use Rattle.ls_page.proofs.Changing.{rest_of}
use Rattle.ls_page.proofs.changes.told_changes.Given as goal

abbrev pub invariant-loop-place : goal.invariant-loop-place
invariant-loop-place l = record {
  names : names_in l.teller ≡ names_of l.fn.names;
  runs : RunsNamed l.teller;
  text : rest_of (names_of l.fn.names) l.window.from (l.place + 1) (told_of l.teller) (string_bytes l.changes.text)
      (string_bytes l.changes.words) (drop l.place l.shown)
      ≡ flat_map line_text (changed [] (lines_of (names_of l.fn.names) l.window.from 1
      (begun (names_of l.fn.names).program) l.shown));
}
