-- What the loop `place` of `folded_trace` in src/folding.rt keeps.

use Rattle.std.proofs.Common.{◌≡◌, ◌+◌, ◌≤◌, ℕ, drop, get_or, string_bytes}
use Rattle.std.specs.Prelude.{flat_map, map}
use Rattle.ls_labels.specs.Names.{names_of}
use Rattle.ls_trace.specs.Folds.{fold_line, folded, steps_told}
use Rattle.ls_trace.specs.SeenFolder.{open_of}
use Rattle.ls_trace.specs.SeenTeller.{RunsNamed, names_in, told_of}
use Rattle.ls_trace.specs.Told.{begun}
use Rattle.ls_trace.proofs.LinesLeft.{rest_of}
use Rattle.ls_trace.proofs.folding.folded_trace.Given as goal

abbrev pub invariant-loop-place : goal.invariant-loop-place
invariant-loop-place l = record {
  names : names_in l.folder.teller ≡ names_of l.fn.names;
  runs : RunsNamed l.folder.teller;
  room : (t : ℕ) → get_or l.folder.counts.items t 0 ≤ l.place;
  text : rest_of (names_of l.fn.names) l.from (l.place + 1) l.folder.counts.items (told_of l.folder.teller)
      (string_bytes l.text) (open_of l.folder) (drop l.place l.steps)
      ≡ flat_map fold_line
      (folded (steps_told (names_of l.fn.names) l.from 1 (map (λ t. 0) (names_of l.fn.names).program.threads)
      (begun (names_of l.fn.names).program) l.steps));
}
