-- What the loop `calls` of `some_gives` in src/giving.rt keeps: no entry so far has a call that gives a lock back.

use Rattle.std.proofs.Common.{◌≡◌, ◌<◌, ℕ, Some, false, map, string_bytes}
use Rattle.std.specs.Prelude.{slice_get}
use Rattle.ls_family_search.specs.Judged.{calls_of, making_of}
use Rattle.ls_report.specs.Events.{Text}
use Rattle.ls_find_commands.specs.Giving.{Gives}
use Rattle.ls_find_commands.proofs.giving.some_gives.Given as goal

abbrev pub invariant-loop-calls : goal.invariant-loop-calls
invariant-loop-calls l = record {
  same : map string_bytes l.calls-items ≡ calls_of l.programs;
  before : (k : ℕ) → k < l.calls-index → (y : Text) → slice_get (calls_of l.programs) k ≡ Some y →
      Gives false l.classes (making_of l.programs) y;
}
