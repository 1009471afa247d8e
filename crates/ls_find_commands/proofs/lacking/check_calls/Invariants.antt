-- What the loop `call` of `check_calls` in src/lacking.rt keeps: each call so far is one of the class text too.

use Rattle.std.proofs.Common.{◌≡◌, ◌<◌, ℕ, Some, map, string_bytes}
use Rattle.std.specs.Prelude.{slice_get}
use Rattle.ls_family_search.specs.Judged.{calls_of, making_of}
use Rattle.ls_report.specs.Events.{Text}
use Rattle.ls_find_commands.specs.Lacking.{HasCall}
use Rattle.ls_find_commands.proofs.lacking.check_calls.Given as goal

abbrev pub invariant-loop-call : goal.invariant-loop-call
invariant-loop-call l = record {
  same : map string_bytes l.call-items ≡ calls_of l.programs;
  before : (k : ℕ) → k < l.call-index → (y : Text) → slice_get (calls_of l.programs) k ≡ Some y →
      HasCall l.reference l.classes (making_of l.programs) y;
}
