-- What the loop `calls` of `is_silent` in src/silent.rt keeps: no entry so far has a call that answers a value.

use Rattle.std.proofs.Common.{◌≡◌, ◌<◌, ℕ, Some, false, map, string_bytes}
use Rattle.std.specs.Prelude.{slice_get}
use Rattle.ls_family_search.specs.Judged.{making_of}
use Rattle.ls_report.specs.Events.{Text}
use Rattle.ls_find_commands.specs.Silent.{Answer}
use Rattle.ls_find_commands.proofs.silent.is_silent.Given as goal

abbrev pub invariant-loop-calls : goal.invariant-loop-calls
invariant-loop-calls l = record {
  same : map string_bytes l.calls-items ≡ l.programs.menu.threads;
  before : (k : ℕ) → k < l.calls-index → (y : Text) → slice_get l.programs.menu.threads k ≡ Some y →
      Answer false l.classes (making_of l.programs) y;
}
