-- What the loop `ends` of `written_calls` in src/writing.rt keeps.
use Rattle.std.proofs.Common.{◌≡◌, ℕ, Some, length}
use Rattle.std.specs.Prelude.{slice_get}
use Rattle.ls_progress.specs.declared.judging.CallEnds.{CallEnds}
use Rattle.ls_schedule.specs.Reading.{thread_names}
use Rattle.ls_end_reports.specs.Written.{IsWritten}
use Rattle.ls_end_reports.specs.declared.writing.CallText.{CallText}
use Rattle.ls_end_reports.proofs.writing.written_calls.Given as goal

abbrev pub invariant-loop-ends : goal.invariant-loop-ends
invariant-loop-ends l = record {
  many : length l.texts.items ≡ l.ends-index;
  each : (i : ℕ) (e : CallEnds) (w : CallText) → slice_get l.calls i ≡ Some e → slice_get l.texts.items i ≡ Some w →
      IsWritten (thread_names l.program) e w;
}
