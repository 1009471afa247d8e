-- What the loop `first` of `values_in` in src/line_reading.rt keeps, and why the loop ends.

use Rattle.std.proofs.Common.{◌≡◌, ◌<◌, ◌++◌, true, length, List}
use Rattle.std.specs.List.{list_all}
use denote.Text.{Utf8}
use denote.Shadow.{shadow}
use Rattle.ls_events.specs.declared.value.Value.{Value}
use Rattle.ls_report.specs.Discipline.{is_shown}
use Rattle.ls_report.specs.Lines.{arguments_text}
use Rattle.ls_report.proofs.Exact.{led}
use Rattle.ls_report.proofs.line_reading.values_in.Given as goal

abbrev pub invariant-loop-first : goal.invariant-loop-first
invariant-loop-first l = record {
  text : shadow (Utf8 l.rest);
  read : l.text ≡ led l.values.items ++ l.rest;
  left : (vs : List Value) → list_all is_shown vs ≡ true → l.text ≡ arguments_text vs
      → (back : List Value) × (vs ≡ l.values.items ++ back) × (0 < length back) × (list_all is_shown back ≡ true) ×
      (l.rest ≡ arguments_text back);
}

abbrev pub decreases-loop-first : goal.decreases-loop-first
decreases-loop-first l = length l.rest
