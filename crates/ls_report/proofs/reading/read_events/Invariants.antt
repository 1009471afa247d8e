-- What the loop `line` of `read_events` in src/reading.rt keeps, and why the loop ends.

use Rattle.std.proofs.Common.{◌≡◌, ◌++◌, true, length, map}
use denote.Text.{Utf8}
use denote.Shadow.{shadow}
use Rattle.ls_report.specs.Discipline.{is_history}
use Rattle.ls_report.specs.Front.{IsIndexed}
use Rattle.ls_report.specs.Lines.{history_text}
use Rattle.ls_report.specs.Plain.{plain_event}
use Rattle.ls_report.proofs.reading.read_events.Given as goal

abbrev pub invariant-loop-line : goal.invariant-loop-line
invariant-loop-line l = record {
  text : shadow (Utf8 l.rest);
  indexed : IsIndexed l.front;
  history : is_history (map plain_event l.front.events.items) ≡ true;
  lines : l.text ≡ history_text (map plain_event l.front.events.items) ++ l.rest;
}

abbrev pub decreases-loop-line : goal.decreases-loop-line
decreases-loop-line l = length l.rest
