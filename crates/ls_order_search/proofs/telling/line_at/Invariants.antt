-- What the loop `past` of `line_at` in src/telling.rt keeps.

use Rattle.std.proofs.Common.{◌≡◌, ◌≤◌, List, drop, length}
use denote.Shadow.{shadow}
use denote.Text.{Utf8}
use Rattle.ls_report.specs.Events.{Event}
use Rattle.ls_report.specs.Lines.{history_text}
use Rattle.ls_report.specs.Reading.{Says}
use Rattle.ls_order_search.proofs.telling.line_at.Given as goal

abbrev pub invariant-loop-past : goal.invariant-loop-past
invariant-loop-past l = shadow (Utf8 l.rest) × ((events : List Event) → Says l.text events → l.at ≤ length events →
    l.rest ≡ history_text (drop l.past events))
