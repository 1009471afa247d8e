-- What holds of every walk over a graph.
use Rattle.std.specs.Prelude.{◌≡◌, ℕ, ◌+◌, List, ◌++◌, Some, length}
use Rattle.ls_report.specs.Events.{Text}
use Rattle.ls_labels.specs.Names.{Names}
use Rattle.ls_trace.specs.Lines.{trace_text}
use Rattle.ls_choices.specs.Schedules.{told_after}
use Rattle.ls_choices.specs.Rows.{Graph, IsGraphFrom, LeadsTo}
use Rattle.ls_choices.specs.Walks.{end_along, numbered, words_along}

-- what `trace` prints of all steps of a schedule
abbrev pub whole_trace : Names → List ℕ → Text
whole_trace names steps = trace_text names steps 1 (length steps)

-- the lines along a walk, after those of the first steps, are what `trace` prints of the whole schedule
abbrev pub WalksAreTraced : Type 0
WalksAreTraced = (names : Names) (first : List ℕ) (g : Graph) → IsGraphFrom names first g →
    (threads : List ℕ) (words : List Text) → words_along g 0 threads ≡ Some words →
    whole_trace names (first ++ threads) ≡ whole_trace names first ++ numbered (length first + 1) words

-- after a walk all is told as after the path of the state to which it leads
abbrev pub WalksLead : Type 0
WalksLead = (names : Names) (first : List ℕ) (g : Graph) → IsGraphFrom names first g →
    (threads : List ℕ) (number : ℕ) → end_along g 0 threads ≡ Some number →
    LeadsTo names g.paths (told_after names (first ++ threads)) number
