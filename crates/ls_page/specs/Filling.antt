-- Lines of `trace` that are left out, and had again.
use Rattle.std.specs.Prelude.{◌≡◌, ◌<◌, ℕ, zero, suc, ◌+◌, nat_eq, List, [], ◌∷◌, flat_map, length, if◌then◌else◌}
use Rattle.ls_report.specs.Events.{Text}
use Rattle.ls_labels.specs.Names.{Names}
use Rattle.ls_trace.specs.Lines.{trace_text}
use Rattle.ls_page.specs.Changes.{Line, changed, line_text, trace_lines}

-- So many lines from a number on, where each that isn't given says what the one before says. The words of the line
-- before the first are given.
abbrev pub filled : ℕ → ℕ → Text → List Line → List Line
filled zero number words ls = []
filled (suc left) number words [] = record { number = number; words = words } ∷ filled left (number + 1) words []
filled (suc left) number words (l ∷ ls) =
    if nat_eq l.number number then l ∷ filled left (number + 1) l.words ls
    else record { number = number; words = words } ∷ filled left (number + 1) words (l ∷ ls)

-- what `trace` prints are these lines
abbrev pub LinesAreTheTrace : Type 0
LinesAreTheTrace = (names : Names) (steps : List ℕ) (from to : ℕ) →
    trace_text names steps from to ≡ flat_map line_text (trace_lines names steps from to)

-- from the lines that a page has come all
abbrev pub ChangesFill : Type 0
ChangesFill = (names : Names) (steps : List ℕ) (from to : ℕ) → 0 < from →
    filled (length (trace_lines names steps from to)) from [] (changed [] (trace_lines names steps from to))
    ≡ trace_lines names steps from to
