-- The lines of `trace` without those that say what the line before says.
use Rattle.std.specs.Prelude.{ℕ, ◌+◌, nat_le, List, [], ◌∷◌, ◌++◌, bytes_eq, flat_map, take, if◌then◌else◌}
use Rattle.std.specs.Fmt.{decimal}
use Rattle.ls_report.specs.Events.{Text}
use Rattle.ls_labels.specs.Names.{Names}
use Rattle.ls_trace.specs.Told.{Told, after_step, begun, step_in}
use Rattle.ls_trace.specs.Lines.{step_text}

-- the number of a step, and what `trace` tells of it
pub record Line : Type 0 where
  pub number : ℕ
  pub words : Text

-- as `trace` prints it: `12 A.1 reads Node#3.next: Node#4`
abbrev pub line_text : Line → Text
line_text l = decimal l.number ++ (32 ∷ (l.words ++ 10 ∷ []))

-- a step of a thread after a run
abbrev pub line_of : Names → ℕ → Told → ℕ → Line
line_of names number r thread = record {
  number = number;
  words = step_text names (after_step names r thread) thread (step_in names r thread).did;
}

-- these steps after a run, from a number on; the first step's number is given
abbrev pub lines_of : Names → ℕ → ℕ → Told → List ℕ → List Line
lines_of names from number r [] = []
lines_of names from number r (thread ∷ threads) =
    (if nat_le from number then line_of names number r thread ∷ [] else [])
    ++ lines_of names from (number + 1) (after_step names r thread) threads

-- the lines of `trace`
abbrev pub trace_lines : Names → List ℕ → ℕ → ℕ → List Line
trace_lines names steps from to = lines_of names from 1 (begun names.program) (take to steps)

-- the lines that don't say what the line before says; the words of the line before the first are given
abbrev pub changed : Text → List Line → List Line
changed words [] = []
changed words (l ∷ ls) = (if bytes_eq words l.words then [] else l ∷ []) ++ changed l.words ls

-- what `trace` prints without the lines that say what the line before says
abbrev pub changes_text : Names → List ℕ → ℕ → ℕ → Text
changes_text names steps from to = flat_map line_text (changed [] (trace_lines names steps from to))
