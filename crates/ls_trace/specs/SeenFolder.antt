-- What the code keeps of a trace that it folds, in the definitions' words.
use Rattle.std.specs.Prelude.{ℕ, [], Option, Some, None, option_map, string_bytes, if◌then◌else◌}
use Rattle.ls_report.specs.Events.{Text}
use Rattle.ls_trace.specs.Told.{after_step}
use Rattle.ls_trace.specs.SeenTeller.{names_in, told_of}
use Rattle.ls_trace.specs.Folds.{Fold, counted, fold_line, step_told, takes_in, with_next}
use Rattle.ls_trace.specs.declared.fold.Span.{Span}
use Rattle.ls_trace.specs.declared.folding.Folder.{Folder}

-- steps of whose last these words are told
abbrev pub fold_of : Span → Text → Fold
fold_of s words = record {
  number = s.number;
  last = s.last;
  own = s.own;
  own_last = s.own_last;
  thread = s.thread;
  manner = s.manner;
  words = words;
}

-- the steps whose line isn't written yet
abbrev pub open_of : Folder → Option Fold
open_of f = option_map (λ s. fold_of s (string_bytes f.words)) f.span

-- what a folder tells next of a thread, by itself
abbrev pub next_of : Folder → ℕ → ℕ → Fold
next_of f number thread =
    step_told (names_in f.teller) number (counted f.counts.items thread) (told_of f.teller)
    (after_step (names_in f.teller) (told_of f.teller) thread) thread

-- the line that is written when one more step is told, if the steps before it don't take it in
abbrev pub written_with : Option Fold → Fold → Text
written_with None step = []
written_with (Some f) step = if takes_in f step then [] else fold_line f

-- and the steps whose line isn't written then
abbrev pub open_with : Option Fold → Fold → Fold
open_with None step = step
open_with (Some f) step = if takes_in f step then with_next f step else step

-- the line of the steps that are left
abbrev pub open_line : Option Fold → Text
open_line None = []
open_line (Some f) = fold_line f
