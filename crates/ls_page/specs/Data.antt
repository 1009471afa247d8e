-- The data of a page, as one JSON text.
use Rattle.std.specs.Prelude.{ℕ, ◌-◌, List, ◌++◌, codes, length, take}
use Rattle.std.specs.Fmt.{decimal}
use Rattle.ls_meaning.specs.Runs.{source_history}
use Rattle.ls_report.specs.Events.{Text}
use Rattle.ls_report.specs.Printing.{run_text}
use Rattle.ls_labels.specs.Names.{Names}
use Rattle.ls_state.specs.State.{state_text}
use Rattle.ls_page.specs.Changes.{changes_text}
use Rattle.ls_page.specs.Quoted.{quoted}
use Rattle.ls_page.specs.declared.parts.Judged.{Judged as GivenJudged}
use Rattle.ls_page.specs.declared.parts.Texts.{Texts as GivenTexts}

-- the texts that a run comes from
pub record Texts : Type 0 where
  pub classes : Text
  pub program : Text
  pub schedule : Text

abbrev pub texts_of : GivenTexts → Texts
texts_of t = record { classes = t.classes.now; program = t.program.now; schedule = t.schedule.now }

-- an order of its calls, and what `check` says of it
pub record Judged : Type 0 where
  pub order : Text
  pub verdict : Text

abbrev pub judged_of : GivenJudged → Judged
judged_of j = record { order = j.order.now; verdict = j.verdict.now }

-- as `,"trace":"1 setup.1 ..\n"`
abbrev pub field : Text → Text → Text
field key text = codes ",\"" ++ (key ++ (codes "\":" ++ quoted text))

-- what `source` prints
abbrev pub history_text : Names → List ℕ → Text
history_text names steps = run_text names.program (source_history names.file names.program steps)

-- the format's number, and those of the first and the last step that are shown
abbrev pub head_text : ℕ → ℕ → Text
head_text from to = codes "{\"listset\":2,\"from\":" ++ (decimal from ++ (codes ",\"to\":" ++ decimal to))

-- what the run comes from
abbrev pub texts_text : Texts → Text
texts_text texts =
    field (codes "classes") texts.classes
    ++ (field (codes "program") texts.program ++ field (codes "schedule") texts.schedule)

-- what was before the first step that is shown: the history and the state of the steps before it
abbrev pub before_text : Names → List ℕ → Text
before_text names steps =
    field (codes "past") (history_text names steps) ++ field (codes "before") (state_text names steps)

-- the steps that are shown, where a line that says what the line before says is left out, and the state after the last
abbrev pub rest_text : Names → List ℕ → ℕ → ℕ → Text
rest_text names steps from to =
    field (codes "trace") (changes_text names steps from to) ++ field (codes "after") (state_text names (take to steps))

-- the steps with numbers in a range, with both ends of the range, and what was before; steps are numbered from 1
abbrev pub told_text : Names → List ℕ → ℕ → ℕ → Text
told_text names steps from to = before_text names (take (from - 1) steps) ++ rest_text names steps from to

-- the whole object without its end
abbrev pub run_fields : Names → Texts → List ℕ → ℕ → ℕ → Text
run_fields names texts steps from to =
    head_text from (length (take to steps)) ++ (texts_text texts ++ told_text names steps from to)

abbrev pub judged_text : Judged → Text
judged_text judged = field (codes "order") judged.order ++ field (codes "verdict") judged.verdict

-- the data of a run's steps in a range
abbrev pub page_text : Names → Texts → List ℕ → ℕ → ℕ → Text
page_text names texts steps from to = run_fields names texts steps from to ++ codes "}\n"

-- the same with an order of the calls that begin in the steps up to the last that is shown
abbrev pub ordered_page_text : Names → Texts → List ℕ → ℕ → ℕ → Judged → Text
ordered_page_text names texts steps from to judged =
    run_fields names texts steps from to ++ (judged_text judged ++ codes "}\n")
