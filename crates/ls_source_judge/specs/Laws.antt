-- What it means that the observer finds the history of a schedule bad.
use Rattle.std.specs.Prelude.{◌≡◌, ℕ, Bool, true, false, List}
use Rattle.std.specs.List.{fold}
use Rattle.ls_events.specs.declared.event.Event.{Event}
use Rattle.ls_checked.specs.CheckedTree.{File}
use Rattle.ls_checked.specs.CheckedProgram.{Program}
use Rattle.ls_meaning.specs.Runs.{source_history}
use Rattle.ls_linearizable.specs.Linearizable.{IsLinearizable}
use Rattle.ls_linearizable.specs.Judging.{Verdict, later, now}
use Rattle.ls_serial_search.specs.declared.telling.Doubt.{Doubt}
use Rattle.ls_source_judge.specs.Judged.{IsUnexplained}
use Rattle.ls_source_judge.specs.Watched.{first_verdict}
use Rattle.ls_source_judge.specs.declared.watched.PairsObserver.{PairsObserver}

abbrev pub BadStaysBad : Type 0
BadStaysBad = (v : Verdict) (e : Event) → now v ≡ true → now (later v e) ≡ true

-- whether a history is bad, event by event
abbrev pub is_bad : PairsObserver → List Event → Bool
is_bad o h = now (fold later (first_verdict o) h)

-- each schedule of a program whose history isn't bad has a history that is linearizable to the specification
abbrev pub GoodAreLinearizable : PairsObserver → File → Program → Type 0
GoodAreLinearizable o sfile sprogram =
    (file : File) (program : Program) (schedule : List ℕ) → is_bad o (source_history file program schedule) ≡ false →
    IsLinearizable sfile sprogram (source_history file program schedule)

-- no schedule whose history is bad has one
abbrev pub BadAreNotLinearizable : PairsObserver → File → Program → Type 0
BadAreNotLinearizable o sfile sprogram =
    (file : File) (program : Program) (schedule : List ℕ) → is_bad o (source_history file program schedule) ≡ true →
    IsLinearizable sfile sprogram (source_history file program schedule) → ⊥

-- no serial run of the specification within the bound explains a history that is bad, where this bound was met
abbrev pub BadAreNotJudged : PairsObserver → File → Program → ℕ → Doubt → Type 0
BadAreNotJudged o sfile sprogram bound doubt =
    (file : File) (program : Program) (schedule : List ℕ) → is_bad o (source_history file program schedule) ≡ true →
    IsUnexplained sfile sprogram bound doubt (source_history file program schedule)
