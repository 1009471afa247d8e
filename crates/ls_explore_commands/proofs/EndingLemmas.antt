-- What `explore --ends` may answer.
use Rattle.std.proofs.Common.{◌≡◌, ◌++◌, ℕ, Bool, List, Ok, subst, sym}
use Rattle.ls_checked.specs.PlainProgram.{plain_program}
use Rattle.ls_checked.specs.declared.program.Program.{Program}
use Rattle.ls_image.specs.declared.image.Image.{Image}
use Rattle.ls_report.specs.Events.{Text}
use Rattle.ls_schedule.specs.Reading.{thread_names}
use Rattle.ls_image.specs.Images.{program_of_image}
use Rattle.ls_translation.specs.Texts.{program_of}
use Rattle.ls_progress.specs.declared.judging.CallEnds.{CallEnds}
use Rattle.ls_end_reports.specs.Words.{calls_text}
use Rattle.ls_end_reports.specs.Written.{AreWritten}
use Rattle.ls_end_reports.specs.declared.writing.CallText.{CallText}
use Rattle.ls_commands.specs.Compiled.{names_of_image}
use Rattle.ls_explore_commands.specs.Endings.{Ended}
use Rattle.ls_explore_commands.specs.Reports.{last_text}

-- an equal text says the same
pub says : (i : Image) (again : Bool) (limit : ℕ) (t u : Text) → t ≡ u → Ended i again limit (Ok u) →
    Ended i again limit (Ok t)
says i again limit t u e d = subst (λ x. Ended i again limit (Ok x)) (sym e) d

-- of an equal program an equal text is made
pub same_calls : (t : Text) (p : Program) (i : Image) (texts others : List CallText) (limit states : ℕ)
    (complete : Bool) →
    p ≡ program_of_image i →
    texts ≡ others →
    t ≡ calls_text (plain_program p) texts ++ last_text limit states complete →
    t ≡ calls_text (program_of i) others ++ last_text limit states complete
same_calls t p i texts others limit states complete program same is =
    subst (λ l. t ≡ calls_text (program_of i) l ++ last_text limit states complete) same
    (subst (λ q. t ≡ calls_text (plain_program q) texts ++ last_text limit states complete) program is)

-- and equal names are read
pub same_written : (p : Program) (i : Image) (calls others : List CallEnds) (texts : List CallText) →
    p ≡ program_of_image i →
    calls ≡ others →
    AreWritten (thread_names p) calls texts →
    AreWritten (names_of_image i) others texts
same_written p i calls others texts program same is =
    subst (λ l. AreWritten (names_of_image i) l texts) same
    (subst (λ q. AreWritten (thread_names q) calls texts) program is)
