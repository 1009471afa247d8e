-- What `merge` may answer.
use Rattle.std.proofs.Common.{◌≡◌, ◌<◌, ◌^◌, ℕ, List, Option, Ok, sym, subst}
use Rattle.ls_report.specs.Events.{Text}
use Rattle.ls_tallies.specs.Printing.{rows_text}
use Rattle.ls_tallies.specs.Tallies.{IsMerge, Row, total_of}
use Rattle.ls_tallies.specs.Reading.{Explains, Lists}
use Rattle.ls_tallies.specs.declared.fault.TallyFault.{TallyFault}
use Rattle.ls_tallies.specs.declared.fault.TallyFault.TheVariants as tally
use Rattle.ls_faults.specs.Faults.{lifted_tally}
use Rattle.ls_faults.specs.Given.{GivesText}
use Rattle.ls_faults.proofs.Answering.{Failed}
use Rattle.ls_commands.specs.Merging.{IsOther, Merges, MergesTalliesTo, NoTally}

pub not_read : (wanted : Option ℕ) (text : Text) (f : TallyFault) →
    Explains text f →
    GivesText (MergesTalliesTo wanted text) (Failed (lifted_tally f))
not_read wanted text tally.Memory h = tt
not_read wanted text (tally.BadTally at) h = NoTally at h
not_read wanted text tally.CountTooGreat h = absurd h
not_read wanted text tally.OtherCount h = absurd h

pub printed : (wanted : Option ℕ) (text said : Text) (rows merge : List Row) →
    Lists text rows →
    total_of rows < 2 ^ 64 →
    ¬ IsOther wanted (total_of rows) →
    IsMerge rows merge
    → said ≡ rows_text merge → MergesTalliesTo wanted text (Ok said)
printed wanted text said rows merge lists fits same is e = subst (λ t. MergesTalliesTo wanted text (Ok t)) (sym e)
    (Merges rows merge lists fits same is)
