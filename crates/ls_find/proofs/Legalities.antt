-- Whether histories are legal, by the rows of a whole exploration.
use Rattle.std.proofs.Common.{◌≡◌, ◌∙◌, ◌⊎◌, ℕ, Bool, true, false, List, Contains, Some, ap, inl, inr, sym, subst}
use Rattle.std.specs.Prelude.{slice_get}
use Rattle.ls_checked.specs.CheckedTree.{File}
use Rattle.ls_checked.specs.CheckedProgram.{Program}
use Rattle.ls_events.specs.declared.event.Event.{Event}
use Rattle.ls_explore.specs.Rows.{Told}
use Rattle.ls_explore.specs.Tellings.{TellTruth, TellWhole, schedule_of}
use Rattle.ls_explore_reports.specs.Verdicts.{EachIsLegal, HasLegalOrder}
use Rattle.ls_specification.specs.Specification.{Given}
use Rattle.ls_find.specs.Said.{IsVerdict, LongSchedule}
use Rattle.ls_find.specs.Sought.{AllLegal, AllNamed, AreNamed, Cut, HasUnjudged, IsLegalVerdict, IsSetVerdict}
use Rattle.ls_find.specs.Sought.{IsTurningVerdict, IsUnknown, IsVerdictFor, Turns, Unexplained, Unjudged, Waits}
use Rattle.ls_find.specs.Verdicts.{IsAsked, IsBadSchedule, IsGood, ShowsRow}
use Rattle.ls_find.specs.declared.sought.Sought.{Sought}
use Rattle.ls_find.specs.declared.verdict.Reason.{Reason}
use Rattle.ls_find.specs.declared.verdict.Reason.TheVariants as reasons
use Rattle.ls_find.specs.declared.verdict.ProgramVerdict.{ProgramVerdict}
use Rattle.ls_find.specs.declared.verdict.ProgramVerdict.TheVariants as verdicts
use Rattle.ls_find.proofs.Shown.{got_there}
use Rattle.ls_meaning.specs.Runs.{source_history}
use Rattle.ls_verdicts.specs.Verdicts as sets
use Rattle.ls_verdicts.specs.declared.verdicts.Verdict.TheVariants.{Illegal, Legal, NotOneSet, TooManyTrapped}

pub not_both : {b : Bool} → b ≡ true → b ≡ false → ⊥
not_both up down = cc

-- each row's history is that of a schedule, so it has names
pub rows_named : (file : File) (program : Program) (k : ℕ) (rows : List Told) → AllNamed file program →
    TellTruth file program k rows → AreNamed program rows
rows_named file program k rows named truth = λ r there.
    let of_run : sets.IsHistoryOf program (source_history file program (schedule_of k r)) =
    (let is = named (schedule_of k r) in (is.events, record { is_named = is.is_named; history = is.says.history })) in
    subst (sets.IsHistoryOf program) (sym (truth.told r there)) of_run

legal_order : (program : Program) (history : List Event) → sets.IsVerdict program history Legal →
    HasLegalOrder program history
legal_order program history v = (v.events, v.named.is_named, v.verdict.1)

-- if each row's history is legal, each schedule's is
pub all_legal : (file : File) (program : Program) (rows : List Told) → EachIsLegal → TellWhole file program rows →
    ((r : Told) → Contains rows r → sets.IsVerdict program r.history Legal) → AllLegal file program
all_legal file program rows each whole legal =
    each file program rows whole (λ r there. legal_order program r.history (legal r there))

some_is : {X : Type 0} {x y : X} → Some x ≡ Some y → x ≡ y
some_is e = cc

module _ (file : File) (program : Program) (k : ℕ) (rows : List Told) (truth : TellTruth file program k rows) where
  -- if the history of a row can't be judged, some schedule's can't
  pub one_unjudged : (r : Told) → Contains rows r →
      sets.IsVerdict program r.history NotOneSet ⊎ sets.IsVerdict program r.history TooManyTrapped →
      HasUnjudged file program
  one_unjudged r there unjudged = record {
    schedule = schedule_of k r;
    unjudged = subst (λ (h : List Event). sets.IsVerdict program h NotOneSet ⊎ sets.IsVerdict program h TooManyTrapped)
        (truth.told r there) unjudged;
  }

  -- the row that is shown isn't legal, so neither is the history of its schedule
  pub shown_illegal : (at : ℕ) →
      (r : Told) × (slice_get rows at ≡ Some r) × sets.IsVerdict program r.history Illegal →
      (v : ProgramVerdict) → ShowsRow reasons.Illegal k rows at v → (given : Given) (states : ℕ) →
      IsSetVerdict states given file program v
  shown_illegal at is v shows given states = by_verdict v shows
    where
      illegal : IsBadSchedule reasons.Illegal given file program (schedule_of k is.0)
      illegal =
          let there = got_there rows at is.0 is.1 in
          record {
            bad = subst (λ (h : List Event). sets.IsVerdict program h Illegal) (truth.told is.0 there) is.2;
            acts = truth.acts is.0 there;
          }

      by_verdict : (v : ProgramVerdict) → ShowsRow reasons.Illegal k rows at v →
          IsSetVerdict states given file program v
      by_verdict verdicts.Good shows = absurd shows
      by_verdict verdicts.Unknown shows =
          inl (LongSchedule reasons.Illegal (schedule_of k is.0) illegal (shows is.0 is.1))
      by_verdict (verdicts.Bad reason schedule) shows =
          let row : is.0 ≡ shows.0 = some_is (sym is.1 ∙ shows.1) in
          record {
            reason_is = shows.3;
            schedule_is = subst (λ (said : Reason). IsBadSchedule said given file program schedule) (sym shows.3)
                (subst (IsBadSchedule reasons.Illegal given file program) (ap (schedule_of k) row ∙ sym shows.2)
                illegal);
          }

-- what isn't known of a program isn't known of all that is looked for
pub unknown_for : (sought : Sought) (states : ℕ) (given : Given) (file : File) (program : Program) →
    IsVerdict states sought given file program verdicts.Unknown → IsUnknown sought states given file program
unknown_for sought states given file program (inl cut) = Cut cut
unknown_for sought states given file program (inr (inl waits)) = Waits waits
unknown_for sought states given file program (inr (inr unexplained)) = Unexplained unexplained

-- what is said of sets, where they are looked for
pub of_set : (sought : Sought) (states : ℕ) (given : Given) (file : File) (program : Program) (v : ProgramVerdict) →
    sought.set ≡ true → IsSetVerdict states given file program v → IsLegalVerdict sought states given file program v
of_set sought states given file program verdicts.Good asked legal = λ e. legal
of_set sought states given file program verdicts.Unknown asked none = (asked, none)
of_set sought states given file program (verdicts.Bad reason schedule) asked shown = record {
  asked = subst (IsAsked sought) (sym shown.reason_is) asked;
  schedule_is = shown.schedule_is;
}

-- what is said where all else is well
pub with_turning : (sought : Sought) (states : ℕ) (given : Given) (file : File) (program : Program)
    (v : ProgramVerdict) →
    IsGood sought.waiting given file program → (sought.set ≡ true → AllLegal file program) →
    IsTurningVerdict sought given file program v → IsVerdictFor sought states given file program v
with_turning sought states given file program verdicts.Good good legal never =
    record { ends = record { good = good; legal = legal }; turns = never }
with_turning sought states given file program verdicts.Unknown good legal asked =
    Turns asked good (λ up. inl (legal up))
with_turning sought states given file program (verdicts.Bad reason schedule) good legal shown = shown

-- where histories can't be judged as those of a set
pub unjudged_for : (sought : Sought) (states : ℕ) (given : Given) (file : File) (program : Program) →
    IsGood sought.waiting given file program →
    IsLegalVerdict sought states given file program verdicts.Unknown → (v : ProgramVerdict) →
    (v ≡ verdicts.Good) ⊎ (v ≡ verdicts.Unknown) → IsTurningVerdict sought given file program v →
    IsUnknown sought states given file program
unjudged_for sought states given file program good (asked, inl cut) v is said = Cut cut
unjudged_for sought states given file program good (asked, inr unjudged) v (inl is) said =
    Unjudged asked good unjudged (subst (IsTurningVerdict sought given file program) is said)
unjudged_for sought states given file program good (asked, inr unjudged) v (inr is) said =
    Turns (subst (IsTurningVerdict sought given file program) is said) good (λ up. inr unjudged)
