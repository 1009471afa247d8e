-- Whether a thread waits for ever, by the rows of a whole exploration.
use Rattle.std.proofs.Common.{◌≡◌, ◌∙◌, ℕ, List, [], Some, true, ap, inl, inr, refl, sym, subst, arith}
use Rattle.std.specs.Prelude.{◌≢◌, Contains, slice_get}
use Rattle.ls_checked.specs.CheckedTree.{File}
use Rattle.ls_checked.specs.CheckedProgram.{Program}
use Rattle.ls_events.specs.declared.event.Event.{Event}
use Rattle.ls_meaning.specs.Runs.{source_history}
use Rattle.ls_explore.specs.Rows.{IsEnd, NoneEnds, Told}
use Rattle.ls_explore.specs.declared.rows.Ending.{Ending}
use Rattle.ls_explore.specs.declared.rows.Ending.TheVariants.{GoesOn, NotSeen, OutOfCells, Over}
use Rattle.ls_explore.specs.Tellings.{TellTruth, TellWhole, schedule_of}
use Rattle.ls_serial_search.specs.Endless.{AreEndlessRuns, TellEndlessRuns}
use Rattle.ls_endless_calls.specs.Laws.{AmongNeverEnds, NeverEndsSo, NeverEndsIsAmong}
use Rattle.ls_endless_calls.specs.Waits.{IsPending}
use Rattle.ls_find.specs.Said.{HasWaitingCall, IsVerdict, IsVerdictIfAny, IsWaitingVerdict, LongSchedule}
use Rattle.ls_specification.specs.Specification.{Given, given_file, given_program}
use Rattle.ls_find.specs.Verdicts.{AllExcused, AllLinearizable, HasWaiting, IsAsked, IsBadSchedule, NoneWaits, ShowsRow}
use Rattle.ls_find.specs.Verdicts.{WaitsAt}
use Rattle.ls_find.specs.declared.sought.Sought.{Sought}
use Rattle.ls_find.specs.declared.verdict.Reason.{Reason}
use Rattle.ls_find.specs.declared.verdict.Reason.TheVariants.{Waits}
use Rattle.ls_find.specs.declared.verdict.ProgramVerdict.{ProgramVerdict}
use Rattle.ls_find.specs.declared.verdict.ProgramVerdict.TheVariants.{Bad, Good, Unknown}
use Rattle.ls_find.proofs.Shown.{got_there}

some_is : {X : Type 0} {x y : X} → Some x ≡ Some y → x ≡ y
some_is e = cc

pub none_endless : (file : File) (program : Program) → AreEndlessRuns file program []
none_endless file program run there = absurd (omega (arith, there.1))

-- if each call that is pending where a row ends is the last of a run in which it waits, none waits for ever
pub none_waits : (given : Given) (file : File) (program : Program) (rows : List Told) (runs : List (List Event)) →
    AmongNeverEnds → TellWhole file program rows →
    AreEndlessRuns (given_file given file) (given_program given program) runs → AllExcused runs rows →
    NoneWaits given file program
none_waits given file program rows runs among whole are excused schedule c over pending =
    let sfile = given_file given file in
    let sprogram = given_program given program in
    let e = whole.ended schedule over in
    let here = subst (λ (h : List Event). IsPending h c) (sym e.same) pending in
    subst (λ (h : List Event). NeverEndsSo sfile sprogram h c) e.same
    (among sfile sprogram runs e.row.history c are (excused e.row e.there e.ends c here))

module _ (file : File) (program : Program) (k : ℕ) (rows : List Told) (runs : List (List Event)) (at : ℕ)
    (truth : TellTruth file program k rows) (w : WaitsAt runs rows at) where
  there : Contains rows w.row
  there = got_there rows at w.row w.is

  -- after the row's schedule the call is pending
  pending : IsPending (source_history file program (schedule_of k w.row)) w.waits.unexcused.call
  pending = subst (λ (h : List Event). IsPending h w.waits.unexcused.call) (truth.told w.row there)
      w.waits.unexcused.pending

  -- and no thread acts, if the row ends and isn't out of cells
  pub call_waits : NoneEnds OutOfCells rows → HasWaitingCall file program
  call_waits cells = record {
    schedule = schedule_of k w.row;
    over = truth.over w.row there (is_over w.row.ending w.waits.ends (cells w.row there));
    call = w.waits.unexcused.call;
    pending = pending;
  }
    where
      is_over : (e : Ending) → IsEnd e → e ≢ OutOfCells → e ≡ Over
      is_over Over ends not = refl
      is_over OutOfCells ends not = absurd (not refl)
      is_over GoesOn ends not = absurd ends
      is_over NotSeen ends not = absurd ends

  -- if the runs are all, and a call that is pending where a row is over is the last of none, it waits for ever
  row_waits : (given : Given) → NeverEndsIsAmong →
      TellEndlessRuns (given_file given file) (given_program given program) runs → w.row.ending ≡ Over →
      HasWaiting given file program (schedule_of k w.row)
  row_waits given all tell over = (
    w.waits.unexcused.call,
    record {
      over = truth.over w.row there over;
      pending = pending;
      alone = λ so. w.waits.unexcused.unexcused
          (all (given_file given file) (given_program given program) runs w.row.history w.waits.unexcused.call tell
          (subst (λ (h : List Event).
          NeverEndsSo (given_file given file) (given_program given program) h w.waits.unexcused.call)
          (sym (truth.told w.row there)) so));
    },
  )

  pub one_waits : (given : Given) → NeverEndsIsAmong →
      TellEndlessRuns (given_file given file) (given_program given program) runs →
      (r : Told) × (slice_get rows at ≡ Some r) × (r.ending ≡ Over) → (v : ProgramVerdict) →
      ShowsRow Waits k rows at v →
      (states : ℕ) → IsWaitingVerdict states given file program v
  one_waits given all tell over v shows states = by_verdict v shows
    where
      same : over.0 ≡ w.row
      same = some_is (sym over.1 ∙ w.is)

      bad : IsBadSchedule Waits given file program (schedule_of k w.row)
      bad = record {
        bad = row_waits given all tell (subst (λ (q : Told). q.ending ≡ Over) same over.2);
        acts = truth.acts w.row there;
      }

      by_verdict : (v : ProgramVerdict) → ShowsRow Waits k rows at v → IsWaitingVerdict states given file program v
      by_verdict Good shows = absurd shows
      by_verdict Unknown shows = inl (LongSchedule Waits (schedule_of k w.row) bad (shows w.row w.is))
      by_verdict (Bad reason schedule) shows =
          let row : w.row ≡ shows.0 = some_is (sym w.is ∙ shows.1) in
          record {
            reason_is = shows.3;
            schedule_is = subst (λ (said : Reason). IsBadSchedule said given file program schedule) (sym shows.3)
                (subst (IsBadSchedule Waits given file program) (ap (schedule_of k) row ∙ sym shows.2) bad);
          }

-- both verdicts together
pub both_verdicts : (given : Given) (file : File) (program : Program) (states : ℕ) (sought : Sought)
    (v : ProgramVerdict) →
    sought.waiting ≡ true → AllLinearizable given file program → IsWaitingVerdict states given file program v →
    IsVerdict states sought given file program v
both_verdicts given file program states sought Good asked linear none =
    record { linearizable = linear; waits = λ e. none }
both_verdicts given file program states sought Unknown asked linear (inl cut) = inl cut
both_verdicts given file program states sought Unknown asked linear (inr waits) =
    inr (inl (record { asked = asked; linearizable = linear; waits = waits }))
both_verdicts given file program states sought (Bad reason schedule) asked linear shown = record {
  asked = subst (IsAsked sought) (sym shown.reason_is) asked;
  schedule_is = shown.schedule_is;
}

-- what isn't decided by the states is said as by the rows
pub either_verdict : (given : Given) (file : File) (program : Program) (states : ℕ) (sought : Sought)
    (v : ProgramVerdict) →
    IsVerdictIfAny sought given file program v → IsVerdict states sought given file program Unknown →
    IsVerdict states sought given file program v
either_verdict given file program states sought Good said unknown = said
either_verdict given file program states sought Unknown said unknown = unknown
either_verdict given file program states sought (Bad reason schedule) said unknown = said
