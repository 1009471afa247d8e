-- Whether histories are linearizable to a specification, by the rows of a whole exploration.
use Rattle.std.proofs.Common.{ℕ, List, Some, subst, sym}
use Rattle.ls_checked.specs.CheckedTree.{File}
use Rattle.ls_checked.specs.CheckedProgram.{Program}
use Rattle.ls_events.specs.declared.event.Event.{Event}
use Rattle.ls_explore.specs.Rows.{Told}
use Rattle.ls_explore.specs.Tellings.{TellTruth, schedule_of}
use Rattle.ls_linearizable.specs.Linearizable.{IsLinearizable}
use Rattle.ls_linearity.specs.Meant.{IsUndecided}
use Rattle.ls_find.specs.Likeness.{IsLikeness}
use Rattle.ls_find.specs.Said.{HasUnexplained, IsVerdict}
use Rattle.ls_find.specs.Verdicts.{ShowsRow}
use Rattle.ls_find.specs.declared.likeness.Likeness.TheVariants as likeness
use Rattle.ls_find.specs.declared.sought.Sought.{Sought}
use Rattle.ls_find.specs.declared.verdict.ProgramVerdict.{ProgramVerdict}
use Rattle.ls_find.specs.declared.verdict.Reason.TheVariants.{NotLinearizable}
use Rattle.ls_find.proofs.Shown.{got_there, shown_bad}

module _ (sfile : File) (sprogram : Program) (file : File) (program : Program) (k : ℕ) (rows : List Told)
    (truth : TellTruth file program k rows) where
  -- the row that is shown isn't explained, so neither is the history of its schedule
  pub shown_unlike : (at : ℕ) → IsLikeness sfile sprogram rows (likeness.UnlikeAt at) → (states : ℕ) (sought : Sought)
      (v : ProgramVerdict) → ShowsRow NotLinearizable k rows at v →
      IsVerdict states sought (Some (sfile, sprogram)) file program v
  shown_unlike at is states sought v shows =
      let there = got_there rows at is.0 is.1 in
      shown_bad (Some (sfile, sprogram)) file program k rows at is.0 is.1
      (record {
        bad = λ linear. is.2
            (subst (λ (h : List Event). IsLinearizable sfile sprogram h) (sym (truth.told is.0 there)) linear);
        acts = truth.acts is.0 there;
      }) states sought v shows

  -- if that of a row isn't judged, neither is that of its schedule
  pub one_unexplained : IsLikeness sfile sprogram rows likeness.NotJudged →
      HasUnexplained (Some (sfile, sprogram)) file program
  one_unexplained is = record {
    schedule = schedule_of k is.0;
    unexplained = subst (λ (h : List Event). IsUndecided sfile sprogram h) (truth.told is.0 is.1) is.2;
  }
