-- Histories that are shown are read again.
use Rattle.std.proofs.Common.{◌≡◌, ℕ, List, Result, Ok, Err}
use Rattle.ls_checked.specs.CheckedProgram.{Program}
use Rattle.ls_types_elaboration.specs.Elaboration.{ElaboratedFile, elaborated}
use Rattle.ls_types_elaboration.specs.Trees.{File}
use Rattle.ls_types_programs.specs.Programs.{IsTextOf}
use Rattle.ls_schedule.specs.Reading.{schedule_of}
use Rattle.ls_schedule.specs.declared.fault.ScheduleFault.{ScheduleFault}
use Rattle.ls_report.specs.Events.{Text}
use Rattle.ls_text_laws.specs.Histories.{SourceIsReadable}
use Rattle.ls_faults.specs.ReadBack.{ReadsBack}
use Rattle.ls_commands.specs.Viewed.{names_in, NoProgram, Ran, RunsTo, ShowsBack, thread_names_of, viewed_by}
use Rattle.ls_commands.specs.declared.showing.View.{View}
use Rattle.ls_commands.specs.declared.showing.View.TheVariants as views
use Rattle.ls_faults.specs.declared.fault.ToolFault.{ToolFault}

module _ (readable : SourceIsReadable) (file : File) (o : ElaboratedFile) (checks : elaborated file ≡ Ok o)
    (program schedule : Text) where
  run_back : (p : Program) →
      IsTextOf o p program →
      (read : Result (List ℕ) ScheduleFault) →
      ReadsBack (viewed_by views.History (names_in o p) read)
  run_back p is (Ok steps) = let r = readable file o program p checks is steps in (r.events, r.says)
  run_back p is (Err f) = tt

  history_back : {a : Result Text ToolFault} → RunsTo views.History o program schedule a → ReadsBack a
  history_back (Ran p is) = run_back p is (schedule_of (thread_names_of p) schedule)
  history_back (NoProgram f none) = tt

  pub shows_back : (v : View) {a : Result Text ToolFault} → RunsTo v o program schedule a → ShowsBack v a
  shows_back views.History h = history_back h
  shows_back (views.Trace from to) h = tt
  shows_back (views.Folded from to) h = tt
  shows_back (views.State to) h = tt
  shows_back (views.Drawing to) h = tt
  shows_back (views.States from to) h = tt
  shows_back (views.Drawings from to) h = tt
