-- What holds of a path after the setup holds of the schedule from the start.
use Rattle.std.proofs.Common.{◌≡◌, ◌++◌, ◌∙◌, ℕ, true, List, Option, None, Some, IfNone, IfSome, Vec, replicate, sym}
use Rattle.std.proofs.Common.{ap, subst}
use Rattle.std.specs.Global.{Global}
use Rattle.ls_checked.specs.CheckedTree.{File}
use Rattle.ls_checked.specs.CheckedProgram.{Program}
use Rattle.ls_meaning.specs.Runs.{State, source_history, step}
use Rattle.ls_meaning.specs.Still.{IsOver}
use Rattle.ls_search.specs.Verdicts.{LeavesStuck}
use Rattle.ls_serial_search.specs.Told.{usual}
use Rattle.ls_serial_search.specs.declared.telling.Doubt.{Doubt}
use Rattle.ls_source_judge.specs.Judged.{IsStuckRun, IsUnjudgedRun, IsUnlikeRun}
use Rattle.ls_source_judge.specs.Laws.{BadAreNotJudged, BadAreNotLinearizable, is_bad}
use Rattle.ls_source_judge.specs.Wholes.{IsActingOf, IsWholeOf}
use Rattle.ls_source_judge.specs.declared.watched.PairsObserver.{PairsObserver}

pub if_none : {X P Q : Type 0} (o : Option X) → (P → Q) → IfNone o P → IfNone o Q
if_none None f p = f p
if_none (Some x) f p = tt

module _ (file : File) (program : Program) (setup : ℕ) where
  pub none_whole : (P : Type 0) (path steps : Option (Vec ℕ Global)) → IsWholeOf file program setup path steps →
      IfNone path P →
      IfNone steps P
  none_whole P None None is p = p
  none_whole P (Some path) (Some steps) is p = tt
  none_whole P None (Some steps) is p = absurd is
  none_whole P (Some path) None is p = absurd is

  some_whole : (P Q : List ℕ → Type 0) → ((s t : List ℕ) → IsActingOf file program s t → P s → Q t) →
      (path steps : Option (Vec ℕ Global)) →
      IsWholeOf file program setup path steps →
      IfSome path (λ v. P (replicate setup 0 ++ v.items)) →
      IfSome steps (λ v. Q v.items)
  some_whole P Q so None None is p = tt
  some_whole P Q so (Some path) (Some steps) is p = so (replicate setup 0 ++ path.items) steps.items is p
  some_whole P Q so None (Some steps) is p = absurd is
  some_whole P Q so (Some path) None is p = absurd is

  pub whole_stuck : (path steps : Option (Vec ℕ Global)) → IsWholeOf file program setup path steps →
      IfSome path (λ v. LeavesStuck file program (replicate setup 0 ++ v.items)) →
      IfSome steps (λ v. IsStuckRun file program v.items)
  whole_stuck =
      some_whole (LeavesStuck file program) (IsStuckRun file program)
      (λ s t is stuck. record {
        acts = is.acts;
        stuck = record {
          over = subst (IsOver file program) (sym is.state) stuck.over;
          thread = stuck.thread;
          waits = ap (λ (z : State). (step file program z stuck.thread).did) is.state ∙ stuck.waits;
        };
      })

-- ---- by a specification

module _ (sfile : File) (sprogram : Program) (file : File) (program : Program) (setup : ℕ) where
  -- a history that an observer of all serial histories calls bad
  whole_bad : (o : PairsObserver) → BadAreNotLinearizable o sfile sprogram → (path steps : Option (Vec ℕ Global)) →
      IsWholeOf file program setup path steps →
      IfSome path (λ v. is_bad o (source_history file program (replicate setup 0 ++ v.items)) ≡ true) →
      IfSome steps (λ v. IsUnlikeRun sfile sprogram file program v.items)
  whole_bad o are =
      some_whole file program setup (λ s. is_bad o (source_history file program s) ≡ true)
      (IsUnlikeRun sfile sprogram file program)
      (λ s t is bad. record { acts = is.acts; bad = are file program t (ap (is_bad o) is.history ∙ bad) })

  pub bad_if_none : (o : PairsObserver) (doubt : Option Doubt) → IfNone doubt (BadAreNotLinearizable o sfile sprogram) →
      (path steps : Option (Vec ℕ Global)) →
      IsWholeOf file program setup path steps →
      IfSome path (λ v. is_bad o (source_history file program (replicate setup 0 ++ v.items)) ≡ true) →
      IfNone doubt (IfSome steps (λ v. IsUnlikeRun sfile sprogram file program v.items))
  bad_if_none o doubt are path steps is bad = if_none doubt (λ all. whole_bad o all path steps is bad) are

  -- one that no history explains that was found
  whole_unjudged : (o : PairsObserver) (d : Doubt) → BadAreNotJudged o sfile sprogram usual.steps d →
      (path steps : Option (Vec ℕ Global)) →
      IsWholeOf file program setup path steps →
      IfSome path (λ v. is_bad o (source_history file program (replicate setup 0 ++ v.items)) ≡ true) →
      IfSome steps (λ v. IsUnjudgedRun sfile sprogram file program d v.items)
  whole_unjudged o d are =
      some_whole file program setup (λ s. is_bad o (source_history file program s) ≡ true)
      (IsUnjudgedRun sfile sprogram file program d)
      (λ s t is bad. record { acts = is.acts; unexplained = are file program t (ap (is_bad o) is.history ∙ bad) })

  pub unjudged_if_some : (o : PairsObserver) (doubt : Option Doubt) →
      IfSome doubt (BadAreNotJudged o sfile sprogram usual.steps) →
      (path steps : Option (Vec ℕ Global)) →
      IsWholeOf file program setup path steps →
      IfSome path (λ v. is_bad o (source_history file program (replicate setup 0 ++ v.items)) ≡ true) →
      IfSome doubt (λ d. IfSome steps (λ v. IsUnjudgedRun sfile sprogram file program d v.items))
  unjudged_if_some o None are path steps is bad = tt
  unjudged_if_some o (Some d) are path steps is bad = whole_unjudged o d are path steps is bad
