-- The text that stands in place of the row that is cut first.
use Rattle.std.proofs.Common.{◌≡◌, ◌∙◌, inl, inr, ◌<◌, ◌≤◌, ◌++◌, ℕ, Bool, List, length, take}
use Rattle.std.proofs.Common.{sym, ap, subst, arith, take_all}
use Rattle.std.proofs.lemmas.List.{length-take-le}
use Rattle.std.specs.Prelude.{codes}
use Rattle.ls_verdicts.specs.Cuts.{IsCut}
use Rattle.ls_verdicts.proofs.Acting.{goes_on}
use Rattle.ls_meaning.specs.Runs.{source_history}
use Rattle.ls_explore.specs.Rows.{ActAll}
use Rattle.ls_explore.specs.Tellings.{schedule_of}
use Rattle.ls_labels.specs.Names.{Names}
use Rattle.ls_report.specs.Events.{Text}
use Rattle.ls_report.specs.Printing.{run_text}
use Rattle.ls_schedule.specs.Printing.{schedule_text}
use Rattle.ls_explore_reports.specs.Below.{HasNames, IsBelow}
use Rattle.ls_explore_reports.specs.Cuts.{ABeginning, AShorter, IsCutText, TheWhole, beginning_text, known_text}
use Rattle.ls_explore_reports.specs.Cuts.{parts_text}
use Rattle.ls_explore_reports.specs.Cuts.{with_known}
use Rattle.ls_explore_reports.specs.Judged.{Judged}
use Rattle.ls_explore_reports.specs.Printing.{row_text}
use Rattle.ls_explore_reports.specs.Shortest.{IsCutOrShorter, IsKnown, IsShorter}
use Rattle.ls_explore_reports.specs.declared.printing.Exploring.{Exploring}

-- the parts are those of a schedule
pub of_parts : (names : Names) (threads : List Text) (schedule : List ℕ) (text steps lines below : Text) →
    text ≡ parts_text (codes "goes on, illegal") steps lines below → steps ≡ schedule_text threads schedule →
    lines ≡ run_text names.program (source_history names.file names.program schedule) →
    text ≡ beginning_text names threads schedule below
of_parts names threads schedule text steps lines below is of_steps of_lines = is
    ∙ ap (λ (s : Text). parts_text (codes "goes on, illegal") s lines below) of_steps
    ∙ ap (λ (l : Text). parts_text (codes "goes on, illegal") (schedule_text threads schedule) l below) of_lines

module _ (names : Names) (threads : List Text) (k : ℕ) (e : Exploring) (row : Judged) (steps : ℕ)
    (cut : IsCut names.file names.program (schedule_of k row.row) steps)
    (acts : ActAll names.file names.program (schedule_of k row.row)) (known : Bool) where
  abbrev whole : List ℕ
  whole = schedule_of k row.row

  abbrev first : List ℕ
  first = take steps whole

  -- each event of the schedule that stands there has names
  pub cut_named : (s : List ℕ) → IsCutOrShorter names e first s →
      HasNames names.program (source_history names.file names.program s)
  cut_named s (inl same) = subst (λ (ts : List ℕ). HasNames names.program (source_history names.file names.program ts))
      (sym same) (cut.illegal.0, cut.illegal.1)
  cut_named s (inr fewer) = let i = fewer.1.illegal.illegal in (i.0, i.1)

  -- the text of a beginning, or of a shorter schedule
  pub begun_text : (s : List ℕ) (text : Text) → IsCutOrShorter names e first s → IsKnown known names e s →
      length s < length whole →
      (below : Text) × IsBelow e.order names.file names.program (source_history names.file names.program s) below
      × (text ≡ beginning_text names threads s (below ++ known_text known)) →
      IsCutText names threads k e row steps text
  begun_text s text (inl same) so lt is =
      let less : steps < length whole =
      omega (arith, lt, ap length same, length-take-le steps whole cut.within) in
      subst (λ (t : Text). IsCutText names threads k e row steps t)
      (sym (is.2 ∙ ap (λ (ts : List ℕ). beginning_text names threads ts (is.0 ++ known_text known)) same))
      (ABeginning known is.0 less (goes_on names.file names.program whole steps less acts)
      (subst (λ (ts : List ℕ). IsBelow e.order names.file names.program (source_history names.file names.program ts)
      is.0)
      same is.1)
      (subst (λ (ts : List ℕ). IsKnown known names e ts) same so))
  begun_text s text (inr fewer) so lt is =
      let few : IsShorter names steps s = record {
        fewer = let f = fewer.1.fewer in omega (arith, f, length-take-le steps whole cut.within);
        illegal = fewer.1.illegal;
        goes = fewer.1.goes;
      } in
      subst (λ (t : Text). IsCutText names threads k e row steps t) (sym is.2)
      (AShorter known s is.0 fewer.0 few is.1 so)

  -- the text of the row
  pub whole_text : (s : List ℕ) (text : Text) → IsCutOrShorter names e first s → IsKnown known names e s →
      length whole ≤ length s →
      text ≡ row_text names threads k (with_known known row) →
      IsCutText names threads k e row steps text
  whole_text s text (inl same) so le is =
      let all : steps ≡ length whole =
      omega (arith, le, ap length same, length-take-le steps whole cut.within, cut.within) in
      let is_whole : s ≡ whole = same ∙ take_all steps whole (omega (arith, all)) in
      subst (λ (t : Text). IsCutText names threads k e row steps t) (sym is)
      (TheWhole known all (subst (λ (ts : List ℕ). IsKnown known names e ts) is_whole so))
  whole_text s text (inr fewer) so le is =
      let f = fewer.1.fewer in
      absurd (omega (arith, f, le, length-take-le steps whole cut.within, cut.within))
