-- What the commands `source`, `trace` and `state` say.
use Rattle.std.specs.Prelude.{◌≡◌, ℕ, List, map, take, Result, Ok, Err}
use Rattle.ls_lexer.specs.declared.fault.TextFault.{TextFault}
use Rattle.ls_tree.specs.Trees.{File as ParsedFile}
use Rattle.ls_parser_spelling.specs.Spells.{TextSpells}
use Rattle.ls_parser_spelling.specs.Files.{IsFileOf}
use Rattle.ls_parser.specs.Comes.{Comes}
use Rattle.ls_parser_tokens.specs.Answers.{Refuses}
use Rattle.ls_checked.specs.CheckedProgram.{Program}
use Rattle.ls_types_elaboration.specs.Elaboration.{ElaboratedFile, elaborated}
use Rattle.ls_types_elaboration.specs.Trees.{File}
use Rattle.ls_types_elaboration.specs.Refused as typing
use Rattle.ls_types_programs.specs.Programs.{IsTextOf}
use Rattle.ls_types_checked.specs.ProgramRefusals.{IsNoProgram}
use Rattle.ls_types_elaboration.specs.declared.rule.CheckFault.{CheckFault}
use Rattle.ls_types_checked.specs.declared.fault.ProgramFault.{ProgramFault}
use Rattle.ls_meaning.specs.Runs.{source_history}
use Rattle.ls_schedule.specs.Reading.{schedule_of}
use Rattle.ls_schedule.specs.declared.fault.ScheduleFault.{ScheduleFault}
use Rattle.ls_report.specs.Events.{Text}
use Rattle.ls_report.specs.Printing.{run_text}
use Rattle.ls_labels.specs.Names.{Names}
use Rattle.ls_trace.specs.Folds.{folded_text}
use Rattle.ls_trace.specs.Lines.{trace_text}
use Rattle.ls_state.specs.Each.{drawings_text, states_text}
use Rattle.ls_state.specs.State.{state_text}
use Rattle.ls_state.specs.Drawing.{drawing_text}
use Rattle.ls_faults.specs.Faults.{lifted_text, lifted_check, lifted_program, lifted_schedule}
use Rattle.ls_faults.specs.declared.fault.ToolFault.{ToolFault}
use Rattle.ls_faults.specs.ReadBack.{ReadsBack}
use Rattle.ls_commands.specs.declared.showing.View.{View}
use Rattle.ls_commands.specs.declared.showing.View.TheVariants as views

abbrev pub names_in : ElaboratedFile → Program → Names
names_in o p = record { classes = o.names; signs = o.signs; file = o.file; program = p }

-- what is shown of the source run of a schedule
abbrev pub shown : View → Names → List ℕ → Text
shown views.History names steps = run_text names.program (source_history names.file names.program steps)
shown (views.Trace from to) names steps = trace_text names steps from to
shown (views.Folded from to) names steps = folded_text names steps from to
shown (views.State to) names steps = state_text names (take to steps)
shown (views.Drawing to) names steps = drawing_text names (take to steps)
shown (views.States from to) names steps = states_text names steps from to
shown (views.Drawings from to) names steps = drawings_text names steps from to

-- the same of what a schedule's text is, or the schedule's fault
abbrev pub viewed_by : View → Names → Result (List ℕ) ScheduleFault → Result Text ToolFault
viewed_by view names (Ok steps) = Ok (shown view names steps)
viewed_by view names (Err f) = Err (lifted_schedule f)

abbrev pub thread_names_of : Program → List Text
thread_names_of p = map (λ t. t.name) p.threads

abbrev pub viewed : View → Names → Text → Result Text ToolFault
viewed view names schedule = viewed_by view names (schedule_of (thread_names_of names.program) schedule)

-- the program part is a program of the file, and the answer that of its run; or it is none
pub data RunsTo (view : View) (o : ElaboratedFile) (program schedule : Text) : Result Text ToolFault → Type 0 where
  Ran : (p : Program) → IsTextOf o p program → RunsTo view o program schedule (viewed view (names_in o p) schedule)
  NoProgram : (f : ProgramFault) → IsNoProgram o program f → RunsTo view o program schedule (Err (lifted_program f))

-- a history that is shown reads back
abbrev pub ShowsBack : View → Result Text ToolFault → Type 0
ShowsBack views.History answer = ReadsBack answer
ShowsBack other answer = Unit {0}

-- The class part is a file that keeps every rule, and the answer is that of its program and schedule; or it is
-- one that breaks the rule that is named; or it spells none, and the fault is one that may come of it.
pub data ViewsTo (view : View) (classes program schedule : Text) : Result Text ToolFault → Type 0 where
  Checks : (file : File) (o : ElaboratedFile) (answer : Result Text ToolFault) →
      IsFileOf classes file → elaborated file ≡ Ok o → RunsTo view o program schedule answer → ShowsBack view answer →
      ViewsTo view classes program schedule answer
  Breaks : (file : File) (f : CheckFault) →
      IsFileOf classes file → typing.Fails f (elaborated file) →
      ViewsTo view classes program schedule (Err (lifted_check f))
  NoFile : (f : TextFault) →
      Refuses f ((file : ParsedFile) → TextSpells file classes → ⊥) → Comes classes f →
      ViewsTo view classes program schedule (Err (lifted_text f))
