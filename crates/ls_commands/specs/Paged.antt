-- What the command `page` prints.
use Rattle.std.specs.Prelude.{◌≡◌, ℕ, List, take, Option, Some, None, option_map, Result, Ok, Err}
use Rattle.ls_lexer.specs.declared.fault.TextFault.{TextFault}
use Rattle.ls_tree.specs.Trees.{File as ParsedFile}
use Rattle.ls_parser_spelling.specs.Spells.{TextSpells}
use Rattle.ls_parser_spelling.specs.Files.{IsFileOf}
use Rattle.ls_parser.specs.Comes.{Comes}
use Rattle.ls_parser_tokens.specs.Answers.{Refuses}
use Rattle.ls_checked.specs.CheckedProgram.{Program}
use Rattle.ls_types_elaboration.specs.Elaboration.{ElaboratedFile, elaborated}
use Rattle.ls_types_elaboration.specs.Trees.{File}
use Rattle.ls_types_elaboration.specs.Refused as typing
use Rattle.ls_types_programs.specs.Programs.{IsTextOf}
use Rattle.ls_types_checked.specs.ProgramRefusals.{IsNoProgram}
use Rattle.ls_types_elaboration.specs.declared.rule.CheckFault.{CheckFault}
use Rattle.ls_types_checked.specs.declared.fault.ProgramFault.{ProgramFault}
use Rattle.ls_schedule.specs.Reading.{schedule_of}
use Rattle.ls_schedule.specs.declared.fault.ScheduleFault.{ScheduleFault}
use Rattle.ls_report.specs.Events.{Event, Text}
use Rattle.ls_report.specs.Reading.{Says}
use Rattle.ls_orders.specs.Orders.{order_of}
use Rattle.ls_labels.specs.Names.{Names}
use Rattle.ls_page.specs.Data.{Texts, history_text, ordered_page_text, page_text, texts_of}
use Rattle.ls_faults.specs.Faults.{lifted_text, lifted_check, lifted_program, lifted_schedule}
use Rattle.ls_faults.specs.declared.fault.ToolFault.{ToolFault}
use Rattle.ls_commands.specs.Check.{judged_by}
use Rattle.ls_commands.specs.Viewed.{names_in, thread_names_of}
use Rattle.ls_commands.specs.declared.page_wanted.Wanted.{Wanted as GivenWanted}

-- the texts of an input, the first and the last step that are shown, and an order if there is one
pub record Wanted : Type 0 where
  pub texts : Texts
  pub from : ℕ
  pub to : ℕ
  pub order : Option Text

abbrev pub wanted_of : GivenWanted → Wanted
wanted_of w = record {
  texts = texts_of w.texts;
  from = w.window.from;
  to = w.window.to;
  order = option_map (λ o. o.now) w.order;
}

-- The history is that of these events. The answer is what `check` says of the events and the order: a verdict, or the
-- order's fault.
pub data JudgesTo (history order : Text) : Result Text ToolFault → Type 0 where
  Judged : (events : List Event) → Says history events → JudgesTo history order (judged_by events (order_of order))

-- the page with a verdict
abbrev pub with_verdict : Wanted → Names → List ℕ → Text → Result Text ToolFault → Result Text ToolFault
with_verdict w names steps order (Ok verdict) =
    Ok (ordered_page_text names w.texts steps w.from w.to (record { order = order; verdict = verdict }))
with_verdict w names steps order (Err f) = Err f

-- The answer is the page of these steps. With an order, the verdict is on the history of the steps up to the last that
-- is shown.
pub data TellsTo (w : Wanted) (names : Names) (steps : List ℕ) : Option Text → Result Text ToolFault → Type 0 where
  Plain : TellsTo w names steps None (Ok (page_text names w.texts steps w.from w.to))
  Ordered : (order : Text) (verdict : Result Text ToolFault) →
      JudgesTo (history_text names (take w.to steps)) order verdict →
      TellsTo w names steps (Some order) (with_verdict w names steps order verdict)

-- the schedule part is these steps, and the answer is that of their run; or the schedule part breaks
pub data PlaysTo (w : Wanted) (names : Names) : Result Text ToolFault → Type 0 where
  Played : (steps : List ℕ) (answer : Result Text ToolFault) →
      schedule_of (thread_names_of names.program) w.texts.schedule ≡ Ok steps → TellsTo w names steps w.order answer →
      PlaysTo w names answer
  NoSchedule : (f : ScheduleFault) → schedule_of (thread_names_of names.program) w.texts.schedule ≡ Err f →
      PlaysTo w names (Err (lifted_schedule f))

-- the program part is a program of the file, and the answer is that of its schedule; or the program part is no program
pub data RunsTo (w : Wanted) (o : ElaboratedFile) : Result Text ToolFault → Type 0 where
  Ran : (p : Program) (answer : Result Text ToolFault) →
      IsTextOf o p w.texts.program → PlaysTo w (names_in o p) answer →
      RunsTo w o answer
  NoProgram : (f : ProgramFault) → IsNoProgram o w.texts.program f → RunsTo w o (Err (lifted_program f))

-- The class part is a file that keeps every rule, and the answer is that of its program. Or it is a file that breaks
-- the named rule. Or it is no file, and the fault is one that may come of it.
pub data Pages (w : Wanted) : Result Text ToolFault → Type 0 where
  Checks : (file : File) (o : ElaboratedFile) (answer : Result Text ToolFault) →
      IsFileOf w.texts.classes file → elaborated file ≡ Ok o → RunsTo w o answer →
      Pages w answer
  Breaks : (file : File) (f : CheckFault) →
      IsFileOf w.texts.classes file → typing.Fails f (elaborated file) →
      Pages w (Err (lifted_check f))
  NoFile : (f : TextFault) →
      Refuses f ((file : ParsedFile) → TextSpells file w.texts.classes → ⊥) → Comes w.texts.classes f →
      Pages w (Err (lifted_text f))

abbrev pub texts_in : Text → Text → Text → Texts
texts_in classes program schedule = record { classes = classes; program = program; schedule = schedule }

-- the page of three parts
abbrev pub PagesTo : ℕ → ℕ → Text → Text → Text → Result Text ToolFault → Type 0
PagesTo from to classes program schedule =
    Pages (record { texts = texts_in classes program schedule; from = from; to = to; order = None })

-- the page of four parts
abbrev pub PagesWithOrderTo : ℕ → ℕ → Text → Text → Text → Text → Result Text ToolFault → Type 0
PagesWithOrderTo from to classes program schedule order =
    Pages (record { texts = texts_in classes program schedule; from = from; to = to; order = Some order })
