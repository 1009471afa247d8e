-- What the command `page` prints where one chooses who steps next.
use Rattle.std.specs.Prelude.{◌≡◌, ◌<◌, ◌⊎◌, ℕ, List, Option, Some, None, Result, Ok, Err, option_map}
use Rattle.ls_lexer.specs.declared.fault.TextFault.{TextFault}
use Rattle.ls_tree.specs.Trees.{File as ParsedFile}
use Rattle.ls_parser_spelling.specs.Spells.{TextSpells}
use Rattle.ls_parser_spelling.specs.Files.{IsFileOf}
use Rattle.ls_parser.specs.Comes.{Comes}
use Rattle.ls_parser_tokens.specs.Answers.{Refuses}
use Rattle.ls_checked.specs.CheckedProgram.{Program}
use Rattle.ls_types_elaboration.specs.Elaboration.{ElaboratedFile, elaborated}
use Rattle.ls_types_elaboration.specs.Trees.{File}
use Rattle.ls_types_elaboration.specs.Refused as typing
use Rattle.ls_types_programs.specs.Programs.{IsTextOf}
use Rattle.ls_types_checked.specs.ProgramRefusals.{IsNoProgram}
use Rattle.ls_types_elaboration.specs.declared.rule.CheckFault.{CheckFault}
use Rattle.ls_types_checked.specs.declared.fault.ProgramFault.{ProgramFault}
use Rattle.ls_schedule.specs.Reading.{schedule_of}
use Rattle.ls_schedule.specs.declared.fault.ScheduleFault.{ScheduleFault}
use Rattle.ls_explore.specs.declared.fault.ExploreFault.TheVariants as explore
use Rattle.ls_report.specs.Events.{Text}
use Rattle.ls_labels.specs.Names.{Names}
use Rattle.ls_page.specs.Data.{Texts, texts_of}
use Rattle.ls_page.specs.ChoicesData.{IsData, Reference}
use Rattle.ls_page.specs.Setup.{IsLongSetup, IsSetup}
use Rattle.ls_image.specs.declared.image.Image.{Image}
use Rattle.ls_items.specs.Cutting.{plain_text}
use Rattle.ls_specified.specs.Specified.{IsNoSpecification, Specifies}
use Rattle.ls_specified.specs.declared.fault.SpecificationFault.{SpecificationFault}
use Rattle.ls_commands.specs.Compiled.{file_of_image, plain_program_of}
use Rattle.ls_faults.specs.Faults.{lifted_text, lifted_check, lifted_program, lifted_schedule, lifted_specification}
use Rattle.ls_faults.specs.declared.fault.ToolFault.{ToolFault}
use Rattle.ls_faults.specs.declared.fault.ToolFault.TheVariants as faults
use Rattle.ls_commands.specs.Viewed.{names_in, thread_names_of}
use Rattle.ls_choosing.specs.declared.wanted.Wanted.{Wanted as GivenWanted}

-- the texts of an input, its reference if one is given, and the most states that are kept
pub record Wanted : Type 0 where
  pub texts : Texts
  pub reference : Option Text
  pub states : ℕ

abbrev pub wanted_of : GivenWanted → Wanted
wanted_of w = record {
  texts = texts_of w.texts;
  reference = option_map plain_text w.reference;
  states = w.states;
}

abbrev pub AreBadStates : ℕ → Type 0
AreBadStates states = (states ≡ 0) ⊎ (200000 < states)

-- The answer is the data of the states after the setup. Or so many states may not be kept; or the setup has not ended
-- in 100,000 steps.
pub data ShowsTo (w : Wanted) (reference : Option Reference) (names : Names) : Result Text ToolFault → Type 0 where
  NoStates : AreBadStates w.states → ShowsTo w reference names (Err (faults.Explore explore.BadStates))
  Endless : ¬ AreBadStates w.states → IsLongSetup names 100000 →
      ShowsTo w reference names (Err (faults.Explore explore.SetupEndless))
  Shown : (first : List ℕ) (text : Text) →
      ¬ AreBadStates w.states →
      IsSetup names first →
      IsData names w.texts reference first w.states text →
      ShowsTo w reference names (Ok text)

-- the schedule part is a schedule of the program, and the answer is that of its states; or the schedule part breaks
pub data FollowsTo (w : Wanted) (reference : Option Reference) (names : Names) : Result Text ToolFault → Type 0 where
  Followed : (steps : List ℕ) (answer : Result Text ToolFault) →
      schedule_of (thread_names_of names.program) w.texts.schedule ≡ Ok steps → ShowsTo w reference names answer →
      FollowsTo w reference names answer
  NoSchedule : (f : ScheduleFault) → schedule_of (thread_names_of names.program) w.texts.schedule ≡ Err f →
      FollowsTo w reference names (Err (lifted_schedule f))

-- an image as the reference of its class text
abbrev pub referred : Text → Image → Reference
referred text s = record { text = text; file = file_of_image s; program = plain_program_of s }

-- the class text specifies the program, and the answer is that of its schedule by that; or it doesn't
pub data FollowsLike (w : Wanted) (reference : Text) (names : Names) : Result Text ToolFault → Type 0 where
  Specified : (s : Image) (answer : Result Text ToolFault) →
      Specifies reference w.texts.program names.program s →
      FollowsTo w (Some (referred reference s)) names answer →
      FollowsLike w reference names answer
  NotSpecified : (f : SpecificationFault) →
      IsNoSpecification reference w.texts.program names.program f →
      FollowsLike w reference names (Err (lifted_specification f))

-- by a reference, if one is given
abbrev pub RefersBy : Option Text → Wanted → Names → Result Text ToolFault → Type 0
RefersBy None w names answer = FollowsTo w None names answer
RefersBy (Some reference) w names answer = FollowsLike w reference names answer

abbrev pub RefersTo : Wanted → Names → Result Text ToolFault → Type 0
RefersTo w names answer = RefersBy w.reference w names answer

-- the program part is a program of the file, and the answer is that of its schedule; or the program part is no program
pub data RunsTo (w : Wanted) (o : ElaboratedFile) : Result Text ToolFault → Type 0 where
  Ran : (p : Program) (answer : Result Text ToolFault) →
      IsTextOf o p w.texts.program → RefersTo w (names_in o p) answer →
      RunsTo w o answer
  NoProgram : (f : ProgramFault) → IsNoProgram o w.texts.program f → RunsTo w o (Err (lifted_program f))

-- The class part is a file that keeps every rule, and the answer is that of its program. Or it is a file that breaks
-- the named rule. Or it is no file, and the fault is one that may come of it.
pub data Chooses (w : Wanted) : Result Text ToolFault → Type 0 where
  Checks : (file : File) (o : ElaboratedFile) (answer : Result Text ToolFault) →
      IsFileOf w.texts.classes file → elaborated file ≡ Ok o → RunsTo w o answer →
      Chooses w answer
  Breaks : (file : File) (f : CheckFault) →
      IsFileOf w.texts.classes file → typing.Fails f (elaborated file) →
      Chooses w (Err (lifted_check f))
  NoFile : (f : TextFault) →
      Refuses f ((file : ParsedFile) → TextSpells file w.texts.classes → ⊥) → Comes w.texts.classes f →
      Chooses w (Err (lifted_text f))

-- the page of these parts; without a schedule its text is empty
abbrev pub ChoosesTo : Option Text → ℕ → Text → Text → Text → Result Text ToolFault → Type 0
ChoosesTo reference states classes program schedule =
    Chooses (record {
      texts = record { classes = classes; program = program; schedule = schedule };
      reference = reference;
      states = states;
    })
