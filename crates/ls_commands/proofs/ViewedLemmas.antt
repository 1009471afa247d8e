-- What a view may answer.
use Rattle.std.proofs.Common.{◌≡◌, ◌∙◌, ap, sym, subst, refl, ℕ, List, [], ◌∷◌, map, Result, Ok, Err}
use Rattle.std.specs.Prelude.{String, IsErrOf}
use Rattle.std.specs.Global.{Global}
use Rattle.ls_lexer.specs.declared.fault.TextFault.{TextFault}
use Rattle.ls_lexer.specs.declared.fault.TextFault.TheVariants as text
use Rattle.ls_tree.specs.Trees.{File as ParsedFile}
use Rattle.ls_parser_spelling.specs.Spells.{TextSpells}
use Rattle.ls_parser_tokens.specs.Answers.{Refuses}
use Rattle.ls_parser.specs.Comes.{Comes}
use Rattle.ls_checked.specs.CheckedProgram.{Program}
use Rattle.ls_checked.specs.PlainProgram.{plain_thread, plain_program}
use Rattle.ls_checked.specs.declared.program.ThreadProgram.{ThreadProgram}
use Rattle.ls_checked.specs.declared.program.Program as code
use Rattle.ls_types_elaboration.specs.Elaboration.{ElaboratedFile, elaborated}
use Rattle.ls_types_elaboration.specs.Trees.{File}
use Rattle.ls_parser_spelling.specs.Files.{IsFileOf}
use Rattle.ls_types_elaboration.specs.Refused as typing
use Rattle.ls_types_checked.specs.ProgramRefusals.{IsNoProgram}
use Rattle.ls_types_programs.specs.Programs.{IsTextOf}
use Rattle.ls_types_elaboration.specs.declared.rule.CheckFault.{CheckFault}
use Rattle.ls_types_elaboration.specs.declared.rule.CheckFault.TheVariants as rule
use Rattle.ls_types_checked.specs.declared.fault.ProgramFault.{ProgramFault}
use Rattle.ls_types_checked.specs.declared.fault.ProgramFault.TheVariants as program
use Rattle.ls_schedule.specs.Answers.{Fails}
use Rattle.ls_schedule.specs.Reading.{schedule_of, thread_name, thread_names}
use Rattle.ls_schedule.specs.declared.fault.ScheduleFault.{ScheduleFault}
use Rattle.ls_schedule.specs.declared.fault.ScheduleFault.TheVariants as schedule
use Rattle.ls_report.specs.Events.{Text}
use Rattle.ls_faults.specs.Faults.{lifted_text, lifted_check, lifted_program, lifted_schedule}
use Rattle.ls_faults.specs.Given.{GivesText}
use Rattle.ls_text_laws.specs.Histories.{SourceIsReadable}
use Rattle.ls_faults.proofs.Answering.{wider}
use Rattle.ls_commands.proofs.ShowsBack.{shows_back}
use Rattle.ls_labels.specs.Names.{Names}
use Rattle.ls_commands.specs.Viewed.{names_in, shown, viewed_by, viewed, RunsTo, Ran, NoProgram, ViewsTo, Checks}
use Rattle.ls_commands.specs.Viewed.{Breaks}
use Rattle.ls_commands.specs.Viewed.{NoFile}
use Rattle.ls_commands.specs.declared.showing.View.{View}
use Rattle.ls_faults.specs.declared.fault.ToolFault.{ToolFault}

abbrev Failed : ToolFault → Result (String Global) ToolFault
Failed f = Err f

pub err_of : {T : Type 0} (f : TextFault) → IsErrOf {T = T} (Err f) text.TooLong → f ≡ text.TooLong
err_of f e = cc

pub text_fails : (v : View) (c p s : Text) (f : TextFault) →
    Refuses f ((file : ParsedFile) → TextSpells file c → ⊥) →
    Comes c f →
    GivesText (ViewsTo v c p s) (Failed (lifted_text f))
text_fails v c p s text.Memory r m = tt
text_fails v c p s text.TooLong r m = NoFile text.TooLong r m
text_fails v c p s (text.BadByte at) r m = NoFile (text.BadByte at) r m
text_fails v c p s (text.OpenComment at) r m = NoFile (text.OpenComment at) r m
text_fails v c p s (text.BadNumber at) r m = NoFile (text.BadNumber at) r m
text_fails v c p s (text.Syntax at) r m = NoFile (text.Syntax at) r m
text_fails v c p s (text.TooDeep at) r m = NoFile (text.TooDeep at) r m

pub check_fails : (v : View) (c p s : Text) (file : File) (f : CheckFault) →
    IsFileOf c file →
    typing.Fails f (elaborated file) →
    GivesText (ViewsTo v c p s) (Failed (lifted_check f))
check_fails v c p s file rule.Memory t n = tt
check_fails v c p s file (rule.Broken b) t n = Breaks file (rule.Broken b) t n

pub checked_runs : SourceIsReadable →
    (v : View) (c p s : Text) (file : File) (o : ElaboratedFile) (r : Result (String Global) ToolFault) →
    IsFileOf c file →
    elaborated file ≡ Ok o →
    GivesText (RunsTo v o p s) r →
    GivesText (ViewsTo v c p s) r
checked_runs readable v c p s file o r t e g = wider (RunsTo v o p s) (ViewsTo v c p s) r
    (λ a h. Checks file o a t e h (shows_back readable file o e p s v h)) g

pub program_fails : (v : View) (o : ElaboratedFile) (p s : Text) (f : ProgramFault) →
    IsNoProgram o p f →
    GivesText (RunsTo v o p s) (Failed (lifted_program f))
program_fails v o p s program.Memory r = tt
program_fails v o p s (program.BadProgram at) r = NoProgram (program.BadProgram at) r
program_fails v o p s (program.UnknownThing at) r = NoProgram (program.UnknownThing at) r
program_fails v o p s (program.ReferenceResult at) r = NoProgram (program.ReferenceResult at) r
program_fails v o p s program.ProgramLimit r = NoProgram program.ProgramLimit r

pub program_runs : (v : View) (o : ElaboratedFile) (p s : Text) (q : Program) (r : Result (String Global) ToolFault) →
    IsTextOf o q p →
    GivesText (λ a. a ≡ viewed v (names_in o q) s) r →
    GivesText (RunsTo v o p s) r
program_runs v o p s q r e g = wider (λ a. a ≡ viewed v (names_in o q) s) (RunsTo v o p s) r
    (λ a h. subst (RunsTo v o p s) (sym h) (Ran q e)) g

-- the names of the threads
pub names_are : (ts : List ThreadProgram) → map thread_name ts ≡ map (λ t. t.name) (map plain_thread ts)
names_are [] = refl
names_are (t ∷ ts) = ap (λ (ns : List Text). thread_name t ∷ ns) (names_are ts)

said : (v : View) (names : Names) (p : code.Program) (s : Text) (r : Result (List ℕ) ScheduleFault) →
    names.program ≡ plain_program p →
    schedule_of (thread_names p) s ≡ r →
    viewed v names s ≡ viewed_by v names r
said v names p s r is e =
    ap (λ (q : Program). viewed_by v names (schedule_of (map (λ t. t.name) q.threads) s)) is
    ∙ ap (λ (ns : List Text). viewed_by v names (schedule_of ns s)) (sym (names_are p.threads.items)) ∙
    ap (viewed_by v names) e

pub schedule_fails : (v : View) (names : Names) (p : code.Program) (s : Text) (f : ScheduleFault) →
    names.program ≡ plain_program p →
    Fails f (schedule_of (thread_names p) s) →
    GivesText (λ a. a ≡ viewed v names s) (Failed (lifted_schedule f))
schedule_fails v names p s schedule.Memory is r = tt
schedule_fails v names p s (schedule.BadItem at) is r = sym (said v names p s (Err (schedule.BadItem at)) is r)
schedule_fails v names p s (schedule.UnknownThread at) is r = sym
    (said v names p s (Err (schedule.UnknownThread at)) is r)
schedule_fails v names p s schedule.TooManySteps is r = sym (said v names p s (Err schedule.TooManySteps) is r)

pub schedule_shows : (v : View) (names : Names) (p : code.Program) (s : Text) (steps : List ℕ) (t : Text) →
    names.program ≡ plain_program p →
    schedule_of (thread_names p) s ≡ Ok steps →
    t ≡ shown v names steps →
    Ok t ≡ viewed v names s
schedule_shows v names p s steps t is e same = ap (λ (x : Text). Ok x) same ∙ sym (said v names p s (Ok steps) is e)
