-- What the command `aim` may answer.
use Rattle.std.proofs.Common.{◌≡◌, ◌<◌, ◌∙◌, ap, sym, subst, refl, ℕ, List, length, map, Result, Ok, Err}
use Rattle.std.specs.Prelude.{All, String}
use Rattle.std.specs.Global.{Global}
use Rattle.ls_lexer.specs.declared.fault.TextFault.{TextFault}
use Rattle.ls_lexer.specs.declared.fault.TextFault.TheVariants as text
use Rattle.ls_tree.specs.Trees.{File as ParsedFile}
use Rattle.ls_parser_spelling.specs.Spells.{TextSpells}
use Rattle.ls_parser_spelling.specs.Files.{IsFileOf}
use Rattle.ls_parser_tokens.specs.Answers.{Refuses}
use Rattle.ls_parser.specs.Comes.{Comes}
use Rattle.ls_checked.specs.CheckedProgram.{Program}
use Rattle.ls_checked.specs.PlainProgram.{plain_program}
use Rattle.ls_checked.specs.declared.program.Program as code
use Rattle.ls_types_elaboration.specs.Elaboration.{ElaboratedFile, elaborated}
use Rattle.ls_types_elaboration.specs.Trees.{File}
use Rattle.ls_types_elaboration.specs.Refused as typing
use Rattle.ls_types_elaboration.specs.declared.rule.CheckFault.{CheckFault}
use Rattle.ls_types_elaboration.specs.declared.rule.CheckFault.TheVariants as rule
use Rattle.ls_types_programs.specs.Programs.{IsTextOf}
use Rattle.ls_types_checked.specs.ProgramRefusals.{IsNoProgram}
use Rattle.ls_types_checked.specs.declared.fault.ProgramFault.{ProgramFault}
use Rattle.ls_types_checked.specs.declared.fault.ProgramFault.TheVariants as program
use Rattle.ls_labels.specs.Names.{Names}
use Rattle.ls_report.specs.Events.{Text}
use Rattle.ls_schedule.specs.Printing.{schedule_text}
use Rattle.ls_schedule.specs.Reading.{schedule_of, thread_names}
use Rattle.ls_schedule.specs.declared.fault.ScheduleFault.TheVariants as schedule
use Rattle.ls_text_laws.specs.Schedules.{SchedulesReadBack, WhatIsReadIsASchedule}
use Rattle.ls_aim.specs.Aims.{aimed, thread_names_of}
use Rattle.ls_aim.specs.Answers as aims
use Rattle.ls_aim.specs.declared.fault.AimFault.{AimFault}
use Rattle.ls_aim.specs.declared.fault.AimFault.TheVariants as aim
use Rattle.ls_aim.proofs.Fitting.{Fits, SaysThere, aimed_fits}
use Rattle.ls_faults.specs.Faults.{lifted_aim, lifted_text, lifted_check, lifted_program}
use Rattle.ls_faults.specs.Given.{GivesText}
use Rattle.ls_faults.specs.declared.fault.ToolFault.{ToolFault}
use Rattle.ls_faults.proofs.Answering.{Failed, wider}
use Rattle.ls_commands.specs.Viewed.{names_in}
use Rattle.ls_commands.specs.Aimed.{AimsIn, AimsTo, Aims, Breaks, Checks, IsAim, IsReadBack, NoFile, NoProgram}
use Rattle.ls_commands.specs.Aimed.{aim_text}
use Rattle.ls_commands.proofs.ViewedLemmas.{names_are}

pub aim_fails : (names : Names) (targets : Text) (f : AimFault) →
    aims.Fails f (aimed names targets) →
    GivesText (IsAim names targets) (Failed (lifted_aim f))
aim_fails names targets aim.Memory h = tt
aim_fails names targets (aim.Schedule schedule.Memory) h = tt
aim_fails names targets (aim.Schedule (schedule.BadItem at)) h = sym (ap (aim_text names) h)
aim_fails names targets (aim.Schedule (schedule.UnknownThread at)) h = sym (ap (aim_text names) h)
aim_fails names targets (aim.Schedule schedule.TooManySteps) h = sym (ap (aim_text names) h)
aim_fails names targets (aim.NotStarted at) h = sym (ap (aim_text names) h)
aim_fails names targets (aim.NotMet at) h = sym (ap (aim_text names) h)
aim_fails names targets (aim.TooFar at) h = sym (ap (aim_text names) h)

-- the names of the threads
same_names : (names : Names) (p : code.Program) →
    names.program ≡ plain_program p →
    thread_names p ≡ thread_names_of names
same_names names p is = names_are p.threads.items ∙ ap (λ (q : Program). map (λ t. t.name) q.threads) (sym is)

pub aim_shows : (names : Names) (p : code.Program) (targets : Text) (steps : List ℕ) (t : Text) →
    names.program ≡ plain_program p →
    aimed names targets ≡ Ok steps
    → t ≡ schedule_text (thread_names p) steps → Ok t ≡ aim_text names (aimed names targets)
aim_shows names p targets steps t is e same =
    ap (λ (x : Text). Ok x) same ∙ ap (λ (ns : List Text). Ok (schedule_text ns steps)) (same_names names p is) ∙
    sym (ap (aim_text names) e)

-- what is printed reads back
read_back : SchedulesReadBack →
    WhatIsReadIsASchedule →
    (o : ElaboratedFile) (said : Text) (p : code.Program) (targets : Text) →
    IsTextOf o (plain_program p) said
    → IsReadBack (names_in o (plain_program p)) (aimed (names_in o (plain_program p)) targets)
read_back printed read o said p targets spelled = by_read (aimed (names_in o (plain_program p)) targets)
    (aimed_fits (names_in o (plain_program p)) says targets)
  where
    says : SaysThere (names_in o (plain_program p))
    says text steps e =
        subst (λ (ns : List Text). All (λ t. t < length ns) steps) (same_names (names_in o (plain_program p)) p refl)
        (read p text steps (ap (λ (ns : List Text). schedule_of ns text)
        (same_names (names_in o (plain_program p)) p refl) ∙ e)).there

    by_read : (x : Result (List ℕ) AimFault) →
        Fits (names_in o (plain_program p)) x →
        IsReadBack (names_in o (plain_program p)) x
    by_read (Ok steps) h =
        subst (λ (ns : List Text). schedule_of ns (schedule_text ns steps) ≡ Ok steps)
        (same_names (names_in o (plain_program p)) p refl)
        (printed o said p steps spelled
        (record {
          there = subst (λ (ns : List Text). All (λ t. t < length ns) steps)
              (sym (same_names (names_in o (plain_program p)) p refl)) h.0;
          short = h.1;
        }))
    by_read (Err f) h = tt

pub program_aims : SchedulesReadBack →
    WhatIsReadIsASchedule →
    (o : ElaboratedFile) (said targets : Text) (p : code.Program) (r : Result (String Global) ToolFault)
    → IsTextOf o (plain_program p) said → GivesText (IsAim (names_in o (plain_program p)) targets) r →
    GivesText (AimsIn o said targets) r
program_aims printed read o said targets p r spelled g =
    wider (IsAim (names_in o (plain_program p)) targets) (AimsIn o said targets) r
    (λ a h. Aims (plain_program p) a spelled h (read_back printed read o said p targets spelled)) g

pub no_program_aims : (o : ElaboratedFile) (said targets : Text) (f : ProgramFault) →
    IsNoProgram o said f →
    GivesText (AimsIn o said targets) (Failed (lifted_program f))
no_program_aims o said targets program.Memory r = tt
no_program_aims o said targets (program.BadProgram at) r = NoProgram (program.BadProgram at) r
no_program_aims o said targets (program.UnknownThing at) r = NoProgram (program.UnknownThing at) r
no_program_aims o said targets (program.ReferenceResult at) r = NoProgram (program.ReferenceResult at) r
no_program_aims o said targets program.ProgramLimit r = NoProgram program.ProgramLimit r

pub text_aims : (c p s : Text) (f : TextFault) →
    Refuses f ((file : ParsedFile) → TextSpells file c → ⊥) →
    Comes c f →
    GivesText (AimsTo c p s) (Failed (lifted_text f))
text_aims c p s text.Memory r m = tt
text_aims c p s text.TooLong r m = NoFile text.TooLong r m
text_aims c p s (text.BadByte at) r m = NoFile (text.BadByte at) r m
text_aims c p s (text.OpenComment at) r m = NoFile (text.OpenComment at) r m
text_aims c p s (text.BadNumber at) r m = NoFile (text.BadNumber at) r m
text_aims c p s (text.Syntax at) r m = NoFile (text.Syntax at) r m
text_aims c p s (text.TooDeep at) r m = NoFile (text.TooDeep at) r m

pub check_aims : (c p s : Text) (file : File) (f : CheckFault) →
    IsFileOf c file →
    typing.Fails f (elaborated file) →
    GivesText (AimsTo c p s) (Failed (lifted_check f))
check_aims c p s file rule.Memory t n = tt
check_aims c p s file (rule.Broken b) t n = Breaks file (rule.Broken b) t n

pub checked_aims : (c p s : Text) (file : File) (o : ElaboratedFile) (r : Result (String Global) ToolFault) →
    IsFileOf c file →
    elaborated file ≡ Ok o
    → GivesText (AimsIn o p s) r → GivesText (AimsTo c p s) r
checked_aims c p s file o r t e g = wider (AimsIn o p s) (AimsTo c p s) r (λ a h. Checks file o a t e h) g
