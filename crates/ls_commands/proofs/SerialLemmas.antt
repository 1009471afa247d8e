-- What `order` may answer of a history of a program.
use Rattle.std.proofs.Common.{◌≡◌, ℕ, subst, List, Result, Ok, Err}
use Rattle.std.specs.Prelude.{String}
use Rattle.std.specs.Global.{Global}
use Rattle.ls_lexer.specs.declared.fault.TextFault.{TextFault}
use Rattle.ls_lexer.specs.declared.fault.TextFault.TheVariants as text
use Rattle.ls_tree.specs.Trees.{File as ParsedFile}
use Rattle.ls_parser_spelling.specs.Spells.{TextSpells}
use Rattle.ls_parser_spelling.specs.Files.{IsFileOf}
use Rattle.ls_parser_tokens.specs.Answers.{Refuses}
use Rattle.ls_parser.specs.Comes.{Comes}
use Rattle.ls_checked.specs.CheckedProgram.{Program}
use Rattle.ls_events.specs.declared.event.Event.{Event as RunEvent}
use Rattle.ls_types_elaboration.specs.Elaboration.{ElaboratedFile, elaborated}
use Rattle.ls_types_elaboration.specs.Trees.{File}
use Rattle.ls_types_elaboration.specs.Refused as typing
use Rattle.ls_types_elaboration.specs.declared.rule.CheckFault.{CheckFault}
use Rattle.ls_types_elaboration.specs.declared.rule.CheckFault.TheVariants as rule
use Rattle.ls_types_programs.specs.Programs.{IsTextOf}
use Rattle.ls_types_checked.specs.ProgramRefusals.{IsNoProgram}
use Rattle.ls_types_checked.specs.declared.fault.ProgramFault.{ProgramFault}
use Rattle.ls_types_checked.specs.declared.fault.ProgramFault.TheVariants as program
use Rattle.ls_report.specs.Events.{Event, Text}
use Rattle.ls_report.specs.Reading.{BreaksAt, Explains, Says}
use Rattle.ls_report.specs.declared.fault.HistoryFault.{HistoryFault}
use Rattle.ls_report.specs.declared.fault.HistoryFault.TheVariants as history_faults
use Rattle.ls_serial_orders.specs.Named.{AreNamed, IsFirstForeign}
use Rattle.ls_serial_orders.specs.Telling.{Tells}
use Rattle.ls_faults.specs.Faults.{lifted_check, lifted_history, lifted_program, lifted_text}
use Rattle.ls_faults.specs.Given.{GivesText}
use Rattle.ls_faults.specs.declared.fault.ToolFault.{ToolFault}
use Rattle.ls_faults.specs.declared.fault.ToolFault.TheVariants as faults
use Rattle.ls_faults.proofs.Answering.{Failed, wider}
use Rattle.ls_commands.specs.Check.{with_feed}
use Rattle.ls_commands.specs.SerialOrdered.{Breaks, Checks, NoFile, NoHistory, NoProgram, OrdersIn, OrdersOf}
use Rattle.ls_commands.specs.SerialOrdered.{OrdersSerially}
use Rattle.ls_commands.specs.SerialOrdered.{OtherProgram, Ran, Told}

-- ---- the history

pub history_fails : (o : ElaboratedFile) (p : Program) (h t : Text) (f : HistoryFault) →
    t ≡ with_feed h →
    Explains t f →
    GivesText (OrdersOf o p h) (Failed (lifted_history f))
history_fails o p h t history_faults.Memory e b = tt
history_fails o p h t (history_faults.BadHistory at) e b = NoHistory at (subst (λ x. BreaksAt x at) e b)

pub foreign_fails : (o : ElaboratedFile) (p : Program) (h t : Text) (events : List Event) (at : ℕ) →
    t ≡ with_feed h →
    Says t events →
    IsFirstForeign p events at →
    OrdersOf o p h (Err (faults.History (history_faults.BadHistory at)))
foreign_fails o p h t events at e s foreign = OtherProgram events at (subst (λ x. Says x events) e s) foreign

pub order_told : (o : ElaboratedFile) (p : Program) (h t : Text) (events : List Event)
    (run : List RunEvent) (text : Text) →
    t ≡ with_feed h →
    Says t events →
    AreNamed p run events →
    ((events : List Event) → AreNamed p run events → Tells o.file p run events text) →
    OrdersOf o p h (Ok text)
order_told o p h t events run text e s named tells =
    Told events run text (subst (λ x. Says x events) e s) named (tells events named)

-- ---- the program

pub no_program_orders : (o : ElaboratedFile) (said h : Text) (f : ProgramFault) →
    IsNoProgram o said f →
    GivesText (OrdersIn o said h) (Failed (lifted_program f))
no_program_orders o said h program.Memory r = tt
no_program_orders o said h (program.BadProgram at) r = NoProgram (program.BadProgram at) r
no_program_orders o said h (program.UnknownThing at) r = NoProgram (program.UnknownThing at) r
no_program_orders o said h (program.ReferenceResult at) r = NoProgram (program.ReferenceResult at) r
no_program_orders o said h program.ProgramLimit r = NoProgram program.ProgramLimit r

pub program_orders : (o : ElaboratedFile) (said h : Text) (p : Program) (r : Result (String Global) ToolFault) →
    IsTextOf o p said →
    GivesText (OrdersOf o p h) r →
    GivesText (OrdersIn o said h) r
program_orders o said h p r spelled g = wider (OrdersOf o p h) (OrdersIn o said h) r (λ a x. Ran p a spelled x) g

-- ---- the class text

pub text_orders : (c p h : Text) (f : TextFault) →
    Refuses f ((file : ParsedFile) → TextSpells file c → ⊥) →
    Comes c f →
    GivesText (OrdersSerially c p h) (Failed (lifted_text f))
text_orders c p h text.Memory r m = tt
text_orders c p h text.TooLong r m = NoFile text.TooLong r m
text_orders c p h (text.BadByte at) r m = NoFile (text.BadByte at) r m
text_orders c p h (text.OpenComment at) r m = NoFile (text.OpenComment at) r m
text_orders c p h (text.BadNumber at) r m = NoFile (text.BadNumber at) r m
text_orders c p h (text.Syntax at) r m = NoFile (text.Syntax at) r m
text_orders c p h (text.TooDeep at) r m = NoFile (text.TooDeep at) r m

pub check_orders : (c p h : Text) (file : File) (f : CheckFault) →
    IsFileOf c file →
    typing.Fails f (elaborated file) →
    GivesText (OrdersSerially c p h) (Failed (lifted_check f))
check_orders c p h file rule.Memory t n = tt
check_orders c p h file (rule.Broken b) t n = Breaks file (rule.Broken b) t n

pub checked_orders : (c p h : Text) (file : File) (o : ElaboratedFile) (r : Result (String Global) ToolFault) →
    IsFileOf c file →
    elaborated file ≡ Ok o
    → GivesText (OrdersIn o p h) r → GivesText (OrdersSerially c p h) r
checked_orders c p h file o r t e g = wider (OrdersIn o p h) (OrdersSerially c p h) r (λ a x. Checks file o a t e x) g
