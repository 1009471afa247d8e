-- What is told beside a text fails only as the command itself may.
use Rattle.std.proofs.Common.{◌≡◌, refl, sym, subst, Bool, true, false, List, [], ◌∷◌}
use Rattle.std.proofs.Common.{Option, Some, None, Result, Ok, Err}
use Rattle.std.specs.Prelude.{◌&&◌, MatchBool, String}
use Rattle.std.specs.Global.{Global}
use Rattle.ls_answers.specs.Answers.{MayRefuse}
use Rattle.ls_report.specs.Events.{Text}
use Rattle.ls_orders.specs.Orders.{order_of}
use Rattle.ls_orders.specs.declared.fault.OrderFault.{OrderFault}
use Rattle.ls_items.specs.Parts.{is_text, parts_of}
use Rattle.ls_commands.specs.Check as check
use Rattle.ls_commands.specs.Check.{ChecksTo, judged_by, with_feed}
use Rattle.ls_command_line.specs.declared.words.CommandLine.{CommandLine}
use Rattle.ls_command_line.specs.declared.words.Request.{Request}
use Rattle.ls_command_line.specs.declared.words.Request.TheVariants as requests
use Rattle.ls_faults.specs.Given.{GivesText, meant}
use Rattle.ls_faults.specs.declared.fault.ToolFault.{ToolFault}
use Rattle.ls_faults.specs.declared.fault.ToolFault.TheVariants as faults
use Rattle.ls_tool.specs.Notes.{is_noted, Noted, noted_by, NoHistory, NotesCheck, NotesOn}
use Rattle.ls_tool.specs.Output.{Answers, AnswersInput, AnswersText, NotesAs, NotesText, read_as}

abbrev Failed : ToolFault → Result (String Global) ToolFault
Failed f = Err f

abbrev Refusal : ToolFault → Result Text ToolFault
Refusal f = Err f

abbrev Nothing : Result Text ToolFault
Nothing = Ok []

-- what is told of a verdict fails as the verdict does
check_fails : (history order : Text) (note : Result Text ToolFault) (f : ToolFault) →
    note ≡ Err f →
    NotesCheck history order note →
    ChecksTo history order (Err f)
check_fails history order note f e (Noted events says) = by_order (order_of order) refl e
  where
    by_order : (r : Result (List Text) OrderFault) →
        order_of order ≡ r →
        noted_by events r ≡ Err f →
        ChecksTo history order (Err f)
    by_order (Ok names) is e = absurd (cc)
    by_order (Err g) is e = subst (λ x. ChecksTo history order x) e
        (subst (λ r. ChecksTo history order (judged_by events r)) is (check.Judged events says))
check_fails history order note f e (NoHistory at b) = subst (λ x. ChecksTo history order x) e (check.NoHistory at b)

-- the one command that tells something beside its text
is_check : (r : Request) → is_noted r ≡ true → r ≡ requests.Check
is_check requests.Check e = refl
is_check requests.Order e = absurd (cc)
is_check requests.Compile e = absurd (cc)
is_check (requests.Replay cells live) e = absurd (cc)
is_check requests.Source e = absurd (cc)
is_check (requests.Trace from to fold) e = absurd (cc)
is_check (requests.Page paging) e = absurd (cc)
is_check (requests.State dot to) e = absurd (cc)
is_check (requests.States dot from to) e = absurd (cc)
is_check requests.Aim e = absurd (cc)
is_check requests.Java e = absurd (cc)
is_check (requests.Translate to cells) e = absurd (cc)
is_check (requests.Live cells limit) e = absurd (cc)
is_check (requests.Batch seed count steps switch cells judge) e = absurd (cc)
is_check (requests.Sample seed steps switch cells) e = absurd (cc)
is_check (requests.Explore cells states illegal first order progress) e = absurd (cc)
is_check (requests.Verdict states mixed) e = absurd (cc)
is_check (requests.Races states mixed) e = absurd (cc)
is_check (requests.Ends states mixed again) e = absurd (cc)
is_check (requests.Find seeking) e = absurd (cc)
is_check (requests.Merge count) e = absurd (cc)

on_check_fails : (parts : List Text) (f : ToolFault) →
    NotesOn requests.Check parts (Err f) →
    Answers requests.Check parts (Err f)
on_check_fails [] f h = absurd (cc)
on_check_fails (text ∷ []) f h = absurd (cc)
on_check_fails (history ∷ order ∷ []) f h = check_fails history order (Err f) f refl h
on_check_fails (a ∷ b ∷ c ∷ more) f h = absurd (cc)

on_input_fails : (spec : Bool) (r : Request) (input : Text) (f : ToolFault) →
    r ≡ requests.Check →
    NotesOn r (parts_of input) (Err f) →
    AnswersInput spec r input (Err f)
on_input_fails spec r input f e h = subst (λ x. AnswersInput spec x input (Err f)) (sym e)
    (by_check spec (on_check_fails (parts_of input) f (subst (λ x. NotesOn x (parts_of input) (Err f)) e h)))
  where
    by_check : (b : Bool) → Answers requests.Check (parts_of input) (Err f) →
        AnswersInput b requests.Check input (Err f)
    by_check true h = h
    by_check false h = h

text_fails : (names : Option (List Text)) (l : CommandLine) (input : Text) (f : ToolFault) →
    l.request ≡ requests.Check →
    NotesText names l.request input (Err f) →
    AnswersText names l input (Err f)
text_fails names l input f e = by_text (is_text input)
  where
    by_text : (b : Bool) →
        MatchBool b (NotesOn l.request (parts_of (read_as names input)) (Err f)) (Refusal f ≡ Refusal faults.NotText) →
        MatchBool b (AnswersInput l.spec l.request (read_as names input) (Err f)) (Refusal f ≡ Refusal faults.NotText)
    by_text true h = on_input_fails l.spec l.request (read_as names input) f e h
    by_text false h = h

right_of : (a b : Bool) → (a && b) ≡ true → b ≡ true
right_of true b e = e
right_of false b e = absurd (cc)

as_fails : (names : Option (List Text)) (l : CommandLine) (input : Text) (f : ToolFault) →
    NotesAs names l input (Err f) →
    AnswersText names l input (Err f)
as_fails names l input f = by_words (l.explain && is_noted l.request) refl
  where
    by_words : (b : Bool) →
        (l.explain && is_noted l.request) ≡ b →
        MatchBool b (NotesText names l.request input (Err f)) (Refusal f ≡ Nothing) →
        AnswersText names l input (Err f)
    by_words true e h = text_fails names l input f (is_check l.request (right_of l.explain _ e)) h
    by_words false e h = absurd (cc)

may_refuse : (o : Option ToolFault) (May May' : Result Text ToolFault → Type 0) →
    ((f : ToolFault) → May (Err f) → May' (Err f)) →
    MayRefuse o May →
    MayRefuse o May'
may_refuse None May May' k h = tt
may_refuse (Some f) May May' k h = k f h

-- a fault of what is told beside a text is one that the command may have
pub note_fails : (names : Option (List Text)) (l : CommandLine) (input : Text) (f : ToolFault) →
    GivesText (NotesAs names l input) (Failed f) →
    GivesText (AnswersText names l input) (Failed f)
note_fails names l input f h = may_refuse (meant f) (NotesAs names l input) (AnswersText names l input)
    (as_fails names l input) h
