-- From what is answered of a Java file to what a run ends with.
use Rattle.std.proofs.Common.{◌≡◌, refl, subst, sym, true, false, List, [], ◌∷◌, Option, Some, None}
use Rattle.std.proofs.Common.{Result, Ok, Err}
use Rattle.std.specs.Prelude.{MatchBool, string_bytes}
use Rattle.ls_report.specs.Events.{Text}
use Rattle.ls_items.specs.Parts.{is_text, parts_of}
use Rattle.ls_command_line.specs.declared.words.CommandLine.{CommandLine}
use Rattle.ls_command_line.specs.declared.words.Request.{Request}
use Rattle.ls_command_line.specs.declared.words.Request.TheVariants as requests
use Rattle.ls_faults.specs.declared.fault.ToolFault.{ToolFault}
use Rattle.ls_faults.specs.declared.fault.ToolFault.TheVariants as fault
use Rattle.ls_files.specs.Names.{file_names_in}
use Rattle.ls_tool.specs.declared.refusal.Refusal.{Refusal}
use Rattle.ls_tool.specs.declared.refusal.Refusal.TheVariants as refusal
use Rattle.ls_tool.specs.declared.said.Said.{Said}
use Rattle.ls_tool.specs.Output.{AnswersInput, AnswersText, Asks, Decides, IsEnding, IsTaken, NotRestated, Prints}
use Rattle.ls_tool.specs.Output.{Restated, read_as}
use Rattle.ls_tool.specs.Restated.{IsRestated, Restates, RestatesParts, WantsOne}

-- where nothing is answered of parts, they aren't one file
wants_other : (parts : List Text) → RestatesParts parts None → WantsOne parts (Err fault.WrongParts)
wants_other [] h = refl
wants_other (file ∷ []) h = absurd h
wants_other (file ∷ next ∷ more) h = refl

abbrev Wrong : Result Text ToolFault
Wrong = Err fault.WrongParts

abbrev NoText : Result Text ToolFault
NoText = Err fault.NotText

-- then that is the fault
pub wrong_parts : (names : Option (List Text)) (l : CommandLine) (input : Text) →
    l.request ≡ requests.Java →
    is_text input ≡ true →
    RestatesParts (parts_of (read_as names input)) None →
    AnswersText names l input Wrong
wrong_parts names l input is whole h =
    subst (λ b. MatchBool b (AnswersInput l.spec l.request (read_as names input) Wrong) (Wrong ≡ Err fault.NotText))
    (sym whole) (subst (λ r. AnswersInput l.spec r (read_as names input) Wrong) (sym is)
    (wants_other (parts_of (read_as names input)) h))

-- where the input is no text, that is the fault
pub no_text : (names : Option (List Text)) (l : CommandLine) (input : Text) →
    is_text input ≡ false →
    AnswersText names l input (Err fault.NotText)
no_text names l input fails =
    subst (λ b. MatchBool b (AnswersInput l.spec l.request (read_as names input) NoText) (NoText ≡ Err fault.NotText))
    (sym fails) refl

-- what is answered of one file is an ending
ends_restating : (words : List Text) (input file : Text) (l : CommandLine) (r : Result Said Refusal) →
    Asks words (Some l) →
    l.request ≡ requests.Java →
    is_text input ≡ true →
    parts_of (read_as (file_names_in words) input) ≡ file ∷ [] →
    Restates r →
    Decides words input r
ends_restating words input file l (Ok said) asks is whole one h =
    subst (λ k. IsEnding words input (Prints k (string_bytes said.text) (string_bytes said.beside))) (sym h.0)
    (Restated l (string_bytes said.text) (string_bytes said.beside) asks is whole
    (subst (λ parts. IsRestated parts (string_bytes said.text)) (sym one) h.1))
ends_restating words input file l (Err (refusal.BadLine e)) asks is whole one h = absurd h
ends_restating words input file l (Err (refusal.Fault f)) asks is whole one h =
    subst (λ g. Decides words input (Err (refusal.Fault g))) (sym h) tt
ends_restating words input file l (Err (refusal.Explained told)) asks is whole one h =
    NotRestated l told.items asks is

-- so is what is answered of parts
pub ends_restating_parts : (words : List Text) (input : Text) (parts : List Text) (l : CommandLine)
    (r : Result Said Refusal) →
    Asks words (Some l) →
    l.request ≡ requests.Java →
    is_text input ≡ true →
    parts_of (read_as (file_names_in words) input) ≡ parts →
    RestatesParts parts (Some r) →
    Decides words input r
ends_restating_parts words input [] l r asks is whole one h = absurd (cc)
ends_restating_parts words input (file ∷ []) l r asks is whole one h =
    ends_restating words input file l r asks is whole one h
ends_restating_parts words input (file ∷ next ∷ more) l r asks is whole one h = absurd (cc)

-- and it isn't said that the words ask for nothing
takes_restating : (r : Result Said Refusal) → Restates r → IsTaken r
takes_restating (Ok said) h = subst (λ k. ¬ (k ≡ 2)) (sym h.0) (λ e. absurd (cc))
takes_restating (Err (refusal.BadLine e)) h = absurd h
takes_restating (Err (refusal.Fault f)) h = tt
takes_restating (Err (refusal.Explained told)) h = tt

pub takes_parts : (parts : List Text) (r : Result Said Refusal) → RestatesParts parts (Some r) → IsTaken r
takes_parts [] r h = absurd (cc)
takes_parts (file ∷ []) r h = takes_restating r h
takes_parts (file ∷ next ∷ more) r h = absurd (cc)
