-- From what is answered on parts to what is answered on an input.
use Rattle.std.proofs.Common.{◌≡◌, ℕ, Bool, Option, Result, refl}
use Rattle.std.specs.Prelude.{String}
use Rattle.std.specs.Global.{Global}
use Rattle.ls_report.specs.Events.{Text}
use Rattle.ls_items.specs.Parts.{parts_of}
use Rattle.ls_command_line.specs.declared.words.Request.{Request}
use Rattle.ls_command_line.specs.declared.words.Request.TheVariants as requests
use Rattle.ls_faults.specs.declared.fault.ToolFault.{ToolFault}
use Rattle.ls_faults.specs.Given.{GivesText}
use Rattle.ls_tool.specs.Output.{AnswersBy, AnswersInput}

-- an input that isn't one of tallies, nor a Java file, is answered on its parts
pub on_parts : (spec : Bool) (r : Request) (input : Text) (answer : Result (String Global) ToolFault)
    → ((count : Option ℕ) → ¬ (r ≡ requests.Merge count))
    → ¬ (r ≡ requests.Java)
    → GivesText (AnswersBy spec r (parts_of input)) answer
    → GivesText (AnswersInput spec r input) answer
on_parts spec requests.Check input answer other java h = h
on_parts spec requests.Order input answer other java h = h
on_parts spec requests.Compile input answer other java h = h
on_parts spec (requests.Replay cells live) input answer other java h = h
on_parts spec requests.Source input answer other java h = h
on_parts spec (requests.Trace from to fold) input answer other java h = h
on_parts spec (requests.Page paging) input answer other java h = h
on_parts spec (requests.State dot to) input answer other java h = h
on_parts spec (requests.States dot from to) input answer other java h = h
on_parts spec requests.Aim input answer other java h = h
on_parts spec (requests.Translate to cells) input answer other java h = h
on_parts spec (requests.Live cells limit) input answer other java h = h
on_parts spec (requests.Batch seed count steps switch cells judge) input answer other java h = h
on_parts spec (requests.Sample seed steps switch cells) input answer other java h = h
on_parts spec (requests.Explore cells states illegal first order progress) input answer other java h = h
on_parts spec (requests.Verdict states mixed) input answer other java h = h
on_parts spec (requests.Races states mixed) input answer other java h = h
on_parts spec (requests.Ends states mixed again) input answer other java h = h
on_parts spec (requests.Find seeking) input answer other java h = h
on_parts spec (requests.Merge count) input answer other java h = absurd (other count refl)
on_parts spec requests.Java input answer other java h = absurd (java refl)
