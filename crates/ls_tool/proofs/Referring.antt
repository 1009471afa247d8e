-- What a command that takes no reference answers.
use Rattle.std.proofs.Common.{◌≡◌, ℕ, Bool, List, Option, Result, refl}
use Rattle.std.specs.Prelude.{String}
use Rattle.std.specs.Global.{Global}
use Rattle.ls_report.specs.Events.{Text}
use Rattle.ls_command_line.specs.declared.words.Paging.{Paging}
use Rattle.ls_command_line.specs.declared.words.Request.{Request}
use Rattle.ls_command_line.specs.declared.words.Request.TheVariants as requests
use Rattle.ls_command_line.specs.declared.words.Seeking.{Seeking}
use Rattle.ls_faults.specs.declared.fault.ToolFault.{ToolFault}
use Rattle.ls_faults.specs.Given.{GivesText}
use Rattle.ls_tool.specs.Output.{Answers, AnswersByReference}

-- it answers as ever
pub as_ever : (r : Request) (parts : List Text) (answer : Result (String Global) ToolFault)
    → ((s : Seeking) → ¬ (r ≡ requests.Find s))
    → ((p : Paging) → ¬ (r ≡ requests.Page p))
    → ¬ (r ≡ requests.Order)
    → ((cells : Option ℕ) (states : ℕ) (illegal first order progress : Bool) →
    ¬ (r ≡ requests.Explore cells states illegal first order progress))
    → ((states : ℕ) (mixed : Bool) → ¬ (r ≡ requests.Verdict states mixed))
    → ((states : ℕ) (mixed : Bool) → ¬ (r ≡ requests.Races states mixed))
    → ((states : ℕ) (mixed again : Bool) → ¬ (r ≡ requests.Ends states mixed again))
    → ((seed count steps switch cells : ℕ) (judge : Bool) → ¬ (r ≡ requests.Batch seed count steps switch cells judge))
    → GivesText (Answers r parts) answer
    → GivesText (AnswersByReference r parts) answer
as_ever requests.Check parts answer f p o e v d n b h = h
as_ever requests.Order parts answer f p o e v d n b h = absurd (o refl)
as_ever requests.Compile parts answer f p o e v d n b h = h
as_ever (requests.Replay cells live) parts answer f p o e v d n b h = h
as_ever requests.Source parts answer f p o e v d n b h = h
as_ever (requests.Trace from to fold) parts answer f p o e v d n b h = h
as_ever (requests.Page paging) parts answer f p o e v d n b h = absurd (p paging refl)
as_ever (requests.State dot to) parts answer f p o e v d n b h = h
as_ever (requests.States dot from to) parts answer f p o e v d n b h = h
as_ever requests.Aim parts answer f p o e v d n b h = h
as_ever requests.Java parts answer f p o e v d n b h = h
as_ever (requests.Translate to cells) parts answer f p o e v d n b h = h
as_ever (requests.Live cells limit) parts answer f p o e v d n b h = h
as_ever (requests.Batch seed count steps switch cells judge) parts answer f p o e v d n b h =
    absurd (b seed count steps switch cells judge refl)
as_ever (requests.Sample seed steps switch cells) parts answer f p o e v d n b h = h
as_ever (requests.Explore cells states illegal first order progress) parts answer f p o e v d n b h =
    absurd (e cells states illegal first order progress refl)
as_ever (requests.Verdict states mixed) parts answer f p o e v d n b h = absurd (v states mixed refl)
as_ever (requests.Races states mixed) parts answer f p o e v d n b h = absurd (d states mixed refl)
as_ever (requests.Ends states mixed again) parts answer f p o e v d n b h = absurd (n states mixed again refl)
as_ever (requests.Find seeking) parts answer f p o e v d n b h = absurd (f seeking refl)
as_ever (requests.Merge count) parts answer f p o e v d n b h = h
