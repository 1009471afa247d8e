-- What the command `check` says.
use Rattle.std.specs.Prelude.{◌==◌, ◌-◌, ℕ, length, slice_get, Bool, true, List, [], ◌∷◌, ◌++◌, Option, Some, None}
use Rattle.std.specs.Prelude.{Result, Ok, Err, codes, if◌then◌else◌}
use Rattle.ls_report.specs.Events.{Event, Text}
use Rattle.ls_report.specs.Reading.{BreaksAt, Says}
use Rattle.ls_report.specs.declared.fault.HistoryFault.TheVariants as history_faults
use Rattle.ls_orders.specs.Orders.{order_of}
use Rattle.ls_orders.specs.Rules.{Broken, Judgement, Legal, judgement_of}
use Rattle.ls_orders.specs.declared.fault.OrderFault.{OrderFault}
use Rattle.ls_orders.specs.declared.verdict.OrderRule.{OrderRule}
use Rattle.ls_orders.specs.declared.verdict.OrderRule.TheVariants as rules
use Rattle.ls_faults.specs.Faults.{lifted_order}
use Rattle.ls_faults.specs.declared.fault.ToolFault.{ToolFault}
use Rattle.ls_faults.specs.declared.fault.ToolFault.TheVariants as faults

abbrev pub rule_text : OrderRule → Text
rule_text rules.UnknownCall = codes "71"
rule_text rules.Repeated = codes "72"
rule_text rules.Missing = codes "73"
rule_text rules.AgainstTime = codes "74"
rule_text rules.WrongReply = codes "75"
rule_text rules.NotASetCall = codes "76"

-- `legal`, or `broken RULE CALL`
abbrev pub judgement_text : Judgement → Text
judgement_text Legal = codes "legal\n"
judgement_text (Broken rule call) = codes "broken " ++ (rule_text rule ++ (32 ∷ (call ++ 10 ∷ [])))

-- there is no last byte, or it is a line feed
abbrev pub ends_line : Option ℕ → Bool
ends_line None = true
ends_line (Some b) = b == 10

-- a line feed after a part that isn't empty and doesn't end in one
abbrev pub with_feed : Text → Text
with_feed part = if ends_line (slice_get part (length part - 1)) then part else part ++ 10 ∷ []

abbrev pub judged_by : List Event → Result (List Text) OrderFault → Result Text ToolFault
judged_by events (Ok order) = Ok (judgement_text (judgement_of events order))
judged_by events (Err f) = Err (lifted_order f)

-- The history part is a history, and the answer the judgement of the order or the fault of its part; or the history
-- part breaks at a place.
pub data ChecksTo (history order : Text) : Result Text ToolFault → Type 0 where
  Judged : (events : List Event) →
      Says (with_feed history) events →
      ChecksTo history order (judged_by events (order_of order))
  NoHistory : (at : ℕ) →
      BreaksAt (with_feed history) at →
      ChecksTo history order (Err (faults.History (history_faults.BadHistory at)))
