-- The place of a fault.
use Rattle.std.specs.Prelude.{ℕ, Option, Some, None}
use Rattle.std.specs.Option.{option_map}
use Rattle.ls_compiler.specs.declared.fault.CompileFault.{CompileFault}
use Rattle.ls_compiler.specs.declared.fault.CompileFault.TheVariants as stopped
use Rattle.ls_lexer.specs.declared.token.Span.{Span}
use Rattle.ls_lexer.specs.declared.fault.TextFault.{TextFault}
use Rattle.ls_lexer.specs.declared.fault.TextFault.TheVariants as text
use Rattle.ls_types_elaboration.specs.declared.rule.CheckFault.{CheckFault}
use Rattle.ls_types_elaboration.specs.declared.rule.CheckFault.TheVariants as rule
use Rattle.ls_types_checked.specs.declared.fault.ProgramFault.{ProgramFault}
use Rattle.ls_types_checked.specs.declared.fault.ProgramFault.TheVariants as program
use Rattle.ls_schedule.specs.declared.fault.ScheduleFault.{ScheduleFault}
use Rattle.ls_schedule.specs.declared.fault.ScheduleFault.TheVariants as schedule
use Rattle.ls_aim.specs.declared.fault.AimFault.{AimFault}
use Rattle.ls_aim.specs.declared.fault.AimFault.TheVariants as aim
use Rattle.ls_report.specs.declared.fault.HistoryFault.{HistoryFault}
use Rattle.ls_report.specs.declared.fault.HistoryFault.TheVariants as history
use Rattle.ls_orders.specs.declared.fault.OrderFault.{OrderFault}
use Rattle.ls_orders.specs.declared.fault.OrderFault.TheVariants as order
use Rattle.ls_tallies.specs.declared.fault.TallyFault.{TallyFault}
use Rattle.ls_tallies.specs.declared.fault.TallyFault.TheVariants as tally
use Rattle.ls_faults.specs.declared.fault.ToolFault.{ToolFault}
use Rattle.ls_faults.specs.declared.fault.ToolFault.TheVariants as faults
use Rattle.ls_explanations.specs.declared.place.Part.{Part}
use Rattle.ls_explanations.specs.declared.place.Part.TheVariants as parts
use Rattle.ls_explanations.specs.declared.place.PartSpan.{PartSpan}

-- a place with its end
abbrev pub at_span : Part → Span → Option PartSpan
at_span part span = Some (record { part = part; span = span })

-- the place of one byte
abbrev pub at_byte : Part → ℕ → Option PartSpan
at_byte part at = at_span part (record { start = at; end = at })

abbrev pub text_place : TextFault → Option PartSpan
text_place text.Memory = None
text_place text.TooLong = None
text_place (text.BadByte at) = at_byte parts.Classes at
text_place (text.OpenComment at) = at_byte parts.Classes at
text_place (text.BadNumber at) = at_byte parts.Classes at
text_place (text.Syntax at) = at_byte parts.Classes at
text_place (text.TooDeep at) = at_byte parts.Classes at

abbrev pub check_place : CheckFault → Option PartSpan
check_place rule.Memory = None
check_place (rule.Broken b) = at_span parts.Classes b.span

abbrev pub program_place : ProgramFault → Option PartSpan
program_place program.Memory = None
program_place (program.BadProgram at) = at_byte parts.Program at
program_place (program.UnknownThing at) = at_byte parts.Program at
program_place (program.ReferenceResult at) = at_byte parts.Program at
program_place program.ProgramLimit = None

abbrev pub schedule_place : ScheduleFault → Option PartSpan
schedule_place schedule.Memory = None
schedule_place (schedule.BadItem at) = at_byte parts.Schedule at
schedule_place (schedule.UnknownThread at) = at_byte parts.Schedule at
schedule_place schedule.TooManySteps = None

abbrev pub aim_place : AimFault → Option PartSpan
aim_place aim.Memory = None
aim_place (aim.Schedule f) = schedule_place f
aim_place (aim.NotStarted at) = at_byte parts.Schedule at
aim_place (aim.NotMet at) = at_byte parts.Schedule at
aim_place (aim.TooFar at) = at_byte parts.Schedule at

abbrev pub history_place : HistoryFault → Option PartSpan
history_place history.Memory = None
history_place (history.BadHistory at) = at_byte parts.History at

abbrev pub order_place : OrderFault → Option PartSpan
order_place order.Memory = None
order_place (order.BadOrder at) = at_byte parts.Order at

abbrev pub tally_place : TallyFault → Option PartSpan
tally_place tally.Memory = None
tally_place (tally.BadTally at) = at_byte parts.Tallies at
tally_place tally.CountTooGreat = None
tally_place tally.OtherCount = None

-- the same place in the reference
abbrev pub in_reference : PartSpan → PartSpan
in_reference place = record { part = parts.Reference; span = place.span }

abbrev pub reference_place : CompileFault → Option PartSpan
reference_place (stopped.Text f) = option_map in_reference (text_place f)
reference_place (stopped.Check f) = option_map in_reference (check_place f)
reference_place (stopped.Program f) = None
reference_place (stopped.Build f) = None

-- limits of whole texts, faults of a run and faults of the streams have no place
abbrev pub place_of : ToolFault → Option PartSpan
place_of (faults.Text f) = text_place f
place_of (faults.Check f) = check_place f
place_of (faults.Program f) = program_place f
place_of (faults.Schedule f) = schedule_place f
place_of (faults.Aim f) = aim_place f
place_of (faults.History f) = history_place f
place_of (faults.Order f) = order_place f
place_of (faults.Tally f) = tally_place f
place_of (faults.BadEntry at) = at_byte parts.Menu at
place_of (faults.Specification f) = reference_place f
place_of (faults.UnlikeSpecification at) = at_byte parts.Program at
place_of (faults.LacksMethod span) = at_span parts.Reference span
place_of _ = None
