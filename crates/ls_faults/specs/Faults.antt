-- The lines of faults.
use Rattle.std.specs.Prelude.{ℕ, List, [], ◌∷◌, ◌++◌, codes}
use Rattle.std.specs.Fmt.{decimal}
use Rattle.ls_report.specs.declared.fault.HistoryFault.{HistoryFault}
use Rattle.ls_report.specs.declared.fault.HistoryFault.TheVariants as history
use Rattle.ls_orders.specs.declared.fault.OrderFault.{OrderFault}
use Rattle.ls_orders.specs.declared.fault.OrderFault.TheVariants as order
use Rattle.ls_tallies.specs.declared.fault.TallyFault.{TallyFault}
use Rattle.ls_tallies.specs.declared.fault.TallyFault.TheVariants as tally
use Rattle.ls_order_search.specs.declared.fault.SearchFault.{SearchFault}
use Rattle.ls_order_search.specs.declared.fault.SearchFault.TheVariants as search
use Rattle.ls_lexer.specs.declared.token.Span.{Span}
use Rattle.ls_lexer.specs.declared.fault.TextFault.{TextFault}
use Rattle.ls_lexer.specs.declared.fault.TextFault.TheVariants as text
use Rattle.ls_types_elaboration.specs.declared.rule.CheckFault.{CheckFault}
use Rattle.ls_types_elaboration.specs.declared.rule.CheckFault.TheVariants as rule
use Rattle.ls_types_elaboration.specs.declared.rule.Rule.{Rule}
use Rattle.ls_types_elaboration.specs.declared.rule.Rule.TheVariants as rules
use Rattle.ls_types_checked.specs.declared.fault.ProgramFault.{ProgramFault}
use Rattle.ls_types_checked.specs.declared.fault.ProgramFault.TheVariants as program
use Rattle.ls_lowered.specs.declared.fault.LowerFault.TheVariants as lower
use Rattle.ls_emit.specs.declared.fault.EmitFault.TheVariants as emit
use Rattle.ls_linker.specs.declared.fault.LinkFault.TheVariants as link
use Rattle.ls_linker.specs.declared.fault.BuildFault.{BuildFault}
use Rattle.ls_linker.specs.declared.fault.BuildFault.TheVariants as build
use Rattle.ls_compiler.specs.declared.fault.CompileFault.{CompileFault}
use Rattle.ls_compiler.specs.declared.fault.CompileFault.TheVariants as stopped
use Rattle.ls_specified.specs.declared.fault.SpecificationFault.{SpecificationFault}
use Rattle.ls_specified.specs.declared.fault.SpecificationFault.TheVariants as specified
use Rattle.ls_machine.specs.declared.fault.LoadFault.{LoadFault}
use Rattle.ls_machine.specs.declared.fault.LoadFault.TheVariants as load
use Rattle.ls_schedule.specs.declared.fault.ScheduleFault.{ScheduleFault}
use Rattle.ls_schedule.specs.declared.fault.ScheduleFault.TheVariants as schedule
use Rattle.ls_aim.specs.declared.fault.AimFault.{AimFault}
use Rattle.ls_aim.specs.declared.fault.AimFault.TheVariants as aim
use Rattle.ls_translation.specs.declared.fault.TranslationFault.{TranslationFault}
use Rattle.ls_translation.specs.declared.fault.TranslationFault.TheVariants as translation
use Rattle.ls_live.specs.declared.fault.LiveFault.TheVariants as opening
use Rattle.ls_live.specs.declared.fault.PlayFault.{PlayFault as LiveFault}
use Rattle.ls_live.specs.declared.fault.PlayFault.TheVariants as live
use Rattle.ls_class_programs.specs.declared.entry_fault.EntryFault.{EntryFault}
use Rattle.ls_class_programs.specs.declared.entry_fault.EntryFault.TheVariants as entry
use Rattle.ls_live.specs.declared.follow_fault.FollowFault.TheVariants as follow
use Rattle.ls_live.specs.declared.follow_fault.TapeFault.{TapeFault as TurnsFault}
use Rattle.ls_live.specs.declared.follow_fault.TapeFault.TheVariants as turns
use Rattle.ls_class_programs.specs.declared.fault.ClassFault.{ClassFault}
use Rattle.ls_class_programs.specs.declared.fault.ClassFault.TheVariants as class
use Rattle.ls_batch.specs.declared.fault.BatchFault.{BatchFault}
use Rattle.ls_batch.specs.declared.fault.BatchFault.TheVariants as batch
use Rattle.ls_explore.specs.declared.fault.ExploreFault.{ExploreFault}
use Rattle.ls_explore.specs.declared.fault.ExploreFault.TheVariants as explore
use Rattle.ls_faults.specs.declared.fault.ToolFault.{ToolFault}
use Rattle.ls_faults.specs.declared.fault.ToolFault.TheVariants as faults

-- faults of the layers, here
abbrev pub lifted_history : HistoryFault → ToolFault
lifted_history history.Memory = faults.Memory
lifted_history f = faults.History f

abbrev pub lifted_order : OrderFault → ToolFault
lifted_order order.Memory = faults.Memory
lifted_order f = faults.Order f

abbrev pub lifted_tally : TallyFault → ToolFault
lifted_tally tally.Memory = faults.Memory
lifted_tally f = faults.Tally f

abbrev pub lifted_search : SearchFault → ToolFault
lifted_search search.Memory = faults.Memory
lifted_search (search.BadHistory at) = faults.History (history.BadHistory at)
lifted_search search.TooManyTrapped = faults.TooManyTrapped

abbrev pub lifted_text : TextFault → ToolFault
lifted_text text.Memory = faults.Memory
lifted_text f = faults.Text f

abbrev pub lifted_check : CheckFault → ToolFault
lifted_check rule.Memory = faults.Memory
lifted_check f = faults.Check f

abbrev pub lifted_program : ProgramFault → ToolFault
lifted_program program.Memory = faults.Memory
lifted_program f = faults.Program f

abbrev pub lifted_schedule : ScheduleFault → ToolFault
lifted_schedule schedule.Memory = faults.Memory
lifted_schedule f = faults.Schedule f

abbrev pub lifted_aim : AimFault → ToolFault
lifted_aim aim.Memory = faults.Memory
lifted_aim (aim.Schedule f) = lifted_schedule f
lifted_aim f = faults.Aim f

abbrev pub lifted_build : BuildFault → ToolFault
lifted_build (build.Lower lower.Memory) = faults.Memory
lifted_build (build.Emit emit.Memory) = faults.Memory
lifted_build (build.Link link.Memory) = faults.Memory
lifted_build f = faults.Build f

abbrev pub lifted_compile : CompileFault → ToolFault
lifted_compile (stopped.Text f) = lifted_text f
lifted_compile (stopped.Check f) = lifted_check f
lifted_compile (stopped.Program f) = lifted_program f
lifted_compile (stopped.Build f) = lifted_build f

-- this fault of the reference, unless memory ran out
abbrev pub unless_memory : ToolFault → CompileFault → ToolFault
unless_memory faults.Memory f = faults.Memory
unless_memory _ f = faults.Specification f

abbrev pub lifted_cells : LoadFault → ToolFault
lifted_cells load.Memory = faults.Memory
lifted_cells load.BadCells = faults.BadCells

abbrev pub lifted_translation : TranslationFault → ToolFault
lifted_translation translation.Memory = faults.Memory
lifted_translation translation.BadCells = faults.BadCells
lifted_translation f = faults.Translation f

abbrev pub lifted_live : LiveFault → ToolFault
lifted_live (live.Open opening.Memory) = faults.Memory
lifted_live (live.Open opening.BadCells) = faults.BadCells
lifted_live f = faults.Live f

abbrev pub lifted_turns : TurnsFault → ToolFault
lifted_turns (turns.Load f) = lifted_cells f
lifted_turns (turns.Follow follow.Memory) = faults.Memory
lifted_turns f = faults.Turns f

abbrev pub lifted_batch : BatchFault → ToolFault
lifted_batch batch.Memory = faults.Memory
lifted_batch batch.BadCells = faults.BadCells
lifted_batch batch.BadCount = faults.Batch batch.BadCount

abbrev pub lifted_explore : ExploreFault → ToolFault
lifted_explore explore.Memory = faults.Memory
lifted_explore explore.BadCells = faults.BadCells
lifted_explore (explore.Setup f) = faults.Translation f
lifted_explore f = faults.Explore f

abbrev pub lifted_class : ClassFault → ToolFault
lifted_class class.Memory = faults.Memory
lifted_class (class.Text f) = lifted_text f
lifted_class f = faults.Class f

abbrev pub lifted_entry : EntryFault → ToolFault
lifted_entry entry.Memory = faults.Memory
lifted_entry (entry.NotCalls at) = faults.BadEntry at
lifted_entry (entry.NotCompiled f) = lifted_compile f

-- A text that is a program of the class and none of the reference: the fault has its place in the program. A program
-- with too much is a fault of the reference.
abbrev pub lifted_unlike : ProgramFault → ToolFault
lifted_unlike program.Memory = faults.Memory
lifted_unlike (program.BadProgram at) = faults.UnlikeSpecification at
lifted_unlike (program.UnknownThing at) = faults.UnlikeSpecification at
lifted_unlike (program.ReferenceResult at) = faults.UnlikeSpecification at
lifted_unlike program.ProgramLimit = faults.Specification (stopped.Program program.ProgramLimit)

-- any other fault of the reference, unless memory ran out
abbrev pub lifted_reference : CompileFault → ToolFault
lifted_reference (stopped.Text f) = unless_memory (lifted_text f) (stopped.Text f)
lifted_reference (stopped.Check f) = unless_memory (lifted_check f) (stopped.Check f)
lifted_reference (stopped.Program f) = lifted_unlike f
lifted_reference (stopped.Build f) = unless_memory (lifted_build f) (stopped.Build f)

-- why a class text doesn't specify a program
abbrev pub lifted_specification : SpecificationFault → ToolFault
lifted_specification specified.Memory = faults.Memory
lifted_specification (specified.NotCompiled f) = lifted_reference f
lifted_specification specified.OtherResult = faults.UnlikeSpecification 0

-- `fault N Name`
abbrev pub plain : List ℕ → List ℕ
plain name = codes "fault " ++ (name ++ 10 ∷ [])

-- `fault N Name at P`
abbrev pub placed : List ℕ → ℕ → List ℕ
placed name at = codes "fault " ++ (name ++ (codes " at " ++ (decimal at ++ 10 ∷ [])))

-- `fault N Name at S-E`
abbrev pub spanned : List ℕ → Span → List ℕ
spanned name span =
    codes "fault " ++ (name ++ (codes " at " ++ (decimal span.start ++ (45 ∷ (decimal span.end ++ 10 ∷ [])))))

abbrev pub text_line : TextFault → List ℕ
text_line text.Memory = plain (codes "1 Memory")
text_line text.TooLong = plain (codes "2 TooLong")
text_line (text.BadByte at) = placed (codes "3 BadByte") at
text_line (text.OpenComment at) = placed (codes "4 OpenComment") at
text_line (text.BadNumber at) = placed (codes "5 BadNumber") at
text_line (text.Syntax at) = placed (codes "6 Syntax") at
text_line (text.TooDeep at) = placed (codes "7 TooDeep") at

abbrev pub rule_name : Rule → List ℕ
rule_name rules.UnknownName = codes "10 UnknownName"
rule_name rules.TwiceDeclared = codes "11 TwiceDeclared"
rule_name rules.UnknownType = codes "12 UnknownType"
rule_name (rules.WrongType m) = codes "13 WrongType"
rule_name (rules.WrongArguments c) = codes "14 WrongArguments"
rule_name rules.NotAssignable = codes "15 NotAssignable"
rule_name rules.NoLoop = codes "16 NoLoop"
rule_name rules.UnknownLabel = codes "17 UnknownLabel"
rule_name rules.MissingReturn = codes "18 MissingReturn"
rule_name rules.ReservedClass = codes "19 ReservedClass"
rule_name rules.Limit = codes "20 Limit"

abbrev pub check_line : CheckFault → List ℕ
check_line rule.Memory = plain (codes "1 Memory")
check_line (rule.Broken b) = spanned (rule_name b.rule) b.span

abbrev pub program_line : ProgramFault → List ℕ
program_line program.Memory = plain (codes "1 Memory")
program_line (program.BadProgram at) = placed (codes "21 BadProgram") at
program_line (program.UnknownThing at) = placed (codes "22 UnknownThing") at
program_line (program.ReferenceResult at) = placed (codes "23 ReferenceResult") at
program_line program.ProgramLimit = plain (codes "24 ProgramLimit")

abbrev pub build_line : BuildFault → List ℕ
build_line (build.Lower lower.Memory) = plain (codes "1 Memory")
build_line (build.Lower lower.TooManyLocals) = plain (codes "30 TooManyLocals")
build_line (build.Lower lower.TooManyCopies) = plain (codes "31 TooManyCopies")
build_line (build.Emit emit.Memory) = plain (codes "1 Memory")
build_line (build.Emit emit.CodeTooLong) = plain (codes "32 CodeTooLong")
build_line (build.Link link.Memory) = plain (codes "1 Memory")
build_line (build.Link link.CodeTooLong) = plain (codes "33 CodeTooLong")

abbrev pub compile_line : CompileFault → List ℕ
compile_line (stopped.Text f) = text_line f
compile_line (stopped.Check f) = check_line f
compile_line (stopped.Program f) = program_line f
compile_line (stopped.Build f) = build_line f

abbrev pub schedule_line : ScheduleFault → List ℕ
schedule_line schedule.Memory = plain (codes "1 Memory")
schedule_line (schedule.BadItem at) = placed (codes "40 BadItem") at
schedule_line (schedule.UnknownThread at) = placed (codes "41 UnknownThread") at
schedule_line schedule.TooManySteps = plain (codes "42 TooManySteps")

abbrev pub aim_line : AimFault → List ℕ
aim_line aim.Memory = plain (codes "1 Memory")
aim_line (aim.Schedule f) = schedule_line f
aim_line (aim.NotStarted at) = placed (codes "85 NotStarted") at
aim_line (aim.NotMet at) = placed (codes "86 NotMet") at
aim_line (aim.TooFar at) = placed (codes "87 TooFar") at

abbrev pub cells_line : LoadFault → List ℕ
cells_line load.Memory = plain (codes "1 Memory")
cells_line load.BadCells = plain (codes "35 BadCells")

abbrev pub translation_line : TranslationFault → List ℕ
translation_line translation.Memory = plain (codes "1 Memory")
translation_line translation.BadCells = plain (codes "35 BadCells")
translation_line (translation.DoesNotFit step) = placed (codes "43 DoesNotFit") step
translation_line translation.ResultTooLong = plain (codes "44 ResultTooLong")

abbrev pub live_line : LiveFault → List ℕ
live_line (live.Open opening.Memory) = plain (codes "1 Memory")
live_line (live.Open opening.BadCells) = plain (codes "35 BadCells")
live_line (live.Open opening.BadLimit) = plain (codes "51 BadLimit")
live_line live.NoThread = plain (codes "52 NoThread")
live_line live.Disagree = plain (codes "54 Disagree")

abbrev pub turns_line : TurnsFault → List ℕ
turns_line (turns.Load f) = cells_line f
turns_line (turns.Follow follow.Memory) = plain (codes "1 Memory")
turns_line (turns.Follow follow.NoThread) = plain (codes "52 NoThread")
turns_line (turns.Follow (follow.TurnsSpent place)) = placed (codes "53 TurnsSpent") place

abbrev pub batch_line : BatchFault → List ℕ
batch_line batch.Memory = plain (codes "1 Memory")
batch_line batch.BadCells = plain (codes "35 BadCells")
batch_line batch.BadCount = plain (codes "60 BadCount")

abbrev pub explore_line : ExploreFault → List ℕ
explore_line explore.Memory = plain (codes "1 Memory")
explore_line explore.BadCells = plain (codes "35 BadCells")
explore_line explore.BadStates = plain (codes "61 BadStates")
explore_line explore.SetupEndless = plain (codes "62 SetupEndless")
explore_line (explore.Setup f) = translation_line f

abbrev pub class_line : ClassFault → List ℕ
class_line class.Memory = plain (codes "1 Memory")
class_line (class.Text f) = text_line f
class_line class.NotOneClass = plain (codes "64 NotOneClass")
class_line class.NoMaking = plain (codes "65 NoMaking")
class_line class.NoCalls = plain (codes "66 NoCalls")
class_line class.BadBounds = plain (codes "67 BadBounds")
class_line class.TooManyCalls = plain (codes "68 TooManyCalls")
class_line class.TooManyPrograms = plain (codes "69 TooManyPrograms")

abbrev pub history_line : HistoryFault → List ℕ
history_line history.Memory = plain (codes "1 Memory")
history_line (history.BadHistory at) = placed (codes "77 BadHistory") at

abbrev pub order_line : OrderFault → List ℕ
order_line order.Memory = plain (codes "1 Memory")
order_line (order.BadOrder at) = placed (codes "78 BadOrder") at

abbrev pub tally_line : TallyFault → List ℕ
tally_line tally.Memory = plain (codes "1 Memory")
tally_line (tally.BadTally at) = placed (codes "84 BadTally") at
tally_line tally.CountTooGreat = plain (codes "88 CountTooGreat")
tally_line tally.OtherCount = plain (codes "89 OtherCount")

abbrev pub fault_line : ToolFault → List ℕ
fault_line faults.Memory = plain (codes "1 Memory")
fault_line (faults.Text f) = text_line f
fault_line (faults.Check f) = check_line f
fault_line (faults.Program f) = program_line f
fault_line (faults.Build f) = build_line f
fault_line faults.BadCells = plain (codes "35 BadCells")
fault_line (faults.Schedule f) = schedule_line f
fault_line (faults.Translation f) = translation_line f
fault_line (faults.Live f) = live_line f
fault_line (faults.Turns f) = turns_line f
fault_line (faults.Batch f) = batch_line f
fault_line (faults.Explore f) = explore_line f
fault_line (faults.Class f) = class_line f
fault_line faults.BadNumbers = plain (codes "70 BadNumbers")
fault_line faults.BadOptions = plain (codes "71 BadOptions")
fault_line (faults.BadEntry at) = placed (codes "72 BadEntry") at
fault_line (faults.Specification f) = compile_line f
fault_line (faults.UnlikeSpecification at) = placed (codes "73 UnlikeSpecification") at
fault_line (faults.LacksMethod span) = spanned (codes "74 LacksMethod") span
fault_line (faults.Aim f) = aim_line f
fault_line (faults.History f) = history_line f
fault_line (faults.Order f) = order_line f
fault_line (faults.Tally f) = tally_line f
fault_line faults.TooManyTrapped = plain (codes "79 TooManyTrapped")
fault_line faults.WrongParts = plain (codes "80 WrongParts")
fault_line faults.NotText = plain (codes "81 NotText")
fault_line faults.ReadFailed = plain (codes "82 ReadFailed")
fault_line faults.WriteFailed = plain (codes "83 WriteFailed")
