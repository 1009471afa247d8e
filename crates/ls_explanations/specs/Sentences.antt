-- What is wrong at a fault, and what to write in its place, in a sentence or two. If the fault's name says it,
-- nothing.
use Rattle.std.specs.Prelude.{ℕ, [], codes}
use Rattle.ls_lexer.specs.declared.fault.TextFault.{TextFault}
use Rattle.ls_lexer.specs.declared.fault.TextFault.TheVariants as text
use Rattle.ls_types_elaboration.specs.declared.rule.CheckFault.{CheckFault}
use Rattle.ls_types_elaboration.specs.declared.rule.CheckFault.TheVariants as check
use Rattle.ls_types_elaboration.specs.declared.rule.Rule.{Rule}
use Rattle.ls_types_elaboration.specs.declared.rule.Rule.TheVariants as rules
use Rattle.ls_types_checked.specs.declared.fault.ProgramFault.{ProgramFault}
use Rattle.ls_types_checked.specs.declared.fault.ProgramFault.TheVariants as program
use Rattle.ls_schedule.specs.declared.fault.ScheduleFault.{ScheduleFault}
use Rattle.ls_schedule.specs.declared.fault.ScheduleFault.TheVariants as schedule
use Rattle.ls_aim.specs.declared.fault.AimFault.{AimFault}
use Rattle.ls_aim.specs.declared.fault.AimFault.TheVariants as aim
use Rattle.ls_report.specs.declared.fault.HistoryFault.TheVariants as history
use Rattle.ls_orders.specs.declared.fault.OrderFault.TheVariants as order
use Rattle.ls_tallies.specs.declared.fault.TallyFault.TheVariants as tally
use Rattle.ls_faults.specs.declared.fault.ToolFault.{ToolFault}
use Rattle.ls_faults.specs.declared.fault.ToolFault.TheVariants as faults
use Rattle.ls_explanations.specs.Limits.{limit_sentence}
use Rattle.ls_explanations.specs.Tokens.{Bytes, byte_at}
use Rattle.ls_explanations.specs.Lessons.{byte_lesson, call_lesson, name_lesson, syntax_lesson, type_lesson}

-- by the class text
abbrev pub text_sentence : TextFault → Bytes → Bytes
text_sentence text.Memory classes = []
text_sentence text.TooLong classes = codes "the class text is too long: it has at most 262,144 bytes\n"
text_sentence (text.BadByte at) classes = byte_lesson (byte_at classes at) at
text_sentence (text.OpenComment at) classes = codes "this comment isn't closed: write `*/` at its end\n"
text_sentence (text.BadNumber at) classes =
    codes "a number has only decimal digits, no 0 in front, and is at most 2147483647\n"
text_sentence (text.Syntax at) classes = syntax_lesson classes at
text_sentence (text.TooDeep at) classes =
    codes "this is nested too deeply: make a part of it a method or a statement of its own\n"

abbrev pub rule_sentence : Rule → Bytes → ℕ → Bytes
rule_sentence rules.UnknownName classes at = name_lesson classes at
rule_sentence rules.TwiceDeclared classes at =
    codes "this name is declared twice: use another. A class has one method of a name, and one constructor\n"
rule_sentence rules.UnknownType classes at = type_lesson classes at
rule_sentence (rules.WrongType m) classes at = codes "mismatched types: "
rule_sentence (rules.WrongArguments c) classes at = call_lesson classes at
rule_sentence rules.NotAssignable classes at =
    codes "this can't be assigned: only a local, a field or an element can\n"
rule_sentence rules.NoLoop classes at = codes "`break` and `continue` are only allowed in a loop\n"
rule_sentence rules.UnknownLabel classes at = codes "cannot find this label: no loop around this has it\n"
rule_sentence rules.MissingReturn classes at =
    codes "missing `return`: this method can end without a value. Only `while (true)` is known to go on\n"
rule_sentence rules.ReservedClass classes at = codes "a class of the library has this name: use another\n"
rule_sentence rules.Limit classes at =
    codes "too many classes, fields, methods or locals: docs/LANGUAGE.md has the limits\n"

abbrev pub check_sentence : CheckFault → Bytes → Bytes
check_sentence check.Memory classes = []
check_sentence (check.Broken b) classes = rule_sentence b.rule classes b.span.start

abbrev pub program_sentence : ProgramFault → Bytes
program_sentence program.Memory = []
program_sentence program.ProgramLimit = codes
    "too many: a program has at most 262,144 bytes, 64 threads, and 256 calls of each and of the setup\n"
program_sentence (program.BadProgram at) = []
program_sentence (program.UnknownThing at) = []
program_sentence (program.ReferenceResult at) =
    codes "this method returns a reference: call one that returns an `int`, a `boolean` or nothing\n"

abbrev pub schedule_sentence : ScheduleFault → Bytes
schedule_sentence schedule.Memory = []
schedule_sentence schedule.TooManySteps = codes "too many steps: a schedule has at most 1,000,000\n"
schedule_sentence (schedule.BadItem at) = codes
    "expected a name, or a name with `*` and a count from 1, as `A*5`; after `@2` a group, as `(A*2 B)*3`\n"
schedule_sentence (schedule.UnknownThread at) =
    codes "cannot find a thread of this name in the program: use a thread's name, `setup` or `all`\n"

abbrev pub aim_sentence : AimFault → Bytes
aim_sentence aim.Memory = []
aim_sentence (aim.Schedule f) = schedule_sentence f
aim_sentence (aim.NotStarted at) = codes
    "this thread hasn't started: let the setup end first, as `setup!` does\n"
aim_sentence (aim.NotMet at) =
    codes "this thread ends or waits before a step with this text: `trace` shows the text of each step\n"
aim_sentence (aim.TooFar at) = codes "this thread doesn't come to it before the schedule has 1,000,000 steps\n"

-- The class text is the first part, if there is one. Types, numbers of arguments and what a program names come after
-- this: `details`.
abbrev pub sentence : ToolFault → Bytes → Bytes
sentence (faults.Text f) classes = text_sentence f classes
sentence (faults.Check f) classes = check_sentence f classes
sentence (faults.Program f) classes = program_sentence f
sentence (faults.Schedule f) classes = schedule_sentence f
sentence (faults.Aim f) classes = aim_sentence f
sentence (faults.History (history.BadHistory at)) classes =
    codes "a history can't go on like this: a thread's calls are numbered 1, 2, .., and a return follows its call\n"
sentence (faults.Order (order.BadOrder at)) classes = codes "expected a call, as `A.1`\n"
sentence (faults.Tally (tally.BadTally at)) classes = codes
    "expected a line as `seed 7 count 3`, then a history, then an empty line\n"
sentence faults.BadOptions classes = codes "these options don't go together, or not with so many parts\n"
sentence (faults.BadEntry at) classes =
    codes "expected calls of the class without the object, as `lock(#); inc(); unlock(#)`: `#` is the thread's number\n"
sentence (faults.UnlikeSpecification at) classes =
    codes "the reference has no such call, or it answers another type there: name a class text with the same methods\n"
sentence (faults.LacksMethod span) classes =
    codes "the class lacks this method of the reference, or takes or answers other types there\n"
sentence f classes = limit_sentence f
