-- Why the cycle `expressions` in src/expressions.rt ends.

use Rattle.std.proofs.Common.{◌+◌, ◌*◌}
use Rattle.ls_lowered.specs.Plain.{plain, all_plain}
use Rattle.ls_emit.specs.Expressions.{size, all_size}
use Rattle.ls_emit.proofs.expressions.+expressions.Given as goal

abbrev pub decreases-emit_expression : goal.decreases-emit_expression
decreases-emit_expression l = 3 * size (plain l.e.now)

abbrev pub decreases-emit_all : goal.decreases-emit_all
decreases-emit_all l = 3 * all_size (all_plain l.es.now) + 1

abbrev pub decreases-emit_call : goal.decreases-emit_call
decreases-emit_call l = 3 * (size (plain l.target.now) + all_size (all_plain l.arguments.now)) + 2

abbrev pub decreases-emit_on : goal.decreases-emit_on
decreases-emit_on l = 3 * size (plain l.e.now) + 1

abbrev pub decreases-emit_on_two : goal.decreases-emit_on_two
decreases-emit_on_two l = 3 * (size (plain l.a.now) + size (plain l.b.now)) + 1

abbrev pub decreases-emit_on_three : goal.decreases-emit_on_three
decreases-emit_on_three l = 3 * (size (plain l.e.now) + size (plain l.a.now) + size (plain l.b.now)) + 1

abbrev pub decreases-emit_around : goal.decreases-emit_around
decreases-emit_around l = 3 * (size (plain l.a.now) + size (plain l.b.now)) + 1

abbrev pub decreases-emit_and : goal.decreases-emit_and
decreases-emit_and l = 3 * (size (plain l.a.now) + size (plain l.b.now)) + 1

abbrev pub decreases-emit_or : goal.decreases-emit_or
decreases-emit_or l = 3 * (size (plain l.a.now) + size (plain l.b.now)) + 1
