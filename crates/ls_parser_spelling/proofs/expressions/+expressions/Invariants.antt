-- What the loop `e` of the cycle `expressions` in src/expressions.rt keeps, and why the cycle ends.

use Rattle.std.proofs.Common.{◌≡◌, ◌+◌, ◌*◌, ◌≤◌, ◌++◌, drop}
use Rattle.ls_parser_spelling.specs.Kinds.{lexemes_of}
use Rattle.ls_parser_spelling.specs.Spelling.{spell_others}
use Rattle.ls_tree.specs.Views.{bare, bare_target, expressions_of}
use Rattle.ls_parser_spelling.proofs.Nodes.{nodes, all_nodes, call_nodes}
use Rattle.ls_parser_spelling.proofs.expressions.+expressions.Given as goal

abbrev pub decreases-put_expression : goal.decreases-put_expression
decreases-put_expression l = 4 * nodes (bare l.e.now)

abbrev pub decreases-put_between : goal.decreases-put_between
decreases-put_between l = 4 * nodes (bare l.inner.now) + 1

abbrev pub decreases-put_call : goal.decreases-put_call
decreases-put_call l = 4 * call_nodes (bare_target l.target.now) (expressions_of l.arguments.now) + 3

abbrev pub decreases-put_made : goal.decreases-put_made
decreases-put_made l = 4 * all_nodes (expressions_of l.arguments.now) + 3

abbrev pub decreases-put_made_markable : goal.decreases-put_made_markable
decreases-put_made_markable l = 4 * all_nodes (expressions_of l.arguments.now) + 3

abbrev pub decreases-put_arguments : goal.decreases-put_arguments
decreases-put_arguments l = 4 * all_nodes (expressions_of l.arguments.now) + 2

abbrev pub decreases-put_others : goal.decreases-put_others
decreases-put_others l = 4 * all_nodes (expressions_of l.others.now) + 1

abbrev pub invariant-put_others-loop-e : goal.invariant-put_others-loop-e
invariant-put_others-loop-e l = record {
  few : all_nodes (expressions_of (drop l.e-index l.others)) ≤ all_nodes (expressions_of l.others);
  same : lexemes_of l.out.items ++ spell_others (expressions_of (drop l.e-index l.others)) ≡
      lexemes_of l.initial.out.items ++ spell_others (expressions_of l.others);
}
