-- What the loops `rank` and `context` of the cycle `expressions` in src/lib.rt keep, and why the loops end.

use Rattle.std.proofs.Common.{◌≡◌, ◌+◌, ◌-◌, ◌*◌, ◌<◌, ◌≤◌, false, Some, length, map}
use Rattle.ls_lexer.specs.Lexemes.{lexemes}
use Rattle.ls_tree.specs.WellFormed.{expression_height, expressions_height}
use Rattle.ls_tree.specs.Views.{bare, expressions_of}
use Rattle.ls_tree.specs.Placed.{placed, placed_all}
use Rattle.ls_parser_spelling.specs.Places.{At, SomeAt, spots}
use Rattle.ls_parser_tokens.specs.Reading.{group_at}
use Rattle.ls_parser_expressions.specs.ReadingExpressions.{binary_at, unary_at, expression_at, post_at, has_suffix}
use Rattle.ls_parser_expressions.specs.ReadingExpressions.{suffix_at}
use Rattle.ls_parser_expressions.proofs.Repeats.{InRepeat, InGroup}
use Rattle.ls_parser_expressions.proofs.Chains.{InChain}
use Rattle.ls_parser_expressions.proofs.+expressions.Given as goal

abbrev pub decreases-expressions::binary : goal.decreases-expressions::binary
decreases-expressions::binary l = l.limit * 40 + l.wanted * 3 + 5

abbrev pub decreases-expressions::joined : goal.decreases-expressions::joined
decreases-expressions::joined l = l.limit * 40 + l.wanted * 3 + 4

abbrev pub decreases-expressions::operand : goal.decreases-expressions::operand
decreases-expressions::operand l = l.limit * 40 + l.wanted * 3 + 3

abbrev pub decreases-expressions::unary : goal.decreases-expressions::unary
decreases-expressions::unary l = l.limit * 40 + 3

abbrev pub decreases-expressions::signed : goal.decreases-expressions::signed
decreases-expressions::signed l = l.limit * 40 + 4

abbrev pub decreases-expressions::post : goal.decreases-expressions::post
decreases-expressions::post l = l.limit * 40 + 2

abbrev pub decreases-suffixes::suffix : goal.decreases-suffixes::suffix
decreases-suffixes::suffix l = l.limit * 40 + 1

abbrev pub decreases-expressions::primary : goal.decreases-expressions::primary
decreases-expressions::primary l = l.limit * 40 + 30

abbrev pub decreases-suffixes::member : goal.decreases-suffixes::member
decreases-suffixes::member l = l.limit * 40 + 29

abbrev pub decreases-suffixes::item : goal.decreases-suffixes::item
decreases-suffixes::item l = l.limit * 40 + 29

abbrev pub decreases-expressions::named : goal.decreases-expressions::named
decreases-expressions::named l = l.limit * 40 + 29

abbrev pub decreases-expressions::made : goal.decreases-expressions::made
decreases-expressions::made l = l.limit * 40 + 29

abbrev pub decreases-expressions::paren : goal.decreases-expressions::paren
decreases-expressions::paren l = l.limit * 40 + 29

abbrev pub decreases-expressions::object : goal.decreases-expressions::object
decreases-expressions::object l = l.limit * 40 + 28

abbrev pub decreases-suffixes::arguments : goal.decreases-suffixes::arguments
decreases-suffixes::arguments l = l.limit * 40 + 27

abbrev pub decreases-suffixes::index : goal.decreases-suffixes::index
decreases-suffixes::index l = l.limit * 40 + 27

abbrev pub decreases-suffixes::one_argument : goal.decreases-suffixes::one_argument
decreases-suffixes::one_argument l = l.limit * 40 + 26

abbrev pub invariant-expressions::binary-loop-rank : goal.invariant-expressions::binary-loop-rank
invariant-expressions::binary-loop-rank l = record {
  from : 0 < l.rank;
  most : l.rank ≤ l.wanted + 1;
  chain : l.rank ≤ l.wanted →
      InChain l.rank l.limit (unary_at l.limit false) (lexemes l.fn.tokens) (bare l.left.tree)
      (lexemes l.left.rest.now);
  done : l.wanted < l.rank →
      binary_at l.wanted l.limit (unary_at l.limit false) (lexemes l.fn.tokens) ≡
      Some (bare l.left.tree, lexemes l.left.rest.now);
  places : At (placed l.left.tree) (spots l.fn.tokens) (spots l.left.rest.now);
  height : l.left.height ≡ expression_height (bare l.left.tree);
  low : l.left.height ≤ l.limit;
}

abbrev pub decreases-expressions::binary-loop-rank : goal.decreases-expressions::binary-loop-rank
decreases-expressions::binary-loop-rank l = l.limit - l.left.height + (l.wanted + 1 - l.rank)

abbrev pub invariant-expressions::post-loop-context : goal.invariant-expressions::post-loop-context
invariant-expressions::post-loop-context l = record {
  chain : InRepeat has_suffix (suffix_at l.limit (expression_at (l.limit - 1)))
      (l.limit - expression_height (bare l.left.tree)) (bare l.left.tree) (lexemes l.left.rest.now)
      (post_at l.limit l.after_minus (lexemes l.fn.tokens));
  places : At (placed l.left.tree) (spots l.fn.tokens) (spots l.left.rest.now);
  height : l.left.height ≡ expression_height (bare l.left.tree);
  low : l.left.height ≤ l.limit;
}

abbrev pub decreases-expressions::post-loop-context : goal.decreases-expressions::post-loop-context
decreases-expressions::post-loop-context l = l.limit - l.left.height

abbrev pub invariant-suffixes::arguments-loop-context : goal.invariant-suffixes::arguments-loop-context
invariant-suffixes::arguments-loop-context l = record {
  group : InGroup (expression_at l.limit) (map bare l.all.tree.items) (lexemes l.all.rest.now)
      (group_at (expression_at l.limit) (lexemes l.fn.tokens));
  places : SomeAt (placed_all l.all.tree.items) (spots l.fn.tokens) (spots l.all.rest.now);
  height : l.all.height ≡ expressions_height (expressions_of l.all.tree.items);
  low : l.all.height ≤ l.limit;
}

abbrev pub decreases-suffixes::arguments-loop-context : goal.decreases-suffixes::arguments-loop-context
decreases-suffixes::arguments-loop-context l = length l.all.rest.now
