-- What the loop `context` of `more_declarators` in src/declarations.rt keeps, and why the loop ends.

use Rattle.std.proofs.Common.{◌≡◌, ◌≤◌, length, map}
use Rattle.ls_lexer.specs.Lexemes.{lexemes}
use Rattle.ls_lexer.specs.declared.sign.Sign.TheVariants as signs
use Rattle.ls_parser_tokens.specs.Reading.{one_more, many_at, not_yet, behind_comma}
use Rattle.ls_tree.specs.Views.{bare_declarator}
use Rattle.ls_tree.specs.PlacedStatements.{placed_declarator}
use Rattle.ls_parser_spelling.specs.Places.{spots}
use Rattle.ls_parser_spelling.specs.StatementPlaces.{ManyAt, BehindComma, DeclaratorAt}
use Rattle.ls_parser_declarations.specs.ReadingDeclarations.{declarator_at}
use Rattle.ls_parser_expressions.specs.ReadingExpressions.{expression_at}
use Rattle.ls_tree.specs.WellFormed.{declarators_height}
use Rattle.ls_parser_expressions.proofs.Repeats.{InRepeat}
use Rattle.ls_parser_declarations.proofs.declarations.more_declarators.Given as goal

abbrev pub invariant-loop-context : goal.invariant-loop-context
invariant-loop-context l = record {
  list : InRepeat (not_yet signs.Semicolon) (one_more (behind_comma (declarator_at (expression_at l.limit))))
      (length (lexemes l.all.rest.now)) (map bare_declarator l.all.tree.items) (lexemes l.all.rest.now)
      (many_at (not_yet signs.Semicolon) (behind_comma (declarator_at (expression_at l.limit))) (lexemes l.fn.tokens));
  places : ManyAt (BehindComma DeclaratorAt) (map placed_declarator l.all.tree.items) (spots l.fn.tokens)
      (spots l.all.rest.now);
  height : l.all.height ≡ declarators_height (map bare_declarator l.all.tree.items);
  low : l.all.height ≤ l.limit;
}

abbrev pub decreases-loop-context : goal.decreases-loop-context
decreases-loop-context l = length l.all.rest.now
