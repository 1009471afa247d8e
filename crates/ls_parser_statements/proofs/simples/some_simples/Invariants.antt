-- What the loop `context` of `some_simples` in src/simples.rt keeps, and why the loop ends.

use Rattle.std.proofs.Common.{◌≡◌, ◌≤◌, length, map}
use Rattle.ls_lexer.specs.Lexemes.{lexemes}
use Rattle.ls_lexer.specs.declared.sign.Sign.TheVariants as signs
use Rattle.ls_tree.specs.WellFormed.{simples_height}
use Rattle.ls_tree.specs.Views.{bare_simple}
use Rattle.ls_tree.specs.PlacedStatements.{placed_simple}
use Rattle.ls_parser_spelling.specs.Places.{spots}
use Rattle.ls_parser_spelling.specs.StatementPlaces.{SomeSimplesAt}
use Rattle.ls_parser_tokens.specs.Reading.{starts, one_more, behind_comma}
use Rattle.ls_parser_statements.specs.ReadingStatements.{simple_at, simples_at}
use Rattle.ls_parser_expressions.proofs.Repeats.{InRepeat}
use Rattle.ls_parser_statements.proofs.simples.some_simples.Given as goal

abbrev pub invariant-loop-context : goal.invariant-loop-context
invariant-loop-context l = record {
  list : InRepeat (starts signs.Comma) (one_more (behind_comma (simple_at l.limit))) (length (lexemes l.all.rest.now))
      (map bare_simple l.all.tree.items) (lexemes l.all.rest.now)
      (simples_at (simple_at l.limit) (lexemes l.fn.tokens));
  places : SomeSimplesAt (map placed_simple l.all.tree.items) (spots l.fn.tokens) (spots l.all.rest.now);
  height : l.all.height ≡ simples_height (map bare_simple l.all.tree.items);
  low : l.all.height ≤ l.limit;
}

abbrev pub decreases-loop-context : goal.decreases-loop-context
decreases-loop-context l = length l.all.rest.now
