-- What the loop `context` of the cycle `statements` in src/statements.rt keeps, and why the loop ends.

use Rattle.std.proofs.Common.{◌≡◌, ◌+◌, ◌*◌, ◌≤◌, length, map}
use Rattle.ls_lexer.specs.Lexemes.{lexemes}
use Rattle.ls_lexer.specs.declared.sign.Sign.TheVariants as signs
use Rattle.ls_tree.specs.WellFormed.{items_height}
use Rattle.ls_tree.specs.Views.{bare_piece, items_of}
use Rattle.ls_tree.specs.PlacedStatements.{placed_items}
use Rattle.ls_parser_spelling.specs.Places.{spots}
use Rattle.ls_parser_spelling.specs.StatementPlaces.{ItemsAt}
use Rattle.ls_parser_tokens.specs.Reading.{one_more, many_at, not_yet}
use Rattle.ls_parser_statements.specs.ReadingStatements.{piece_at, local_at, statement_at}
use Rattle.ls_parser_expressions.proofs.Repeats.{InRepeat}
use Rattle.ls_parser_statements.proofs.statements.+statements.Given as goal

abbrev pub decreases-statement : goal.decreases-statement
decreases-statement l = l.limit * 20 + 12

abbrev pub decreases-begun : goal.decreases-begun
decreases-begun l = l.limit * 20 + 30

abbrev pub decreases-block_statement : goal.decreases-block_statement
decreases-block_statement l = l.limit * 20 + 8

abbrev pub decreases-block : goal.decreases-block
decreases-block l = l.limit * 20 + 6

abbrev pub decreases-block_items : goal.decreases-block_items
decreases-block_items l = l.limit * 20 + 18

abbrev pub decreases-one_item : goal.decreases-one_item
decreases-one_item l = l.limit * 20 + 16

abbrev pub decreases-block_item : goal.decreases-block_item
decreases-block_item l = l.limit * 20 + 14

abbrev pub decreases-boxed_statement : goal.decreases-boxed_statement
decreases-boxed_statement l = l.limit * 20 + 13

abbrev pub decreases-if_statement : goal.decreases-if_statement
decreases-if_statement l = l.limit * 20 + 14

abbrev pub decreases-while_statement : goal.decreases-while_statement
decreases-while_statement l = l.limit * 20 + 14

abbrev pub decreases-for_statement : goal.decreases-for_statement
decreases-for_statement l = l.limit * 20 + 14

abbrev pub decreases-labelled_loop : goal.decreases-labelled_loop
decreases-labelled_loop l = l.limit * 20 + 15

abbrev pub decreases-try_statement : goal.decreases-try_statement
decreases-try_statement l = l.limit * 20 + 14

abbrev pub decreases-synchronized_statement : goal.decreases-synchronized_statement
decreases-synchronized_statement l = l.limit * 20 + 14

abbrev pub decreases-other_statement : goal.decreases-other_statement
decreases-other_statement l = l.limit * 20 + 16

abbrev pub invariant-block_items-loop-context : goal.invariant-block_items-loop-context
invariant-block_items-loop-context l = record {
  list : InRepeat (not_yet signs.CloseBrace) (one_more (piece_at (local_at l.limit) (statement_at l.limit)))
      (length (lexemes l.all.rest.now)) (map bare_piece l.all.tree.items) (lexemes l.all.rest.now)
      (many_at (not_yet signs.CloseBrace) (piece_at (local_at l.limit) (statement_at l.limit)) (lexemes l.fn.tokens));
  places : ItemsAt (placed_items l.all.tree.items) (spots l.fn.tokens) (spots l.all.rest.now);
  height : l.all.height ≡ items_height (items_of l.all.tree.items);
  low : l.all.height ≤ l.limit;
}

abbrev pub decreases-block_items-loop-context : goal.decreases-block_items-loop-context
decreases-block_items-loop-context l = length l.all.rest.now
