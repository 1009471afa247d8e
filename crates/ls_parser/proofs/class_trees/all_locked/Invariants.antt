-- What the loop `context` of `all_locked` in src/class_trees.rt keeps, and why the loop ends.

use Rattle.std.proofs.Common.{length, map}
use Rattle.ls_lexer.specs.Lexemes.{lexemes}
use Rattle.ls_parser_tokens.specs.Reading.{one_more, many_at}
use Rattle.ls_tree.specs.Views.{bare_modifiers}
use Rattle.ls_parser_spelling.specs.Places.{spots}
use Rattle.ls_parser_spelling.specs.StatementPlaces.{ManyAt}
use Rattle.ls_parser_spelling.specs.FilePlaces.{LockedAt}
use Rattle.ls_parser.specs.ReadingClasses.{locked_at, starts_locked}
use Rattle.ls_parser_expressions.proofs.Repeats.{InRepeat}
use Rattle.ls_parser.proofs.class_trees.all_locked.Given as goal

abbrev pub invariant-loop-context : goal.invariant-loop-context
invariant-loop-context l = record {
  list : InRepeat starts_locked (one_more locked_at) (length (lexemes l.all.rest.now))
      (map bare_modifiers l.all.tree.items) (lexemes l.all.rest.now)
      (many_at starts_locked locked_at (lexemes l.fn.tokens));
  places : ManyAt LockedAt (map bare_modifiers l.all.tree.items) (spots l.fn.tokens) (spots l.all.rest.now);
}

abbrev pub decreases-loop-context : goal.decreases-loop-context
decreases-loop-context l = length l.all.rest.now
