-- What the loop `context` of `parameter_group` in src/class_trees.rt keeps, and why the loop ends.

use Rattle.std.proofs.Common.{length, map}
use Rattle.ls_lexer.specs.Lexemes.{lexemes}
use Rattle.ls_tree.specs.Views.{bare_parameter}
use Rattle.ls_parser_tokens.specs.Reading.{group_at}
use Rattle.ls_tree.specs.PlacedStatements.{placed_parameter}
use Rattle.ls_parser_spelling.specs.Places.{spots}
use Rattle.ls_parser_spelling.specs.FilePlaces.{SomeParametersAt}
use Rattle.ls_parser.specs.ReadingClasses.{parameter_at}
use Rattle.ls_parser_expressions.proofs.Repeats.{InGroup}
use Rattle.ls_parser.proofs.class_trees.parameter_group.Given as goal

abbrev pub invariant-loop-context : goal.invariant-loop-context
invariant-loop-context l = record {
  group : InGroup parameter_at (map bare_parameter l.all.tree.items) (lexemes l.all.rest.now)
      (group_at parameter_at (lexemes l.fn.tokens));
  places : SomeParametersAt (map placed_parameter l.all.tree.items) (spots l.fn.tokens) (spots l.all.rest.now);
}

abbrev pub decreases-loop-context : goal.decreases-loop-context
decreases-loop-context l = length l.all.rest.now
