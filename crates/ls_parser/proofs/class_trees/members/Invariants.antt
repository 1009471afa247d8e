-- What the loop `context` of `members` in src/class_trees.rt keeps, and why the loop ends.

use Rattle.std.proofs.Common.{length, map}
use Rattle.ls_lexer.specs.Lexemes.{lexemes}
use Rattle.ls_lexer.specs.declared.sign.Sign.TheVariants as signs
use Rattle.ls_parser_tokens.specs.Reading.{one_more, many_at, not_yet}
use Rattle.ls_tree.specs.Views.{bare_member}
use Rattle.ls_tree.specs.PlacedStatements.{placed_member}
use Rattle.ls_parser_spelling.specs.Places.{spots}
use Rattle.ls_parser_spelling.specs.StatementPlaces.{ManyAt}
use Rattle.ls_parser_spelling.specs.FilePlaces.{MemberAt}
use Rattle.ls_parser.specs.ReadingClasses.{member_at}
use Rattle.ls_parser_expressions.proofs.Repeats.{InRepeat}
use Rattle.ls_parser.proofs.class_trees.members.Given as goal

abbrev pub invariant-loop-context : goal.invariant-loop-context
invariant-loop-context l = record {
  list : InRepeat (not_yet signs.CloseBrace) (one_more member_at) (length (lexemes l.all.rest.now))
      (map bare_member l.all.tree.items) (lexemes l.all.rest.now)
      (many_at (not_yet signs.CloseBrace) member_at (lexemes l.fn.tokens));
  places : ManyAt MemberAt (map placed_member l.all.tree.items) (spots l.fn.tokens) (spots l.all.rest.now);
}

abbrev pub decreases-loop-context : goal.decreases-loop-context
decreases-loop-context l = length l.all.rest.now
