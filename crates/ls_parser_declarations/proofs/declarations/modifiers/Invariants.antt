-- What the loop `context` of `modifiers` in src/declarations.rt keeps, and why the loop ends.

use Rattle.std.proofs.Common.{length, map}
use Rattle.ls_lexer.specs.Lexemes.{lexemes}
use Rattle.ls_parser_tokens.specs.Reading.{one_more, many_at}
use Rattle.ls_tree.specs.Views.{bare_modifier}
use Rattle.ls_parser_spelling.specs.Places.{spots}
use Rattle.ls_parser_spelling.specs.StatementPlaces.{ManyAt, ModifierAt}
use Rattle.ls_parser_declarations.specs.ReadingDeclarations.{modifier_at, starts_modifier}
use Rattle.ls_parser_expressions.proofs.Repeats.{InRepeat}
use Rattle.ls_parser_declarations.proofs.declarations.modifiers.Given as goal

abbrev pub invariant-loop-context : goal.invariant-loop-context
invariant-loop-context l = record {
  list : InRepeat starts_modifier (one_more modifier_at) (length (lexemes l.all.rest.now))
      (map bare_modifier l.all.tree.items) (lexemes l.all.rest.now)
      (many_at starts_modifier modifier_at (lexemes l.fn.tokens));
  places : ManyAt ModifierAt (map bare_modifier l.all.tree.items) (spots l.fn.tokens) (spots l.all.rest.now);
}

abbrev pub decreases-loop-context : goal.decreases-loop-context
decreases-loop-context l = length l.all.rest.now
