-- What the loop `context` of `package_parts` in src/imports.rt keeps, and why the loop ends.

use Rattle.std.proofs.Common.{length, map}
use Rattle.ls_lexer.specs.Lexemes.{lexemes}
use Rattle.ls_lexer.specs.declared.sign.Sign.TheVariants as signs
use Rattle.ls_parser_tokens.specs.Reading.{one_more, many_at, not_yet}
use Rattle.ls_tree.specs.Views.{name_text}
use Rattle.ls_parser_spelling.specs.Places.{spots}
use Rattle.ls_parser.specs.Leaves.{Leaves}
use Rattle.ls_parser.specs.ReadingClasses.{part_at}
use Rattle.ls_parser_expressions.proofs.Repeats.{InRepeat}
use Rattle.ls_parser.proofs.imports.package_parts.Given as goal

abbrev pub invariant-loop-context : goal.invariant-loop-context
invariant-loop-context l = record {
  list : InRepeat (not_yet signs.Semicolon) (one_more part_at) (length (lexemes l.all.rest.now))
      (map name_text l.all.tree.items) (lexemes l.all.rest.now)
      (many_at (not_yet signs.Semicolon) part_at (lexemes l.fn.tokens));
  leaves : Leaves (spots l.fn.tokens) (spots l.all.rest.now);
}

abbrev pub decreases-loop-context : goal.decreases-loop-context
decreases-loop-context l = length l.all.rest.now
