-- What the loop `context` of `imports` in src/imports.rt keeps, and why the loop ends.

use Rattle.std.proofs.Common.{length, map}
use Rattle.ls_lexer.specs.Lexemes.{lexemes}
use Rattle.ls_parser_tokens.specs.Reading.{one_more, many_at}
use Rattle.ls_tree.specs.Views.{bare_import}
use Rattle.ls_parser_spelling.specs.Places.{spots}
use Rattle.ls_parser.specs.Leaves.{Leaves}
use Rattle.ls_parser.specs.ReadingClasses.{import_at, starts_import}
use Rattle.ls_parser_expressions.proofs.Repeats.{InRepeat}
use Rattle.ls_parser.proofs.imports.imports.Given as goal

abbrev pub invariant-loop-context : goal.invariant-loop-context
invariant-loop-context l = record {
  list : InRepeat starts_import (one_more import_at) (length (lexemes l.all.rest.now))
      (map bare_import l.all.tree.items) (lexemes l.all.rest.now)
      (many_at starts_import import_at (lexemes l.fn.tokens));
  leaves : Leaves (spots l.fn.tokens) (spots l.all.rest.now);
}

abbrev pub decreases-loop-context : goal.decreases-loop-context
decreases-loop-context l = length l.all.rest.now
