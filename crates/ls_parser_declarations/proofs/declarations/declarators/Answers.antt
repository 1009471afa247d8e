-- Why `declarators` in src/declarations.rt keeps its clauses `read` and `places`.

use Rattle.std.proofs.Common.{map}
use Rattle.ls_lexer.specs.Lexemes.{lexemes}
use Rattle.ls_tree.specs.Views.{bare_modifier, bare_type, bare_declarator}
use Rattle.ls_parser_expressions.specs.ReadingExpressions.{expression_at}
use Rattle.ls_parser_declarations.proofs.Steps.{list_found}
use Rattle.ls_parser_declarations.proofs.Places.{declaration_is}
use Rattle.ls_parser_declarations.proofs.declarations.declarators.Goals as goal

pub returns-clause-read : goal.returns-clause-read
returns-clause-read c =
    list_found (expression_at c.args.limit) (map bare_modifier c.args.modifiers.items) (bare_type c.args.type_name)
    (lexemes c.args.tokens.now)
    (bare_declarator c.in_ok-list.list.tree.0) (map bare_declarator c.in_ok-list.list.tree.1.items)
    (lexemes c.in_ok-list.list.rest.now) c.in_ok-list.ensures.read

pub returns-clause-places : goal.returns-clause-places
returns-clause-places c = declaration_is c.in_ok-list.ensures.places
