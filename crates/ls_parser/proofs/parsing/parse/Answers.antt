-- Why `parse` in src/parsing.rt keeps its clauses `found` and `placed`.

use Rattle.std.proofs.Common.{◌≡◌, map, sym, subst}
use Rattle.ls_lexer.specs.Lexemes.{lexemes}
use Rattle.ls_tree.specs.Trees.{File}
use Rattle.ls_tree.specs.Views.{file_of}
use Rattle.ls_tree.specs.FileView.{bare_file}
use Rattle.ls_parser_spelling.specs.Spells.{Spells}
use Rattle.ls_tree.specs.declared.tree.Class.{Class}
use Rattle.ls_tree.specs.PlacedStatements.{placed_class}
use Rattle.std.specs.Global.{Vec}
use Rattle.ls_parser_spelling.specs.Places.{spots}
use Rattle.ls_parser_spelling.specs.FilePlaces.{FileAt}
use Rattle.ls_parser.proofs.Files.{found_is}
use Rattle.ls_parser.proofs.parsing.parse.Goals as goal

pub returns-clause-found : goal.returns-clause-found
returns-clause-found c =
    let parts = c.in_ok-parts.parts in
    let e = c.new.ensures in
    let same : bare_file c.new.result ≡ file_of parts.header parts.imports.items parts.classes.items =
    λ i. file_of (e.0 i) (e.1 i).items (e.2 i).items in
    subst (λ (f : File). Spells f (lexemes c.args.tokens.now)) (sym same)
    (found_is (lexemes c.args.tokens.now) _ c.in_ok-parts.ensures.read)

pub returns-clause-placed : goal.returns-clause-placed
returns-clause-placed c =
    subst (λ (v : Vec Class). FileAt (record { classes = map placed_class v.items }) (spots c.args.tokens.now))
    (sym c.new.ensures.2) c.in_ok-parts.ensures.places
