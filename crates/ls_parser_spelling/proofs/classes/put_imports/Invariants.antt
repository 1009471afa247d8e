-- What the loop `line` of `put_imports` in src/classes.rt keeps.

use Rattle.std.proofs.Common.{◌≡◌, ◌++◌, drop, map}
use Rattle.std.specs.List.{flat_map}
use Rattle.ls_parser_spelling.specs.Kinds.{lexemes_of}
use Rattle.ls_parser_spelling.specs.Spelling.{spell_import}
use Rattle.ls_tree.specs.Views.{bare_import}
use Rattle.ls_parser_spelling.proofs.classes.put_imports.Given as goal

abbrev pub invariant-loop-line : goal.invariant-loop-line
invariant-loop-line l = lexemes_of l.out.items ++ flat_map spell_import (map bare_import (drop l.line-index l.imports))
    ≡ lexemes_of l.initial.out.items ++ flat_map spell_import (map bare_import l.imports)
