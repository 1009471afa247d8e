-- What the loop `s` of the cycle `completion` in src/completion.rt keeps.

use Rattle.std.proofs.Common.{◌≡◌, ◌&&◌, ◌++◌, drop, map}
use Rattle.ls_checked.specs.Plain.{plain_statement}
use Rattle.ls_types_elaboration.specs.TypedStatements.{sequence}
use Rattle.ls_types_files.specs.Left.{all_left}
use Rattle.ls_types_judgement.specs.Completion.{all_complete}
use Rattle.ls_types_files.proofs.completion.+completion.Given as goal

abbrev pub invariant-all_ways-loop-s : goal.invariant-all_ways-loop-s
invariant-all_ways-loop-s l =
    ((l.all && all_complete (sequence (map plain_statement (drop l.s-index l.ss)))) ≡ all_complete
    (sequence (map plain_statement l.ss)))
    × (l.left.items ++ all_left (sequence (map plain_statement (drop l.s-index l.ss))) ≡ l.initial.left.items ++
    all_left (sequence (map plain_statement l.ss)))
