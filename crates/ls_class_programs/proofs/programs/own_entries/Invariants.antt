-- What the loop `entry` of `own_entries` in src/programs.rt keeps.

use Rattle.std.proofs.Common.{◌≡◌, ◌++◌, drop, map, string_bytes}
use Rattle.std.specs.List.{filter}
use Rattle.ls_class_programs.specs.Written.{calls_in, is_of_setup, own_entries}
use Rattle.ls_class_programs.proofs.programs.own_entries.Given as goal

abbrev pub invariant-loop-entry : goal.invariant-loop-entry
invariant-loop-entry l =
    map string_bytes l.calls.items ++ map calls_in (filter is_of_setup (drop l.entry-index l.entry-items)) ≡
    own_entries l.menu
