-- What the loop `place` of `push_all_ends` in src/states.rt keeps.

use Rattle.std.proofs.Common.{◌≡◌, ◌++◌, drop, string_bytes}
use Rattle.ls_labels.specs.Names.{names_of}
use Rattle.ls_state.specs.Parts.{numbered}
use Rattle.ls_choices.specs.Seen.{graph_of}
use Rattle.ls_page.specs.Lists.{element}
use Rattle.ls_page.specs.States.{end_text}
use Rattle.ls_page.proofs.states.push_all_ends.Given as goal

abbrev pub invariant-loop-place : goal.invariant-loop-place
invariant-loop-place l =
    string_bytes l.out ++ numbered (element (end_text (names_of l.fn.names) (graph_of l.choices))) l.place
    (drop l.place l.ends)
    ≡ string_bytes l.fn.out ++ numbered (element (end_text (names_of l.fn.names) (graph_of l.choices))) 0 l.ends
