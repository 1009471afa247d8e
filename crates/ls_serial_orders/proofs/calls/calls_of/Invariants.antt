-- What the loop `event` of `calls_of` in src/calls.rt keeps.

use Rattle.std.proofs.Common.{◌≡◌, ◌++◌, drop}
use Rattle.std.specs.Prelude.{map, string_bytes}
use Rattle.std.specs.List.{filter_map}
use Rattle.ls_checked.specs.PlainProgram.{plain_program}
use Rattle.ls_serial_orders.specs.Calls.{call_of}
use Rattle.ls_serial_orders.proofs.calls.calls_of.Given as goal

-- the calls so far, and those that are left
abbrev pub invariant-loop-event : goal.invariant-loop-event
invariant-loop-event l =
    map string_bytes l.calls.items ++ filter_map (call_of (plain_program l.program)) (drop l.event-index l.history) ≡
    filter_map (call_of (plain_program l.program)) l.history
