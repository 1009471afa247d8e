-- Why `tell` in src/telling.rt keeps its contract and what `tell_known` requires.

use Rattle.std.proofs.Common.{string_bytes}
use Rattle.ls_checked.specs.Plain.{plain_file}
use Rattle.ls_checked.specs.PlainProgram.{plain_program}
use Rattle.ls_serial_orders.proofs.TellingLemmas.{known_tells}
use Rattle.ls_serial_orders.proofs.telling.tell.Goals as goal

pub tell_known-requires : goal.tell_known-requires
tell_known-requires c = c.in_ok-known.ensures.known

pub returns : goal.returns
returns c =
    known_tells (plain_file c.args.file.now) (plain_program c.args.program.now) c.in_ok-known.known c.args.history.now
    (string_bytes c.in_ok-text.text) c.in_ok-known.ensures c.in_ok-text.ensures
