-- The rows that entries are.
use Rattle.std.specs.Prelude.{map}
use Rattle.ls_batch.specs.Keys.{key_event}
use Rattle.ls_batch.specs.Tallies.{Row, row}
use Rattle.ls_batch.specs.declared.tally.Entry.{Entry}

abbrev pub entry_row : Entry → Row
entry_row e = row (map key_event e.key.events.items) e.count e.seed
