-- The rows that the code's rows are.
use Rattle.ls_tallies.specs.Tallies as tallies
use Rattle.ls_tallies.specs.declared.row.Row.{Row}

abbrev pub plain_row : Row → tallies.Row
plain_row r = record { history = r.history.now; count = r.count; seed = r.seed }
