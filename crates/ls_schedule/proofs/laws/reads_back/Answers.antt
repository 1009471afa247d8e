-- Why `reads_back` in src/laws.rt keeps its contract.

use Rattle.ls_schedule.proofs.RoundTrip as round_trip
use Rattle.ls_schedule.proofs.laws.reads_back.Goals as goal

pub returns : goal.returns
returns c = round_trip.reads_back
