-- Why `faults` in src/lib.rt keeps its contract.

use Rattle.std.proofs.Common.{refl}
use Rattle.ls_lexer.specs.Names.{is_name}
use Rattle.ls_schedule_rows.proofs.faults.Goals as goal

pub returns-clause-zero_times : goal.returns-clause-zero_times
unfolding is_name
returns-clause-zero_times c = (refl, refl)

pub returns-clause-bad_counts : goal.returns-clause-bad_counts
unfolding is_name
returns-clause-bad_counts c = (refl, refl, refl, refl, refl, refl, refl, refl, refl)

pub returns-clause-bad_names : goal.returns-clause-bad_names
unfolding is_name
returns-clause-bad_names c = (refl, refl, refl, refl)

pub returns-clause-other_gaps : goal.returns-clause-other_gaps
unfolding is_name
returns-clause-other_gaps c = (refl, refl, refl, refl, refl)

pub returns-clause-unknown_names : goal.returns-clause-unknown_names
unfolding is_name
returns-clause-unknown_names c = (refl, refl, refl, refl, refl, refl)

pub returns-clause-reserved_names : goal.returns-clause-reserved_names
unfolding is_name
returns-clause-reserved_names c = (refl, refl)

pub returns-clause-first_fault : goal.returns-clause-first_fault
unfolding is_name
returns-clause-first_fault c = (refl, refl, refl)

pub returns-clause-places_of_faults : goal.returns-clause-places_of_faults
unfolding is_name
returns-clause-places_of_faults c = (refl, refl, refl)
