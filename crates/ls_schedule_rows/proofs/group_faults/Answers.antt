-- Why `group_faults` in src/lib.rt keeps its contract.

use Rattle.std.proofs.Common.{refl}
use Rattle.ls_lexer.specs.Names.{is_name}
use Rattle.ls_schedule_rows.proofs.group_faults.Goals as goal

pub returns-clause-groups_of_version_one : goal.returns-clause-groups_of_version_one
unfolding is_name
returns-clause-groups_of_version_one c = (refl, refl, refl)

pub returns-clause-other_versions : goal.returns-clause-other_versions
unfolding is_name
returns-clause-other_versions c = (refl, refl, refl, refl, refl, refl)

pub returns-clause-not_closed : goal.returns-clause-not_closed
unfolding is_name
returns-clause-not_closed c = (refl, refl, refl, refl, refl, refl, refl, refl)

pub returns-clause-empty_groups : goal.returns-clause-empty_groups
unfolding is_name
returns-clause-empty_groups c = (refl, refl, refl)

pub returns-clause-bad_group_counts : goal.returns-clause-bad_group_counts
unfolding is_name
returns-clause-bad_group_counts c = (refl, refl, refl, refl, refl, refl, refl)

pub returns-clause-without_gaps : goal.returns-clause-without_gaps
unfolding is_name
returns-clause-without_gaps c = (refl, refl, refl, refl, refl, refl)

pub returns-clause-nine_in_one_another : goal.returns-clause-nine_in_one_another
unfolding is_name
returns-clause-nine_in_one_another c = (refl, refl, refl, refl)

pub returns-clause-first_of_groups : goal.returns-clause-first_of_groups
unfolding is_name
returns-clause-first_of_groups c = (refl, refl, refl, refl, refl, refl, refl, refl)
