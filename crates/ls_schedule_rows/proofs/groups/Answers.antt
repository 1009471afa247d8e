-- Why `groups` in src/lib.rt keeps its contract.

use Rattle.std.proofs.Common.{refl}
use Rattle.ls_lexer.specs.Names.{is_name}
use Rattle.ls_schedule_rows.proofs.groups.Goals as goal

pub returns-clause-version_alone : goal.returns-clause-version_alone
unfolding is_name
returns-clause-version_alone c = (refl, refl, refl)

pub returns-clause-items_alone : goal.returns-clause-items_alone
unfolding is_name
returns-clause-items_alone c = (refl, refl, refl)

pub returns-clause-groups_times : goal.returns-clause-groups_times
unfolding is_name
returns-clause-groups_times c = (refl, refl, refl, refl)

pub returns-clause-groups_in_a_row : goal.returns-clause-groups_in_a_row
unfolding is_name
returns-clause-groups_in_a_row c = (refl, refl, refl)

pub returns-clause-gaps_in_groups : goal.returns-clause-gaps_in_groups
unfolding is_name
returns-clause-gaps_in_groups c = (refl, refl, refl)

pub returns-clause-eight_in_one_another : goal.returns-clause-eight_in_one_another
unfolding is_name
returns-clause-eight_in_one_another c = (refl, refl)

pub returns-clause-group_of_none : goal.returns-clause-group_of_none
unfolding is_name
returns-clause-group_of_none c = refl
