-- Why `texts` in src/lib.rt keeps its contract.

use Rattle.std.proofs.Common.{refl}
use Rattle.ls_lexer.specs.Names.{is_name}
use Rattle.ls_schedule_rows.proofs.texts.Goals as goal

pub returns-clause-one_step_each : goal.returns-clause-one_step_each
unfolding is_name
returns-clause-one_step_each c = refl

pub returns-clause-nothing_at_all : goal.returns-clause-nothing_at_all
unfolding is_name
returns-clause-nothing_at_all c = (refl, refl)

pub returns-clause-each_gap : goal.returns-clause-each_gap
unfolding is_name
returns-clause-each_gap c = (refl, refl, refl, refl, refl)

pub returns-clause-gaps_round_a_text : goal.returns-clause-gaps_round_a_text
unfolding is_name
returns-clause-gaps_round_a_text c = refl

pub returns-clause-times : goal.returns-clause-times
unfolding is_name
returns-clause-times c = (refl, refl, refl, refl)

pub returns-clause-all : goal.returns-clause-all
unfolding is_name
returns-clause-all c = (refl, refl)

pub returns-clause-all_several_times : goal.returns-clause-all_several_times
unfolding is_name
returns-clause-all_several_times c = refl

pub returns-clause-setup_is_zero : goal.returns-clause-setup_is_zero
unfolding is_name
returns-clause-setup_is_zero c = refl

pub returns-clause-all_of_none : goal.returns-clause-all_of_none
unfolding is_name
returns-clause-all_of_none c = refl
