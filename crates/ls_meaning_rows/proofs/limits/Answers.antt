-- Why `limits` in src/lib.rt keeps its contract.

use Rattle.std.proofs.Common.{refl}
use Rattle.ls_meaning.specs.Methods.{invoke, depth_limit}
use Rattle.ls_meaning_rows.proofs.limits.Goals as goal

pub returns-clause-last_hold : goal.returns-clause-last_hold
unfolding invoke depth_limit
returns-clause-last_hold c = refl

pub returns-clause-hold_past_the_last : goal.returns-clause-hold_past_the_last
unfolding invoke depth_limit
returns-clause-hold_past_the_last c = refl

pub returns-clause-try_past_the_last : goal.returns-clause-try_past_the_last
unfolding invoke depth_limit
returns-clause-try_past_the_last c = refl

pub returns-clause-lock_of_another : goal.returns-clause-lock_of_another
unfolding invoke depth_limit
returns-clause-lock_of_another c = refl

pub returns-clause-last_hold_left : goal.returns-clause-last_hold_left
unfolding invoke depth_limit
returns-clause-last_hold_left c = refl

pub returns-clause-one_hold_left : goal.returns-clause-one_hold_left
unfolding invoke depth_limit
returns-clause-one_hold_left c = refl

pub returns-clause-negative_size : goal.returns-clause-negative_size
unfolding invoke depth_limit
returns-clause-negative_size c = refl

pub returns-clause-null_name : goal.returns-clause-null_name
unfolding invoke depth_limit
returns-clause-null_name c = refl

pub returns-clause-entry_is_done : goal.returns-clause-entry_is_done
unfolding invoke depth_limit
returns-clause-entry_is_done c = refl

pub returns-clause-trapped_is_no_end : goal.returns-clause-trapped_is_no_end
unfolding invoke depth_limit
returns-clause-trapped_is_no_end c = refl

pub returns-clause-no_thread : goal.returns-clause-no_thread
unfolding invoke depth_limit
returns-clause-no_thread c = refl

pub returns-clause-not_yet : goal.returns-clause-not_yet
unfolding invoke depth_limit
returns-clause-not_yet c = refl

pub returns-clause-empty_setup : goal.returns-clause-empty_setup
unfolding invoke depth_limit
returns-clause-empty_setup c = refl
