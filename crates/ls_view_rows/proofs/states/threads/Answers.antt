-- Why `threads` in src/states.rt keeps its contract.

use Rattle.std.proofs.Common.{refl}
use Rattle.std.specs.Fmt.{digits}
use Rattle.ls_meaning.specs.Methods.{invoke, depth_limit}
use Rattle.ls_view_rows.proofs.states.threads.Goals as goal

pub returns-clause-at_first : goal.returns-clause-at_first
unfolding digits invoke depth_limit
returns-clause-at_first c = refl

pub returns-clause-waiting : goal.returns-clause-waiting
unfolding digits invoke depth_limit
returns-clause-waiting c = refl

pub returns-clause-reading : goal.returns-clause-reading
unfolding digits invoke depth_limit
returns-clause-reading c = refl

pub returns-clause-over : goal.returns-clause-over
unfolding digits invoke depth_limit
returns-clause-over c = refl

pub returns-clause-never_starts : goal.returns-clause-never_starts
unfolding digits invoke depth_limit
returns-clause-never_starts c = refl

pub returns-clause-before_a_call : goal.returns-clause-before_a_call
unfolding digits invoke depth_limit
returns-clause-before_a_call c = refl

pub returns-clause-left : goal.returns-clause-left
unfolding digits invoke depth_limit
returns-clause-left c = refl
