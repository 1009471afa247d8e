-- Why `files` in src/lib.rt keeps its contract.

use Rattle.std.proofs.Common.{refl}
use Rattle.ls_types_rows.proofs.files.Goals as goal

pub returns-clause-reserved_classes : goal.returns-clause-reserved_classes
returns-clause-reserved_classes c = (refl, refl, refl, refl)

pub returns-clause-members_of_one_name : goal.returns-clause-members_of_one_name
returns-clause-members_of_one_name c = (refl, refl, refl, refl, refl, refl, refl)

pub returns-clause-one_name_for_several : goal.returns-clause-one_name_for_several
returns-clause-one_name_for_several c = (refl, refl, refl, refl)

pub returns-clause-other_constructors : goal.returns-clause-other_constructors
returns-clause-other_constructors c = (refl, refl)

pub returns-clause-types : goal.returns-clause-types
returns-clause-types c = (refl, refl, refl, refl, refl)

pub returns-clause-numbers : goal.returns-clause-numbers
returns-clause-numbers c = refl

pub returns-clause-parameters : goal.returns-clause-parameters
returns-clause-parameters c = refl

pub returns-clause-initialisers : goal.returns-clause-initialisers
returns-clause-initialisers c = (refl, refl, refl, refl)

pub returns-clause-missing_returns : goal.returns-clause-missing_returns
returns-clause-missing_returns c = (refl, refl, refl, refl, refl, refl, refl)

pub returns-clause-enough_returns : goal.returns-clause-enough_returns
returns-clause-enough_returns c = (refl, refl, refl, refl, refl, refl, refl)

pub returns-clause-most_of_all : goal.returns-clause-most_of_all
returns-clause-most_of_all c = (refl, refl, refl, refl, refl, refl)
