-- Why `example` in src/laws.rt keeps its contract.

use Rattle.ls_soundness.proofs.Cases.{well_typed, well_typed_program, no_name, no_method, no_argument, no_int}
use Rattle.ls_soundness.proofs.laws.example.Goals as goal

pub returns-clause-file : goal.returns-clause-file
returns-clause-file c = well_typed

pub returns-clause-typed : goal.returns-clause-typed
returns-clause-typed c = well_typed_program

pub returns-clause-no_name : goal.returns-clause-no_name
returns-clause-no_name c = no_name

pub returns-clause-no_method : goal.returns-clause-no_method
returns-clause-no_method c = no_method

pub returns-clause-with_argument : goal.returns-clause-with_argument
returns-clause-with_argument c = no_argument

pub returns-clause-for_an_int : goal.returns-clause-for_an_int
returns-clause-for_an_int c = no_int
