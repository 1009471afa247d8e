-- Why `read_program` in src/program.rt keeps its clauses `typed` and `kept`.

use Rattle.std.proofs.Math.Logic.{∥∥₁_elim}
use Rattle.ls_checked.specs.PlainProgram.{plain_program}
use Rattle.ls_types_checked.specs.CheckedFile.{elaborated_file}
use Rattle.ls_types_reading.proofs.program.read_program.Goals as goal

pub returns-clause-typed : goal.returns-clause-typed
returns-clause-typed c = λ f is.
    c.reads_well_typed.ensures f (elaborated_file c.args.checked.now) c.args.text.now
    (plain_program c.in_ok-program.program)
    is c.in_ok-program.ensures.read

pub returns-clause-kept : goal.returns-clause-kept
returns-clause-kept c = ∥∥₁_elim c.args.checked.now.kept squash₁ (λ k. ∣ returns-clause-typed c k.tree k.is ∣₁)
