-- Why `check` in src/checking.rt keeps its clause `typed`.

use Rattle.std.proofs.Common.{sym, subst}
use Rattle.ls_checked.specs.Plain.{plain_file}
use Rattle.ls_types_judgement.specs.WellTyped.{IsWellTyped}
use Rattle.ls_types_elaboration.specs.ElaboratedFiles.{elaborated_file}
use Rattle.ls_types_elaboration.specs.PlacedStatements.{placed_file}
use Rattle.ls_types_files.proofs.checking.check.Goals as goal

pub returns-clause-typed : goal.returns-clause-typed
returns-clause-typed c =
    subst (λ f. IsWellTyped (plain_file f)) (sym c.new.ensures.file)
    (c.elaborates_well_typed.ensures (placed_file c.args.parsed) (elaborated_file c.in_ok-outcome.outcome)
    c.in_ok-outcome.ensures)
