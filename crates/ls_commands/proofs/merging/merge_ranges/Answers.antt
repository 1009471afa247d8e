-- Why `merge_ranges` in src/merging.rt keeps its contract.

use Rattle.std.proofs.Common.{Err, Ok, refl, string_bytes, subst, sym}
use Rattle.ls_faults.proofs.Answering.{Failed, fails}
use Rattle.ls_faults.specs.Given.{GivesText}
use Rattle.ls_faults.specs.declared.fault.ToolFault.{ToolFault}
use Rattle.ls_commands.specs.MergedRanges.{lifted_range, MergesRangesTo}
use Rattle.ls_commands.proofs.merging.merge_ranges.Goals as goal

pub returns-in-Ok : goal.returns-in-Ok
returns-in-Ok c = (Ok (string_bytes c.in-Ok.sum), c.in-Ok.ensures.sum, refl)

pub returns-in-Err : goal.returns-in-Err
returns-in-Err c =
    let May = MergesRangesTo c.args.wanted c.args.text.now in
    subst (λ (f : ToolFault). GivesText May (Failed f)) (sym c.fault_of.ensures)
    (fails May (lifted_range c.in-Err.fault) (Err c.in-Err.fault, c.in-Err.ensures.refused, refl))
