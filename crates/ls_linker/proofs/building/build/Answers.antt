-- Why `build` in src/building.rt keeps its contract and what it calls with.

use Rattle.ls_code.specs.Limits.{most_instructions}
use Rattle.std.proofs.Common.{◌≤◌, length, sym, subst, ap, ◌∙◌, Err}
use Rattle.std.proofs.Math.Logic.{∥∥₁_elim}
use Rattle.std.proofs.Props.{props}
use Rattle.ls_checked.specs.Plain.{plain_file}
use Rattle.ls_checked.specs.PlainProgram.{plain_program}
use Rattle.ls_lowered.specs.Plain as lowered
use Rattle.ls_code.specs.Code.{Code}
use Rattle.ls_refs.specs.Refused.{AllSlotted}
use Rattle.ls_refs.proofs.Jumps.{loops_once}
use Rattle.ls_types_judgement.specs.WellTyped.{IsWellTyped, IsWellTypedProgram}
use Rattle.ls_linker.specs.Runs.{Runs}
use Rattle.ls_linker.specs.Limits.{GoesPast}
use Rattle.ls_linker.specs.Counted.{of_counts}
use Rattle.ls_linker.specs.declared.fault.BuildFault.TheVariants.{Lower, Link}
use Rattle.std.proofs.lemmas.Result.{err_from_is_err_and}
use Rattle.ls_linker.proofs.Refusals.{finally_past, counts_past, link_past}
use Rattle.ls_linker.proofs.Built.{both, placed_here, emittable_here, code_here, short_here, links_here}
use Rattle.ls_linker.proofs.building.build.Goals as goal

-- the goals are of the file and the program that the source lends, its facts of those that it is of
pub lower_refs-requires-clause-slots : goal.lower_refs-requires-clause-slots
lower_refs-requires-clause-slots c =
    let file = plain_file c.file-file.result.now in
    let here = sym c.file-file.ensures in
    let slotted : IsProp (AllSlotted file.methods) = hlevel props in
    ∥∥₁_elim c.source_is_well_typed.ensures.file slotted (λ well.
    c.has_slots.ensures file (subst IsWellTyped here well).typed)

pub lower_refs-requires-clause-loops : goal.lower_refs-requires-clause-loops
lower_refs-requires-clause-loops c =
    let file = plain_file c.file-file.result.now in
    let here = sym c.file-file.ensures in
    ∥∥₁_elim c.source_is_well_typed.ensures.file (loops_once file) (λ well. (subst IsWellTyped here well).loops)

pub lower_finally-requires : goal.lower_finally-requires
lower_finally-requires c =
    let file = plain_file c.file-file.result.now in
    let well = subst (λ f. ∥ IsWellTyped f ∥₁) (sym c.file-file.ensures) c.source_is_well_typed.ensures.file in
    placed_here file (lowered.plain_file c.in_ok-refs.refs) c.in_ok-refs.ensures.tree
    (c.typed_is_placed.ensures file well)

pub emit-requires : goal.emit-requires
emit-requires c =
    let file = plain_file c.file-file.result.now in
    let well = subst (λ f. ∥ IsWellTyped f ∥₁) (sym c.file-file.ensures) c.source_is_well_typed.ensures.file in
    emittable_here file (plain_program c.program-program.result.now) (lowered.plain_file c.in_ok-refs.refs)
    (lowered.plain_file c.in_ok-flat.flat)
    c.in_ok-refs.ensures.tree c.in_ok-flat.ensures.tree (c.ranged_is_emittable.ensures file well
    c.in_ok-refs.ensures.fits)

pub link-requires : goal.link-requires
link-requires c =
    let file = plain_file c.file-file.result.now in
    let program = plain_program c.program-program.result.now in
    let refs = lowered.plain_file c.in_ok-refs.refs in
    let flat = lowered.plain_file c.in_ok-flat.flat in
    let r = c.in_ok-refs.ensures.tree in
    let f = c.in_ok-flat.ensures.tree in
    let well = subst (λ f. ∥ IsWellTyped f ∥₁) (sym c.file-file.ensures) c.source_is_well_typed.ensures.file in
    let reads = both (λ f p. ∥ IsWellTypedProgram f p ∥₁) (sym c.file-file.ensures)
    (sym (ap plain_program c.program-program.ensures)) c.source_is_well_typed.ensures.program in
    links_here file program refs flat r f c.deref.result.now (c.deref.ensures.value ∙ c.in_ok-units.ensures.units)
    (c.ranged_links.ensures file program well reads c.in_ok-refs.ensures.fits
    (short_here file program refs flat r f c.in_ok-units.ensures.short))

pub returns-clause-runs : goal.returns-clause-runs
returns-clause-runs c =
    let file = plain_file c.file-file.result.now in
    let program = plain_program c.program-program.result.now in
    let refs = lowered.plain_file c.in_ok-refs.refs in
    let flat = lowered.plain_file c.in_ok-flat.flat in
    let r = c.in_ok-refs.ensures.tree in
    let f = c.in_ok-flat.ensures.tree in
    let well = subst (λ f. ∥ IsWellTyped f ∥₁) (sym c.file-file.ensures) c.source_is_well_typed.ensures.file in
    let reads = both (λ f p. ∥ IsWellTypedProgram f p ∥₁) (sym c.file-file.ensures)
    (sym (ap plain_program c.program-program.ensures)) c.source_is_well_typed.ensures.program in
    let code = code_here file program refs flat r f c.deref.result.now c.in_ok-code.code
    (c.deref.ensures.value ∙ c.in_ok-units.ensures.units) c.in_ok-code.ensures.code in
    both (λ f p. Runs f p c.in_ok-code.code) c.file-file.ensures (ap plain_program c.program-program.ensures)
    (subst (Runs file program) (sym code)
    (c.compiled_runs.ensures file program well reads
    (c.typed_is_placed.ensures file well) (c.ranged_is_emittable.ensures file well c.in_ok-refs.ensures.fits)
    (subst (λ (x : Code). length x.instructions ≤ most_instructions) code c.in_ok-code.ensures.short)))

pub returns-in_err-measure-clause-refused : goal.returns-in_err-measure-clause-refused
returns-in_err-measure-clause-refused c =
    let p = err_from_is_err_and c.from_residual-in_err-measure.result c.from_residual-in_err-measure.ensures.1 in
    rw (p.1, p.2)
    (both (λ f q. GoesPast f q (of_counts c.in_err-measure.field-0.0)) c.file-file.ensures
    (ap plain_program c.program-program.ensures)
    (counts_past (plain_file c.file-file.result.now) (plain_program c.program-program.result.now)
    (lowered.plain_file c.in_ok-refs.refs)
    c.in_ok-refs.ensures.tree c.in_err-measure.field-0.0 c.sizes.ensures.methods c.sizes.ensures.floor
    c.in_ok-refs.ensures.fits c.in_err-measure.ensures.refused))

pub returns-in_err-flat-clause-refused : goal.returns-in_err-flat-clause-refused
returns-in_err-flat-clause-refused c =
    let file = plain_file c.file-file.result.now in
    let slotted : IsProp (AllSlotted file.methods) = hlevel props in
    let slots = ∥∥₁_elim c.source_is_well_typed.ensures.file slotted
    (λ well. c.has_slots.ensures file (subst IsWellTyped (sym c.file-file.ensures) well).typed) in
    let p = err_from_is_err_and c.from_residual-in_err-flat.result c.from_residual-in_err-flat.ensures.1 in
    rw (p.1, p.2)
    (both (λ f q. GoesPast f q (Lower c.in_err-flat.field-0.0)) c.file-file.ensures
    (ap plain_program c.program-program.ensures)
    (finally_past file (plain_program c.program-program.result.now) (lowered.plain_file c.in_ok-refs.refs)
    c.in_ok-refs.ensures.tree c.in_err-flat.field-0.0 c.in_ok-refs.ensures.fits
    (c.fits_lowered.ensures file slots c.in_ok-refs.ensures.fits)
    c.in_err-flat.ensures.refused))

pub returns-in_err-code-clause-refused : goal.returns-in_err-code-clause-refused
returns-in_err-code-clause-refused c =
    let p = err_from_is_err_and c.from_residual-in_err-code.result c.from_residual-in_err-code.ensures.1 in
    rw (p.1, p.2)
    (both (λ f q. GoesPast f q (Link c.in_err-code.field-0.0)) c.file-file.ensures
    (ap plain_program c.program-program.ensures)
    (link_past (plain_file c.file-file.result.now) (plain_program c.program-program.result.now)
    (lowered.plain_file c.in_ok-refs.refs) c.in_ok-refs.ensures.tree (lowered.plain_file c.in_ok-flat.flat)
    c.deref.result.now c.in_err-code.field-0.0 c.sizes.ensures.floor c.in_ok-refs.ensures.fits c.in_ok-flat.ensures.few
    c.in_ok-flat.ensures.tree c.in_ok-units.ensures.short (c.deref.ensures.value ∙ c.in_ok-units.ensures.units)
    (λ e. c.in_err-code.ensures.long (ap Err e))))
