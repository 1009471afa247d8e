-- Why `has_room` in src/machine_room.rt keeps its clauses `within` and `stops`.

use Rattle.std.proofs.Common.{subst}
use Rattle.std.proofs.Math.Logic.{∥∥₁_elim}
use Rattle.ls_checked.specs.CheckedTree.{File}
use Rattle.ls_checked.specs.CheckedProgram.{Program}
use Rattle.ls_code.specs.Code.{Code}
use Rattle.ls_translation.specs.Texts.{file_of, program_of}
use Rattle.ls_types_checked.specs.CheckedFile.{elaborated_file}
use Rattle.ls_types_checked.specs.declared.checked.Checked.{Checked}
use Rattle.ls_types_judgement.specs.WellTyped.{IsWellTyped}
use Rattle.ls_explore.proofs.Rooms.{stops_prop, within_prop}
use Rattle.ls_explore.proofs.machine_room.has_room.Goals as goal

pub returns-clause-within : goal.returns-clause-within
returns-clause-within c =
    let file : File = file_of c.args.image.now in
    let program : Program = program_of c.args.image.now in
    let code : Code = c.args.image.now.code in
    let once = within_prop file program code in
    let typed : ∥ IsWellTyped file ∥₁ = subst (λ (k : Checked). ∥ IsWellTyped (elaborated_file k).file ∥₁)
    c.checked.ensures
    c.well_typed.ensures in
    ∥∥₁_elim c.args.image.now.kept once (λ runs. ∥∥₁_elim typed once (λ well.
    ∥∥₁_elim c.args.image.now.source.kept once (λ reads.
    c.stays_within.ensures file program code runs.asks well.constants reads.constants
    (c.is_sound.ensures file program well.typed well.classes reads.typed))))

pub returns-clause-stops : goal.returns-clause-stops
returns-clause-stops c =
    let file : File = file_of c.args.image.now in
    let program : Program = program_of c.args.image.now in
    let code : Code = c.args.image.now.code in
    let once = stops_prop file program code in
    let typed : ∥ IsWellTyped file ∥₁ = subst (λ (k : Checked). ∥ IsWellTyped (elaborated_file k).file ∥₁)
    c.checked.ensures
    c.well_typed.ensures in
    ∥∥₁_elim c.args.image.now.kept once (λ runs. ∥∥₁_elim typed once (λ well.
    ∥∥₁_elim c.args.image.now.source.kept once (λ reads.
    c.stops_for_room.ensures file program code runs.asks well.constants reads.constants
    (c.is_sound.ensures file program well.typed well.classes reads.typed))))
