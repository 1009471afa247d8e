-- When an exploration of the source isn't whole.
use Rattle.std.specs.Prelude.{◌↔◌, Err, IsErrOf}
use Rattle.std.proofs.Common.{◌≡◌, ◌⊎◌, ℕ, List, inl, inr, refl, subst}
use Rattle.ls_checked.specs.CheckedTree.{File}
use Rattle.ls_checked.specs.CheckedProgram.{Program}
use Rattle.ls_explore.specs.Faults.{AreBadStates}
use Rattle.ls_explore.specs.Rows.{TellStates, Told}
use Rattle.ls_explore.specs.Sources.{IsOfSource, IsSourceEndless}
use Rattle.ls_explore.specs.declared.fault.ExploreFault.{ExploreFault}
use Rattle.ls_explore.specs.declared.fault.ExploreFault.TheVariants.{BadCells, BadStates, Memory, Setup, SetupEndless}
use Rattle.ls_search.specs.Verdicts.{IsCut}
use Rattle.ls_specification.specs.Specification.{Given}
use Rattle.ls_find.specs.Said.{IsCutShort, ManyObjects, ManyStates, NoStates, SetupGoesOn}

-- if it is refused, and memory hasn't run out
pub fault_cuts : {X : Type 0} (states : ℕ) (given : Given) (file : File) (program : Program) (e : ExploreFault) →
    (e ≡ Memory → ⊥) →
    IsOfSource e →
    (IsErrOf {T = X} (Err e) BadStates → AreBadStates states) →
    IsErrOf {T = X} (Err e) Memory ⊎ (IsErrOf {T = X} (Err e) SetupEndless ↔ IsSourceEndless file program states) →
    IsCutShort states given file program
fault_cuts states given file program Memory other only bad endless = absurd (other refl)
fault_cuts states given file program BadStates other only bad endless = NoStates (bad refl)
fault_cuts {X} states given file program SetupEndless other only bad (inl none) = absurd (not none)
  where
    not : IsErrOf {T = X} (Err SetupEndless) Memory → ⊥
    not e = cc
fault_cuts states given file program SetupEndless other only bad (inr goes) = SetupGoesOn (goes.0 refl).goes
fault_cuts states given file program BadCells other only bad endless = absurd only
fault_cuts states given file program (Setup f) other only bad endless = absurd only

-- if its rows are cut
pub rows_cut : (states k kept : ℕ) (given : Given) (file : File) (program : Program) (rows : List Told) →
    TellStates file program k rows kept →
    IsCut file program states k kept →
    IsCutShort states given file program
rows_cut states k kept given file program rows tells (inl full) =
    ManyStates k rows (subst (TellStates file program k rows) full tells)
rows_cut states k kept given file program rows tells (inr more) = ManyObjects k kept more
