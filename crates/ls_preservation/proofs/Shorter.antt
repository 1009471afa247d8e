-- What fits, fits at each earlier step.
use Rattle.std.proofs.Common.{◌≡◌, ℕ, ◌+◌, ◌≤◌, List, [], ◌∷◌, ◌++◌, length, refl, subst, arith}
use Rattle.ls_events.specs.declared.value.Value.{Value}
use Rattle.ls_checked.specs.CheckedTree.{File}
use Rattle.ls_checked.specs.CheckedProgram.{Program}
use Rattle.ls_meaning.specs.Steps.{Entry, Stepped, after, run}
use Rattle.ls_meaning.specs.Runs.{State, start, source_step, source_run}
use Rattle.ls_preservation.specs.Same.{total, Fits}
use Rattle.ls_preservation.proofs.Births.{grows_run}

run-append : (does : State → ℕ → Stepped State (Entry Value)) (s : State) (ts us : List ℕ) →
    run does s (ts ++ us) ≡ run does (run does s ts) us
run-append does s [] us = refl
run-append does s (t ∷ ts) us = run-append does (after s (does s t)) ts us

-- if a schedule fits, its beginnings fit
pub shorter : (file : File) (program : Program) (cells : ℕ) (ts us : List ℕ) →
    Fits file program cells (ts ++ us) →
    Fits file program cells ts
shorter file program cells ts us h =
    let all : length program.names + total (run (source_step file program) (source_run file program ts) us).store.things
    ≤ cells =
    subst (λ s. length program.names + total s.store.things ≤ cells)
    (run-append (source_step file program) (start program) ts us) h in
    let more = (grows_run file program (length program.names) us (source_run file program ts)).cells in
    omega arith
