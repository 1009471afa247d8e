-- What is so of each thread of a list is so of the one at a place.
use Rattle.std.proofs.Common.{◌≡◌, ℕ, zero, suc, List, [], ◌∷◌, Some, sym, subst}
use Rattle.std.specs.Prelude.{slice_get}
use Rattle.ls_checked.specs.CheckedProgram.{Program, ThreadProgram}
use Rattle.ls_graph.proofs.Lists.{some_is}
use Rattle.ls_meaning.specs.Constants.{CallsHaveConstants, ProgramHasConstants}
use Rattle.ls_progress.specs.Constants.{ThreadsHaveConstants}

threads_constants : (ts : List ThreadProgram) → ThreadsHaveConstants ts → (n : ℕ) (t : ThreadProgram) →
    slice_get ts n ≡ Some t →
    CallsHaveConstants t.calls
threads_constants [] h n t e = cc
threads_constants (x ∷ xs) h zero t e = subst (λ (y : ThreadProgram). CallsHaveConstants y.calls) (some_is e) h.0
threads_constants (x ∷ xs) h (suc n) t e = threads_constants xs h.1 n t e

pub program_constants : (program : Program) → ThreadsHaveConstants program.threads → ProgramHasConstants program
program_constants program h = threads_constants program.threads h
