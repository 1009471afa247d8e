-- A run keeps the number of threads, and a thread that isn't there is over.
use Rattle.std.proofs.Common.{◌≡◌, ℕ, ◌<◌, List, [], ◌∷◌, length, Option, Some, None, Bool, true, false, slice_get}
use Rattle.std.proofs.Common.{refl, ◌∙◌, length-set}
use Rattle.std.specs.Prelude.{◌||◌}
use Rattle.std.proofs.lemmas.Option.{slice_get_within}
use Rattle.ls_code.specs.Thread.{Thread}
use Rattle.ls_code.specs.Machine.{Machine, due_step, open_step, step_of, is_due, machine_step, machine_run}
use Rattle.ls_code.specs.Machine.{machine_state, state_in}
use Rattle.ls_live.specs.Answers.{is_final, is_trapped, is_over}

due_threads : (m : Machine) (n : ℕ) (t : Thread) (b : Bool) →
    length (due_step m n t b).machine.threads ≡ length m.threads
due_threads m n t false = refl
due_threads m n t true = simp length-set

open_threads : (m : Machine) (n : ℕ) (t : Thread) (b : Bool) →
    length (open_step m n t b).machine.threads ≡ length m.threads
open_threads m n t true = refl
open_threads m n t false = due_threads m n t (is_due m.threads n t)

step_threads : (m : Machine) (n : ℕ) (o : Option Thread) → length (step_of m n o).machine.threads ≡ length m.threads
step_threads m n None = refl
step_threads m n (Some t) = open_threads m n t m.stopped

-- a run keeps the number of threads
pub run_threads : (m : Machine) (ns : List ℕ) → length (machine_run m ns).threads ≡ length m.threads
run_threads m [] = refl
run_threads m (n ∷ ns) = run_threads (machine_step m n).machine ns ∙ step_threads m n (slice_get m.threads n)

there_in : (m : Machine) (t : ℕ) (b : Bool) (o : Option Thread) →
    slice_get m.threads t ≡ o →
    (is_final (state_in m t o) || b) ≡ false →
    t < length m.threads
there_in m t b None e h = absurd (cc)
there_in m t b (Some x) e h = slice_get_within m.threads t x e

-- a thread that isn't over is there
pub is_there : (m : Machine) (t : ℕ) → is_over m t ≡ false → t < length m.threads
unfolding is_over
is_there m t h = there_in m t (is_trapped (machine_state m 0)) (slice_get m.threads t) refl h
