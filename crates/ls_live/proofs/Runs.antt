-- A machine's run, taken apart at its end.
use Rattle.std.proofs.Common.{◌≡◌, ℕ, ◌+◌, ◌<◌, List, [], ◌∷◌, ◌++◌, take, get_or, length, refl, ap, ◌∙◌}
use Rattle.std.proofs.lemmas.List.{take_more}
use Rattle.ls_code.specs.Machine.{Machine, machine_run, machine_step}

pub machine_run_snoc : (m : Machine) (ns : List ℕ) (n : ℕ) →
    machine_run m (ns ++ n ∷ []) ≡ (machine_step (machine_run m ns) n).machine
machine_run_snoc m [] n = refl
machine_run_snoc m (x ∷ xs) n = machine_run_snoc (machine_step m x).machine xs n

-- one entry more of a tape
pub machine_run_take : (m : Machine) (tape : List ℕ) (p : ℕ) →
    p < length tape →
    machine_run m (take (p + 1) tape) ≡ (machine_step (machine_run m (take p tape)) (get_or tape p 0)).machine
machine_run_take m tape p h = ap (machine_run m) (take_more tape p 0 h) ∙
    machine_run_snoc m (take p tape) (get_or tape p 0)
