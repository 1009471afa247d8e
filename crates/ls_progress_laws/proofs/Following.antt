-- Wait-free calls are lock-free, and lock-free ones obstruction-free. A bound and none are not both.
use Rattle.std.proofs.Common.{◌≡◌, ℕ, suc, ◌+◌, ◌≤◌, List, [], ◌∷◌, refl, sym, ap, subst, arith}
use Rattle.ls_checked.specs.CheckedTree.{File}
use Rattle.ls_checked.specs.CheckedProgram.{Program}
use Rattle.ls_meaning.specs.Runs.{State, step}
use Rattle.ls_progress_laws.specs.Progress.{IsWithin, lock_free, obstruction_free, own, own_steps, wait_free}
use Rattle.ls_progress_laws.specs.Laws.{AllKindsFollow, NeverBoth}

module _ (file : File) (program : Program) (t : ℕ) where
  within_lock : (s : State) (path : List ℕ) → IsWithin (lock_free t) file program s path →
      IsWithin (wait_free t) file program s path
  within_lock s [] w = tt
  within_lock s (u ∷ path) w = (w.0, λ q. w.1 refl, within_lock (step file program s u).after path w.2)

  same_lock : (s : State) (path : List ℕ) →
      own_steps (lock_free t) file program s path ≡ own_steps (wait_free t) file program s path
  same_lock s [] = refl
  same_lock s (u ∷ path) =
      ap (λ n. own (wait_free t) u (step file program s u).did + n) (same_lock (step file program s u).after path)

  within_alone : (s : State) (path : List ℕ) → IsWithin (obstruction_free t) file program s path →
      IsWithin (lock_free t) file program s path
  within_alone s [] w = tt
  within_alone s (u ∷ path) w = (refl, λ q. w.1 w.0, within_alone (step file program s u).after path w.2)

  same_alone : (s : State) (path : List ℕ) →
      own_steps (obstruction_free t) file program s path ≡ own_steps (lock_free t) file program s path
  same_alone s [] = refl
  same_alone s (u ∷ path) =
      ap (λ n. own (wait_free t) u (step file program s u).did + n) (same_alone (step file program s u).after path)

pub kinds_follow : AllKindsFollow
kinds_follow file program t call most = record {
  waits = λ bounded before path now w.
      subst (λ n. n ≤ most) (sym (same_lock file program t _ path))
      (bounded before path now (within_lock file program t _ path w));
  locks = λ bounded before path now w.
      subst (λ n. n ≤ most) (sym (same_alone file program t _ path))
      (bounded before path now (within_alone file program t _ path w));
}

pub never_both : NeverBoth
never_both kind file program call most bounded endless =
    let h = endless (suc most) in
    let many = h.many in
    let few = bounded h.before h.path h.in_call h.within in
    absurd (omega (arith, many, few))
