-- Before the end of the setup no two threads act.
use Rattle.std.proofs.Common.{◌≡◌, ℕ, zero, suc, false, None, Some, refl, sym, ap, ◌∙◌}
use Rattle.ls_checked.specs.CheckedTree.{File}
use Rattle.ls_checked.specs.CheckedProgram.{Program}
use Rattle.ls_meaning.specs.Runs.{State, answers_of, has_ended, step}
use Rattle.ls_meaning.specs.Threads.{next}
use Rattle.ls_search_laws.proofs.Covering.{not_started}
use Rattle.ls_race_laws.specs.declared.access.Access.{Access}
use Rattle.ls_race_laws.specs.Accesses.{Volatile}
use Rattle.ls_race_laws.specs.Meeting.{access_by}

not_some : (a : Access) → None ≡ Some a → ⊥
not_some a h = cc

module _ (volatile : Volatile) (file : File) (program : Program) where
  -- where the setup goes on, another thread has no access
  pub only_setup : (s : State) (t : ℕ) (a : Access) → has_ended (next file program 0 (answers_of s 0)) ≡ false →
      access_by volatile s.store (step file program s t).did ≡ Some a → t ≡ 0
  only_setup s zero a e is = refl
  only_setup s (suc t) a e is =
      absurd (not_some a (sym (ap (λ p. access_by volatile s.store p.did) (not_started file program s t e)) ∙ is))
