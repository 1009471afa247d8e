-- What the steps need of the meaning.
use Rattle.std.proofs.Common.{◌≡◌, ℕ, List}
use Rattle.ls_events.specs.declared.value.Value.{Value}
use Rattle.ls_events.specs.declared.value.ValueType.{ValueType}
use Rattle.ls_events.specs.declared.action.Action.{Action}
use Rattle.ls_checked.specs.CheckedTree.{File}
use Rattle.ls_checked.specs.CheckedProgram.{Program}
use Rattle.ls_meaning.specs.declared.sort.Sort.{Sort}
use Rattle.ls_meaning.specs.Course.{Answers}
use Rattle.ls_meaning.specs.Renamings.{IsRenaming, renamed_answers, renamed_next}
use Rattle.ls_meaning.specs.Threads.{Goes, next}
use Rattle.ls_preservation.specs.Sorts.{ActionHas, Known}

-- What the meaning owes: it commutes with renamings, and asks on things of the right types.
pub record Means (file : File) (program : Program) : Type 0 where
  pub renames : (ρ : ℕ → ℕ) →
      IsRenaming ρ →
      (t : ℕ) (had : Answers) →
      next file program t (renamed_answers ρ had) ≡ renamed_next ρ (next file program t had)
  pub sound : (things : List ValueType) (t : ℕ) (had : Answers) (a : Action Value) (s : Sort) →
      Known file program things t had → next file program t had ≡ Goes a s → ActionHas file program things t a s
