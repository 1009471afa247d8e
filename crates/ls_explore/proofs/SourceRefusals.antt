-- Why there are no rows of a source.
use Rattle.std.proofs.Common.{◌≡◌, ◌↔◌, ◌⊎◌, ◌∙◌, inl, inr, ℕ, Bool, true, false, Result, Ok, Err, refl, sym}
use Rattle.std.specs.Prelude.{IsErrOf}
use Rattle.ls_checked.specs.CheckedTree.{File}
use Rattle.ls_checked.specs.CheckedProgram.{Program}
use Rattle.ls_explore.specs.Faults.{AreBadStates}
use Rattle.ls_explore.specs.Settings.{GoesOnFor}
use Rattle.ls_explore.specs.Sources.{IsSourceEndless}
use Rattle.ls_explore.specs.declared.fault.ExploreFault.{ExploreFault}
use Rattle.ls_explore.specs.declared.fault.ExploreFault.TheVariants as explore

module _ {T : Type 0} (file : File) (program : Program) (states : ℕ) where
  abbrev Only : Result T ExploreFault → Type 0
  Only r = IsErrOf r explore.Memory ⊎ (IsErrOf r explore.SetupEndless ↔ IsSourceEndless file program states)

  pub source_states : AreBadStates states → Only (Err explore.BadStates)
  source_states bad = inr (λ e. absurd cc, λ h. absurd (h.states bad))

  pub source_goes : ¬ AreBadStates states → GoesOnFor file program 100001 → Only (Err explore.SetupEndless)
  source_goes good goes = inr (λ e. record { states = good; goes = goes }, λ h. refl)

  pub source_memory : Only (Err explore.Memory)
  source_memory = inl refl

  pub source_not : (x : T) → (GoesOnFor file program 100001 → ⊥) → Only (Ok x)
  source_not x ends = inr (λ e. absurd cc, λ h. absurd (ends h.goes))

  pub source_no_states : ¬ AreBadStates states →
      IsErrOf {T = T} (Err explore.SetupEndless) explore.BadStates ↔ AreBadStates states
  source_no_states good = (λ e. absurd cc, λ bad. absurd (good bad))

-- a number of states that is not refused
pub good_states : (states : ℕ) (many : Bool) → (many ≡ true ↔ AreBadStates states) → many ≡ false →
    ¬ AreBadStates states
good_states states many is_many no_many h = not_both (sym (is_many.1 h) ∙ no_many)
  where
    not_both : true ≡ false → ⊥
    not_both e = cc
