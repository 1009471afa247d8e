-- Refusals that come late.
use Rattle.ls_events.specs.Limits.{most_steps}
use Rattle.std.proofs.Common.{◌≡◌, ◌↔◌, ◌<◌, ◌≤◌, ◌⊎◌, inl, inr, ℕ, zero, suc, Bool, true, false, List, Result, Ok, Err}
use Rattle.std.proofs.Common.{arith, refl, subst}
use Rattle.std.proofs.Common.{length}
use Rattle.std.proofs.Common.{replicate}
use Rattle.std.specs.Prelude.{IfErr, IsErrOf}
use Rattle.ls_checked.specs.CheckedTree.{File}
use Rattle.ls_checked.specs.CheckedProgram.{Program}
use Rattle.ls_code.specs.Code.{Code}
use Rattle.ls_preservation.specs.Translations.{to_machine}
use Rattle.ls_machine.specs.Room.{AreBadCells}
use Rattle.ls_translation.specs.Room.{IsFirstUnfit}
use Rattle.ls_translation.specs.declared.fault.TranslationFault.{TranslationFault}
use Rattle.ls_translation.specs.declared.fault.TranslationFault.TheVariants as translation
use Rattle.ls_explore.specs.Faults.{AreBadStates, AreGood, IsEndless, IsLate, IsOfSetup}
use Rattle.ls_explore.specs.Faults.{fault_of_translation}
use Rattle.ls_explore.specs.Settings.{GoesOnFor, StopsAt}
use Rattle.ls_explore.specs.declared.fault.ExploreFault.{ExploreFault}
use Rattle.ls_explore.specs.declared.fault.ExploreFault.TheVariants as explore

module _ (file : File) (program : Program) (code : Code) (cells k : ℕ) where
  -- a setup of these steps that isn't translated
  pub late_translation : {T : Type 0} (f : TranslationFault) (source : List ℕ) → source ≡ replicate k 0
      → (IsErrOf {T = T} (Err f) translation.BadCells ↔ AreBadCells code.names cells)
      → ((step : ℕ) → IsErrOf {T = T} (Err f) (translation.DoesNotFit step) →
      IsFirstUnfit file program cells source step)
      → (IsErrOf {T = T} (Err f) translation.ResultTooLong →
      most_steps < length (to_machine file program code cells source))
      → IsLate file program code cells k (fault_of_translation f)
  late_translation translation.Memory source e bad unfit long = tt
  late_translation translation.BadCells source e bad unfit long = bad.0 refl
  late_translation (translation.DoesNotFit step) source e bad unfit long = subst
      (λ s. IsFirstUnfit file program cells s step) e (unfit step refl)
  late_translation translation.ResultTooLong source e bad unfit long = subst
      (λ s. most_steps < length (to_machine file program code cells s)) e (long refl)

  -- what a late refusal is, and what it isn't
  module _ {T : Type 0} (states : ℕ) (good : AreGood code cells states) where
    pub late_states : (r : Result T ExploreFault) →
        IfErr r (IsLate file program code cells k) →
        IsErrOf r explore.BadStates ↔ (¬ AreBadCells code.names cells × AreBadStates states)
    late_states (Ok x) late = (λ e. absurd cc, λ many. absurd (good.states many.1))
    late_states (Err explore.BadStates) late = absurd late
    late_states (Err explore.Memory) late = (λ e. absurd cc, λ many. absurd (good.states many.1))
    late_states (Err explore.BadCells) late = (λ e. absurd cc, λ many. absurd (good.states many.1))
    late_states (Err explore.SetupEndless) late = absurd late
    late_states (Err (explore.Setup f)) late = (λ e. absurd cc, λ many. absurd (good.states many.1))

    pub late_cells : (r : Result T ExploreFault) →
        IfErr r (IsLate file program code cells k) →
        IsErrOf r explore.BadCells ↔ AreBadCells code.names cells
    late_cells (Err explore.BadCells) late = (λ e. late, λ bad. refl)
    late_cells (Ok x) late = (λ e. absurd cc, λ bad. absurd (good.cells bad))
    late_cells (Err explore.BadStates) late = absurd late
    late_cells (Err explore.Memory) late = (λ e. absurd cc, λ bad. absurd (good.cells bad))
    late_cells (Err explore.SetupEndless) late = absurd late
    late_cells (Err (explore.Setup f)) late = (λ e. absurd cc, λ bad. absurd (good.cells bad))

    pub late_setup : (r : Result T ExploreFault) →
        StopsAt file program k →
        IfErr r (IsLate file program code cells k) →
        IfErr r (IsOfSetup file program code cells states)
    late_setup (Ok x) ends late = tt
    late_setup (Err explore.Memory) ends late = tt
    late_setup (Err explore.BadCells) ends late = tt
    late_setup (Err explore.BadStates) ends late = tt
    late_setup (Err explore.SetupEndless) ends late = tt
    late_setup (Err (explore.Setup f)) ends late = (good, k, ends, late)

-- ---- the fault of a setup that goes on

pub not_both : (b : Bool) → b ≡ true → b ≡ false → ⊥
not_both b h g = cc

-- some states may be kept
pub some_states : (states : ℕ) → ¬ AreBadStates states → 1 ≤ states
some_states zero good = absurd (good (inl refl))
some_states (suc n) good = omega arith

-- numbers that are not refused
pub good_numbers : (code : Code) (cells states : ℕ) (bad many : Bool) → (bad ≡ true ↔ AreBadCells code.names cells) →
    bad ≡ false → (many ≡ true ↔ AreBadStates states) → many ≡ false → AreGood code cells states
good_numbers code cells states bad many is_bad no_bad is_many no_many = record {
  cells = λ h. not_both bad (is_bad.1 h) no_bad;
  states = λ h. not_both many (is_many.1 h) no_many;
}

-- exactly where it goes on, but where memory runs out
abbrev pub EndlessOnly : {T : Type 0} → File → Program → Code → ℕ → ℕ → Result T ExploreFault → Type 0
EndlessOnly file program code cells states r = IsErrOf r explore.Memory ⊎
    (IsErrOf r explore.SetupEndless ↔ IsEndless file program code cells states)

module _ {T : Type 0} (file : File) (program : Program) (code : Code) (cells states : ℕ) where
  abbrev Only : Result T ExploreFault → Type 0
  Only r = EndlessOnly file program code cells states r

  pub endless_states : AreBadStates states → Only (Err explore.BadStates)
  endless_states bad = inr (λ e. absurd cc, λ h. absurd (h.good.states bad))

  pub endless_cells : AreBadCells code.names cells → Only (Err explore.BadCells)
  endless_cells bad = inr (λ e. absurd cc, λ h. absurd (h.good.cells bad))

  pub endless_goes : AreGood code cells states → GoesOnFor file program 100001 → Only (Err explore.SetupEndless)
  endless_goes good goes = inr (λ e. record { good = good; goes = goes }, λ h. refl)

  pub endless_memory : Only (Err explore.Memory)
  endless_memory = inl refl

  pub endless_not : (x : T) → (GoesOnFor file program 100001 → ⊥) → Only (Ok x)
  endless_not x ends = inr (λ e. absurd cc, λ h. absurd (ends h.goes))

  pub endless_late : (k : ℕ) (r : Result T ExploreFault) →
      IfErr r (IsLate file program code cells k) →
      (GoesOnFor file program 100001 → ⊥) →
      Only r
  endless_late k (Ok x) late ends = endless_not x ends
  endless_late k (Err explore.Memory) late ends = inl refl
  endless_late k (Err explore.BadCells) late ends = inr (λ e. absurd cc, λ h. absurd (ends h.goes))
  endless_late k (Err explore.BadStates) late ends = inr (λ e. absurd cc, λ h. absurd (ends h.goes))
  endless_late k (Err explore.SetupEndless) late ends = absurd late
  endless_late k (Err (explore.Setup f)) late ends = inr (λ e. absurd cc, λ h. absurd (ends h.goes))

-- a setup that goes on is no fault of the numbers
module _ {T : Type 0} (code : Code) (cells states : ℕ) (good : AreGood code cells states) where
  abbrev Endless : Result T ExploreFault
  Endless = Err explore.SetupEndless

  pub endless_no_cells : IsErrOf Endless explore.BadCells ↔ AreBadCells code.names cells
  endless_no_cells = (λ e. absurd cc, λ bad. absurd (good.cells bad))

  pub endless_no_states : IsErrOf Endless explore.BadStates ↔ (¬ AreBadCells code.names cells × AreBadStates states)
  endless_no_states = (λ e. absurd cc, λ many. absurd (good.states many.1))
