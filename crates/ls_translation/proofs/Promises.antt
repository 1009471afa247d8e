-- What the promise of an image gives its translations.
use Rattle.std.proofs.Common.{◌≡◌, ◌↔◌, ℕ, ◌<◌, ◌≤◌, List, length, Result, Ok, Err, IfOk, OnOk, sym, ap, ◌∙◌}
use Rattle.std.proofs.Common.{subst, arith, inl, inr}
use Rattle.std.proofs.Math.Logic.{∥∥₁_elim}
use Rattle.std.proofs.Props.{props}
use Rattle.ls_code.specs.Limits.{most_cells, most_instructions}
use Rattle.ls_events.specs.declared.event.Event.{Event}
use Rattle.ls_checked.specs.CheckedTree.{File}
use Rattle.ls_checked.specs.CheckedProgram.{Program}
use Rattle.ls_meaning.specs.Runs.{source_history, start}
use Rattle.ls_code.specs.Code.{Code}
use Rattle.ls_code.specs.Machine.{Machine, loaded, machine_history}
use Rattle.ls_preservation.specs.Same.{Alike, Fits, IsCells}
use Rattle.ls_preservation.specs.Translations.{most_silent, steps_all, to_source, to_machine}
use Rattle.ls_machine.specs.Room.{AreBadCells}
use Rattle.ls_linker.specs.Runs.{Runs}

pub events_prop : (xs ys : List Event) → IsProp (xs ≡ ys)
events_prop xs ys = hlevel props

are_cells : (code : Code) (cells : ℕ) → (AreBadCells code.names cells → ⊥) → IsCells code cells
are_cells code cells good = record {
  some = let h : cells ≡ 0 → ⊥ = λ e. good (inl e) in omega arith;
  most = let h : most_cells < cells → ⊥ = λ e. good (inr (inl e)) in omega arith;
  names = let h : cells < code.names → ⊥ = λ e. good (inr (inr e)) in omega arith;
}

pub names_fit : (file : File) (program : Program) (code : Code) (cells : ℕ) →
    ∥ Runs file program code ∥₁ →
    IsCells code cells →
    length program.names ≤ cells
names_fit file program code cells runs good = ∥∥₁_elim runs (hlevel props)
    (λ r. omega (arith, r.same.names, good.names))

pub is_short : (file : File) (program : Program) (code : Code) →
    ∥ Runs file program code ∥₁ →
    length code.instructions ≤ most_instructions
is_short file program code runs = ∥∥₁_elim runs (hlevel props) (λ r. r.short)

no_err : {T E : Type 0} {x : T} {e : E} → Ok x ≡ Err e → ⊥
no_err h = cc

-- what is loaded has a good number of cells
pub is_loaded : {M E : Type 0} (code loaded : Code) (cells : ℕ) (m : M) (e : E) →
    loaded ≡ code →
    ((Ok m ≡ Err e) ↔ AreBadCells loaded.names cells) →
    IsCells code cells
is_loaded code loaded cells m e is bad = subst (λ p. IsCells p cells) is
    (are_cells loaded cells (λ b. no_err (bad.1 b)))

module _ (file : File) (program : Program) (code : Code) (cells : ℕ) (runs : ∥ Runs file program code ∥₁)
    (good : IsCells code cells) (schedule steps : List ℕ) where
  pub back_alike : steps ≡ to_source code cells schedule → ∥ Alike file program code cells schedule steps ∥₁
  back_alike is = ∥∥₁_elim runs squash₁ (λ r. ∣ subst (Alike file program code cells schedule) (sym is)
      (r.same.back cells good schedule) ∣₁)

  pub back_history : steps ≡ to_source code cells schedule →
      source_history file program steps ≡ machine_history code cells schedule
  back_history is = ∥∥₁_elim runs (events_prop _ _) (λ r. ap (source_history file program) is ∙
      sym (r.same.back cells good schedule).histories)

  pub forth_alike : Fits file program cells schedule →
      steps ≡ to_machine file program code cells schedule →
      ∥ Alike file program code cells steps schedule ∥₁
  forth_alike fits is = ∥∥₁_elim runs squash₁ (λ r. ∣ subst (λ ts. Alike file program code cells ts schedule) (sym is)
      (r.same.forth cells good schedule fits) ∣₁)

  pub forth_history : Fits file program cells schedule →
      steps ≡ to_machine file program code cells schedule →
      machine_history code cells steps ≡ source_history file program schedule
  forth_history fits is = ∥∥₁_elim runs (events_prop _ _) (λ r. ap (machine_history code cells) is ∙
      (r.same.forth cells good schedule fits).histories)

-- what a function answers that answers the steps of a translation, and only if it fits
pub if_alike : (file : File) (program : Program) (code : Code) (cells : ℕ) (schedule : List ℕ) {E : Type 0}
    (r : Result (List ℕ) E) →
    ∥ Runs file program code ∥₁ →
    IsCells code cells →
    OnOk r (Fits file program cells schedule) →
    IfOk r (λ steps. steps ≡ to_machine file program code cells schedule) →
    IfOk r (λ steps. ∥ Alike file program code cells steps schedule ∥₁)
if_alike file program code cells schedule (Ok steps) runs good fits is = forth_alike file program code cells runs good
    schedule steps fits is
if_alike file program code cells schedule (Err e) runs good fits is = tt

pub if_history : (file : File) (program : Program) (code : Code) (cells : ℕ) (schedule : List ℕ) {E : Type 0}
    (r : Result (List ℕ) E) →
    ∥ Runs file program code ∥₁ →
    IsCells code cells →
    OnOk r (Fits file program cells schedule) →
    IfOk r (λ steps. steps ≡ to_machine file program code cells schedule) →
    IfOk r (λ steps. machine_history code cells steps ≡ source_history file program schedule)
if_history file program code cells schedule (Ok steps) runs good fits is = forth_history file program code cells runs
    good schedule steps fits is
if_history file program code cells schedule (Err e) runs good fits is = tt

-- the steps on a machine that is loaded are those of the translation
pub on_loaded : (file : File) (program : Program) (code : Code) (cells : ℕ) (schedule : List ℕ) (m : Machine)
    {E : Type 0} (r : Result (List ℕ) E) →
    m ≡ loaded code cells →
    IfOk r (λ steps. steps ≡ steps_all file program (most_silent code) (start program) m schedule) →
    IfOk r (λ steps. steps ≡ to_machine file program code cells schedule)
on_loaded file program code cells schedule m r is h =
    subst (λ x. IfOk r (λ steps. steps ≡ steps_all file program (most_silent code) (start program) x schedule)) is h
