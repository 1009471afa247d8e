-- The rows of all schedules of an image, and why there are none.
use Rattle.std.proofs.Common.{◌≡◌, ◌↔◌, ◌≤◌, ◌⊎◌, inl, inr, ℕ, true, false, None, Some, Result, Ok, Err, refl, arith}
use Rattle.std.specs.Prelude.{IfErr, IfOk, IsErrOf, IsSorted}
use Rattle.ls_machine.specs.Room.{AreBadCells}
use Rattle.ls_image.specs.Images.{code_of_image}
use Rattle.ls_image.specs.declared.image.Image.{Image}
use Rattle.ls_translation.specs.Texts.{file_of, program_of}
use Rattle.ls_explore.specs.declared.rows.Ending.TheVariants.{NotSeen}
use Rattle.ls_explore.specs.Rows.{AreApart, NoneEnds, StandAlone, TellStates, row_order}
use Rattle.ls_explore.specs.Faults.{AreBadStates, AreGood, IsEndless, IsOfSetup}
use Rattle.ls_explore.specs.Sources.{IsOfSource, IsSourceEndless, TellSource}
use Rattle.ls_explore.specs.Tellings.{AllFit, AreFull, IsNarrow, TellAll, TellTruth, TellWhole}
use Rattle.ls_explore.specs.declared.images.ImageExploration.{ImageExploration}
use Rattle.ls_explore.specs.declared.fault.ExploreFault.{ExploreFault}
use Rattle.ls_explore.specs.declared.fault.ExploreFault.TheVariants as explore
use Rattle.ls_explore_commands.specs.Finding.{AreGoodFor, IsFound, IsRefused}

module _ (i : Image) (limit : ℕ) where
  -- ---- on a machine

  module _ (cells : ℕ) where
    for_machine : AreGood (code_of_image i) cells limit → AreGoodFor (code_of_image i) (Some cells) limit
    for_machine good = record { cells = good.cells; states = good.states }

    pub machine_found : (r : Result ImageExploration ExploreFault) →
        IfOk r (λ e. AreGood (code_of_image i) cells limit) →
        IfOk r (λ e. TellTruth (file_of i) (program_of i) e.setup e.rows.items) →
        IfOk r (λ e. TellStates (file_of i) (program_of i) e.setup e.rows.items e.states) →
        IfOk r (λ e. e.states ≤ limit) →
        IfOk r (λ e. e.complete ≡ false → limit ≤ e.states) →
        IfOk r (λ e. AllFit (file_of i) (program_of i) cells e.setup e.rows.items) →
        IfOk r (λ e. AreFull (file_of i) (program_of i) cells e.setup e.rows.items) →
        IfOk r (λ e. e.roomy ≡ false → IsNarrow (file_of i) (program_of i) cells) →
        IfOk r (λ e. e.complete ≡ true → NoneEnds NotSeen e.rows.items) →
        IfOk r (λ e. StandAlone e.rows.items) →
        IfOk r (λ e. e.complete ≡ true → TellAll (file_of i) (program_of i) cells e.rows.items) →
        IfOk r (λ e. e.complete ≡ true → e.roomy ≡ true → TellWhole (file_of i) (program_of i) e.rows.items) →
        IfOk r (λ e. AreApart e.rows.items) →
        IfOk r (λ e. IsSorted row_order e.rows.items) →
        IfOk r (IsFound i (Some cells) limit)
    machine_found (Err f) good truth states few cut fits full narrow seen alone all whole apart order = tt
    machine_found (Ok e) good truth states few cut fits full narrow seen alone all whole apart order =
        let exact : e.complete ≡ false → e.states ≡ limit = λ no. omega (arith, few, cut no) in
        record {
          good = for_machine good;
          truth = truth;
          states = states;
          few = few;
          cut = λ no. inl (exact no);
          by = record {
            truth = truth;
            fits = fits;
            full = full;
            states = states;
            few = few;
            cut = exact;
            all = all;
            whole = whole;
            narrow = narrow;
            seen = seen;
            alone = alone;
            apart = apart;
            order = order;
          };
          whole = whole;
          apart = apart;
          order = order;
        }

    pub machine_refused : (r : Result ImageExploration ExploreFault) →
        (IsErrOf r explore.BadCells ↔ AreBadCells (code_of_image i).names cells) →
        (IsErrOf r explore.BadStates ↔ (¬ AreBadCells (code_of_image i).names cells × AreBadStates limit)) →
        IsErrOf r explore.Memory ⊎ (IsErrOf r explore.SetupEndless ↔
        IsEndless (file_of i) (program_of i) (code_of_image i) cells limit) →
        IfErr r (IsOfSetup (file_of i) (program_of i) (code_of_image i) cells limit) →
        IfErr r (IsRefused i (Some cells) limit)
    machine_refused (Ok e) bad many endless setup = tt
    machine_refused (Err explore.Memory) bad many endless setup = tt
    machine_refused (Err explore.BadCells) bad many endless setup = (cells, refl, bad.0 refl)
    machine_refused (Err explore.BadStates) bad many endless setup = many.0 refl
    machine_refused (Err explore.SetupEndless) bad many (inl wrong) setup = absurd cc
    machine_refused (Err explore.SetupEndless) bad many (inr endless) setup =
        let h = endless.0 refl in (for_machine h.good, h.goes)
    machine_refused (Err (explore.Setup f)) bad many endless setup =
        (cells, refl, setup.0, setup.1, setup.2, setup.3)

  -- ---- by the source

  for_source : ¬ AreBadStates limit → AreGoodFor (code_of_image i) None limit
  for_source good = record { cells = tt; states = good }

  pub source_found : (r : Result ImageExploration ExploreFault) → IfOk r (λ e. ¬ AreBadStates limit) →
      IfOk r (λ e. TellSource (file_of i) (program_of i) limit e.setup e.rows.items e.states e.complete) →
      IfOk r (λ e. e.roomy ≡ true) →
      IfOk r (IsFound i None limit)
  source_found (Err f) good tells roomy = tt
  source_found (Ok e) good tells roomy = record {
    good = for_source good;
    truth = tells.truth;
    states = tells.states;
    few = tells.few;
    cut = tells.cut;
    by = (tells, roomy);
    whole = λ done room. tells.whole done;
    apart = tells.apart;
    order = tells.order;
  }

  pub source_refused : (r : Result ImageExploration ExploreFault) →
      (IsErrOf r explore.BadStates ↔ AreBadStates limit) →
      IsErrOf r explore.Memory ⊎ (IsErrOf r explore.SetupEndless ↔
      IsSourceEndless (file_of i) (program_of i) limit) →
      IfErr r IsOfSource →
      IfErr r (IsRefused i None limit)
  source_refused (Ok e) many endless only = tt
  source_refused (Err explore.Memory) many endless only = tt
  source_refused (Err explore.BadCells) many endless only = absurd only
  source_refused (Err explore.BadStates) many endless only = (tt, many.0 refl)
  source_refused (Err explore.SetupEndless) many (inl wrong) only = absurd cc
  source_refused (Err explore.SetupEndless) many (inr endless) only =
      let h = endless.0 refl in (for_source h.states, h.goes)
  source_refused (Err (explore.Setup f)) many endless only = absurd only
