-- Explorations that are judged by a specification.
use Rattle.std.proofs.Common.{◌≡◌, ◌⊎◌, ◌≤◌, inl, inr, ℕ, Bool, true, false, List, Err, refl, sym, subst}
use Rattle.std.specs.Prelude.{All, IsErrOf, IsSorted, Option}
use Rattle.ls_image.specs.Images.{code_of_image}
use Rattle.ls_image.specs.declared.image.Image.{Image}
use Rattle.ls_search.specs.Verdicts.{IsCut}
use Rattle.ls_translation.specs.Texts.{file_of, program_of}
use Rattle.ls_translation.specs.declared.fault.TranslationFault.{TranslationFault}
use Rattle.ls_translation.specs.declared.fault.TranslationFault.TheVariants as translation
use Rattle.ls_explore.specs.Rows.{AreApart, TellStates, Told, row_order}
use Rattle.ls_explore.specs.Tellings.{TellTruth, TellWhole}
use Rattle.ls_explore.specs.declared.fault.ExploreFault.{ExploreFault}
use Rattle.ls_explore.specs.declared.fault.ExploreFault.TheVariants as explore
use Rattle.ls_explore_reports.specs.Judged.{AreMeant, IsToldBelowLike, Judged, SaysNoSet, rows_of}
use Rattle.ls_explore_reports.specs.Laws.{NoneIsUnlike, NoneIsUnlikeThatFits}
use Rattle.ls_explore_reports.specs.Long.{HasLong}
use Rattle.ls_explore_reports.specs.declared.printing.Exploring.{Exploring}
use Rattle.ls_faults.specs.Faults.{lifted_explore, lifted_translation}
use Rattle.ls_faults.specs.Given.{GivesText}
use Rattle.ls_explore_commands.specs.Finding.{AreGoodFor, IsRefused, TellBy}
use Rattle.ls_explore_commands.specs.Likeness.{Endless, ExploredLike, IsExplorationLike, NoCells, NoStates}
use Rattle.ls_explore_commands.specs.Likeness.{NotTranslated}
use Rattle.ls_explore_commands.specs.Likeness.{RowTooLong}
use Rattle.ls_explore_commands.proofs.ExploredLemmas.{all_that_fit}

-- what the rows tell, with what is said of them
pub like_so : NoneIsUnlike → NoneIsUnlikeThatFits → (s i : Image) (count : Option ℕ) (limit : ℕ) (orders : Bool)
    (k : ℕ) (rows : List Told) (judged : List Judged) (kept : ℕ) (complete roomy : Bool) →
    rows_of judged ≡ rows →
    TellTruth (file_of i) (program_of i) k rows →
    TellStates (file_of i) (program_of i) k rows kept →
    kept ≤ limit →
    (complete ≡ false → IsCut (file_of i) (program_of i) limit k kept) →
    TellBy count (file_of i) (program_of i) limit k rows kept complete roomy →
    (complete ≡ true → roomy ≡ true → TellWhole (file_of i) (program_of i) rows) → AreApart rows →
    IsSorted row_order rows → AreMeant (file_of s) (program_of s) judged →
    All SaysNoSet judged →
    All (IsToldBelowLike orders (file_of s) (program_of s)) judged →
    IsExplorationLike s i count limit orders k judged kept complete roomy
like_so unlike unlike_fits s i count limit orders k rows judged kept complete roomy e truth states few cut by whole
    apart order meant sets below =
    let each : complete ≡ true → roomy ≡ true → TellWhole (file_of i) (program_of i) (rows_of judged) =
    λ yes room. subst (TellWhole (file_of i) (program_of i)) (sym e) (whole yes room) in
    let found : TellBy count (file_of i) (program_of i) limit k (rows_of judged) kept complete roomy =
    subst (λ rs. TellBy count (file_of i) (program_of i) limit k rs kept complete roomy) (sym e) by in
    let fit = all_that_fit (file_of i) (program_of i) count limit k (rows_of judged) kept complete roomy found in
    record {
      truth = subst (TellTruth (file_of i) (program_of i) k) (sym e) truth;
      states = subst (λ rs. TellStates (file_of i) (program_of i) k rs kept) (sym e) states;
      few = few;
      cut = cut;
      by = found;
      whole = each;
      apart = subst AreApart (sym e) apart;
      order = subst (IsSorted row_order) (sym e) order;
      meant = meant;
      sets = sets;
      below = below;
      all_like = λ yes room known none.
          unlike (file_of s) (program_of s) (file_of i) (program_of i) judged meant known none (each yes room);
      all_like_fits = λ cells asked yes known none.
          unlike_fits (file_of s) (program_of s) (file_of i) (program_of i) cells judged meant known none
          (fit cells asked yes);
    }

module _ (s i : Image) (e : Exploring) where
  pub like_fails : (f : ExploreFault) → IsRefused i e.cells e.states f →
      GivesText (ExploredLike s i e) (Err (lifted_explore f))
  like_fails explore.Memory h = tt
  like_fails explore.BadCells h = NoCells h.0 h.1 h.2
  like_fails explore.BadStates h = NoStates h.0 h.1
  like_fails explore.SetupEndless h = Endless h.0 h.1
  like_fails (explore.Setup f) h = NotTranslated h.0 h.3 f h.1 h.2 h.4 h.5

  pub long_like_fails : {T : Type 0} (f : TranslationFault) (k kept : ℕ) (judged slice : List Judged)
      (complete roomy : Bool) →
      (f ≡ translation.Memory) ⊎ (f ≡ translation.ResultTooLong) →
      AreGoodFor (code_of_image i) e.cells e.states →
      IsExplorationLike s i e.cells e.states e.order k judged kept complete roomy →
      slice ≡ judged →
      (IsErrOf {T = T} (Err f) translation.ResultTooLong → HasLong k (rows_of slice)) →
      GivesText (ExploredLike s i e) (Err (lifted_translation f))
  long_like_fails translation.Memory k kept judged slice complete roomy only good so is long = tt
  long_like_fails translation.BadCells k kept judged slice complete roomy (inl wrong) good so is long = absurd cc
  long_like_fails translation.BadCells k kept judged slice complete roomy (inr wrong) good so is long = absurd cc
  long_like_fails (translation.DoesNotFit step) k kept judged slice complete roomy (inl wrong) good so is
      long = absurd cc
  long_like_fails (translation.DoesNotFit step) k kept judged slice complete roomy (inr wrong) good so is
      long = absurd cc
  long_like_fails translation.ResultTooLong k kept judged slice complete roomy only good so is long =
      RowTooLong k judged kept complete roomy good so (subst (λ (js : List Judged). HasLong k (rows_of js)) is
      (long refl))
