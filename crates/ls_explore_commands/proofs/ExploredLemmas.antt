-- What `explore` may answer.
use Rattle.std.proofs.Common.{◌≡◌, ◌&&◌, ◌<◌, ◌≤◌, ◌⊎◌, inl, inr, ℕ, zero, suc, Bool, true, false}
use Rattle.std.proofs.Common.{List, [], ◌∷◌, Option, Some}
use Rattle.std.proofs.Common.{Ok, Err, refl, sym, subst, arith}
use Rattle.std.proofs.lemmas.List.{get_or-map, length-map}
use Rattle.std.specs.Prelude.{All, Contains, IsErrOf, IsSorted, slice_index_or, length}
use Rattle.ls_meaning.specs.Runs.{source_history}
use Rattle.ls_checked.specs.CheckedTree.{File}
use Rattle.ls_checked.specs.CheckedProgram.{Program}
use Rattle.ls_checked.specs.PlainProgram.{plain_program}
use Rattle.ls_checked.specs.declared.program.Program.{Program as CodeProgram}
use Rattle.ls_image.specs.Images.{code_of_image, program_of_image}
use Rattle.ls_image.specs.declared.image.Image.{Image}
use Rattle.ls_search.specs.Verdicts.{IsCut}
use Rattle.ls_translation.specs.Texts.{file_of, program_of}
use Rattle.ls_explore.specs.Rows.{AreApart, TellStates, Told, row_order}
use Rattle.ls_explore.specs.Machines.{TellMachine}
use Rattle.ls_explore.specs.Tellings.{TellAll, TellTruth, TellWhole, schedule_of}
use Rattle.ls_explore.specs.declared.fault.ExploreFault.{ExploreFault}
use Rattle.ls_explore.specs.declared.fault.ExploreFault.TheVariants as explore
use Rattle.ls_report.specs.Events.{Text}
use Rattle.ls_text_laws.specs.Histories.{IsReadable}
use Rattle.ls_translation.specs.declared.fault.TranslationFault.{TranslationFault}
use Rattle.ls_translation.specs.declared.fault.TranslationFault.TheVariants as translation
use Rattle.ls_verdicts.specs.Verdicts.{IsHistoryOf}
use Rattle.ls_labels.specs.Names.{Names}
use Rattle.ls_faults.specs.Faults.{lifted_explore, lifted_translation}
use Rattle.ls_faults.specs.Given.{GivesText}
use Rattle.ls_commands.specs.Compiled.{names_of_image}
use Rattle.ls_explore_reports.specs.declared.printing.Exploring.{Exploring}
use Rattle.ls_explore_commands.specs.Finding.{AreGoodFor, IsRefused, TellBy}
use Rattle.ls_explore_commands.specs.Explored.{Explored, Endless, IsExploration, NoCells, NoStates, NotTranslated}
use Rattle.ls_explore_commands.specs.Explored.{RowTooLong, Tells}
use Rattle.ls_explore_reports.specs.ImageNames.{names_in}
use Rattle.ls_explore_reports.specs.Judged.{AreHistories, IsJudged, IsToldBelow, IsToldLinear, Judged, rows_of}
use Rattle.ls_explore_reports.specs.Laws.{LinearityIsMeant, NoneIllegal, NoneIllegalThatFits, NoneIsNotLinearizable}
use Rattle.ls_explore_reports.specs.Laws.{NoneIsNotLinearizableThatFits}
use Rattle.ls_explore_reports.specs.Long.{HasLong}
use Rattle.ls_explore_reports.specs.Cuts.{IsExploredText, IsSo}
use Rattle.ls_explore_commands.specs.Readable.{SourceRunsAreReadable}

-- if a number of cells was asked for, complete rows tell of all schedules that fit
pub all_that_fit : (file : File) (program : Program) (count : Option ℕ) (limit k : ℕ) (rows : List Told) (kept : ℕ)
    (complete roomy : Bool) →
    TellBy count file program limit k rows kept complete roomy →
    (cells : ℕ) →
    count ≡ Some cells →
    complete ≡ true →
    TellAll file program cells rows
all_that_fit file program count limit k rows kept complete roomy by cells asked done =
    let machine : TellMachine file program cells limit k rows kept complete roomy =
    subst (λ o. TellBy o file program limit k rows kept complete roomy) asked by in
    machine.all done

-- what the rows tell, with the verdicts on them
pub judged_so : LinearityIsMeant → NoneIllegal → NoneIllegalThatFits → NoneIsNotLinearizable →
    NoneIsNotLinearizableThatFits →
    (i : Image) (count : Option ℕ) (limit : ℕ) (orders : Bool) (k : ℕ) (rows : List Told) (judged : List Judged)
    (kept : ℕ) (complete roomy : Bool) →
    rows_of judged ≡ rows →
    TellTruth (file_of i) (program_of i) k rows →
    TellStates (file_of i) (program_of i) k rows kept →
    kept ≤ limit →
    (complete ≡ false → IsCut (file_of i) (program_of i) limit k kept) →
    TellBy count (file_of i) (program_of i) limit k rows kept complete roomy →
    (complete ≡ true → roomy ≡ true → TellWhole (file_of i) (program_of i) rows) → AreApart rows →
    IsSorted row_order rows → All (IsJudged (program_of i)) judged →
    All (IsToldLinear (file_of i) (program_of i) (complete && roomy) rows) judged →
    All (IsToldBelow orders (file_of i) (program_of i)) judged →
    IsExploration i count limit orders k judged kept complete roomy
judged_so meant legal legal_fits linearizable linearizable_fits i count limit orders k rows judged kept complete roomy e
    truth states few cut by whole apart order verdicts linear below =
    let so : TellTruth (file_of i) (program_of i) k (rows_of judged) =
    subst (TellTruth (file_of i) (program_of i) k) (sym e) truth in
    let each : complete ≡ true → roomy ≡ true → TellWhole (file_of i) (program_of i) (rows_of judged) =
    λ yes room. subst (TellWhole (file_of i) (program_of i)) (sym e) (whole yes room) in
    let told : All (IsToldLinear (file_of i) (program_of i) (complete && roomy) (rows_of judged)) judged =
    subst (λ rs. All (IsToldLinear (file_of i) (program_of i) (complete && roomy) rs) judged) (sym e) linear in
    let found : TellBy count (file_of i) (program_of i) limit k (rows_of judged) kept complete roomy =
    subst (λ rs. TellBy count (file_of i) (program_of i) limit k rs kept complete roomy) (sym e) by in
    let fit = all_that_fit (file_of i) (program_of i) count limit k (rows_of judged) kept complete roomy found in
    record {
      truth = so;
      states = subst (λ rs. TellStates (file_of i) (program_of i) k rs kept) (sym e) states;
      few = few;
      cut = cut;
      by = found;
      whole = each;
      apart = subst AreApart (sym e) apart;
      order = subst (IsSorted row_order) (sym e) order;
      verdicts = verdicts;
      linear = told;
      meant = meant (file_of i) (program_of i) k complete roomy judged so each told;
      below = below;
      none_illegal = λ yes room decided none.
          legal (file_of i) (program_of i) judged verdicts decided none (each yes room);
      all_linearizable = λ yes room known none.
          linearizable (file_of i) (program_of i) k (complete && roomy) judged told known none so (each yes room);
      none_illegal_fits = λ cells asked yes decided none.
          legal_fits (file_of i) (program_of i) cells judged verdicts decided none (fit cells asked yes);
      all_linearizable_fits = λ cells asked yes known none.
          linearizable_fits (file_of i) (program_of i) k cells (complete && roomy) judged told known none so
          (fit cells asked yes);
    }

-- what is said of linearizability, of the file and the program of an image
pub linear_so : (i : Image) (file : File) (program : CodeProgram) (complete roomy whole : Bool) (slice rows : List Told)
    (judged : List Judged) →
    file ≡ file_of i →
    program ≡ program_of_image i →
    whole ≡ (complete && roomy) →
    slice ≡ rows →
    All (IsToldLinear file (plain_program program) whole slice) judged →
    All (IsToldLinear (file_of i) (program_of i) (complete && roomy) rows) judged
linear_so i file program complete roomy whole slice rows judged of_file of_program of_whole of_rows linear =
    subst (λ rs. All (IsToldLinear (file_of i) (program_of i) (complete && roomy) rs) judged) of_rows
    (subst (λ w. All (IsToldLinear (file_of i) (program_of i) w slice) judged) of_whole
    (subst (λ (p : CodeProgram). All (IsToldLinear (file_of i) (plain_program p) whole slice) judged) of_program
    (subst (λ f. All (IsToldLinear f (plain_program program) whole slice) judged) of_file linear)))

-- what stands below the rows, of the file and the program of an image
pub below_so : (i : Image) (file : File) (program : CodeProgram) (orders : Bool) (judged : List Judged) →
    file ≡ file_of i →
    program ≡ program_of_image i →
    All (IsToldBelow orders file (plain_program program)) judged →
    All (IsToldBelow orders (file_of i) (program_of i)) judged
below_so i file program orders judged of_file of_program below =
    subst (λ (p : CodeProgram). All (IsToldBelow orders (file_of i) (plain_program p)) judged) of_program
    (subst (λ f. All (IsToldBelow orders f (plain_program program)) judged) of_file below)

-- each row's history is that of its schedule, whose steps act, and has its verdict
pub rows_so : (i : Image) (k : ℕ) (rows : List Told) (judged : List Judged) →
    rows_of judged ≡ rows →
    TellTruth (file_of i) (program_of i) k rows →
    All (IsJudged (program_of i)) judged →
    All (IsSo (file_of i) (program_of i) k) judged
rows_so i k rows judged e truth verdicts = λ n d lt.
    let j : Judged = slice_index_or judged n d in
    let so : TellTruth (file_of i) (program_of i) k (rows_of judged) =
    subst (TellTruth (file_of i) (program_of i) k) (sym e) truth in
    let few : n < length (rows_of judged) = omega (arith, lt, length-map judged (λ (x : Judged). x.row)) in
    let there : Contains (rows_of judged) j.row = (n, few, get_or-map (λ (x : Judged). x.row) judged n d j.row lt) in
    record { history = so.told j.row there; acts = so.acts j.row there; verdict = verdicts n d lt }

-- the same, of the file and the program of an image
pub so_here : (i : Image) (k : ℕ) (names : Names) (slice judged : List Judged) →
    names ≡ names_in i →
    slice ≡ judged →
    All (IsSo (file_of i) (program_of i) k) judged →
    All (IsSo names.file names.program k) slice
so_here i k names slice judged of_names of_slice so =
    subst (λ (ns : Names). All (IsSo ns.file ns.program k) slice) (sym of_names)
    (subst (λ js. All (IsSo (file_of i) (program_of i) k) js) (sym of_slice) so)

-- what complete rows tell, of the file and the program of an image
pub whole_here : (i : Image) (names : Names) (rows : List Told) (slice judged : List Judged) →
    names ≡ names_in i →
    slice ≡ judged →
    rows_of judged ≡ rows →
    TellWhole (file_of i) (program_of i) rows →
    TellWhole names.file names.program (rows_of slice)
whole_here i names rows slice judged of_names of_slice of_rows whole =
    subst (λ (ns : Names). TellWhole ns.file ns.program (rows_of slice)) (sym of_names)
    (subst (λ js. TellWhole (file_of i) (program_of i) (rows_of js)) (sym of_slice)
    (subst (TellWhole (file_of i) (program_of i)) (sym of_rows) whole))

any_default : (xs : List Told) (n : ℕ) (d e : Told) → n < length xs → slice_index_or xs n d ≡ slice_index_or xs n e
any_default [] n d e h = absurd (omega arith)
any_default (x ∷ xs) zero d e h = refl
any_default (x ∷ xs) (suc n) d e h = any_default xs n d e (omega arith)

-- each row's history is that of a schedule, so it is read as it is printed
pub rows_named : (i : Image) (k : ℕ) (rows : List Told) →
    SourceRunsAreReadable i →
    TellTruth (file_of i) (program_of i) k rows →
    AreHistories (program_of i) rows
rows_named i k rows readable truth = λ n d lt.
    let r : Told = slice_index_or rows n d in
    let is : IsReadable (program_of i) (source_history (file_of i) (program_of i) (schedule_of k r)) = readable
    (schedule_of k r) in
    let of_run : IsHistoryOf (program_of i) (source_history (file_of i) (program_of i) (schedule_of k r)) =
    (is.events, record { is_named = is.is_named; history = is.says.history }) in
    subst (IsHistoryOf (program_of i)) (sym (truth.told r (n, lt, any_default rows n r d lt))) of_run

module _ (i : Image) (e : Exploring) where
  pub explore_fails : (f : ExploreFault) → IsRefused i e.cells e.states f →
      GivesText (Explored i e) (Err (lifted_explore f))
  explore_fails explore.Memory h = tt
  explore_fails explore.BadCells h = NoCells h.0 h.1 h.2
  explore_fails explore.BadStates h = NoStates h.0 h.1
  explore_fails explore.SetupEndless h = Endless h.0 h.1
  explore_fails (explore.Setup f) h = NotTranslated h.0 h.3 f h.1 h.2 h.4 h.5

  -- a text isn't made where memory runs out, or a row's schedule is too long
  pub long_fails : {T : Type 0} (f : TranslationFault) (k kept : ℕ) (judged slice : List Judged) (complete roomy : Bool)
      →
      (f ≡ translation.Memory) ⊎ (f ≡ translation.ResultTooLong) →
      AreGoodFor (code_of_image i) e.cells e.states →
      IsExploration i e.cells e.states e.order k judged kept complete roomy →
      slice ≡ judged →
      (IsErrOf {T = T} (Err f) translation.ResultTooLong → HasLong k (rows_of slice)) →
      GivesText (Explored i e) (Err (lifted_translation f))
  long_fails translation.Memory k kept judged slice complete roomy only good so is long = tt
  long_fails translation.BadCells k kept judged slice complete roomy (inl wrong) good so is long = absurd cc
  long_fails translation.BadCells k kept judged slice complete roomy (inr wrong) good so is long = absurd cc
  long_fails (translation.DoesNotFit step) k kept judged slice complete roomy (inl wrong) good so is long = absurd cc
  long_fails (translation.DoesNotFit step) k kept judged slice complete roomy (inr wrong) good so is long = absurd cc
  long_fails translation.ResultTooLong k kept judged slice complete roomy only good so is long =
      RowTooLong k judged kept complete roomy good so (subst (λ (js : List Judged). HasLong k (rows_of js)) is
      (long refl))

  pub explore_tells : (k : ℕ) (judged : List Judged) (kept : ℕ) (complete roomy : Bool) (t : Text) →
      AreGoodFor (code_of_image i) e.cells e.states →
      IsExploration i e.cells e.states e.order k judged kept complete roomy →
      IsExploredText (names_in i) (names_of_image i) k judged kept complete roomy e t → Explored i e (Ok t)
  explore_tells k judged kept complete roomy t good is said = Tells k judged kept complete roomy t good is said
