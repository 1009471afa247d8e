-- What the rows tell of the file and the program of an image.
use Rattle.std.proofs.Common.{◌≡◌, ℕ, List, [], ◌∷◌, ◌++◌, length, map, replicate, refl, sym, ap, ◌∙◌, subst, arith}
use Rattle.std.proofs.Common.{append-nil, slice_get, zero, suc, true, false}
use Rattle.std.specs.Prelude.{Contains, Err, IfOk, IsSorted, Ok, Result}
use Rattle.std.proofs.Math.Logic.{∥∥₁_elim}
use Rattle.std.proofs.Props.{props}
use Rattle.ls_events.specs.declared.value.Value.{Value}
use Rattle.ls_checked.specs.CheckedTree.{File}
use Rattle.ls_checked.specs.CheckedProgram.{Program}
use Rattle.ls_meaning.specs.Steps.{Entry}
use Rattle.ls_meaning.specs.Runs.{source_run, source_history, source_trace}
use Rattle.ls_code.specs.Code.{Code}
use Rattle.ls_code.specs.Machine.{Entry as MachineEntry, loaded, machine_run, machine_trace, setup_ended}
use Rattle.ls_preservation.specs.Same.{Fits, IsCells}
use Rattle.ls_preservation.specs.Translations.{to_source}
use Rattle.ls_preservation.specs.Acting.{ActsInTime}
use Rattle.ls_linker.specs.Runs.{Runs}
use Rattle.ls_translation.specs.RoundTrips.{acting_steps}
use Rattle.ls_translation.proofs.Promises.{back_history}
use Rattle.ls_preservation.specs.InWords.{births, in_words, numbered}
use Rattle.ls_explore.specs.Ends.{HasSteps}
use Rattle.ls_meaning.specs.Still.{IsOver}
use Rattle.ls_explore.specs.Explored.{HasHistories, IsSetUp}
use Rattle.ls_explore.specs.Room.{StaysWithin, StopsForRoom}
use Rattle.ls_explore.specs.Stuck.{IsAllOf}
use Rattle.ls_explore.specs.declared.rows.Ending.TheVariants as ending
use Rattle.ls_explore.specs.Rows.{AreApart, IsEnd, IsToldBy, NoneEnds, StandAlone, TellStates, TellsActs, TellsAll}
use Rattle.ls_explore.specs.Rows.{TellsEnds, TellsFits, TellsFull, TellsNarrow, TellsOver, TellsStates, TellsTruth}
use Rattle.ls_explore.specs.Rows.{TellsWhole, Told, row_order}
use Rattle.ls_explore.specs.Settings.{EndsAt}
use Rattle.ls_explore.specs.Tellings.{AllFit, AreFull, IsNarrow, TellAll, TellTruth, TellWhole}

pub same_threads : (file : File) (program : Program) (code : Code) →
    ∥ Runs file program code ∥₁ →
    length code.starts ≡ length program.threads
same_threads file program code runs = ∥∥₁_elim runs (hlevel props) (λ r. r.same.threads)

-- each schedule of the machine has the threads of its source's trace
entry_threads : (ρ : ℕ → ℕ) (es : List (Entry Value)) →
    map (λ (f : MachineEntry). f.thread) (map (in_words ρ) es) ≡ map (λ (e : Entry Value). e.thread) es
entry_threads ρ [] = refl
entry_threads ρ (e ∷ es) = ap (λ l. e.thread ∷ l) (entry_threads ρ es)

steps_prop : (xs ys : List ℕ) → IsProp (xs ≡ ys)
steps_prop xs ys = hlevel props

pub has_steps : (file : File) (program : Program) (code : Code) (cells : ℕ) →
    ∥ Runs file program code ∥₁ →
    IsCells code cells →
    HasSteps file program code cells
has_steps file program code cells runs good steps =
    ∥∥₁_elim runs (steps_prop _ _)
    (λ r. ap (map (λ (f : MachineEntry). f.thread)) (r.same.back cells good steps).traces
    ∙ entry_threads (numbered (births (machine_trace (loaded code cells) steps)))
    (source_trace file program (to_source code cells steps)))

module _ (file : File) (program : Program) (code : Code) (cells : ℕ) (runs : ∥ Runs file program code ∥₁)
    (good : IsCells code cells) where
  has_histories : HasHistories file program code cells
  has_histories steps = sym (back_history file program code cells runs good steps (to_source code cells steps) refl)

  -- a machine that has been set up by steps of the same acts
  pub is_set_up : (k : ℕ) (steps : List ℕ) →
      EndsAt file program k →
      to_source code cells steps ≡ acting_steps file program (replicate k 0) →
      (machine_run (loaded code cells) steps).stopped ≡ false →
      setup_ended (slice_get (machine_run (loaded code cells) steps).threads 0) ≡ true →
      IsSetUp file program code cells k (machine_run (loaded code cells) steps)
  is_set_up k steps ends acting goes ready = record {
    steps = steps;
    reached = refl;
    acting = acting ∙ ends.acts;
    goes = goes;
    ready = ready;
    ended = ends.ended;
    before = ends.before;
  }

  module _ (setup : List ℕ) (k threads : ℕ) (rows : List Told) (acts : ActsInTime file program code)
      (up : IsSetUp file program code cells k (machine_run (loaded code cells) setup))
      (count : length program.threads ≡ threads) where
    pub tell_truth : TellsTruth code cells setup rows →
        TellsActs code cells setup rows →
        TellsOver code cells setup threads rows →
        TellTruth file program k rows
    tell_truth told does over = record {
      told = λ r there. told file program k has_histories up r there;
      acts = λ r there. (does file program k (has_steps file program code cells runs good) up r there).0;
      goes = λ r there is. (does file program k (has_steps file program code cells runs good) up r there).1 is;
      over = λ r there is. over file program k good acts up count r there is;
    }

    pub tell_fits : TellsFits code cells setup rows →
        StaysWithin file program code →
        AllFit file program cells k rows
    tell_fits fits stays = λ r there. fits file program k good stays up r there

    pub tell_full : TellsFull code cells setup threads rows →
        StopsForRoom file program code →
        AreFull file program cells k rows
    tell_full full stops = λ r there out. full file program k good acts stops up count r there out

    pub tell_narrow : TellsNarrow code cells setup → StopsForRoom file program code → IsNarrow file program cells
    tell_narrow narrow stops = narrow file program k good stops up

    pub tell_states : (states : ℕ) → TellsStates code cells setup rows states → TellStates file program k rows states
    tell_states states tells = tells file program k has_histories (has_steps file program code cells runs good) up

    pub tell_all : TellsAll code cells setup threads rows →
        TellsEnds code cells setup threads rows →
        TellAll file program cells rows
    tell_all tells ends = record {
      begun = λ schedule fits. tells file program k good acts has_histories up count schedule fits;
      ended = λ schedule fits over. ends file program k good acts has_histories
          (has_steps file program code cells runs good) up count schedule fits over;
    }

    pub tell_whole : TellsWhole code cells setup threads rows → TellWhole file program rows
    tell_whole tells = record {
      begun = λ schedule. (tells file program k good acts has_histories (has_steps file program code cells runs good) up
          count schedule).0;
      ended = λ schedule over. (tells file program k good acts has_histories
          (has_steps file program code cells runs good) up count schedule).1 over;
    }

-- ---- the one row of a setup that is stuck

one_there : {A : Type 0} (x y : A) → Contains (x ∷ []) y → x ≡ y
one_there x y (zero, lt, e) = e
one_there x y (suc k, lt, e) = absurd (omega arith)

is_there : {A : Type 0} (x : A) → Contains (x ∷ []) x
is_there x = (0, omega arith, refl)

module _ (file : File) (program : Program) (k : ℕ) (all : IsAllOf file program k) (row : Told) (no_path : row.path ≡ [])
    (has : row.history ≡ source_history file program (replicate k 0)) (over : row.ending ≡ ending.Over) where
  of_row : (r : Told) → Contains (row ∷ []) r → replicate k 0 ++ r.path ≡ replicate k 0
  of_row r there = ap (λ (z : Told). replicate k 0 ++ z.path) (sym (one_there row r there)) ∙
      ap (λ p. replicate k 0 ++ p) no_path ∙ append-nil (replicate k 0)

  pub stuck_truth : map (λ (e : Entry Value). e.thread) (source_trace file program (replicate k 0)) ≡ replicate k 0 →
      TellTruth file program k (row ∷ [])
  stuck_truth does = record {
    acts = λ r there.
        subst (λ ts. map (λ (e : Entry Value). e.thread) (source_trace file program ts) ≡ ts) (sym (of_row r there))
        does;
    goes = λ r there is.
        let wrong : ending.Over ≡ ending.GoesOn = sym over ∙ ap (λ (z : Told). z.ending) (one_there row r there) ∙ is in
        absurd cc;
    told = λ r there. ap (λ (z : Told). z.history) (sym (one_there row r there)) ∙ has ∙
        ap (source_history file program) (sym (of_row r there));
    over = λ r there is. subst (λ ts. IsOver file program (source_run file program ts)) (sym (of_row r there)) all.over;
  }

  pub stuck_states : map (λ (e : Entry Value). e.thread) (source_trace file program (replicate k 0)) ≡ replicate k 0 →
      TellStates file program k (row ∷ []) 1
  stuck_states acts = record {
    paths = [] ∷ [];
    many = refl;
    apart = λ i j d less within. absurd (omega arith);
    acts = λ path there.
        subst (λ (p : List ℕ). map (λ (e : Entry Value). e.thread) (source_trace file program (replicate k 0 ++ p)) ≡
        replicate k 0 ++ p) (one_there [] path there)
        (ap (λ ts. map (λ (e : Entry Value). e.thread) (source_trace file program ts)) (append-nil (replicate k 0)) ∙
        acts ∙ sym (append-nil (replicate k 0)));
    told = λ path there.
        subst (λ (p : List ℕ). IsToldBy (row ∷ []) (source_history file program (replicate k 0 ++ p)))
        (one_there [] path there)
        (record {
          row = row;
          there = is_there row;
          begins = (
            [],
            append-nil (source_history file program (replicate k 0 ++ [])) ∙
                ap (source_history file program) (append-nil (replicate k 0)) ∙ sym has,
          );
        });
    own = λ r there.
        subst (Contains ([] ∷ [])) (sym no_path ∙ ap (λ (z : Told). z.path) (one_there row r there)) (is_there []);
  }

  pub stuck_fits : (cells : ℕ) → Fits file program cells (replicate k 0) → AllFit file program cells k (row ∷ [])
  stuck_fits cells fits r there = subst (Fits file program cells) (sym (of_row r there)) fits

  ending_is : (r : Told) → Contains (row ∷ []) r → r.ending ≡ ending.Over
  ending_is r there = ap (λ (z : Told). z.ending) (sym (one_there row r there)) ∙ over

  pub stuck_full : (cells : ℕ) → AreFull file program cells k (row ∷ [])
  stuck_full cells r there out =
      let wrong : ending.Over ≡ ending.OutOfCells = sym (ending_is r there) ∙ out in absurd cc

  pub stuck_seen : NoneEnds ending.NotSeen (row ∷ [])
  stuck_seen r there is = let wrong : ending.Over ≡ ending.NotSeen = sym (ending_is r there) ∙ is in cc

  pub stuck_alone : StandAlone (row ∷ [])
  stuck_alone r s r_there s_there unended begins =
      ap (λ (z : Told). z.history) (sym (one_there row r r_there) ∙ one_there row s s_there)

  pub stuck_whole : TellWhole file program (row ∷ [])
  stuck_whole = record {
    begun = λ schedule. let b = all.begins schedule in record
        { row = row; there = is_there row; begins = (b.0, b.1 ∙ sym has) };
    ended = λ schedule ends. record {
      row = row;
      there = is_there row;
      same = has ∙ sym (all.whole schedule ends);
      ends = subst IsEnd (sym over) tt;
    };
  }

-- what is told of all schedules is told of those that fit
pub all_of_whole : (file : File) (program : Program) (cells : ℕ) (rows : List Told) →
    TellWhole file program rows →
    TellAll file program cells rows
all_of_whole file program cells rows h = record {
  begun = λ schedule fits. h.begun schedule;
  ended = λ schedule fits over. h.ended schedule over;
}

-- what holds of what came out well
pub ok_so : {A E : Type 0} {P Q : A → Type 0} (r : Result A E) → IfOk r P → ((x : A) → P x → Q x) → IfOk r Q
ok_so (Ok x) p so = so x p
ok_so (Err e) p so = tt

-- one row alone is apart from the others, and in order
pub one_apart : (rows : List Told) (row : Told) → rows ≡ row ∷ [] → AreApart rows
one_apart rows row e = subst AreApart (sym e) (λ i j d less within. absurd (omega arith))

pub one_in_order : (rows : List Told) (row : Told) → rows ≡ row ∷ [] → IsSorted row_order rows
one_in_order rows row e = subst (IsSorted row_order) (sym e) (λ k d low within. absurd (omega arith))
