-- What it means that no pair is left after a history, by the table of a program.
use Rattle.std.proofs.Common.{◌≡◌, ◌∙◌, ◌||◌, Bool, true, false, not, List, [], ◌∷◌, ap, refl, subst, sym}
use Rattle.ls_events.specs.declared.event.Event.{Event}
use Rattle.ls_checked.specs.CheckedTree.{File}
use Rattle.ls_checked.specs.CheckedProgram.{Program}
use Rattle.ls_automaton.specs.Held.{first_held, goes_along}
use Rattle.ls_automaton.specs.Alike.{IsLike}
use Rattle.ls_automaton.specs.Automaton.{IsExplainedFrom}
use Rattle.ls_automaton.specs.Laws.{RunsAreOnce}
use Rattle.ls_automaton.specs.Tables.{Goes}
use Rattle.ls_automaton.proofs.Alike.{alike_explain, alike_runs}
use Rattle.ls_automaton.proofs.Ending.{noted_leaves}
use Rattle.ls_automaton.proofs.Joined.{IsJoined, IsJoinedBack, joined_back, joined_like}
use Rattle.ls_automaton.proofs.Numbers.{explained_within, is_explained, is_linearizable, numbers_once}
use Rattle.ls_linearizable.specs.Linearizable.{IsLinearizable}
use Rattle.ls_linearizable.specs.Once.{AreOnce}
use Rattle.ls_serial_search.specs.Told.{usual}
use Rattle.ls_source_judge.specs.Judged.{IsUnexplainedWithin}
use Rattle.ls_source_judge.proofs.Deciding.{bad_is_not, bad_not_within, good_is}
use Rattle.ls_serial_orders.specs.Placing.{ExplainsBy}
use Rattle.ls_specification.specs.Specification.{spec_file, spec_program}
use Rattle.ls_specification.specs.declared.Specification.{Specification}
use Rattle.ls_linearity.specs.Followed.{is_lost}
use Rattle.ls_linearity.specs.Judges.{Judges}
use Rattle.ls_linearity.specs.Laws.{IsDecided}
use Rattle.ls_linearity.specs.Meant.{IsMeant}
use Rattle.ls_linearity.specs.Tabled.{IsTableOf}
use Rattle.ls_linearity.specs.declared.judging.Linearity.{Linearity}
use Rattle.ls_linearity.specs.declared.judging.Linearity.TheVariants.{LongCall, NotLinearizable}
use Rattle.ls_linearity.specs.declared.judging.SerialJudge.{SerialJudge}
use Rattle.ls_linearity.specs.declared.table.SerialTable.{SerialTable}

-- what judges by a program as its own specification judges by the program
pub judges_own : (s : Specification) (file : File) (program : Program) (judge : SerialJudge) → spec_file s ≡ file →
    spec_program s ≡ program → Judges (spec_file s) (spec_program s) judge → Judges file program judge
judges_own s file program judge of_file of_program judges =
    subst (λ p. Judges file p judge) of_program (subst (λ f. Judges f (spec_program s) judge) of_file judges)

module _ (file : File) (program : Program) (t : SerialTable) (is : IsTableOf file program usual t) (h : List Event)
    (each : AreOnce h) where
  -- where one is left, the history is linearizable
  pub left_is : is_lost t.rows.items h ≡ false → IsLinearizable file program h
  left_is left =
      good_is file program usual.steps t.goes_on is.outcomes is.are t.rows.items is.merged h each left

  -- where none is left, it isn't, if no call goes on
  pub lost_is_not : t.goes_on ≡ false → is_lost t.rows.items h ≡ true → ¬ IsLinearizable file program h
  lost_is_not known lost =
      bad_is_not file program usual.steps t.goes_on is.outcomes is.are t.rows.items is.merged h each known lost

  -- and else no serial run within the bound explains it
  pub lost_within : t.goes_on ≡ true → is_lost t.rows.items h ≡ true → IsUnexplainedWithin file program usual.steps h
  lost_within long lost = record {
    long = is.long long;
    unexplained =
        bad_not_within file program usual.steps t.goes_on is.outcomes is.are t.rows.items is.merged h each lost;
  }

  -- whether none is left, by whether one is
  lost_by : (b : Bool) → goes_along t.rows.items h first_held ≡ b → is_lost t.rows.items h ≡ not (b || false)
  lost_by b along = noted_leaves t.rows.items (first_held ∷ []) h ∙ ap (λ x. not (x || false)) along

  pub decided : IsDecided file program t h
  decided = record {
    left = λ along. left_is (lost_by true along);
    exact = λ known linear. by_left known linear (goes_along t.rows.items h first_held) refl;
    within = λ long none. lost_within long (lost_by false none);
  }
    where
      by_left : t.goes_on ≡ false → IsLinearizable file program h → (b : Bool) →
          goes_along t.rows.items h first_held ≡ b → goes_along t.rows.items h first_held ≡ true
      by_left known linear true along = along
      by_left known linear false none = absurd (lost_is_not known (lost_by false none) linear)

-- ---- by a run along the table

module _ (file : File) (program : Program) (t : SerialTable) (is : IsTableOf file program usual t) (h : List Event)
  where
    abbrev joined : IsLike (Goes t.rows.items) 0 (Goes is.outcomes) 0 (IsJoinedBack is.outcomes t.rows.items is.merged)
    joined = joined_back is.outcomes t.rows.items is.merged

    -- no run has an event twice
    runs_once : RunsAreOnce (Goes t.rows.items) 0
    runs_once g last run =
        let r = alike_runs (Goes t.rows.items) 0 (Goes is.outcomes) 0 (IsJoinedBack is.outcomes t.rows.items is.merged)
        joined g last run in
        numbers_once file program usual.steps t.goes_on is.outcomes is.are g r.0 r.1

    -- what a run explains is linearizable
    pub explained_is : (run : List Event) → ExplainsBy t.rows.items h run → IsLinearizable file program h
    explained_is run e =
        is_linearizable file program usual.steps t.goes_on is.outcomes is.are h
        (alike_explain (Goes t.rows.items) 0 (Goes is.outcomes) 0 (IsJoinedBack is.outcomes t.rows.items is.merged)
        joined h (record { run = run; last = e.last; serially = e.serially; explains = e.explains }))

    -- no run explains it
    abbrev pub NoRun : Type 0
    NoRun = RunsAreOnce (Goes t.rows.items) 0 → IsExplainedFrom (Goes t.rows.items) 0 h → ⊥

    none_of_outcomes : NoRun → IsExplainedFrom (Goes is.outcomes) 0 h → ⊥
    none_of_outcomes none e =
        none runs_once (alike_explain (Goes is.outcomes) 0 (Goes t.rows.items) 0
        (IsJoined is.outcomes t.rows.items is.merged) (joined_like is.outcomes t.rows.items is.merged) h e)

    -- what is said of what none explains
    pub unexplained_is : (l : Linearity) → (t.goes_on ≡ true → l ≡ LongCall) →
        (t.goes_on ≡ false → l ≡ NotLinearizable) → NoRun → IsMeant file program h l
    unexplained_is l long known none = by_test t.goes_on refl
      where
        by_test : (b : Bool) → t.goes_on ≡ b → IsMeant file program h l
        by_test true goes = subst (IsMeant file program h) (sym (long goes)) (record {
          long = is.long goes;
          unexplained = λ e. none_of_outcomes none
              (explained_within file program usual.steps t.goes_on is.outcomes is.are h e);
        })
        by_test false ends = subst (IsMeant file program h) (sym (known ends)) (λ l. none_of_outcomes none
            (is_explained file program usual.steps t.goes_on is.outcomes is.are ends h l))
