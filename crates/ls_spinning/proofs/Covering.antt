-- Each run of a program is near to a state of the graph of its states, of which nothing is noted.
use Rattle.std.proofs.Common.{◌≡◌, ◌⊎◌, inl, inr, ◌<◌, ℕ, List, [], ◌∷◌, ◌++◌, None, fold, length, refl, sym, ap, ◌∙◌}
use Rattle.std.proofs.Common.{append-nil, append_assoc}
use Rattle.ls_checked.specs.CheckedTree.{File}
use Rattle.ls_checked.specs.CheckedProgram.{Program}
use Rattle.ls_meaning.specs.Runs.{source_run}
use Rattle.ls_graph.specs.Covering.{Covers}
use Rattle.ls_search_laws.specs.Configuration.{configuration_of, stride}
use Rattle.ls_search_laws.specs.Noticing.{noticed_of}
use Rattle.ls_search_laws.proofs.Stepping.{one_more}
use Rattle.ls_search_laws.proofs.Telling.{long_of_all}
use Rattle.ls_search.specs.Near.{IsNear, Run, run_after}
use Rattle.ls_search.specs.Searched.{HidesNames}
use Rattle.ls_search.specs.Space.{GoesTo, Rests}
use Rattle.ls_search.proofs.Covering.{run_of}
use Rattle.ls_search.proofs.Likeness.{other_same}
use Rattle.ls_search.proofs.Nearness.{covered, Covered, Goes, not_both}
use Rattle.ls_spinning.specs.Mute.{no_note, nothing_noted}
use Rattle.ls_spinning.specs.States.{Place}

hides : HidesNames nothing_noted
hides names is m e = refl

module _ (file : File) (program : Program) where
  abbrev pub Near : Place → Run → Type 0
  Near = IsNear tt nothing_noted file program

  abbrev pub Resting : Place → ℕ → Type 0
  Resting = Rests tt nothing_noted file program no_note None

  abbrev pub Leading : Place → ℕ → ℕ → Place → Type 0
  Leading = GoesTo tt nothing_noted file program

  abbrev pub after : Run → ℕ → Run
  after = run_after file program

  -- what a step of a run comes to
  abbrev Step : Place → Run → ℕ → Type 0
  Step q r t =
      Near q (after r t)
      ⊎ ((t < length program.threads) × (Resting q t → Near q (after r t))
      × ((m : ℕ) (q' : Place) → Leading q t m q' → Near q' (after r t)))

  covers_step : (q : Place) (r : Run) (t : ℕ) → Near q r → Step q r t
  covers_step q r t near = by_case (covered tt nothing_noted hides file program q r t near)
    where
      by_rest : Goes tt nothing_noted hides file program q r t → Resting q t → Near q (after r t)
      by_rest go (inl still) = absurd (not_both (stride file q.configuration t).did go.acts still)
      by_rest go (inr is) = absurd is

      by_case : Covered tt nothing_noted hides file program q r t → Step q r t
      by_case (inl still) = inl still
      by_case (inr go) = inr (go.within, by_rest go, λ m q' to. go.near m q' to)

  pub covers : Covers Resting Leading Near after (length program.threads)
  covers = record { step = covers_step }

  pub near_start : Near (noticed_of tt nothing_noted file program []) (run_of file program [])
  near_start =
      let same = other_same (configuration_of file program (source_run file program [])) in record {
        long = long_of_all file program [];
        threads = [];
        last = configuration_of file program (source_run file program []);
        leads = refl;
        names = same.names;
        renaming = same.renaming;
        same = same.same;
        noted = refl;
      }

  step_on : (s : List ℕ) (u : ℕ) → after (run_of file program s) u ≡ run_of file program (s ++ u ∷ [])
  step_on s u =
      let more = one_more file program s u in
      λ i. record { state = sym more.state i; history = sym more.history i }

  -- a run that goes on is that of the longer schedule
  pub runs_on : (us s : List ℕ) → fold after (run_of file program s) us ≡ run_of file program (s ++ us)
  runs_on [] s = ap (run_of file program) (sym (append-nil s))
  runs_on (u ∷ us) s =
      ap (λ r. fold after r us) (step_on s u)
      ∙ runs_on us (s ++ u ∷ [])
      ∙ ap (run_of file program) (append_assoc s (u ∷ []) us)
