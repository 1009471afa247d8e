-- Where each state is fine, no call turns for ever that ends in calls that run one at a time.
use Rattle.std.proofs.Common.{◌≡◌, ◌⊎◌, inl, inr, ℕ, ◌+◌, ◌-◌, ◌<◌, Bool, true, List, [], ◌++◌, length}
use Rattle.std.proofs.Common.{map, Option, Some, sym, ap, ◌∙◌, subst, arith, replicate, append-nil}
use Rattle.std.specs.Prelude.{Contains, slice_get}
use Rattle.std.specs.List.{fold}
use Rattle.std.specs.declared.vec.Vec.{Vec}
use Rattle.std.specs.declared.alloc.Global.{Global}
use Rattle.std.proofs.lemmas.List.{length-map, replicate-append-replicate}
use Rattle.std.proofs.lemmas.Option.{get_or_from_slice_get}
use Rattle.ls_events.specs.declared.event.Event.{Event}
use Rattle.ls_checked.specs.CheckedTree.{File}
use Rattle.ls_checked.specs.CheckedProgram.{Program}
use Rattle.ls_meaning.specs.declared.step.Did.{Did}
use Rattle.ls_meaning.specs.declared.step.Did.TheVariants as did
use Rattle.ls_meaning.specs.Renamings.{IsRenaming}
use Rattle.ls_meaning.specs.Runs.{source_history, source_run, step}
use Rattle.ls_meaning.specs.Still.{IsActing, IsStill}
use Rattle.ls_search_laws.specs.Configuration.{configuration_of, stride}
use Rattle.ls_search_laws.specs.Noticing.{Noticed, noticed_of}
use Rattle.ls_search_laws.specs.Search.{IsFound}
use Rattle.ls_search_laws.specs.Stepping.{IsBefore, SetsUp}
use Rattle.ls_search_laws.proofs.Renamed.{step_stride, stride_other}
use Rattle.ls_search_laws.proofs.Search.{finds_all}
use Rattle.ls_search_laws.proofs.Stepping.{acts_within}
use Rattle.ls_search_laws.proofs.Telling.{long_of_all}
use Rattle.ls_transitions.specs.Tables.{Table}
use Rattle.ls_transitions.proofs.Keeping.{below, there}
use Rattle.ls_search.specs.declared.places.Node.{Node}
use Rattle.ls_search.specs.declared.places.Seen.{Seen}
use Rattle.ls_search.specs.Searched.{AreExpanded, IsOther, IsSound, noticed_at, pairs_at}
use Rattle.ls_search.specs.Strides.{at_once}
use Rattle.ls_search.proofs.Likeness.{other_same}
use Rattle.ls_search.proofs.Pairs.{map_from, map_there}
use Rattle.ls_source_rows.proofs.Rowing.{states_are}
use Rattle.ls_source_rows.proofs.Whole.{First, Found, Next, found, is_search, of_schedule, pairs}
use Rattle.ls_serial_search.specs.Endless.{AreEndlessRuns}
use Rattle.ls_serial_search.proofs.NeverEnding.{same_after}
use Rattle.ls_spinning.specs.Turning.{TurnsForEver}
use Rattle.ls_spinning.proofs.Hearing.{ahead_run, run_at, turns_later}
use Rattle.ls_spinning.proofs.Staying.{acts_before}
use Rattle.ls_endless_calls.specs.Laws.{AmongNeverEnds, NeverEndsSo}
use Rattle.ls_endless_calls.specs.Waits.{AreExcused, IsPending}
use Rattle.ls_endless_calls.specs.Breaking.{AreFine, AreThere, Breaks, IsFine}
use Rattle.ls_endless_calls.specs.Turning.{NoneTurnsUnexcused}
use Rattle.ls_endless_calls.proofs.Breaks.{breaks_other, not_endless}
use Rattle.ls_endless_calls.proofs.Excused.{AreMarked}

some_is : {A : Type 0} {x y : A} → Some x ≡ Some y → x ≡ y
some_is h = cc

not_acting : (d : Did) → IsStill d → IsActing d → ⊥
not_acting (did.Acted a x) still acts = absurd still
not_acting did.Waits still acts = absurd acts
not_acting did.Idle still acts = absurd acts

module _ (sfile : File) (sprogram : Program) (file : File) (program : Program) (k : ℕ) (up : SetsUp file program k)
    (t : Table) (histories : List (List Event)) (nodes : List Node)
    (sound : IsSound First Next file program (length program.threads) t (map Some histories) nodes)
    (begins : slice_get (pairs_at First t (map Some histories) nodes) 0 ≡
    Some (noticed_of First Next file program (replicate k 0)))
    (seen : List Seen)
    (expanded : AreExpanded First Next file program (pairs_at First t (map Some histories) nodes)
    (length program.threads) seen)
    (all : length seen ≡ length nodes) (runs : List (List Event)) (excused : List Bool)
    (marked : (i : ℕ) (h : List Event) → slice_get histories i ≡ Some h → slice_get excused i ≡ Some true →
    AreExcused runs h)
    (fine : AreFine file (length program.threads) t excused seen nodes (length nodes)) (among : AmongNeverEnds)
    (are : AreEndlessRuns sfile sprogram runs) where
  abbrev pub Pair : Type 0
  Pair = Noticed (Option (List Event))

  -- the state of a pair to which a schedule leads, but for names of objects, and with its history
  pub record IsAt (schedule : List ℕ) : Type 0 where
    pub pair : Pair
    pub there : Contains (pairs file program k up t histories nodes sound begins seen expanded all) pair
    pub other : IsOther pair.configuration (run_at file program schedule)
    pub noted : pair.noted ≡ (noticed_of First Next file program schedule).noted

  module _ (schedule : List ℕ) (turns : TurnsForEver file program schedule) (a : IsAt schedule) where
    f : Found file program k up t histories nodes sound begins seen expanded all a.pair
    f = found file program k up t histories nodes sound begins seen expanded all a.pair a.there

    pair_is : a.pair ≡ noticed_at First t (map Some histories) f.node.place
    pair_is = some_is (sym f.pair_is
        ∙ map_there (λ (n : Node). noticed_at First t (map Some histories) n.place) nodes f.at f.node f.node_is)

    -- a thread acts there
    acts_there : (t : ℕ) × (t < length program.threads) × IsActing (stride file a.pair.configuration t).did
    acts_there =
        let one = turns.acts [] in
        let acts : IsActing (step file program (source_run file program schedule) one.0).did =
        subst (λ (l : List ℕ). IsActing (step file program (source_run file program l) one.0).did)
        (append-nil schedule) one.1 in
        let state = source_run file program schedule in (
          one.0,
          acts_within file program state one.0 acts,
          acts_before a.other.names (stride file a.pair.configuration one.0).did
              (subst IsActing ((step_stride file program state (long_of_all file program schedule) one.0).0
              ∙ (stride_other file a.other.names a.other.renaming a.pair.configuration (run_at file program schedule)
              a.other.same one.0).did) acts),
        )

    by_fine : (c : Event) → IsPending (source_history file program schedule) c →
        IsFine file (length program.threads) t excused seen f.at f.node →
        NeverEndsSo sfile sprogram (source_history file program schedule) c
    by_fine c pending (inl still) =
        let s = expanded f.at a.pair still.0 f.pair_is still.1 in
        let acting = acts_there in
        absurd (not_acting (stride file a.pair.configuration acting.0).did (s.still still.2 acting.0 acting.1) acting.2)
    by_fine c pending (inr (inl flag)) =
        let noted_there = (sound.are f.at f.node f.node_is).noted_there in
        let h = there histories f.node.place.noted (omega (arith, noted_there, length-map histories (λ h. Some h))) in
        let is : h.0 ≡ source_history file program schedule =
        of_schedule file program k up t histories nodes sound begins seen expanded all schedule h.0
        (sym a.noted ∙ f.noted h.0 h.1) in
        among sfile sprogram runs (source_history file program schedule) c are
        (subst (AreExcused runs) is (marked f.node.place.noted h.0 h.1 flag) c pending)
    by_fine c pending (inr (inr breaks)) =
        absurd (not_endless file program breaks.0 schedule turns
        (breaks_other file (length program.threads) a.other.names a.other.renaming breaks.0 a.pair.configuration
        (run_at file program schedule) a.other.same
        (subst (λ (p : Pair). Breaks file (length program.threads) breaks.0 p.configuration) (sym pair_is) breaks.1)))

    pub here : (c : Event) → IsPending (source_history file program schedule) c →
        NeverEndsSo sfile sprogram (source_history file program schedule) c
    here c pending = by_fine c pending (fine f.at f.node (below nodes f.at f.node f.node_is) f.node_is)

  -- a call never ends so where it doesn't after more steps of which none has an event
  from_later : (schedule more : List ℕ) (c : Event) → TurnsForEver file program schedule →
      IsPending (source_history file program schedule) c →
      IsAt (schedule ++ more) →
      NeverEndsSo sfile sprogram (source_history file program schedule) c
  from_later schedule more c turns pending a =
      subst (λ (h : List Event). NeverEndsSo sfile sprogram h c) (turns.silent more)
      (here (schedule ++ more) (turns_later file program schedule more turns) a c
      (subst (λ (h : List Event). IsPending h c) (sym (turns.silent more)) pending))

  by_found : (schedule : List ℕ) (c : Event) → TurnsForEver file program schedule →
      IsPending (source_history file program schedule) c →
      IsFound at_once IsRenaming (λ m n. m ≡ n) file
      (pairs file program k up t histories nodes sound begins seen expanded all)
      (noticed_of First Next file program schedule) →
      NeverEndsSo sfile sprogram (source_history file program schedule) c
  by_found schedule c turns pending g = from_later schedule g.threads c turns pending (record {
    pair = g.pair;
    there = g.there;
    other = subst (IsOther g.pair.configuration) (sym (ahead_run file program g.threads schedule g.last g.leads))
        (record { names = g.names; renaming = g.allowed; same = g.same });
    noted = g.alike ∙ ap (λ (h : List Event). fold Next First h) (sym (turns.silent g.threads));
  })

  -- where the setup goes on, it leads to where the threads start
  by_before : (schedule : List ℕ) (c : Event) → TurnsForEver file program schedule →
      IsPending (source_history file program schedule) c →
      IsBefore file program k schedule →
      NeverEndsSo sfile sprogram (source_history file program schedule) c
  by_before schedule c turns pending b =
      let rest : ℕ = k - b.count in
      let whole : k ≡ b.count + rest = omega (arith, b.fewer) in
      let is : replicate {A = ℕ} k 0 ≡ replicate b.count 0 ++ replicate rest 0 =
      ap (λ n. replicate n 0) whole ∙ sym (replicate-append-replicate b.count rest 0) in
      let same = same_after file program schedule (replicate b.count 0) 0 b.state b.history rest in
      from_later schedule (replicate rest 0) c turns pending (record {
        pair = noticed_of First Next file program (replicate k 0);
        there = (
          0,
          below (pairs_at First t (map Some histories) nodes) 0 (noticed_of First Next file program (replicate k 0))
              begins,
          get_or_from_slice_get (pairs_at First t (map Some histories) nodes) 0
              (noticed_of First Next file program (replicate k 0)) (noticed_of First Next file program (replicate k 0))
              begins,
        );
        other = subst (IsOther (run_at file program (replicate k 0)))
            (ap (run_at file program) is ∙ ap (configuration_of file program) (sym same.0))
            (other_same (run_at file program (replicate k 0)));
        noted = ap (λ (l : List ℕ). fold Next First (source_history file program l)) is
            ∙ ap (λ (h : List Event). fold Next First h) (sym same.1);
      })

  pub none_turns : NoneTurnsUnexcused sfile sprogram file program
  none_turns schedule c turns pending =
      by_place (finds_all First Next at_once IsRenaming (λ m n. m ≡ n) file program k
      (pairs file program k up t histories nodes sound begins seen expanded all)
      (is_search file program k up t histories nodes sound begins seen expanded all) schedule)
    where
      by_place : IsFound at_once IsRenaming (λ m n. m ≡ n) file
          (pairs file program k up t histories nodes sound begins seen expanded all)
          (noticed_of First Next file program schedule)
          ⊎ IsBefore file program k schedule →
          NeverEndsSo sfile sprogram (source_history file program schedule) c
      by_place (inl g) = by_found schedule c turns pending g
      by_place (inr b) = by_before schedule c turns pending b

-- ---- what a search found

module _ (file : File) (program : Program) (t : Table) (values : List (Vec Event Global)) (nodes : List Node)
    (sound : IsSound First Next file program (length program.threads) t (map (λ v. Some v.items) values) nodes) where
  pub are_there : (lent : List Node) (threads : ℕ) → lent ≡ nodes → length program.threads ≡ threads →
      AreThere t lent threads
  are_there lent threads same many at node is =
      let one = sound.are at node (ap (λ (l : List Node). slice_get l at) (sym same) ∙ is) in
      (one.numbers, one.width ∙ many)

  pub none_left : (k : ℕ) → SetsUp file program k →
      slice_get (pairs_at First t (map (λ v. Some v.items) values) nodes) 0 ≡
      Some (noticed_of First Next file program (replicate k 0)) →
      (seen : List Seen) →
      AreExpanded First Next file program (pairs_at First t (map (λ v. Some v.items) values) nodes)
      (length program.threads) seen →
      length seen ≡ length nodes →
      (runs : List (List Event)) (lent : List (Vec Event Global)) (excused : List Bool) →
      lent ≡ values →
      AreMarked runs lent excused →
      AreFine t.file (length program.threads) t excused seen nodes (length nodes) →
      AmongNeverEnds →
      (sfile : File) (sprogram : Program) → AreEndlessRuns sfile sprogram runs →
      NoneTurnsUnexcused sfile sprogram file program
  none_left k up begins seen expanded all runs lent excused same marked fine among sfile sprogram are =
      let histories : List (List Event) = map (λ (v : Vec Event Global). v.items) values in
      let states = states_are values in
      none_turns sfile sprogram file program k up t histories nodes
      (subst (λ (l : List (Option (List Event))). IsSound First Next file program (length program.threads) t l nodes)
      states sound)
      (subst (λ (l : List (Option (List Event))). slice_get (pairs_at First t l nodes) 0 ≡
      Some (noticed_of First Next file program (replicate k 0))) states begins)
      seen
      (subst (λ (l : List (Option (List Event))). AreExpanded First Next file program (pairs_at First t l nodes)
      (length program.threads) seen) states expanded)
      all runs excused
      (λ i h there flag.
      let v = map_from (λ (v : Vec Event Global). v.items) values i h there in
      subst (AreExcused runs) v.2
      (marked i v.0 (ap (λ (l : List (Vec Event Global)). slice_get l i) same ∙ v.1) flag))
      (subst (λ (f : File). AreFine f (length program.threads) t excused seen nodes (length nodes)) sound.file_is fine)
      among are
