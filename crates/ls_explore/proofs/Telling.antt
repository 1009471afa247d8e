-- Rows for all that paths lead to.
use Rattle.std.proofs.Common.{◌≡◌, ◌≢◌, ℕ, ◌+◌, ◌<◌, Bool, true, false, List, [], ◌∷◌, ◌++◌, length, map}
use Rattle.std.proofs.Common.{replicate, get_or, Option, None, Some, refl, sym, ap, ◌∙◌, subst, arith}
use Rattle.std.proofs.Common.{append_assoc, slice_get}
use Rattle.std.specs.Prelude.{Contains}
use Rattle.std.specs.List.{All}
use Rattle.std.proofs.lemmas.List.{length-map}
use Rattle.ls_events.specs.Beginnings.{IsBeginning}
use Rattle.ls_events.specs.declared.event.Event.{Event}
use Rattle.ls_events.specs.declared.value.Value.{Value}
use Rattle.ls_checked.specs.CheckedTree.{File}
use Rattle.ls_checked.specs.CheckedProgram.{Program}
use Rattle.ls_meaning.specs.Steps.{Entry}
use Rattle.ls_meaning.specs.Runs.{source_history, source_run, source_trace, step}
use Rattle.ls_meaning.specs.Still.{IsActing}
use Rattle.ls_code.specs.Code.{Code}
use Rattle.ls_code.specs.Machine.{Machine, loaded, machine_run}
use Rattle.ls_code.specs.declared.step.Did.{Did}
use Rattle.ls_code.specs.declared.step.Did.TheVariants as did
use Rattle.ls_preservation.specs.Same.{Fits, IsCells}
use Rattle.ls_preservation.specs.Translations.{most_silent, to_source}
use Rattle.ls_preservation.proofs.Lists.{get_within, get_there, get_map, index_there}
use Rattle.ls_preservation.specs.Acting.{first_did}
use Rattle.ls_explore.specs.Bursts.{ActsAlong, IsClosed, burst}
use Rattle.ls_explore.specs.Ends.{AreQuiet, HasSteps, IsEnd as IsEndOf, IsQuiet}
use Rattle.ls_explore.specs.Explored.{IsRoomy, IsSetUp, IsShown}
use Rattle.ls_explore.specs.Room.{LacksRoom, StopsForRoom}
use Rattle.ls_explore.proofs.Along.{along_is, along_more, leads_as_source, ready_along, whole_run, whole_source}
use Rattle.ls_explore.proofs.Covering.{covers_all, covers_whole}
use Rattle.ls_explore.proofs.Endings.{ends_all, ends_whole, stands_still_along}
use Rattle.ls_explore.proofs.Lacking.{is_there, lacks, unfit}
use Rattle.ls_explore.proofs.Open.{IsReady}
use Rattle.ls_explore.specs.declared.rows.Ending.TheVariants as ending
use Rattle.ls_explore.specs.declared.searching.Seen.{Seen}
use Rattle.ls_explore.specs.Listed.{TellListed}
use Rattle.ls_explore.specs.Walks.{has_acted, led_to, walked}
use Rattle.ls_explore.specs.Searches.{IsSeen, IsSound, StandOnce}
use Rattle.ls_explore.specs.Rows.{ActAll, EndsAs, HasEnd, IsTold, IsToldBy, NoneEnds, Told, ending_of, ending_of_seen}
use Rattle.ls_explore.specs.Rows.{TellsActs, TellsAll, TellsEnds, TellsFits, TellsFull, TellsNarrow, TellsOver}
use Rattle.ls_explore.specs.Rows.{TellsStates, TellsTruth, TellsWhole}
use Rattle.ls_explore.proofs.Closing.{index_get, there_at}
use Rattle.ls_explore.proofs.Walks.{burst_first}

no_some : {A : Type 0} {x : A} → None ≡ Some x → ⊥
no_some h = cc

-- ---- how a row ends

quiet_first : (d : Did) → (has_acted d ≡ true → ⊥) → (d ≡ did.Stopped → ⊥) → IsQuiet d
quiet_first (did.Acted a x) acts stops = acts refl
quiet_first did.Stopped acts stops = stops refl
quiet_first did.Silent acts stops = tt
quiet_first did.Waits acts stops = tt
quiet_first did.Idle acts stops = tt

ends_as : (n threads : ℕ) (m : Machine) (s : Seen) →
    IsSeen n threads m s →
    EndsAs n threads m (ending_of_seen s.acts s.stops)
ends_as n threads m s h = by_flags s.acts s.stops refl refl
  where
    by_flags : (a b : Bool) → s.acts ≡ a → s.stops ≡ b → EndsAs n threads m (ending_of_seen a b)
    by_flags true b ea eb = h.acting ea
    by_flags false true ea eb = (h.quiet ea, h.full eb)
    by_flags false false ea eb = λ t lt.
        quiet_first (first_did n m t) (λ acts. let b = burst_first n m t (first_did n m t) refl acts in
        no_some (sym (h.quiet ea t lt) ∙ b.1)) (h.roomy eb t lt)

ends_as_seen : (n threads : ℕ) (m : Machine) (o : Option Seen) →
    ((s : Seen) → o ≡ Some s → IsSeen n threads m s) →
    EndsAs n threads m (ending_of o)
ends_as_seen n threads m None h = tt
ends_as_seen n threads m (Some s) h = ends_as n threads m s (h s refl)

seen_by : (acts stops : Bool) → ending_of_seen acts stops ≢ ending.NotSeen
seen_by true stops e = cc
seen_by false true e = cc
seen_by false false e = cc

-- a machine that the paths lead to is one behind one of them
path_to : (n : ℕ) (root : Machine) (paths : List (List ℕ)) (m : Machine) →
    Contains (led_to n root paths) m →
    (j : ℕ) × (path : List ℕ) × (slice_get paths j ≡ Some path) × (walked n root path ≡ m)
path_to n root paths m there =
    let within : there.0 < length paths = omega (arith, there.1, length-map paths (walked n root)) in
    let f = get_there paths there.0 within in
    let of_map : slice_get (led_to n root paths) there.0 ≡ Some (walked n root f.0) = get_map (walked n root) paths
    there.0 f.0 f.1 in
    (there.0, f.0, f.1, sym (index_there (led_to n root paths) there.0 (walked n root f.0) m of_map) ∙ there.2)

told_by : (rows : List Told) (h g : List Event) → IsBeginning h g → IsToldBy rows g → IsToldBy rows h
told_by rows h g begins r =
    record {
      row = r.row;
      there = r.there;
      begins = (
        begins.0 ++ r.begins.0,
        sym (append_assoc h begins.0 r.begins.0) ∙
            ap (λ l. l ++ r.begins.0) begins.1 ∙ r.begins.1,
      );
    }

-- ---- what the rows tell of the source

module _ (code : Code) (cells : ℕ) (setup : List ℕ) (threads n : ℕ) (root : Machine)
    (en : n ≡ most_silent code + 1) (er : root ≡ machine_run (loaded code cells) setup) (paths : List (List ℕ))
    (seen : List Seen) (sound : IsSound n threads root paths seen) where
  -- a path, as steps of the machine and of the source
  pub record IsWalked (file : File) (program : Program) (k : ℕ) (path : List ℕ) (m : Machine) : Type 0 where
    pub steps : List ℕ
    pub to : machine_run (loaded code cells) steps ≡ m
    pub source : to_source code cells steps ≡ replicate k 0 ++ path
    pub ready : IsReady m

  pub is_walked : (file : File) (program : Program) (k : ℕ) →
      IsSetUp file program code cells k (machine_run (loaded code cells) setup) →
      (path : List ℕ) (m : Machine) →
      ActsAlong n root path m →
      IsWalked file program k path m
  is_walked file program k up path m along =
      let up' : IsSetUp file program code cells k root = subst (IsSetUp file program code cells k) (sym er) up in
      let r = along_is n root path m along in
      record {
        steps = up'.steps ++ r.steps;
        to = whole_run code cells up'.steps root path m up'.reached r;
        source = whole_source code cells up'.steps root (replicate k 0) path m up'.reached up'.acting r;
        ready = ready_along n root path m (record { goes = up'.goes; ready = up'.ready }) along;
      }

  -- where a thread stops the machine behind a path, its next step of the source lacks room
  lacks_room : (file : File) (program : Program) (k : ℕ) →
      IsCells code cells →
      StopsForRoom file program code →
      (path : List ℕ) (m : Machine) →
      IsWalked file program k path m →
      (t : ℕ) →
      first_did n m t ≡ did.Stopped →
      LacksRoom program cells (step file program (source_run file program (replicate k 0 ++ path)) t)
  lacks_room file program k within stops path m w t stopped =
      subst (λ ts. LacksRoom program cells (step file program (source_run file program ts) t)) w.source
      (stops cells within w.steps (ap (λ (z : Machine). z.stopped) w.to ∙ w.ready.goes) n t
      (ap (λ z. first_did n z t) w.to ∙ stopped))

  -- where some thread was seen to stop the machine, some schedule doesn't fit
  pub tells_narrow : (s : Seen) → Contains seen s → s.stops ≡ true → TellsNarrow code cells setup
  tells_narrow s there stops_so = λ file program k within stops up.
      let j : ℕ = there.0 in
      let at : slice_get seen j ≡ Some s = index_get seen j s s there.1 there.2 in
      let p = get_there paths j (omega (arith, there.1, sound.few)) in
      let w = is_walked file program k up p.0 (walked n root p.0) (sound.acts j p.0 p.1) in
      let full = (sound.known j p.0 s p.1 at).full stops_so in
      let short = lacks_room file program k within stops p.0 (walked n root p.0) w full.0 full.2 in (
        (replicate k 0 ++ p.0) ++ full.0 ∷ [],
        unfit file program cells (replicate k 0 ++ p.0) full.0 short.0 short.1,
      )

  module _ (rows : List Told) (told : TellListed n root paths seen rows) where
    -- what a row says of its path
    told_row : (r : Told) → Contains rows r → IsTold n threads root r
    told_row r there =
        let o = told.own r there in (
          walked n root r.path,
          sound.acts o.0 r.path o.1.here,
          o.1.history,
          subst (EndsAs n threads (walked n root r.path)) (sym o.1.ending)
              (ends_as_seen n threads (walked n root r.path) (slice_get seen o.0)
              (λ s at. sound.known o.0 r.path s o.1.here at)),
        )

    -- each row tells of a schedule of the source
    pub tells_truth : TellsTruth code cells setup rows
    tells_truth = λ file program k histories up r there.
        let t = told_row r there in
        t.2 ∙ leads_as_source file program code cells k n root t.0 r.path histories
        (subst (IsSetUp file program code cells k) (sym er) up) t.1

    -- and where it is over, nothing comes after that
    pub tells_over : TellsOver code cells setup threads rows
    tells_over = λ file program k within acts up count r there over.
        let t = told_row r there in
        let along : ActsAlong (most_silent code + 1) root r.path t.0 = subst (λ j. ActsAlong j root r.path t.0) en t.1
        in
        let quiet : AreQuiet n threads t.0 = subst (EndsAs n threads t.0) over t.3 in
        let quiet' : AreQuiet (most_silent code + 1) (length program.threads) t.0 =
        subst (λ j. AreQuiet j (length program.threads) t.0) en (subst (λ z. AreQuiet n z t.0) (sym count) quiet) in
        stands_still_along file program code cells k root t.0 r.path within acts
        (subst (IsSetUp file program code cells k) (sym er) up) along quiet'

    -- and fits the cells
    pub tells_fits : TellsFits code cells setup rows
    tells_fits = λ file program k within stays up r there.
        let t = told_row r there in
        let w = is_walked file program k up r.path t.0 t.1 in
        subst (Fits file program cells) w.source (stays cells within w.steps)

    -- and where it is out of cells, some thread acts next, and none has room
    pub tells_full : TellsFull code cells setup threads rows
    tells_full = λ file program k within acts stops up count r there out.
        let t = told_row r there in
        let w = is_walked file program k up r.path t.0 t.1 in
        let ends = subst (EndsAs n threads t.0) out t.3 in
        record {
          thread = ends.1.0;
          acts = (lacks_room file program k within stops r.path t.0 w ends.1.0 ends.1.2).0;
          lacks = λ u is.
              subst (λ ts. ¬ Fits file program cells (ts ++ u ∷ [])) w.source
              (lacks file program code cells within acts w.steps (subst IsReady (sym w.to) w.ready) u
              (ap (λ z. burst (most_silent code + 1) z u) w.to ∙ ap (λ j. burst j t.0 u) (sym en) ∙
              ends.0 u (subst (λ z. u < z) count (is_there file program (replicate k 0 ++ r.path) u is)))
              (subst (λ ts. IsActing (step file program (source_run file program ts) u).did) (sym w.source) is));
        }

    -- each step along a path acts in the source
    act_all : (file : File) (program : Program) (k : ℕ) →
        HasSteps file program code cells →
        IsSetUp file program code cells k (machine_run (loaded code cells) setup) →
        (path : List ℕ) (m : Machine) →
        ActsAlong n root path m →
        ActAll file program (replicate k 0 ++ path)
    act_all file program k has_steps up path m along =
        let w = is_walked file program k up path m along in
        ap (λ ts. map (λ (e : Entry Value). e.thread) (source_trace file program ts)) (sym w.source) ∙
        sym (has_steps w.steps) ∙ w.source

    pub tells_acts : TellsActs code cells setup rows
    tells_acts = λ file program k has_steps up r there.
        let t = told_row r there in (
          act_all file program k has_steps up r.path t.0 t.1,
          λ goes.
              let more = subst (EndsAs n threads t.0) goes t.3 in (
                more.0,
                subst (ActAll file program) (sym (append_assoc (replicate k 0) r.path (more.0 ∷ [])))
                    (act_all file program k has_steps up (r.path ++ more.0 ∷ []) more.2.0
                    (along_more n root t.0 more.2.0 r.path more.0 t.1 more.2.1)),
              ),
        )

    -- the paths themselves tell of schedules of the source, and the rows of these
    pub tells_states : (states : ℕ) → length paths ≡ states → StandOnce paths → TellsStates code cells setup rows states
    tells_states states many once = λ file program k histories has_steps up. record {
      paths = paths;
      many = many;
      apart = λ j l d less within. λ same.
          let e : j ≡ l = once j l (get_or paths l d) (index_get paths j d (get_or paths l d) (omega arith) same)
          (index_get paths l d (get_or paths l d) within refl) in
          absurd (omega arith);
      acts = λ path there.
          act_all file program k has_steps up path (walked n root path) (sound.acts there.0 path (at path there));
      told = λ path there.
          subst (IsToldBy rows) (leads_as_source file program code cells k n root (walked n root path) path histories
          (subst (IsSetUp file program code cells k) (sym er) up) (sound.acts there.0 path (at path there)))
          (told.covers there.0 path (at path there));
      own = λ r there. let o = told.own r there in there_at paths o.0 r.path o.1.here;
    }
      where
        at : (path : List ℕ) → (there : Contains paths path) → slice_get paths there.0 ≡ Some path
        at path there = index_get paths there.0 path path there.1 there.2

    module _ (all_seen : length seen ≡ length paths) where
      -- of each row it was seen how it ends
      pub tells_seen : NoneEnds ending.NotSeen rows
      tells_seen r there is =
          let o = told.own r there in
          let s = get_there seen o.0 (omega (arith, get_within paths o.0 r.path o.1.here, all_seen)) in
          seen_by s.0.acts s.0.stops (ap ending_of (sym s.1) ∙ sym o.1.ending ∙ is)

      module _ (first : Contains (led_to n root paths) root) (closed : IsClosed n threads (led_to n root paths)) where
        closed_for : (count : ℕ) → count ≡ threads → IsClosed (most_silent code + 1) count (led_to n root paths)
        closed_for count e = subst (λ j. IsClosed j count (led_to n root paths)) en
            (subst (λ t. IsClosed n t (led_to n root paths)) (sym e) closed)

        begun_by : (m : Machine) →
            Contains (led_to n root paths) m →
            (h : List Event) →
            IsBeginning h m.history →
            IsToldBy rows h
        begun_by m there h shows =
            let p = path_to n root paths m there in
            told_by rows h m.history shows (subst (λ (z : Machine). IsToldBy rows z.history) p.3
            (told.covers p.0 p.1 p.2))

        -- rows for all that closed paths lead to tell of all schedules
        pub tells_all : TellsAll code cells setup threads rows
        tells_all = λ file program k within acts histories up count schedule fits.
            let up' : IsSetUp file program code cells k root = subst (IsSetUp file program code cells k) (sym er) up in
            let s : IsShown file program (led_to n root paths) schedule = covers_all file program code cells k root
            (led_to n root paths) within acts histories up' first (closed_for (length program.threads) count)
            schedule fits in
            begun_by s.machine s.there (source_history file program schedule) s.shows

        -- what is seen of a machine that the paths lead to
        seen_of : (m : Machine) →
            Contains (led_to n root paths) m →
            (j : ℕ) × (path : List ℕ) × (s : Seen) × (slice_get paths j ≡ Some path) × (slice_get seen j ≡ Some s) ×
            (walked n root path ≡ m) × IsSeen n threads m s
        seen_of m there =
            let p = path_to n root paths m there in
            let lt : p.0 < length seen = omega (arith, all_seen, get_within paths p.0 p.1 p.2) in
            let s = get_there seen p.0 lt in
            (p.0, p.1, s.0, p.2, s.1, p.3, subst (λ z. IsSeen n threads z s.0) p.3 (sound.known p.0 p.1 s.0 p.2 s.1))

        seen_roomy : All (λ (s : Seen). s.stops ≡ false) seen → IsRoomy n threads (led_to n root paths)
        seen_roomy none m t there lt stopped =
            let s = seen_of m there in
            s.6.roomy (all_at seen (λ (x : Seen). x.stops ≡ false) none s.0 s.2 s.4) t lt stopped
          where
            all_at : {A : Type 0} (xs : List A) (P : A → Type 0) →
                All P xs →
                (j : ℕ) (x : A) →
                slice_get xs j ≡ Some x →
                P x
            all_at xs P all j x at = subst P (index_there xs j x x at) (all j x (get_within xs j x at))

        ended_by : (count : ℕ) →
            count ≡ threads →
            (file : File) (program : Program) (schedule : List ℕ) →
            IsEndOf (most_silent code + 1) count file program (led_to n root paths) schedule →
            HasEnd rows (source_history file program schedule)
        ended_by count ec file program schedule e =
            let s = seen_of e.machine e.there in
            let still : (t : ℕ) → t < threads → burst n e.machine t ≡ None =
            λ t less. ap (λ j. burst j e.machine t) en ∙ e.still t (subst (λ c. t < c) (sym ec) less) in
            let stands : s.2.acts ≡ false = not_acting e.machine s.2 s.6 still s.2.acts refl in
            let r : HasEnd rows e.machine.history = subst (λ (m : Machine). HasEnd rows m.history) s.5
            (told.ended s.0 s.1 s.2 s.3 s.4 stands) in
            record { row = r.row; there = r.there; same = r.same ∙ e.same; ends = r.ends }
          where
            not_acting : (m : Machine) (s : Seen) →
                IsSeen n threads m s →
                ((t : ℕ) → t < threads → burst n m t ≡ None) →
                (b : Bool) →
                s.acts ≡ b →
                b ≡ false
            not_acting m s known still false e = refl
            not_acting m s known still true e =
                let a = known.acting e in
                absurd (no_some (sym (still a.0 a.1) ∙ a.2.1))

        -- and of all that end
        pub tells_ends : TellsEnds code cells setup threads rows
        tells_ends = λ file program k within acts histories has_steps up count schedule fits over.
            let up' : IsSetUp file program code cells k root = subst (IsSetUp file program code cells k) (sym er) up in
            ended_by (length program.threads) count file program schedule
            (ends_all file program code cells k root (led_to n root paths) within acts histories has_steps up' first
            (closed_for (length program.threads) count) schedule fits over)

        -- and where no thread was seen to stop a machine, of all whatever
        pub tells_whole : All (λ (s : Seen). s.stops ≡ false) seen → TellsWhole code cells setup threads rows
        tells_whole none =
            λ file program k within acts histories has_steps up count schedule.
            let up' : IsSetUp file program code cells k root = subst (IsSetUp file program code cells k) (sym er) up in
            let all : IsClosed (most_silent code + 1) (length program.threads) (led_to n root paths) = closed_for
            (length program.threads) count in
            let room : IsRoomy (most_silent code + 1) (length program.threads) (led_to n root paths) =
            subst (λ j. IsRoomy j (length program.threads) (led_to n root paths)) en
            (subst (λ c. IsRoomy n c (led_to n root paths)) (sym count) (seen_roomy none)) in
            let s : IsShown file program (led_to n root paths) schedule = covers_whole file program code cells k root
            (led_to n root paths) within acts histories up' first all room schedule in (
              begun_by s.machine s.there (source_history file program schedule) s.shows,
              λ over. ended_by (length program.threads) count file program schedule
                  (ends_whole file program code cells k root (led_to n root paths) within acts histories has_steps up'
                  first all room schedule over),
            )
