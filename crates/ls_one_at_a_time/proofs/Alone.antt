-- Programs whose calls run one at a time are linearizable: the making of the object, and then the run beside a serial
-- one.
use Rattle.std.proofs.Common.{◌≡◌, ◌≢◌, ◌⊎◌, inl, inr, ℕ, ◌<◌, List, []}
use Rattle.std.proofs.Common.{◌∷◌, ◌++◌, None, length, refl, sym, ap, ◌∙◌, subst, append-nil, append_assoc}
use Rattle.std.specs.Prelude.{slice_get}
use Rattle.std.proofs.lemmas.Bool.{cases_eq}
use Rattle.std.proofs.lemmas.List.{length-map}
use Rattle.ls_events.specs.declared.kind.Kind.{Kind}
use Rattle.ls_events.specs.declared.value.Value.{Value}
use Rattle.ls_events.specs.declared.value.Value.TheVariants.{Reference}
use Rattle.ls_events.specs.declared.value.ValueType.TheVariants.{Class}
use Rattle.ls_events.specs.declared.event.Event.{Event}
use Rattle.ls_events.specs.declared.event.Happening.TheVariants.{Returned, Trapped as HasTrapped}
use Rattle.ls_events.specs.declared.action.Action.{Action}
use Rattle.ls_events.specs.declared.action.Action.TheVariants as act
use Rattle.ls_events.specs.declared.action.Answer.{Answer}
use Rattle.ls_events.specs.declared.action.Answer.TheVariants.{Done, Gives}
use Rattle.ls_checked.specs.CheckedTree.{File}
use Rattle.ls_checked.specs.CheckedProgram.{Program}
use Rattle.ls_meaning.specs.declared.sort.Sort.{Sort}
use Rattle.ls_meaning.specs.declared.sort.Sort.TheVariants.{NoValue, NewOf}
use Rattle.ls_meaning.specs.Course.{Answers, Evaluated, Asks, Results, Throws}
use Rattle.ls_meaning.specs.Store.{Store, new_number, with_name, with_new}
use Rattle.ls_meaning.specs.Effect.{Effect, Waits, Does, effect}
use Rattle.ls_meaning.specs.Threads.{Next, Goes, calls_in, next}
use Rattle.ls_meaning.specs.Runs.{State, Step, answers_of, event_of, source_history, source_run, start, step}
use Rattle.ls_meaning.specs.declared.step.Did.TheVariants as did
use Rattle.ls_meaning.specs.Still.{IsActing}
use Rattle.ls_one_at_a_time.specs.Waiting.{NoThreadWaits}
use Rattle.ls_search_laws.specs.Stepping.{events_in, events_of}
use Rattle.ls_search_laws.proofs.Stepping.{acts_within}
use Rattle.ls_search_laws.proofs.Covering.{IsKept, holds_of_all}
use Rattle.ls_serial.specs.Serial.{Explains, IsSerial}
use Rattle.ls_linearizable.specs.Linearizable.{IsLinearizable}
use Rattle.ls_linearizable.specs.Once.{AreOnce}
use Rattle.ls_automaton.proofs.Once.{once}
use Rattle.ls_one_at_a_time.specs.Inner.{IsInner}
use Rattle.ls_one_at_a_time.proofs.Onward.{GoesOn, LeavesNone, Spent}
use Rattle.ls_one_at_a_time.proofs.Keeps.{inner_acts, inner_silent}
use Rattle.ls_one_at_a_time.proofs.Explained.{explains_itself, one_called}
use Rattle.ls_one_at_a_time.proofs.Standing.{CallsFrom, IsAt, IsOut, Reached, acted, acts_up}
use Rattle.ls_one_at_a_time.proofs.Standing.{count_stays, next_state, other, own, reach_acts, steps_so, trapped_so}
use Rattle.ls_one_at_a_time.proofs.Standing.{idle_not, up_ended, waits_so, waits_up}
use Rattle.ls_one_at_a_time.proofs.Beside.{Holds}
use Rattle.ls_one_at_a_time.proofs.Kept.{kept, over_waits}
use Rattle.ls_one_at_a_time.proofs.Making as setup
use Rattle.ls_one_at_a_time.proofs.Making.{IsMaking, Maker, throws_value, new_object, first_store}
use Rattle.ls_one_at_a_time.proofs.Making.{more_results, more_throws, none_yet, setup_is, made_is, stage_up}

module _ (file : File) (program : Program) (x : IsMaking file program) (w : Maker file program x) where
  abbrev first : Event
  first = setup.first file program x w

  abbrev making : ℕ → Answers → Evaluated Value
  making = setup.making file program x w

  abbrev made : ℕ → Answers → Answers
  made = setup.made file program x w

  abbrev writing : ℕ → Evaluated Value → Next
  writing = setup.writing file program x w

  abbrev IsBuilding : State → List Event → Type 0
  IsBuilding = setup.IsBuilding file program x w

  abbrev IsWritten : State → List Event → Type 0
  IsWritten = setup.IsWritten file program x w

  abbrev IsNew : State → List Event → Type 0
  IsNew = setup.IsNew file program x w

  abbrev IsBegun : State → List Event → Type 0
  IsBegun = setup.IsBegun file program x w

  abbrev IsEarly : State → List Event → Type 0
  IsEarly = setup.IsEarly file program x w

  abbrev IsStage : State → List Event → Type 0
  IsStage = setup.IsStage file program x w

  abbrev Runs : State → List Event → Type 0
  Runs s h = (m : w.Made) × Holds file program (w.kit m) (once file program) s h

  abbrev Either : State → List Event → Type 0
  Either s h = IsEarly s h ⊎ Runs s h

  -- ---- steps of the setup

  abbrev Stepped : State → List Event → ℕ → Type 0
  Stepped s h t = Either (step file program s t).after (h ++ events_of t (step file program s t).did)

  module _ (s : State) (h : List Event) (e : IsEarly s h) (lt : 0 < length program.threads) where
    mine_after : (store : Store) (y : Answer Value) → answers_of (next_state s 0 store y) 0 ≡ answers_of s 0 ++ y ∷ []
    mine_after store y = own s 0 store y (subst (λ c. 0 < c) (sym e.count) lt)

    module _ (a : Action Value) (sort : Sort) (store : Store) (y : Answer Value)
        (asks : next file program 0 (answers_of s 0) ≡ Goes a sort)
        (does : effect file.classes s.store 0 a ≡ Does store y) where
      setup_steps : step file program s 0 ≡ acted s 0 a y store
      setup_steps = steps_so file program s 0 a sort store y refl asks does

      reached_after : Reached file program (next_state s 0 store y) (h ++ events_in (event_of 0 a))
      reached_after = reach_acts file program s h 0 a y store e.reached setup_steps

      early_after : IsStage (next_state s 0 store y) (h ++ events_in (event_of 0 a)) → Stepped s h 0
      early_after stage = subst (λ (p : Step). Either p.after (h ++ events_of 0 p.did)) (sym setup_steps)
          (inl (record {
            reached = reached_after;
            count = count_stays s 0 store y ∙ e.count;
            fresh = λ t ne. other s 0 t store y ne ∙ e.fresh t ne;
            stage = stage;
          }))

      runs_after : Runs (next_state s 0 store y) (h ++ events_in (event_of 0 a)) → Stepped s h 0
      runs_after r = subst (λ (p : Step). Either p.after (h ++ events_of 0 p.did)) (sym setup_steps) (inr r)

    by_new : IsNew s h → Stepped s h 0
    by_new n = early_after (act.Call 1) NoValue s.store Done (ap (next file program 0) n.mine
        ∙ setup_is file program x w []) refl
        (inr (inl (record {
          mine = mine_after s.store Done ∙ ap (λ l. l ++ Done ∷ []) n.mine;
          store = n.store;
          told = ap (λ l. l ++ first ∷ []) n.told;
        })))

    by_begun : IsBegun s h → Stepped s h 0
    by_begun n =
        let new = with_new (first_store file program x) (new_object file program x) in
        let number = new_number (first_store file program x) in
        early_after (act.New x.class) (NewOf (Class x.class)) new (Gives (Reference number))
        (ap (next file program 0) n.mine ∙ setup_is file program x w (Done ∷ []))
        (ap (λ z. effect file.classes z 0 (act.New x.class)) n.store)
        (inr (inr (inl (record {
          object = number;
          q = [];
          mine = mine_after new (Gives (Reference number)) ∙ ap (λ l. l ++ Gives (Reference number) ∷ []) n.mine;
          spent = (w.course number Done).spent;
          builds = w.new;
          names = refl;
          told = append-nil h ∙ n.told;
        }))))

    module _ (n : IsBuilding s h) where
      asks_now : (f : Evaluated Value) → making n.object n.q ≡ f →
          next file program 0 (answers_of s 0) ≡ writing n.object f
      asks_now f is = ap (next file program 0) n.mine ∙ made_is file program x w n.object n.q ∙ ap (writing n.object) is

      later : (store : Store) (y : Answer Value) →
          answers_of (next_state s 0 store y) 0 ≡ made n.object (n.q ++ y ∷ [])
      later store y = mine_after store y ∙ ap (λ l. l ++ y ∷ []) n.mine

      no_more : (a : Action Value) → IsInner a → h ++ events_in (event_of 0 a) ≡ h
      no_more a i = ap (λ o. h ++ events_in o) (inner_silent 0 a i) ∙ append-nil h

      by_asks : (a : Action Value) (sort : Sort) → making n.object n.q ≡ Asks a sort →
          (f : Effect) → effect file.classes s.store 0 a ≡ f → IsActing (step file program s 0).did → Stepped s h 0
      by_asks a sort is Waits does acts = absurd (waits_so file program s 0 a sort refl
          (asks_now (Asks a sort) is) does acts)
      by_asks a sort is (Does store y) does acts =
          let onward : GoesOn y (Asks a sort) (making n.object (n.q ++ y ∷ [])) =
          subst (λ z. GoesOn y z (making n.object (n.q ++ y ∷ []))) is ((w.course n.object y).on n.q).is in
          let goes = w.goes n.object s.store store n.q a sort y n.builds is does in
          early_after a sort store y (asks_now (Asks a sort) is) does
          (inr (inr (inl (record {
            object = n.object;
            q = n.q ++ y ∷ [];
            mine = later store y;
            spent = onward.1;
            builds = goes.0;
            names = goes.1 ∙ n.names;
            told = no_more a onward.0 ∙ n.told;
          }))))

      abbrev store' : Store
      store' = with_name s.store x.name (Reference n.object)

      known : x.name < length s.store.names
      known =
          let k = x.known in
          let c = length-map program.names (λ m. Reference 0) in
          subst (λ ns. x.name < length ns) (sym n.names) (subst (λ i. x.name < i) (sym c) k)

      by_results : (v : Value) → making n.object n.q ≡ Results v [] → Stepped s h 0
      by_results v is =
          let ended = w.ends n.object s.store n.q v n.builds is known in
          early_after (act.WriteName x.name (Reference n.object)) NoValue store' Done
          (asks_now (Results v []) is) refl
          (inr (inr (inr (inl (record {
            made = ended.0;
            asks = ap (next file program 0) (later store' Done) ∙ made_is file program x w n.object (n.q ++ Done ∷ [])
                ∙ ap (writing n.object)
                (more_results (making n.object) (w.course n.object) (Done ∷ []) n.q [] v is);
            on = λ more.
                ap (λ l. next file program 0 (l ++ Done ∷ more)) (later store' Done)
                ∙ ap (λ l. next file program 0 (made n.object l)) (append_assoc n.q (Done ∷ []) (Done ∷ more))
                ∙ made_is file program x w n.object (n.q ++ Done ∷ Done ∷ more)
                ∙ ap (writing n.object)
                (more_results (making n.object) (w.course n.object) (Done ∷ Done ∷ more) n.q [] v is);
            free = ended.1;
            told = append-nil h ∙ n.told;
          })))))

      by_throws : (k : Kind) → making n.object n.q ≡ Throws k [] → Stepped s h 0
      by_throws k is = early_after (act.Trap 1 k) NoValue s.store Done (asks_now (Throws k []) is) refl
          (inr (inr (inr (inr (record {
            asks = ap (next file program 0) (later s.store Done) ∙ made_is file program x w n.object (n.q ++ Done ∷ [])
                ∙ ap (writing n.object)
                (more_throws (making n.object) (w.course n.object) (Done ∷ []) n.q [] k is);
            serial = subst IsSerial
                (ap (λ l. l ++ record { thread = 0; call = 1; happening = HasTrapped k } ∷ []) (sym n.told))
                (refl, record { ends = refl; thread = refl; call = refl }, tt);
          })))))

      by_making : (f : Evaluated Value) → making n.object n.q ≡ f → Spent (making n.object n.q) →
          IsActing (step file program s 0).did → Stepped s h 0
      by_making (Asks a sort) is spent acts = by_asks a sort is (effect file.classes s.store 0 a) refl acts
      by_making (Results v rest) is spent acts =
          let none : LeavesNone (Results v rest) = subst LeavesNone is spent.is in
          by_results v (is ∙ ap (Results v) none)
      by_making (Throws k rest) is spent acts =
          let none : LeavesNone (throws_value k rest) = subst LeavesNone is spent.is in
          by_throws k (is ∙ ap (Throws k) none)

    module _ (n : IsWritten s h) where
      abbrev s1 : State
      s1 = next_state s 0 s.store Done

      abbrev returned : Event
      returned = record { thread = 0; call = 1; happening = Returned None }

      abbrev h1 : List Event
      h1 = h ++ returned ∷ []

      at_start : (t : ℕ) → t ≢ 0 → IsAt file program (w.kit n.made) t (answers_of s1 t)
          (CallsFrom 1 (calls_in (slice_get program.threads t)))
      at_start t ne = record {
        on = λ q. ap (λ l. next file program t (l ++ q)) (other s 0 t s.store Done ne ∙ e.fresh t ne);
        guarded = w.calls n.made t ne;
      }

      at_next : IsAt file program (w.kit n.made) 0 (answers_of s1 0) (CallsFrom 2 x.others)
      at_next = record {
        on = λ q.
            ap (λ l. next file program 0 (l ++ q)) (mine_after s.store Done)
            ∙ ap (next file program 0) (append_assoc (answers_of s 0) (Done ∷ []) q)
            ∙ n.on q;
        guarded = w.others n.made;
      }

      reached1 : Reached file program s1 h1
      reached1 = reached_after (act.Return 1 None) NoValue s.store Done n.asks refl

      once1 : AreOnce h1
      once1 = subst AreOnce reached1.2 (once file program reached1.0)

      count1 : length s1.answers ≡ length program.threads
      count1 = count_stays s 0 s.store Done ∙ e.count

      by_made : Stepped s h 0
      by_made = runs_after (act.Return 1 None) NoValue s.store Done n.asks refl (
        n.made,
        record {
          s' = s1;
          g = h1;
          beside = record {
            reached = reached1;
            serial_run = reached1;
            count = count1;
            count' = count1;
            free = n.free;
            serial = subst IsSerial (ap (λ l. l ++ returned ∷ []) (sym n.told))
                (refl, record { ends = refl; thread = refl; call = refl }, tt);
            explains = explains_itself h1 once1;
          };
          mode = inl (record {
            store = refl;
            outs = λ t. out t (cases_eq t 0);
          });
        },
      )
        where
          out : (t : ℕ) → (t ≡ 0) ⊎ (t ≢ 0) → IsOut file program (w.kit n.made) t (answers_of s1 t)
              (answers_of s1 t) h1 h1
          out t (inl same) = subst
              (λ v. IsOut file program (w.kit n.made) v (answers_of s1 v) (answers_of s1 v) h1 h1) (sym same)
              (inl (record { rest = CallsFrom 2 x.others; same = refl; at = at_next }))
          out t (inr ne) = inl (record {
            rest = CallsFrom 1 (calls_in (slice_get program.threads t));
            same = refl;
            at = at_start t ne;
          })

    by_stage : IsStage s h → IsActing (step file program s 0).did → Stepped s h 0
    by_stage (inl n) acts = by_new n
    by_stage (inr (inl n)) acts = by_begun n
    by_stage (inr (inr (inl n))) acts = by_making n (making n.object n.q) refl n.spent acts
    by_stage (inr (inr (inr (inl n)))) acts = by_made n
    by_stage (inr (inr (inr (inr n)))) acts = absurd (idle_not (step file program s 0).did
        (trapped_so file program s 0 refl n.asks) acts)

  -- ---- each step keeps it

  either_kept : IsKept file program Either
  either_kept s h t (inr r) acts = inr (r.0, kept file program (w.kit r.0) (once file program) s h t r.1 acts)
  either_kept s h t (inl e) acts = by_number t (cases_eq t 0) acts
    where
      by_number : (t : ℕ) → (t ≡ 0) ⊎ (t ≢ 0) → IsActing (step file program s t).did → Stepped s h t
      by_number t (inl same) acts =
          let zero_acts = subst (λ v. IsActing (step file program s v).did) same acts in
          subst (Stepped s h) (sym same) (by_stage s h e (acts_within file program s 0 zero_acts) e.stage zero_acts)
      by_number t (inr ne) acts =
          absurd (stage_up file program x w s h e.stage (up_ended file program s t ne (acts_up file program s t acts)))

  at_first : Either (start program) []
  at_first = inl (record {
    reached = ([], refl, refl);
    count = length-map program.threads (λ t. []);
    fresh = λ t ne. none_yet program.threads t;
    stage = inl (record { mine = none_yet program.threads 0; store = refl; told = refl });
  })

  -- ---- histories

  nothing_explains : Explains [] []
  nothing_explains = explains_itself [] (once file program [])

  module _ (schedule : List ℕ) (e : IsEarly (source_run file program schedule) (source_history file program schedule))
    where
      abbrev h : List Event
      h = source_history file program schedule

      -- only the making's call
      by_first : h ≡ first ∷ [] → IsLinearizable file program h
      by_first told = record {
        schedule = [];
        serial = tt;
        explains = subst (Explains []) (sym told)
            (one_called [] [] nothing_explains first refl (subst AreOnce told (once file program schedule)));
      }

      early_linearizable : IsStage (source_run file program schedule) h → IsLinearizable file program h
      early_linearizable (inl n) = record {
        schedule = [];
        serial = tt;
        explains = subst (Explains []) (sym n.told) nothing_explains;
      }
      early_linearizable (inr (inl n)) = by_first n.told
      early_linearizable (inr (inr (inl n))) = by_first n.told
      early_linearizable (inr (inr (inr (inl n)))) = by_first n.told
      early_linearizable (inr (inr (inr (inr n)))) = record {
        schedule = schedule;
        serial = n.serial;
        explains = explains_itself h (once file program schedule);
      }

  -- each history of the program is linearizable: by a serial run, or as nothing but the making has begun
  pub all_linearizable : (schedule : List ℕ) → IsLinearizable file program (source_history file program schedule)
  all_linearizable schedule = by_either (holds_of_all file program Either either_kept at_first schedule)
    where
      by_either : Either (source_run file program schedule) (source_history file program schedule) →
          IsLinearizable file program (source_history file program schedule)
      by_either (inl e) = early_linearizable schedule e e.stage
      by_either (inr r) = record {
        schedule = r.1.beside.serial_run.0;
        serial = subst IsSerial (sym r.1.beside.serial_run.2) r.1.beside.serial;
        explains = subst (λ g. Explains g (source_history file program schedule)) (sym r.1.beside.serial_run.2)
            r.1.beside.explains;
      }

  -- ---- where no thread acts, none waits

  idle_waits : did.Idle ≡ did.Waits → ⊥
  idle_waits p = cc

  acted_waits : {a : Action Value} {y : Answer Value} → did.Acted a y ≡ did.Waits → ⊥
  acted_waits p = cc

  module _ (s : State) (h : List Event) where
    setup_waits : (a : Action Value) (sort : Sort) (f : Effect) → next file program 0 (answers_of s 0) ≡ Goes a sort →
        effect file.classes s.store 0 a ≡ f → (f ≡ Waits → ⊥) → (step file program s 0).did ≡ did.Waits → ⊥
    setup_waits a sort Waits asks does never w' = never refl
    setup_waits a sort (Does store y) asks does never w' = acted_waits
        (sym (ap (λ (p : Step). p.did) (steps_so file program s 0 a sort store y refl asks does)) ∙ w')

    does_not : {store : Store} {y : Answer Value} → Does store y ≡ Waits → ⊥
    does_not p = cc

    stage_waits : IsStage s h → (step file program s 0).did ≡ did.Waits → ⊥
    stage_waits (inl n) w' = setup_waits (act.Call 1) NoValue (Does s.store Done)
        (ap (next file program 0) n.mine ∙ setup_is file program x w []) refl does_not w'
    stage_waits (inr (inl n)) w' = setup_waits (act.New x.class) (NewOf (Class x.class))
        (effect file.classes s.store 0 (act.New x.class)) (ap (next file program 0) n.mine
        ∙ setup_is file program x w (Done ∷ [])) refl
        does_not w'
    stage_waits (inr (inr (inl n))) w' = by_making (making n.object n.q) refl n.spent
      where
        asks_so : (f : Evaluated Value) → making n.object n.q ≡ f →
            next file program 0 (answers_of s 0) ≡ writing n.object f
        asks_so f is = ap (next file program 0) n.mine ∙ made_is file program x w n.object n.q
            ∙ ap (writing n.object) is

        by_making : (f : Evaluated Value) → making n.object n.q ≡ f → Spent (making n.object n.q) → ⊥
        by_making (Asks a sort) is spent =
            let onward : GoesOn Done (Asks a sort) (making n.object (n.q ++ Done ∷ [])) =
            subst (λ z. GoesOn Done z (making n.object (n.q ++ Done ∷ []))) is ((w.course n.object Done).on n.q).is in
            setup_waits a sort (effect file.classes s.store 0 a) (asks_so (Asks a sort) is) refl
            (inner_acts file.classes s.store 0 a onward.0) w'
        by_making (Results v rest) is spent =
            let none : LeavesNone (Results v rest) = subst LeavesNone is spent.is in
            setup_waits (act.WriteName x.name (Reference n.object)) NoValue
            (effect file.classes s.store 0 (act.WriteName x.name (Reference n.object)))
            (asks_so (Results v []) (is ∙ ap (Results v) none)) refl does_not w'
        by_making (Throws c rest) is spent =
            let none : LeavesNone (throws_value c rest) = subst LeavesNone is spent.is in
            setup_waits (act.Trap 1 c) NoValue (Does s.store Done)
            (asks_so (Throws c []) (is ∙ ap (Throws c) none)) refl
            does_not w'
    stage_waits (inr (inr (inr (inl n)))) w' = setup_waits (act.Return 1 None) NoValue (Does s.store Done) n.asks refl
        does_not w'
    stage_waits (inr (inr (inr (inr n)))) w' = idle_waits (sym (trapped_so file program s 0 refl n.asks) ∙ w')

    early_waits : IsStage s h → (t : ℕ) → (step file program s t).did ≡ did.Waits → ⊥
    early_waits stage t w' = by_number (cases_eq t 0)
      where
        by_number : (t ≡ 0) ⊎ (t ≢ 0) → ⊥
        by_number (inl e) = stage_waits stage (subst (λ v. (step file program s v).did ≡ did.Waits) e w')
        by_number (inr ne) = stage_up file program x w s h stage
            (up_ended file program s t ne (waits_up file program s t w'))

  -- where no thread acts, none waits: neither in the making nor after it
  pub none_waits : NoThreadWaits file program
  none_waits schedule over t waits = by_either (holds_of_all file program Either either_kept at_first schedule)
    where
      by_either : Either (source_run file program schedule) (source_history file program schedule) → ⊥
      by_either (inl e) = early_waits (source_run file program schedule)
          (source_history file program schedule) e.stage t
          waits
      by_either (inr r) = over_waits file program (w.kit r.0) (once file program) (source_run file program schedule)
          (source_history file program schedule) r.1 over t waits
