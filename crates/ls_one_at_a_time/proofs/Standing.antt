-- Where threads stand in a run and in the serial run beside it.
use Rattle.std.proofs.Common.{◌≡◌, ◌≢◌, ◌⊎◌, inl, inr, ℕ, suc, ◌+◌, ◌<◌, ◌≤◌, Bool, true, false, cond, List, []}
use Rattle.std.proofs.Common.{◌∷◌, ◌++◌, Some, Contains, length, refl, sym, ap, ◌∙◌, subst, arith}
use Rattle.std.proofs.Common.{append_assoc, append-nil, get_or-set_same, get_or-set_other, length-set, slice_set}
use Rattle.std.specs.Prelude.{if◌then◌else◌, nat_eq}
use Rattle.std.proofs.lemmas.Bool.{cases_lt}
use Rattle.std.proofs.lemmas.Bool.Decides.{nat_tests}
use Rattle.std.proofs.lemmas.List.Elements.{Contains-append_left, Contains-push}
use Rattle.ls_events.specs.declared.value.Value.{Value}
use Rattle.ls_events.specs.declared.event.Event.{Event}
use Rattle.ls_events.specs.declared.event.Happening.TheVariants.{Called}
use Rattle.ls_events.specs.declared.action.Action.{Action}
use Rattle.ls_events.specs.declared.action.Action.TheVariants as act
use Rattle.ls_events.specs.declared.action.Answer.{Answer}
use Rattle.ls_events.specs.declared.action.Answer.TheVariants.{Done}
use Rattle.ls_checked.specs.CheckedTree.{File}
use Rattle.ls_checked.specs.CheckedProgram.{Program, ProgramCall}
use Rattle.ls_meaning.specs.declared.sort.Sort.{Sort}
use Rattle.ls_meaning.specs.declared.sort.Sort.TheVariants.{NoValue}
use Rattle.ls_meaning.specs.declared.step.Did.{Did}
use Rattle.ls_meaning.specs.declared.step.Did.TheVariants as did
use Rattle.ls_meaning.specs.Course.{Answers, Asks}
use Rattle.ls_meaning.specs.Store.{Store}
use Rattle.ls_meaning.specs.Effect.{Waits, Does, effect}
use Rattle.ls_meaning.specs.Threads.{Next, Goes, Ended, Trapped, after_call, all_calls, next, one_call}
use Rattle.ls_meaning.specs.Runs.{State, Step, answers_of, event_of, has_ended, has_started, idle, performed}
use Rattle.ls_meaning.specs.Runs.{source_history, source_run, step, step_of}
use Rattle.ls_meaning.specs.Still.{IsActing}
use Rattle.ls_search_laws.specs.Stepping.{events_in, events_of}
use Rattle.ls_search_laws.proofs.Stepping.{one_more}
use Rattle.ls_serial.specs.Serial.{Explains, IsEnd}
use Rattle.ls_linearizable.specs.Once.{AreOnce}
use Rattle.ls_one_at_a_time.proofs.Kit.{IsGood, IsGuarded, Kit}
use Rattle.ls_one_at_a_time.proofs.Explained.{one_called, one_ended}

-- an idle thread doesn't act
pub idle_not : (d : Did) → d ≡ did.Idle → IsActing d → ⊥
idle_not d e acts = subst IsActing e acts

-- a call's first event
abbrev pub called : ℕ → ℕ → Event
called thread n = record { thread = thread; call = n; happening = Called }

-- what a thread goes on with between its calls: calls from a number on, or nothing after a trap
pub data Rest : Type 0 where
  CallsFrom : (n : ℕ) (cs : List ProgramCall) → Rest
  Gone : Rest

-- ---- steps

-- the state after an action with this answer
abbrev pub next_state : State → ℕ → Store → Answer Value → State
next_state s t store x = record { store = store; answers = slice_set s.answers t (answers_of s t ++ x ∷ []) }

-- the step that does an action
abbrev pub acted : State → ℕ → Action Value → Answer Value → Store → Step
acted s t a x store = record { did = did.Acted a x; after = next_state s t store x }

-- a step adds its answer to those of its thread
pub own : (s : State) (t : ℕ) (store : Store) (x : Answer Value) → t < length s.answers →
    answers_of (next_state s t store x) t ≡ answers_of s t ++ x ∷ []
own s t store x lt = get_or-set_same s.answers t (answers_of s t ++ x ∷ []) [] lt

-- a step leaves the answers of other threads
pub other : (s : State) (t u : ℕ) (store : Store) (x : Answer Value) → u ≢ t →
    answers_of (next_state s t store x) u ≡ answers_of s u
other s t u store x ne = get_or-set_other s.answers t u (answers_of s t ++ x ∷ []) [] ne

-- a step leaves the number of threads
pub count_stays : (s : State) (t : ℕ) (store : Store) (x : Answer Value) →
    length (next_state s t store x).answers ≡ length s.answers
count_stays s t store x = length-set s.answers t (answers_of s t ++ x ∷ [])

module _ (file : File) (program : Program) where
  -- the setup has ended
  abbrev pub SetupEnded : State → Type 0
  SetupEnded s = next file program 0 (answers_of s 0) ≡ Ended

  -- a thread may act: it is the setup, or the setup has ended
  abbrev pub IsUp : State → ℕ → Type 0
  IsUp s t = has_started file program s t ≡ true

  both : (b : Bool) → cond b true true ≡ true
  both true = refl
  both false = refl

  -- each thread has started where the setup has ended
  pub all_up : (s : State) (t : ℕ) → SetupEnded s → IsUp s t
  all_up s t ended = ap (λ n. if nat_eq t 0 then true else has_ended n) ended ∙ both (nat_eq t 0)

  -- where another thread has started, the setup has ended
  pub up_ended : (s : State) (t : ℕ) → t ≢ 0 → IsUp s t → SetupEnded s
  up_ended s t ne up =
      let z : nat_eq t 0 ≡ false = grind (arith, nat_tests) in
      by_next (next file program 0 (answers_of s 0))
      (sym (ap (λ b. if b then true else has_ended (next file program 0 (answers_of s 0))) z) ∙ up)
    where
      not : false ≡ true → ⊥
      not h = cc

      by_next : (n : Next) → has_ended n ≡ true → n ≡ Ended
      by_next (Goes a sort) e = absurd (not e)
      by_next Ended e = refl
      by_next Trapped e = absurd (not e)

  -- a thread that acts has started
  pub acts_up : (s : State) (t : ℕ) → IsActing (step file program s t).did → IsUp s t
  acts_up s t acts = by_started (has_started file program s t) acts
    where
      by_started : (b : Bool) →
          IsActing (cond b (step_of file s t (next file program t (answers_of s t))) (idle s)).did → b ≡ true
      by_started true acts = refl
      by_started false acts = absurd acts

  -- a step of a thread whose next action is known
  steps_by : (s : State) (t : ℕ) (n : Next) → IsUp s t → next file program t (answers_of s t) ≡ n →
      step file program s t ≡ step_of file s t n
  steps_by s t n up asks =
      ap (λ b. if b then step_of file s t (next file program t (answers_of s t)) else idle s) up
      ∙ ap (step_of file s t) asks

  -- a thread that asks for an action takes the step that does it
  pub steps_so : (s : State) (t : ℕ) (a : Action Value) (sort : Sort) (store : Store) (x : Answer Value) →
      IsUp s t → next file program t (answers_of s t) ≡ Goes a sort → effect file.classes s.store t a ≡ Does store x →
      step file program s t ≡ acted s t a x store
  steps_so s t a sort store x up asks does = steps_by s t (Goes a sort) up asks ∙ ap (performed s t a) does

  -- a thread whose action waits doesn't act
  pub waits_so : (s : State) (t : ℕ) (a : Action Value) (sort : Sort) →
      IsUp s t → next file program t (answers_of s t) ≡ Goes a sort → effect file.classes s.store t a ≡ Waits →
      IsActing (step file program s t).did → ⊥
  waits_so s t a sort up asks does acts =
      subst (λ (p : Step). IsActing p.did) (steps_by s t (Goes a sort) up asks ∙ ap (performed s t a) does) acts

  pub ended_so : (s : State) (t : ℕ) → IsUp s t → next file program t (answers_of s t) ≡ Ended →
      (step file program s t).did ≡ did.Idle
  ended_so s t up asks = ap (λ (p : Step). p.did) (steps_by s t Ended up asks)

  -- a trapped thread is idle
  pub trapped_so : (s : State) (t : ℕ) → IsUp s t → next file program t (answers_of s t) ≡ Trapped →
      (step file program s t).did ≡ did.Idle
  trapped_so s t up asks = ap (λ (p : Step). p.did) (steps_by s t Trapped up asks)

  -- a thread that waits has started
  pub waits_up : (s : State) (t : ℕ) → (step file program s t).did ≡ did.Waits → IsUp s t
  waits_up s t waits = by_started (has_started file program s t) waits
    where
      not : did.Idle ≡ did.Waits → ⊥
      not h = cc

      by_started : (b : Bool) →
          (cond b (step_of file s t (next file program t (answers_of s t))) (idle s)).did ≡ did.Waits → b ≡ true
      by_started true w = refl
      by_started false w = absurd (not w)

  -- ---- schedules

  -- a schedule leads to the state, with this history
  abbrev pub Reached : State → List Event → Type 0
  Reached s h = (schedule : List ℕ) × (source_run file program schedule ≡ s) ×
      (source_history file program schedule ≡ h)

  reach_step : (s : State) (h : List Event) (t : ℕ) → Reached s h →
      Reached (step file program s t).after (h ++ events_of t (step file program s t).did)
  reach_step s h t r = (
    r.0 ++ t ∷ [],
    (one_more file program r.0 t).state ∙ ap (λ z. (step file program z t).after) r.1,
    (one_more file program r.0 t).history
        ∙ ap (λ l. l ++ events_of t (step file program (source_run file program r.0) t).did) r.2
        ∙ ap (λ z. h ++ events_of t (step file program z t).did) r.1,
  )

  -- a reached state is still reached after a step
  pub reach_acts : (s : State) (h : List Event) (t : ℕ) (a : Action Value) (x : Answer Value) (store : Store) →
      Reached s h → step file program s t ≡ acted s t a x store →
      Reached (next_state s t store x) (h ++ events_in (event_of t a))
  reach_acts s h t a x store r e =
      subst (λ (p : Step). Reached p.after (h ++ events_of t p.did)) e (reach_step s h t r)

  -- ---- places

  module _ (k : Kit file program) where
    -- what a thread asks for between calls
    abbrev pub continues : Rest → Answers → Next
    continues (CallsFrom n cs) q = all_calls file program n cs q
    continues Gone q = Trapped

    -- each call has the lock round its body
    abbrev pub AllGuarded : ℕ → List ProgramCall → Type 0
    AllGuarded n [] = Unit {0}
    AllGuarded n (c ∷ cs) = IsGuarded file program k n c × AllGuarded (n + 1) cs

    -- so have all calls to come
    abbrev pub AreGuarded : Rest → Type 0
    AreGuarded (CallsFrom n cs) = AllGuarded n cs
    AreGuarded Gone = Unit {0}

    -- after these answers the thread is between its calls
    pub record IsAt (t : ℕ) (b : Answers) (r : Rest) : Type 0 where
      pub on : (q : Answers) → next file program t (b ++ q) ≡ continues r q
      pub guarded : AreGuarded r

    -- a in the run and b in the serial run
    module _ (t : ℕ) (a b : Answers) (g h : List Event) where
      pub record IsResting : Type 0 where
        pub rest : Rest
        pub same : a ≡ b
        pub at : IsAt t b rest

      -- a thread before its lock
      pub record IsComing : Type 0 where
        pub n : ℕ
        pub call : ProgramCall
        pub others : List ProgramCall
        pub at : IsAt t b (CallsFrom n (call ∷ others))
        pub stage : ℕ
        pub within : stage ≤ at.guarded.0.last
        pub answers : a ≡ b ++ at.guarded.0.before stage
        pub there : Contains h (called t n)

      -- a thread that has unlocked, and whose end is known in the serial run alone
      pub record IsLeaving : Type 0 where
        pub rest : Rest
        pub at : IsAt t b rest
        pub last : b ≡ a ++ Done ∷ []
        pub action : Action Value
        pub event : Event
        pub asks : next file program t a ≡ Goes action NoValue
        pub quiet : (z : Store) → effect file.classes z t action ≡ Does z Done
        pub is : event_of t action ≡ Some event
        pub ends : IsEnd event
        pub known : Contains g event

      -- a thread that hasn't the lock: between calls, before its lock, or after its unlock
      abbrev pub IsOut : Type 0
      IsOut = IsResting ⊎ (IsComing ⊎ IsLeaving)

    -- more has happened
    pub out_later : (t : ℕ) (a b : Answers) (g h g' h' : List Event) → IsOut t a b g h →
        IsOut t a b (g ++ g') (h ++ h')
    out_later t a b g h g' h' (inl r) = inl (record { rest = r.rest; same = r.same; at = r.at })
    out_later t a b g h g' h' (inr (inl c)) = inr (inl (record {
      n = c.n;
      call = c.call;
      others = c.others;
      at = c.at;
      stage = c.stage;
      within = c.within;
      answers = c.answers;
      there = Contains-append_left h h' (called t c.n) c.there;
    }))
    out_later t a b g h g' h' (inr (inr l)) = inr (inr (record {
      rest = l.rest;
      at = l.at;
      last = l.last;
      action = l.action;
      event = l.event;
      asks = l.asks;
      quiet = l.quiet;
      is = l.is;
      ends = l.ends;
      known = Contains-append_left g g' l.event l.known;
    }))

    -- ---- steps outside of the lock

    -- an action that only reads a setup name, or no more
    pub record IsQuietStep (s : State) (t : ℕ) (b : Answers) (g h : List Event) : Type 0 where
      pub action : Action Value
      pub sort : Sort
      pub answer : Answer Value
      pub asks : next file program t (answers_of s t) ≡ Goes action sort
      pub does : effect file.classes s.store t action ≡ Does s.store answer
      pub place : IsOut t (answers_of s t ++ answer ∷ []) b g (h ++ events_in (event_of t action))
      pub explains : Explains g (h ++ events_in (event_of t action))

    -- the thread asks for the lock
    pub record IsAtLock (s : State) (t : ℕ) (b : Answers) (h : List Event) : Type 0 where
      pub n : ℕ
      pub call : ProgramCall
      pub others : List ProgramCall
      pub at : IsAt t b (CallsFrom n (call ∷ others))
      pub answers : answers_of s t ≡ b ++ at.guarded.0.before at.guarded.0.last
      pub there : Contains h (called t n)
      pub asks : next file program t (answers_of s t) ≡ Goes k.lock NoValue

    module _ (once : (schedule : List ℕ) → AreOnce (source_history file program schedule))
        (s : State) (t : ℕ) (b : Answers) (g h : List Event) (up : IsUp s t) (reached : Reached s h)
        (good : IsGood file program k s.store) (explains : Explains g h) where
      once_after : (a : Action Value) (x : Answer Value) (sort : Sort) →
          next file program t (answers_of s t) ≡ Goes a sort →
          effect file.classes s.store t a ≡ Does s.store x → AreOnce (h ++ events_in (event_of t a))
      once_after a x sort asks does =
          let r = reach_acts s h t a x s.store reached (steps_so s t a sort s.store x up asks does) in
          subst AreOnce r.2 (once r.0)

      -- what a thread asks for after answers of its call
      asks_after : (n : ℕ) (c : ProgramCall) (cs : List ProgramCall) (q : Answers) (a : Action Value) (sort : Sort) →
          IsAt t b (CallsFrom n (c ∷ cs)) → answers_of s t ≡ b ++ q → one_call file program n c q ≡ Asks a sort →
          next file program t (answers_of s t) ≡ Goes a sort
      asks_after n c cs q a sort at is one =
          ap (next file program t) is ∙ at.on q ∙ ap (λ x. after_call n x (all_calls file program (n + 1) cs)) one

      abbrev Outcome : Type 0
      Outcome = ((step file program s t).did ≡ did.Idle) ⊎ (IsQuietStep s t b g h ⊎ IsAtLock s t b h)

      by_rest : (r : Rest) → answers_of s t ≡ b → IsAt t b r → Outcome
      by_rest Gone same at = inl (trapped_so s t up
          (ap (next file program t) (same ∙ sym (append-nil b)) ∙ at.on []))
      by_rest (CallsFrom n []) same at = inl (ended_so s t up
          (ap (next file program t) (same ∙ sym (append-nil b)) ∙ at.on []))
      by_rest (CallsFrom n (c ∷ cs)) same at =
          let asks = asks_after n c cs [] (act.Call n) NoValue at (same ∙ sym (append-nil b)) at.guarded.0.call in
          inr (inl (record {
            action = act.Call n;
            sort = NoValue;
            answer = Done;
            asks = asks;
            does = refl;
            place = inr (inl (record {
              n = n;
              call = c;
              others = cs;
              at = at;
              stage = 0;
              within = omega arith;
              answers = ap (λ l. l ++ Done ∷ []) same ∙ ap (λ l. b ++ l) (sym at.guarded.0.begins);
              there = Contains-push h (called t n);
            }));
            explains = one_called g h explains (called t n) refl (once_after (act.Call n) Done NoValue asks refl);
          }))

      by_stage : (c : IsComing t (answers_of s t) b g h) →
          (c.stage < c.at.guarded.0.last) ⊎ (c.at.guarded.0.last ≤ c.stage) → Outcome
      by_stage c (inl less) =
          let e = c.at.guarded.0.entry c.stage less in
          let none : h ++ events_in (event_of t e.action) ≡ h =
          ap (λ x. h ++ events_in x) (e.silent t) ∙ append-nil h in
          inr (inl (record {
            action = e.action;
            sort = e.sort;
            answer = e.answer;
            asks = asks_after c.n c.call c.others (c.at.guarded.0.before c.stage) e.action e.sort c.at c.answers e.asks;
            does = e.does s.store t good;
            place = inr (inl (record {
              n = c.n;
              call = c.call;
              others = c.others;
              at = c.at;
              stage = suc c.stage;
              within = omega (arith, less);
              answers = ap (λ l. l ++ e.answer ∷ []) c.answers
                  ∙ append_assoc b (c.at.guarded.0.before c.stage) (e.answer ∷ []) ∙ ap (λ l. b ++ l) e.more;
              there = subst (λ l. Contains l (called t c.n)) (sym none) c.there;
            }));
            explains = subst (Explains g) (sym none) explains;
          }))
      by_stage c (inr past) =
          let w = c.within in
          let same : c.stage ≡ c.at.guarded.0.last = omega arith in
          let is = c.answers ∙ ap (λ i. b ++ c.at.guarded.0.before i) same in
          inr (inr (record {
            n = c.n;
            call = c.call;
            others = c.others;
            at = c.at;
            answers = is;
            there = c.there;
            asks = asks_after c.n c.call c.others (c.at.guarded.0.before c.at.guarded.0.last) k.lock NoValue c.at is
                c.at.guarded.0.locks;
          }))

      leaves : IsLeaving t (answers_of s t) b g h → IsQuietStep s t b g h
      leaves l = record {
        action = l.action;
        sort = NoValue;
        answer = Done;
        asks = l.asks;
        does = l.quiet s.store;
        place = inl (record { rest = l.rest; same = sym l.last; at = l.at });
        explains =
            subst (λ x. Explains g (h ++ events_in x)) (sym l.is) (one_ended g h explains l.event l.ends l.known);
      }

      -- a thread that is outside doesn't act, or takes a quiet step, or asks for the lock
      pub outcome : IsOut t (answers_of s t) b g h → Outcome
      outcome (inl r) = by_rest r.rest r.same r.at
      outcome (inr (inl c)) = by_stage c (cases_lt c.stage c.at.guarded.0.last)
      outcome (inr (inr l)) = inr (inl (leaves l))
