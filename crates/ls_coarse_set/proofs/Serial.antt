-- Serial histories of programs of set calls: the list has the items that the calls leave.
use Rattle.std.proofs.Common.{◌≡◌, ◌≢◌, ◌⊎◌, inl, inr, ◌∙◌, ◌+◌, ◌-◌, ◌<◌, ◌≤◌, ℕ, zero, suc, ℤ, Bool, true, false}
use Rattle.std.proofs.Common.{List, []}
use Rattle.std.proofs.Common.{◌∷◌, ◌++◌, append-nil, append_assoc, length, length-set, map, drop, Option, Some, None}
use Rattle.std.proofs.Common.{refl, sym, ap, subst, arith}
use Rattle.std.specs.Prelude.{int_lt, slice_get, slice_index_or}
use Rattle.std.proofs.lemmas.Bool.{cases_eq}
use Rattle.std.proofs.lemmas.List.{length-map}
use Rattle.ls_events.specs.declared.value.Value.{Value}
use Rattle.ls_events.specs.declared.value.Value.TheVariants as values
use Rattle.ls_events.specs.declared.value.Value.TheVariants.{Boolean, Int}
use Rattle.ls_events.specs.declared.value.ValueType.{ValueType}
use Rattle.ls_events.specs.declared.event.Event.{Event}
use Rattle.ls_events.specs.declared.action.Action.{Action}
use Rattle.ls_events.specs.declared.action.Action.TheVariants as act
use Rattle.ls_events.specs.declared.action.Answer.{Answer}
use Rattle.ls_events.specs.declared.action.Answer.TheVariants.{Done as Did}
use Rattle.ls_checked.specs.CheckedProgram.{Program, ProgramCall, ThreadProgram, Making, Calling, SetupName}
use Rattle.ls_meaning.specs.declared.sort.Sort.{Sort}
use Rattle.ls_meaning.specs.declared.sort.Sort.TheVariants.{NoValue}
use Rattle.ls_meaning.specs.Course.{Answers}
use Rattle.ls_meaning.specs.Store.{Free, Store}
use Rattle.ls_meaning.specs.Effect.{Does, Effect, Waits, effect}
use Rattle.ls_meaning.specs.Runs.{has_started, idle, performed, step_of}
use Rattle.std.specs.Prelude.{if◌then◌else◌}
use Rattle.ls_meaning.specs.Threads.{Ended, Goes, Next, Trapped, all_calls, calls_in, next}
use Rattle.ls_meaning.specs.Runs.{State, Step, answers_of, event_of, source_history, source_run, start, step}
use Rattle.ls_meaning.specs.Still.{IsActing}
use Rattle.ls_search_laws.specs.Stepping.{events_in, events_of}
use Rattle.ls_search_laws.proofs.Stepping.{acts_within}
use Rattle.ls_search_laws.proofs.Covering.{IsKept, holds_of_all}
use Rattle.ls_serial.specs.Serial.{IsSerial}
use Rattle.ls_one_at_a_time.specs.CoarseList.{file, of_list}
use Rattle.ls_one_at_a_time.proofs.Standing.{acts_up, ended_so, idle_not, next_state, other, own, steps_so, up_ended}
use Rattle.ls_orders.specs.declared.calls.Operation.{Operation}
use Rattle.ls_orders.specs.declared.calls.Operation.TheVariants.{Add, Contains, Remove}
use Rattle.ls_coarse_set.specs.Laws.{AllSmallSetCalls, AreSmallSetCalls, IsNameOf, IsSmallItem}
use Rattle.ls_coarse_set.proofs.Chain.{greatest}
use Rattle.ls_coarse_set.proofs.Safe.{Acts, Courses, Returns, Safe, same_safe}
use Rattle.ls_coarse_set.proofs.Methods.{IsDone, IsList}
use Rattle.ls_coarse_set.proofs.Whole.{adds, entry, removes, says_contains}
use Rattle.ls_coarse_set.proofs.Making.{IsMade, made, making}
use Rattle.ls_coarse_set.proofs.Deeds.{IsDoneBy, IsNameFor, called, done_more, returned, serial_told}
use Rattle.ls_coarse_set.proofs.Beginnings.{Begins, begins_less, not_one, not_two, drop_next, drop_get}

-- ---- what a call is to do

pub data Goal : Type 0 where
  OfMaking : Goal
  OfCall : (o : Operation) (z : ℤ) (ks : List ℤ) → Goal

abbrev pub good_of : Goal → Option Value → Store → Type 0
good_of OfMaking = IsMade
good_of (OfCall o z ks) = IsDone o z ks

goes_not : {a : Action Value} {sort : Sort} → Goes a sort ≡ Ended → ⊥
goes_not e = cc

goes_action : {a b : Action Value} {s u : Sort} → Goes a s ≡ Goes b u → a ≡ b
goes_action e = cc

does_store : {s s' : Store} {x y : Answer Value} → Does s x ≡ Does s' y → s ≡ s'
does_store e = cc

does_answer : {s s' : Store} {x y : Answer Value} → Does s x ≡ Does s' y → x ≡ y
does_answer e = cc

some_none : {e : Event} → Some e ≡ None → ⊥
some_none k = cc

module _ (name : SetupName) (text setup : List ℕ) (more : List ProgramCall) (threads : List ThreadProgram)
    (small_more : AreSmallSetCalls more) (small_threads : AllSmallSetCalls threads) where
  abbrev pub program : Program
  program = of_list name text setup more threads

  abbrev calls : ℕ → List ProgramCall
  calls u = calls_in (slice_get program.threads u)

  thread_small : (ts : List ThreadProgram) → AllSmallSetCalls ts → (k : ℕ) →
      AreSmallSetCalls (calls_in (slice_get ts k))
  thread_small [] a k = tt
  thread_small (x ∷ ts) a zero = a.0
  thread_small (x ∷ ts) a (suc k) = thread_small ts a.1 k

  -- the calls of each thread but the setup
  pub small_calls : (u : ℕ) → u ≢ 0 → AreSmallSetCalls (calls u)
  small_calls zero ne = absurd (ne refl)
  small_calls (suc k) ne = thread_small threads small_threads k

  -- the thread is between its calls
  pub record At (u : ℕ) (b : Answers) : Type 0 where
    n : ℕ
    cs : List ProgramCall
    on : (q : Answers) → next file program u (b ++ q) ≡ all_calls file program n cs q
    positive : 1 ≤ n
    from : drop (n - 1) (calls u) ≡ cs
    small : AreSmallSetCalls cs

  pub record Resting (s : State) (h : List Event) : Type 0 where
    pub done : IsDoneBy program s.store h
    pub at : (u : ℕ) → At u (answers_of s u)

  pub record Running (s : State) (h : List Event) : Type 0 where
    pub t : ℕ
    pub n : ℕ
    pub cs : List ProgramCall
    pub goal : Goal
    pub course : Courses
    pub front : List Event
    pub is : h ≡ front ++ called t n ∷ []
    pub serial : IsSerial front
    pub others : (u : ℕ) → u ≢ t → At u (answers_of s u)
    pub on : (q : Answers) → next file program t (answers_of s t ++ q) ≡ course q
    pub safe : (k : ℕ) → Safe file.classes t n (all_calls file program (n + 1) cs) (good_of goal) k course s.store
    pub after : (v : Option Value) (st : Store) → good_of goal v st →
        IsDoneBy program st (front ++ called t n ∷ returned t n v ∷ [])
    pub positive : 1 ≤ n
    pub from : drop (n + 1 - 1) (calls t) ≡ cs
    pub small : AreSmallSetCalls cs

  pub record New (s : State) (h : List Event) : Type 0 where
    pub is : h ≡ []
    pub store : s.store ≡ (start program).store
    pub none : (u : ℕ) → answers_of s u ≡ []

  abbrev pub Inv : State → List Event → Type 0
  Inv s h = New s h ⊎ (Running s h ⊎ Resting s h)

  abbrev pub Holds : State → List Event → Type 0
  Holds s h = (length s.answers ≡ length program.threads) × (Begins h → Inv s h)

  count_effect : (s : State) (t : ℕ) (a : Action Value) (e : Effect) →
      length (performed s t a e).after.answers ≡ length s.answers
  count_effect s t a Waits = refl
  count_effect s t a (Does st y) = length-set s.answers t (answers_of s t ++ y ∷ [])

  count_next : (s : State) (t : ℕ) (b : Bool) (n : Next) →
      length (if b then step_of file s t n else idle s).after.answers ≡ length s.answers
  count_next s t false n = refl
  count_next s t true (Goes a sort) = count_effect s t a (effect file.classes s.store t a)
  count_next s t true Ended = refl
  count_next s t true Trapped = refl

  count_after : (s : State) (t : ℕ) → length (step file program s t).after.answers ≡ length s.answers
  count_after s t = count_next s t (has_started file program s t) (next file program t (answers_of s t))

  -- ---- one step of a thread whose action is known

  module _ (s : State) (h : List Event) (t : ℕ) (count : length s.answers ≡ length program.threads)
      (acts : IsActing (step file program s t).did) where
    abbrev Then' : Type 0
    Then' = Inv (step file program s t).after (h ++ events_of t (step file program s t).did)

    within : t < length s.answers
    within = subst (λ c. t < c) (sym count) (acts_within file program s t acts)

    by_action : (a : Action Value) (sort : Sort) (st : Store) (y : Answer Value) →
        next file program t (answers_of s t) ≡ Goes a sort →
        effect file.classes s.store t a ≡ Does st y → Inv (next_state s t st y) (h ++ events_in (event_of t a)) → Then'
    by_action a sort st y asks does inv =
        subst (λ (p : Step). Inv p.after (h ++ events_of t p.did))
        (sym (steps_so file program s t a sort st y (acts_up file program s t acts) asks does)) inv

    mine : (st : Store) (y : Answer Value) → answers_of (next_state s t st y) t ≡ answers_of s t ++ y ∷ []
    mine st y = own s t st y within

    -- an answer more, and what comes then
    on_more : (st : Store) (y : Answer Value) (course : Courses) →
        ((q : Answers) → next file program t (answers_of s t ++ q) ≡ course q) →
        (q : Answers) → next file program t (answers_of (next_state s t st y) t ++ q) ≡ course (y ∷ q)
    on_more st y course on q =
        ap (λ b. next file program t (b ++ q)) (mine st y)
        ∙ ap (next file program t) (append_assoc (answers_of s t) (y ∷ []) q)
        ∙ on (y ∷ q)

    asks_at : (course : Courses) → ((q : Answers) → next file program t (answers_of s t ++ q) ≡ course q) →
        next file program t (answers_of s t) ≡ course []
    asks_at course on = ap (next file program t) (sym (append-nil (answers_of s t))) ∙ on []

    other_at : (st : Store) (y : Answer Value) (u : ℕ) → u ≢ t → At u (answers_of s u) →
        At u (answers_of (next_state s t st y) u)
    other_at st y u ne a = subst (At u) (sym (other s t u st y ne)) a

    not_acting : next file program t (answers_of s t) ≡ Ended → ⊥
    not_acting e = idle_not _ (ended_so file program s t (acts_up file program s t acts) e) acts

  -- ---- a call begins

  record IsSafeCall (t n : ℕ) (cs : List ProgramCall) (word : List ℕ) (result : Option ValueType) (z : ℤ) (ks : List ℤ)
      (s : Store) (m : ℕ) : Type 0 where
    o : Operation
    named : IsNameFor o word
    safe : (k : ℕ) → Safe file.classes t n (all_calls file program (n + 1) cs) (IsDone o z ks) k
        (entry program t n cs word result z m) s

  safe_call : (t n : ℕ) (cs : List ProgramCall) (word : List ℕ) (result : Option ValueType) (z : ℤ) (ks : List ℤ)
      (s : Store) (m : ℕ) →
      int_lt z greatest ≡ true → IsList s Free ks → IsNameOf m word → IsSafeCall t n cs word result z ks s m
  safe_call t n cs word result z ks s m small list (inl e) = record {
    o = Add;
    named = e.1;
    safe = λ k. subst (λ x. Safe file.classes t n (all_calls file program (n + 1) cs) (IsDone Add z ks) k
        (entry program t n cs word result z x) s)
        (sym e.0) (adds program t n cs word result z ks s list small k);
  }
  safe_call t n cs word result z ks s m small list (inr (inl e)) = record {
    o = Remove;
    named = e.1;
    safe = λ k. subst (λ x. Safe file.classes t n (all_calls file program (n + 1) cs) (IsDone Remove z ks) k
        (entry program t n cs word result z x) s)
        (sym e.0) (removes program t n cs word result z ks s list small k);
  }
  safe_call t n cs word result z ks s m small list (inr (inr e)) = record {
    o = Contains;
    named = e.1;
    safe = λ k. subst (λ x. Safe file.classes t n (all_calls file program (n + 1) cs) (IsDone Contains z ks) k
        (entry program t n cs word result z x) s)
        (sym e.0) (says_contains program t n cs word result z ks s list small k);
  }

  next_number : (n : ℕ) → 1 ≤ n → n + 1 - 1 ≡ suc (n - 1)
  next_number n le = omega (arith, le)

  one_less : (n : ℕ) → 1 ≤ n + 1
  one_less n = omega arith

  module _ (s : State) (h : List Event) (t : ℕ) (count : length s.answers ≡ length program.threads)
      (acts : IsActing (step file program s t).did) where
    -- a call of an item
    begins_call : (x : Resting s h) (n : ℕ) (nm m : ℕ) (word : List ℕ) (result : Option ValueType) (z : ℤ)
        (cs : List ProgramCall) →
        ((q : Answers) → next file program t (answers_of s t ++ q) ≡ all_calls file program n
        (Calling nm m word result (Int z ∷ []) ∷ cs) q) →
        1 ≤ n → drop (n - 1) (calls t) ≡ Calling nm m word result (Int z ∷ []) ∷ cs → nm ≡ 0 → IsNameOf m word →
        int_lt z greatest ≡ true → AreSmallSetCalls cs → Then' s h t count acts
    begins_call x n nm m word result z cs on positive from nought is_name small rest =
        by_action s h t count acts (act.Call n) NoValue s.store Did (asks_at s h t count acts _ on) refl
        (inr (inl (record {
          t = t;
          n = n;
          cs = cs;
          goal = OfCall c.o z x.done.items;
          course = entry program t n cs word result z m;
          front = h;
          is = refl;
          serial = subst IsSerial (sym x.done.is) (serial_told x.done.deeds);
          others = λ u ne. other_at s h t count acts s.store Did u ne (x.at u);
          on = λ q. on_more s h t count acts s.store Did _ on q
              ∙ ap (λ i. all_calls file program n (Calling i m word result (Int z ∷ []) ∷ cs) (Did ∷ q)) nought;
          safe = c.safe;
          after = λ v st g. subst (λ w. IsDoneBy program st (h ++ called t n ∷ returned t n w ∷ [])) (sym g.is)
              (done_more program s.store st h x.done
              (record { thread = t; call = n; operation = c.o; item = z; answer = g.answer }) g.items
              (record {
                method = m;
                text = word;
                result = result;
                there = drop_get (n - 1) (calls t) _ cs from
                    ∙ ap (λ i. Some (Calling i m word result (Int z ∷ []))) nought;
                named = c.named;
              }) g.follows g.list);
          positive = positive;
          from = ap (λ k. drop k (calls t)) (next_number n positive) ∙ drop_next (n - 1) (calls t) _ cs from;
          small = rest;
        })))
      where
        c : IsSafeCall t n cs word result z x.done.items s.store m
        c = safe_call t n cs word result z x.done.items s.store m small x.done.list is_name

    by_values : (x : Resting s h) (n : ℕ) (nm m : ℕ) (word : List ℕ) (result : Option ValueType) (vs : List Value)
        (cs : List ProgramCall) →
        ((q : Answers) → next file program t (answers_of s t ++ q) ≡ all_calls file program n
        (Calling nm m word result vs ∷ cs) q) →
        1 ≤ n → drop (n - 1) (calls t) ≡ Calling nm m word result vs ∷ cs → nm ≡ 0 → IsNameOf m word →
        IsSmallItem vs → AreSmallSetCalls cs → Then' s h t count acts
    by_values x n nm m word result [] cs on positive from nought is_name small rest = absurd small
    by_values x n nm m word result (values.Int z ∷ []) cs on positive from nought is_name small rest =
        begins_call x n nm m word result z cs on positive from nought is_name small rest
    by_values x n nm m word result (values.Int z ∷ w ∷ vs) cs on positive from nought is_name small rest = absurd small
    by_values x n nm m word result (values.Boolean b ∷ vs) cs on positive from nought is_name small rest = absurd small
    by_values x n nm m word result (values.Reference r ∷ vs) cs on positive from nought is_name small rest =
        absurd small
    by_values x n nm m word result (values.Pair r b ∷ vs) cs on positive from nought is_name small rest = absurd small

    by_calls : (x : Resting s h) (n : ℕ) (cs : List ProgramCall) →
        ((q : Answers) → next file program t (answers_of s t ++ q) ≡ all_calls file program n cs q) →
        1 ≤ n → drop (n - 1) (calls t) ≡ cs → AreSmallSetCalls cs → Then' s h t count acts
    by_calls x n [] on positive from small = absurd (not_acting s h t count acts (asks_at s h t count acts _ on))
    by_calls x n (Making nm c word vs ∷ cs) on positive from small = absurd small
    by_calls x n (Calling nm m word result vs ∷ cs) on positive from small =
        by_values x n nm m word result vs cs on positive from small.0 small.1 small.2 small.3

    rests : Resting s h → Then' s h t count acts
    rests x = let a = x.at t in by_calls x a.n a.cs a.on a.positive a.from a.small

    -- ---- a call goes on, or ends

    -- another thread would call
    called_not : (x : Running s h) (n : ℕ) (cs : List ProgramCall) → t ≢ x.t →
        ((q : Answers) → next file program t (answers_of s t ++ q) ≡ all_calls file program n cs q) →
        Begins (h ++ events_of t (step file program s t).did) → AreSmallSetCalls cs → ⊥
    called_not x n [] ne on b small = not_acting s h t count acts (asks_at s h t count acts _ on)
    called_not x n (Making nm c word vs ∷ cs) ne on b small = absurd small
    called_not x n (Calling nm m word result vs ∷ cs) ne on b small =
        let e = steps_so file program s t (act.Call n) NoValue s.store Did (acts_up file program s t acts)
        (asks_at s h t count acts _ on) refl in
        let b' : Begins (h ++ called t n ∷ []) = subst (λ (p : Step). Begins (h ++ events_of t p.did)) e b in
        not_two x.front (called x.t x.n) (called t n) b'.0 x.serial refl
        (subst IsSerial (ap (λ l. (l ++ called t n ∷ []) ++ b'.0) x.is
        ∙ append_assoc (x.front ++ called x.t x.n ∷ []) (called t n ∷ []) b'.0
        ∙ append_assoc x.front (called x.t x.n ∷ []) (called t n ∷ b'.0)) b'.1)

  module _ (s : State) (h : List Event) (count : length s.answers ≡ length program.threads) (x : Running s h)
      (acts : IsActing (step file program s x.t).did) where
    abbrev asks_own : next file program x.t (answers_of s x.t) ≡ x.course []
    asks_own = asks_at s h x.t count acts x.course x.on

    returns : Returns file.classes x.t x.n (all_calls file program (x.n + 1) x.cs) (good_of x.goal) x.course s.store →
        Then' s h x.t count acts
    returns r = by_action s h x.t count acts (act.Return x.n r.value) NoValue s.store Did (asks_own ∙ r.asks) refl
        (inr (inr (record {
          done = subst (IsDoneBy program s.store) (sym (ap (λ l. l ++ returned x.t x.n r.value ∷ []) x.is
              ∙ append_assoc x.front (called x.t x.n ∷ []) (returned x.t x.n r.value ∷ [])))
              (x.after r.value s.store r.good);
          at = λ u. by_thread u (cases_eq u x.t);
        })))
      where
        mine_at : At x.t (answers_of (next_state s x.t s.store Did) x.t)
        mine_at = record {
          n = x.n + 1;
          cs = x.cs;
          on = λ q. on_more s h x.t count acts s.store Did x.course x.on q ∙ r.on q;
          positive = one_less x.n;
          from = x.from;
          small = x.small;
        }

        by_thread : (u : ℕ) → (u ≡ x.t) ⊎ (u ≢ x.t) → At u (answers_of (next_state s x.t s.store Did) u)
        by_thread u (inl e) = subst (λ v. At v (answers_of (next_state s x.t s.store Did) v)) (sym e) mine_at
        by_thread u (inr ne) = other_at s h x.t count acts s.store Did u ne (x.others u ne)

    module _ (later : Courses) (s' : Store)
        (a : Acts file.classes x.t x.n (all_calls file program (x.n + 1) x.cs)
        (good_of x.goal) x.course s.store later s') where
      abbrev Safely : ℕ → Courses → Store → Type 0
      Safely = Safe file.classes x.t x.n (all_calls file program (x.n + 1) x.cs) (good_of x.goal)

      onward : (k : ℕ) → Safely (suc k) x.course s.store → Safely k (λ q. x.course (a.answer ∷ q)) s'
      onward k (inl r) = absurd (some_none (ap (event_of 0) (goes_action (sym r.asks ∙ a.asks)) ∙ a.silent 0))
      onward k (inr b) =
          let same : b.2.action ≡ a.action = goes_action (sym b.2.asks ∙ a.asks) in
          let does : Does b.1 b.2.answer ≡ Does s' a.answer =
          sym b.2.does ∙ ap (effect file.classes s.store x.t) same ∙ a.does in
          let e : b.2.answer ≡ a.answer = does_answer does in
          subst (Safely k (λ q. x.course (a.answer ∷ q))) (does_store does)
          (same_safe file.classes x.t x.n (all_calls file program (x.n + 1) x.cs) (good_of x.goal)
          (λ q. x.course (a.answer ∷ q)) b.0
          (λ q. ap (λ y. x.course (y ∷ q)) (sym e) ∙ b.2.on q) b.1 k b.3)

      goes : Then' s h x.t count acts
      goes = by_action s h x.t count acts a.action a.sort s' a.answer (asks_own ∙ a.asks) a.does (inr (inl (record {
        t = x.t;
        n = x.n;
        cs = x.cs;
        goal = x.goal;
        course = λ q. x.course (a.answer ∷ q);
        front = x.front;
        is = ap (λ o. h ++ events_in o) (a.silent x.t) ∙ append-nil h ∙ x.is;
        serial = x.serial;
        others = λ u ne. other_at s h x.t count acts s' a.answer u ne (x.others u ne);
        on = λ q. on_more s h x.t count acts s' a.answer x.course x.on q;
        safe = λ k. onward k (x.safe (suc k));
        after = x.after;
        positive = x.positive;
        from = x.from;
        small = x.small;
      })))

    by_safe : Safe file.classes x.t x.n (all_calls file program (x.n + 1) x.cs) (good_of x.goal) 1 x.course s.store →
        Then' s h x.t count acts
    by_safe (inl r) = returns r
    by_safe (inr a) = goes a.0 a.1 a.2

    own_step : Then' s h x.t count acts
    own_step = by_safe (x.safe 1)

  -- ---- the start

  drop_none : {A : Type 0} (xs : List A) → drop 0 xs ≡ xs
  drop_none [] = refl
  drop_none (x ∷ xs) = refl

  module _ (s : State) (h : List Event) (count : length s.answers ≡ length program.threads) (x : New s h) where
    on_new : (u : ℕ) (q : Answers) → next file program u (answers_of s u ++ q) ≡ all_calls file program 1 (calls u) q
    on_new u q = ap (λ b. next file program u (b ++ q)) (x.none u)

    new_at : (u : ℕ) → u ≢ 0 → At u (answers_of s u)
    new_at u ne = record {
      n = 1;
      cs = calls u;
      on = on_new u;
      positive = omega arith;
      from = drop_none (calls u);
      small = small_calls u ne;
    }

    first_step : (acts : IsActing (step file program s 0).did) → Then' s h 0 count acts
    first_step acts = by_action s h 0 count acts (act.Call 1) NoValue s.store Did
        (asks_at s h 0 count acts _ (on_new 0)) refl (inr (inl (record {
          t = 0;
          n = 1;
          cs = more;
          goal = OfMaking;
          course = making program more text;
          front = [];
          is = ap (λ l. l ++ called 0 1 ∷ []) x.is;
          serial = tt;
          others = λ u ne. other_at s h 0 count acts s.store Did u ne (new_at u ne);
          on = λ q. on_more s h 0 count acts s.store Did _ (on_new 0) q;
          safe = λ k. subst (Safe file.classes 0 1 (all_calls file program 2 more) IsMade k (making program more text))
              (sym x.store)
              (made program more text k);
          after = λ v st g. record {
            deeds = [];
            items = [];
            is = ap (λ w. called 0 1 ∷ returned 0 1 w ∷ []) g.0;
            runs = refl;
            asked = tt;
            list = g.1;
          };
          positive = omega arith;
          from = refl;
          small = small_more;
        })))

    other_step : (t : ℕ) (acts : IsActing (step file program s t).did) → t ≢ 0 → ⊥
    other_step t acts ne = goes_not
        (sym (ap (next file program 0) (x.none 0)) ∙ up_ended file program s t ne (acts_up file program s t acts))

    new_step : (t : ℕ) (acts : IsActing (step file program s t).did) → Then' s h t count acts
    new_step zero acts = first_step acts
    new_step (suc t) acts = absurd (other_step (suc t) acts (λ e. absurd (omega (arith, e))))

  -- ---- each step

  by_inv : (s : State) (h : List Event) (t : ℕ) (count : length s.answers ≡ length program.threads)
      (acts : IsActing (step file program s t).did) → Begins (h ++ events_of t (step file program s t).did) → Inv s h →
      Then' s h t count acts
  by_inv s h t count acts b (inl x) = new_step s h count x t acts
  by_inv s h t count acts b (inr (inr x)) = rests s h t count acts x
  by_inv s h t count acts b (inr (inl x)) = by_thread (cases_eq t x.t)
    where
      by_thread : (t ≡ x.t) ⊎ (t ≢ x.t) → Then' s h t count acts
      by_thread (inl e) = subst (λ u. (a : IsActing (step file program s u).did) → Then' s h u count a) (sym e)
          (own_step s h count x) acts
      by_thread (inr ne) = let a = x.others t ne in absurd (called_not s h t count acts x a.n a.cs ne a.on b a.small)

  kept : IsKept file program Holds
  kept s h t holds acts = (
    count_after s t ∙ holds.0,
    λ b. by_inv s h t holds.0 acts b (holds.1 (begins_less h (events_of t (step file program s t).did) b)),
  )

  none_yet : (xs : List ThreadProgram) (k : ℕ) → slice_index_or {A = Answers} (map (λ t. []) xs) k [] ≡ []
  none_yet [] k = refl
  none_yet (x ∷ xs) zero = refl
  none_yet (x ∷ xs) (suc k) = none_yet xs k

  at_start : Holds (start program) []
  at_start = (
    length-map program.threads (λ t. []),
    λ b. inl
        (record { is = refl; store = refl; none = none_yet program.threads }),
  )

  -- a serial history is empty, or made of deeds, and then the list has the items that they leave
  pub serial_is : (schedule : List ℕ) → IsSerial (source_history file program schedule) →
      (source_history file program schedule ≡ []) ⊎
      IsDoneBy program (source_run file program schedule).store (source_history file program schedule)
  serial_is schedule serial = by_end
      (holds.1 ([], subst IsSerial (sym (append-nil (source_history file program schedule))) serial))
    where
      holds : Holds (source_run file program schedule) (source_history file program schedule)
      holds = holds_of_all file program Holds kept at_start schedule

      by_end : Inv (source_run file program schedule) (source_history file program schedule) →
          (source_history file program schedule ≡ []) ⊎
          IsDoneBy program (source_run file program schedule).store (source_history file program schedule)
      by_end (inl x) = inl x.is
      by_end (inr (inl x)) = absurd (not_one x.front (called x.t x.n) x.serial (subst IsSerial x.is serial))
      by_end (inr (inr x)) = inr x.done
