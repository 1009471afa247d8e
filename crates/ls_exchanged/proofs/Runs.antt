-- Steps, runs and histories of programs that are alike but for the numbers of threads.
use Rattle.std.proofs.Common.{◌≡◌, ◌≢◌, ◌⊎◌, inl, inr, ℕ, zero, suc, ◌+◌, ◌<◌, Bool, true, false, cond, List, []}
use Rattle.std.proofs.Common.{◌∷◌, ◌++◌, length, map, refl, sym, ap, ◌∙◌, subst}
use Rattle.std.proofs.Common.{length-set, get_or-set_same, get_or-set_other, slice_set}
use Rattle.std.specs.Prelude.{if◌then◌else◌, nat_eq, slice_get, slice_index_or}
use Rattle.std.proofs.lemmas.Bool.{cases_eq}
use Rattle.std.proofs.lemmas.List.{map-append, length-map}
use Rattle.ls_events.specs.declared.value.Value.{Value}
use Rattle.ls_events.specs.declared.value.Value.TheVariants.{Reference}
use Rattle.ls_events.specs.declared.value.ValueType.TheVariants.{Class}
use Rattle.ls_events.specs.declared.event.Event.{Event}
use Rattle.ls_events.specs.declared.action.Action.{Action}
use Rattle.ls_events.specs.declared.action.Action.TheVariants as act
use Rattle.ls_checked.specs.CheckedTree.{File}
use Rattle.ls_checked.specs.CheckedProgram.{Program, ProgramCall, ThreadProgram, Making, Calling}
use Rattle.ls_meaning.specs.declared.sort.Sort.{Sort}
use Rattle.ls_meaning.specs.declared.sort.Sort.TheVariants.{ValueOf}
use Rattle.ls_meaning.specs.declared.step.Did.{Did}
use Rattle.ls_meaning.specs.declared.step.Did.TheVariants as did
use Rattle.ls_meaning.specs.Values.{reference_of}
use Rattle.ls_meaning.specs.Course.{Answers, Results, ask, tell, unless_null, with_value}
use Rattle.ls_meaning.specs.Methods.{depth_limit, invoke}
use Rattle.ls_meaning.specs.Effect.{Effect, Waits, Does, effect}
use Rattle.ls_meaning.specs.Threads.{Next, Goes, Ended, Trapped, after_call, all_calls, calls_in, class_in, named, next}
use Rattle.ls_meaning.specs.Threads.{one_call, result_of}
use Rattle.ls_meaning.specs.Steps.{run, trace}
use Rattle.ls_meaning.specs.Still.{IsActing}
use Rattle.ls_meaning.specs.Runs.{State, Step, answers_of, event_of, has_ended, has_started, history_of, idle}
use Rattle.ls_meaning.specs.Runs.{performed, source_history, source_run, source_step, start, step, step_of}
use Rattle.ls_search_laws.specs.Stepping.{events_in, events_of}
use Rattle.ls_search_laws.proofs.Stepping.{acts_within, step_after, traced_events}
use Rattle.ls_exchanged.specs.Exchanged.{exchanged}
use Rattle.ls_exchanged.specs.Laws.{HistoriesAreExchanged, StepsAreExchanged}
use Rattle.ls_exchanged.proofs.Alike.{AreAlike, alike, apart, same_test}
use Rattle.ls_exchanged.proofs.Effects.{effect_other, other_effect, other_store}

-- the same event of the thread with the other number
abbrev pub other_event : (ℕ → ℕ) → Event → Event
other_event f e = record { thread = f e.thread; call = e.call; happening = e.happening }

-- the same events so
abbrev pub other_events : (ℕ → ℕ) → List Event → List Event
other_events f h = map (other_event f) h

module _ (file : File) (f : ℕ → ℕ) (p q : Program) (r : AreAlike f p q) where
  -- ---- what threads do next

  named_same : (n : ℕ) → named p n ≡ named q n
  named_same n = ap (λ ns. ValueOf (Class (class_in (slice_get ns n)))) r.names

  one_same : (c : ProgramCall) (n : ℕ) (answers : Answers) → one_call file p n c answers ≡ one_call file q n c answers
  one_same (Making name c text values) n answers = refl
  one_same (Calling name m text result values) n answers =
      ap (λ (s : Sort). with_value (tell (act.Call n) answers) (λ _ rest.
      with_value (ask (act.ReadName name) s rest) (λ o rest.
      unless_null (reference_of o) rest (
      with_value (invoke file depth_limit m (o ∷ values) rest) (λ v rest. Results (result_of file m v) rest)))))
      (named_same name)

  all_same : (cs : List ProgramCall) (n : ℕ) → all_calls file p n cs ≡ all_calls file q n cs
  all_same [] n = refl
  all_same (c ∷ cs) n = λ i answers. after_call n (one_same c n answers i) (all_same cs (n + 1) i)

  next_same : (t : ℕ) (answers : Answers) → next file q (f t) answers ≡ next file p t answers
  next_same t answers =
      ap (λ cs. all_calls file q 1 cs answers) (r.calls t)
      ∙ sym (λ i. all_same (calls_in (slice_get p.threads t)) 1 i answers)

  -- ---- states

  -- the same state with other numbers of threads
  record AreOther (s s' : State) : Type 0 where
    store : s'.store ≡ other_store f s.store
    answers : (t : ℕ) → answers_of s' (f t) ≡ answers_of s t
    first : length s.answers ≡ length p.threads
    second : length s'.answers ≡ length q.threads

  record AreOtherSteps (x x' : Step) : Type 0 where
    did : x'.did ≡ x.did
    after : AreOther x.after x'.after

  module _ (s s' : State) (o : AreOther s s') where
    setup_same : next file q 0 (answers_of s' 0) ≡ next file p 0 (answers_of s 0)
    setup_same = subst (λ z. next file q z (answers_of s' z) ≡ next file p 0 (answers_of s 0)) r.zero
        (ap (next file q (f 0)) (o.answers 0) ∙ next_same 0 (answers_of s 0))

    started_same : (t : ℕ) → has_started file q s' (f t) ≡ has_started file p s t
    started_same t =
        ap (λ n. if nat_eq (f t) 0 then true else has_ended n) setup_same
        ∙ ap (λ b. if b then true else has_ended (next file p 0 (answers_of s 0)))
        (ap (nat_eq (f t)) (sym r.zero) ∙ same_test f r.twice t 0)

    module _ (t : ℕ) where
      -- one answer more
      more : (l : Answers) → t < length p.threads → (w : ℕ) → (w ≡ t) ⊎ (w ≢ t) →
          slice_index_or (slice_set s'.answers (f t) l) (f w) [] ≡ slice_index_or (slice_set s.answers t l) w []
      more l lt w (inl same) =
          ap (λ z. slice_index_or (slice_set s'.answers (f t) l) (f z) []) same
          ∙ get_or-set_same s'.answers (f t) l [] (subst (λ n. f t < n) (sym o.second) (r.within t lt))
          ∙ sym (ap (λ z. slice_index_or (slice_set s.answers t l) z []) same
          ∙ get_or-set_same s.answers t l [] (subst (λ n. t < n) (sym o.first) lt))
      more l lt w (inr ne) =
          get_or-set_other s'.answers (f t) (f w) l [] (λ e. ne (apart f r.twice w t e))
          ∙ o.answers w
          ∙ sym (get_or-set_other s.answers t w l [] ne)

      by_effect : (a : Action Value) (e e' : Effect) →
          e' ≡ other_effect f e →
          (IsActing (performed s t a e).did → t < length p.threads) →
          AreOtherSteps (performed s t a e) (performed s' (f t) a e')
      by_effect a Waits e' same within =
          subst (λ z. AreOtherSteps (performed s t a Waits) (performed s' (f t) a z)) (sym same)
          (record { did = refl; after = o })
      by_effect a (Does store x) e' same within =
          subst (λ z. AreOtherSteps (performed s t a (Does store x)) (performed s' (f t) a z)) (sym same)
          (record {
            did = refl;
            after = record {
              store = refl;
              answers = λ w.
                  ap (λ l. slice_index_or (slice_set s'.answers (f t) (l ++ x ∷ [])) (f w) []) (o.answers t)
                  ∙ more (answers_of s t ++ x ∷ []) (within tt) w (cases_eq w t);
              first = length-set s.answers t (answers_of s t ++ x ∷ []) ∙ o.first;
              second = length-set s'.answers (f t) (answers_of s' (f t) ++ x ∷ []) ∙ o.second;
            };
          })

      by_next : (n : Next) →
          (IsActing (step_of file s t n).did → t < length p.threads) →
          AreOtherSteps (step_of file s t n) (step_of file s' (f t) n)
      by_next (Goes a sort) within =
          by_effect a (effect file.classes s.store t a) (effect file.classes s'.store (f t) a)
          (ap (λ z. effect file.classes z (f t) a) o.store
          ∙ effect_other f (same_test f r.twice) file.classes s.store t a) within
      by_next Ended within = record { did = refl; after = o }
      by_next Trapped within = record { did = refl; after = o }

      by_started : (b : Bool) (n : Next) →
          (IsActing (cond b (step_of file s t n) (idle s)).did → t < length p.threads) →
          AreOtherSteps (cond b (step_of file s t n) (idle s)) (cond b (step_of file s' (f t) n) (idle s'))
      by_started true n within = by_next n within
      by_started false n within = record { did = refl; after = o }

      -- a step of a thread, and that of the thread with the other number
      step_other : AreOtherSteps (step file p s t) (step file q s' (f t))
      step_other =
          subst (AreOtherSteps (step file p s t))
          (sym (ap (λ b. cond b (step_of file s' (f t) (next file q (f t) (answers_of s' (f t)))) (idle s'))
          (started_same t)
          ∙ ap (λ n. cond (has_started file p s t) (step_of file s' (f t) n) (idle s'))
          (ap (next file q (f t)) (o.answers t) ∙ next_same t (answers_of s t))))
          (by_started (has_started file p s t) (next file p t (answers_of s t)) (acts_within file p s t))

  -- ---- runs

  abbrev no_answers : Answers
  no_answers = []

  none_yet : (xs : List ThreadProgram) (k : ℕ) → slice_index_or (map (λ t. no_answers) xs) k no_answers ≡ no_answers
  none_yet [] k = refl
  none_yet (x ∷ xs) zero = refl
  none_yet (x ∷ xs) (suc k) = none_yet xs k

  start_other : AreOther (start p) (start q)
  start_other = record {
    store = ap (λ ns. record { things = []; names = map (λ n. Reference 0) ns }) (sym r.names);
    answers = λ t. none_yet q.threads (f t) ∙ sym (none_yet p.threads t);
    first = length-map p.threads (λ t. []);
    second = length-map q.threads (λ t. []);
  }

  run_is : (program : Program) (s : State) (t : ℕ) (ts : List ℕ) →
      run (source_step file program) s (t ∷ ts) ≡ run (source_step file program) (step file program s t).after ts
  run_is program s t ts = ap (λ z. run (source_step file program) z ts) (step_after file program s t)

  run_from : (schedule : List ℕ) (s s' : State) → AreOther s s' →
      AreOther (run (source_step file p) s schedule) (run (source_step file q) s' (map f schedule))
  run_from [] s s' o = o
  run_from (t ∷ ts) s s' o =
      subst (λ z. AreOther z (run (source_step file q) s' (f t ∷ map f ts))) (sym (run_is p s t ts))
      (subst (AreOther (run (source_step file p) (step file p s t).after ts)) (sym (run_is q s' (f t) (map f ts)))
      (run_from ts (step file p s t).after (step file q s' (f t)).after (step_other s s' o t).after))

  -- ---- histories

  action_events : (t : ℕ) (a : Action Value) →
      events_in (event_of (f t) a) ≡ map (other_event f) (events_in (event_of t a))
  action_events t (act.Call n) = refl
  action_events t (act.Return n v) = refl
  action_events t (act.Trap n kind) = refl
  action_events t _ = refl

  events_other : (t : ℕ) (d : Did) → events_of (f t) d ≡ map (other_event f) (events_of t d)
  events_other t (did.Acted a x) = action_events t a
  events_other t did.Waits = refl
  events_other t did.Idle = refl

  abbrev rest : Program → State → List ℕ → List Event
  rest program s ts = history_of (trace (source_step file program) s ts)

  -- the events of a step, and then those of the rest
  rest_is : (program : Program) (s : State) (t : ℕ) (ts : List ℕ) →
      rest program s (t ∷ ts) ≡
      events_of t (step file program s t).did ++ rest program (step file program s t).after ts
  rest_is program s t ts =
      traced_events t (step file program s t).did (step file program s t).after _
      ∙ ap (λ z. events_of t (step file program s t).did ++ rest program z ts) (step_after file program s t)

  history_from : (schedule : List ℕ) (s s' : State) → AreOther s s' →
      rest q s' (map f schedule) ≡ map (other_event f) (rest p s schedule)
  history_from [] s s' o = refl
  history_from (t ∷ ts) s s' o =
      let x = step_other s s' o t in
      let e = step file p s t in
      let e' = step file q s' (f t) in
      rest_is q s' (f t) (map f ts)
      ∙ ap (λ l. events_of (f t) e'.did ++ l) (history_from ts e.after e'.after x.after)
      ∙ ap (λ d. events_of (f t) d ++ map (other_event f) (rest p e.after ts)) x.did
      ∙ ap (λ l. l ++ map (other_event f) (rest p e.after ts)) (events_other t e.did)
      ∙ sym (map-append (other_event f) (events_of t e.did) (rest p e.after ts))
      ∙ ap (map (other_event f)) (sym (rest_is p s t ts))

  -- the schedule of the other numbers has the history of the other numbers
  pub histories : (schedule : List ℕ) →
      source_history file q (map f schedule) ≡ map (other_event f) (source_history file p schedule)
  histories schedule = history_from schedule (start p) (start q) start_other

  -- and then each thread does what that with the other number does
  pub steps : (schedule : List ℕ) (t : ℕ) →
      (step file q (source_run file q (map f schedule)) (f t)).did ≡ (step file p (source_run file p schedule) t).did
  steps schedule t =
      (step_other (source_run file p schedule) (source_run file q (map f schedule))
      (run_from schedule (start p) (start q) start_other) t).did

  -- and the store is that with the other numbers
  pub stores : (schedule : List ℕ) →
      (source_run file q (map f schedule)).store ≡ other_store f (source_run file p schedule).store
  stores schedule = (run_from schedule (start p) (start q) start_other).store

-- the schedule of exchanged threads has the history of exchanged threads
pub histories_exchanged : HistoriesAreExchanged
histories_exchanged file u v p q e = histories file (exchanged u v) p q (alike u v p q e)

-- and then each thread does what the exchanged one does
pub steps_exchanged : StepsAreExchanged
steps_exchanged file u v p q e = steps file (exchanged u v) p q (alike u v p q e)
