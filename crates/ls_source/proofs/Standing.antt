-- What a run stands for that keeps no answers, from the start on and after each step.
use Rattle.std.proofs.Common.{◌≡◌, ℕ, ◌<◌, Bool, true, false, List, [], ◌∷◌, ◌++◌, length, map, get_or}
use Rattle.std.proofs.Common.{Option, Some, None, refl, sym, ap, subst, ◌∙◌}
use Rattle.std.specs.Prelude.{if◌then◌else◌, slice_get, slice_set, slice_index_or}
use Rattle.std.proofs.lemmas.List.{length-set, length-map}
use Rattle.ls_events.specs.declared.value.Value.{Value}
use Rattle.ls_events.specs.declared.action.Action.{Action}
use Rattle.ls_events.specs.declared.action.Answer.{Answer}
use Rattle.ls_events.specs.declared.event.Event.{Event}
use Rattle.ls_checked.specs.CheckedTree.{File}
use Rattle.ls_checked.specs.CheckedProgram.{Program}
use Rattle.ls_checked.specs.Plain.{plain_file}
use Rattle.ls_checked.specs.PlainProgram.{plain_program}
use Rattle.ls_meaning.specs.declared.step.Did.{Did}
use Rattle.ls_meaning.specs.declared.step.Did.TheVariants as did
use Rattle.ls_meaning.specs.Course.{Answers}
use Rattle.ls_meaning.specs.Store.{Store}
use Rattle.ls_meaning.specs.Effect.{Effect, Waits, Does, effect}
use Rattle.ls_meaning.specs.Steps.{traced}
use Rattle.ls_meaning.specs.Threads.{Next, Goes, Ended, Trapped, next}
use Rattle.ls_meaning.specs.Runs.{State, Step, event_of, history_of, stepped, step, step_of, performed, idle}
use Rattle.ls_meaning.specs.Runs.{has_started, answers_of}
use Rattle.ls_source_store.specs.declared.thing.Effect.{Effect as StoreEffect}
use Rattle.ls_source_store.specs.declared.thing.Effect.TheVariants.{Waits as HasToWait, Does as HasDone}
use Rattle.ls_source_store.specs.SeenStore.{store_of, plain_effect}
use Rattle.std.specs.declared.vec.Vec.{Vec}
use Rattle.std.specs.declared.alloc.Global.{Global}
use Rattle.ls_source.specs.declared.playing.Playing.{Playing}
use Rattle.ls_source.specs.declared.store_and_events.StoreAndEvents.{StoreAndEvents}
use Rattle.ls_source.specs.declared.thread.Thread.{Thread as KeptThread}
use Rattle.ls_source.specs.Calls.{thread_meaning, answered}
use Rattle.ls_source.specs.Progress.{Progress, gone_on}
use Rattle.ls_source.specs.GoneBy.{gone_by}
use Rattle.ls_source.specs.Kept.{IsKept, asked_at, action_in}
use Rattle.ls_source.specs.SeenRun.{lists_of, state_of, did_by, events_by, listed}
use Rattle.ls_source.specs.SeenThread.{thread_of}
use Rattle.ls_source.specs.Stands.{StandsFor, progress_with}
use Rattle.ls_source.specs.declared.run.SourceRun.{SourceRun}
use Rattle.ls_source.specs.Shown.{progress_of}
use Rattle.ls_meaning.specs.declared.sort.Sort.{Sort}
use Rattle.ls_source.proofs.Kept.{now_is, answers_after, taken, settled}
use Rattle.ls_source.proofs.StoresAndEvents.{Kept as AnswersOfThread, stays, grown}
use Rattle.ls_source.proofs.Histories.{rest_of, idle_stays}

-- what a thread asks for is what it does next in a run that is stood for
pub next_is : (r : Playing) (t : ℕ) (n : Next) →
    asked_at (plain_program r.program.now) (slice_get (map thread_of r.threads.items) t) ≡ Some n →
    (p : Progress) →
    StandsFor r p →
    n ≡ next p.file p.program t (answers_of p.state t)
next_is r t n asks p s =
    subst (λ q. n ≡ next q.file q.program t (answers_of q.state t)) s.shows
    (now_is (plain_file r.file.now) (plain_program r.program.now) (map thread_of r.threads.items) p.state.answers t n
    s.kept asks)

-- the events of a step
events_are : (t : ℕ) (d : Did) (s : State) → history_of (traced (stepped t d s) []) ≡ events_by t d
events_are t (did.Acted action answer) s = by (event_of t action) refl
  where
    by : (o : Option Event) →
        event_of t action ≡ o →
        history_of (traced (stepped t (did.Acted action answer) s) []) ≡ listed (event_of t action)
    by None e = rw e refl
    by (Some x) e = rw e refl
events_are t did.Waits s = refl
events_are t did.Idle s = refl

-- what an action did that is performed
did_is : (st : State) (t : ℕ) (action : Action Value) (e : Effect) (o : StoreEffect) (s' : Store) →
    plain_effect s' o ≡ e →
    did_by action o ≡ (performed st t action e).did
did_is st t action e HasToWait s' h = ap (λ q. (performed st t action q).did) h
did_is st t action e (HasDone a) s' h = ap (λ q. (performed st t action q).did) h

-- the state after it
after_is : (st : State) (t : ℕ) (action : Action Value) (e : Effect) (o : StoreEffect) (s' : Store) →
    plain_effect s' o ≡ e →
    (o ≡ HasToWait → s' ≡ st.store) →
    record { store = s'; answers = (performed st t action e).after.answers } ≡ (performed st t action e).after
after_is st t action e HasToWait s' h same =
    ap (λ x. record { store = x; answers = (performed st t action e).after.answers }) (same refl)
    ∙ subst (λ q. record { store = st.store; answers = (performed st t action q).after.answers } ≡
    (performed st t action q).after) h refl
after_is st t action e (HasDone a) s' h same =
    subst (λ q. record { store = s'; answers = (performed st t action q).after.answers } ≡
    (performed st t action q).after) h refl

abbrev shown : Progress → State → List Event → Progress
shown p state history = record { file = p.file; program = p.program; state = state; history = history }

-- the run after it
gone : (p : Progress) (t : ℕ) (action : Action Value) (e : Effect) (o : StoreEffect) (s' : Store) (h' : List Event) →
    plain_effect s' o ≡ e →
    (o ≡ HasToWait → s' ≡ p.state.store) →
    h' ≡ p.history ++ events_by t (did_by action o) →
    shown p (record { store = s'; answers = (performed p.state t action e).after.answers }) h' ≡
    gone_by p t (performed p.state t action e)
gone p t action e o s' h' is same events =
    ap (λ s. shown p s h') (after_is p.state t action e o s' is same)
    ∙ ap (shown p (performed p.state t action e).after)
    (events ∙ ap (λ d. p.history ++ events_by t d) (did_is p.state t action e o s' is)
    ∙ ap (λ l. p.history ++ l)
    (sym (events_are t (performed p.state t action e).did (performed p.state t action e).after)))

-- a step of a thread that has started and asks for an action
pub step_goes : (file : File) (program : Program) (s : State) (t : ℕ) (b : Bool) (n : Next) (action : Action Value)
    (sort : Sort) →
    b ≡ has_started file program s t →
    b ≡ true →
    n ≡ next file program t (answers_of s t) →
    n ≡ Goes action sort →
    step file program s t ≡ performed s t action (effect file.classes s.store t action)
step_goes file program s t b n action sort starts is asks goes =
    ap (λ x. if x then step_of file s t (next file program t (answers_of s t)) else idle s) (sym starts ∙ is)
    ∙ ap (step_of file s t) (sym asks ∙ goes)

-- The answers after a step, by what it did.

module _ (file : File) (program : Program) (s : State) (t : ℕ) (d : Did) where
  if_acts : (x : Bool) (st : Step) (b : Action Value) (a : Answer Value) (xs : List Answers) →
      d ≡ (if x then st else idle s).did →
      d ≡ did.Acted b a →
      (d ≡ st.did → st.after.answers ≡ xs) →
      (if x then st else idle s).after.answers ≡ xs
  if_acts true st b a xs h is f = f h
  if_acts false st b a xs h is f = cc

  next_acts : (n : Next) (b : Action Value) (a : Answer Value) →
      d ≡ (step_of file s t n).did →
      d ≡ did.Acted b a →
      (step_of file s t n).after.answers ≡ slice_set s.answers t (answers_of s t ++ a ∷ [])
  next_acts (Goes action sort) b a h is = answers_after s t action (effect file.classes s.store t action) d b a h is
  next_acts Ended b a h is = cc
  next_acts Trapped b a h is = cc

  -- a step that acts
  step_acts : (b : Action Value) (a : Answer Value) →
      d ≡ (step file program s t).did →
      d ≡ did.Acted b a →
      (step file program s t).after.answers ≡ slice_set s.answers t (answers_of s t ++ a ∷ [])
  step_acts b a h is =
      if_acts (has_started file program s t) (step_of file s t (next file program t (answers_of s t))) b a
      (slice_set s.answers t (answers_of s t ++ a ∷ [])) h is
      (λ k. next_acts (next file program t (answers_of s t)) b a k is)

  if_stays : (x : Bool) (st : Step) →
      d ≡ (if x then st else idle s).did →
      (d ≡ st.did → st.after.answers ≡ s.answers) →
      (if x then st else idle s).after.answers ≡ s.answers
  if_stays true st h f = f h
  if_stays false st h f = refl

  performed_stays : (action : Action Value) (e : Effect) →
      ((b : Action Value) (a : Answer Value) → d ≡ did.Acted b a → ⊥) →
      d ≡ (performed s t action e).did →
      (performed s t action e).after.answers ≡ s.answers
  performed_stays action Waits none h = refl
  performed_stays action (Does store answer) none h = absurd (none action answer h)

  next_stays : (n : Next) →
      ((b : Action Value) (a : Answer Value) → d ≡ did.Acted b a → ⊥) →
      d ≡ (step_of file s t n).did →
      (step_of file s t n).after.answers ≡ s.answers
  next_stays (Goes action sort) none h = performed_stays action (effect file.classes s.store t action) none h
  next_stays Ended none h = refl
  next_stays Trapped none h = refl

  -- a step that doesn't
  step_stays : ((b : Action Value) (a : Answer Value) → d ≡ did.Acted b a → ⊥) →
      d ≡ (step file program s t).did →
      (step file program s t).after.answers ≡ s.answers
  step_stays none h =
      if_stays (has_started file program s t) (step_of file s t (next file program t (answers_of s t))) h
      (next_stays (next file program t (answers_of s t)) none)

-- An action that a run without answers performs.

-- the step of an action, as it is performed in a run so far
abbrev pub performing : Progress → ℕ → Action Value → Step
performing p t action = performed p.state t action (effect p.file.classes p.state.store t action)

-- what it did
pub did_there : (r : Playing) (t : ℕ) (action : Action Value) (o : StoreEffect) (s' : Store) →
    plain_effect s' o ≡ effect (plain_file r.file.now).classes (store_of r.store_and_events.store) t action →
    (p : Progress) →
    StandsFor r p →
    did_by action o ≡ (performing p t action).did
did_there r t action o s' is p s =
    subst (λ q. did_by action o ≡ (performing q t action).did) s.shows
    (did_is (state_of r.store_and_events p.state.answers) t action
    (effect (plain_file r.file.now).classes (store_of r.store_and_events.store) t action) o s' is)

as_many : (s : State) (t : ℕ) (action : Action Value) (e : Effect) →
    length (performed s t action e).after.answers ≡ length s.answers
as_many s t action Waits = refl
as_many s t action (Does store answer) = length-set s.answers t (answers_of s t ++ answer ∷ [])

-- a run whose store, events and threads are others
abbrev pub with_parts : (r : Playing) → StoreAndEvents → (ts : Vec KeptThread Global) →
    length ts.items ≡ length r.program.now.threads.items → Playing
with_parts r st ts works = record {
  file = r.file;
  program = r.program;
  store_and_events = st;
  threads = ts;
  works = works;
}

module _ (r : Playing) (t : ℕ) (action : Action Value) (st : StoreAndEvents) (ts : Vec KeptThread Global) where
  after_action : (works : length ts.items ≡ length r.program.now.threads.items) (o : StoreEffect) →
      plain_effect (store_of st.store) o ≡ effect (plain_file r.file.now).classes
      (store_of r.store_and_events.store) t action →
      (o ≡ HasToWait → store_of st.store ≡ store_of r.store_and_events.store) →
      st.events.items ≡ r.store_and_events.events.items ++ events_by t (did_by action o) →
      (p : Progress) →
      StandsFor r p →
      IsKept (plain_file r.file.now) (plain_program r.program.now) (map thread_of ts.items)
      (performing p t action).after.answers →
      StandsFor (with_parts r st ts works) (gone_by p t (performing p t action))
  after_action works o is same events p s kept = record {
    shows = subst (λ q. progress_with (with_parts r st ts works) (performing q t action).after.answers ≡
        gone_by q t (performing q t action)) s.shows
        (gone (progress_with r p.state.answers) t action
        (effect (plain_file r.file.now).classes (store_of r.store_and_events.store) t action) o (store_of st.store)
        st.events.items is same events);
    lists = as_many p.state t action (effect p.file.classes p.state.store t action) ∙ s.lists;
    kept = kept;
  }

-- after an action that has to wait
pub has_waited : (r : Playing) (t : ℕ) (action : Action Value) (st : StoreAndEvents)
    (works : length r.threads.items ≡ length r.program.now.threads.items) (o : StoreEffect) →
    o ≡ HasToWait →
    plain_effect (store_of st.store) o ≡ effect (plain_file r.file.now).classes
    (store_of r.store_and_events.store) t action →
    (o ≡ HasToWait → store_of st.store ≡ store_of r.store_and_events.store) →
    st.events.items ≡ r.store_and_events.events.items ++ events_by t (did_by action o) →
    (p : Progress) →
    StandsFor r p →
    StandsFor (with_parts r st r.threads works) (gone_by p t (performing p t action))
has_waited r t action st works o waits is same events p s =
    after_action r t action st r.threads works o is same events p s
    (subst (λ l. IsKept (plain_file r.file.now) (plain_program r.program.now) (map thread_of r.threads.items) l)
    (sym (performed_stays p.file p.program p.state t (did_by action o) action
    (effect p.file.classes p.state.store t action) none (did_there r t action o (store_of st.store) is p s))) s.kept)
  where
    none : (b : Action Value) (a : Answer Value) → did_by action o ≡ did.Acted b a → ⊥
    none b a h = not_acted (sym (ap (did_by action) waits) ∙ h)
      where
        not_acted : did.Waits ≡ did.Acted b a → ⊥
        not_acted h = cc

-- after an action whose answer a thread has taken
pub has_taken : (r : Playing) (t : ℕ) (action : Action Value) (st : StoreAndEvents) (ts : Vec KeptThread Global)
    (works : length ts.items ≡ length r.program.now.threads.items) (o : StoreEffect) (a : Answer Value)
    (v v' : KeptThread) →
    o ≡ HasDone a →
    plain_effect (store_of st.store) o ≡ effect (plain_file r.file.now).classes
    (store_of r.store_and_events.store) t action →
    (o ≡ HasToWait → store_of st.store ≡ store_of r.store_and_events.store) →
    st.events.items ≡ r.store_and_events.events.items ++ events_by t (did_by action o) →
    t < length r.threads.items →
    action_in (asked_at (plain_program r.program.now) (slice_get (map thread_of r.threads.items) t)) ≡ Some action →
    v ≡ get_or r.threads.items t v →
    thread_of v' ≡ answered (plain_file r.file.now) a (thread_of v) →
    ts.items ≡ slice_set r.threads.items t v' →
    (p : Progress) →
    StandsFor r p →
    StandsFor (with_parts r st ts works) (gone_by p t (performing p t action))
has_taken r t action st ts works o a v v' does is same events within asks was took set p s =
    let file = plain_file r.file.now in
    let program = plain_program r.program.now in
    let had = p.state.answers in
    let has : t < length had = subst (λ k. t < k) (r.works ∙ sym s.lists) within in
    let more : (performing p t action).after.answers ≡ slice_set had t (slice_index_or had t [] ++ a ∷ []) =
    answers_after p.state t action (effect p.file.classes p.state.store t action) (did_by action o) action a
    (did_there r t action o (store_of st.store) is p s) (ap (did_by action) does) in
    after_action r t action st ts works o is same events p s
    (subst (λ l. IsKept file program (map thread_of l) (performing p t action).after.answers) (sym set)
    (subst (λ l. IsKept file program (map thread_of (slice_set r.threads.items t v')) l) (sym more)
    (taken file program r.threads.items had t v v' action a s.kept within has was asks took)))

-- after a thread has gone on to its next question
pub has_settled : (r : Playing) (t : ℕ) (ts : Vec KeptThread Global)
    (works : length ts.items ≡ length r.program.now.threads.items) (v v' : KeptThread) →
    t < length r.threads.items →
    v ≡ get_or r.threads.items t v →
    ((program : Program) (q : Answers) → thread_meaning (plain_file r.file.now) program (thread_of v') q ≡
    thread_meaning (plain_file r.file.now) program (thread_of v) q) →
    ts.items ≡ slice_set r.threads.items t v' →
    (p : Progress) →
    StandsFor r p →
    StandsFor (with_parts r r.store_and_events ts works) p
has_settled r t ts works v v' within was goes_on set p s = record {
  shows = s.shows;
  lists = s.lists;
  kept = subst (λ l. IsKept (plain_file r.file.now) (plain_program r.program.now) (map thread_of l) p.state.answers)
      (sym set) (settled (plain_file r.file.now) (plain_program r.program.now) r.threads.items p.state.answers t v v'
      s.kept within was goes_on);
}

-- where the store and the events are as they were, nothing has changed
pub has_stayed : (r : Playing) (st : StoreAndEvents)
    (works : length r.threads.items ≡ length r.program.now.threads.items) →
    store_of st.store ≡ store_of r.store_and_events.store →
    st.events.items ≡ r.store_and_events.events.items →
    (p : Progress) →
    StandsFor r p →
    StandsFor (with_parts r st r.threads works) p
has_stayed r st works store events p s = record {
  shows = ap (λ x. record {
    file = plain_file r.file.now;
    program = plain_program r.program.now;
    state = record { store = x; answers = p.state.answers };
    history = st.events.items;
  }) store
      ∙ ap (λ x. record {
        file = plain_file r.file.now;
        program = plain_program r.program.now;
        state = state_of r.store_and_events p.state.answers;
        history = x;
      }) events ∙ s.shows;
  lists = s.lists;
  kept = s.kept;
}

-- A step of such a run.

-- a step that does nothing
pub stays_there : (r : Playing) (t : ℕ) (p : Progress) →
    step p.file p.program p.state t ≡ idle p.state →
    StandsFor r p →
    StandsFor r (gone_on p t)
stays_there r t p is s = subst (StandsFor r) (idle_stays p t is) s

-- a step that performs an action
pub goes_there : (r : Playing) (t : ℕ) (action : Action Value) (p : Progress) →
    step p.file p.program p.state t ≡ performing p t action →
    StandsFor r (gone_by p t (performing p t action)) →
    StandsFor r (gone_on p t)
goes_there r t action p is s = subst (λ st. StandsFor r (gone_by p t st)) (sym is) s

-- A run that keeps its answers.

-- what it shows is what it stands for
pub of_run : (r : SourceRun) → StandsFor r.playing (progress_of r)
of_run r = record {
  shows = refl;
  lists = length-map r.answers.items (λ v. v.items) ∙ r.lists;
  kept = r.kept;
}

-- With answers beside it that are those of the run so far: there are as many as threads.
pub held_lists : (r : Playing) (xs : List AnswersOfThread) (p : Progress) →
    StandsFor r p →
    lists_of xs ≡ p.state.answers →
    length xs ≡ length r.program.now.threads.items
held_lists r xs p s is = sym (length-map xs (λ v. v.items)) ∙ ap length is ∙ s.lists

-- the work of each thread means what it does after these answers
pub held_kept : (r : Playing) (xs : List AnswersOfThread) (p : Progress) →
    StandsFor r p →
    lists_of xs ≡ p.state.answers →
    IsKept (plain_file r.file.now) (plain_program r.program.now) (map thread_of r.threads.items) (lists_of xs)
held_kept r xs p s is =
    subst (λ l. IsKept (plain_file r.file.now) (plain_program r.program.now) (map thread_of r.threads.items) l)
    (sym is) s.kept

-- what is shown is the run so far
pub held_shows : (r : Playing) (xs : List AnswersOfThread) (p : Progress) →
    StandsFor r p →
    lists_of xs ≡ p.state.answers →
    progress_with r (lists_of xs) ≡ p
held_shows r xs p s is = ap (progress_with r) is ∙ s.shows

-- a step that waits has no answer
pub waits_unanswered : (d : Did) → d ≡ did.Waits → (b : Action Value) (a : Answer Value) → d ≡ did.Acted b a → ⊥
waits_unanswered d is b a h = cc

-- nor has one that does nothing
pub idle_unanswered : (d : Did) → d ≡ did.Idle → (b : Action Value) (a : Answer Value) → d ≡ did.Acted b a → ⊥
idle_unanswered d is b a h = cc

-- what a step of such a run did
abbrev pub did_next : SourceRun → ℕ → Did
did_next r t = (step (progress_of r).file (progress_of r).program (progress_of r).state t).did

-- the answers that are kept after a step without an answer
pub had_still : (r : SourceRun) (t : ℕ) (v v' : AnswersOfThread) (d : Did) →
    ((b : Action Value) (a : Answer Value) → d ≡ did.Acted b a → ⊥) →
    d ≡ did_next r t →
    v'.items ≡ v.items →
    v ≡ get_or r.answers.items t v →
    lists_of (slice_set r.answers.items t v') ≡ (gone_on (progress_of r) t).state.answers
had_still r t v v' d none h same is =
    stays r.answers.items t v v' same is
    ∙ sym (step_stays (progress_of r).file (progress_of r).program (progress_of r).state t d none h)

-- and after one with an answer
pub had_more : (r : SourceRun) (t : ℕ) (v v' w : AnswersOfThread) (d : Did) (b : Action Value) (a : Answer Value) →
    t < length r.answers.items →
    d ≡ did.Acted b a →
    d ≡ did_next r t →
    v'.items ≡ v.items →
    v ≡ get_or r.answers.items t v →
    w.items ≡ v'.items ++ a ∷ [] →
    lists_of (slice_set r.answers.items t w) ≡ (gone_on (progress_of r) t).state.answers
had_more r t v v' w d b a within acted h same is more =
    grown r.answers.items t v v' w a within is same more
    ∙ sym (step_acts (progress_of r).file (progress_of r).program (progress_of r).state t d b a h acted)

-- A schedule that is played.

-- the run after the steps so far, and these steps, give the whole history
pub record SoFar (r : Playing) (steps : List ℕ) (whole : List Event) : Type 0 where
  pub run : Progress
  pub stands : StandsFor r run
  pub rest : rest_of run steps ≡ whole
