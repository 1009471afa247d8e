-- The work of each thread means what the thread does, from the start on and after each answer.
use Rattle.std.proofs.Common.{◌≡◌, ◌≢◌, ℕ, zero, suc, ◌<◌, Bool, true, false, List, [], ◌∷◌, ◌++◌, length, map, get_or}
use Rattle.std.proofs.Common.{Option, Some, None, refl, sym, ap, subst, ◌∙◌}
use Rattle.std.specs.Prelude.{nat_eq, slice_get, slice_set, slice_index_or, option_map}
use Rattle.std.proofs.lemmas.List.{append_assoc, append-nil, get_or-set_same, get_or-set_other, length-set, length-map}
use Rattle.std.proofs.lemmas.List.{map-set}
use Rattle.std.proofs.lemmas.Option.{slice_get-map, slice_get-get_or}
use Rattle.std.proofs.lemmas.Bool.{eqb-true, eqb-false}
use Rattle.ls_events.specs.declared.value.Value.{Value}
use Rattle.ls_events.specs.declared.action.Action.{Action}
use Rattle.ls_events.specs.declared.action.Answer.{Answer}
use Rattle.ls_checked.specs.CheckedTree.{File}
use Rattle.ls_checked.specs.CheckedProgram.{Program, ThreadProgram}
use Rattle.ls_meaning.specs.Course.{Answers}
use Rattle.ls_meaning.specs.Threads.{Next, next, all_calls, calls_in}
use Rattle.ls_checked.specs.declared.program.ThreadProgram.{ThreadProgram as ProgramOfThread}
use Rattle.ls_checked.specs.PlainProgram.{plain_call, plain_thread}
use Rattle.ls_meaning.specs.declared.step.Did.{Did}
use Rattle.ls_meaning.specs.declared.step.Did.TheVariants as did
use Rattle.ls_meaning.specs.Effect.{Effect, Waits, Does}
use Rattle.ls_meaning.specs.Runs.{State, performed, answers_of}
use Rattle.ls_source.specs.declared.thread.Thread.{Thread as KeptThread}
use Rattle.ls_source.specs.Calls.{Thread, Starts, thread_meaning, answered, begun}
use Rattle.ls_source.specs.SeenThread.{thread_of}
use Rattle.ls_source.specs.Kept.{means, IsKept, asked_at, action_in}
use Rattle.ls_source.proofs.Calls.{asked_is, answered_keeps, begun_keeps}

-- a list with one element replaced
get_same : {X : Type 0} (xs : List X) (i : ℕ) (w : X) → i < length xs → slice_get (slice_set xs i w) i ≡ Some w
get_same xs i w h =
    slice_get-get_or (slice_set xs i w) i w (subst (λ k. i < k) (sym (length-set xs i w)) h) ∙
    ap Some (get_or-set_same xs i w w h)

get_other : {X : Type 0} (xs : List X) (i j : ℕ) (w : X) → j ≢ i → slice_get (slice_set xs i w) j ≡ slice_get xs j
get_other [] i j w h = refl
get_other (x ∷ xs) zero zero w h = absurd (h refl)
get_other (x ∷ xs) zero (suc j) w h = refl
get_other (x ∷ xs) (suc i) zero w h = refl
get_other (x ∷ xs) (suc i) (suc j) w h = get_other xs i j w (λ e. h (ap suc e))

-- the threads of a program at the start
abbrev pub fresh_threads : List ProgramOfThread → List Thread
fresh_threads ts = map (λ t. begun (record { number = 0; left = map plain_call t.calls.items; phase = Starts })) ts

module _ (file : File) (program : Program) where
  -- a thread that is replaced, with more answers of its own
  replaced : (ts : List Thread) (before after : List Answers) (t : ℕ) (w : Thread) →
      IsKept file program ts before →
      t < length ts →
      ((i : ℕ) → i ≢ t → slice_index_or after i [] ≡ slice_index_or before i []) →
      ((q : Answers) → thread_meaning file program w q ≡ next file program t (slice_index_or after t [] ++ q)) →
      IsKept file program (slice_set ts t w) after
  replaced ts before after t w kept within others own i q = by (nat_eq i t) refl
    where
      by : (b : Bool) →
          nat_eq i t ≡ b →
          means file program (slice_get (slice_set ts t w) i) q ≡ next file program i (slice_index_or after i [] ++ q)
      by true e =
          let is : i ≡ t = eqb-true i t e in
          ap (λ k. means file program (slice_get (slice_set ts t w) k) q) is
          ∙ ap (λ o. means file program o q) (get_same ts t w within)
          ∙ own q
          ∙ ap (λ k. next file program k (slice_index_or after k [] ++ q)) (sym is)
      by false e =
          let differs : i ≢ t = eqb-false i t e in
          ap (λ o. means file program o q) (get_other ts t i w differs)
          ∙ kept i q
          ∙ ap (λ l. next file program i (l ++ q)) (sym (others i differs))

  -- the thread of a number
  pub thread_at : (ts : List KeptThread) (t : ℕ) (v : KeptThread) →
      t < length ts →
      v ≡ get_or ts t v →
      slice_get (map thread_of ts) t ≡ Some (thread_of v)
  thread_at ts t v within is =
      slice_get-map thread_of ts t ∙ ap (option_map thread_of) (slice_get-get_or ts t v within) ∙
      ap (λ k. Some (thread_of k)) (sym is)

  within_map : (ts : List KeptThread) (t : ℕ) → t < length ts → t < length (map thread_of ts)
  within_map ts t h = subst (λ k. t < k) (sym (length-map ts thread_of)) h

  -- a thread that has gone on to its next question
  pub settled : (ts : List KeptThread) (had : List Answers) (t : ℕ) (v v' : KeptThread) →
      IsKept file program (map thread_of ts) had →
      t < length ts →
      v ≡ get_or ts t v →
      ((program : Program) (q : Answers) → thread_meaning file program (thread_of v') q ≡ thread_meaning file program
      (thread_of v) q) →
      IsKept file program (map thread_of (slice_set ts t v')) had
  settled ts had t v v' kept within is same =
      subst (λ l. IsKept file program l had) (sym (map-set thread_of ts t v'))
      (replaced (map thread_of ts) had had t (thread_of v') kept (within_map ts t within) (λ i h. refl)
      (λ q. same program q ∙ ap (λ o. means file program o q) (sym (thread_at ts t v within is)) ∙ kept t q))

  -- a thread that has taken an answer
  pub taken : (ts : List KeptThread) (had : List Answers) (t : ℕ) (v v' : KeptThread) (act : Action Value)
      (a : Answer Value) →
      IsKept file program (map thread_of ts) had →
      t < length ts →
      t < length had →
      v ≡ get_or ts t v →
      action_in (asked_at program (slice_get (map thread_of ts) t)) ≡ Some act →
      thread_of v' ≡ answered file a (thread_of v) →
      IsKept file program (map thread_of (slice_set ts t v')) (slice_set had t (slice_index_or had t [] ++ a ∷ []))
  taken ts had t v v' act a kept within has is asks e =
      let w : Thread = thread_of v in
      let at_t : slice_get (map thread_of ts) t ≡ Some w = thread_at ts t v within is in
      subst (λ l. IsKept file program l (slice_set had t (slice_index_or had t [] ++ a ∷ [])))
      (sym (map-set thread_of ts t v'))
      (replaced (map thread_of ts) had (slice_set had t (slice_index_or had t [] ++ a ∷ [])) t (thread_of v') kept
      (within_map ts t within)
      (λ i h. get_or-set_other had t i (slice_index_or had t [] ++ a ∷ []) [] h)
      (λ q.
      ap (λ k. thread_meaning file program k q) e
      ∙ answered_keeps file program w.number w.left w.phase act a q
      (ap (λ o. action_in (asked_at program o)) (sym at_t) ∙ asks)
      ∙ ap (λ o. means file program o (a ∷ q)) (sym at_t)
      ∙ kept t (a ∷ q)
      ∙ ap (next file program t) (sym (append_assoc (slice_index_or had t []) (a ∷ []) q))
      ∙ ap (λ l. next file program t (l ++ q))
      (sym (get_or-set_same had t (slice_index_or had t [] ++ a ∷ []) [] has))))

  -- what is asked for is what the thread does next after its answers
  pub now_is : (ts : List Thread) (had : List Answers) (t : ℕ) (r : Next) →
      IsKept file program ts had →
      asked_at program (slice_get ts t) ≡ Some r →
      r ≡ next file program t (slice_index_or had t [])
  now_is ts had t r kept asks = sym (by (slice_get ts t) asks) ∙ kept t [] ∙
      ap (next file program t) (append-nil (slice_index_or had t []))
    where
      by : (o : Option Thread) → asked_at program o ≡ Some r → means file program o [] ≡ r
      by None h = cc
      by (Some w) h = asked_is file program w.number w.left w.phase r h

  -- at the start
  abbrev fresh : ThreadProgram → Thread
  fresh t = begun (record { number = 0; left = t.calls; phase = Starts })

  fresh_means : (o : Option ThreadProgram) (q : Answers) →
      means file program (option_map fresh o) q ≡ all_calls file program 1 (calls_in o) q
  fresh_means None q = refl
  fresh_means (Some t) q = begun_keeps file program (record { number = 0; left = t.calls; phase = Starts }) q

  abbrev none : List ThreadProgram → List Answers
  none ts = map (λ t. []) ts

  none_had : (ts : List ThreadProgram) (i : ℕ) → slice_index_or (none ts) i [] ≡ []
  none_had [] i = refl
  none_had (t ∷ ts) zero = refl
  none_had (t ∷ ts) (suc i) = none_had ts i

  -- threads that start are kept, without answers
  pub starts : (ts : List ProgramOfThread) →
      program.threads ≡ map plain_thread ts →
      IsKept file program (fresh_threads ts) (map (λ t. []) program.threads)
  starts ts e i q =
      ap (λ l. means file program (slice_get l i) q) (all_fresh ts ∙ ap (map fresh) (sym e))
      ∙ ap (λ o. means file program o q) (slice_get-map fresh program.threads i)
      ∙ fresh_means (slice_get program.threads i) q
      ∙ ap (λ l. next file program i (l ++ q)) (sym (none_had program.threads i))
    where
      all_fresh : (ts : List ProgramOfThread) → fresh_threads ts ≡ map fresh (map plain_thread ts)
      all_fresh [] = refl
      all_fresh (t ∷ ts) = ap (λ l. fresh (plain_thread t) ∷ l) (all_fresh ts)

-- the answers after an action that is performed
pub answers_after : (st : State) (t : ℕ) (action : Action Value) (e : Effect) (d : Did) (b : Action Value)
    (a : Answer Value) →
    d ≡ (performed st t action e).did →
    d ≡ did.Acted b a →
    (performed st t action e).after.answers ≡ slice_set st.answers t (answers_of st t ++ a ∷ [])
answers_after st t action Waits d b a h is = cc
answers_after st t action (Does s x) d b a h is = ap (λ y. slice_set st.answers t (answers_of st t ++ y ∷ [])) same
  where
    same : x ≡ a
    same = cc
