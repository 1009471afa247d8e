-- Steps of states with other names, and lists that are closed up to them.
use Rattle.std.proofs.Common.{◌≡◌, ◌≢◌, ◌⊎◌, inl, inr, ℕ, ◌<◌, ◌≤◌, Bool, true, false, cond, List, [], ◌∷◌, ◌++◌}
use Rattle.std.proofs.Common.{length}
use Rattle.std.proofs.Common.{map, Option, Some, None, option_map, refl, sym, ap, ◌∙◌}
use Rattle.std.proofs.Common.{subst, append_assoc, append-nil, length-set, get_or-set_same, get_or-set_other, slice_set}
use Rattle.std.proofs.Common.{arith}
use Rattle.std.specs.Prelude.{if◌then◌else◌, nat_eq}
use Rattle.std.proofs.lemmas.Bool.{cases_eq, cases_lt}
use Rattle.std.proofs.lemmas.Bool.Decides.{nat_tests}
use Rattle.ls_meaning.specs.declared.sort.Sort.{Sort}
use Rattle.ls_events.specs.declared.value.Value.{Value}
use Rattle.ls_events.specs.declared.value.Value.TheVariants.{Int, Boolean, Reference, Pair}
use Rattle.ls_events.specs.declared.event.Event.{Event}
use Rattle.ls_events.specs.declared.action.Action.{Action}
use Rattle.ls_events.specs.declared.action.Action.TheVariants.{ReadField, WriteField, ReadItem, WriteItem, ReadName}
use Rattle.ls_events.specs.declared.action.Action.TheVariants.{WriteName, New, NewLock, NewMarkable, NewArray, Lock}
use Rattle.ls_events.specs.declared.action.Action.TheVariants.{Unlock, TryLock, IsHeld, LockMonitor, UnlockMonitor}
use Rattle.ls_events.specs.declared.action.Action.TheVariants.{ReadPair, SetPair, SwapPair, AttemptMark, Turn, Enter}
use Rattle.ls_events.specs.declared.action.Action.TheVariants.{Call, Return, Trap}
use Rattle.ls_events.specs.declared.action.Answer.{Answer}
use Rattle.ls_events.specs.declared.action.Answer.TheVariants.{Done, Gives, Fails}
use Rattle.ls_checked.specs.CheckedTree.{File}
use Rattle.ls_checked.specs.CheckedProgram.{Program}
use Rattle.ls_meaning.specs.declared.step.Did.{Did}
use Rattle.ls_meaning.specs.declared.step.Did.TheVariants as did
use Rattle.ls_meaning.specs.Course.{Answers}
use Rattle.ls_meaning.specs.Store.{Thing, Object, LockOf, Markable, Array, Store, thing_at}
use Rattle.ls_meaning.specs.Effect.{Effect, Waits, Does, effect}
use Rattle.ls_meaning.specs.Threads.{Next, Goes, Ended, Trapped, all_calls, calls_in, next as next_of}
use Rattle.ls_meaning.specs.Renamings.{IsRenaming, renamed, renamed_action, renamed_answer, renamed_answers}
use Rattle.ls_meaning.specs.Renamings.{renamed_next}
use Rattle.ls_meaning.specs.Renamings.{renamed_result}
use Rattle.ls_meaning.specs.Runs.{State, Step, answers_of, event_of, has_ended, has_started, idle, performed, step}
use Rattle.ls_meaning.specs.Runs.{step_of}
use Rattle.ls_search_laws.specs.Stepping.{events_in, events_of}
use Rattle.ls_search_laws.specs.Renaming.{IsRenamedEffect, IsRenamedStore, renamed_thing}
use Rattle.ls_search_laws.specs.Configuration.{Configuration, IsRenamed, IsRenamedStride, Stride, configuration_of}
use Rattle.ls_search_laws.specs.Configuration.{idling}
use Rattle.ls_search_laws.specs.Configuration.{performing, renamed_did, stride, stride_of, with_answer}
use Rattle.ls_search_laws.specs.Noticing.{StepsStride}
use Rattle.ls_search_laws.specs.Noticing.{StridesRename, renamed_event}
use Rattle.ls_search_laws.proofs.Stepping.{get_past}
use Rattle.ls_search_laws.proofs.Renaming.{effect_renames}

-- ---- one step

-- a thread that isn't there has ended
next_within : (file : File) (program : Program) (t : ℕ) (q : Answers) (a : Action Value) (sort : Sort) →
    next_of file program t q ≡ Goes a sort →
    t < length program.threads
next_within file program t q a sort e = by_place (cases_lt t (length program.threads))
  where
    not_goes : Ended ≡ Goes a sort → ⊥
    not_goes p = cc

    by_place : (t < length program.threads) ⊎ (length program.threads ≤ t) → t < length program.threads
    by_place (inl less) = less
    by_place (inr past) =
        absurd (not_goes (sym (ap (λ o. all_calls file program 1 (calls_in o) q)
        (get_past program.threads t past)) ∙ e))

next_if : (b : Bool) (n m : Next) → b ≡ true → (if b then n else m) ≡ n
next_if b n m e = ap (λ z. if z then n else m) e

next_unless : (b : Bool) (n m : Next) → b ≡ false → (if b then n else m) ≡ m
next_unless b n m e = ap (λ z. if z then n else m) e

-- the state after an answer of a thread
abbrev told : State → ℕ → Store → Answer Value → State
told s t store answer = record {
  store = store;
  answers = slice_set s.answers t (answers_of s t ++ answer ∷ []);
}

other_answers : (s : State) (t u : ℕ) (store : Store) (x : Answer Value) →
    t ≢ u →
    answers_of (told s u store x) t ≡ answers_of s t
other_answers s t u store x ne = get_or-set_other s.answers u t (answers_of s u ++ x ∷ []) [] ne

module _ (file : File) (program : Program) (s : State) (long : length s.answers ≡ length program.threads) where
  abbrev here : Configuration
  here = configuration_of file program s

  -- one more answer
  answer_more : (t : ℕ) (store : Store) (x : Answer Value) →
      t < length program.threads →
      (u : ℕ) (later : Answers) →
      (u ≡ t) ⊎ (u ≢ t) →
      next_of file program u (answers_of (told s t store x) u ++ later) ≡
      with_answer here.continues t x u later
  answer_more t store x lt u later (inl same) =
      let z : nat_eq u t ≡ true = grind (arith, nat_tests, same) in
      let own : answers_of (told s t store x) t ≡ answers_of s t ++ x ∷ [] =
      get_or-set_same s.answers t (answers_of s t ++ x ∷ []) [] (subst (λ n. t < n) (sym long) lt) in
      ap (λ n. next_of file program n (answers_of (told s t store x) n ++ later)) same
      ∙ ap (λ l. next_of file program t (l ++ later)) own
      ∙ ap (next_of file program t) (append_assoc (answers_of s t) (x ∷ []) later)
      ∙ sym (next_if (nat_eq u t) (here.continues t (x ∷ later)) (here.continues u later) z)
  answer_more t store x lt u later (inr ne) =
      let z : nat_eq u t ≡ false = grind (arith, nat_tests, ne) in
      ap (λ l. next_of file program u (l ++ later)) (other_answers s u t store x ne)
      ∙ sym (next_unless (nat_eq u t) (here.continues t (x ∷ later)) (here.continues u later) z)

  abbrev IsStride : Step → Stride → Type 0
  IsStride p q = (p.did ≡ q.did) × (configuration_of file program p.after ≡ q.after)

  by_effect : (t : ℕ) (a : Action Value) (e : Effect) →
      t < length program.threads →
      IsStride (performed s t a e) (performing here t a e)
  by_effect t a Waits lt = (refl, refl)
  by_effect t a (Does store x) lt = (
    refl,
    λ i. record { store = store; continues = λ u later. answer_more t store x lt u later (cases_eq u t) i },
  )

  by_next : (t : ℕ) (n : Next) → next_of file program t (answers_of s t) ≡ n → IsStride (step_of file s t n)
      (stride_of file here t n)
  by_next t (Goes a sort) e = by_effect t a (effect file.classes s.store t a)
      (next_within file program t (answers_of s t) a sort e)
  by_next t Ended e = (refl, refl)
  by_next t Trapped e = (refl, refl)

  by_started : (t : ℕ) (b : Bool) →
      IsStride (cond b (step_of file s t (next_of file program t (answers_of s t))) (idle s))
      (cond b (stride_of file here t (next_of file program t (answers_of s t))) (idling here))
  by_started t true = by_next t (next_of file program t (answers_of s t)) refl
  by_started t false = (refl, refl)

  no_more : (t : ℕ) → here.continues t [] ≡ next_of file program t (answers_of s t)
  no_more t = ap (next_of file program t) (append-nil (answers_of s t))

  stride_is : (t : ℕ) →
      stride file here t ≡ cond (has_started file program s t)
      (stride_of file here t (next_of file program t (answers_of s t))) (idling here)
  stride_is t =
      ap (λ n. cond (if nat_eq t 0 then true else has_ended n) (stride_of file here t (here.continues t []))
      (idling here))
      (no_more 0)
      ∙ ap (λ n. cond (has_started file program s t) (stride_of file here t n) (idling here)) (no_more t)

  pub step_stride : (t : ℕ) → IsStride (step file program s t) (stride file here t)
  step_stride t = subst (IsStride (step file program s t)) (sym (stride_is t))
      (by_started t (has_started file program s t))

pub steps_stride : StepsStride
steps_stride file program s long t = step_stride file program s long t

-- ---- other names

module _ (file : File) (names : ℕ → ℕ) (is : IsRenaming names) (c c' : Configuration) (r : IsRenamed names c c') where
  abbrev IsSame : Stride → Stride → Type 0
  IsSame p p' = IsRenamedStride names p p'

  itself : IsSame (idling c) (idling c')
  itself = record { did = refl; after = r }

  answer_other : (t : ℕ) (x : Answer Value) (u : ℕ) (later : Answers) (b : Bool) →
      (if b then c'.continues t (renamed_answer names x ∷ renamed_answers names later) else
      c'.continues u (renamed_answers names later)) ≡
      renamed_next names (if b then c.continues t (x ∷ later) else c.continues u later)
  answer_other t x u later true = r.continues t (x ∷ later)
  answer_other t x u later false = r.continues u later

  effect_same : (t : ℕ) (a : Action Value) (e e' : Effect) →
      IsRenamedEffect names e e' →
      IsSame (performing c t a e) (performing c' t (renamed_action names a) e')
  effect_same t a Waits e' same =
      subst (λ z. IsSame (performing c t a Waits) (performing c' t (renamed_action names a) z)) (sym same)
      (record { did = refl; after = r })
  effect_same t a (Does store x) e' same =
      subst (λ z. IsSame (performing c t a (Does store x)) (performing c' t (renamed_action names a) z)) (sym same.1)
      (record {
        did = refl;
        after = record { store = same.2; continues = λ u later. answer_other t x u later (nat_eq u t) };
      })

  next_same : (t : ℕ) (n : Next) → IsSame (stride_of file c t n) (stride_of file c' t (renamed_next names n))
  next_same t (Goes a sort) =
      effect_same t a (effect file.classes c.store t a) (effect file.classes c'.store t (renamed_action names a))
      (effect_renames file.classes names is c.store c'.store r.store t a)
  next_same t Ended = itself
  next_same t Trapped = itself

  started_same : (t : ℕ) (b : Bool) (n : Next) →
      IsSame (cond b (stride_of file c t n) (idling c))
      (cond b (stride_of file c' t (renamed_next names n)) (idling c'))
  started_same t true n = next_same t n
  started_same t false n = itself

  ended_other : (n : Next) → has_ended (renamed_next names n) ≡ has_ended n
  ended_other (Goes a sort) = refl
  ended_other Ended = refl
  ended_other Trapped = refl

  abbrev started : ℕ → Bool
  started t = if nat_eq t 0 then true else has_ended (c.continues 0 [])

  pub stride_other : (t : ℕ) → IsSame (stride file c t) (stride file c' t)
  stride_other t =
      subst (IsSame (stride file c t))
      (sym (ap (λ b. cond (if nat_eq t 0 then true else b) (stride_of file c' t (c'.continues t [])) (idling c'))
      (ap has_ended (r.continues 0 []) ∙ ended_other (c.continues 0 []))
      ∙ ap (λ n. cond (started t) (stride_of file c' t n) (idling c')) (r.continues t [])))
      (started_same t (started t) (c.continues t []))

pub strides_rename : StridesRename
strides_rename file names is c c' r t = stride_other file names is c c' r t

-- ---- one renaming after another

module _ (f g : ℕ → ℕ) where
  abbrev pub both : ℕ → ℕ
  both n = g (f n)

  pub both_renaming : IsRenaming f → IsRenaming g → IsRenaming both
  both_renaming p q = record {
    null = ap g p.null ∙ q.null;
    apart = λ m n e. p.apart m n (q.apart (f m) (f n) e);
  }

  value_both : (v : Value) → renamed both v ≡ renamed g (renamed f v)
  value_both (Int z) = refl
  value_both (Boolean b) = refl
  value_both (Reference n) = refl
  value_both (Pair n m) = refl

  values_both : (vs : List Value) → map (renamed both) vs ≡ map (renamed g) (map (renamed f) vs)
  values_both [] = refl
  values_both (v ∷ vs) = ap (λ w. w ∷ map (renamed both) vs) (value_both v) ∙
      ap (λ l. renamed g (renamed f v) ∷ l) (values_both vs)

  thing_both : (t : Thing) → renamed_thing both t ≡ renamed_thing g (renamed_thing f t)
  thing_both (Object monitor fields) = ap (Object monitor) (values_both fields)
  thing_both (LockOf hold) = refl
  thing_both (Markable p) = ap Markable (value_both p)
  thing_both (Array size items) = ap (Array size) (λ i n. value_both (items n) i)

  things_both : (t : Option Thing) → option_map (renamed_thing both) t ≡ option_map (renamed_thing g)
      (option_map (renamed_thing f) t)
  things_both None = refl
  things_both (Some t) = ap Some (thing_both t)

  result_both : (v : Option Value) → renamed_result both v ≡ renamed_result g (renamed_result f v)
  result_both None = refl
  result_both (Some v) = ap Some (value_both v)

  answer_both : (x : Answer Value) → renamed_answer both x ≡ renamed_answer g (renamed_answer f x)
  answer_both Done = refl
  answer_both (Gives v) = ap Gives (value_both v)
  answer_both (Fails kind) = refl

  answers_both : (xs : Answers) → renamed_answers both xs ≡ renamed_answers g (renamed_answers f xs)
  answers_both [] = refl
  answers_both (x ∷ xs) = ap (λ y. y ∷ renamed_answers both xs) (answer_both x) ∙
      ap (λ l. renamed_answer g (renamed_answer f x) ∷ l) (answers_both xs)

  action_both : (a : Action Value) → renamed_action both a ≡ renamed_action g (renamed_action f a)
  action_both (ReadField o i) = refl
  action_both (WriteField o i v) = ap (WriteField (both o) i) (value_both v)
  action_both (ReadItem o i) = refl
  action_both (WriteItem o i v) = ap (WriteItem (both o) i) (value_both v)
  action_both (ReadName n) = refl
  action_both (WriteName n v) = ap (WriteName n) (value_both v)
  action_both (New c) = refl
  action_both NewLock = refl
  action_both (NewMarkable p) = ap NewMarkable (value_both p)
  action_both (NewArray n) = refl
  action_both (Lock o) = refl
  action_both (Unlock o) = refl
  action_both (TryLock o) = refl
  action_both (IsHeld o) = refl
  action_both (LockMonitor o) = refl
  action_both (UnlockMonitor o) = refl
  action_both (ReadPair o) = refl
  action_both (SetPair o v) = ap (SetPair (both o)) (value_both v)
  action_both (SwapPair o p q) =
      ap (λ v. SwapPair (both o) v (renamed both q)) (value_both p)
      ∙ ap (SwapPair (both o) (renamed g (renamed f p))) (value_both q)
  action_both (AttemptMark o m b) = refl
  action_both Turn = refl
  action_both (Enter m) = refl
  action_both (Call n) = refl
  action_both (Return n v) = ap (Return n) (result_both v)
  action_both (Trap n kind) = refl

  next_both : (n : Next) → renamed_next both n ≡ renamed_next g (renamed_next f n)
  next_both (Goes a sort) = ap (λ b. Goes b sort) (action_both a)
  next_both Ended = refl
  next_both Trapped = refl

  store_both : (s s' s'' : Store) →
      IsRenamedStore f s s' →
      IsRenamedStore g s' s'' →
      IsRenamedStore both s s''
  store_both s s' s'' p q = record {
    things = λ o. q.things (f o) ∙ ap (option_map (renamed_thing g)) (p.things o) ∙ sym (things_both (thing_at s o));
    new = λ i. ap g (p.new i) ∙ q.new i;
    setup = q.setup ∙ ap (map (renamed g)) p.setup ∙ sym (values_both s.names);
  }

  pub renamed_both : (c c' c'' : Configuration) → IsRenamed f c c' → IsRenamed g c' c'' → IsRenamed both c c''
  renamed_both c c' c'' p q = record {
    store = store_both c.store c'.store c''.store p.store q.store;
    continues = λ t later.
        ap (c''.continues t) (answers_both later)
        ∙ q.continues t (renamed_answers f later)
        ∙ ap (renamed_next g) (p.continues t later)
        ∙ sym (next_both (c.continues t later));
  }

-- ---- events with other names

renamed_events : (ℕ → ℕ) → List Event → List Event
renamed_events names es = map (renamed_event names) es

event_other : (names : ℕ → ℕ) (t : ℕ) (a : Action Value) →
    events_in (event_of t (renamed_action names a)) ≡ map (renamed_event names) (events_in (event_of t a))
event_other names t (Call n) = refl
event_other names t (Return n v) = refl
event_other names t (Trap n kind) = refl
event_other names t (ReadField o i) = refl
event_other names t (WriteField o i v) = refl
event_other names t (ReadItem o i) = refl
event_other names t (WriteItem o i v) = refl
event_other names t (ReadName n) = refl
event_other names t (WriteName n v) = refl
event_other names t (New c) = refl
event_other names t NewLock = refl
event_other names t (NewMarkable p) = refl
event_other names t (NewArray n) = refl
event_other names t (Lock o) = refl
event_other names t (Unlock o) = refl
event_other names t (TryLock o) = refl
event_other names t (IsHeld o) = refl
event_other names t (LockMonitor o) = refl
event_other names t (UnlockMonitor o) = refl
event_other names t (ReadPair o) = refl
event_other names t (SetPair o v) = refl
event_other names t (SwapPair o p q) = refl
event_other names t (AttemptMark o m b) = refl
event_other names t Turn = refl
event_other names t (Enter m) = refl

pub events_other : (names : ℕ → ℕ) (t : ℕ) (d : Did) →
    events_of t (renamed_did names d) ≡ map (renamed_event names) (events_of t d)
events_other names t (did.Acted a x) = event_other names t a
events_other names t did.Waits = refl
events_other names t did.Idle = refl

-- the answers stay as many lists as there are threads
pub told_length : (file : File) (program : Program) (s : State) (t : ℕ) →
    length s.answers ≡ length program.threads →
    length (step file program s t).after.answers ≡ length program.threads
told_length file program s t long = by_started (has_started file program s t)
  where
    by_effect : (a : Action Value) (e : Effect) → length (performed s t a e).after.answers ≡ length program.threads
    by_effect a Waits = long
    by_effect a (Does store x) = length-set s.answers t (answers_of s t ++ x ∷ []) ∙ long

    by_next : (n : Next) → length (step_of file s t n).after.answers ≡ length program.threads
    by_next (Goes a sort) = by_effect a (effect file.classes s.store t a)
    by_next Ended = long
    by_next Trapped = long

    by_started : (b : Bool) →
        length (cond b (step_of file s t (next_of file program t (answers_of s t))) (idle s)).after.answers ≡
        length program.threads
    by_started true = by_next (next_of file program t (answers_of s t))
    by_started false = long
