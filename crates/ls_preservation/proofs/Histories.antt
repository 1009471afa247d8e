-- Equal traces give equal histories.
use Rattle.std.proofs.Common.{◌≡◌, ℕ, zero, suc, ◌-◌, ◌%◌, ◌^◌, Bool, true, false, ℤ, List, [], ◌∷◌, ◌++◌, map, Option}
use Rattle.std.proofs.Common.{Some, None, refl, sym, ap, ◌∙◌, arith, append_assoc, append-nil, slice_get, FitsSigned}
use Rattle.std.proofs.Common.{Fits}
use Rattle.std.specs.List.{cons_option}
use Rattle.std.proofs.lemmas.Int.{to_z-of_z}
use Rattle.std.proofs.Math.Facts.{Fits-of_z}
use Rattle.std.specs.Int.{w32, cast_signed, cast_unsigned}
use Rattle.ls_events.specs.declared.event.Event.{Event}
use Rattle.ls_events.specs.declared.event.Happening.TheVariants.{Returned}
use Rattle.ls_events.specs.declared.value.Value.{Value}
use Rattle.ls_events.specs.declared.value.Value.TheVariants.{Int, Boolean, Reference, Pair}
use Rattle.ls_events.specs.declared.value.ValueType.TheVariants as type
use Rattle.ls_events.specs.declared.action.Action.{Action}
use Rattle.ls_events.specs.declared.action.Action.TheVariants.{ReadField, WriteField, ReadItem, WriteItem, ReadName}
use Rattle.ls_events.specs.declared.action.Action.TheVariants.{WriteName, New, NewLock, NewMarkable, NewArray, Lock}
use Rattle.ls_events.specs.declared.action.Action.TheVariants.{Unlock, TryLock, IsHeld, LockMonitor, UnlockMonitor}
use Rattle.ls_events.specs.declared.action.Action.TheVariants.{ReadPair, SetPair, SwapPair, AttemptMark, Turn, Enter}
use Rattle.ls_events.specs.declared.action.Action.TheVariants.{Call, Return, Trap}
use Rattle.ls_checked.specs.CheckedProgram.{Program, ThreadProgram, ProgramCall, Making, Calling}
use Rattle.ls_meaning.specs.Threads.{calls_in}
use Rattle.ls_meaning.specs.Steps as source
use Rattle.ls_meaning.specs.Runs.{event_of, history_of}
use Rattle.ls_code.specs.Words.{int_of, bool_of, word_of as int_word, bool_word}
use Rattle.ls_code.specs.Code.{Code, Start}
use Rattle.ls_code.specs.Thread.{Thread}
use Rattle.ls_code.specs.Events.{result_in, result_value, action_events, events_of}
use Rattle.ls_code.specs.Machine.{Machine, Entry, is_due, due_step, open_step, step_of, machine_step, machine_run}
use Rattle.ls_code.specs.Machine.{machine_trace}
use Rattle.ls_code.specs.Machine as machine
use Rattle.ls_code.specs.declared.step.Did.{Did}
use Rattle.ls_code.specs.declared.step.Did.TheVariants as did
use Rattle.ls_preservation.specs.InWords.{written, map_option, map_action, in_words}
use Rattle.ls_preservation.specs.Sorts.{call_at, Returns}
use Rattle.ls_preservation.specs.Threads.{call_result, calls_of}
use Rattle.ls_preservation.proofs.Answers.{Says}

-- the events of a machine's trace
abbrev pub events_in : Code → List Entry → List Event
events_in code [] = []
events_in code (f ∷ fs) = action_events code f.thread f.action ++ events_in code fs

-- what a step adds to the history
Adds : Machine → ℕ → machine.Stepped → Type 0
Adds m t r = (r.machine.code ≡ m.code) × (r.machine.history ≡ m.history ++ events_of m.code t r.did)

adds_due : (m : Machine) (t : ℕ) (x : Thread) (b : Bool) → Adds m t (due_step m t x b)
unfolding Adds
adds_due m t x false = (refl, sym (append-nil m.history))
adds_due m t x true = (refl, refl)

adds_open : (m : Machine) (t : ℕ) (x : Thread) (b : Bool) → Adds m t (open_step m t x b)
unfolding Adds
adds_open m t x true = (refl, sym (append-nil m.history))
adds_open m t x false = adds_due m t x (is_due m.threads t x)

adds_at : (m : Machine) (t : ℕ) (o : Option Thread) → Adds m t (step_of m t o)
unfolding Adds
adds_at m t None = (refl, sym (append-nil m.history))
adds_at m t (Some x) = adds_open m t x m.stopped

adds : (m : Machine) (t : ℕ) → Adds m t (machine_step m t)
adds m t = adds_at m t (slice_get m.threads t)

events_traced : (code : Code) (t : ℕ) (d : Did) (rest : List Entry) →
    events_of code t d ++ events_in code rest ≡ events_in code (machine.traced t d rest)
events_traced code t (did.Acted a x) rest = refl
events_traced code t did.Silent rest = refl
events_traced code t did.Waits rest = refl
events_traced code t did.Idle rest = refl
events_traced code t did.Stopped rest = refl

-- the history of the machine is the events of its trace
pub history_is : (code : Code) (ts : List ℕ) (m : Machine) →
    m.code ≡ code →
    (machine_run m ts).history ≡ m.history ++ events_in code (machine_trace m ts)
unfolding Adds
history_is code [] m e = sym (append-nil m.history)
history_is code (t ∷ ts) m e =
    let r = machine_step m t in
    let a : Adds m t r = adds m t in
    history_is code ts r.machine (a.0 ∙ e)
    ∙ ap (λ h. h ++ events_in code (machine_trace r.machine ts)) (a.1 ∙ ap (λ p. m.history ++ events_of p t r.did) e)
    ∙ append_assoc m.history (events_of code t r.did) (events_in code (machine_trace r.machine ts))
    ∙ ap (λ h. m.history ++ h) (events_traced code t r.did (machine_trace r.machine ts))

-- an int and a boolean are read back from their words
int_back : (z : ℤ) → FitsSigned w32 z → int_of (int_word z) ≡ z
int_back z h =
    let small : Fits w32 (cast_unsigned w32 z) = Fits-of_z {w = w32} {z = z} h in
    let less : cast_unsigned w32 z % 2 ^ 32 ≡ cast_unsigned w32 z = omega arith in
    ap (cast_signed w32) less ∙ to_z-of_z w32 z h

bool_back : (b : Bool) → bool_of (bool_word b) ≡ b
bool_back true = refl
bool_back false = refl

value_back : (ρ : ℕ → ℕ) (c : Option ProgramCall) (v : Option Value) →
    Returns c v →
    result_value (map_option call_result c) (map_option (written ρ) v) ≡ v
value_back ρ c None h = refl
value_back ρ None (Some v) h = absurd h
value_back ρ (Some (Making n c t vs)) (Some v) h = absurd h
value_back ρ (Some (Calling n m t None vs)) (Some v) h = absurd h
value_back ρ (Some (Calling n m t (Some type.Int) vs)) (Some (Int z)) h = ap (λ y. Some (Int y)) (int_back z h)
value_back ρ (Some (Calling n m t (Some type.Int) vs)) (Some (Boolean b)) h = absurd h
value_back ρ (Some (Calling n m t (Some type.Int) vs)) (Some (Reference r)) h = absurd h
value_back ρ (Some (Calling n m t (Some type.Int) vs)) (Some (Pair r b)) h = absurd h
value_back ρ (Some (Calling n m t (Some type.Boolean) vs)) (Some (Boolean b)) h = ap (λ y. Some (Boolean y))
    (bool_back b)
value_back ρ (Some (Calling n m t (Some type.Boolean) vs)) (Some (Int z)) h = absurd h
value_back ρ (Some (Calling n m t (Some type.Boolean) vs)) (Some (Reference r)) h = absurd h
value_back ρ (Some (Calling n m t (Some type.Boolean) vs)) (Some (Pair r b)) h = absurd h
value_back ρ (Some (Calling n m t (Some _) vs)) (Some v) h = absurd h

-- the code's table has what the program's calls answer
get_result : (cs : List ProgramCall) (k : ℕ) →
    slice_get (map call_result cs) k ≡ map_option call_result (slice_get cs k)
get_result [] k = refl
get_result (c ∷ cs) zero = refl
get_result (c ∷ cs) (suc k) = get_result cs k

result_is : (o : Option Start) (p : Option ThreadProgram) (n : ℕ) →
    calls_of o p →
    result_in o n ≡ map_option call_result (slice_get (calls_in p) (n - 1))
result_is None None n h = refl
result_is None (Some p) n h = absurd h
result_is (Some s) None n h = absurd h
result_is (Some s) (Some p) n h = ap (λ l. slice_get l (n - 1)) h ∙ get_result p.calls (n - 1)

option_list : {A : Type 0} → Option A → List A
option_list None = []
option_list (Some x) = x ∷ []

module _ (program : Program) (code : Code) (calls : (t : ℕ) →
    calls_of (slice_get code.starts t) (slice_get program.threads t)) (ρ : ℕ → ℕ) where
  event_back : (t : ℕ) (a : Action Value) →
      Says program t a →
      action_events code t (map_action ρ (written ρ) a) ≡ option_list (event_of t a)
  unfolding option_list
  event_back t (Return n v) h =
      ap (λ w. machine_event t n w ∷ []) (ap (λ r. result_value r (map_option (written ρ) v))
      (result_is (slice_get code.starts t) (slice_get program.threads t) n (calls t)) ∙
      value_back ρ (call_at program t n) v h)
    where
      machine_event : ℕ → ℕ → Option Value → Event
      machine_event t n w = record { thread = t; call = n; happening = Returned w }
  event_back t (Call n) h = refl
  event_back t (Trap n k) h = refl
  event_back t (ReadField n f) h = refl
  event_back t (WriteField n f v) h = refl
  event_back t (ReadItem n i) h = refl
  event_back t (WriteItem n i v) h = refl
  event_back t (ReadName n) h = refl
  event_back t (WriteName n v) h = refl
  event_back t (New k) h = refl
  event_back t NewLock h = refl
  event_back t (NewMarkable v) h = refl
  event_back t (NewArray n) h = refl
  event_back t (Lock n) h = refl
  event_back t (Unlock n) h = refl
  event_back t (TryLock n) h = refl
  event_back t (IsHeld n) h = refl
  event_back t (LockMonitor n) h = refl
  event_back t (UnlockMonitor n) h = refl
  event_back t (ReadPair n) h = refl
  event_back t (SetPair n v) h = refl
  event_back t (SwapPair n e d) h = refl
  event_back t (AttemptMark n r m) h = refl
  event_back t Turn h = refl
  event_back t (Enter m) h = refl

  filter_more : (x : source.Entry Value) (o : Option Event) (rest : List Event) →
      option_list o ++ rest ≡ cons_option o rest
  unfolding option_list
  filter_more x None rest = refl
  filter_more x (Some y) rest = refl

  -- what is said in each line of a trace
  abbrev pub AllSay : List (source.Entry Value) → Type 0
  AllSay [] = Unit {0}
  AllSay (e ∷ es) = Says program e.thread e.action × AllSay es

  -- the events of a trace in words are those of the source's trace
  pub events_back : (es : List (source.Entry Value)) → AllSay es → events_in code (map (in_words ρ) es) ≡ history_of es
  events_back [] h = refl
  events_back (e ∷ es) h =
      ap (λ l. l ++ events_in code (map (in_words ρ) es)) (event_back e.thread e.action h.0)
      ∙ ap (λ l. option_list (event_of e.thread e.action) ++ l) (events_back es h.1)
      ∙ filter_more e (event_of e.thread e.action) (history_of es)
