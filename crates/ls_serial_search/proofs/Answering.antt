-- The answers that threads have had, and threads between their calls.
use Rattle.std.proofs.Common.{◌≡◌, ◌≢◌, ◌⊎◌, inl, inr, ℕ, zero, suc, Bool, true, false, List, [], ◌∷◌}
use Rattle.std.proofs.Common.{Some, refl, sym, ap, subst, arith}
use Rattle.std.specs.Prelude.{if◌then◌else◌, nat_eq, slice_get, slice_index_or, slice_set}
use Rattle.std.proofs.lemmas.Bool.Decides.{nat_tests}
use Rattle.ls_events.specs.declared.value.Value.{Value}
use Rattle.ls_events.specs.declared.action.Action.{Action}
use Rattle.ls_events.specs.declared.event.Event.{Event}
use Rattle.ls_checked.specs.CheckedTree.{File}
use Rattle.ls_checked.specs.CheckedProgram.{Program, ProgramCall, Making, Calling}
use Rattle.ls_meaning.specs.Still.{IsActing}
use Rattle.ls_meaning.specs.Effect.{Effect, Waits, Does, effect}
use Rattle.ls_meaning.specs.Threads.{Next, Goes, Ended, Trapped, all_calls, calls_in, next}
use Rattle.ls_meaning.specs.Runs.{State, answers_of, event_of, has_started, idle, performed}
use Rattle.ls_meaning.specs.Runs.{step, step_of}
use Rattle.ls_events.specs.declared.action.Action.TheVariants.{Call}
use Rattle.ls_serial_search.specs.Following.{CallsNext, IsBetween, IsCalling, called, events_of}

-- ---- a step leaves the answers of other threads

get_or_set : {A : Type 0} (xs : List A) (t u : ℕ) (x d : A) → u ≢ t →
    slice_index_or (slice_set xs t x) u d ≡ slice_index_or xs u d
get_or_set [] t u x d ne = refl
get_or_set (y ∷ ys) zero zero x d ne = absurd (ne refl)
get_or_set (y ∷ ys) zero (suc u) x d ne = refl
get_or_set (y ∷ ys) (suc t) zero x d ne = refl
get_or_set (y ∷ ys) (suc t) (suc u) x d ne = get_or_set ys t u x d (λ e. ne (ap suc e))

performed_answers : (s : State) (t u : ℕ) (a : Action Value) (e : Effect) → u ≢ t →
    answers_of (performed s t a e).after u ≡ answers_of s u
performed_answers s t u a Waits ne = refl
performed_answers s t u a (Does store answer) ne = get_or_set s.answers t u _ [] ne

next_answers : (file : File) (s : State) (t u : ℕ) (n : Next) → u ≢ t →
    answers_of (step_of file s t n).after u ≡ answers_of s u
next_answers file s t u (Goes a sort) ne = performed_answers s t u a (effect file.classes s.store t a) ne
next_answers file s t u Ended ne = refl
next_answers file s t u Trapped ne = refl

if_answers : (file : File) (s : State) (t u : ℕ) (n : Next) (b : Bool) → u ≢ t →
    answers_of (if b then step_of file s t n else idle s).after u ≡ answers_of s u
if_answers file s t u n true ne = next_answers file s t u n ne
if_answers file s t u n false ne = refl

pub others_answers : (file : File) (program : Program) (s : State) (t u : ℕ) → u ≢ t →
    answers_of (step file program s t).after u ≡ answers_of s u
others_answers file program s t u ne =
    if_answers file s t u (next file program t (answers_of s t)) (has_started file program s t) ne

-- the thread that steps has one answer more, if it is there
pub own_answers : {A : Type 0} (xs : List A) (t : ℕ) (x d : A) →
    (slice_index_or (slice_set xs t x) t d ≡ x) ⊎ (slice_index_or (slice_set xs t x) t d ≡ d)
own_answers [] t x d = inr refl
own_answers (z ∷ zs) zero x d = inl refl
own_answers (z ∷ zs) (suc t) x d = own_answers zs t x d

-- ---- numbers

pub cases_nat : (u t : ℕ) → (u ≡ t) ⊎ (u ≢ t)
cases_nat u t = by_test (nat_eq u t) refl
  where
    by_test : (b : Bool) → nat_eq u t ≡ b → (u ≡ t) ⊎ (u ≢ t)
    by_test true e = inl (grind (arith, nat_tests))
    by_test false e = inr (grind (arith, nat_tests))

-- ---- a thread between its calls

calling_event : (t : ℕ) (a : Action Value) → IsCalling a → (n : ℕ) × (event_of t a ≡ Some (called t n))
calling_event t (Call n) calls = (n, refl)
calling_event t _ calls = absurd calls

performed_event : (s : State) (t : ℕ) (a : Action Value) (e : Effect) (c : Event) →
    event_of t a ≡ Some c →
    IsActing (performed s t a e).did →
    events_of t (performed s t a e).did ≡ c ∷ []
performed_event s t a Waits c is acts = absurd acts
performed_event s t a (Does store answer) c is acts = rw is refl

by_next : (file : File) (s : State) (t : ℕ) (n : Next) (b : Bool) →
    CallsNext n →
    IsActing (if b then step_of file s t n else idle s).did →
    (k : ℕ) × (events_of t (if b then step_of file s t n else idle s).did ≡ called t k ∷ [])
by_next file s t n false calls acts = absurd acts
by_next file s t (Goes a sort) true calls acts =
    let k = calling_event t a calls in
    (k.0, performed_event s t a (effect file.classes s.store t a) (called t k.0) k.1 acts)
by_next file s t Ended true calls acts = absurd acts
by_next file s t Trapped true calls acts = absurd acts

-- a thread between its calls acts by a call
pub between_acts : (file : File) (program : Program) (s : State) (t : ℕ) →
    IsBetween file program s t →
    IsActing (step file program s t).did →
    (k : ℕ) × (events_of t (step file program s t).did ≡ called t k ∷ [])
between_acts file program s t calls acts =
    by_next file s t (next file program t (answers_of s t)) (has_started file program s t) calls acts

-- a thread with no answers is between its calls
module _ (file : File) (program : Program) where
  pub first_calls : (cs : List ProgramCall) (n : ℕ) → CallsNext (all_calls file program n cs [])
  first_calls [] n = tt
  first_calls (Making name c text values ∷ cs) n = tt
  first_calls (Calling name m text result values ∷ cs) n = tt

  pub none_between : (s : State) (u : ℕ) → answers_of s u ≡ [] → IsBetween file program s u
  none_between s u none = subst (λ q. CallsNext (next file program u q)) (sym none)
      (first_calls (calls_in (slice_get program.threads u)) 1)
