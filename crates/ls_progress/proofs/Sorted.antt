-- What the sort of a step tells of what it did.
use Rattle.std.proofs.Common.{◌≡◌, ℕ, Bool, true, false, [], Option, None, Some, fold}
use Rattle.std.proofs.Common.{refl, sym, ap, ◌∙◌}
use Rattle.std.proofs.Common.{subst}
use Rattle.std.specs.Prelude.{nat_eq, if◌then◌else◌}
use Rattle.ls_events.specs.declared.value.Value.{Value}
use Rattle.ls_events.specs.declared.action.Action.{Action}
use Rattle.ls_events.specs.declared.action.Action.TheVariants.{ReadField, WriteField, ReadItem, WriteItem, ReadName}
use Rattle.ls_events.specs.declared.action.Action.TheVariants.{WriteName, New, NewLock, NewMarkable, NewArray, Lock}
use Rattle.ls_events.specs.declared.action.Action.TheVariants.{Unlock, TryLock, IsHeld, LockMonitor, UnlockMonitor}
use Rattle.ls_events.specs.declared.action.Action.TheVariants.{ReadPair, SetPair, SwapPair, AttemptMark, Turn, Enter}
use Rattle.ls_events.specs.declared.action.Action.TheVariants.{Call, Return, Trap}
use Rattle.ls_events.specs.declared.action.Answer.{Answer}
use Rattle.ls_meaning.specs.declared.step.Did.{Did}
use Rattle.ls_meaning.specs.declared.step.Did.TheVariants as did
use Rattle.ls_meaning.specs.Runs.{event_of}
use Rattle.ls_meaning.specs.Still.{IsActing}
use Rattle.ls_search_laws.specs.Stepping.{events_in, events_of}
use Rattle.ls_progress_laws.specs.Progress.{counted, pending_after}
use Rattle.ls_progress.specs.Sorts.{call_after, is_silent, sort_of, sort_of_action}
use Rattle.ls_progress.specs.declared.sorts.Sort.{Sort}
use Rattle.ls_progress.specs.declared.sorts.Sort.TheVariants as sorts

-- ---- four forms of actions

data Form (a : Action Value) : Type 0 where
  Calls : (n : ℕ) → sort_of_action a ≡ sorts.Begins n →
      ((u t : ℕ) (now : Option ℕ) →
      fold (pending_after t) now (events_in (event_of u a)) ≡ (if nat_eq u t then Some n else now)) →
      ((u : ℕ) → events_in (event_of u a) ≡ [] → ⊥) →
      Form a
  Finishes : sort_of_action a ≡ sorts.Ends →
      ((u t : ℕ) (now : Option ℕ) →
      fold (pending_after t) now (events_in (event_of u a)) ≡ (if nat_eq u t then None else now)) →
      ((u : ℕ) → events_in (event_of u a) ≡ [] → ⊥) →
      Form a
  Goes : sort_of_action a ≡ sorts.Inside → ((u : ℕ) → events_in (event_of u a) ≡ []) → Form a

form_of : (a : Action Value) → Form a
form_of (Call n) = Calls n refl (λ u t now. refl) (λ u e. cc)
form_of (Return n v) = Finishes refl (λ u t now. refl) (λ u e. cc)
form_of (Trap n kind) = Finishes refl (λ u t now. refl) (λ u e. cc)
form_of (ReadField o f) = Goes refl (λ u. refl)
form_of (WriteField o f v) = Goes refl (λ u. refl)
form_of (ReadItem o i) = Goes refl (λ u. refl)
form_of (WriteItem o i v) = Goes refl (λ u. refl)
form_of (ReadName n) = Goes refl (λ u. refl)
form_of (WriteName n v) = Goes refl (λ u. refl)
form_of (New c) = Goes refl (λ u. refl)
form_of NewLock = Goes refl (λ u. refl)
form_of (NewMarkable p) = Goes refl (λ u. refl)
form_of (NewArray n) = Goes refl (λ u. refl)
form_of (Lock o) = Goes refl (λ u. refl)
form_of (Unlock o) = Goes refl (λ u. refl)
form_of (TryLock o) = Goes refl (λ u. refl)
form_of (IsHeld o) = Goes refl (λ u. refl)
form_of (LockMonitor o) = Goes refl (λ u. refl)
form_of (UnlockMonitor o) = Goes refl (λ u. refl)
form_of (ReadPair o) = Goes refl (λ u. refl)
form_of (SetPair o p) = Goes refl (λ u. refl)
form_of (SwapPair o p q) = Goes refl (λ u. refl)
form_of (AttemptMark o r m) = Goes refl (λ u. refl)
form_of Turn = Goes refl (λ u. refl)
form_of (Enter m) = Goes refl (λ u. refl)

-- ---- what is known of a step by its sort

pub record Sorted (d : Did) (s : Sort) : Type 0 where
  pub pends : (u t : ℕ) (now : Option ℕ) →
      fold (pending_after t) now (events_of u d) ≡ (if nat_eq u t then call_after s now else now)
  pub silent : is_silent s ≡ true → (u : ℕ) → events_of u d ≡ []
  pub loud : is_silent s ≡ false → (u : ℕ) → events_of u d ≡ [] → ⊥
  pub counts : counted d ≡ 1
  pub waits : d ≡ did.Waits → s ≡ sorts.Waits
  pub acts : (s ≡ sorts.Waits → ⊥) → IsActing d
  pub goes : IsActing d → s ≡ sorts.Waits → ⊥

same_now : (u t : ℕ) (now : Option ℕ) → now ≡ (if nat_eq u t then now else now)
same_now u t now = by (nat_eq u t)
  where
    by : (b : Bool) → now ≡ (if b then now else now)
    by true = refl
    by false = refl

by_form : (a : Action Value) (x : Answer Value) → Form a → Sorted (did.Acted a x) (sort_of_action a)
by_form a x (Calls n is pends loud) = subst (Sorted (did.Acted a x)) (sym is) (record {
  pends = pends;
  silent = λ e. absurd (cc);
  loud = λ e. loud;
  counts = refl;
  waits = λ e. absurd (cc);
  acts = λ on. tt;
  goes = λ on e. cc;
})
by_form a x (Finishes is pends loud) = subst (Sorted (did.Acted a x)) (sym is) (record {
  pends = pends;
  silent = λ e. absurd (cc);
  loud = λ e. loud;
  counts = refl;
  waits = λ e. absurd (cc);
  acts = λ on. tt;
  goes = λ on e. cc;
})
by_form a x (Goes is none) = subst (Sorted (did.Acted a x)) (sym is) (record {
  pends = λ u t now. ap (fold (pending_after t) now) (none u) ∙ same_now u t now;
  silent = λ e. none;
  loud = λ e. absurd (cc);
  counts = refl;
  waits = λ e. absurd (cc);
  acts = λ on. tt;
  goes = λ on e. cc;
})

waiting : Sorted did.Waits sorts.Waits
waiting = record {
  pends = λ u t now. same_now u t now;
  silent = λ e u. refl;
  loud = λ e. absurd (cc);
  counts = refl;
  waits = λ e. refl;
  acts = λ on. on refl;
  goes = λ on e. on;
}

pub sorted : (d : Did) (s : Sort) → sort_of d ≡ Some s → Sorted d s
sorted (did.Acted a x) s e = subst (Sorted (did.Acted a x)) (some_is e) (by_form a x (form_of a))
  where
    some_is : Some (sort_of_action a) ≡ Some s → sort_of_action a ≡ s
    some_is h = cc
sorted did.Waits s e = subst (Sorted did.Waits) (some_is e) waiting
  where
    some_is : Some sorts.Waits ≡ Some s → sorts.Waits ≡ s
    some_is h = cc
sorted did.Idle s e = absurd (cc)
