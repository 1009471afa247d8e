-- The call of a thread that is pending: events of other threads leave it, and names of objects don't matter.
use Rattle.std.proofs.Common.{◌≡◌, ◌≢◌, ◌⊎◌, inl, inr, ℕ, Bool, true, false, List, [], ◌∷◌, Option, None, Some, map}
use Rattle.std.proofs.Common.{fold, refl, ap, ◌∙◌}
use Rattle.std.specs.Prelude.{nat_eq, if◌then◌else◌}
use Rattle.std.proofs.lemmas.Bool.Decides.{eqb_tells}
use Rattle.ls_events.specs.declared.action.Action.TheVariants.{ReadField, WriteField, ReadItem, WriteItem, ReadName}
use Rattle.ls_events.specs.declared.action.Action.TheVariants.{WriteName, New, NewLock, NewMarkable, NewArray, Lock}
use Rattle.ls_events.specs.declared.action.Action.TheVariants.{Unlock, TryLock, IsHeld, LockMonitor, UnlockMonitor}
use Rattle.ls_events.specs.declared.action.Action.TheVariants.{ReadPair, SetPair, SwapPair, AttemptMark, Turn, Enter}
use Rattle.ls_events.specs.declared.action.Action.TheVariants.{Call, Return, Trap}
use Rattle.ls_events.specs.declared.event.Event.{Event}
use Rattle.ls_events.specs.declared.event.Happening.{Happening}
use Rattle.ls_events.specs.declared.event.Happening.TheVariants.{Called, Returned, Trapped}
use Rattle.ls_meaning.specs.declared.step.Did.{Did}
use Rattle.ls_meaning.specs.declared.step.Did.TheVariants as did
use Rattle.ls_search_laws.specs.Noticing.{renamed_event, renamed_happening}
use Rattle.ls_search_laws.specs.Stepping.{events_of}
use Rattle.ls_progress_laws.specs.Progress.{pending_after, pending_by}

-- ---- names of objects

by_renamed : (names : ℕ → ℕ) (call : ℕ) (h : Happening) →
    pending_by call (renamed_happening names h) ≡ pending_by call h
by_renamed names call Called = refl
by_renamed names call (Returned v) = refl
by_renamed names call (Trapped kind) = refl

after_renamed : (t : ℕ) (names : ℕ → ℕ) (now : Option ℕ) (e : Event) →
    pending_after t now (renamed_event names e) ≡ pending_after t now e
after_renamed t names now e =
    ap (λ (o : Option ℕ). if nat_eq e.thread t then o else now) (by_renamed names e.call e.happening)

pub pending_renamed : (t : ℕ) (names : ℕ → ℕ) (now : Option ℕ) (es : List Event) →
    fold (pending_after t) now (map (renamed_event names) es) ≡ fold (pending_after t) now es
pending_renamed t names now [] = refl
pending_renamed t names now (e ∷ es) =
    ap (λ m. fold (pending_after t) m (map (renamed_event names) es)) (after_renamed t names now e)
    ∙ pending_renamed t names (pending_after t now e) es

-- ---- other threads

elsewhere : (u t : ℕ) (now other : Option ℕ) → nat_eq u t ≡ false → (if nat_eq u t then other else now) ≡ now
elsewhere u t now other e = ap (λ b. if b then other else now) e

pub pending_elsewhere : (u t : ℕ) (now : Option ℕ) (d : Did) → nat_eq u t ≡ false →
    fold (pending_after t) now (events_of u d) ≡ now
pending_elsewhere u t now did.Waits e = refl
pending_elsewhere u t now did.Idle e = refl
pending_elsewhere u t now (did.Acted (Call n) x) e = elsewhere u t now (Some n) e
pending_elsewhere u t now (did.Acted (Return n v) x) e = elsewhere u t now None e
pending_elsewhere u t now (did.Acted (Trap n kind) x) e = elsewhere u t now None e
pending_elsewhere u t now (did.Acted (ReadField o f) x) e = refl
pending_elsewhere u t now (did.Acted (WriteField o f v) x) e = refl
pending_elsewhere u t now (did.Acted (ReadItem o i) x) e = refl
pending_elsewhere u t now (did.Acted (WriteItem o i v) x) e = refl
pending_elsewhere u t now (did.Acted (ReadName n) x) e = refl
pending_elsewhere u t now (did.Acted (WriteName n v) x) e = refl
pending_elsewhere u t now (did.Acted (New c) x) e = refl
pending_elsewhere u t now (did.Acted NewLock x) e = refl
pending_elsewhere u t now (did.Acted (NewMarkable p) x) e = refl
pending_elsewhere u t now (did.Acted (NewArray n) x) e = refl
pending_elsewhere u t now (did.Acted (Lock o) x) e = refl
pending_elsewhere u t now (did.Acted (Unlock o) x) e = refl
pending_elsewhere u t now (did.Acted (TryLock o) x) e = refl
pending_elsewhere u t now (did.Acted (IsHeld o) x) e = refl
pending_elsewhere u t now (did.Acted (LockMonitor o) x) e = refl
pending_elsewhere u t now (did.Acted (UnlockMonitor o) x) e = refl
pending_elsewhere u t now (did.Acted (ReadPair o) x) e = refl
pending_elsewhere u t now (did.Acted (SetPair o p) x) e = refl
pending_elsewhere u t now (did.Acted (SwapPair o p q) x) e = refl
pending_elsewhere u t now (did.Acted (AttemptMark o r m) x) e = refl
pending_elsewhere u t now (did.Acted Turn x) e = refl
pending_elsewhere u t now (did.Acted (Enter m) x) e = refl

-- where no event of a quiet thread comes, the call stays pending
pub pending_quiet : (quiet : ℕ → Bool) (u t : ℕ) (now : Option ℕ) (d : Did) → quiet t ≡ true →
    (quiet u ≡ true → events_of u d ≡ []) →
    fold (pending_after t) now (events_of u d) ≡ now
pending_quiet quiet u t now d is silent = by_thread (eqb_tells u t)
  where
    by_thread : ((nat_eq u t ≡ true) × (u ≡ t)) ⊎ ((nat_eq u t ≡ false) × (u ≢ t)) →
        fold (pending_after t) now (events_of u d) ≡ now
    by_thread (inl (e, same)) = ap (fold (pending_after t) now) (silent (ap quiet same ∙ is))
    by_thread (inr (e, other)) = pending_elsewhere u t now d e
