-- Which event of a thread may follow its last one.
use Rattle.std.proofs.Common.{ℕ, ◌+◌, Option, Some, None}
use Rattle.ls_events.specs.declared.event.Event.{Event}
use Rattle.ls_events.specs.declared.event.Happening.TheVariants.{Called, Returned, Trapped}
use Rattle.ls_events.specs.declared.kind.Kind.{Kind}
use Rattle.ls_events.specs.declared.value.Value.{Value}

module _ (t : ℕ) where
  -- the call event of a thread's call
  abbrev pub called : ℕ → Event
  called n = record { thread = t; call = n; happening = Called }

  -- the return event of a thread's call
  abbrev pub returned : ℕ → Option Value → Event
  returned n v = record { thread = t; call = n; happening = Returned v }

  -- the trap event of a thread's call
  abbrev pub trapped : ℕ → Kind → Event
  trapped n k = record { thread = t; call = n; happening = Trapped k }

-- a call at the start or after the return of the call before it; a return or a trap of the open call
pub data Follows (t : ℕ) : Option Event → Event → Type 0 where
  First : Follows t None (called t 1)
  Next : (n : ℕ) (v : Option Value) → Follows t (Some (returned t n v)) (called t (n + 1))
  Gives : (n : ℕ) (v : Option Value) → Follows t (Some (called t n)) (returned t n v)
  Fails : (n : ℕ) (k : Kind) → Follows t (Some (called t n)) (trapped t n k)

-- the later of two events, if there is one
abbrev pub newer : Option Event → Option Event → Option Event
newer d None = d
newer d (Some e) = Some e
