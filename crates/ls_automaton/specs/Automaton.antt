-- A specification as an automaton, and the pairs that an observer of histories holds.
use Rattle.std.specs.Prelude.{◌≡◌, ℕ, nat_eq, ◌&&◌, if◌then◌else◌, List, [], ◌∷◌, ◌++◌, Contains}
use Rattle.ls_events.specs.declared.event.Event.{Event}
use Rattle.ls_serial.specs.Serial.{Explains, IsCall, IsEnd, IsEndOf}

-- a call that is pending: it has taken effect with this end, or it hasn't
pub data Status : Type 0 where
  Idle : Status
  Open : (call : Event) → Status
  Took : (end : Event) → Status

-- of each call of each thread, by numbers
abbrev pub Statuses : Type 0
Statuses = ℕ → ℕ → Status

-- that of the call of an event
abbrev pub status_of : Statuses → Event → Status
status_of calls e = calls e.thread e.call

abbrev pub with_status : Statuses → Event → Status → Statuses
with_status calls e x t n = if nat_eq t e.thread && nat_eq n e.call then x else calls t n

-- A state of the specification, and which calls are pending there, and whether they have taken effect.
pub record Pair (S : Type 0) : Type 0 where
  pub state : S
  pub calls : Statuses

-- the call has begun, and it hasn't ended
pub record IsPending (h : List Event) (c : Event) : Type 0 where
  pub there : Contains h c
  pub is_call : IsCall c
  pub pending : (e : Event) → Contains h e → IsEndOf c e → ⊥

module _ {S : Type 0} (Leads : S → Event → Event → S → Type 0) where
  -- calls one at a time, each with its end, lead from a state to another
  abbrev pub Serially : S → List Event → S → Type 0
  Serially s [] last = s ≡ last
  Serially s (c ∷ []) last = ⊥
  Serially s (c ∷ e ∷ g) last = IsCall c × IsEndOf c e × (m : S) × Leads s c e m × Serially m g last

  -- Some pending calls take effect, one after another, up to the one with this end and no further.
  pub data Takes (x : Event) : Pair S → Pair S → Type 0 where
    Done : (p : Pair S) → Takes x p p
    Take : (p q : Pair S) (c e : Event) (m : S) →
        ((f : Event) → status_of p.calls x ≡ Took f → ⊥) →
        status_of p.calls c ≡ Open c →
        IsEndOf c e →
        Leads p.state c e m →
        Takes x (record { state = m; calls = with_status p.calls c (Took e) }) q →
        Takes x p q

  module _ (first : S) where
    -- the observer holds this pair after this history
    pub data Holds : List Event → Pair S → Type 0 where
      Starts : Holds [] (record { state = first; calls = λ t n. Idle })
      Calls : (h : List Event) (p : Pair S) (c : Event) →
          Holds h p →
          IsCall c →
          Holds (h ++ c ∷ []) (record { state = p.state; calls = with_status p.calls c (Open c) })
      Ends : (h : List Event) (p q : Pair S) (e : Event) →
          Holds h p →
          Takes e p q →
          IsEnd e →
          status_of q.calls e ≡ Took e →
          Holds (h ++ e ∷ []) (record { state = q.state; calls = with_status q.calls e Idle })

    -- a serial run of the automaton explains the history
    pub record IsExplainedFrom (h : List Event) : Type 0 where
      pub run : List Event
      pub last : S
      pub serially : Serially first run last
      pub explains : Explains run h
