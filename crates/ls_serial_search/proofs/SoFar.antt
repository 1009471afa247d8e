-- Serial histories, and those that go on as one.
use Rattle.std.proofs.Common.{◌≡◌, List, [], ◌∷◌, ◌++◌, refl, ap}
use Rattle.ls_events.specs.declared.event.Event.{Event}
use Rattle.ls_serial.specs.Serial.{IsCall, IsEndOf, IsSerial}

-- serial, but for one call that may be pending at the end
abbrev pub IsSoFar : List Event → Type 0
IsSoFar [] = Unit {0}
IsSoFar (c ∷ []) = IsCall c
IsSoFar (c ∷ e ∷ rest) = IsCall c × IsEndOf c e × IsSoFar rest

pub serial_so_far : (h : List Event) → IsSerial h → IsSoFar h
serial_so_far [] s = tt
serial_so_far (c ∷ []) s = absurd s
serial_so_far (c ∷ e ∷ rest) s = (s.0, s.1, serial_so_far rest s.2)

pub so_far_before : (h more : List Event) → IsSoFar (h ++ more) → IsSoFar h
so_far_before [] more s = tt
so_far_before (c ∷ []) [] s = s
so_far_before (c ∷ []) (e ∷ more) s = s.0
so_far_before (c ∷ e ∷ rest) more s = (s.0, s.1, so_far_before rest more s.2)

-- what follows a pending call is its end
pub then_ends : (h : List Event) (c e : Event) → IsSerial h → IsSoFar ((h ++ c ∷ []) ++ e ∷ []) → IsEndOf c e
then_ends [] c e s so = so.1
then_ends (x ∷ []) c e s so = absurd s
then_ends (x ∷ y ∷ rest) c e s so = then_ends rest c e s.2 so.2

pub so_far_call : (h : List Event) (c : Event) → IsSerial h → IsCall c → IsSoFar (h ++ c ∷ [])
so_far_call [] c s call = call
so_far_call (x ∷ []) c s call = absurd s
so_far_call (x ∷ y ∷ rest) c s call = (s.0, s.1, so_far_call rest c s.2 call)

pub pending_not_serial : (h : List Event) (c : Event) → IsSerial h → IsSerial (h ++ c ∷ []) → ⊥
pending_not_serial [] c s so = so
pending_not_serial (x ∷ []) c s so = s
pending_not_serial (x ∷ y ∷ rest) c s so = pending_not_serial rest c s.2 so.2

-- a serial history is kept by a call with its end
pub serial_more : (h : List Event) (c e : Event) → IsSerial h → IsCall c → IsEndOf c e →
    IsSerial ((h ++ c ∷ []) ++ e ∷ [])
serial_more [] c e s call ends = (call, ends, tt)
serial_more (x ∷ []) c e s call ends = absurd s
serial_more (x ∷ y ∷ rest) c e s call ends = (s.0, s.1, serial_more rest c e s.2 call ends)

-- a serial history that isn't empty ends with a call and its end
pub record EndsWith (h : List Event) (e : Event) : Type 0 where
  pub front : List Event
  pub call : Event
  pub serial : IsSerial front
  pub is_call : IsCall call
  pub is_end : IsEndOf call e
  pub is : front ++ call ∷ [] ≡ h

pub last_pair : (h : List Event) (e : Event) → IsSerial (h ++ e ∷ []) → EndsWith h e
last_pair [] e s = absurd s
last_pair (c ∷ []) e s = record { front = []; call = c; serial = tt; is_call = s.0; is_end = s.1; is = refl }
last_pair (x ∷ y ∷ rest) e s =
    let r = last_pair rest e s.2 in
    record {
      front = x ∷ y ∷ r.front;
      call = r.call;
      serial = (s.0, s.1, r.serial);
      is_call = r.is_call;
      is_end = r.is_end;
      is = ap (λ l. x ∷ y ∷ l) r.is;
    }

not_empty : (h : List Event) (e : Event) → [] ≡ h ++ e ∷ [] → ⊥
not_empty [] e is = cc
not_empty (x ∷ h) e is = cc

pub same_end : (g h : List Event) (c e : Event) → g ++ c ∷ [] ≡ h ++ e ∷ [] → (g ≡ h) × (c ≡ e)
same_end [] [] c e is = (refl, cc)
same_end [] (y ∷ h) c e is = absurd (not_empty h e (cc))
same_end (x ∷ g) [] c e is = absurd (not_empty g c (cc))
same_end (x ∷ g) (y ∷ h) c e is =
    let r = same_end g h c e (cc) in (cc, r.1)
