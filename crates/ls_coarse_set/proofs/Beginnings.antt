-- Beginnings of serial histories, and what is left of a list.
use Rattle.std.proofs.Common.{◌≡◌, ℕ, zero, suc}
use Rattle.std.proofs.Common.{List, []}
use Rattle.std.proofs.Common.{◌∷◌, ◌++◌, append_assoc, drop, Some}
use Rattle.std.proofs.Common.{subst}
use Rattle.std.specs.Prelude.{slice_get}
use Rattle.ls_events.specs.declared.event.Event.{Event}
use Rattle.ls_serial.specs.Serial.{IsCall, IsSerial}
use Rattle.ls_serial.proofs.Steps.{not_both}

-- behind a serial history stands no call before another's end
pub not_two : (h : List Event) (c d : Event) (more : List Event) → IsSerial h → IsCall d →
    IsSerial (h ++ c ∷ d ∷ more) → ⊥
not_two [] c d more s call t = not_both d call t.1.ends
not_two (a ∷ []) c d more s call t = absurd s
not_two (a ∷ b ∷ h) c d more s call t = not_two h c d more s.2 call t.2

-- nor does a call alone
pub not_one : (h : List Event) (c : Event) → IsSerial h → IsSerial (h ++ c ∷ []) → ⊥
not_one [] c s t = t
not_one (a ∷ []) c s t = absurd s
not_one (a ∷ b ∷ h) c s t = not_one h c s.2 t.2

-- it is the beginning of a serial history
abbrev pub Begins : List Event → Type 0
Begins h = (more : List Event) × IsSerial (h ++ more)

-- what is a beginning with more events is one without them
pub begins_less : (h e : List Event) → Begins (h ++ e) → Begins h
begins_less h e b = (e ++ b.0, subst IsSerial (append_assoc h e b.0) b.1)

-- ---- what is left of a list

-- one element less is left
pub drop_next : {A : Type 0} (k : ℕ) (xs : List A) (c : A) (cs : List A) → drop k xs ≡ c ∷ cs → drop (suc k) xs ≡ cs
drop_next zero [] c cs e = absurd cc
drop_next zero (x ∷ xs) c cs e = cc
drop_next (suc k) [] c cs e = absurd cc
drop_next (suc k) (x ∷ xs) c cs e = drop_next k xs c cs e

-- the first element of what is left stands at that place
pub drop_get : {A : Type 0} (k : ℕ) (xs : List A) (c : A) (cs : List A) → drop k xs ≡ c ∷ cs → slice_get xs k ≡ Some c
drop_get zero [] c cs e = absurd cc
drop_get zero (x ∷ xs) c cs e = cc
drop_get (suc k) [] c cs e = absurd cc
drop_get (suc k) (x ∷ xs) c cs e = drop_get k xs c cs e
