-- Ends of set calls, as returns and traps give them.
use Rattle.std.proofs.Common.{◌≡◌, ◌∙◌, ◌+◌, ◌<◌, ◌==◌, ℕ, Bool, true, false, cond, List}
use Rattle.std.proofs.Common.{◌∷◌, Option, Some, None, refl, sym, ap, arith}
use Rattle.std.specs.Str.{bytes_eq}
use Rattle.std.proofs.lemmas.Bool.{and_from, lt-ltb, ltb-true, true≢false}
use Rattle.std.proofs.lemmas.Slice.Eq.{bytes_eq-Decides}
use Rattle.ls_events.specs.declared.event.Happening.{Happening}
use Rattle.ls_events.specs.declared.event.Happening.TheVariants as happenings
use Rattle.ls_checked.specs.CheckedProgram.{Program, ProgramCall}
use Rattle.ls_report.specs.Events.{Event, Occurrence, Text, Made, Called, Returned, Trapped}
use Rattle.ls_report.specs.Printing.{occurrence_of}
use Rattle.ls_serial.specs.Serial.{is_called}
use Rattle.ls_orders.specs.declared.calls.End.TheVariants as ends
use Rattle.ls_orders.specs.SetCalls.{end_at, end_of, reply_of}
use Rattle.ls_orders.specs.Rules.{differs, ended_before, is_returned}
use Rattle.ls_legal_laws.proofs.Calls.{IsOf}

pub ends_differ : (a b : ℕ) (o : Option Bool) (w : Bool) → differs (ends.Returned a o) w ≡ differs (ends.Returned b o) w
ends_differ a b None w = refl
ends_differ a b (Some r) w = refl

-- whether an end differs from an answer does not depend on its place
pub both_differ : (a b : ℕ) (o : Occurrence) (w : Bool) → differs (end_at a o) w ≡ differs (end_at b o) w
both_differ a b (Made x c v) w = refl
both_differ a b (Called x c v) w = refl
both_differ a b (Returned v) w = ends_differ a b (reply_of v) w
both_differ a b (Trapped k) w = refl

-- nor does whether it is a return
pub both_return : (a b : ℕ) (o : Occurrence) → is_returned (end_at a o) ≡ is_returned (end_at b o)
both_return a b (Made x c v) = refl
both_return a b (Called x c v) = refl
both_return a b (Returned v) = refl
both_return a b (Trapped k) = refl

-- an end that came before a place
pub came_before : (a n : ℕ) (o : Occurrence) → ended_before (end_at a o) n ≡ true → a < n
came_before a n (Made x c v) e = absurd (true≢false (sym e))
came_before a n (Called x c v) e = absurd (true≢false (sym e))
came_before a n (Returned v) e = ltb-true a n e
came_before a n (Trapped k) e = ltb-true a n e

-- a return or a trap
abbrev pub EndsIt : Occurrence → Type 0
EndsIt (Made x c v) = ⊥
EndsIt (Called x c v) = ⊥
EndsIt (Returned v) = Unit {0}
EndsIt (Trapped k) = Unit {0}

-- a return or a trap ends its call before each later place
pub comes_before : (a n : ℕ) (o : Occurrence) → EndsIt o → a < n → ended_before (end_at a o) n ≡ true
comes_before a n (Made x c v) e lt = absurd e
comes_before a n (Called x c v) e lt = absurd e
comes_before a n (Returned v) e lt = lt-ltb a n lt
comes_before a n (Trapped k) e lt = lt-ltb a n lt

-- a pending call has ended before no place
pub not_pending : (n : ℕ) → ended_before ends.Pending n ≡ true → ⊥
not_pending n e = true≢false (sym e)

-- a pending call has not returned
pub pending_not : is_returned ends.Pending ≡ true → ⊥
pending_not e = true≢false (sym e)

-- an end of the run is a return or a trap by its names too
pub ends_it : (p : Program) (c : ProgramCall) (h : Happening) → is_called h ≡ false → EndsIt (occurrence_of p c h)
ends_it p c happenings.Called e = absurd (true≢false e)
ends_it p c (happenings.Returned v) e = tt
ends_it p c (happenings.Trapped k) e = tt

-- the call ends with the first event after it, if that is one of it
pub end_here : (thread : Text) (call at : ℕ) (es rest : List Event) (y : Event) →
    es ≡ y ∷ rest →
    IsOf thread call y →
    end_of thread call at es ≡ end_at at y.occurrence
end_here thread call at es rest y is of =
    ap (end_of thread call at) is
    ∙ ap (λ b. cond b (end_at at y.occurrence) (end_of thread call (at + 1) rest))
    (and_from (bytes_eq y.thread thread) (y.call == call) ((bytes_eq-Decides y.thread thread).1 of.0)
    (grind (arith, of.1)))
