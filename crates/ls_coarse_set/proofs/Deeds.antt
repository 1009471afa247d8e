-- What has been done by whole calls, one after another.
use Rattle.std.proofs.Common.{◌≡◌, ◌∙◌, ◌-◌, ℕ, ℤ, Bool, List, [], ◌∷◌, ◌++◌, Option, Some, None, refl, sym, ap, subst}
use Rattle.std.specs.Prelude.{codes, slice_get}
use Rattle.ls_events.specs.declared.value.Value.{Value}
use Rattle.ls_events.specs.declared.value.Value.TheVariants.{Boolean, Int}
use Rattle.ls_events.specs.declared.value.ValueType.{ValueType}
use Rattle.ls_events.specs.declared.event.Event.{Event}
use Rattle.ls_events.specs.declared.event.Happening.TheVariants.{Called, Returned}
use Rattle.ls_checked.specs.CheckedProgram.{Program, Calling}
use Rattle.ls_meaning.specs.Store.{Free, Store}
use Rattle.ls_meaning.specs.Threads.{calls_in}
use Rattle.ls_report.specs.Events.{Text}
use Rattle.ls_serial.specs.Serial.{IsSerial}
use Rattle.ls_orders.specs.declared.calls.Operation.{Operation}
use Rattle.ls_orders.specs.declared.calls.Operation.TheVariants.{Add, Contains, Remove}
use Rattle.ls_coarse_set.proofs.Methods.{Follows, IsList}

-- a whole call: who made it, its operation and item, and its answer
pub record Deed : Type 0 where
  pub thread : ℕ
  pub call : ℕ
  pub operation : Operation
  pub item : ℤ
  pub answer : Bool

-- the event of a call
abbrev pub called : ℕ → ℕ → Event
called t n = record { thread = t; call = n; happening = Called }

-- the event of a return
abbrev pub returned : ℕ → ℕ → Option Value → Event
returned t n v = record { thread = t; call = n; happening = Returned v }

-- the events of deeds, one after another
abbrev pub events_by : List Deed → List Event
events_by [] = []
events_by (d ∷ ds) = called d.thread d.call ∷ returned d.thread d.call (Some (Boolean d.answer)) ∷ events_by ds

-- the making, and then these
abbrev pub told : List Deed → List Event
told ds = called 0 1 ∷ returned 0 1 None ∷ events_by ds

-- the deeds are answered as by a set with these items, and leave those
abbrev pub Runs : List ℤ → List Deed → List ℤ → Type 0
Runs ks [] js = ks ≡ js
Runs ks (d ∷ ds) js = (is : List ℤ) × Follows d.operation d.item ks d.answer is × Runs is ds js

-- the operation is called by its name
abbrev pub IsNameFor : Operation → Text → Type 0
IsNameFor Add text = text ≡ codes "add"
IsNameFor Remove text = text ≡ codes "remove"
IsNameFor Contains text = text ≡ codes "contains"

-- the call is one of the program
pub record IsAsked (p : Program) (d : Deed) : Type 0 where
  pub method : ℕ
  pub text : Text
  pub result : Option ValueType
  pub there : slice_get (calls_in (slice_get p.threads d.thread)) (d.call - 1) ≡
      Some (Calling 0 method text result (Int d.item ∷ []))
  pub named : IsNameFor d.operation text

-- each deed is asked for by the program
abbrev pub AllAsked : Program → List Deed → Type 0
AllAsked p [] = Unit {0}
AllAsked p (d ∷ ds) = IsAsked p d × AllAsked p ds

-- the history is made of deeds, after the making of the list; the list has the items that they leave
pub record IsDoneBy (p : Program) (s : Store) (h : List Event) : Type 0 where
  pub deeds : List Deed
  pub items : List ℤ
  pub is : h ≡ told deeds
  pub runs : Runs [] deeds items
  pub asked : AllAsked p deeds
  pub list : IsList s Free items

events_more : (ds : List Deed) (d : Deed) → events_by (ds ++ d ∷ []) ≡
    events_by ds ++ called d.thread d.call ∷ returned d.thread d.call (Some (Boolean d.answer)) ∷ []
events_more [] d = refl
events_more (e ∷ ds) d =
    ap (λ l. called e.thread e.call ∷ returned e.thread e.call (Some (Boolean e.answer)) ∷ l) (events_more ds d)

runs_more : (ds : List Deed) (d : Deed) (ks js is : List ℤ) → Runs ks ds js →
    Follows d.operation d.item js d.answer is →
    Runs ks (ds ++ d ∷ []) is
runs_more [] d ks js is r f = (is, subst (λ l. Follows d.operation d.item l d.answer is) (sym r) f, refl)
runs_more (e ∷ ds) d ks js is r f = (r.0, r.1, runs_more ds d r.0 js is r.2 f)

asked_more : (p : Program) (ds : List Deed) (d : Deed) → AllAsked p ds → IsAsked p d → AllAsked p (ds ++ d ∷ [])
asked_more p [] d a b = (b, tt)
asked_more p (e ∷ ds) d a b = (a.0, asked_more p ds d a.1 b)

-- one call more
pub done_more : (p : Program) (s s' : Store) (h : List Event) (x : IsDoneBy p s h) (d : Deed) (is : List ℤ) →
    IsAsked p d →
    Follows d.operation d.item x.items d.answer is → IsList s' Free is →
    IsDoneBy p s' (h ++ called d.thread d.call ∷ returned d.thread d.call (Some (Boolean d.answer)) ∷ [])
done_more p s s' h x d is asked f list = record {
  deeds = x.deeds ++ d ∷ [];
  items = is;
  is = ap (λ l. l ++ called d.thread d.call ∷ returned d.thread d.call (Some (Boolean d.answer)) ∷ []) x.is
      ∙ ap (λ l. called 0 1 ∷ returned 0 1 None ∷ l) (sym (events_more x.deeds d));
  runs = runs_more x.deeds d [] x.items is x.runs f;
  asked = asked_more p x.deeds d x.asked asked;
  list = list;
}

serial_events : (ds : List Deed) → IsSerial (events_by ds)
serial_events [] = tt
serial_events (d ∷ ds) = (refl, record { ends = refl; thread = refl; call = refl }, serial_events ds)

-- the history of deeds is serial
pub serial_told : (ds : List Deed) → IsSerial (told ds)
serial_told ds = (refl, record { ends = refl; thread = refl; call = refl }, serial_events ds)
