-- A set call of a history of a program is found by its name.
use Rattle.std.proofs.Common.{◌≡◌, ◌∙◌, List, []}
use Rattle.std.proofs.Common.{Some, refl, sym, ap, Contains}
use Rattle.std.specs.Prelude.{slice_get}
use Rattle.std.specs.Option.{option_map_or}
use Rattle.std.proofs.lemmas.Slice.Eq.{bytes_eq-Decides}
use Rattle.ls_events.specs.declared.event.Event.{Event as RunEvent}
use Rattle.ls_checked.specs.CheckedProgram.{Program}
use Rattle.ls_report.specs.Events.{Event}
use Rattle.ls_report.specs.Printing.{named}
use Rattle.ls_serial.specs.Serial.{IsCall}
use Rattle.ls_linearizable.specs.Once.{AreOnce}
use Rattle.ls_orders.specs.declared.calls.SetCall.{SetCall}
use Rattle.ls_orders.specs.SetCalls.{call_named, name_at, name_of, set_calls}
use Rattle.ls_legal_laws.specs.Laws.{AreNamed, HasOwnNames}
use Rattle.ls_legal_laws.proofs.Calls.{IsCallOf, same_place, set_call_at}
use Rattle.ls_legal_laws.proofs.Naming.{asks_called, named_run, same_called}
use Rattle.ls_legal_laws.proofs.Naming.{same_text}
use Rattle.ls_legal_laws.proofs.Lists.{found_only}

module _ (p : Program) (own : HasOwnNames p) (h : List RunEvent) (H : List Event) (hn : AreNamed p h H)
    (oh : AreOnce h) where
  -- ---- names

  -- the event of a set call of the history
  pub record Begins (c : SetCall) : Type 0 where
    pub name : Event
    pub event : RunEvent
    pub in_H : slice_get H c.called ≡ Some name
    pub in_h : slice_get h c.called ≡ Some event
    pub is : named p event ≡ Some name
    pub call : IsCall event

  -- a set call begins with the call event of a run
  abbrev pub begins : (c : SetCall) → IsCallOf H c → Begins c
  begins c r = let o = named_run p h H c.called r.event hn r.there in record {
    name = r.event;
    event = o.0;
    in_H = r.there;
    in_h = o.1;
    is = o.2;
    call = asks_called p o.0 r.event (c.operation, c.item) o.2 r.asked;
  }

  name_is : (c : SetCall) (b : Begins c) → name_at H c.called ≡ name_of b.name
  name_is c b = ap (λ o. option_map_or name_of o []) b.in_H

  same_name : (c d : SetCall) → IsCallOf H c → IsCallOf H d → name_at H c.called ≡ name_at H d.called → d ≡ c
  same_name c d rc rd e =
      let a = begins c rc in
      let b = begins d rd in
      let s = same_text p own a.event b.event a.name b.name a.is b.is (sym (name_is c a) ∙ e ∙ name_is d b) in
      let f = same_called b.event a.event b.call a.call s.0 s.1 in
      same_place H d c rd rc (oh a.event d.called c.called (b.in_h ∙ ap Some f) a.in_h)

  -- a set call is found by its name
  pub named_only : (d : SetCall) → Contains (set_calls H) d → call_named H (set_calls H) (name_at H d.called) ≡ Some d
  named_only d there = found_only _ (set_calls H) d there
      ((bytes_eq-Decides (name_at H d.called) (name_at H d.called)).1 refl)
      (λ c inside is. same_name d c (set_call_at H d there) (set_call_at H c inside)
      ((bytes_eq-Decides (name_at H d.called) (name_at H c.called)).0 is))
