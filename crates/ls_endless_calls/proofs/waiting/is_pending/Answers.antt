-- Why `is_pending` in src/waiting.rt keeps its contract and its loop `place`.

use Rattle.std.proofs.Common.{◌≡◌, ◌∙◌, Some, false, get_or, refl, subst, sym, slice_get, true}
use Rattle.ls_events.specs.declared.event.Event.{Event}
use Rattle.ls_serial.specs.Serial.{IsEndOf}
use Rattle.ls_serial.proofs.Lists.{get_contains, is_get, some_is}
use Rattle.ls_endless_calls.proofs.Places.{each_so, no_event, one_so}
use Rattle.ls_endless_calls.proofs.waiting.is_pending.Goals as goal

not_true : false ≡ true → ⊥
not_true e = cc

pub loop-place-preserved : goal.loop-place-preserved
loop-place-preserved c =
    one_so c.args.history.now (λ k y. (e : Event) → slice_get c.args.history.now c.args.at ≡ Some e → IsEndOf e y → ⊥)
    c.loop-place.place (get_or c.args.history.now c.loop-place.place no_event)
    (is_get c.args.history.now c.loop-place.place no_event c.loop-place-test.true) c.loop-place.invariant
    (λ e at ends. not_true (c.if-is_end_of.ensures.1
    (subst (λ (x : Event). IsEndOf x (get_or c.args.history.now c.loop-place.place no_event))
    (some_is (sym at ∙ is_get c.args.history.now c.args.at no_event c.requires)) ends)))

pub returns : goal.returns
returns c = (
  λ up.
      let is_call = sym c.is_called.ensures ∙ c.if-not-is_called.false in
      let at = is_get c.args.history.now c.args.at no_event c.requires in (
        _,
        at,
        record {
          there = get_contains c.args.history.now c.args.at _ at;
          is_call = is_call;
          pending = λ e there ends.
              each_so c.args.history.now
              (λ y. (x : Event) → slice_get c.args.history.now c.args.at ≡ Some x → IsEndOf x y → ⊥) c.loop-place.place
              c.loop-place-test.false c.loop-place.invariant e there _ at ends;
        },
      ),
  λ p. refl,
)
