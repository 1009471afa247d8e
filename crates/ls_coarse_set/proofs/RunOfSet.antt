-- The set calls of whole calls, one after another, are a run of a set.
use Rattle.std.proofs.lemmas.Option.{none-some}
use Rattle.ls_serial.proofs.Lists.{some_is}
use Rattle.std.proofs.Common.{◌≡◌, ◌∙◌, ◌+◌, ◌-◌, ◌&&◌, ◌==◌, ℕ, ℤ, Bool, true, false, cond, List, [], ◌∷◌}
use Rattle.std.proofs.Common.{Option, Some, None, refl, sym, ap, ap₂, subst, arith}
use Rattle.std.specs.Prelude.{option_map, slice_get, if◌then◌else◌}
use Rattle.std.specs.Option.{option_and_then}
use Rattle.std.specs.Ordering.{int_eq}
use Rattle.std.specs.Str.{bytes_eq}
use Rattle.std.proofs.lemmas.Bool.{and_from}
use Rattle.std.proofs.lemmas.Bool.Decides.{nat_tests}
use Rattle.std.proofs.lemmas.Slice.Eq.{bytes_eq-Decides}
use Rattle.ls_events.specs.declared.value.Value.TheVariants.{Boolean, Int}
use Rattle.ls_checked.specs.CheckedProgram.{Program, ThreadProgram, Calling}
use Rattle.ls_meaning.specs.Threads.{calls_in}
use Rattle.ls_report.specs.Events.{Event, Called, Returned, Text}
use Rattle.ls_report.specs.Printing.{event_of, named, object_name}
use Rattle.ls_orders.specs.declared.calls.SetCall.{SetCall}
use Rattle.ls_orders.specs.declared.calls.End.TheVariants as ends
use Rattle.ls_orders.specs.declared.calls.Operation.{Operation}
use Rattle.ls_orders.specs.declared.calls.Operation.TheVariants.{Add, Contains, Remove}
use Rattle.ls_orders.specs.SetCalls.{asked_of, calls_from, end_at, end_of, with_asked}
use Rattle.ls_orders.specs.Rules.{answer_of, differs, present_after}
use Rattle.ls_orders.specs.Legal.{IsRun, Set, after}
use Rattle.ls_legal_laws.specs.Laws.{AreNamed}
use Rattle.ls_coarse_set.proofs.Items.{member}
use Rattle.ls_coarse_set.proofs.Methods.{Follows}
use Rattle.ls_coarse_set.proofs.Deeds.{AllAsked, Deed, IsAsked, IsNameFor, Runs, called, events_by, returned}

-- a call by its name asks for its operation
pub asked_is : (o : Operation) (object text : Text) (z : ℤ) → IsNameFor o text →
    asked_of (Called object text (Int z ∷ [])) ≡ Some (o, z)
asked_is Add object text z e = ap (λ w. asked_of (Called object w (Int z ∷ []))) e
asked_is Remove object text z e = ap (λ w. asked_of (Called object w (Int z ∷ []))) e
asked_is Contains object text z e = ap (λ w. asked_of (Called object w (Int z ∷ []))) e

same_reply : (b w : Bool) → b ≡ w → (n : ℕ) → differs (ends.Returned n (Some b)) w ≡ false
same_reply true w e n = ap (differs (ends.Returned n (Some true))) (sym e)
same_reply false w e n = ap (differs (ends.Returned n (Some false))) (sym e)

module _ (p : Program) where
  record HasNames (d : Deed) : Type 0 where
    thread : Text
    object : Text
    text : Text
    first : named p (called d.thread d.call) ≡
        Some (record { thread = thread; call = d.call; occurrence = Called object text (Int d.item ∷ []) })
    second : named p (returned d.thread d.call (Some (Boolean d.answer))) ≡
        Some (record { thread = thread; call = d.call; occurrence = Returned (Some (Boolean d.answer)) })
    word : IsNameFor d.operation text

  names_of : (d : Deed) → IsAsked p d → HasNames d
  names_of d a = by_thread (slice_get p.threads d.thread) refl a.there
    where
      by_thread : (t : Option ThreadProgram) → slice_get p.threads d.thread ≡ t →
          slice_get (calls_in t) (d.call - 1) ≡ Some (Calling 0 a.method a.text a.result (Int d.item ∷ [])) → HasNames d
      by_thread None at there = absurd (none-some _ there)
      by_thread (Some t) at there = record {
        thread = t.name;
        object = object_name p 0;
        text = a.text;
        first = ap (option_and_then (λ t. option_map (event_of p t (called d.thread d.call))
            (slice_get t.calls (d.call - 1)))) at
            ∙ ap (option_map (event_of p t (called d.thread d.call))) there;
        second = ap (option_and_then (λ t. option_map
            (event_of p t (returned d.thread d.call (Some (Boolean d.answer)))) (slice_get t.calls (d.call - 1)))) at
            ∙ ap (option_map (event_of p t (returned d.thread d.call (Some (Boolean d.answer))))) there;
        word = a.named;
      }

  module _ (d : Deed) (n : HasNames d) where
    abbrev first_event : Event
    first_event = record { thread = n.thread; call = d.call; occurrence = Called n.object n.text (Int d.item ∷ []) }

    abbrev second_event : Event
    second_event = record { thread = n.thread; call = d.call; occurrence = Returned (Some (Boolean d.answer)) }

    abbrev set_call_of : ℕ → SetCall
    set_call_of at = record {
      called = at;
      operation = d.operation;
      item = d.item;
      end =
          ends.Returned (at + 1) (Some d.answer);
    }

    own : (n.thread ≡ n.thread) → (bytes_eq n.thread n.thread && d.call == d.call) ≡ true
    own e = and_from (bytes_eq n.thread n.thread) (d.call == d.call) ((bytes_eq-Decides n.thread n.thread).1 e)
        (grind (arith, nat_tests))

    calls_are : (at : ℕ) (H : List Event) →
        calls_from at (first_event ∷ second_event ∷ H) ≡ set_call_of at ∷ calls_from (at + 1 + 1) H
    calls_are at H =
        ap (λ a. with_asked a at (end_of n.thread d.call (at + 1) (second_event ∷ H))
        (calls_from (at + 1) (second_event ∷ H)))
        (asked_is d.operation n.object n.text d.item n.word)
        ∙ ap (λ b. record {
          called = at;
          operation = d.operation;
          item = d.item;
          end = cond b (end_at (at + 1) second_event.occurrence) (end_of n.thread d.call (at + 1 + 1) H);
        } ∷ calls_from (at + 1 + 1) H)
        (own refl)

  -- the set has these items
  abbrev pub Has : Set → List ℤ → Type 0
  Has set ks = (i : ℤ) → set i ≡ member i ks

  has_after : (set : Set) (d : Deed) (n : HasNames d) (at : ℕ) (ks is : List ℤ) → Has set ks →
      Follows d.operation d.item ks d.answer is →
      Has (after set (set_call_of d n at)) is
  has_after set d n at ks is h f i =
      ap (λ b. if int_eq d.item i then present_after d.operation b else b) (h i) ∙ sym (f.items i)

  -- deeds are a run of a set
  pub run_of_deeds : (ds : List Deed) (H : List Event) (at : ℕ) (set : Set) (ks js : List ℤ) → AllAsked p ds →
      AreNamed p (events_by ds) H → Has set ks → Runs ks ds js → IsRun set (calls_from at H)
  run_of_deeds [] [] at set ks js asked named h runs = tt
  run_of_deeds [] (x ∷ H) at set ks js asked named h runs = absurd cc
  run_of_deeds (d ∷ ds) [] at set ks js asked named h runs = absurd cc
  run_of_deeds (d ∷ ds) (x ∷ []) at set ks js asked named h runs = absurd cc
  run_of_deeds (d ∷ ds) (x ∷ y ∷ H) at set ks js asked is h runs =
      let n = names_of d asked.0 in
      let first : named p (called d.thread d.call) ≡ Some x = cc in
      let second : named p (returned d.thread d.call (Some (Boolean d.answer))) ≡ Some y = cc in
      let a : x ≡ first_event d n = some_is (sym first ∙ n.first) in
      let b : y ≡ second_event d n = some_is (sym second ∙ n.second) in
      let rest : AreNamed p (events_by ds) H = cc in
      let whole : calls_from at (x ∷ y ∷ H) ≡ set_call_of d n at ∷ calls_from (at + 1 + 1) H =
      ap₂ (λ u v. calls_from at (u ∷ v ∷ H)) a b ∙ calls_are d n at H in
      subst (IsRun set) (sym whole) (
        same_reply d.answer (answer_of d.operation (set d.item))
            (runs.1.answers ∙ ap (answer_of d.operation) (sym (h d.item))) (at + 1),
        run_of_deeds ds H (at + 1 + 1) (after set (set_call_of d n at)) runs.0 js asked.1 rest
            (has_after set d n at ks runs.0 h runs.1) runs.2,
      )
