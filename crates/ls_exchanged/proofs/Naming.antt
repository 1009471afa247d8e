-- Events with their names, in programs that are alike but for the numbers of threads.
use Rattle.std.proofs.Common.{◌≡◌, ◌≢◌, ◌⊎◌, inl, inr, ◌-◌, ◌<◌, ℕ, List, [], ◌∷◌, Option, Some, None, length, map}
use Rattle.std.proofs.Common.{refl, sym, ap, ◌∙◌, subst, slice_get, option_map}
use Rattle.std.specs.Option.{option_and_then, option_map_or}
use Rattle.std.proofs.lemmas.Bool.{cases_eq}
use Rattle.std.proofs.lemmas.Option.{slice_get_within}
use Rattle.ls_events.specs.declared.event.Event.{Event as RunEvent}
use Rattle.ls_events.specs.declared.event.Happening.{Happening}
use Rattle.ls_events.specs.declared.event.Happening.TheVariants as happenings
use Rattle.ls_checked.specs.CheckedProgram.{Calling, Making, Program, ProgramCall, ThreadProgram}
use Rattle.ls_meaning.specs.Runs.{source_history}
use Rattle.ls_meaning.specs.Threads.{calls_in}
use Rattle.ls_report.specs.Events.{Called, Event, Made, Text}
use Rattle.ls_report.specs.Printing.{event_of, named, occurrence_of}
use Rattle.ls_explore_reports.specs.Verdicts.{HasLegalOrder}
use Rattle.ls_exchanged.specs.Exchanged.{AreExchanged, HaveNamesByPlace, exchanged, name_in}
use Rattle.ls_exchanged.specs.Laws.{ExchangedIsLegal}
use Rattle.ls_exchanged.proofs.Alike.{AreAlike, alike, at_first, at_second, elsewhere}
use Rattle.ls_exchanged.proofs.Legal.{legal_other, other, others}
use Rattle.ls_exchanged.proofs.Linearizable.{history_is}
use Rattle.ls_exchanged.proofs.Runs.{other_event, other_events}
use Rattle.ls_exchanged.proofs.Texts.{swapped, swapped_first, swapped_none, swapped_second}

-- the event of a call of a thread with this name
abbrev event_with : Program → Text → RunEvent → ProgramCall → Event
event_with p name e call = record { thread = name; call = e.call; occurrence = occurrence_of p call e.happening }

-- an event with its names, by the name and the calls of its thread
named_is : (p : Program) (e : RunEvent) →
    named p e ≡ option_map (event_with p (name_in (slice_get p.threads e.thread)) e)
    (slice_get (calls_in (slice_get p.threads e.thread)) (e.call - 1))
named_is p e = by_thread (slice_get p.threads e.thread)
  where
    by_thread : (t : Option ThreadProgram) →
        option_and_then (λ t. option_map (event_of p t e) (slice_get t.calls (e.call - 1))) t ≡
        option_map (event_with p (name_in t) e) (slice_get (calls_in t) (e.call - 1))
    by_thread None = refl
    by_thread (Some t) = refl

module _ (u v : ℕ) (p q : Program) (x : AreExchanged u v p q) (names : HaveNamesByPlace p q) where
  abbrev f : ℕ → ℕ
  f = exchanged u v

  r : AreAlike f p q
  r = alike u v p q x

  abbrev name : ℕ → Text
  name t = name_in (slice_get p.threads t)

  -- ---- names of threads

  name_other : (t : ℕ) → t < length p.threads → name (f t) ≡ swapped (name u) (name v) (name t)
  name_other t lt = by_place (cases_eq t u) (cases_eq t v)
    where
      by_place : (t ≡ u) ⊎ (t ≢ u) → (t ≡ v) ⊎ (t ≢ v) → name (f t) ≡ swapped (name u) (name v) (name t)
      by_place (inl is) other =
          ap name (at_first u v t is) ∙ sym (swapped_first (name u) (name v) (name t) (ap name is))
      by_place (inr ne) (inl is) =
          ap name (at_second u v t ne is) ∙ sym (swapped_second (name u) (name v) (name t) (ap name is))
      by_place (inr m) (inr n) =
          ap name (elsewhere u v t m n)
          ∙ sym (swapped_none (name u) (name v) (name t) (λ e. m (names.apart t u lt x.within.0 e))
          (λ e. n (names.apart t v lt x.within.1 e)))

  -- ---- events

  -- an event of the second program has the names of the exchanged threads
  abbrev other_names : Event → Event
  other_names e = other (name u) (name v) e

  object_same : (n : ℕ) →
      option_map_or (λ z. z.name) (slice_get q.names n) [] ≡ option_map_or (λ z. z.name) (slice_get p.names n) []
  object_same n = ap (λ ns. option_map_or (λ z. z.name) (slice_get ns n) []) (sym x.names)

  occurrence_same : (call : ProgramCall) (h : Happening) → occurrence_of q call h ≡ occurrence_of p call h
  occurrence_same (Making n class class_name values) happenings.Called =
      ap (λ o. Made o class_name values) (object_same n)
  occurrence_same (Calling n method method_name result values) happenings.Called =
      ap (λ o. Called o method_name values) (object_same n)
  occurrence_same call (happenings.Returned value) = refl
  occurrence_same call (happenings.Trapped kind) = refl

  named_other : (e : RunEvent) → named q (other_event f e) ≡ option_map other_names (named p e)
  named_other e =
      named_is q (other_event f e)
      ∙ ap (λ cs. option_map (event_with q (name_in (slice_get q.threads (f e.thread))) (other_event f e))
      (slice_get cs (e.call - 1))) (r.calls e.thread)
      ∙ by_thread (slice_get p.threads e.thread) refl
      ∙ ap (option_map other_names) (sym (named_is p e))
    where
      by_call : e.thread < length p.threads → (c : Option ProgramCall) →
          option_map (event_with q (name_in (slice_get q.threads (f e.thread))) (other_event f e)) c ≡
          option_map other_names (option_map (event_with p (name e.thread) e) c)
      by_call lt None = refl
      by_call lt (Some call) =
          ap (λ n. Some (event_with q n (other_event f e) call)) (names.same (f e.thread) ∙ name_other e.thread lt)
          ∙ ap (λ o. Some (record {
            thread = swapped (name u) (name v) (name e.thread);
            call = e.call;
            occurrence = o;
          })) (occurrence_same call e.happening)

      by_thread : (t : Option ThreadProgram) → slice_get p.threads e.thread ≡ t →
          option_map (event_with q (name_in (slice_get q.threads (f e.thread))) (other_event f e))
          (slice_get (calls_in (slice_get p.threads e.thread)) (e.call - 1)) ≡
          option_map other_names (option_map (event_with p (name e.thread) e)
          (slice_get (calls_in (slice_get p.threads e.thread)) (e.call - 1)))
      by_thread None at =
          ap (option_map (event_with q (name_in (slice_get q.threads (f e.thread))) (other_event f e)))
          (ap (λ t. slice_get (calls_in t) (e.call - 1)) at)
          ∙ ap (λ c. option_map other_names (option_map (event_with p (name e.thread) e) c))
          (sym (ap (λ t. slice_get (calls_in t) (e.call - 1)) at))
      by_thread (Some t) at =
          by_call (slice_get_within p.threads e.thread t at)
          (slice_get (calls_in (slice_get p.threads e.thread)) (e.call - 1))

  all_named : (h : List RunEvent) → map (named q) (other_events f h) ≡ map (option_map other_names) (map (named p) h)
  all_named [] = refl
  all_named (e ∷ es) =
      ap (λ o. o ∷ map (named q) (other_events f es)) (named_other e)
      ∙ ap (λ os. option_map other_names (named p e) ∷ os) (all_named es)

  all_some : (es : List Event) → map (option_map other_names) (map Some es) ≡ map Some (others (name u) (name v) es)
  all_some [] = refl
  all_some (e ∷ es) = ap (λ os. Some (other_names e) ∷ os) (all_some es)

  -- ---- legal orders

  legal_there : (h : List RunEvent) → HasLegalOrder p h → HasLegalOrder q (other_events f h)
  legal_there h l = (
    others (name u) (name v) l.0,
    all_named h ∙ ap (map (option_map other_names)) l.1 ∙ all_some l.0,
    (_, legal_other (name u) (name v) l.0 l.2.0 l.2.1),
  )

-- if each history of a program has a legal order, so has each with two threads exchanged
pub legal : ExchangedIsLegal
legal file u v p q x names all schedule =
    let f = exchanged u v in
    let r = alike u v p q x in
    subst (HasLegalOrder q) (history_is file f p q r schedule)
    (legal_there u v p q x names (source_history file p (map f schedule)) (all (map f schedule)))
