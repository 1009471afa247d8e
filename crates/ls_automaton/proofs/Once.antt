-- No event stands twice in the history of a schedule.
use Rattle.std.proofs.Common.{◌≡◌, ◌≢◌, ◌⊎◌, inl, inr, ℕ, ◌<◌, List, [], ◌∷◌, ◌++◌, Option, Some, None}
use Rattle.std.proofs.Common.{Contains, length, refl, sym, ap, ◌∙◌, subst, arith, append-nil}
use Rattle.std.specs.Prelude.{slice_get, slice_index_or}
use Rattle.std.proofs.lemmas.List.{get_or-set_same, length-map, length-set}
use Rattle.std.proofs.lemmas.List.Elements.{Contains-push_cases}
use Rattle.ls_events.specs.declared.event.Event.{Event}
use Rattle.ls_checked.specs.CheckedTree.{File}
use Rattle.ls_checked.specs.CheckedProgram.{Program}
use Rattle.ls_meaning.specs.Still.{IsActing}
use Rattle.ls_meaning.specs.Course.{Answers}
use Rattle.ls_meaning.specs.Threads.{calls_in, next}
use Rattle.ls_meaning.specs.Runs.{State, answers_of, event_of, source_history, start, step}
use Rattle.ls_linearizable.specs.Once.{AreOnce}
use Rattle.ls_serial_search.specs.Following.{events_in, events_of}
use Rattle.ls_serial_search.proofs.Answering.{cases_nat, others_answers}
use Rattle.ls_serial_search.proofs.Stepping.{acts_within, holds_of_all}
use Rattle.ls_automaton.specs.Once.{HistoriesAreOnce}
use Rattle.ls_automaton.proofs.Acting.{HasActed, has_acted}
use Rattle.ls_automaton.proofs.Pushed.{once_pushed}
use Rattle.ls_automaton.proofs.Stages.{IsDue, due_rank, event_thread, rank, stage, stage_grows, stage_passes}

module _ (file : File) (program : Program) where
  abbrev stage_of : ℕ → Answers → ℕ
  stage_of t q = stage file program 1 (calls_in (slice_get program.threads t)) q

  abbrev IsBelow : State → Event → ℕ → Type 0
  IsBelow s e t = rank e < stage_of t (answers_of s t)

  -- each thread stands past the events that it has had
  record IsRanked (s : State) (h : List Event) : Type 0 where
    count : length s.answers ≡ length program.threads
    below : (e : Event) → Contains h e → IsBelow s e e.thread
    once : AreOnce h

  module _ (s : State) (h : List Event) (t : ℕ) (r : IsRanked s h) (acts : IsActing (step file program s t).did) where
    a : HasActed s t (next file program t (answers_of s t)) (step file program s t)
    a = has_acted file program s t acts

    abbrev s' : State
    s' = (step file program s t).after

    -- the thread has one answer more
    more : answers_of s' t ≡ answers_of s t ++ a.answer ∷ []
    more =
        ap (λ l. slice_index_or l t []) a.answers
        ∙ get_or-set_same s.answers t (answers_of s t ++ a.answer ∷ []) []
        (let within = acts_within file program s t acts in omega (arith, within, r.count))

    count_stays : length s'.answers ≡ length program.threads
    count_stays = ap length a.answers ∙ length-set s.answers t (answers_of s t ++ a.answer ∷ []) ∙ r.count

    -- what was below stays so
    stays_below : (e : Event) (u : ℕ) → (u ≡ t) ⊎ (u ≢ t) → IsBelow s e u → IsBelow s' e u
    stays_below e u (inr ne) below =
        subst (λ q. rank e < stage_of u q) (sym (others_answers file program s t u ne)) below
    stays_below e u (inl same) below = subst (IsBelow s' e) (sym same)
        (subst (λ q. rank e < stage_of t q) (sym more)
        (let grown = stage_grows file program a.answer 1 (calls_in (slice_get program.threads t)) (answers_of s t) in
        let under : IsBelow s e t = subst (IsBelow s e) same below in
        omega (arith, grown, under)))

    old_below : (e : Event) → Contains h e → IsBelow s' e e.thread
    old_below e there = stays_below e e.thread (cases_nat e.thread t) (r.below e there)

    quiet : events_of t (step file program s t).did ≡ [] →
        IsRanked s' (h ++ events_of t (step file program s t).did)
    quiet none = subst (IsRanked s') (sym (append-nil h) ∙ ap (λ l. h ++ l) (sym none))
        (record { count = count_stays; below = old_below; once = r.once })

    module _ (e : Event) (is : event_of t a.action ≡ Some e) where
      of_thread : e.thread ≡ t
      of_thread = event_thread t a.action e is

      due : IsDue file program t (next file program t (answers_of s t)) e
      due = subst (λ n. IsDue file program t n e) (sym a.asks) is

      here : rank e ≡ stage_of t (answers_of s t)
      here = due_rank file program t e 1 (calls_in (slice_get program.threads t)) (answers_of s t) due

      new : Contains h e → ⊥
      new there = let under : IsBelow s e t = subst (IsBelow s e) of_thread (r.below e there) in
          omega (arith, under, here)

      new_below : IsBelow s' e e.thread
      new_below = subst (IsBelow s' e) (sym of_thread)
          (subst (λ q. rank e < stage_of t q) (sym more)
          (let past = stage_passes file program a.answer t e 1 (calls_in (slice_get program.threads t))
          (answers_of s t) due in
          omega (arith, past, here)))

      all_below : (x : Event) → Contains (h ++ e ∷ []) x → IsBelow s' x x.thread
      all_below x there = by_place (Contains-push_cases h e x there)
        where
          by_place : Contains h x ⊎ (e ≡ x) → IsBelow s' x x.thread
          by_place (inl old) = old_below x old
          by_place (inr same) = subst (λ (z : Event). IsBelow s' z z.thread) same new_below

      pushed : IsRanked s' (h ++ e ∷ [])
      pushed = record { count = count_stays; below = all_below; once = once_pushed h e r.once new }

    by_event : (o : Option Event) → event_of t a.action ≡ o →
        IsRanked s' (h ++ events_of t (step file program s t).did)
    by_event None none = quiet (a.events ∙ ap events_in none)
    by_event (Some e) is = subst (λ l. IsRanked s' (h ++ l)) (sym (a.events ∙ ap events_in is)) (pushed e is)

    kept : IsRanked s' (h ++ events_of t (step file program s t).did)
    kept = by_event (event_of t a.action) refl

  begins : IsRanked (start program) []
  begins = record {
    count = length-map program.threads (λ t. []);
    below = λ e there. absurd (omega (arith, there.1));
    once = λ e i j at there. absurd (nothing at);
  }
    where
      nothing : {e : Event} → None ≡ Some e → ⊥
      nothing h = cc

  pub ranked : (schedule : List ℕ) → AreOnce (source_history file program schedule)
  ranked schedule = (holds_of_all file program IsRanked (λ s h t r acts. kept s h t r acts) begins schedule).once

pub once : HistoriesAreOnce
once file program schedule = ranked file program schedule
