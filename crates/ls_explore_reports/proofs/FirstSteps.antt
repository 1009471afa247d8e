-- Beginnings of a schedule whose histories have so many events.
use Rattle.std.proofs.Common.{◌≡◌, ◌∙◌, ◌⊎◌, inl, inr, ◌+◌, ◌<◌, ◌≤◌, ℕ, zero, suc, List, [], ◌∷◌, ◌++◌, Option, Some}
use Rattle.std.proofs.Common.{None}
use Rattle.std.proofs.Common.{length, take, refl, sym, ap, subst, arith, get_or, length-append, le_of_eq, take_all}
use Rattle.std.proofs.Math.Seq.{take-append_seam}
use Rattle.std.proofs.lemmas.Bool.{cases_lt}
use Rattle.std.proofs.lemmas.List.{take_more}
use Rattle.ls_events.specs.declared.event.Event.{Event}
use Rattle.ls_checked.specs.CheckedTree.{File}
use Rattle.ls_checked.specs.CheckedProgram.{Program}
use Rattle.ls_meaning.specs.declared.step.Did.{Did}
use Rattle.ls_meaning.specs.declared.step.Did.TheVariants as did
use Rattle.ls_meaning.specs.Runs.{event_of, source_history, source_run, step}
use Rattle.ls_search_laws.specs.Stepping.{events_in, events_of}
use Rattle.ls_search_laws.proofs.Stepping.{one_more}
use Rattle.ls_verdicts.specs.Cuts.{history_to}
use Rattle.ls_verdicts.proofs.Begins.{begins_whole}

-- ---- a step adds one event at the most

few_in : (o : Option Event) → length (events_in o) ≤ 1
few_in None = omega arith
few_in (Some e) = omega arith

few_of : (t : ℕ) (d : Did) → length (events_of t d) ≤ 1
few_of t (did.Acted action answer) = few_in (event_of t action)
few_of t did.Waits = omega arith
few_of t did.Idle = omega arith

module _ (file : File) (program : Program) where
  one_event : (schedule : List ℕ) (t : ℕ) →
      length (source_history file program (schedule ++ t ∷ [])) ≤ length (source_history file program schedule) + 1
  one_event schedule t =
      let d : Did = (step file program (source_run file program schedule) t).did in
      let many : length (source_history file program (schedule ++ t ∷ [])) ≡
      length (source_history file program schedule) + length (events_of t d) =
      ap length (one_more file program schedule t).history
      ∙ length-append (source_history file program schedule) (events_of t d) in
      let few : length (events_of t d) ≤ 1 = few_of t d in
      omega (arith, many, few)

  module _ (steps : List ℕ) where
    -- one step more has one event more at the most
    pub one_step : (n : ℕ) → n < length steps →
        length (history_to file program steps (n + 1)) ≤ length (history_to file program steps n) + 1
    one_step n lt = subst (λ (ts : List ℕ). length (source_history file program ts) ≤
        length (history_to file program steps n) + 1) (sym (take_more steps n 0 lt))
        (one_event (take n steps) (get_or steps n 0))

    -- after no step there is no event
    pub none_yet : length (history_to file program steps 0) ≡ 0
    none_yet = refl

    -- the number of steps after which so many events have happened
    so_many : (count n : ℕ) → n ≤ length steps → count ≤ length (history_to file program steps n) →
        (m : ℕ) × (m ≤ length steps) × (length (history_to file program steps m) ≡ count)
    so_many count zero le few = let none = none_yet in (0, omega arith, omega (arith, none, few))
    so_many count (suc n) le few =
        by_place (cases_lt (length (history_to file program steps n)) count) (so_many count n (omega (arith, le)))
      where
        by_place : (length (history_to file program steps n) < count) ⊎
            (count ≤ length (history_to file program steps n)) →
            (count ≤ length (history_to file program steps n) →
            (m : ℕ) × (m ≤ length steps) × (length (history_to file program steps m) ≡ count)) →
            (m : ℕ) × (m ≤ length steps) × (length (history_to file program steps m) ≡ count)
        by_place (inl more) before =
            let next : length (history_to file program steps (n + 1)) ≤ length (history_to file program steps n) + 1 =
            one_step n (omega (arith, le)) in
            let same : n + 1 ≡ suc n = omega arith in
            let here : length (history_to file program steps (suc n)) ≤ length (history_to file program steps n) + 1 =
            subst (λ i. length (history_to file program steps i) ≤ length (history_to file program steps n) + 1)
            same next
            in (suc n, le, omega (arith, more, here, few))
        by_place (inr less) before = before less

    all_there : length (history_to file program steps (length steps)) ≡ length (source_history file program steps)
    all_there = ap (λ (ts : List ℕ). length (source_history file program ts))
        (take_all (length steps) steps (le_of_eq refl))

    -- a beginning of the history with so many events is that of a beginning of the schedule
    pub is_begun : (n : ℕ) → n ≤ length steps →
        history_to file program steps n ≡
        take (length (history_to file program steps n)) (source_history file program steps)
    is_begun n le =
        let b = begins_whole file program steps n le in
        sym (take-append_seam (history_to file program steps n) b.0)
        ∙ ap (take (length (history_to file program steps n))) b.1

    -- each beginning of the history is one
    pub begun_by : (count : ℕ) → count ≤ length (source_history file program steps) →
        (m : ℕ) × (m ≤ length steps) ×
        (history_to file program steps m ≡ take count (source_history file program steps))
    begun_by count few =
        let s = so_many count (length steps) (omega arith) (omega (arith, few, all_there)) in
        (s.0, s.1, is_begun s.0 s.1 ∙ ap (λ n. take n (source_history file program steps)) s.2)
