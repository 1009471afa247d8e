-- Beginnings of histories are histories of beginnings.
use Rattle.std.proofs.Common.{◌≡◌, ℕ, List, [], ◌∷◌, ◌++◌, Option, Some, None, refl, ap, ◌∙◌, ◌⊎◌, inl, inr}
use Rattle.std.specs.List.{cons_option}
use Rattle.ls_events.specs.declared.value.Value.{Value}
use Rattle.ls_events.specs.declared.event.Event.{Event}
use Rattle.ls_checked.specs.CheckedTree.{File}
use Rattle.ls_checked.specs.CheckedProgram.{Program}
use Rattle.ls_meaning.specs.Steps.{Entry, Stepped, Same, Moved, Acted, after, trace, traced}
use Rattle.ls_meaning.specs.Runs.{State, event_of, history_of, source_history, source_step, start}
use Rattle.ls_events.specs.Beginnings.{IsBeginning}

abbrev event : Entry Value → Option Event
event e = event_of e.thread e.action

-- a beginning of a schedule with this history
record IsReached (does : State → ℕ → Stepped State (Entry Value)) (s : State) (schedule : List ℕ) (h : List Event) :
    Type 0 where
  first : List ℕ
  rest : List ℕ
  is : first ++ rest ≡ schedule
  history : history_of (trace does s first) ≡ h

module _ (does : State → ℕ → Stepped State (Entry Value)) where
  -- at once, where nothing has happened
  at_once : (s : State) (schedule : List ℕ) → IsReached does s schedule []
  at_once s schedule = record { first = []; rest = schedule; is = refl; history = refl }

  -- what the first step adds to a history
  with_event : (o : Option Event) (rest h : List Event) (e : Event) →
      IsBeginning (e ∷ h) (cons_option o rest) →
      ((o ≡ None) × IsBeginning (e ∷ h) rest) ⊎ ((o ≡ Some e) × IsBeginning h rest)
  with_event None rest h e b = inl (refl, b)
  with_event (Some x) rest h e b = inr (cc, (b.0, cc))

  -- after a first step that does this
  record IsReachedBy (s : State) (d : Stepped State (Entry Value)) (schedule : List ℕ) (h : List Event) : Type 0 where
    first : List ℕ
    rest : List ℕ
    is : first ++ rest ≡ schedule
    history : history_of (traced d (trace does (after s d) first)) ≡ h

  by_event : (s : State) (line : Entry Value) (ts : List ℕ) (e : Event) (h : List Event) →
      ((g : List Event) → IsBeginning g (history_of (trace does s ts)) → IsReached does s ts g) →
      ((event line ≡ None) × IsBeginning (e ∷ h) (history_of (trace does s ts)))
      ⊎ ((event line ≡ Some e) × IsBeginning h (history_of (trace does s ts)))
      → (first rest : List ℕ) × (first ++ rest ≡ ts)
      × (cons_option (event line) (history_of (trace does s first)) ≡ e ∷ h)
  by_event s line ts e h reach (inl (none, b)) = let r = reach (e ∷ h) b in (
    r.first,
    r.rest,
    r.is,
    ap (λ o. cons_option o (history_of (trace does s r.first))) none ∙ r.history,
  )
  by_event s line ts e h reach (inr (some, b)) = let r = reach h b in (
    r.first,
    r.rest,
    r.is,
    ap (λ o. cons_option o (history_of (trace does s r.first))) some ∙ ap (λ l. e ∷ l) r.history,
  )

  by_step : (s : State) (d : Stepped State (Entry Value)) (ts : List ℕ) (e : Event) (h : List Event) →
      ((s' : State) (g : List Event) → IsBeginning g (history_of (trace does s' ts)) → IsReached does s' ts g) →
      IsBeginning (e ∷ h) (history_of (traced d (trace does (after s d) ts))) →
      IsReachedBy s d ts (e ∷ h)
  by_step s Same ts e h reach b =
      let r = reach s (e ∷ h) b in record { first = r.first; rest = r.rest; is = r.is; history = r.history }
  by_step s (Moved s') ts e h reach b =
      let r = reach s' (e ∷ h) b in record { first = r.first; rest = r.rest; is = r.is; history = r.history }
  by_step s (Acted s' line) ts e h reach b =
      let r = by_event s' line ts e h (reach s') (with_event (event line) (history_of (trace does s' ts)) h e b) in
      record { first = r.0; rest = r.1; is = r.2; history = r.3 }

  reached : (s : State) (schedule : List ℕ) (h : List Event) →
      IsBeginning h (history_of (trace does s schedule)) →
      IsReached does s schedule h
  reached s [] [] b = at_once s []
  reached s [] (e ∷ h) b = absurd (not_there b.1)
    where
      not_there : (e ∷ h) ++ b.0 ≡ [] → ⊥
      not_there p = cc
  reached s (t ∷ ts) [] b = at_once s (t ∷ ts)
  reached s (t ∷ ts) (e ∷ h) b =
      let r = by_step s (does s t) ts e h (λ s' g. reached s' ts g) b in
      record { first = t ∷ r.first; rest = r.rest; is = ap (λ l. t ∷ l) r.is; history = r.history }

pub beginning : (file : File) (program : Program) (schedule : List ℕ) (h : List Event) →
    IsBeginning h (source_history file program schedule) →
    (first rest : List ℕ) × (first ++ rest ≡ schedule) × (source_history file program first ≡ h)
beginning file program schedule h b =
    let r = reached (source_step file program) (start program) schedule h b in (r.first, r.rest, r.is, r.history)
