-- From one step of the source to every schedule of it that fits.
use Rattle.std.proofs.Common.{◌≡◌, ℕ, List, [], ◌∷◌, ◌++◌, map, refl, ap, ◌∙◌}
use Rattle.ls_events.specs.declared.value.Value.{Value}
use Rattle.ls_checked.specs.CheckedTree.{File}
use Rattle.ls_checked.specs.CheckedProgram.{Program}
use Rattle.ls_meaning.specs.Steps.{Stepped, Same, Moved, Acted, after, traced, run, trace}
use Rattle.ls_meaning.specs.Steps as source
use Rattle.ls_meaning.specs.Runs.{State, source_step}
use Rattle.ls_code.specs.Machine.{Machine, Entry, machine_run, machine_trace}
use Rattle.ls_preservation.specs.Translations.{has_setup_ended, setup_end, steps_for, steps_from, steps_all}
use Rattle.ls_preservation.proofs.Runs.{trace-append}

module _ (file : File) (program : Program) (bound : ℕ) (write : State → source.Entry Value → Entry)
    (RJ : State → Machine → Type 0) (Grows : State → State → Type 0) (Live : State → source.Entry Value → Type 0)
    (Fits : State → Type 0) where
  abbrev sd : State → ℕ → Stepped State (source.Entry Value)
  sd = source_step file program

  -- what the machine does for one step of the source
  abbrev pub Forth : State → Machine → ℕ → Stepped State (source.Entry Value) → Type 0
  Forth s m t Same = Unit {0}
  Forth s m t (Moved s') = ⊥
  Forth s m t (Acted s' e) =
      Fits s' → Live s' e × Grows s s' × (machine_trace m (steps_for file program bound m t (Acted s' e)) ≡ write s' e ∷
      []) × RJ s' (machine_run m (steps_for file program bound m t (Acted s' e)))

  -- each entry is kept as it is
  abbrev pub Alive : State → List (source.Entry Value) → Type 0
  Alive s [] = Unit {0}
  Alive s (e ∷ es) = Live s e × Alive s es

  -- what one step owes, so that every schedule that fits has a schedule of the machine
  pub record Laws : Type 0 where
    pub grows_refl : (s : State) → Grows s s
    pub grows_trans : (s s' s'' : State) → Grows s s' → Grows s' s'' → Grows s s''
    pub stable : (s s' : State) (e : source.Entry Value) → Live s e → Grows s s' → write s e ≡ write s' e
    pub lives : (s s' : State) (e : source.Entry Value) → Live s e → Grows s s' → Live s' e
    pub shrinks : (s : State) (t : ℕ) → Fits (after s (sd s t)) → Fits s
    pub step : (s : State) (m : Machine) (t : ℕ) → RJ s m → Forth s m t (sd s t)

  module _ (laws : Laws) where
    fits_before : (ts : List ℕ) (s : State) → Fits (run sd s ts) → Fits s
    fits_before [] s f = f
    fits_before (t ∷ ts) s f = laws.shrinks s t (fits_before ts (after s (sd s t)) f)

    abbrev Right : State → State → List (source.Entry Value) → Machine → List ℕ → Type 0
    Right s s' es m us = (machine_trace m us ≡ map (write s') es) × Grows s s' × Alive s' es

    -- one step d, then the rest
    one_more : (s : State) (m : Machine) (t : ℕ) (ts : List ℕ) (d : Stepped State (source.Entry Value)) →
        RJ s m →
        Forth s m t d →
        Fits (after s d) →
        ((m1 : Machine) → RJ (after s d) m1 → Right (after s d) (run sd (after s d) ts) (trace sd (after s d) ts) m1
        (steps_from file program bound (after s d) m1 ts)) →
        Right s (run sd (after s d) ts) (traced d (trace sd (after s d) ts)) m
        (steps_for file program bound m t d ++ steps_from file program bound (after s d)
        (machine_run m (steps_for file program bound m t d)) ts)
    one_more s m t ts Same h f fits rest = rest m h
    one_more s m t ts (Moved s') h f fits rest = absurd f
    one_more s m t ts (Acted s' e) h f fits rest =
        let b = steps_for file program bound m t (Acted s' e) in
        let g = f fits in
        let r = rest (machine_run m b) g.3 in (
          trace-append m b _
              ∙ ap (λ xs. xs ++ machine_trace (machine_run m b) (steps_from file program bound s' (machine_run m b) ts))
              (g.2 ∙ ap (λ x. x ∷ []) (laws.stable s' _ e g.0 r.1))
              ∙ ap (λ xs. write (run sd s' ts) e ∷ xs) r.0,
          laws.grows_trans s s' _ g.1 r.1,
          (laws.lives s' _ e g.0 r.1, r.2),
        )

    -- for each schedule of the source that fits, the machine's schedule
    pub from_right : (ts : List ℕ) (s : State) (m : Machine) →
        RJ s m →
        Fits (run sd s ts) →
        Right s (run sd s ts) (trace sd s ts) m (steps_from file program bound s m ts)
    from_right [] s m h fits = (refl, laws.grows_refl s, tt)
    from_right (t ∷ ts) s m h fits = one_more s m t ts (sd s t) h (laws.step s m t h)
        (fits_before ts (after s (sd s t)) fits) (λ m1 h1. from_right ts (after s (sd s t)) m1 h1 fits)

    -- the lift: for each schedule of the source that fits, the machine's schedule has the same trace
    pub to_machine_right : (ts : List ℕ) (s : State) (m : Machine) →
        machine_trace m (setup_end bound m (has_setup_ended file program s)) ≡ [] →
        RJ s (machine_run m (setup_end bound m (has_setup_ended file program s))) →
        Fits (run sd s ts) →
        (machine_trace m (steps_all file program bound s m ts) ≡ map (write (run sd s ts)) (trace sd s ts)) ×
        Alive (run sd s ts) (trace sd s ts)
    to_machine_right ts s m quiet h fits =
        let us = setup_end bound m (has_setup_ended file program s) in
        let r = from_right ts s (machine_run m us) h fits in (
          trace-append m us _ ∙ ap (λ xs. xs ++ machine_trace (machine_run m us)
              (steps_from file program bound s (machine_run m us) ts)) quiet ∙ r.0,
          r.2,
        )
