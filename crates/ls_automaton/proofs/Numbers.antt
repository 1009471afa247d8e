-- States by number explain what a program explains.
use Rattle.std.proofs.Common.{◌≡◌, ◌⊎◌, inl, inr, ℕ, ◌≤◌, Bool, false, List, [], ◌∷◌, ◌++◌, Some, Contains}
use Rattle.std.proofs.Common.{replicate, slice_get, refl, sym, ap, ◌∙◌, subst}
use Rattle.std.specs.declared.vec.Vec.{Vec}
use Rattle.std.specs.declared.alloc.Global.{Global}
use Rattle.ls_events.specs.declared.event.Event.{Event}
use Rattle.ls_events.specs.declared.event.Happening.{Happening}
use Rattle.ls_events.specs.declared.event.Happening.TheVariants.{Called, Returned, Trapped}
use Rattle.ls_checked.specs.CheckedTree.{File}
use Rattle.ls_checked.specs.CheckedProgram.{Program}
use Rattle.ls_meaning.specs.Steps.{run, trace}
use Rattle.ls_meaning.specs.Runs.{State, history_of, source_history, source_run, source_step, start}
use Rattle.ls_serial.specs.Serial.{IsCall, IsEndOf}
use Rattle.ls_serial.proofs.Lists.{get_contains}
use Rattle.ls_search_laws.specs.Configuration.{Configuration, configuration_of}
use Rattle.ls_search_laws.proofs.Stepping.{run-append}
use Rattle.ls_serial_search.specs.Following.{called}
use Rattle.ls_serial_search.specs.Open.{HasEnded}
use Rattle.ls_linearizable.specs.Linearizable.{IsLinearizable}
use Rattle.ls_automaton.specs.declared.outcome.Outcome.{Outcome}
use Rattle.ls_automaton.specs.Alike.{IsLike}
use Rattle.ls_automaton.specs.Automaton.{IsExplainedFrom, Serially}
use Rattle.ls_automaton.specs.Laws.{RunsAreOnce}
use Rattle.ls_automaton.specs.Programs.{IsExplainedWithin, Leads, LeadsWithin}
use Rattle.ls_automaton.specs.Tables.{AreOutcomes, AreTold, Goes, HasOutcome, IsOutcome}
use Rattle.ls_automaton.proofs.Alike.{alike_explain, alike_runs, comes_to}
use Rattle.ls_automaton.proofs.Configurations.{goes_on_same, told, told_by, told_same, history_told}
use Rattle.ls_automaton.proofs.Programs.{played, programs_are, runs_once}
use Rattle.ls_automaton.proofs.Settled.{one_end}

happens : (x : Happening) (c : Event) → c.happening ≡ x → IsCall c → c ≡ called c.thread c.call
happens Called c is call = ap (λ h. record { thread = c.thread; call = c.call; happening = h }) is
happens (Returned v) c is call =
    absurd (no (subst (λ (h : Happening). IsCall (record { thread = 0; call = 0; happening = h })) is call))
  where
    no : IsCall (record { thread = 0; call = 0; happening = Returned v }) → ⊥
    no h = cc
happens (Trapped k) c is call =
    absurd (no (subst (λ (h : Happening). IsCall (record { thread = 0; call = 0; happening = h })) is call))
  where
    no : IsCall (record { thread = 0; call = 0; happening = Trapped k }) → ⊥
    no h = cc

-- the call of an end
pub call_of_end : (c e : Event) → IsCall c → IsEndOf c e → c ≡ called e.thread e.call
call_of_end c e call end = happens c.happening c refl call
    ∙ ap (λ t. called t c.call) (sym end.thread) ∙ ap (λ n. called e.thread n) (sym end.call)

some_is : {A : Type 0} {x y : A} → Some x ≡ Some y → x ≡ y
some_is h = cc

module _ (file : File) (program : Program) (bound : ℕ) (goes_on : Bool) (rows : List (Vec Outcome Global))
    (are : AreOutcomes file program bound goes_on rows) where
  abbrev config : List ℕ → Configuration
  config x = configuration_of file program (source_run file program x)

  -- the number is that of the state after a schedule with the same configuration
  pub record IsAlike (s : State) (n : ℕ) : Type 0 where
    pub path : List ℕ
    pub state : s ≡ source_run file program path
    pub spot : List ℕ
    pub there : slice_get are.spots n ≡ Some spot
    pub same : config path ≡ config spot

  abbrev IsLeft : ℕ → State → Type 0
  IsLeft n s = IsAlike s n

  begins : IsAlike (start program) 0
  begins = record { path = []; state = refl; spot = []; there = are.first; same = refl }

  -- ---- an outcome is a call of the program

  module _ (n : ℕ) (s : State) (c e : Event) (m : ℕ) (a : IsAlike s n) (call : IsCall c) (end : IsEndOf c e)
      (g : Goes rows n c e m) where
    o : IsOutcome file program are.spots a.spot (record { end = e; after = m })
    o = are.outcomes n a.spot g.row (record { end = e; after = m }) a.there g.at g.there

    abbrev ts : List ℕ
    ts = replicate o.steps e.thread

    comes : told file program a.path ts ≡ c ∷ e ∷ []
    comes = told_same file program a.path a.spot a.same ts
        ∙ told_by file program a.spot ts (called e.thread e.call ∷ e ∷ []) o.history
        ∙ ap (λ x. x ∷ e ∷ []) (sym (call_of_end c e call end))

    leads : (t : State) × Leads file program s c e t × IsAlike t m
    leads = (
      source_run file program (a.path ++ ts),
      record {
        steps = o.steps;
        history = ap (λ (z : State).
            history_of (trace (source_step file program) z (replicate o.steps c.thread))) a.state
            ∙ ap (λ t. told file program a.path (replicate o.steps t)) (sym end.thread) ∙ comes;
        state = run-append (source_step file program) (start program) a.path ts
            ∙ ap (λ t. run (source_step file program)
            (source_run file program a.path) (replicate o.steps t)) end.thread
            ∙ ap (λ z. run (source_step file program) z (replicate o.steps c.thread)) (sym a.state);
      },
      record {
        path = a.path ++ ts;
        state = refl;
        spot = o.next;
        there = o.there;
        same = goes_on_same file program a.path a.spot a.same ts ∙ o.same;
      },
    )

  -- ---- a call of the program has its outcome

  module _ (s : State) (n : ℕ) (c e : Event) (m : State) (a : IsAlike s n) (call : IsCall c) (end : IsEndOf c e)
      (l : Leads file program s c e m) (known : (l.steps ≤ bound) ⊎ (goes_on ≡ false)) where
    abbrev us : List ℕ
    us = replicate l.steps c.thread

    spot_history : source_history file program (a.spot ++ us) ≡ source_history file program a.spot ++ c ∷ e ∷ []
    spot_history = history_told file program a.spot us
        ∙ ap (λ l. source_history file program a.spot ++ l)
        (sym (told_same file program a.path a.spot a.same us)
        ∙ ap (λ (z : State). history_of (trace (source_step file program) z us)) (sym a.state)
        ∙ l.history)

    c_is : c ≡ called c.thread c.call
    c_is = happens c.happening c refl call

    has_ended : HasEnded file program a.spot c.thread l.steps
    has_ended = record {
      call = c.call;
      end = e;
      ends = subst (λ x. IsEndOf x e) c_is end;
      is = spot_history ∙ ap (λ x. source_history file program a.spot ++ x ∷ e ∷ []) c_is;
    }

    row : (row : Vec Outcome Global) × (slice_get rows n ≡ Some row) ×
        AreTold file program bound goes_on a.spot row.items
    row = are.told n a.spot a.there

    h : HasOutcome row.0.items c.thread
    h = row.2 c.thread l.steps has_ended known

    k : IsOutcome file program are.spots a.spot h.outcome
    k = are.outcomes n a.spot row.0 h.outcome a.there row.1 h.there

    goes : (n' : ℕ) × Goes rows n c e n' × IsAlike m n'
    goes =
        let d = one_end file program a.spot c.thread (source_history file program a.spot)
        (are.serial a.spot (get_contains are.spots n a.spot a.there)) c e
        (called h.outcome.end.thread h.outcome.end.call) h.outcome.end call end refl
        (record { ends = k.is_end; thread = refl; call = refl }) l.steps k.steps spot_history
        (ap (λ t. source_history file program (a.spot ++ replicate k.steps t)) (sym h.thread) ∙ k.history) in (
          h.outcome.after,
          record {
            row = row.0;
            at = row.1;
            there = subst (λ x. Contains row.0.items (record { end = x; after = h.outcome.after }))
                (sym d.end) h.there;
          },
          record {
            path = a.path ++ us;
            state = l.state
                ∙ ap (λ z. run (source_step file program) z us) a.state
                ∙ sym (run-append (source_step file program) (start program) a.path us);
            spot = k.next;
            there = k.there;
            same = goes_on_same file program a.path a.spot a.same us
                ∙ ap (configuration_of file program) d.state
                ∙ ap (λ t. config (a.spot ++ replicate k.steps t)) (sym h.thread)
                ∙ k.same;
          },
        )

  -- ---- so both explain the same

  goes_like : IsLike (Goes rows) 0 (Leads file program) (start program) IsLeft
  goes_like = record { begins = begins; goes_on = λ n s c e m a call end g. leads n s c e m a call end g }

  pub numbers_once : RunsAreOnce (Goes rows) 0
  numbers_once g last run =
      let r = alike_runs (Goes rows) 0 (Leads file program) (start program) IsLeft goes_like g last run in
      runs_once file program g r.0 r.1

  -- a serial run is the history of a schedule
  pub runs_are : (g : List Event) (last : ℕ) → Serially (Goes rows) 0 g last →
      (schedule : List ℕ) × (source_history file program schedule ≡ g)
  runs_are g last run =
      let r = alike_runs (Goes rows) 0 (Leads file program) (start program) IsLeft goes_like g last run in
      let p = played file program g (start program) r.0 r.1 in
      (p.path, p.history)

  pub is_linearizable : (h : List Event) → IsExplainedFrom (Goes rows) 0 h → IsLinearizable file program h
  is_linearizable h e = (programs_are file program h).1
      (alike_explain (Goes rows) 0 (Leads file program) (start program) IsLeft goes_like h e)

  -- a serial run leads to a state that has a number
  pub reached : goes_on ≡ false → (g : List Event) (s : State) → Serially (Leads file program) (start program) g s →
      (n : ℕ) × IsAlike s n
  reached known g s run =
      let r = comes_to (Leads file program) (start program) (Goes rows) 0 IsAlike (record {
        begins = begins;
        goes_on = λ s n c e m a call end l. goes s n c e m a call end l (inr known);
      }) g (start program) s 0 begins run in
      (r.last, r.alike)

  pub is_explained : goes_on ≡ false → (h : List Event) → IsLinearizable file program h →
      IsExplainedFrom (Goes rows) 0 h
  is_explained known h is = alike_explain (Leads file program) (start program) (Goes rows) 0 IsAlike (record {
    begins = begins;
    goes_on = λ s n c e m a call end l. goes s n c e m a call end l (inr known);
  }) h ((programs_are file program h).0 is)

  pub explained_within : (h : List Event) → IsExplainedWithin file program bound h → IsExplainedFrom (Goes rows) 0 h
  explained_within h is =
      alike_explain (LeadsWithin file program bound) (start program) (Goes rows) 0 IsAlike (record {
        begins = begins;
        goes_on = λ s n c e m a call end l. goes s n c e m a call end l.leads (inl l.within);
      }) h is
