-- One step of the source, and what the machine does for it.
use Rattle.std.proofs.Common.{◌≡◌, ℕ, zero, suc, ◌+◌, ◌<◌, ◌≤◌, Bool, true, false, ◌||◌, List, [], ◌∷◌, ◌++◌, length}
use Rattle.std.proofs.Common.{Option, Some, None, refl, sym, ap, ◌∙◌, subst, arith, slice_get, nat_eq, if◌then◌else◌}
use Rattle.ls_events.specs.declared.value.Value.{Value}
use Rattle.ls_events.specs.declared.action.Action.{Action}
use Rattle.ls_events.specs.declared.action.Answer.{Answer}
use Rattle.ls_checked.specs.CheckedProgram.{ThreadProgram}
use Rattle.ls_meaning.specs.declared.sort.Sort.{Sort}
use Rattle.ls_meaning.specs.Course.{Answers}
use Rattle.ls_meaning.specs.Store.{Store}
use Rattle.ls_meaning.specs.Effect.{Effect, Waits, Does, effect}
use Rattle.ls_meaning.specs.Threads.{Next, Goes, Ended, Trapped, calls_in, all_calls, next}
use Rattle.ls_meaning.specs.Steps.{Stepped, Acted}
use Rattle.ls_meaning.specs.Steps as source
use Rattle.ls_meaning.specs.Runs.{State, answers_of, has_ended, has_started, performed, idle, step_of, stepped}
use Rattle.ls_meaning.specs.Runs.{source_step}
use Rattle.ls_code.specs.Thread.{Thread}
use Rattle.ls_code.specs.Steps.{Move, Silent, Still, Asks as MoveAsks, Plans, thread_move}
use Rattle.ls_code.specs.Steps as machine_steps
use Rattle.ls_code.specs.Fed.{Pause, IsOver, TooLong}
use Rattle.ls_code.specs.Reading.{whole_move, begins_early, carry, quiet}
use Rattle.ls_code.specs.Machine.{Machine, Entry, setup_ended, machine_step, machine_run, machine_trace}
use Rattle.ls_code.specs.Machine as machine
use Rattle.ls_code.specs.declared.step.Mode.{Mode}
use Rattle.ls_code.specs.declared.step.Mode.TheVariants as mode
use Rattle.ls_code.specs.declared.step.Did.TheVariants as did
use Rattle.ls_preservation.proofs.Setting.{Setting}
use Rattle.ls_preservation.specs.Translations.{until_acts, unless, until_over, setup_end, has_setup_ended}
use Rattle.ls_preservation.specs.Same.{total}
use Rattle.ls_preservation.proofs.Lists.{set_same, get_there, index_there, get_within}
use Rattle.ls_preservation.proofs.Runs.{run-append, trace-append}
use Rattle.ls_preservation.proofs.LiftForth
use Rattle.ls_preservation.proofs.Feeding.{IsLoud, silent_is, trapped, at_end, more}
use Rattle.ls_preservation.proofs.Effects.{renaming}
use Rattle.ls_preservation.proofs.Following.{line, told_to, moved}
use Rattle.ls_preservation.proofs.Following
use Rattle.ls_preservation.proofs.Between
use Rattle.ls_preservation.proofs.Bursts

module _ (setting : Setting) where
  open setting use {file, program, code, room}
  open Following.notions setting use {names, bound, stands, InWords, Live, Later, write}
  open Between.notions setting use {Each, Follows}

  -- there is room for what the state has
  abbrev pub Fits : State → Type 0
  Fits s = names + total s.store.things ≤ room

  -- if there is a setup, it has ended in the machine
  abbrev Over : Machine → Type 0
  Over m = (x : Thread) → slice_get m.threads 0 ≡ Some x → machine.has_ended x.mode ≡ true

  abbrev Quiet : State → List Entry → Machine → Type 0
  Quiet s fs m' = (fs ≡ []) × Follows s m' × (m'.stopped ≡ false) × Over m'

  over_now : (m : Machine) (x : Thread) → slice_get m.threads 0 ≡ Some x → x.mode ≡ mode.Ended → Over m
  over_now m x there e = λ z h. let same : x ≡ z = cc in ap (λ w. machine.has_ended w.mode) (sym same) ∙
      ap machine.has_ended e

  quiet_at : (s : State) (m : Machine) (h : Follows s m) →
      m.stopped ≡ false →
      (x : Thread) →
      slice_get m.threads 0 ≡ Some x →
      x.mode ≡ mode.Ended →
      (ts : List ℕ) →
      ts ≡ [] →
      Quiet s (machine_trace m ts) (machine_run m ts)
  quiet_at s m h unstopped x there e ts none = subst (λ l. Quiet s (machine_trace m l) (machine_run m l)) (sym none)
      (refl, h, unstopped, over_now m x there e)

  abbrev Quiets : State → ℕ → Type 0
  Quiets s n = (m : Machine) → Follows s m → m.stopped ≡ false → (x : Thread) → slice_get m.threads 0 ≡ Some x →
      quiet code 0 n x ≡ IsOver mode.Ended → Quiet s (machine_trace m (until_over n m)) (machine_run m (until_over n m))

  asks_not_over : (b e : Bool) (a : Action ℕ) (go : Answer ℕ → Option Thread) (f : Thread → Pause) →
      carry b e (MoveAsks a go) f ≡ IsOver mode.Ended →
      ⊥
  asks_not_over true true a go f e = cc
  asks_not_over false true a go f e = cc
  asks_not_over b false a go f e = cc

  zero_move : (x : Thread) (b : Bool) (d : Move) → carry false b d (λ z. TooLong) ≡ IsOver mode.Ended → ⊥
  zero_move x b (Silent x') e = cc
  zero_move x b Still e = cc
  zero_move x b (MoveAsks a go) e = asks_not_over false b a go (λ z. TooLong) e
  zero_move x b (Plans go) e = cc

  quiet_zero : (s : State) (m : Machine) →
      Follows s m →
      m.stopped ≡ false →
      (x : Thread) →
      slice_get m.threads 0 ≡ Some x →
      quiet code 0 zero x ≡ IsOver mode.Ended →
      (z : Mode) →
      x.mode ≡ z →
      Quiet s (machine_trace m []) (machine_run m [])
  quiet_zero s m h unstopped x there e mode.Running em = absurd
      (zero_move x (begins_early (thread_move code x)) (whole_move code 0 x) (sym (at_end code 0 x em) ∙ e))
  quiet_zero s m h unstopped x there e mode.Ended em = quiet_at s m h unstopped x there em [] refl
  quiet_zero s m h unstopped x there e mode.Trapped em = absurd (other_mode (sym (trapped code 0 zero x em) ∙ e))
    where
      other_mode : IsOver mode.Trapped ≡ IsOver mode.Ended → ⊥
      other_mode e = cc

  quiet_step : (n : ℕ) (s : State) →
      Quiets s n →
      (m : Machine) →
      Follows s m →
      m.stopped ≡ false →
      (x : Thread) →
      slice_get m.threads 0 ≡ Some x →
      x.mode ≡ mode.Running →
      (d : Move) →
      whole_move code 0 x ≡ d →
      carry true (begins_early (thread_move code x)) d (quiet code 0 n) ≡ IsOver mode.Ended →
      Quiet s (machine_trace m (until_over (suc n) m)) (machine_run m (until_over (suc n) m))
  quiet_step n s ih m h unstopped x there runs Still em e = absurd (cc)
  quiet_step n s ih m h unstopped x there runs (MoveAsks b go) em e = absurd
      (asks_not_over true (begins_early (thread_move code x)) b go (quiet code 0 n) e)
  quiet_step n s ih m h unstopped x there runs (Plans go) em e = absurd (cc)
  quiet_step n s ih m h unstopped x there runs (Silent x') em e =
      let r : machine.Stepped = moved m 0 (machine_steps.step_result x' m.cells did.Silent) in
      let eq : machine_step m 0 ≡ r =
      Between.machine_goes setting m 0 x (thread_move code x) h.same_code unstopped runs refl
      there refl ∙ ap (moved m 0) (silent_is code 0 x x' m.cells em) in
      let on : setup_ended (slice_get m.threads 0) ≡ false = ap setup_ended there ∙ ap machine.has_ended runs in
      let h1 : Follows s r.machine = by_had (slice_get s.answers 0) refl
      (subst (λ p. Each h.sorts (renaming names s.store) 0 (slice_get s.answers 0) p) there (h.each 0)) in
      let rest = ih r.machine h1 refl x' (set_same m.threads 0 x x' there) e in
      subst (λ b. Quiet s (machine_trace m (unless b (0 ∷ until_over n (machine_step m 0).machine)))
      (machine_run m (unless b (0 ∷ until_over n (machine_step m 0).machine)))) (sym on)
      (subst (λ z. Quiet s (machine.traced 0 z.did (machine_trace z.machine (until_over n z.machine)))
      (machine_run z.machine (until_over n z.machine))) (sym eq) rest)
    where
      by_had : (o : Option Answers) →
          slice_get s.answers 0 ≡ o →
          Each h.sorts (renaming names s.store) 0 o (Some x) →
          Follows s (moved m 0 (machine_steps.step_result x' m.cells did.Silent)).machine
      by_had None at each = absurd each
      by_had (Some had) at each = Between.went_on setting s m h 0 had x x' false _ at there
          (Between.keeps setting h.sorts s.store m.cells h.holds 0 had x x' each runs em)

  quiet_more : (n : ℕ) (s : State) →
      Quiets s n →
      (m : Machine) →
      Follows s m →
      m.stopped ≡ false →
      (x : Thread) →
      slice_get m.threads 0 ≡ Some x →
      quiet code 0 (suc n) x ≡ IsOver mode.Ended →
      (z : Mode) →
      x.mode ≡ z →
      Quiet s (machine_trace m (until_over (suc n) m)) (machine_run m (until_over (suc n) m))
  quiet_more n s ih m h unstopped x there e mode.Running em = quiet_step n s ih m h unstopped x there em
      (whole_move code 0 x) refl (sym (more code 0 n x em) ∙ e)
  quiet_more n s ih m h unstopped x there e mode.Ended em =
      quiet_at s m h unstopped x there em _ (ap (λ b. unless b (0 ∷ until_over n (machine_step m 0).machine))
      (ap setup_ended there ∙ ap machine.has_ended em))
  quiet_more n s ih m h unstopped x there e mode.Trapped em = absurd
      (other_mode (sym (trapped code 0 (suc n) x em) ∙ e))
    where
      other_mode : IsOver mode.Trapped ≡ IsOver mode.Ended → ⊥
      other_mode e = cc

  quiet_run : (n : ℕ) (s : State) → Quiets s n
  quiet_run zero s m h unstopped x there e = quiet_zero s m h unstopped x there e x.mode refl
  quiet_run (suc n) s m h unstopped x there e = quiet_more n s (quiet_run n s) m h unstopped x there e x.mode refl

  -- if there is no setup
  idle_run : (n : ℕ) (s : State) (m : Machine) →
      Follows s m →
      m.stopped ≡ false →
      slice_get m.threads 0 ≡ None →
      Quiet s (machine_trace m (until_over n m)) (machine_run m (until_over n m))
  idle_run zero s m h unstopped none = (refl, h, unstopped, λ x e. absurd (cc))
  idle_run (suc n) s m h unstopped none =
      let eq : machine_step m 0 ≡ machine.stepped_by m did.Idle = ap (machine.step_of m 0) none in
      let on : setup_ended (slice_get m.threads 0) ≡ false = ap setup_ended none in
      subst (λ b. Quiet s (machine_trace m (unless b (0 ∷ until_over n (machine_step m 0).machine)))
      (machine_run m (unless b (0 ∷ until_over n (machine_step m 0).machine)))) (sym on)
      (subst (λ z. Quiet s (machine.traced 0 z.did (machine_trace z.machine (until_over n z.machine)))
      (machine_run z.machine (until_over n z.machine))) (sym eq) (idle_run n s m h unstopped none))

  over_words : (ρ : ℕ → ℕ) (d : Next) (p : Pause) → InWords ρ d p → has_ended d ≡ true → p ≡ IsOver mode.Ended
  over_words ρ (Goes a s) p h e = cc
  over_words ρ Trapped p h e = cc
  over_words ρ Ended (IsOver mode.Ended) h e = refl
  over_words ρ Ended _ h e = absurd h

  setup_at : (s : State) (m : Machine) (h : Follows s m) →
      m.stopped ≡ false →
      (o : Option Answers) (p : Option Thread) →
      slice_get s.answers 0 ≡ o →
      slice_get m.threads 0 ≡ p →
      Each h.sorts (renaming names s.store) 0 o p →
      has_setup_ended file program s ≡ true →
      Quiet s (machine_trace m (until_over bound m)) (machine_run m (until_over bound m))
  setup_at s m h unstopped None None at there each over = idle_run bound s m h unstopped there
  setup_at s m h unstopped None (Some x) at there each over = absurd each
  setup_at s m h unstopped (Some had) None at there each over = absurd each
  setup_at s m h unstopped (Some had) (Some x) at there each over =
      let over' : has_ended (next file program 0 had) ≡ true = ap (λ l. has_ended (next file program 0 l))
      (sym (index_there s.answers 0 had [] at)) ∙ over in
      let stood : stands 0 x ≡ IsOver mode.Ended = over_words (renaming names s.store) (next file program 0 had)
      (stands 0 x) (Between.stands_so setting h.sorts s.store m.cells h.holds 0 had x each) over' in
      quiet_run bound s m h unstopped x there stood

  -- in step, with the setup's end made in the machine once its source has ended
  pub record InStep (s : State) (m : Machine) : Type 0 where
    pub follows : Follows s m
    pub goes : m.stopped ≡ false
    pub over : has_setup_ended file program s ≡ true → Over m

  -- if the setup's source has ended, the setup of the machine comes to its end in silence
  pub setup_made : (s : State) (m : Machine) (h : Follows s m) →
      m.stopped ≡ false →
      (b : Bool) →
      has_setup_ended file program s ≡ b →
      (machine_trace m (setup_end bound m b) ≡ []) × InStep s (machine_run m (setup_end bound m b))
  setup_made s m h unstopped false e = (refl, record { follows = h; goes = unstopped; over = λ o. absurd (cc) })
  setup_made s m h unstopped true e =
      let r = setup_at s m h unstopped (slice_get s.answers 0) (slice_get m.threads 0) refl refl (h.each 0) e in
      (r.0, record { follows = r.1; goes = r.2; over = λ o. r.3 })

  -- the machine performs what the source performs
  abbrev pub ForthStep : State → Machine → ℕ → Stepped State (source.Entry Value) → Type 0
  ForthStep s m t d = LiftForth.Forth file program bound write InStep Later Live Fits s m t d

  first_there : (xs : List Thread) (t : ℕ) (x : Thread) →
      slice_get xs t ≡ Some x →
      (z : Thread) × (slice_get xs 0 ≡ Some z)
  first_there [] t x h = absurd (cc)
  first_there (z ∷ xs) t x h = (z, refl)

  ready_forth : (s : State) (m : Machine) →
      InStep s m →
      (t : ℕ) (x : Thread) →
      slice_get m.threads t ≡ Some x →
      (b : Bool) →
      (if b then true else has_setup_ended file program s) ≡ true →
      (b || setup_ended (slice_get m.threads 0)) ≡ true
  ready_forth s m h t x there true e = refl
  ready_forth s m h t x there false e =
      let z = first_there m.threads t x there in
      ap setup_ended z.1 ∙ h.over e z.0 z.1

  forth_does : (s : State) (m : Machine) (h : InStep s m) (t : ℕ) (had : Answers) →
      slice_get s.answers t ≡ Some had →
      has_started file program s t ≡ true →
      (a : Action Value) (q : Sort) →
      next file program t had ≡ Goes a q →
      (st' : Store) (y : Answer Value) →
      effect file.classes s.store t a ≡ Does st' y →
      (p : Option Thread) →
      slice_get m.threads t ≡ p →
      Each h.follows.sorts (renaming names s.store) t (Some had) p →
      ForthStep s m t (Acted (told_to s t had st' y) (line t a y))
  forth_does s m h t had at start a q goes st' y does None there each = absurd each
  forth_does s m h t had at start a q goes st' y does (Some x) there each = λ fits.
      let s1 = told_to s t had st' y in
      let loud : IsLoud (quiet code t bound x) = Following.in_words_loud setting (renaming names s.store)
      (next file program t had) _ (Between.stands_so setting h.follows.sorts s.store m.cells h.follows.holds t
      had x each) in
      let r = Bursts.burst setting s t had at a q goes st' y does fits bound m h.follows h.goes
      (ready_forth s m h t x there (nat_eq t 0) start) x there loud in
      let ts = until_acts bound m t in
      let m1 = machine_run m ts in
      let e = setup_made s1 m1 r.1.1 r.1.2 (has_setup_ended file program s1) refl in
      let us = setup_end bound m1 (has_setup_ended file program s1) in (
        r.0.0,
        r.0.1,
        trace-append m ts us ∙ ap (λ l. l ++ machine_trace m1 us) r.1.0 ∙ ap (λ l. write s1 (line t a y) ∷ l) e.0,
        subst (InStep s1) (sym (run-append m ts us)) e.1,
      )

  -- a thread that isn't there asks for nothing
  not_there : (s : State) (m : Machine) →
      Follows s m →
      (t : ℕ) (l : Answers) →
      slice_get s.answers t ≡ None →
      next file program t l ≡ Ended
  not_there s m h t l at = by_thread (slice_get program.threads t) refl
    where
      by_thread : (o : Option ThreadProgram) → slice_get program.threads t ≡ o → next file program t l ≡ Ended
      by_thread None e = ap (λ z. all_calls file program 1 (calls_in z) l) e
      by_thread (Some p) e =
          let within : t < length s.answers = omega (arith, h.count, get_within program.threads t p e) in
          let found = get_there s.answers t within in
          let both : Some found.0 ≡ None = sym found.1 ∙ at in
          absurd (cc)

  forth_had : (s : State) (m : Machine) (h : InStep s m) (t : ℕ) →
      has_started file program s t ≡ true →
      (o : Option Answers) →
      slice_get s.answers t ≡ o →
      (a : Action Value) (q : Sort) →
      next file program t (answers_of s t) ≡ Goes a q →
      (st' : Store) (y : Answer Value) →
      effect file.classes s.store t a ≡ Does st' y →
      ForthStep s m t (Acted (told_to s t (answers_of s t) st' y) (line t a y))
  forth_had s m h t start None at a q goes st' y does =
      let e : Goes a q ≡ Ended = sym goes ∙ not_there s m h.follows t (answers_of s t) at in absurd (cc)
  forth_had s m h t start (Some had) at a q goes st' y does =
      let here : answers_of s t ≡ had = index_there s.answers t had [] at in
      let goes' : next file program t had ≡ Goes a q = ap (next file program t) (sym here) ∙ goes in
      subst (λ l. ForthStep s m t (Acted (told_to s t l st' y) (line t a y))) (sym here)
      (forth_does s m h t had at start a q goes' st' y does (slice_get m.threads t) refl
      (subst (λ o. Each h.follows.sorts (renaming names s.store) t o (slice_get m.threads t)) at
      (h.follows.each t)))

  forth_effect : (s : State) (m : Machine) (h : InStep s m) (t : ℕ) →
      has_started file program s t ≡ true →
      (a : Action Value) (q : Sort) →
      next file program t (answers_of s t) ≡ Goes a q →
      (d : Effect) →
      effect file.classes s.store t a ≡ d →
      ForthStep s m t (stepped t (performed s t a d).did (performed s t a d).after)
  forth_effect s m h t start a q goes Waits does = tt
  forth_effect s m h t start a q goes (Does st' y) does = forth_had s m h t start (slice_get s.answers t) refl a q goes
      st' y does

  forth_next : (s : State) (m : Machine) (h : InStep s m) (t : ℕ) (b : Bool) →
      has_started file program s t ≡ b →
      (d : Next) →
      next file program t (answers_of s t) ≡ d →
      ForthStep s m t (stepped t (if b then step_of file s t d else idle s).did
      (if b then step_of file s t d else idle s).after)
  forth_next s m h t false eb d ed = tt
  forth_next s m h t true eb Ended ed = tt
  forth_next s m h t true eb Trapped ed = tt
  forth_next s m h t true eb (Goes a q) ed = forth_effect s m h t eb a q ed (effect file.classes s.store t a) refl

  -- one step of the source that fits has its steps of the machine
  pub step_forth : (s : State) (m : Machine) (t : ℕ) → InStep s m → ForthStep s m t (source_step file program s t)
  step_forth s m t h = forth_next s m h t (has_started file program s t) refl (next file program t (answers_of s t))
      refl
