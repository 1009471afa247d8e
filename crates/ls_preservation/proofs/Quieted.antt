-- A thread on its silent way to its end.
use Rattle.std.proofs.Common.{◌≡◌, ◌≢◌, ◌<◌, ℕ, zero, suc, Bool, true, false, ◌&&◌, ◌||◌, [], length, replicate, Option}
use Rattle.std.proofs.Common.{Some, None, refl, sym, ap, ◌∙◌, subst, arith, slice_get, slice_set, nat_eq, if◌then◌else◌}
use Rattle.std.proofs.lemmas.Bool.Decides.{nat_tests}
use Rattle.ls_events.specs.declared.action.Action.{Action}
use Rattle.ls_events.specs.declared.action.Answer.{Answer}
use Rattle.ls_checked.specs.CheckedTree.{File}
use Rattle.ls_checked.specs.CheckedProgram.{Program}
use Rattle.ls_meaning.specs.Course.{Answers}
use Rattle.ls_meaning.specs.Threads.{Next, Goes, Ended, Trapped, next}
use Rattle.ls_meaning.specs.Runs.{State, answers_of, source_run}
use Rattle.ls_code.specs.Code.{Code}
use Rattle.ls_code.specs.Thread.{Thread}
use Rattle.ls_code.specs.Steps.{Move, Silent, Still, Asks as MoveAsks, Plans, thread_move, performed, step_result}
use Rattle.ls_code.specs.Steps as machine_steps
use Rattle.ls_code.specs.Fed.{Pause, Paused, Passes, IsOver, IsStuck, TooLong}
use Rattle.ls_code.specs.Reading.{whole_move, begins_early, carry, quiet, word_of_another, exchanged}
use Rattle.ls_code.specs.Machine.{Machine, loaded, is_running, setup_ended, is_due, due_step, open_step, machine_step}
use Rattle.ls_code.specs.Machine.{machine_run, machine_state, mode_state, state_in, running_state}
use Rattle.ls_code.specs.Machine as machine
use Rattle.ls_code.specs.declared.step.Mode.{Mode}
use Rattle.ls_code.specs.declared.step.Mode.TheVariants as mode
use Rattle.ls_code.specs.declared.step.Did.TheVariants as did
use Rattle.ls_code.specs.declared.step.ThreadState.TheVariants as state
use Rattle.ls_preservation.specs.Threads.{Asks}
use Rattle.ls_preservation.specs.Same.{IsCells}
use Rattle.ls_preservation.specs.Translations.{most_silent, to_source}
use Rattle.ls_preservation.proofs.Setting.{Setting, setting_of}
use Rattle.ls_preservation.proofs.Lists.{set_same, set_other, get_there, index_there}
use Rattle.ls_preservation.proofs.Meaning.{Means}
use Rattle.ls_preservation.proofs.Runs.{run-append}
use Rattle.ls_preservation.proofs.Feeding.{ended, trapped, at_end, more, silent_is}
use Rattle.ls_preservation.proofs.LockCells.{another_is}
use Rattle.ls_preservation.proofs.Middle.{Middle, Here, Saw, Lost, Told, same_mode}
use Rattle.ls_preservation.proofs.Effects.{renaming}
use Rattle.ls_preservation.proofs.Following
use Rattle.ls_preservation.specs.InTime.{StandsAs, IsOpen, EndsInTime}
use Rattle.ls_preservation.proofs.Reached.{follows_all}

module _ (code : Code) (t : ℕ) where
  -- the thread is the setup, or the setup has ended
  abbrev pub Ready : Machine → Type 0
  Ready m = (nat_eq t 0 || setup_ended (slice_get m.threads 0)) ≡ true

  -- a step of the thread
  pub step_is : (m : Machine) (x : Thread) →
      m.code ≡ code →
      m.stopped ≡ false →
      x.mode ≡ mode.Running →
      Ready m →
      slice_get m.threads t ≡ Some x →
      machine_step m t ≡ machine.stepped_by (machine.after m t (performed m.cells t x (thread_move code x)))
      (performed m.cells t x (thread_move code x)).did
  step_is m x image goes runs ready there =
      let due : is_due m.threads t x ≡ true = ap (λ z. is_running z &&
      (nat_eq t 0 || setup_ended (slice_get m.threads 0))) runs ∙ ready in
      ap (machine.step_of m t) there ∙ ap (open_step m t x) goes ∙ ap (due_step m t x) due
      ∙ ap (λ p. machine.stepped_by (machine.after m t (performed m.cells t x (thread_move p x)))
      (performed m.cells t x (thread_move p x)).did) image

  -- a silent step of the thread
  pub silent_step : (m : Machine) (x x' : Thread) →
      m.code ≡ code →
      m.stopped ≡ false →
      x.mode ≡ mode.Running →
      Ready m →
      slice_get m.threads t ≡ Some x →
      performed m.cells t x (thread_move code x) ≡ step_result x' m.cells did.Silent →
      machine_step m t ≡ machine.stepped_by (machine.after m t (step_result x' m.cells did.Silent)) did.Silent
  silent_step m x x' image goes runs ready there em = step_is m x image goes runs ready there ∙
      ap (λ (o : machine_steps.StepResult). machine.stepped_by (machine.after m t o) o.did) em

  -- a step of the thread leaves that so
  pub still_ready : (m : Machine) (x : Thread) (b : Bool) →
      nat_eq t 0 ≡ b →
      (b || setup_ended (slice_get m.threads 0)) ≡ true →
      (b || setup_ended (slice_get (slice_set m.threads t x) 0)) ≡ true
  still_ready m x true e h = refl
  still_ready m x false e h =
      let other : 0 ≢ t = grind (arith, nat_tests) in
      ap setup_ended (set_other m.threads t 0 x other) ∙ h

  -- a thread that is over takes no steps
  idle_step : (m : Machine) (x : Thread) →
      m.stopped ≡ false →
      slice_get m.threads t ≡ Some x →
      is_running x.mode ≡ false →
      machine_step m t ≡ machine.stepped_by m did.Idle
  idle_step m x goes there e =
      ap (machine.step_of m t) there ∙ ap (open_step m t x) goes
      ∙ ap (due_step m t x) (ap (λ b. b && (nat_eq t 0 || setup_ended (slice_get m.threads 0))) e)

  stays : (n : ℕ) (m : Machine) (x : Thread) →
      m.stopped ≡ false →
      slice_get m.threads t ≡ Some x →
      is_running x.mode ≡ false →
      machine_run m (replicate n t) ≡ m
  stays zero m x goes there e = refl
  stays (suc n) m x goes there e = ap (λ (r : machine.Stepped). machine_run r.machine (replicate n t))
      (idle_step m x goes there e) ∙ stays n m x goes there e

  -- the state of the thread
  stands_there : (m : Machine) (x : Thread) (z : Mode) →
      m.stopped ≡ false →
      Ready m →
      slice_get m.threads t ≡ Some x →
      x.mode ≡ z →
      machine_state m t ≡ mode_state z
  stands_there m x z goes ready there e =
      ap (state_in m t) there ∙ ap (λ b. if b then state.Stopped else running_state m t x) goes
      ∙ ap (λ b. if b then mode_state x.mode else state.NotStarted) ready ∙ ap mode_state e

  over_here : (n : ℕ) (m : Machine) (x : Thread) (z : Mode) →
      m.stopped ≡ false →
      Ready m →
      slice_get m.threads t ≡ Some x →
      x.mode ≡ z →
      is_running z ≡ false →
      machine_state (machine_run m (replicate n t)) t ≡ mode_state z
  over_here n m x z goes ready there e is =
      ap (λ w. machine_state w t) (stays n m x goes there (ap is_running e ∙ is)) ∙
      stands_there m x z goes ready there e

  abbrev Ends : Mode → ℕ → Type 0
  Ends z n =
      (m : Machine) → m.code ≡ code → m.stopped ≡ false → Ready m → (x : Thread) → slice_get m.threads t ≡ Some x →
      quiet code t n x ≡ IsOver z →
      machine_state (machine_run m (replicate n t)) t ≡ mode_state z

  over_mode : (a b : Mode) → IsOver a ≡ IsOver b → a ≡ b
  over_mode a b e = cc

  -- a thread that asks for an action isn't over
  asks_over : (z : Mode) (b e : Bool) (a : Action ℕ) (go : Answer ℕ → Option Thread) (f : Thread → Pause) →
      carry b e (MoveAsks a go) f ≡ IsOver z →
      ⊥
  asks_over z true true a go f h = cc
  asks_over z false true a go f h = cc
  asks_over z b false a go f h = cc

  zero_move : (z : Mode) (b : Bool) (d : Move) → carry false b d (λ s. TooLong) ≡ IsOver z → ⊥
  zero_move z b (Silent x') e = cc
  zero_move z b Still e = cc
  zero_move z b (MoveAsks a go) e = asks_over z false b a go (λ s. TooLong) e
  zero_move z b (Plans go) e = cc

  ends_zero : (z : Mode) (m : Machine) →
      m.stopped ≡ false →
      Ready m →
      (x : Thread) →
      slice_get m.threads t ≡ Some x →
      quiet code t zero x ≡ IsOver z →
      (w : Mode) →
      x.mode ≡ w →
      machine_state m t ≡ mode_state z
  ends_zero z m goes ready x there e mode.Running em = absurd
      (zero_move z (begins_early (thread_move code x)) (whole_move code t x) (sym (at_end code t x em) ∙ e))
  ends_zero z m goes ready x there e mode.Ended em = stands_there m x z goes ready there
      (em ∙ over_mode mode.Ended z (sym (ended code t zero x em) ∙ e))
  ends_zero z m goes ready x there e mode.Trapped em = stands_there m x z goes ready there
      (em ∙ over_mode mode.Trapped z (sym (trapped code t zero x em) ∙ e))

  -- a silent step, and then the rest
  ends_after : (z : Mode) (n : ℕ) →
      Ends z n →
      (m : Machine) →
      m.code ≡ code →
      m.stopped ≡ false →
      Ready m →
      (x x' : Thread) →
      slice_get m.threads t ≡ Some x →
      x.mode ≡ mode.Running →
      performed m.cells t x (thread_move code x) ≡ step_result x' m.cells did.Silent →
      quiet code t n x' ≡ IsOver z →
      machine_state (machine_run m (replicate (suc n) t)) t ≡ mode_state z
  ends_after z n ih m image goes ready x x' there runs em e =
      let m' : Machine = machine.after m t (step_result x' m.cells did.Silent) in
      ap (λ (r : machine.Stepped). machine_state (machine_run r.machine (replicate n t)) t)
      (silent_step m x x' image goes runs ready there em)
      ∙ ih m' image refl (still_ready m x' (nat_eq t 0) refl ready) x' (set_same m.threads t x x' there) e

  ends_step : (z : Mode) (n : ℕ) →
      Ends z n →
      (m : Machine) →
      m.code ≡ code →
      m.stopped ≡ false →
      Ready m →
      (x : Thread) →
      slice_get m.threads t ≡ Some x →
      x.mode ≡ mode.Running →
      (d : Move) →
      whole_move code t x ≡ d →
      carry true (begins_early (thread_move code x)) d (quiet code t n) ≡ IsOver z →
      machine_state (machine_run m (replicate (suc n) t)) t ≡ mode_state z
  ends_step z n ih m image goes ready x there runs Still em e = absurd (cc)
  ends_step z n ih m image goes ready x there runs (MoveAsks b go) em e = absurd
      (asks_over z true (begins_early (thread_move code x)) b go (quiet code t n) e)
  ends_step z n ih m image goes ready x there runs (Plans go) em e = absurd (cc)
  ends_step z n ih m image goes ready x there runs (Silent x') em e = ends_after z n ih m image goes ready x x' there
      runs (silent_is code t x x' m.cells em) e

  ends_more : (z : Mode) (n : ℕ) →
      Ends z n →
      (m : Machine) →
      m.code ≡ code →
      m.stopped ≡ false →
      Ready m →
      (x : Thread) →
      slice_get m.threads t ≡ Some x →
      quiet code t (suc n) x ≡ IsOver z →
      (w : Mode) →
      x.mode ≡ w →
      machine_state (machine_run m (replicate (suc n) t)) t ≡ mode_state z
  ends_more z n ih m image goes ready x there e mode.Running em = ends_step z n ih m image goes ready x there em
      (whole_move code t x) refl (sym (more code t n x em) ∙ e)
  ends_more z n ih m image goes ready x there e mode.Ended em =
      over_here (suc n) m x mode.Ended goes ready there em refl ∙
      ap mode_state (over_mode mode.Ended z (sym (ended code t (suc n) x em) ∙ e))
  ends_more z n ih m image goes ready x there e mode.Trapped em =
      over_here (suc n) m x mode.Trapped goes ready there em refl ∙
      ap mode_state (over_mode mode.Trapped z (sym (trapped code t (suc n) x em) ∙ e))

  pub ends_quietly : (z : Mode) (n : ℕ) → Ends z n
  ends_quietly z zero m image goes ready x there e = ends_zero z m goes ready x there e x.mode refl
  ends_quietly z (suc n) m image goes ready x there e = ends_more z n (ends_quietly z n) m image goes ready x there e
      x.mode refl

  -- a thread that begins an operation isn't over
  asking_over : (z : Mode) (n : ℕ) (y : Thread) (b : Action ℕ) (go : Answer ℕ → Option Thread) →
      y.mode ≡ mode.Running →
      whole_move code t y ≡ MoveAsks b go →
      quiet code t n y ≡ IsOver z →
      ⊥
  asking_over z zero y b go r em e =
      asks_over z false (begins_early (thread_move code y)) b go (λ s. TooLong)
      (sym (ap (λ d. carry false (begins_early (thread_move code y)) d (λ s. TooLong)) em) ∙ sym (at_end code t y r)
      ∙ e)
  asking_over z (suc n) y b go r em e =
      asks_over z true (begins_early (thread_move code y)) b go (quiet code t n)
      (sym (ap (λ d. carry true (begins_early (thread_move code y)) d (quiet code t n)) em) ∙
      sym (more code t n y r) ∙ e)

  -- one silent step, if the reading's thread and the machine's thread become the same
  told_over : (z : Mode) (n : ℕ) (m : Machine) →
      m.code ≡ code →
      m.stopped ≡ false →
      Ready m →
      (x y x' : Thread) →
      slice_get m.threads t ≡ Some x →
      x.mode ≡ mode.Running →
      y.mode ≡ mode.Running →
      performed m.cells t x (thread_move code x) ≡ step_result x' m.cells did.Silent →
      whole_move code t y ≡ Silent x' →
      quiet code t n y ≡ IsOver z →
      machine_state (machine_run m (replicate n t)) t ≡ mode_state z
  told_over z zero m image goes ready x y x' there rx ry does em e = absurd
      (zero_move z (begins_early (thread_move code y)) (whole_move code t y) (sym (at_end code t y ry) ∙ e))
  told_over z (suc n) m image goes ready x y x' there rx ry does em e =
      ends_after z n (ends_quietly z n) m image goes ready x x' there rx does
      (sym (ap (λ d. carry true (begins_early (thread_move code y)) d (quiet code t n)) em) ∙
      sym (more code t n y ry) ∙ e)

  -- a thread of the machine in the midst of what a thread does that is over before its next action
  pub over_middle : (z : Mode) (n : ℕ) (m : Machine) →
      m.code ≡ code →
      m.stopped ≡ false →
      Ready m →
      (y x : Thread) →
      slice_get m.threads t ≡ Some x →
      Middle code m.cells t y x →
      quiet code t n y ≡ IsOver z →
      machine_state (machine_run m (replicate n t)) t ≡ mode_state z
  over_middle z n m image goes ready y x there (Here ex) e = ends_quietly z n m image goes ready x there
      (ap (quiet code t n) ex ∙ e)
  over_middle z n m image goes ready y x there (Saw r b go lock w em h l ex s o) e = absurd
      (asking_over z n y b go r em e)
  over_middle z n m image goes ready y x there (Lost r a b l go em h ex) e = absurd (asking_over z n y b go r em e)
  over_middle z n m image goes ready y x there (Told r u a w h ey ex k) e =
      told_over z n m image goes ready x y (exchanged u 0) there
      (same_mode code m.cells t y x (Told r u a w h ey ex k) ∙ r) r
      (ap (λ v. performed m.cells t v (thread_move code v)) ex ∙ h.told m.cells w k)
      (ap (whole_move code t) ey ∙ h.told_whole (word_of_another t) (another_is t)) e

module _ (file : File) (program : Program) (code : Code) (asks : Asks file program code) (sound : Means file program)
    (room : ℕ) (within : IsCells code room) where
  abbrev setting : Setting
  setting = setting_of file program code asks sound room within

  open Following.notions setting use {names, bound, stands, Follows, InWords}

  abbrev Each : (s : State) (m : Machine) → Follows s m → ℕ → Option Answers → Option Thread → Type 0
  Each s m h t o p = Following.Each setting m.cells h.sorts (renaming names s.store) t o p

  abbrev Stood : Next → Machine → ℕ → Type 0
  Stood d m t = StandsAs d (machine_state (machine_run m (replicate bound t)) t)

  in_time_by : (ρ : ℕ → ℕ) (m : Machine) (t : ℕ) →
      m.code ≡ code →
      IsOpen m t →
      (y x : Thread) →
      slice_get m.threads t ≡ Some x →
      Middle code m.cells t y x →
      (d : Next) (q : Pause) →
      stands t y ≡ q →
      InWords ρ d q →
      Stood d m t
  in_time_by ρ m t image is_open y x there mid (Goes a k) q e w = tt
  in_time_by ρ m t image is_open y x there mid Ended (IsOver mode.Ended) e w = over_middle code t mode.Ended bound m
      image is_open.0 is_open.1 y x there mid e
  in_time_by ρ m t image is_open y x there mid Trapped (IsOver mode.Trapped) e w = over_middle code t mode.Trapped bound
      m image is_open.0 is_open.1 y x there mid e
  in_time_by ρ m t image is_open y x there mid Ended (IsOver mode.Running) e w = absurd w
  in_time_by ρ m t image is_open y x there mid Ended (IsOver mode.Trapped) e w = absurd w
  in_time_by ρ m t image is_open y x there mid Ended (Paused b go) e w = absurd w
  in_time_by ρ m t image is_open y x there mid Ended (Passes u) e w = absurd w
  in_time_by ρ m t image is_open y x there mid Ended IsStuck e w = absurd w
  in_time_by ρ m t image is_open y x there mid Ended TooLong e w = absurd w
  in_time_by ρ m t image is_open y x there mid Trapped (IsOver mode.Running) e w = absurd w
  in_time_by ρ m t image is_open y x there mid Trapped (IsOver mode.Ended) e w = absurd w
  in_time_by ρ m t image is_open y x there mid Trapped (Paused b go) e w = absurd w
  in_time_by ρ m t image is_open y x there mid Trapped (Passes u) e w = absurd w
  in_time_by ρ m t image is_open y x there mid Trapped IsStuck e w = absurd w
  in_time_by ρ m t image is_open y x there mid Trapped TooLong e w = absurd w

  in_time_at : (s : State) (m : Machine) (h : Follows s m) (t : ℕ) →
      IsOpen m t →
      (had : Answers) →
      slice_get s.answers t ≡ Some had →
      (p : Option Thread) →
      slice_get m.threads t ≡ p →
      Each s m h t (Some had) p →
      Stood (next file program t had) m t
  in_time_at s m h t is_open had at None there each = absurd each
  in_time_at s m h t is_open had at (Some x) there each =
      in_time_by _ m t h.same_code is_open each.3 x there each.5 (next file program t had)
      (stands t each.3) refl
      (Following.stands_so setting h.sorts s.store m.cells h.holds t had x each)

  pub in_time : (s : State) (m : Machine) (h : Follows s m) (t : ℕ) →
      t < length program.threads →
      IsOpen m t →
      Stood (next file program t (answers_of s t)) m t
  in_time s m h t is is_open =
      let there : t < length s.answers = omega (arith, h.count) in
      let found = get_there s.answers t there in
      let here : answers_of s t ≡ found.0 = index_there s.answers t found.0 [] found.1 in
      subst (λ l. Stood (next file program t l) m t) (sym here)
      (in_time_at s m h t is_open found.0 found.1 (slice_get m.threads t) refl
      (subst (λ o. Each s m h t o (slice_get m.threads t)) found.1 (h.each t)))

-- the law: threads end in time
pub ends_right : (file : File) (program : Program) (code : Code) →
    Asks file program code →
    Means file program →
    EndsInTime file program code
ends_right file program code asks sound cells within schedule t is is_open =
    let m = machine_run (loaded code cells) schedule in
    let s = source_run file program (to_source code cells schedule) in
    subst (λ w. StandsAs (next file program t (answers_of s t)) (machine_state w t))
    (sym (run-append (loaded code cells) schedule (replicate (most_silent code) t)))
    (in_time file program code asks sound cells within s m (follows_all file program code asks sound cells within
    schedule) t is is_open)
