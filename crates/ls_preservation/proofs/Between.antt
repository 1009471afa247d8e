-- A machine that follows a state of the source between two bursts: no thread is in the midst of an operation.
use Rattle.std.proofs.Common.{◌≡◌, ◌≢◌, ℕ, Bool, true, false, ◌&&◌, ◌||◌, List, [], ◌∷◌, ◌++◌, length, Option, Some}
use Rattle.std.proofs.Common.{None, refl, sym, ap, ◌∙◌, subst, arith, slice_get, slice_set, nat_eq}
use Rattle.std.proofs.lemmas.Bool.Decides.{nat_tests}
use Rattle.ls_events.specs.declared.event.Event.{Event}
use Rattle.ls_events.specs.declared.value.Value.{Value}
use Rattle.ls_events.specs.declared.value.ValueType.{ValueType}
use Rattle.ls_events.specs.declared.action.Action.{Action}
use Rattle.ls_events.specs.declared.action.Answer.{Answer}
use Rattle.ls_meaning.specs.declared.sort.Sort.{Sort}
use Rattle.ls_meaning.specs.Course.{Answers}
use Rattle.ls_meaning.specs.Store.{Store}
use Rattle.ls_meaning.specs.Threads.{Goes, next}
use Rattle.ls_meaning.specs.Runs.{State}
use Rattle.ls_code.specs.Code.{Start}
use Rattle.ls_code.specs.Thread.{Thread}
use Rattle.ls_code.specs.Cells as cells
use Rattle.ls_code.specs.Steps.{Move, Silent, Still, thread_move}
use Rattle.ls_code.specs.Steps as machine_steps
use Rattle.ls_code.specs.Fed.{Paused, IsOver, IsStuck}
use Rattle.ls_preservation.specs.InWords.{map_answer, written}
use Rattle.ls_preservation.specs.Sorts.{Refers, Suits, Known, ActionHas}
use Rattle.ls_code.specs.Reading.{whole_move, quiet_from}
use Rattle.ls_preservation.proofs.Setting.{Setting}
use Rattle.ls_preservation.proofs.Middle.{Here}
use Rattle.ls_preservation.proofs.Cells.{AgreeTo}
use Rattle.ls_preservation.proofs.Lists.{set_here, each_set, map_end, length-set, set_other}
use Rattle.ls_preservation.proofs.Effects.{Extends, refers_more, things_length, renaming}
use Rattle.ls_preservation.proofs.Effects as effects
use Rattle.ls_preservation.proofs.Answers.{suited_end, suited_more, answer_agree, answers_agree, action_agree, says}
use Rattle.ls_code.specs.Machine.{Machine, Entry, is_running, setup_ended, is_due, due_step, open_step, machine_step}
use Rattle.ls_code.specs.Machine.{machine_run, machine_trace}
use Rattle.ls_code.specs.Machine as machine
use Rattle.ls_code.specs.declared.step.Mode.{Mode}
use Rattle.ls_code.specs.declared.step.Mode.TheVariants as mode
use Rattle.ls_preservation.proofs.Feeding.{IsLoud, silent_keeps, ended, trapped, still, told_one, stand-append}
use Rattle.ls_preservation.proofs.Following.{line, line_in, told_to, went, entry_same, moved}
use Rattle.ls_preservation.proofs.Following

-- The words of the section below that other files write without its setting: each says what its namesake there says.
pub record Notions : Type 1 where
  pub Each : List ValueType → (ℕ → ℕ) → ℕ → Option Answers → Option Thread → Type 0
  pub Follows : State → Machine → Type 0
  pub Ready : Machine → ℕ → Type 0
  pub PerformsBy : State → Entry → Machine → List ℕ → Type 0
  pub Performs : State → Entry → List Entry → Machine → Type 0

module _ (setting : Setting) where
  open setting use {file, program, code, room}
  open Following.notions setting use {named, names, bound, StoreHolds, stands, words, fed_to, InWords, Live, Later}
  open Following.notions setting use {write, acts_as}

  -- between two bursts no thread is in the midst of an operation
  abbrev pub Each : List ValueType → (ℕ → ℕ) → ℕ → Option Answers → Option Thread → Type 0
  Each σ ρ t None None = Unit {0}
  Each σ ρ t (Some had) (Some x) = (s : Start) × (slice_get code.starts t ≡ Some s) × Known file program σ t had ×
      (stands t x ≡ fed_to t s (words ρ had))
  Each σ ρ t _ _ = ⊥

  -- A machine follows a state of the source, and no thread is in the midst of an operation. It has the code, its cells
  -- hold the store, and each thread is where its answers have led it.
  pub record Follows (s : State) (m : Machine) : Type 0 where
    pub sorts : List ValueType
    pub same_code : m.code ≡ code
    pub holds : StoreHolds sorts s.store m.cells
    pub count : length s.answers ≡ length program.threads
    pub each : (t : ℕ) → Each sorts (renaming names s.store) t (slice_get s.answers t) (slice_get m.threads t)

  abbrev pub each_back : (c : cells.Cells) (σ : List ValueType) (ρ : ℕ → ℕ) (t : ℕ) (had : Answers) (x : Thread) →
      Each σ ρ t (Some had) (Some x) →
      Following.Each setting c σ ρ t (Some had) (Some x)
  each_back c σ ρ t had x e = (e.0, e.1, e.2, x, e.3, Here refl)

  -- each thread of the machine is at what the source does next
  pub stands_so : (σ : List ValueType) (st : Store) (c : cells.Cells) →
      StoreHolds σ st c →
      (t : ℕ) (had : Answers) (x : Thread) →
      Each σ (renaming names st) t (Some had) (Some x) →
      InWords (renaming names st) (next file program t had) (stands t x)
  stands_so σ st c holds t had x e = Following.stands_so setting σ st c holds t had x
      (each_back c σ (renaming names st) t had x e)

  pub loud_so : (σ : List ValueType) (st : Store) (c : cells.Cells) →
      StoreHolds σ st c →
      (t : ℕ) (had : Answers) (x : Thread) →
      Each σ (renaming names st) t (Some had) (Some x) →
      IsLoud (stands t x)
  loud_so σ st c holds t had x e = Following.in_words_loud setting (renaming names st) (next file program t had) _
      (stands_so σ st c holds t had x e)

  -- a silent instruction keeps that
  pub keeps : (σ : List ValueType) (st : Store) (c : cells.Cells) →
      StoreHolds σ st c →
      (t : ℕ) (had : Answers) (x x' : Thread) →
      Each σ (renaming names st) t (Some had) (Some x) →
      x.mode ≡ mode.Running →
      whole_move code t x ≡ Silent x' →
      Each σ (renaming names st) t (Some had) (Some x')
  keeps σ st c holds t had x x' e runs em = (
    e.0,
    e.1,
    e.2,
    silent_keeps code t bound x x' runs em
        (loud_so σ st c holds t had x e) ∙ e.3,
  )

  -- a thread goes on, and the machine still follows
  pub went_on : (s : State) (m : Machine) (h : Follows s m) (t : ℕ) (had : Answers) (x x' : Thread) (stopped : Bool)
      (events : List Event) →
      slice_get s.answers t ≡ Some had →
      slice_get m.threads t ≡ Some x →
      Each h.sorts (renaming names s.store) t (Some had) (Some x') →
      Follows s (went m t x' m.cells stopped events)
  went_on s m h t had x x' stopped events at there each' = record {
    sorts = h.sorts;
    same_code = h.same_code;
    holds = h.holds;
    count = h.count;
    each = λ u. subst (λ l. Each h.sorts (renaming names s.store) u (slice_get l u)
        (slice_get (slice_set m.threads t x') u)) (set_here s.answers t had at)
        (each_set (Each h.sorts (renaming names s.store)) s.answers m.threads t had had x x' at there (λ v d. h.each v)
        each' u);
  }

  each_more : (σ σ' : List ValueType) (ρ ρ' : ℕ → ℕ) →
      Extends σ σ' →
      AgreeTo (length σ) ρ ρ' →
      (u : ℕ) (o : Option Answers) (p : Option Thread) →
      Each σ ρ u o p →
      Each σ' ρ' u o p
  each_more σ σ' ρ ρ' e a u None None h = tt
  each_more σ σ' ρ ρ' e a u None (Some x) h = absurd h
  each_more σ σ' ρ ρ' e a u (Some had) None h = absurd h
  each_more σ σ' ρ ρ' e a u (Some had) (Some x) h = (
    h.0,
    h.1,
    suited_more (Refers σ) (Refers σ') (refers_more σ σ' e) (next file program u) had h.2,
    h.3 ∙
        ap (fed_to u h.0) (answers_agree σ ρ ρ' a (next file program u) had h.2),
  )

  -- readiness: the setup, or the others once it has ended
  abbrev pub Ready : Machine → ℕ → Type 0
  Ready m t = (nat_eq t 0 || setup_ended (slice_get m.threads 0)) ≡ true

  due_is : (m : Machine) (t : ℕ) (x : Thread) → x.mode ≡ mode.Running → Ready m t → is_due m.threads t x ≡ true
  due_is m t x runs ready = ap (λ z. is_running z && (nat_eq t 0 || setup_ended (slice_get m.threads 0))) runs ∙ ready

  -- if the machine is open and the thread is due, its step is what the thread's instruction does
  pub machine_goes : (m : Machine) (t : ℕ) (x : Thread) (e : Move) →
      m.code ≡ code →
      m.stopped ≡ false →
      x.mode ≡ mode.Running →
      Ready m t →
      slice_get m.threads t ≡ Some x →
      thread_move code x ≡ e →
      machine_step m t ≡ moved m t (machine_steps.performed m.cells t x e)
  machine_goes m t x e image goes runs ready there em =
      ap (machine.step_of m t) there ∙ ap (open_step m t x) goes ∙ ap (due_step m t x) (due_is m t x runs ready)
      ∙ ap (λ p. moved m t (machine_steps.performed m.cells t x (thread_move p x))) image ∙
      ap (λ z. moved m t (machine_steps.performed m.cells t x z)) em

  -- a step of a thread leaves the setup as it is, or is the setup's
  pub still_ready : (m : Machine) (t : ℕ) (x : Thread) (b : Bool) →
      nat_eq t 0 ≡ b →
      (b || setup_ended (slice_get m.threads 0)) ≡ true →
      (b || setup_ended (slice_get (slice_set m.threads t x) 0)) ≡ true
  still_ready m t x true e h = refl
  still_ready m t x false e h =
      let other : 0 ≢ t = grind (arith, nat_tests) in
      ap setup_ended (set_other m.threads t 0 x other) ∙ h

  -- what a stretch of steps performs
  abbrev pub Performs : State → Entry → List Entry → Machine → Type 0
  Performs s' f fs m' = (fs ≡ f ∷ []) × Follows s' m' × (m'.stopped ≡ false)

  abbrev pub PerformsBy : State → Entry → Machine → List ℕ → Type 0
  PerformsBy s' f m ts = Performs s' f (machine_trace m ts) (machine_run m ts)

  -- the first step is known, and the rest follows from it
  pub after_first : (s' : State) (f : Entry) (m : Machine) (t : ℕ) (k : machine.Stepped → List ℕ) (r : machine.Stepped)
      →
      machine_step m t ≡ r →
      Performs s' f (machine.traced t r.did (machine_trace r.machine (k r))) (machine_run r.machine (k r)) →
      PerformsBy s' f m (t ∷ k (machine_step m t))
  after_first s' f m t k r e h = subst (λ z. Performs s' f (machine.traced t z.did (machine_trace z.machine (k z)))
      (machine_run z.machine (k z))) (sym e) h

  -- both perform the same action
  pub both : (s : State) (m : Machine) (σ : List ValueType) (image : m.code ≡ code)
      (holds : StoreHolds σ s.store m.cells)
      (count : length s.answers ≡ length program.threads) (t : ℕ)
      (others : (u : ℕ) → u ≢ t → Each σ (renaming names s.store) u (slice_get s.answers u) (slice_get m.threads u))
      (had : Answers) (x : Thread) →
      slice_get s.answers t ≡ Some had →
      slice_get m.threads t ≡ Some x →
      (st : Start) (es : slice_get code.starts t ≡ Some st) (known : Known file program σ t had) (a : Action Value)
      (q : Sort) →
      next file program t had ≡ Goes a q →
      ActionHas file program σ t a q →
      (go : Answer ℕ → Option Thread) →
      fed_to t st (words (renaming names s.store) had) ≡ Paused (acts_as s a) go →
      (st' : Store) (y : Answer Value) (c' : cells.Cells) (w : Answer ℕ) →
      (x_of : Thread → Thread) →
      ((y' : Thread) → go w ≡ Some y' → stands t (x_of y') ≡ stands t y') →
      effects.Done file.classes named code.sizes room σ s.store a q st' y c' w →
      (y' : Thread) × (go w ≡ Some y') × ((stopped : Bool) (events : List Event) →
      Follows (told_to s t had st' y) (went m t (x_of y') c' stopped events)) ×
      (line_in t (acts_as s a) w ≡ write (told_to s t had st' y) (line t a y)) ×
      Live (told_to s t had st' y) (line t a y) × Later s (told_to s t had st' y)
  both s m σ image holds count t others had x at there st es known0 a q goes has go acts st' y c' w x_of steady done =
      let σ' = done.sorts in
      let ρ = renaming names s.store in
      let ρ' = renaming names st' in
      let long : length σ ≡ length s.store.things = things_length file.classes σ s.store.things σ holds.typed in
      let long' : length σ' ≡ length st'.things = things_length file.classes σ' st'.things σ' done.holds.typed in
      let agree : AgreeTo (length σ) ρ ρ' = λ n le. done.grows.places n (omega arith) in
      let known : Known file program σ' t (had ++ y ∷ []) = suited_end (Refers σ') (next file program t) had y
      (suited_more (Refers σ) (Refers σ') (refers_more σ σ' done.extends) (next file program t) had known0)
      (subst (λ d. Suits (Refers σ') d y) (sym goes) done.suits) in
      let said : words ρ' (had ++ y ∷ []) ≡ words ρ had ++ w ∷ [] =
      map_end (map_answer (written ρ')) had y ∙ ap (λ l. l ++ map_answer (written ρ') y ∷ [])
      (sym (answers_agree σ ρ ρ' agree (next file program t) had known0)) ∙
      ap (λ z. words ρ had ++ z ∷ []) (sym done.word) in
      let way : fed_to t st (words ρ' (had ++ y ∷ [])) ≡ quiet_from code t bound (go w) =
      ap (fed_to t st) said ∙ stand-append code t bound (words ρ had) w (stands t (machine.started st)) ∙
      ap (λ z. told_one code t bound z w) acts in
      let leads = Following.some_thread setting ρ' t (next file program t (had ++ y ∷ [])) (go w)
      (subst (λ z. InWords ρ' (next file program t (had ++ y ∷ [])) z) way
      (Following.asks_words setting σ' st' c' done.holds t st (had ++ y ∷ []) es known)) in
      let way' : stands t (x_of leads.0) ≡ fed_to t st (words ρ' (had ++ y ∷ [])) = steady leads.0 leads.1 ∙
      sym (way ∙ ap (λ o. quiet_from code t bound o) leads.1) in (
        leads.0,
        leads.1,
        (λ stopped events. record {
          sorts = σ';
          same_code = image;
          holds = done.holds;
          count = length-set s.answers t (had ++ y ∷ []) ∙ count;
          each = each_set (Each σ' ρ') s.answers m.threads t had (had ++ y ∷ []) x (x_of leads.0) at there
              (λ u d. each_more σ σ' ρ ρ' done.extends agree u (slice_get s.answers u) (slice_get m.threads u)
              (others u d)) (st, es, known, way');
        }),
        entry_same t _ _ _ _ (action_agree file program σ ρ ρ' agree t a q has) done.word,
        (
          (λ ρ2 ag. entry_same t _ _ _ _ (action_agree file program σ ρ' ρ2
              (λ n le. ag n (omega (arith, done.grows.things))) t a q has)
              (answer_agree σ' ρ' ρ2 (λ n le. ag n (omega arith)) (Goes a q) y done.suits)),
          says file program σ t a q has,
        ),
        done.grows,
      )

  pub each_here : (s : State) (m : Machine) (h : Follows s m) (t : ℕ) (had : Answers) (x : Thread) →
      slice_get s.answers t ≡ Some had →
      slice_get m.threads t ≡ Some x →
      Each h.sorts (renaming names s.store) t (Some had) (Some x)
  each_here s m h t had x at there =
      subst (λ o. Each h.sorts (renaming names s.store) t o (Some x)) at
      (subst (λ p. Each h.sorts (renaming names s.store) t (slice_get s.answers t) p) there (h.each t))

  -- a thread that goes on runs
  goes_running : (s : State) (m : Machine) (h : Follows s m) (t : ℕ) (had : Answers) (x : Thread) →
      Each h.sorts (renaming names s.store) t (Some had) (Some x) →
      (a : Action Value) (q : Sort) →
      next file program t had ≡ Goes a q →
      (z : Mode) →
      x.mode ≡ z →
      z ≡ mode.Running
  goes_running s m h t had x each a q goes mode.Running e = refl
  goes_running s m h t had x each a q goes mode.Ended e =
      let at : stands t x ≡ IsOver mode.Ended = ended code t bound x e in
      absurd (subst (λ d. InWords (renaming names s.store) d (IsOver mode.Ended)) goes
      (subst (λ z. InWords (renaming names s.store) (next file program t had) z) at
      (stands_so h.sorts s.store m.cells h.holds t had x each)))
  goes_running s m h t had x each a q goes mode.Trapped e =
      let at : stands t x ≡ IsOver mode.Trapped = trapped code t bound x e in
      absurd (subst (λ d. InWords (renaming names s.store) d (IsOver mode.Trapped)) goes
      (subst (λ z. InWords (renaming names s.store) (next file program t had) z) at
      (stands_so h.sorts s.store m.cells h.holds t had x each)))

  pub runs_on : (s : State) (m : Machine) (h : Follows s m) (t : ℕ) (had : Answers) (x : Thread) →
      slice_get s.answers t ≡ Some had →
      slice_get m.threads t ≡ Some x →
      (a : Action Value) (q : Sort) →
      next file program t had ≡ Goes a q →
      x.mode ≡ mode.Running
  runs_on s m h t had x at there a q goes = goes_running s m h t had x (each_here s m h t had x at there) a q goes
      x.mode refl

  pub never_still : (s : State) (m : Machine) (h : Follows s m) (t : ℕ) (had : Answers) (x : Thread) →
      Each h.sorts (renaming names s.store) t (Some had) (Some x) →
      x.mode ≡ mode.Running →
      whole_move code t x ≡ Still →
      ⊥
  never_still s m h t had x each runs em =
      let at : stands t x ≡ IsStuck = still code t bound x runs em in
      Following.not_stuck setting (renaming names s.store) (next file program t had)
      (subst (λ z. InWords (renaming names s.store) (next file program t had) z) at
      (stands_so h.sorts s.store m.cells h.holds t had x each))

  -- to be opened
  abbrev pub notions : Notions
  notions = record { Each = Each; Follows = Follows; Ready = Ready; PerformsBy = PerformsBy; Performs = Performs }
