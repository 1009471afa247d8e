-- A step that stops the machine: the source would act, and there is no room for what it would make.
use Rattle.std.proofs.lemmas.Bool.Decides.{nat_tests}
use Rattle.std.proofs.lemmas.List.{length-map}
use Rattle.std.proofs.Common.{◌≡◌, ◌<◌, ℕ, zero, suc, ◌+◌, Bool, true, false, [], length, Option, Some, None, refl}
use Rattle.std.proofs.Common.{sym, ap, ◌∙◌, subst, arith, slice_get, nat_le, if◌then◌else◌, List}
use Rattle.ls_events.specs.declared.value.Value.{Value}
use Rattle.ls_events.specs.declared.action.Action.{Action}
use Rattle.ls_events.specs.declared.action.Action.TheVariants as act
use Rattle.ls_events.specs.declared.action.Answer.{Answer}
use Rattle.ls_events.specs.declared.action.Answer.TheVariants.{Done, Gives, Fails}
use Rattle.ls_checked.specs.CheckedTree.{File}
use Rattle.ls_checked.specs.CheckedProgram.{Program}
use Rattle.ls_meaning.specs.declared.sort.Sort.{Sort}
use Rattle.ls_meaning.specs.Course.{Answers}
use Rattle.ls_meaning.specs.Store.{Store}
use Rattle.ls_meaning.specs.Effect.{Effect, Waits, Does, effect}
use Rattle.ls_meaning.specs.Threads.{Next, Goes, Ended, Trapped, next}
use Rattle.ls_meaning.specs.Runs.{State, answers_of, has_started, idle, step_of, performed, step, source_run}
use Rattle.ls_code.specs.Code.{Code}
use Rattle.ls_code.specs.Thread.{Thread}
use Rattle.ls_code.specs.Cells as cells
use Rattle.ls_code.specs.Exchanges.{Seen, Quietly, Reports, Plan, Says, Touches, Stores}
use Rattle.ls_code.specs.Fed.{Paused}
use Rattle.ls_code.specs.Steps.{Move, Silent, Still, Asks as MoveAsks, Plans, fetched_move, thread_move}
use Rattle.ls_code.specs.Steps as steps
use Rattle.ls_code.specs.Machine.{Machine, loaded, machine_run, machine_step, is_due, due_step, open_step}
use Rattle.ls_code.specs.Machine as machine
use Rattle.ls_code.specs.Reading.{is_back_to, is_drop, is_locking, is_take, seen}
use Rattle.ls_code.specs.declared.instruction.Instruction.{Instruction}
use Rattle.ls_code.specs.declared.step.Did.{Did}
use Rattle.ls_code.specs.declared.step.Did.TheVariants as did
use Rattle.ls_code.specs.declared.step.Mode.TheVariants as mode
use Rattle.ls_preservation.specs.Acting.{first_did, or_later}
use Rattle.ls_preservation.specs.Parts.{IsPlanned, one}
use Rattle.ls_preservation.specs.Same.{Fits, IsCells, total}
use Rattle.ls_preservation.specs.Sorts.{ActionHas}
use Rattle.ls_preservation.specs.Threads.{Asks}
use Rattle.ls_preservation.specs.Translations.{most_silent, to_source}
use Rattle.ls_preservation.proofs.Codes.{drop_there, take_there}
use Rattle.ls_preservation.proofs.Effects.{Agrees, renaming}
use Rattle.ls_preservation.proofs.Feeding.{asking}
use Rattle.ls_preservation.proofs.Following
use Rattle.ls_preservation.proofs.Lists.{index_there}
use Rattle.ls_preservation.proofs.Meaning.{Means}
use Rattle.ls_preservation.proofs.Middle.{Middle, Here, Saw, Lost, Told}
use Rattle.ls_preservation.proofs.PartsThere.{Beginning, and_both, parts_are_there}
use Rattle.ls_preservation.proofs.PartsThere as parts
use Rattle.ls_preservation.proofs.Reached.{follows_all}
use Rattle.ls_preservation.proofs.Runs.{stepped_so}
use Rattle.ls_preservation.proofs.Setting.{Setting}
use Rattle.ls_preservation.proofs.StepBack
use Rattle.ls_explore.specs.Room.{LacksRoom, StaysWithin, StopsForRoom}

-- ---- a thread's part of a step that stops the machine

-- it asks for a making for which there are too few cells
pub record StopsBy (c : cells.Cells) (t : ℕ) (d : Move) : Type 0 where
  pub action : Action ℕ
  pub go : Answer ℕ → Option Thread
  pub asks : d ≡ MoveAsks action go
  pub stops : cells.effect c t action ≡ cells.Stops

module _ (c : cells.Cells) (t : ℕ) (x : Thread) where
  ended_not : (d : cells.Cells) (o : Option Thread) (f : Did) →
      (f ≡ did.Stopped → ⊥) →
      (steps.ended_so d x o f).did ≡ did.Stopped →
      ⊥
  ended_not d None f apart e = cc
  ended_not d (Some s) f apart e = apart e

  seen_not : (d : cells.Cells) (s : Seen) → (steps.seen_outcome d x s).did ≡ did.Stopped → ⊥
  seen_not d (Quietly s) e = ended_not d s did.Silent (λ h. cc) e
  seen_not d (Reports b y s) e = ended_not d s (did.Acted b y) (λ h. cc) e

  touched_not : (go : ℕ → Seen) (e : cells.Effect) → (steps.touched c x go e).did ≡ did.Stopped → ⊥
  touched_not go (cells.Answers d Done) h = seen_not d (go 0) h
  touched_not go (cells.Answers d (Gives w)) h = seen_not d (go w) h
  touched_not go (cells.Answers d (Fails k)) h = cc
  touched_not go cells.Waits h = cc
  touched_not go cells.Stops h = cc
  touched_not go cells.Unfit h = cc

  planned_not : (p : Plan) → (steps.planned c t x p).did ≡ did.Stopped → ⊥
  planned_not (Says s) h = seen_not c s h
  planned_not (Touches o b go) h = touched_not go (cells.effect c t b) h
  planned_not (Stores b s) h = touched_not (λ w. s) (cells.effect c t b) h

  replied_not : (d : cells.Cells) (b : Action ℕ) (y : Answer ℕ) (o : Option Thread) →
      (steps.replied d x b y o).did ≡ did.Stopped →
      ⊥
  replied_not d b y None h = cc
  replied_not d b y (Some s) h = cc

  settled_stops : (b : Action ℕ) (go : Answer ℕ → Option Thread) (e : cells.Effect) →
      (steps.settled c x b go e).did ≡ did.Stopped →
      e ≡ cells.Stops
  settled_stops b go (cells.Answers d y) h = absurd (replied_not d b y (go y) h)
  settled_stops b go cells.Waits h = cc
  settled_stops b go cells.Stops h = refl
  settled_stops b go cells.Unfit h = cc

  stops_by : (d : Move) → (steps.performed c t x d).did ≡ did.Stopped → StopsBy c t d
  stops_by (Silent s) h = absurd cc
  stops_by Still h = absurd cc
  stops_by (MoveAsks b go) h = record {
    action = b;
    go = go;
    asks = refl;
    stops = settled_stops b go (cells.effect c t b) h;
  }
  stops_by (Plans go) h = absurd (planned_not (go t) h)

-- ---- a thread in the midst of an operation of a lock doesn't

module _ (p : Code) (n : ℕ) (y : Thread) (w : ℕ) where
  abbrev after_see : Option Instruction
  after_see = slice_get p.instructions (y.top.counter + 1)

  takes : (x : ℕ) → is_take x after_see ≡ true → IsPlanned (thread_move p (seen y w))
  takes x shape = subst (λ o. IsPlanned (fetched_move p (seen y w) o)) (sym (take_there x after_see shape)) tt

  drops : (x : ℕ) → is_drop x after_see ≡ true → IsPlanned (thread_move p (seen y w))
  drops x shape = subst (λ o. IsPlanned (fetched_move p (seen y w) o)) (sym (drop_there x after_see shape)) tt

  locks : (x : ℕ) → is_locking p x y.top.counter ≡ true → IsPlanned (thread_move p (seen y w))
  locks x shape = takes x (and_both (is_take x after_see)
      (is_back_to y.top.counter (slice_get p.instructions (y.top.counter + 1 + 1))) shape).0

  -- once it has seen the word of a lock, it has a plan with that
  seen_plans : (b : Action ℕ) (go : Answer ℕ → Option Thread) →
      Beginning p n y b go →
      IsPlanned (thread_move p (seen y w))
  seen_plans (act.Lock a) go h = locks 1 h.0.shaped
  seen_plans (act.TryLock a) go h = takes 2 h.0.shaped
  seen_plans (act.Unlock a) go h = drops 0 h.0.shaped
  seen_plans (act.LockMonitor a) go h = locks 4 h.0.shaped
  seen_plans (act.UnlockMonitor a) go h = drops 1 h.0.shaped
  seen_plans (act.ReadField o i) go h = absurd h
  seen_plans (act.WriteField o i v) go h = absurd h
  seen_plans (act.ReadItem o i) go h = absurd h
  seen_plans (act.WriteItem o i v) go h = absurd h
  seen_plans (act.ReadName o) go h = absurd h
  seen_plans (act.WriteName o v) go h = absurd h
  seen_plans (act.New o) go h = absurd h
  seen_plans act.NewLock go h = absurd h
  seen_plans (act.NewMarkable v) go h = absurd h
  seen_plans (act.NewArray o) go h = absurd h
  seen_plans (act.IsHeld o) go h = absurd h
  seen_plans (act.ReadPair o) go h = absurd h
  seen_plans (act.SetPair o v) go h = absurd h
  seen_plans (act.SwapPair o v v') go h = absurd h
  seen_plans (act.AttemptMark o r m) go h = absurd h
  seen_plans act.Turn go h = absurd h
  seen_plans (act.Enter o) go h = absurd h
  seen_plans (act.Call o) go h = absurd h
  seen_plans (act.Return o v) go h = absurd h
  seen_plans (act.Trap o v) go h = absurd h

-- a step that is known doesn't stop
silent_not : (f : Did) → f ≡ did.Silent → f ≡ did.Stopped → ⊥
silent_not f e h = cc

-- so the thread is at the beginning of what it asks for
begins : (p : Code) (c : cells.Cells) (t : ℕ) (y x : Thread) →
    Middle p c t y x →
    (b : Action ℕ) (go : Answer ℕ → Option Thread) →
    thread_move p x ≡ MoveAsks b go →
    (one p t c x).did ≡ did.Stopped →
    x ≡ y
begins p c t y x (Here e) b go em h = e
begins p c t y x (Saw r b' go' lock w em' planned on is sees own) b go em h =
    absurd (subst IsPlanned (sym (ap (thread_move p) is) ∙ em)
    (seen_plans p t y w b' go' (parts.there p t y b' go' planned em')))
begins p c t y x (Lost r a b' locks go' em' planned is) b go em h =
    let parts = locks.parts p t y go' (parts_are_there p t y b' go' planned em') in
    absurd (silent_not (one p t c x).did (ap (λ z. (one p t c z).did) is ∙ ap (λ o. o.did) (parts.0.back c)) h)
begins p c t y x (Told r z a w parts ey ex ek) b go em h =
    absurd (silent_not (one p t c x).did (ap (λ z. (one p t c z).did) ex ∙ ap (λ o. o.did) (parts.told c w ek)) h)

-- ---- the source would act, and has no room

module _ (file : File) (program : Program) (code : Code) (asks : Asks file program code) (sound : Means file program)
    (room : ℕ) (within : IsCells code room) where
  abbrev setting : Setting
  setting = record {
    file = file;
    program = program;
    code = code;
    asks = asks;
    sound = sound;
    room = room;
    small = within.most;
  }

  abbrev names : ℕ
  names = Following.names setting

  abbrev Follows : State → Machine → Type 0
  Follows = Following.Follows setting

  abbrev Each : (s : State) (m : Machine) → Follows s m → ℕ → Option Answers → Option Thread → Type 0
  Each s m h t o p = Following.Each setting m.cells h.sorts (renaming names s.store) t o p

  count : names ≡ length program.names
  count = length-map program.names _

  -- the acting steps of a schedule of instructions fit
  pub stays_within : (ts : List ℕ) → Fits file program room (to_source code room ts)
  stays_within ts =
      let h = follows_all file program code asks sound room within ts in
      let used = Following.used_length setting h.sorts (source_run file program (to_source code room ts)).store
      (machine_run (loaded code room) ts).cells h.holds in
      omega (arith, used, count)

  abbrev Lacks : State → ℕ → Type 0
  Lacks s t = LacksRoom program room (step file program s t)

  no_room : (st : Store) → room < names + total st.things → nat_le (length program.names + total st.things) room ≡ false
  no_room st h = (let same = count in grind (arith, nat_tests))

  module _ (s : State) (m : Machine) (h : Follows s m) (t : ℕ) (had : Answers) (at : slice_get s.answers t ≡ Some had)
      (start : has_started file program s t ≡ true) where
    -- a step of the source, by what the thread asks for
    step_is : (a : Action Value) (q : Sort) (d : Effect) →
        next file program t had ≡ Goes a q →
        effect file.classes s.store t a ≡ d →
        step file program s t ≡ performed s t a d
    step_is a q d goes does =
        let here : answers_of s t ≡ had = index_there s.answers t had [] at in
        ap (λ b. if b then step_of file s t (next file program t (answers_of s t)) else idle s) start
        ∙ ap (step_of file s t) (ap (next file program t) here ∙ goes) ∙ ap (performed s t a) does

    by_effect : (a : Action Value) (q : Sort) (d : Effect) →
        next file program t had ≡ Goes a q →
        effect file.classes s.store t a ≡ d →
        Agrees file.classes (Following.named setting) code.sizes room h.sorts s.store a q d cells.Stops →
        Lacks s t
    by_effect a q Waits goes does agree = absurd agree
    by_effect a q (Does st y) goes does agree =
        subst (LacksRoom program room) (sym (step_is a q (Does st y) goes does)) (tt, no_room st agree)

    by_next : (b : Action ℕ) (go : Answer ℕ → Option Thread) (d : Next) →
        next file program t had ≡ d →
        ((a : Action Value) (q : Sort) → next file program t had ≡ Goes a q → ActionHas file program h.sorts t a q) →
        Following.InWords setting (renaming names s.store) d (Paused b go) →
        cells.effect m.cells t b ≡ cells.Stops →
        Lacks s t
    by_next b go Ended goes has w stops = absurd w
    by_next b go Trapped goes has w stops = absurd w
    by_next b go (Goes a q) goes has w stops =
        by_effect a q (effect file.classes s.store t a) goes refl
        (subst (Agrees file.classes (Following.named setting) code.sizes room h.sorts s.store a q
        (effect file.classes s.store t a)) (ap (cells.effect m.cells t) (sym w) ∙ stops)
        (Following.agree_here setting s m h t a q (has a q goes)))

  by_thread : (s : State) (m : Machine) (h : Follows s m) (t : ℕ) (x : Thread) (o : Option Answers) →
      slice_get s.answers t ≡ o →
      x.mode ≡ mode.Running →
      has_started file program s t ≡ true →
      Each s m h t o (Some x) →
      (one code t m.cells x).did ≡ did.Stopped →
      Lacks s t
  by_thread s m h t x None at runs start each stopped = absurd each
  by_thread s m h t x (Some had) at runs start each stopped =
      let by : StopsBy m.cells t (thread_move code x) = stops_by m.cells t x (thread_move code x) stopped in
      let is : x ≡ each.3 = begins code m.cells t each.3 x each.5 by.action by.go by.asks stopped in
      let pause : Following.stands setting t each.3 ≡ Paused by.action by.go = ap (Following.stands setting t) (sym is)
      ∙ asking code t (most_silent code) x by.action by.go runs by.asks in
      by_next s m h t had at start by.action by.go (next file program t had) refl
      (λ a q goes. sound.sound h.sorts t had a q each.2 goes)
      (subst (λ z. Following.InWords setting (renaming names s.store) (next file program t had) z) pause
      (Following.stands_so setting h.sorts s.store m.cells h.holds t had x each)) by.stops

  idle_not : (f : Did) → f ≡ did.Idle → f ≡ did.Stopped → ⊥
  idle_not f e h = cc

  module _ (s : State) (m : Machine) (h : Follows s m) (goes : m.stopped ≡ false) (t : ℕ) where
    by_due : (x : Thread) →
        slice_get m.threads t ≡ Some x →
        (b : Bool) →
        is_due m.threads t x ≡ b →
        (due_step m t x b).did ≡ did.Stopped →
        Lacks s t
    by_due x there false due stopped = absurd (idle_not did.Idle refl stopped)
    by_due x there true due stopped =
        let start = Following.started_back setting s m h t x due in
        by_thread s m h t x (slice_get s.answers t) refl start.0 start.1
        (subst (λ p. Each s m h t (slice_get s.answers t) p) there (h.each t))
        (ap (λ p. (steps.performed m.cells t x (thread_move p x)).did) (sym h.same_code) ∙ stopped)

    by_place : (o : Option Thread) →
        slice_get m.threads t ≡ o →
        (machine.step_of m t o).did ≡ did.Stopped →
        Lacks s t
    by_place None there stopped = absurd (idle_not did.Idle refl stopped)
    by_place (Some x) there stopped =
        by_due x there (is_due m.threads t x) refl (ap (λ b. (open_step m t x b).did) (sym goes) ∙ stopped)

    pub stops_now : (machine_step m t).did ≡ did.Stopped → Lacks s t
    stops_now stopped = by_place (slice_get m.threads t) refl stopped

    goes_due : (x : Thread) (b : Bool) →
        (due_step m t x b).did ≡ did.Silent →
        (due_step m t x b).machine.stopped ≡ false
    goes_due x false silent = goes
    goes_due x true silent = ap machine.stops silent

    goes_place : (o : Option Thread) →
        (machine.step_of m t o).did ≡ did.Silent →
        (machine.step_of m t o).machine.stopped ≡ false
    goes_place None silent = goes
    goes_place (Some x) silent =
        ap (λ b. (open_step m t x b).machine.stopped) goes
        ∙ goes_due x (is_due m.threads t x) (ap (λ b. (open_step m t x b).did) (sym goes) ∙ silent)

    -- a silent step doesn't stop the machine, and leaves the source where it is
    pub still_goes : (machine_step m t).did ≡ did.Silent → (machine_step m t).machine.stopped ≡ false
    still_goes silent = goes_place (slice_get m.threads t) silent

    pub still_follows : (machine_step m t).did ≡ did.Silent → Follows s (machine_step m t).machine
    still_follows silent =
        subst (λ f. StepBack.BackStep setting s m t (stepped_so t (machine_step m t).machine f)) silent
        (StepBack.step_back setting s m t h)

  pub stops_after : (n : ℕ) (s : State) (m : Machine) →
      Follows s m →
      m.stopped ≡ false →
      (t : ℕ) →
      first_did n m t ≡ did.Stopped →
      Lacks s t
  stops_after zero s m h goes t stopped = absurd (silent_not did.Silent refl stopped)
  stops_after (suc n) s m h goes t stopped =
      by_first (machine_step m t).did refl
      (λ e. stops_after n s (machine_step m t).machine (still_follows s m h goes t e) (still_goes s m h goes t e) t)
      stopped
    where
      by_first : (f : Did) →
          (machine_step m t).did ≡ f →
          ((machine_step m t).did ≡ did.Silent → first_did n (machine_step m t).machine t ≡ did.Stopped → Lacks s t) →
          or_later f (first_did n (machine_step m t).machine t) ≡ did.Stopped →
          Lacks s t
      by_first did.Silent e later is = later e is
      by_first did.Stopped e later is = stops_now s m h goes t e
      by_first (did.Acted a y) e later is = absurd cc
      by_first did.Waits e later is = absurd cc
      by_first did.Idle e later is = absurd cc

-- ---- the laws

module _ (file : File) (program : Program) (code : Code) (asks : Asks file program code) (sound : Means file program)
  where
    pub within_right : StaysWithin file program code
    within_right room within ts = stays_within file program code asks sound room within ts

    pub stops_right : StopsForRoom file program code
    stops_right room within ts goes n t stopped =
        stops_after file program code asks sound room within n (source_run file program (to_source code room ts))
        (machine_run (loaded code room) ts) (follows_all file program code asks sound room within ts) goes t stopped
