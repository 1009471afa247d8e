-- An instruction of the machine that acts, and the step of the source that it is.
use Rattle.std.proofs.Common.{◌≡◌, ℕ, zero, suc, true, false, Option, Some, refl, sym, ap, ◌∙◌, subst, slice_get}
use Rattle.ls_events.specs.declared.value.Value.{Value}
use Rattle.ls_events.specs.declared.value.ValueType.{ValueType}
use Rattle.ls_events.specs.declared.action.Action.{Action}
use Rattle.ls_events.specs.declared.action.Answer.{Answer}
use Rattle.ls_meaning.specs.declared.sort.Sort.{Sort}
use Rattle.ls_meaning.specs.Course.{Answers}
use Rattle.ls_meaning.specs.Store.{Thing}
use Rattle.ls_meaning.specs.Effect.{Effect, Waits, Does, effect}
use Rattle.ls_meaning.specs.Threads.{Next, Goes, Ended, Trapped, next}
use Rattle.ls_meaning.specs.Steps.{Stepped}
use Rattle.ls_meaning.specs.Steps as source
use Rattle.ls_meaning.specs.Runs.{State, has_started, source_step}
use Rattle.ls_code.specs.Code.{Start}
use Rattle.ls_code.specs.Thread.{Thread}
use Rattle.ls_code.specs.Cells.{Cells}
use Rattle.ls_code.specs.Cells as cells
use Rattle.ls_code.specs.Steps.{Asks as MoveAsks, thread_move}
use Rattle.ls_code.specs.Steps as machine_steps
use Rattle.ls_code.specs.Fed.{Paused}
use Rattle.ls_code.specs.Locks.{taken_of}
use Rattle.ls_code.specs.declared.lock_word.Taken.TheVariants as taken
use Rattle.ls_code.specs.declared.step.Did.TheVariants as did
use Rattle.ls_code.specs.Reading.{seen, full_word, whole_move}
use Rattle.ls_preservation.specs.Parts.{IsPlanned}
use Rattle.ls_preservation.proofs.Setting.{Setting}
use Rattle.ls_preservation.proofs.LockWords.{fresh_now}
use Rattle.ls_preservation.proofs.LockCells.{full_is}
use Rattle.ls_preservation.proofs.Others.{Sees, IsHeldType, lock_on, lock_word, word_there}
use Rattle.ls_preservation.proofs.Middle.{Middle, Here, Saw, OwnFor}
use Rattle.ls_code.specs.Machine.{Machine, Entry}
use Rattle.ls_code.specs.Machine as machine
use Rattle.ls_code.specs.declared.step.Mode.TheVariants as mode
use Rattle.ls_preservation.specs.Sorts.{Names, ActionHas, Known}
use Rattle.ls_preservation.proofs.Runs.{stepped_so, md}
use Rattle.ls_preservation.proofs.Following.{line, told_to, moved}
use Rattle.ls_preservation.proofs.Following
use Rattle.ls_preservation.proofs.BothAct
use Rattle.ls_preservation.proofs.LiftBack
use Rattle.ls_preservation.proofs.Feeding.{IsLoud, asking}
use Rattle.ls_preservation.proofs.Effects.{thing_there, renaming, Agrees}

-- what a step came to, as a run takes it
abbrev pub so : ℕ → machine.Stepped → Stepped Machine Entry
so t r = stepped_so t r.machine r.did

module _ (setting : Setting) where
  open setting use {file, program, code, sound, room}
  open Following.notions setting use {named, names, bound, stands, words, fed_to, Each, Follows, InWords, Live, Later}
  open Following.notions setting use {write, acts_as}

  -- what the source does for one step of the machine
  abbrev pub BackStep : State → Machine → ℕ → Stepped Machine Entry → Type 0
  BackStep s m t d = LiftBack.Back State Machine (source.Entry Value) Entry (source_step file program) md
      (λ f. f.thread) write Follows Later Live s m t d

  back_effect : (s : State) (m : Machine) (h : Follows s m) (t : ℕ) (had : Answers) (x : Thread) →
      has_started file program s t ≡ true →
      slice_get s.answers t ≡ Some had →
      slice_get m.threads t ≡ Some x →
      (each : Each m.cells h.sorts (renaming names s.store) t (Some had) (Some x)) →
      (a : Action Value) (q : Sort) →
      next file program t had ≡ Goes a q →
      ActionHas file program h.sorts t a q →
      (go : Answer ℕ → Option Thread) →
      stands t each.3 ≡ Paused (acts_as s a) go →
      (d : Effect) (e : cells.Effect) →
      effect file.classes s.store t a ≡ d →
      Agrees file.classes named code.sizes room h.sorts s.store a q d e →
      BackStep s m t (so t (moved m t (machine_steps.settled m.cells x (acts_as s a) go e)))
  back_effect s m h t had x start at there each a q goes has go acts d cells.Waits de ag = BothAct.went_on setting s m
      h t had x x false _ at there each
  back_effect s m h t had x start at there each a q goes has go acts d cells.Stops de ag = BothAct.went_on setting s m
      h t had x x true _ at there each
  back_effect s m h t had x start at there each a q goes has go acts Waits cells.Unfit de ag = absurd ag
  back_effect s m h t had x start at there each a q goes has go acts (Does st' y) cells.Unfit de ag = absurd ag
  back_effect s m h t had x start at there each a q goes has go acts Waits (cells.Answers c' w) de ag = absurd ag
  back_effect s m h t had x start at there each a q goes has go acts (Does st' y) (cells.Answers c' w) de ag =
      let both = BothAct.both_act setting s m h t had x at there each a q goes has go acts st' y c' w de (λ z. z)
      (λ y' e l. (y', refl, Here refl)) ag in
      subst (λ o. BackStep s m t (so t (moved m t (machine_steps.replied c' x (acts_as s a) w o)))) (sym both.1) (
        refl,
        (
          told_to s t had st' y,
          line t a y,
          BothAct.source_acts setting s t had a q st' y start at goes de,
          both.2 false _,
          both.3,
          both.4,
          both.5,
        ),
      )

  pub back_asked : (s : State) (m : Machine) (h : Follows s m) (t : ℕ) (had : Answers) (x : Thread) →
      has_started file program s t ≡ true →
      slice_get s.answers t ≡ Some had →
      slice_get m.threads t ≡ Some x →
      (each : Each m.cells h.sorts (renaming names s.store) t (Some had) (Some x)) →
      (b : Action ℕ) (go : Answer ℕ → Option Thread) →
      stands t each.3 ≡ Paused b go →
      (d : Next) →
      next file program t had ≡ d →
      InWords (renaming names s.store) d (Paused b go) →
      BackStep s m t (so t (moved m t (machine_steps.settled m.cells x b go (cells.effect m.cells t b))))
  back_asked s m h t had x start at there each b go acts Ended goes w = absurd w
  back_asked s m h t had x start at there each b go acts Trapped goes w = absurd w
  back_asked s m h t had x start at there each b go acts (Goes a q) goes w =
      let has : ActionHas file program h.sorts t a q = sound.sound h.sorts t had a q each.2 goes in
      subst (λ z. BackStep s m t (so t (moved m t (machine_steps.settled m.cells x z go (cells.effect m.cells t z)))))
      (sym w)
      (back_effect s m h t had x start at there each a q goes has go (acts ∙ ap (λ z. Paused z go) w)
      (effect file.classes s.store t a) _ refl (Following.agree_here setting s m h t a q has))

  -- the acting instruction of an operation
  abbrev Acting : State →
      Machine →
      ℕ →
      Action ℕ →
      (Answer ℕ → Option Thread) →
      Cells →
      Answer ℕ →
      (Thread → Thread) →
      Type 0
  Acting s m t b go c' w x_of = (y' : Thread) × (go w ≡ Some y') ×
      BackStep s m t (so t (moved m t (machine_steps.step_result (x_of y') c' (did.Acted b w))))

  abbrev pub Mids : ℕ → (Answer ℕ → Option Thread) → Cells → Answer ℕ → (Thread → Thread) → Type 0
  Mids t go c' w x_of = (y' : Thread) → go w ≡ Some y' → IsLoud (stands t y') →
      (y'' : Thread) × (stands t y'' ≡ stands t y') × Middle code c' t y'' (x_of y')

  acting_by : (s : State) (m : Machine) (h : Follows s m) (t : ℕ) (had : Answers) (x : Thread) →
      has_started file program s t ≡ true →
      slice_get s.answers t ≡ Some had →
      slice_get m.threads t ≡ Some x →
      (each : Each m.cells h.sorts (renaming names s.store) t (Some had) (Some x)) →
      (a : Action Value) (q : Sort) →
      next file program t had ≡ Goes a q →
      ActionHas file program h.sorts t a q →
      (go : Answer ℕ → Option Thread) →
      stands t each.3 ≡ Paused (acts_as s a) go →
      (c' : Cells) (w : Answer ℕ) (x_of : Thread → Thread) →
      Mids t go c' w x_of →
      (d : Effect) →
      effect file.classes s.store t a ≡ d →
      Agrees file.classes named code.sizes room h.sorts s.store a q d (cells.Answers c' w) →
      Acting s m t (acts_as s a) go c' w x_of
  acting_by s m h t had x start at there each a q goes has go acts c' w x_of mid Waits de ag = absurd ag
  acting_by s m h t had x start at there each a q goes has go acts c' w x_of mid (Does st' y) de ag =
      let both = BothAct.both_act setting s m h t had x at there each a q goes has go acts st' y c' w de x_of mid ag
      in (
        both.0,
        both.1,
        (
          refl,
          (
            told_to s t had st' y,
            line t a y,
            BothAct.source_acts setting s t had a q st' y start at goes de,
            both.2 false _,
            both.3,
            both.4,
            both.5,
          ),
        ),
      )

  acting : (s : State) (m : Machine) (h : Follows s m) (t : ℕ) (had : Answers) (x : Thread) →
      has_started file program s t ≡ true →
      slice_get s.answers t ≡ Some had →
      slice_get m.threads t ≡ Some x →
      (each : Each m.cells h.sorts (renaming names s.store) t (Some had) (Some x)) →
      (b : Action ℕ) (go : Answer ℕ → Option Thread) →
      stands t each.3 ≡ Paused b go →
      (c' : Cells) (w : Answer ℕ) →
      cells.effect m.cells t b ≡ cells.Answers c' w →
      (x_of : Thread → Thread) →
      Mids t go c' w x_of →
      (d : Next) →
      next file program t had ≡ d →
      InWords (renaming names s.store) d (Paused b go) →
      Acting s m t b go c' w x_of
  acting s m h t had x start at there each b go acts c' w ee x_of mid Ended goes iw = absurd iw
  acting s m h t had x start at there each b go acts c' w ee x_of mid Trapped goes iw = absurd iw
  acting s m h t had x start at there each b go acts c' w ee x_of mid (Goes a q) goes iw =
      let has : ActionHas file program h.sorts t a q = sound.sound h.sorts t had a q each.2 goes in
      subst (λ z. Acting s m t z go c' w x_of) (sym iw)
      (acting_by s m h t had x start at there each a q goes has go (acts ∙ ap (λ z. Paused z go) iw) c' w x_of mid
      (effect file.classes s.store t a) refl
      (subst (λ e. Agrees file.classes named code.sizes room h.sorts s.store a q (effect file.classes s.store t a) e)
      (ap (cells.effect m.cells t) (sym iw) ∙ ee) (Following.agree_here setting s m h t a q has)))

  -- a thread that runs, by what it does next
  pub standing : (t : ℕ) (x : Thread) (b : Action ℕ) (go : Answer ℕ → Option Thread) →
      x.mode ≡ mode.Running →
      thread_move code x ≡ MoveAsks b go →
      stands t x ≡ Paused b go
  standing t x b go runs em = asking code t bound x b go runs em

  module _ (s : State) (m : Machine) (h : Follows s m) (t : ℕ) (had : Answers)
      (start : has_started file program s t ≡ true) (at : slice_get s.answers t ≡ Some had) where
    abbrev Step : machine_steps.StepResult → Type 0
    Step o = BackStep s m t (so t (moved m t o))

    -- a silent instruction: y begins the operation, and x' is where the thread is after it
    abbrev EachOf : Thread → Type 0
    EachOf x = Each m.cells h.sorts (renaming names s.store) t (Some had) (Some x)

    pub comes_to : (x x' : Thread) →
        slice_get m.threads t ≡ Some x →
        (each : EachOf x) →
        (y : Thread) →
        stands t y ≡ stands t each.3 →
        Middle code m.cells t y x' →
        Step (machine_steps.step_result x' m.cells did.Silent)
    comes_to x x' there each y same mid = BothAct.went_on setting s m h t had x x' false _ at there
        (each.0, each.1, each.2, y, same ∙ each.4, mid)

    module _ (y : Thread) (runs : y.mode ≡ mode.Running) (b : Action ℕ) (go : Answer ℕ → Option Thread)
        (em : whole_move code t y ≡ MoveAsks b go) (planned : IsPlanned (thread_move code y)) (x : Thread)
        (there : slice_get m.threads t ≡ Some x) (start_ : Start) (es : slice_get code.starts t ≡ Some start_)
        (known : Known file program h.sorts t had) (way : stands t y ≡ fed_to t start_
        (words (renaming names s.store) had)) (mid : Middle code m.cells t y x) where
      abbrev each : EachOf x
      each = (start_, es, known, y, way, mid)

      abbrev acts : stands t y ≡ Paused b go
      acts = Following.began setting h.sorts s.store m.cells h.holds t had x each runs b go em

      pub acts_here : (c' : Cells) (w : Answer ℕ) →
          cells.effect m.cells t b ≡ cells.Answers c' w →
          (x_of : Thread → Thread) →
          Mids t go c' w x_of →
          Acting s m t b go c' w x_of
      acts_here c' w ee x_of mids =
          acting s m h t had x start at there each b go acts c' w ee x_of mids (next file program t had) refl
          (subst (λ q. InWords (renaming names s.store) (next file program t had) q) acts
          (Following.stands_so setting h.sorts s.store m.cells h.holds t had x each))

      -- if the thread goes on as its origin does
      pub acts_so : (c' : Cells) (w : Answer ℕ) →
          cells.effect m.cells t b ≡ cells.Answers c' w →
          (x' : Thread) →
          go w ≡ Some x' →
          Step (machine_steps.step_result x' c' (did.Acted b w))
      acts_so c' w ee x' eg =
          let r = acts_here c' w ee (λ z. z) (λ y' e l. (y', refl, Here refl)) in
          let same : r.0 ≡ x' = (let z : Some r.0 ≡ Some x' = sym r.1 ∙ eg in cc) in
          subst (λ z. Step (machine_steps.step_result z c' (did.Acted b w))) same r.2

      pub acts_thrown : (c' : Cells) (w : Answer ℕ) →
          cells.effect m.cells t b ≡ cells.Answers c' w →
          (o : Option Thread) →
          go w ≡ o →
          Step (machine_steps.ended_so c' x o (did.Acted b w))
      acts_thrown c' w ee o eg =
          let r = acts_here c' w ee (λ z. z) (λ y' e l. (y', refl, Here refl)) in
          subst (λ z. Step (machine_steps.ended_so c' x z (did.Acted b w))) (sym r.1 ∙ eg) r.2

      -- the lock, and its word
      abbrev pub Word : ℕ → Type 0
      Word a = (o : Thing) × (taken_of (lock_word o) t ≡ taken.TooMany → lock_word o ≡ full_word t) ×
          (cells.cell_at m.cells a 0 ≡ Some (lock_word o))

      named_word : (n a : ℕ) (q : ValueType) → IsHeldType q → Names h.sorts n q → renaming names s.store n ≡ a → Word a
      named_word zero a q held is e = absurd is
      named_word (suc k) a q held is e =
          let r = thing_there file.classes h.sorts s.store.things h.sorts k q h.holds.typed is in (
            r.0,
            full_is file.classes h.sorts r.0 q t r.2,
            ap (λ z. cells.cell_at m.cells z 0) (sym e) ∙
                word_there file.classes named code.sizes room h.sorts s.store m.cells h.holds k r.0 q r.1 held r.2,
          )

      pub word_of_lock : (a : ℕ) → lock_on b ≡ Some a → Word a
      word_of_lock a on = (let l = Following.lock_of setting h.sorts s.store m.cells h.holds t had x each runs b go em a
          on in named_word l.0 a l.1 l.2 l.3 l.4)

      pub sees_now : (a w : ℕ) → cells.cell_at m.cells a 0 ≡ Some w → Sees m.cells t a w
      sees_now a w ec = (w, ec, fresh_now t w)

      pub saw : (a w : ℕ) →
          lock_on b ≡ Some a →
          Sees m.cells t a w →
          OwnFor t w b →
          Step (machine_steps.step_result (seen y w) m.cells did.Silent)
      saw a w on sees own = comes_to x (seen y w) there each y refl (Saw runs b go a w em planned on refl sees own)
