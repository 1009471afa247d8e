-- One step of the machine, and what the source does for it.
use Rattle.std.proofs.Common.{◌≡◌, ℕ, ◌⊎◌, inl, inr, Bool, true, false, Option, Some, None, refl, sym, ap, ◌∙◌, subst}
use Rattle.std.proofs.Common.{slice_get}
use Rattle.ls_meaning.specs.Course.{Answers}
use Rattle.ls_meaning.specs.Threads.{next}
use Rattle.ls_meaning.specs.Steps.{Stepped}
use Rattle.ls_meaning.specs.Runs.{State, has_started}
use Rattle.ls_code.specs.Code.{Start}
use Rattle.ls_code.specs.Thread.{Thread}
use Rattle.ls_code.specs.Steps.{Move, Silent, Still, Asks as MoveAsks, Plans, thread_move}
use Rattle.ls_code.specs.Steps as machine_steps
use Rattle.ls_code.specs.Reading.{exchanged, word_of_another, whole_move}
use Rattle.ls_preservation.specs.Parts.{one, IsPlanned}
use Rattle.ls_preservation.proofs.Setting.{Setting}
use Rattle.ls_preservation.proofs.PartsThere.{parts_are_there}
use Rattle.ls_preservation.proofs.LockCells.{another_is}
use Rattle.ls_preservation.proofs.Middle.{Middle, Here, Saw, Lost, Told}
use Rattle.ls_code.specs.Machine.{Machine, Entry, is_due, due_step, open_step}
use Rattle.ls_code.specs.Machine as machine
use Rattle.ls_code.specs.declared.step.Mode.TheVariants as mode
use Rattle.ls_preservation.specs.Sorts.{Known}
use Rattle.ls_preservation.proofs.Runs.{md}
use Rattle.ls_preservation.proofs.Following.{moved}
use Rattle.ls_preservation.proofs.Following
use Rattle.ls_preservation.proofs.Feeding.{silent_keeps, asked_by, silent_is, still, NoPlan, none}
use Rattle.ls_preservation.proofs.Effects.{renaming}
use Rattle.ls_preservation.proofs.ActingBack.{so}
use Rattle.ls_preservation.proofs.ActingBack
use Rattle.ls_preservation.proofs.LocksBack

module _ (setting : Setting) where
  open setting use {file, program, code}
  open Following.notions setting use {names, bound, stands, words, fed_to, Each, Follows, InWords}

  -- what the source does for one step of the machine
  abbrev pub BackStep : State → Machine → ℕ → Stepped Machine Entry → Type 0
  BackStep = ActingBack.BackStep setting

  module _ (s : State) (m : Machine) (h : Follows s m) (t : ℕ) (had : Answers)
      (start : has_started file program s t ≡ true) (at : slice_get s.answers t ≡ Some had) (y : Thread)
      (runs : y.mode ≡ mode.Running) (x : Thread) (there : slice_get m.threads t ≡ Some x) (start_ : Start)
      (es : slice_get code.starts t ≡ Some start_) (known : Known file program h.sorts t had)
      (way : stands t y ≡ fed_to t start_ (words (renaming names s.store) had)) (mid : Middle code m.cells t y x) where
    abbrev Comes : machine_steps.StepResult → Type 0
    Comes o = BackStep s m t (so t (moved m t o))

    back_whole : x ≡ y → (d : Move) → whole_move code t y ≡ d → Comes (one code t m.cells x)
    back_whole here Still em =
        absurd (Following.not_stuck setting (renaming names s.store) (next file program t had)
        (subst (λ q. InWords (renaming names s.store) (next file program t had) q) (still code t bound y runs em)
        (Following.stands_so setting h.sorts s.store m.cells h.holds t had x (start_, es, known, y, way, mid))))
    back_whole here (Plans go) em = absurd (subst (NoPlan code t) em (none code t y (thread_move code y)))
    back_whole here (Silent x') em =
        subst Comes (sym (ap (one code t m.cells) here ∙ silent_is code t y x' m.cells em))
        (ActingBack.comes_to setting s m h t had start at x x' there (start_, es, known, y, way, mid) x'
        (silent_keeps code t bound y x' runs em (Following.loud_so setting h.sorts s.store m.cells h.holds t had x
        (start_, es, known, y, way, mid))) (Here refl))
    back_whole here (MoveAsks b go) em = by_instruction (asked_by code t y b go (thread_move code y) em)
      where
        by_instruction : (thread_move code y ≡ MoveAsks b go) ⊎ IsPlanned (thread_move code y) →
            Comes (one code t m.cells x)
        by_instruction (inl et) =
            let acts = Following.began setting h.sorts s.store m.cells h.holds t had x (start_, es, known, y, way, mid)
            runs b go em in
            subst Comes (sym (ap (λ z. machine_steps.performed m.cells t x (thread_move code z)) here ∙
            ap (machine_steps.performed m.cells t x) et))
            (ActingBack.back_asked setting s m h t had x start at there (start_, es, known, y, way, mid) b go acts
            (next file program t had) refl
            (subst (λ q. InWords (renaming names s.store) (next file program t had) q) acts
            (Following.stands_so setting h.sorts s.store m.cells h.holds t had x (start_, es, known, y, way, mid))))
        by_instruction (inr planned) = LocksBack.see_any setting s m h t had start at y runs x there start_ es known way
            mid b go em planned (parts_are_there code t y b go planned em) here

  back_middle : (s : State) (m : Machine) (h : Follows s m) (t : ℕ) (had : Answers) →
      has_started file program s t ≡ true →
      slice_get s.answers t ≡ Some had →
      (x : Thread) →
      x.mode ≡ mode.Running →
      slice_get m.threads t ≡ Some x →
      (each : Each m.cells h.sorts (renaming names s.store) t (Some had) (Some x)) →
      (mid : Middle code m.cells t each.3 x) →
      BackStep s m t (so t (moved m t (one code t m.cells x)))
  back_middle s m h t had start at x runs there each (Here e) =
      back_whole s m h t had start at each.3 (sym (ap (λ z. z.mode) e) ∙ runs) x there each.0 each.1 each.2 each.4
      (Here e) e (whole_move code t each.3) refl
  back_middle s m h t had start at x runs there each (Saw r b go lock w em planned on is sees own) =
      LocksBack.take_any setting s m h t had start at each.3 r x there each.0 each.1 each.2 each.4
      (Saw r b go lock w em planned on is sees own) b go em planned (parts_are_there code t each.3 b go planned em)
      lock w on is sees own
  back_middle s m h t had start at x runs there each (Lost r a b locks go em planned is) =
      let parts = locks.parts code t each.3 go (parts_are_there code t each.3 b go planned em) in
      LocksBack.back_lock setting s m h t had start at each.3 r x there each.0 each.1 each.2 each.4
      (Lost r a b locks go em planned is) a
      planned b locks go em parts.0 parts.1 is
  back_middle s m h t had start at x runs there each (Told r z a w parts ey ex ek) =
      let silent : whole_move code t each.3 ≡ Silent (exchanged z 0) = ap (whole_move code t) ey ∙
      parts.told_whole (word_of_another t) (another_is t) in
      subst (λ o. BackStep s m t (so t (moved m t o))) (sym (ap (one code t m.cells) ex ∙ parts.told m.cells w ek))
      (ActingBack.comes_to setting s m h t had start at x (exchanged z 0) there each (exchanged z 0)
      (silent_keeps code t bound each.3 (exchanged z 0) r silent
      (Following.loud_so setting h.sorts s.store m.cells h.holds t had x each)) (Here refl))

  back_move : (s : State) (m : Machine) (h : Follows s m) (t : ℕ) (had : Answers) (x : Thread) →
      x.mode ≡ mode.Running →
      has_started file program s t ≡ true →
      slice_get s.answers t ≡ Some had →
      slice_get m.threads t ≡ Some x →
      Each m.cells h.sorts (renaming names s.store) t (Some had) (Some x) →
      BackStep s m t (so t (moved m t (machine_steps.performed m.cells t x (thread_move code x))))
  back_move s m h t had x runs start at there each = back_middle s m h t had start at x runs there each each.5

  back_had : (s : State) (m : Machine) (h : Follows s m) (t : ℕ) (x : Thread) →
      x.mode ≡ mode.Running →
      has_started file program s t ≡ true →
      slice_get m.threads t ≡ Some x →
      (o : Option Answers) →
      slice_get s.answers t ≡ o →
      Each m.cells h.sorts (renaming names s.store) t o (Some x) →
      BackStep s m t (so t (moved m t (machine_steps.performed m.cells t x (thread_move code x))))
  back_had s m h t x runs start there None at each = absurd each
  back_had s m h t x runs start there (Some had) at each = back_move s m h t had x runs start at there each

  back_due : (s : State) (m : Machine) (h : Follows s m) (t : ℕ) (x : Thread) →
      slice_get m.threads t ≡ Some x →
      (b : Bool) →
      is_due m.threads t x ≡ b →
      BackStep s m t (so t (due_step m t x b))
  back_due s m h t x there false eb = h
  back_due s m h t x there true eb =
      let start = Following.started_back setting s m h t x eb in
      subst (λ p. BackStep s m t (so t (moved m t (machine_steps.performed m.cells t x (thread_move p x)))))
      (sym h.same_code) (back_had s m h t x start.0 start.1 there (slice_get s.answers t) refl
      (subst (λ p. Each m.cells h.sorts (renaming names s.store) t (slice_get s.answers t) p) there (h.each t)))

  back_open : (s : State) (m : Machine) (h : Follows s m) (t : ℕ) (x : Thread) →
      slice_get m.threads t ≡ Some x →
      (b : Bool) →
      BackStep s m t (so t (open_step m t x b))
  back_open s m h t x there true = h
  back_open s m h t x there false = back_due s m h t x there (is_due m.threads t x) refl

  back_there : (s : State) (m : Machine) (h : Follows s m) (t : ℕ) (o : Option Thread) →
      slice_get m.threads t ≡ o →
      BackStep s m t (so t (machine.step_of m t o))
  back_there s m h t None eo = h
  back_there s m h t (Some x) eo = back_open s m h t x eo m.stopped

  -- one step of the machine has its step of the source, or none
  pub step_back : (s : State) (m : Machine) (t : ℕ) → Follows s m → BackStep s m t (md m t)
  step_back s m t h = back_there s m h t (slice_get m.threads t) refl
