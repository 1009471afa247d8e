-- A thread of the machine between two acting instructions, and a thread that is fed.
use Rattle.std.proofs.Common.{◌≡◌, ℕ, zero, suc, Bool, true, false, List, [], ◌∷◌, ◌++◌, Option, refl, sym, ap, ◌∙◌}
use Rattle.std.proofs.Common.{subst, ◌⊎◌, inl, inr, if◌then◌else◌}
use Rattle.ls_events.specs.declared.action.Action.{Action}
use Rattle.ls_events.specs.declared.action.Answer.{Answer}
use Rattle.ls_code.specs.Code.{Code}
use Rattle.ls_code.specs.Thread.{Thread}
use Rattle.ls_code.specs.Cells.{Cells}
use Rattle.ls_code.specs.Steps.{Move, Silent, Still, Asks, Plans, thread_move, step_result, planned, performed}
use Rattle.ls_code.specs.declared.step.Did.TheVariants as did
use Rattle.ls_code.specs.Fed.{Pause, Paused, Passes, IsOver, IsStuck, TooLong}
use Rattle.ls_code.specs.declared.step.Mode.{Mode}
use Rattle.ls_code.specs.declared.step.Mode.TheVariants as mode
use Rattle.ls_code.specs.Reading.{read_move, whole_move, begins_early, carry, advance, quiet, quiet_from, resume}
use Rattle.ls_preservation.specs.Parts.{IsPlanned}
use Rattle.ls_preservation.proofs.ReadPlans.{plan_all}

-- a pause that isn't for too long a silence
abbrev pub IsLoud : Pause → Type 0
IsLoud (Paused a go) = Unit {0}
IsLoud (Passes t) = Unit {0}
IsLoud (IsOver m) = Unit {0}
IsLoud IsStuck = Unit {0}
IsLoud TooLong = ⊥

module _ (p : Code) (number : ℕ) where
  -- if both ways on agree
  abbrev Later : (Thread → Pause) → (Thread → Pause) → Type 0
  Later f g = (y : Thread) → IsLoud (f y) → g y ≡ f y

  stay_move : (m m' e : Bool) (d : Move) (f g : Thread → Pause) →
      (m ≡ true → m' ≡ true) →
      Later f g →
      IsLoud (carry m e d f) →
      carry m' e d g ≡ carry m e d f
  stay_move m m' e (Silent t) f g up ih l = ih t l
  stay_move m m' e Still f g up ih l = refl
  stay_move true m' true (Asks a go) f g up ih l = ap (λ b. if b then Paused a go else TooLong) (up refl)
  stay_move false m' true (Asks a go) f g up ih l = absurd l
  stay_move m m' false (Asks a go) f g up ih l = refl
  stay_move m m' e (Plans go) f g up ih l = refl

  stay_mode : (m m' : Bool) (z : Mode) (t : Thread) (f g : Thread → Pause) →
      (m ≡ true → m' ≡ true) →
      Later f g →
      IsLoud (advance p number m z t f) →
      advance p number m' z t g ≡ advance p number m z t f
  stay_mode m m' mode.Running t f g up ih l = stay_move m m' (begins_early (thread_move p t)) (whole_move p number t) f
      g up ih l
  stay_mode m m' mode.Ended t f g up ih l = refl
  stay_mode m m' mode.Trapped t f g up ih l = refl

  stay : (n : ℕ) (x : Thread) → IsLoud (quiet p number n x) → quiet p number (suc n) x ≡ quiet p number n x
  stay zero x l = stay_mode false true x.mode x (λ s. TooLong) (quiet p number zero) (λ e. refl) (λ y h. absurd h) l
  stay (suc n) x l = stay_mode true true x.mode x (quiet p number n) (quiet p number (suc n)) (λ e. refl)
      (λ y h. stay n y h) l

  -- with no silent step left; one silent step, and the rest
  pub at_end : (x : Thread) →
      x.mode ≡ mode.Running →
      quiet p number zero x ≡ carry false (begins_early (thread_move p x)) (whole_move p number x) (λ s. TooLong)
  at_end x r = ap (λ m. advance p number false m x (λ s. TooLong)) r

  -- one instruction of a running thread
  pub more : (n : ℕ) (x : Thread) →
      x.mode ≡ mode.Running →
      quiet p number (suc n) x ≡ carry true (begins_early (thread_move p x)) (whole_move p number x) (quiet p number n)
  more n x r = ap (λ m. advance p number true m x (quiet p number n)) r

  -- a silent step stays on the way
  pub silent_keeps : (n : ℕ) (x x' : Thread) →
      x.mode ≡ mode.Running →
      whole_move p number x ≡ Silent x' →
      IsLoud (quiet p number n x) →
      quiet p number n x' ≡ quiet p number n x
  silent_keeps n x x' r e l =
      sym (ap (λ d. carry true (begins_early (thread_move p x)) d (quiet p number n)) e) ∙ sym (more n x r) ∙ stay n x l

  -- a thread that asks for an action by one instruction, or is over
  pub asking : (n : ℕ) (x : Thread) (a : Action ℕ) (go : Answer ℕ → Option Thread) →
      x.mode ≡ mode.Running →
      thread_move p x ≡ Asks a go →
      quiet p number n x ≡ Paused a go
  asking zero x a go r e = at_end x r ∙ ap (λ d. carry false (begins_early d) (read_move p number x d) (λ s. TooLong)) e
  asking (suc n) x a go r e = more n x r ∙ ap (λ d. carry true (begins_early d) (read_move p number x d)
      (quiet p number n)) e

  -- a thread that has ended pauses as over
  pub ended : (n : ℕ) (x : Thread) → x.mode ≡ mode.Ended → quiet p number n x ≡ IsOver mode.Ended
  ended zero x r = ap (λ m. advance p number false m x (λ s. TooLong)) r
  ended (suc n) x r = ap (λ m. advance p number true m x (quiet p number n)) r

  -- a thread that was trapped pauses as over
  pub trapped : (n : ℕ) (x : Thread) → x.mode ≡ mode.Trapped → quiet p number n x ≡ IsOver mode.Trapped
  trapped zero x r = ap (λ m. advance p number false m x (λ s. TooLong)) r
  trapped (suc n) x r = ap (λ m. advance p number true m x (quiet p number n)) r

  -- a thread without a move is stuck
  pub still : (n : ℕ) (x : Thread) →
      x.mode ≡ mode.Running →
      whole_move p number x ≡ Still →
      quiet p number n x ≡ IsStuck
  still zero x r e = at_end x r ∙ ap (λ d. carry false (begins_early (thread_move p x)) d (λ s. TooLong)) e
  still (suc n) x r e = more n x r ∙ ap (λ d. carry true (begins_early (thread_move p x)) d (quiet p number n)) e

  -- a thread that asks for an action, by one instruction or by several
  asked_loud : (b e : Bool) (a : Action ℕ) (go : Answer ℕ → Option Thread) (f : Thread → Pause) →
      IsLoud (carry b e (Asks a go) f) →
      carry b e (Asks a go) f ≡ Paused a go
  asked_loud true true a go f l = refl
  asked_loud false true a go f l = absurd l
  asked_loud b false a go f l = refl

  -- a thread at an operation pauses there
  pub beginning : (n : ℕ) (x : Thread) (a : Action ℕ) (go : Answer ℕ → Option Thread) →
      x.mode ≡ mode.Running →
      whole_move p number x ≡ Asks a go →
      IsLoud (quiet p number n x) →
      quiet p number n x ≡ Paused a go
  beginning zero x a go r e l =
      let is : quiet p number zero x ≡ carry false (begins_early (thread_move p x)) (Asks a go) (λ s. TooLong) = at_end
      x r ∙ ap (λ d. carry false (begins_early (thread_move p x)) d (λ s. TooLong)) e in
      is ∙ asked_loud false (begins_early (thread_move p x)) a go (λ s. TooLong) (subst IsLoud is l)
  beginning (suc n) x a go r e l =
      let is : quiet p number (suc n) x ≡ carry true (begins_early (thread_move p x)) (Asks a go) (quiet p number n) =
      more n x r ∙ ap (λ d. carry true (begins_early (thread_move p x)) d (quiet p number n)) e in
      is ∙ asked_loud true (begins_early (thread_move p x)) a go (quiet p number n) (subst IsLoud is l)

  -- what the reading calls silent, is silent
  abbrev Tells : Thread → Move → Move → Type 0
  Tells x d (Silent x') = (c : Cells) → performed c number x d ≡ step_result x' c did.Silent
  Tells x d _ = Unit {0}

  move_tells : (x : Thread) (d : Move) → Tells x d (read_move p number x d)
  move_tells x (Silent x') = λ c. refl
  move_tells x Still = tt
  move_tells x (Asks a go) = tt
  move_tells x (Plans go) = plan_all p number (Tells x (Plans go)) (record { still = tt; asks = λ a go. tt }) x
      (go number) (λ u e c. ap (planned c number x) e)

  -- what the reading calls silent, is silent on the machine
  pub silent_is : (x x' : Thread) (c : Cells) →
      whole_move p number x ≡ Silent x' →
      performed c number x (thread_move p x) ≡ step_result x' c did.Silent
  silent_is x x' c e = (subst (Tells x (thread_move p x)) e (move_tells x (thread_move p x))) c

  -- an instruction that asks by itself, or that begins an operation
  pub asked_by : (x : Thread) (b : Action ℕ) (go : Answer ℕ → Option Thread) (d : Move) →
      read_move p number x d ≡ Asks b go →
      (d ≡ Asks b go) ⊎ IsPlanned d
  asked_by x b go (Silent x') e = cc
  asked_by x b go Still e = cc
  asked_by x b go (Asks a g) e = inl e
  asked_by x b go (Plans g) e = inr tt

  -- the reading has no plans
  abbrev pub NoPlan : Move → Type 0
  NoPlan (Plans go) = ⊥
  NoPlan _ = Unit {0}

  -- a move of the reading has no plan
  pub none : (x : Thread) (d : Move) → NoPlan (read_move p number x d)
  none x (Silent x') = tt
  none x Still = tt
  none x (Asks a go) = tt
  none x (Plans go) = plan_all p number NoPlan (record { still = tt; asks = λ a go. tt }) x (go number) (λ u e. tt)

  module _ (bound : ℕ) where
    -- after one answer
    abbrev pub told_one : Pause → Answer ℕ → Pause
    told_one (Paused a go) w = quiet_from p number bound (go w)
    told_one (Passes t) w = Passes t
    told_one (IsOver m) w = IsOver m
    told_one IsStuck w = IsStuck
    told_one TooLong w = TooLong

    -- after all answers
    abbrev pub stand : List (Answer ℕ) → Pause → Pause
    stand [] q = q
    stand (w ∷ ws) q = stand ws (told_one q w)

    -- nothing comes after what isn't a pause for an answer
    over_stays : (ws : List (Answer ℕ)) (m : Mode) → stand ws (IsOver m) ≡ IsOver m
    over_stays [] m = refl
    over_stays (w ∷ ws) m = over_stays ws m

    stuck_stays : (ws : List (Answer ℕ)) → stand ws IsStuck ≡ IsStuck
    stuck_stays [] = refl
    stuck_stays (w ∷ ws) = stuck_stays ws

    long_stays : (ws : List (Answer ℕ)) → stand ws TooLong ≡ TooLong
    long_stays [] = refl
    long_stays (w ∷ ws) = long_stays ws

    passes_stays : (ws : List (Answer ℕ)) (t : Option Thread) → stand ws (Passes t) ≡ Passes t
    passes_stays [] t = refl
    passes_stays (w ∷ ws) t = passes_stays ws t

    -- how a fed thread goes on
    pub resumed : (ws : List (Answer ℕ)) (q : Pause) →
        resume p number bound ws q ≡ resume p number bound [] (stand ws q)
    resumed [] q = refl
    resumed (w ∷ ws) (Paused a go) = resumed ws (quiet_from p number bound (go w))
    resumed (w ∷ ws) (Passes t) = sym (ap (resume p number bound []) (passes_stays ws t))
    resumed (w ∷ ws) (IsOver m) = sym (ap (resume p number bound []) (over_stays ws m))
    resumed (w ∷ ws) IsStuck = sym (ap (resume p number bound []) (stuck_stays ws))
    resumed (w ∷ ws) TooLong = sym (ap (resume p number bound []) (long_stays ws))

    -- one more answer is told at the end
    pub stand-append : (ws : List (Answer ℕ)) (w : Answer ℕ) (q : Pause) →
        stand (ws ++ w ∷ []) q ≡ told_one (stand ws q) w
    stand-append [] w q = refl
    stand-append (v ∷ ws) w q = stand-append ws w (told_one q v)

    -- where a thread is on its way to its next action
    abbrev pub Stands : Thread → Pause
    Stands x = quiet p number bound x
