-- The pauses to which a thread is read, and the pauses of its own instructions.
use Rattle.std.proofs.Common.{◌≡◌, ℕ, zero, suc, ◌≤◌, true, false, List, [], ◌∷◌, Option, refl, sym, ap, ◌∙◌, subst}
use Rattle.std.proofs.Common.{arith, ◌⊎◌, inl, inr, All}
use Rattle.ls_events.specs.declared.action.Action.{Action}
use Rattle.ls_events.specs.declared.action.Action.TheVariants as act
use Rattle.ls_events.specs.declared.action.Answer.{Answer}
use Rattle.ls_code.specs.Code.{Code}
use Rattle.ls_code.specs.Thread.{Thread}
use Rattle.ls_code.specs.Steps.{Move, Silent, Still, Asks, Plans, thread_move}
use Rattle.ls_code.specs.Fed.{Pause, Paused, Passes, IsOver, IsStuck, TooLong, Lost, carry_plan}
use Rattle.ls_code.specs.Fed as own
use Rattle.ls_code.specs.declared.step.Mode.{Mode}
use Rattle.ls_code.specs.declared.step.Mode.TheVariants as mode
use Rattle.ls_code.specs.Reading.{is_locking, is_trying, is_unlocking, read_move, whole_move, begins_early, after_lock}
use Rattle.ls_code.specs.Reading.{after_try, after_unlock, carry, quiet, resume}
use Rattle.ls_preservation.specs.Parts.{IsPlanned}
use Rattle.ls_preservation.specs.ByWords.{IsExchanged, is_on_lock}
use Rattle.ls_preservation.proofs.ReadPlans.{plan_all}
use Rattle.ls_preservation.proofs.Feeding.{IsLoud, NoPlan, none, asked_by, asking, ended, trapped, still, beginning}
use Rattle.ls_preservation.proofs.Feeding.{at_end, more}
use Rattle.ls_preservation.proofs.PartsThere.{Begins, Beginning, there}
use Rattle.ls_preservation.proofs.Exchanging.{asks_plainly}
use Rattle.ls_preservation.proofs.OwnParts.{rest, at}

-- How a pause of the reading and a pause of the thread's own instructions belong together. Both are over, or both ask
-- for the same. Or the reading begins an operation, and the instructions begin it too. Or the reading is lost.
pub data Meets (p : Code) (n bound : ℕ) (r o : Pause) : Type 0 where
  BothOver : (m : Mode) → r ≡ IsOver m → o ≡ IsOver m → Meets p n bound r o
  BothAct : (a : Action ℕ) (go : Answer ℕ → Option Thread) →
      is_on_lock a ≡ false →
      r ≡ Paused a go →
      o ≡ Paused a go →
      Meets p n bound r o
  LockBegins : (y : Thread) (a j : ℕ) →
      y.mode ≡ mode.Running →
      Begins p n y 1 a (act.Lock a) (is_locking p 1 y.top.counter) →
      r ≡ Paused (act.Lock a) (after_lock p n y) →
      o ≡ own.quiet p n j y →
      Meets p n bound r o
  TryBegins : (y : Thread) (a j : ℕ) →
      y.mode ≡ mode.Running →
      Begins p n y 2 a (act.TryLock a) (is_trying p y.top.counter) →
      r ≡ Paused (act.TryLock a) (after_try p n y) →
      o ≡ own.quiet p n j y →
      Meets p n bound r o
  UnlockBegins : (y : Thread) (a j : ℕ) →
      y.mode ≡ mode.Running →
      Begins p n y 3 a (act.Unlock a) (is_unlocking p 0 y.top.counter) →
      r ≡ Paused (act.Unlock a) (after_unlock p y) →
      o ≡ own.quiet p n j y →
      Meets p n bound r o
  MonitorBegins : (y : Thread) (a j : ℕ) →
      y.mode ≡ mode.Running →
      Begins p n y 4 a (act.LockMonitor a) (is_locking p 4 y.top.counter) →
      r ≡ Paused (act.LockMonitor a) (after_lock p n y) →
      o ≡ own.quiet p n j y →
      Meets p n bound r o
  LeaveBegins : (y : Thread) (a j : ℕ) →
      y.mode ≡ mode.Running →
      Begins p n y 5 a (act.UnlockMonitor a) (is_unlocking p 1 y.top.counter) →
      r ≡ Paused (act.UnlockMonitor a) (after_unlock p y) →
      o ≡ own.quiet p n j y →
      Meets p n bound r o
  Loses : ((xs : List (Answer ℕ)) → resume p n bound xs r ≡ Lost) → Meets p n bound r o

module _ (p : Code) (number : ℕ) where
  -- what the reading calls silent, is silent
  abbrev Tells : Thread → Move → Move → Type 0
  Tells x d (Silent u) = (g : Thread → Pause) → own.carry number d g ≡ g u
  Tells x d _ = Unit {0}

  move_tells : (x : Thread) (d : Move) → Tells x d (read_move p number x d)
  move_tells x (Silent u) = λ g. refl
  move_tells x Still = tt
  move_tells x (Asks a go) = tt
  move_tells x (Plans go) = plan_all p number (Tells x (Plans go)) (record { still = tt; asks = λ a go. tt }) x
      (go number) (λ u e g. ap (λ q. carry_plan q g) e)

  silent_own : (x u : Thread) →
      whole_move p number x ≡ Silent u →
      (g : Thread → Pause) →
      own.carry number (thread_move p x) g ≡ g u
  silent_own x u e = subst (Tells x (thread_move p x)) e (move_tells x (thread_move p x))

module _ (p : Code) (n bound : ℕ) where
  -- a stuck thread is lost, whatever it is fed
  pub stuck_lost : (xs : List (Answer ℕ)) → resume p n bound xs IsStuck ≡ Lost
  stuck_lost [] = refl
  stuck_lost (x ∷ xs) = refl

  long_lost : (xs : List (Answer ℕ)) → resume p n bound xs TooLong ≡ Lost
  long_lost [] = refl
  long_lost (x ∷ xs) = refl

  abbrev pub MeetsSo : Pause → Pause → Type 0
  MeetsSo r o = Meets p n bound r o

  begun : (y : Thread) (a : Action ℕ) (go : Answer ℕ → Option Thread) (j : ℕ) (r o : Pause) →
      y.mode ≡ mode.Running →
      Beginning p n y a go →
      r ≡ Paused a go →
      o ≡ own.quiet p n j y →
      MeetsSo r o
  begun y (act.Lock a) go j r o run b er eo = LockBegins y a j run b.0 (er ∙ ap (Paused (act.Lock a)) b.1) eo
  begun y (act.TryLock a) go j r o run b er eo = TryBegins y a j run b.0 (er ∙ ap (Paused (act.TryLock a)) b.1) eo
  begun y (act.Unlock a) go j r o run b er eo = UnlockBegins y a j run b.0 (er ∙ ap (Paused (act.Unlock a)) b.1) eo
  begun y (act.LockMonitor a) go j r o run b er eo = MonitorBegins y a j run b.0
      (er ∙ ap (Paused (act.LockMonitor a)) b.1) eo
  begun y (act.UnlockMonitor a) go j r o run b er eo = LeaveBegins y a j run b.0
      (er ∙ ap (Paused (act.UnlockMonitor a)) b.1) eo
  begun y b go j r o run h er eo = absurd h

  own_over : (k : ℕ) (t : Thread) (m : Mode) →
      t.mode ≡ m →
      ((f : Thread → Pause) → own.advance p n m t f ≡ IsOver m) →
      own.quiet p n k t ≡ IsOver m
  own_over zero t m e h = ap (λ m. own.advance p n m t (λ s. TooLong)) e ∙ h (λ s. TooLong)
  own_over (suc k) t m e h = ap (λ m. own.advance p n m t (own.quiet p n k)) e ∙ h (own.quiet p n k)

  module _ (exchanged : All IsExchanged p.instructions) (k j : ℕ) (t : Thread)
      (silent : (u : Thread) → t.mode ≡ mode.Running → whole_move p n t ≡ Silent u →
      MeetsSo (quiet p n k t) (own.quiet p n j t)) where
    by_pause : (a : Action ℕ) (go : Answer ℕ → Option Thread) →
        t.mode ≡ mode.Running →
        whole_move p n t ≡ Asks a go →
        Beginning p n t a go →
        (q : Pause) →
        quiet p n k t ≡ q →
        MeetsSo (quiet p n k t) (own.quiet p n j t)
    by_pause a go run e b (Paused c g) is = begun t a go j _ _ run b
        (beginning p n k t a go run e (subst IsLoud (sym is) tt)) refl
    by_pause a go run e b (Passes s) is = begun t a go j _ _ run b
        (beginning p n k t a go run e (subst IsLoud (sym is) tt)) refl
    by_pause a go run e b (IsOver m) is = begun t a go j _ _ run b
        (beginning p n k t a go run e (subst IsLoud (sym is) tt)) refl
    by_pause a go run e b IsStuck is = begun t a go j _ _ run b
        (beginning p n k t a go run e (subst IsLoud (sym is) tt)) refl
    by_pause a go run e b TooLong is = Loses (λ xs. ap (resume p n bound xs) is ∙ long_lost xs)

    by_asking : (a : Action ℕ) (go : Answer ℕ → Option Thread) →
        t.mode ≡ mode.Running →
        whole_move p n t ≡ Asks a go →
        (thread_move p t ≡ Asks a go) ⊎ IsPlanned (thread_move p t) →
        MeetsSo (quiet p n k t) (own.quiet p n j t)
    by_asking a go run e (inl is) =
        BothAct a go (asks_plainly p t a go exchanged is) (asking p n k t a go run is)
        (at p n j t run ∙ ap (λ d. own.carry n d (rest p n j)) is)
    by_asking a go run e (inr planned) = by_pause a go run e (there p n t a go planned e) (quiet p n k t) refl

    by_whole : t.mode ≡ mode.Running → (w : Move) → whole_move p n t ≡ w → MeetsSo (quiet p n k t) (own.quiet p n j t)
    by_whole run Still e = Loses (λ xs. ap (resume p n bound xs) (still p n k t run e) ∙ stuck_lost xs)
    by_whole run (Silent u) e = silent u run e
    by_whole run (Asks a go) e = by_asking a go run e (asked_by p n t a go (thread_move p t) e)
    by_whole run (Plans go) e = absurd (subst (NoPlan p n) e (none p n t (thread_move p t)))

    pub by_mode : (m : Mode) → t.mode ≡ m → MeetsSo (quiet p n k t) (own.quiet p n j t)
    by_mode mode.Running e = by_whole e (whole_move p n t) refl
    by_mode mode.Ended e = BothOver mode.Ended (ended p n k t e) (own_over j t mode.Ended e (λ f. refl))
    by_mode mode.Trapped e = BothOver mode.Trapped (trapped p n k t e) (own_over j t mode.Trapped e (λ f. refl))

  -- a thread's pauses by the reading and by its own instructions belong together
  pub meets : All IsExchanged p.instructions →
      (k j : ℕ) (t : Thread) →
      k ≤ j →
      MeetsSo (quiet p n k t) (own.quiet p n j t)
  meets exchanged zero j t le =
      by_mode exchanged zero j t (λ u run e. Loses (λ xs.
      ap (resume p n bound xs)
      (at_end p n t run ∙ ap (λ w. carry false (begins_early (thread_move p t)) w (λ s. TooLong)) e) ∙
      long_lost xs)) t.mode refl
  meets exchanged (suc k) zero t le = absurd (omega arith)
  meets exchanged (suc k) (suc j) t le =
      by_mode exchanged (suc k) (suc j) t (λ u run e.
      subst (λ r. MeetsSo r (own.quiet p n (suc j) t)) (sym (more p n k t run ∙
      ap (λ w. carry true (begins_early (thread_move p t)) w (quiet p n k)) e))
      (subst (MeetsSo (quiet p n k u)) (sym (at p n (suc j) t run ∙ silent_own p n t u e (own.quiet p n j)))
      (meets exchanged k j u (omega arith)))) t.mode refl
