-- A thread fed with words does the same as one fed with their answers: what this says at each place, and plain actions.
use Rattle.std.proofs.Common.{◌≡◌, ◌≢◌, ℕ, suc, ◌==◌, Bool, true, false, List, [], ◌∷◌, Option, Some, None, refl, sym}
use Rattle.std.proofs.Common.{ap, ◌∙◌, subst, arith, if◌then◌else◌, All}
use Rattle.std.proofs.lemmas.Bool.Decides.{nat_tests}
use Rattle.ls_events.specs.declared.kind.Kind.TheVariants.{Error}
use Rattle.ls_events.specs.declared.action.Action.{Action}
use Rattle.ls_events.specs.declared.action.Action.TheVariants as act
use Rattle.ls_events.specs.declared.action.Answer.{Answer}
use Rattle.ls_events.specs.declared.action.Answer.TheVariants.{Fails}
use Rattle.ls_code.specs.Code.{Code}
use Rattle.ls_code.specs.Thread.{Thread}
use Rattle.ls_code.specs.Exchanges.{throwing, saw, took}
use Rattle.ls_code.specs.Fed.{Pause, Paused, IsOver, Lost, ending, told_word}
use Rattle.ls_code.specs.Fed as own
use Rattle.ls_code.specs.Reading.{is_locking, is_trying, is_unlocking, seen, full_word, after_lock, after_try}
use Rattle.ls_code.specs.Reading.{after_unlock, quiet_from, resume}
use Rattle.ls_code.specs.declared.step.Mode.{Mode}
use Rattle.ls_code.specs.declared.step.Mode.TheVariants as mode
use Rattle.ls_preservation.specs.ByWords.{IsExchanged, is_on_lock, Awaited, Waits, Exchanges, Read, in_front, ends_with}
use Rattle.ls_preservation.specs.ByWords.{sees, on_word, come_to}
use Rattle.ls_preservation.proofs.PartsThere.{Begins}
use Rattle.ls_preservation.proofs.OwnParts.{sees_is}
use Rattle.ls_preservation.proofs.Meets.{Meets, BothOver, BothAct, LockBegins, TryBegins, UnlockBegins, MonitorBegins}
use Rattle.ls_preservation.proofs.Meets.{LeaveBegins, Loses, meets, stuck_lost}

same_nat : (a b : ℕ) → (a == b) ≡ true → a ≡ b
same_nat a b e = grind (arith, nat_tests)

in_front_some : (x : Answer ℕ) (q : Read) (answers : List (Answer ℕ)) →
    in_front x q ≡ Some answers →
    (ys : List (Answer ℕ)) × (q ≡ Some ys) × (answers ≡ x ∷ ys)
in_front_some x None answers e = cc
in_front_some x (Some ys) answers e = (let z : x ∷ ys ≡ answers = cc in (ys, refl, sym z))

no_more : (answers : List (Answer ℕ)) → Some [] ≡ Some answers → [] ≡ answers
no_more answers e = cc

module _ (p : Code) (n b : ℕ) (whole : All IsExchanged p.instructions) where
  abbrev bound : ℕ
  bound = suc (suc b)

  abbrev pub Same : List (Answer ℕ) → Awaited → Pause → Pause → Type 0
  Same xs awaited r o =
      (answers : List (Answer ℕ)) → come_to p n bound xs awaited ≡ Some answers → resume p n bound answers r ≢ Lost →
      own.resume p n bound xs o ≡ resume p n bound answers r

  -- a thread at the SEE of its operation, and one that has seen a word
  abbrev pub LockSees : List (Answer ℕ) → Type 0
  LockSees xs =
      (y : Thread) (a : ℕ) → y.mode ≡ mode.Running → Begins p n y 1 a (act.Lock a) (is_locking p 1 y.top.counter) →
      Same xs (Waits (Paused (act.Lock a) (after_lock p n y))) (Paused (act.Lock a) (after_lock p n y))
      (Paused (act.Lock a) (told_word (saw p y n 1 (act.Lock a))))

  abbrev pub LockTakes : List (Answer ℕ) → Type 0
  LockTakes xs =
      (y : Thread) (a w : ℕ) → y.mode ≡ mode.Running → Begins p n y 1 a (act.Lock a) (is_locking p 1 y.top.counter) →
      Same xs (Exchanges (act.Lock a) (after_lock p n y)) (Paused (act.Lock a) (after_lock p n y))
      (Paused (act.Lock a) (told_word (took (seen y w) 1 (act.Lock a))))

  abbrev pub TrySees : List (Answer ℕ) → Type 0
  TrySees xs =
      (y : Thread) (a : ℕ) → y.mode ≡ mode.Running → Begins p n y 2 a (act.TryLock a) (is_trying p y.top.counter) →
      Same xs (Waits (Paused (act.TryLock a) (after_try p n y))) (Paused (act.TryLock a) (after_try p n y))
      (Paused (act.TryLock a) (told_word (saw p y n 2 (act.TryLock a))))

  abbrev pub TryTakes : List (Answer ℕ) → Type 0
  TryTakes xs =
      (y : Thread) (a w : ℕ) → y.mode ≡ mode.Running → Begins p n y 2 a (act.TryLock a) (is_trying p y.top.counter) →
      Same xs (Exchanges (act.TryLock a) (after_try p n y)) (Paused (act.TryLock a) (after_try p n y))
      (Paused (act.TryLock a) (told_word (took (seen y w) 2 (act.TryLock a))))

  abbrev pub UnlockSees : List (Answer ℕ) → Type 0
  UnlockSees xs =
      (y : Thread) (a : ℕ) → y.mode ≡ mode.Running → Begins p n y 3 a (act.Unlock a) (is_unlocking p 0 y.top.counter) →
      Same xs (Waits (Paused (act.Unlock a) (after_unlock p y))) (Paused (act.Unlock a) (after_unlock p y))
      (Paused (act.Unlock a) (told_word (saw p y n 3 (act.Unlock a))))

  abbrev pub MonitorSees : List (Answer ℕ) → Type 0
  MonitorSees xs =
      (y : Thread) (a : ℕ) → y.mode ≡ mode.Running → Begins p n y 4 a (act.LockMonitor a) (is_locking p 4 y.top.counter)
      →
      Same xs (Waits (Paused (act.LockMonitor a) (after_lock p n y))) (Paused (act.LockMonitor a) (after_lock p n y))
      (Paused (act.LockMonitor a) (told_word (saw p y n 4 (act.LockMonitor a))))

  abbrev pub MonitorTakes : List (Answer ℕ) → Type 0
  MonitorTakes xs =
      (y : Thread) (a w : ℕ) → y.mode ≡ mode.Running → Begins p n y 4 a (act.LockMonitor a)
      (is_locking p 4 y.top.counter) →
      Same xs (Exchanges (act.LockMonitor a) (after_lock p n y)) (Paused (act.LockMonitor a) (after_lock p n y))
      (Paused (act.LockMonitor a) (told_word (took (seen y w) 4 (act.LockMonitor a))))

  abbrev pub LeaveSees : List (Answer ℕ) → Type 0
  LeaveSees xs =
      (y : Thread) (a : ℕ) → y.mode ≡ mode.Running → Begins p n y 5 a (act.UnlockMonitor a)
      (is_unlocking p 1 y.top.counter) →
      Same xs (Waits (Paused (act.UnlockMonitor a) (after_unlock p y)))
      (Paused (act.UnlockMonitor a) (after_unlock p y)) (Paused (act.UnlockMonitor a)
      (told_word (saw p y n 5 (act.UnlockMonitor a))))

  abbrev Acts : List (Answer ℕ) → Type 0
  Acts xs = (a : Action ℕ) (go : Answer ℕ → Option Thread) → is_on_lock a ≡ false →
      Same xs (Waits (Paused a go)) (Paused a go) (Paused a go)

  abbrev AllWait : List (Answer ℕ) → Type 0
  AllWait xs = (r o : Pause) → Meets p n bound r o → Same xs (Waits r) r o

  pub record Known (xs : List (Answer ℕ)) : Type 0 where
    pub waits : AllWait xs
    pub lock_sees : LockSees xs
    pub lock_takes : LockTakes xs
    pub try_sees : TrySees xs
    pub try_takes : TryTakes xs
    pub unlock_sees : UnlockSees xs
    pub monitor_sees : MonitorSees xs
    pub monitor_takes : MonitorTakes xs
    pub leave_sees : LeaveSees xs

  -- if the words are used up
  pub none_left : (awaited : Awaited) (a : Action ℕ) (go f : Answer ℕ → Option Thread) →
      Same [] awaited (Paused a go) (Paused a f)
  none_left awaited a go f answers e ne = subst (λ z. own.Asked a ≡ resume p n bound z (Paused a go))
      (no_more answers e) refl

  over_is : (xs : List (Answer ℕ)) (m : Mode) → resume p n bound xs (IsOver m) ≡ ending m
  over_is [] m = refl
  over_is (x ∷ xs) m = refl

  own_over_is : (xs : List (Answer ℕ)) (m : Mode) → own.resume p n bound xs (IsOver m) ≡ ending m
  own_over_is [] m = refl
  own_over_is (x ∷ xs) m = refl

  moved : (xs : List (Answer ℕ)) (r r' o o' : Pause) →
      r ≡ r' →
      o ≡ o' →
      Same xs (Waits r') r' o' →
      Same xs (Waits r) r o
  moved xs r r' o o' er eo h = subst (λ z. Same xs (Waits z) z o) (sym er) (subst (Same xs (Waits r') r') (sym eo) h)

  pub waits_by : (xs : List (Answer ℕ)) →
      Acts xs →
      LockSees xs →
      TrySees xs →
      UnlockSees xs →
      MonitorSees xs →
      LeaveSees xs →
      AllWait xs
  waits_by xs acts lock try unlock monitor leave r o (BothOver m er eo) answers e ne =
      ap (own.resume p n bound xs) eo ∙ own_over_is xs m ∙ sym (ap (resume p n bound answers) er ∙ over_is answers m)
  waits_by xs acts lock try unlock monitor leave r o (BothAct a go plain er eo) answers e ne = moved xs r _ o _ er eo
      (acts a go plain) answers e ne
  waits_by xs acts lock try unlock monitor leave r o (LockBegins y a j run g er eo) answers e ne =
      moved xs r _ o _ er (eo ∙ sees_is p n y a run 1 (act.Lock a) (is_locking p 1 y.top.counter) g j) (lock y a run g)
      answers e ne
  waits_by xs acts lock try unlock monitor leave r o (TryBegins y a j run g er eo) answers e ne =
      moved xs r _ o _ er (eo ∙ sees_is p n y a run 2 (act.TryLock a) (is_trying p y.top.counter) g j) (try y a run g)
      answers e ne
  waits_by xs acts lock try unlock monitor leave r o (UnlockBegins y a j run g er eo) answers e ne =
      moved xs r _ o _ er (eo ∙ sees_is p n y a run 3 (act.Unlock a) (is_unlocking p 0 y.top.counter) g j)
      (unlock y a run g) answers e ne
  waits_by xs acts lock try unlock monitor leave r o (MonitorBegins y a j run g er eo) answers e ne =
      moved xs r _ o _ er (eo ∙ sees_is p n y a run 4 (act.LockMonitor a) (is_locking p 4 y.top.counter) g j)
      (monitor y a run g) answers e ne
  waits_by xs acts lock try unlock monitor leave r o (LeaveBegins y a j run g er eo) answers e ne =
      moved xs r _ o _ er (eo ∙ sees_is p n y a run 5 (act.UnlockMonitor a) (is_unlocking p 1 y.top.counter) g j)
      (leave y a run g) answers e ne
  waits_by xs acts lock try unlock monitor leave r o (Loses f) answers e ne = absurd (ne (f answers))

  -- after an action
  passed_act : (o : Pause) (a : Action ℕ) (f : Answer ℕ → Option Thread) → o ≡ Paused a f → own.passed p n bound o ≡ o
  passed_act o a f e = ap (own.passed p n bound) e ∙ sym e

  passed_over : (o : Pause) (m : Mode) → o ≡ IsOver m → own.passed p n bound o ≡ o
  passed_over o m e = ap (own.passed p n bound) e ∙ sym e

  module _ (xs : List (Answer ℕ)) (known : Known xs) where
    pub passing : (r o : Pause) → Meets p n bound r o → Same xs (Waits r) r (own.passed p n bound o)
    passing r o (BothOver m er eo) answers e ne = ap (own.resume p n bound xs) (passed_over o m eo) ∙
        known.waits r o (BothOver m er eo) answers e ne
    passing r o (BothAct a go plain er eo) answers e ne = ap (own.resume p n bound xs) (passed_act o a go eo) ∙
        known.waits r o (BothAct a go plain er eo) answers e ne
    passing r o (LockBegins y a j run g er eo) answers e ne =
        ap (own.resume p n bound xs) (passed_act o (act.Lock a) (told_word (saw p y n 1 (act.Lock a)))
        (eo ∙ sees_is p n y a run 1 (act.Lock a) (is_locking p 1 y.top.counter) g j))
        ∙ known.waits r o (LockBegins y a j run g er eo) answers e ne
    passing r o (TryBegins y a j run g er eo) answers e ne =
        ap (own.resume p n bound xs) (passed_act o (act.TryLock a) (told_word (saw p y n 2 (act.TryLock a)))
        (eo ∙ sees_is p n y a run 2 (act.TryLock a) (is_trying p y.top.counter) g j))
        ∙ known.waits r o (TryBegins y a j run g er eo) answers e ne
    passing r o (UnlockBegins y a j run g er eo) answers e ne =
        ap (own.resume p n bound xs) (passed_act o (act.Unlock a) (told_word (saw p y n 3 (act.Unlock a)))
        (eo ∙ sees_is p n y a run 3 (act.Unlock a) (is_unlocking p 0 y.top.counter) g j))
        ∙ known.waits r o (UnlockBegins y a j run g er eo) answers e ne
    passing r o (MonitorBegins y a j run g er eo) answers e ne =
        ap (own.resume p n bound xs) (passed_act o (act.LockMonitor a) (told_word (saw p y n 4 (act.LockMonitor a)))
        (eo ∙ sees_is p n y a run 4 (act.LockMonitor a) (is_locking p 4 y.top.counter) g j))
        ∙ known.waits r o (MonitorBegins y a j run g er eo) answers e ne
    passing r o (LeaveBegins y a j run g er eo) answers e ne =
        ap (own.resume p n bound xs) (passed_act o (act.UnlockMonitor a) (told_word (saw p y n 5 (act.UnlockMonitor a)))
        (eo ∙ sees_is p n y a run 5 (act.UnlockMonitor a) (is_unlocking p 1 y.top.counter) g j))
        ∙ known.waits r o (LeaveBegins y a j run g er eo) answers e ne
    passing r o (Loses f) answers e ne = absurd (ne (f answers))

    pub goes : (s : Option Thread) →
        Same xs (Waits (quiet_from p n bound s)) (quiet_from p n bound s) (own.quiet_from p n bound s)
    goes None answers e ne = absurd (ne (stuck_lost p n bound answers))
    goes (Some u) answers e ne = known.waits _ _ (meets p n bound whole bound bound u (omega arith)) answers e ne

    pub goes_past : (s : Option Thread) →
        Same xs (Waits (quiet_from p n bound s)) (quiet_from p n bound s)
        (own.passed p n bound (own.quiet_from p n bound s))
    goes_past None answers e ne = absurd (ne (stuck_lost p n bound answers))
    goes_past (Some u) answers e ne = passing _ _ (meets p n bound whole bound bound u (omega arith)) answers e ne

    -- an action is over with this answer
    pub close : (a : Action ℕ) (go : Answer ℕ → Option Thread) (v : Answer ℕ) (o : Pause) →
        Same xs (Waits (quiet_from p n bound (go v))) (quiet_from p n bound (go v)) o →
        (answers : List (Answer ℕ)) → ends_with p n bound go v (come_to p n bound xs) ≡ Some answers →
        resume p n bound answers (Paused a go) ≢ Lost → own.resume p n bound xs o ≡ resume p n bound answers
        (Paused a go)
    close a go v o h answers e ne =
        let r = in_front_some v (come_to p n bound xs (Waits (quiet_from p n bound (go v)))) answers e in
        subst (λ z. resume p n bound z (Paused a go) ≢ Lost →
        own.resume p n bound xs o ≡ resume p n bound z (Paused a go)) (sym r.2) (λ ne. h r.0 r.1 ne) ne

    -- a lock that is held too often
    pub full : (a : Action ℕ) (go : Answer ℕ → Option Thread) (y : Thread) (w : ℕ) →
        Same xs (Waits (quiet_from p n bound (go (Fails Error)))) (quiet_from p n bound (go (Fails Error)))
        (own.quiet_from p n bound (throwing p (seen y (full_word n)) Error)) →
        (c : Bool) → (w == full_word n) ≡ c → (answers : List (Answer ℕ)) →
        (if c then ends_with p n bound go (Fails Error) (come_to p n bound xs) else None) ≡ Some answers →
        resume p n bound answers (Paused a go) ≢ Lost →
        own.resume p n bound xs (own.quiet_from p n bound (throwing p (seen y w) Error)) ≡ resume p n bound answers
        (Paused a go)
    full a go y w h false ec answers e ne = cc
    full a go y w h true ec answers e ne =
        subst (λ z. own.resume p n bound xs (own.quiet_from p n bound (throwing p (seen y z) Error)) ≡ resume p n bound
        answers (Paused a go)) (sym (same_nat w (full_word n) ec))
        (close a go (Fails Error) _ h answers e ne)

    -- a plain action
    pub acts : (x : Answer ℕ) → Acts (x ∷ xs)
    acts x a go plain answers e ne =
        let e1 : ends_with p n bound go x (come_to p n bound xs) ≡ Some answers =
        sym (ap (λ c. if c then on_word x (λ word. sees p n bound a go word (come_to p n bound xs)) else
        ends_with p n bound go x (come_to p n bound xs)) plain) ∙ e in
        close a go x (own.passed p n bound (own.quiet_from p n bound (go x))) (goes_past (go x)) answers e1 ne
