-- A word that a thread is fed in the midst of an operation on a lock.
use Rattle.std.proofs.Common.{◌≡◌, ◌≢◌, ℕ, suc, ◌+◌, ◌≤◌, ◌==◌, Bool, true, false, List, Some, refl, sym, ap, ◌∙◌}
use Rattle.std.proofs.Common.{subst, arith, slice_get, if◌then◌else◌, All}
use Rattle.ls_events.specs.declared.kind.Kind.TheVariants.{IllegalMonitorState, Error}
use Rattle.ls_events.specs.declared.action.Action.TheVariants as act
use Rattle.ls_events.specs.declared.action.Answer.{Answer}
use Rattle.ls_events.specs.declared.action.Answer.TheVariants.{Done, Gives, Fails}
use Rattle.ls_code.specs.Code.{Code}
use Rattle.ls_code.specs.Thread.{Thread, with_top}
use Rattle.ls_code.specs.Locks.{taken_of, is_own}
use Rattle.ls_code.specs.Moves.{discarded}
use Rattle.ls_code.specs.Exchanges.{Seen, Quietly, Reports, throwing, saw, with_word, replaced, taking_answer}
use Rattle.ls_code.specs.Steps.{Silent, thread_move}
use Rattle.ls_code.specs.Fed.{Paused, Lost, told_word, seen_thread}
use Rattle.ls_code.specs.Fed as own
use Rattle.ls_code.specs.Reading.{is_take, is_back_to, is_locking, is_trying, is_unlocking, seen, exchanged, full_word}
use Rattle.ls_code.specs.Reading.{word_of_another, after_lock, after_try, after_unlock, planned_move, read_move}
use Rattle.ls_code.specs.Reading.{whole_move, begins_early, carry, quiet, resume}
use Rattle.ls_code.specs.declared.step.Mode.TheVariants as mode
use Rattle.ls_code.specs.declared.instruction.Instruction.TheVariants as op
use Rattle.ls_code.specs.declared.lock_word.Taken.{Taken}
use Rattle.ls_code.specs.declared.lock_word.Taken.TheVariants as taken
use Rattle.ls_preservation.specs.ByWords.{IsExchanged, Waits, ends_with, seen_by_lock, seen_by_try, come_to}
use Rattle.ls_preservation.proofs.LockWords.{own_left}
use Rattle.ls_preservation.proofs.LockCells.{another_is}
use Rattle.ls_preservation.proofs.Codes.{take_there, back_there, drop_there}
use Rattle.ls_preservation.proofs.Feeding.{more}
use Rattle.ls_preservation.proofs.PartsThere.{and_both, take_move, take_plan, Begins}
use Rattle.ls_preservation.proofs.OwnParts.{sees_is, take_is, drop_is, back_is}
use Rattle.ls_preservation.proofs.Meets.{meets}
use Rattle.ls_preservation.proofs.SameFed.{Known}
use Rattle.ls_preservation.proofs.SameFed

module _ (p : Code) (n b : ℕ) (whole : All IsExchanged p.instructions) where
  abbrev bound : ℕ
  bound = suc (suc b)

  module _ (xs : List (Answer ℕ)) (known : Known p n b whole xs) where
    module _ (y : Thread) (a : ℕ) (run : y.mode ≡ mode.Running) where
      -- `lock()`
      module _ (g : Begins p n y 1 a (act.Lock a) (is_locking p 1 y.top.counter)) where
        lock_shape : (is_take 1 (slice_get p.instructions (y.top.counter + 1)) ≡ true) ×
            (is_back_to y.top.counter (slice_get p.instructions (y.top.counter + 1 + 1)) ≡ true)
        lock_shape = and_both (is_take 1 (slice_get p.instructions (y.top.counter + 1)))
            (is_back_to y.top.counter (slice_get p.instructions (y.top.counter + 1 + 1))) g.shaped

        again : (k : ℕ) →
            own.quiet p n (suc k) (exchanged y 0) ≡ Paused (act.Lock a) (told_word (saw p y n 1 (act.Lock a)))
        again k = back_is p n y a run (back_there y.top.counter _ lock_shape.1) k ∙
            sees_is p n y a run 1 (act.Lock a) (is_locking p 1 y.top.counter) g k

        pub lock_word : (w : ℕ) (t : Taken) →
            taken_of w n ≡ t →
            (answers : List (Answer ℕ)) →
            seen_by_lock p n bound (act.Lock a) (after_lock p n y) w t (come_to p n bound xs) ≡ Some answers →
            resume p n bound answers (Paused (act.Lock a) (after_lock p n y)) ≢ Lost →
            own.resume p n bound xs (own.passed p n bound (own.quiet p n bound (seen y w))) ≡ resume p n bound
            answers (Paused (act.Lock a) (after_lock p n y))
        lock_word w (taken.Taken next) et answers e ne =
            ap (λ o. own.resume p n bound xs (own.passed p n bound o))
            (take_is p n y a run 1 (act.Lock a) (is_locking p 1 y.top.counter) g (take_there 1 _ lock_shape.0) refl
            w (taken.Taken next) et bound)
            ∙ known.lock_takes y a w run g answers e ne
        lock_word w taken.Other et answers e ne =
            ap (λ o. own.resume p n bound xs (own.passed p n bound o))
            (take_is p n y a run 1 (act.Lock a) (is_locking p 1 y.top.counter) g (take_there 1 _ lock_shape.0) refl
            w taken.Other et bound ∙ again b)
            ∙ known.lock_sees y a run g answers e ne
        lock_word w taken.TooMany et answers e ne =
            ap (λ o. own.resume p n bound xs (own.passed p n bound o))
            (take_is p n y a run 1 (act.Lock a) (is_locking p 1 y.top.counter) g (take_there 1 _ lock_shape.0) refl
            w taken.TooMany et bound)
            ∙ SameFed.full p n b whole xs known (act.Lock a) (after_lock p n y) y w
            (SameFed.goes p n b whole xs known (throwing p (seen y (full_word n)) Error))
            (w == full_word n) refl answers e ne

        pub lock_won : (w : ℕ) (c : Bool) (answers : List (Answer ℕ)) →
            (if c then ends_with p n bound (after_lock p n y) Done (come_to p n bound xs) else
            come_to p n bound xs (Waits (Paused (act.Lock a) (after_lock p n y)))) ≡ Some answers →
            resume p n bound answers (Paused (act.Lock a) (after_lock p n y)) ≢ Lost →
            own.resume p n bound xs (own.passed p n bound (own.quiet_from p n bound
            (seen_thread (if c then Reports (act.Lock a) (taking_answer 1) (replaced (seen y w) 1) else
            Quietly (replaced (seen y w) 0))))) ≡ resume p n bound answers (Paused (act.Lock a) (after_lock p n y))
        lock_won w true answers e ne = SameFed.close p n b whole xs known (act.Lock a) (after_lock p n y) Done _
            (SameFed.goes_past p n b whole xs known (Some (exchanged y 1)))
            answers e ne
        lock_won w false answers e ne = ap (λ o. own.resume p n bound xs (own.passed p n bound o)) (again (suc b)) ∙
            known.lock_sees y a run g answers e ne

      -- `tryLock()`
      module _ (g : Begins p n y 2 a (act.TryLock a) (is_trying p y.top.counter)) where
        told : quiet p n bound (seen y (word_of_another n)) ≡ quiet p n (suc b) (exchanged y 0)
        told =
            let there : slice_get p.instructions (y.top.counter + 1) ≡ Some (op.Take 2) = take_there 2 _ g.shaped in
            let silent : whole_move p n (seen y (word_of_another n)) ≡ Silent (exchanged y 0) =
            ap (read_move p n (seen y (word_of_another n))) (take_move p n y a g.rest g.top 2 (word_of_another n) there)
            ∙ ap (planned_move p n (seen y (word_of_another n)))
            (take_plan p n y a g.rest g.top 2 (word_of_another n) (act.TryLock a) taken.Other refl (another_is n))
            in
            more p n (suc b) (seen y (word_of_another n)) run ∙
            ap (λ w. carry true (begins_early (thread_move p (seen y (word_of_another n)))) w (quiet p n (suc b)))
            silent

        -- after a false, with the TAKE after it
        after_false : (k : ℕ) →
            suc b ≤ k →
            SameFed.Same p n b whole xs (Waits (quiet p n bound (seen y (word_of_another n))))
            (quiet p n bound (seen y (word_of_another n))) (own.passed p n bound (own.quiet p n k (exchanged y 0)))
        after_false k le =
            subst (λ r. SameFed.Same p n b whole xs (Waits r) r
            (own.passed p n bound (own.quiet p n k (exchanged y 0)))) (sym told)
            (SameFed.passing p n b whole xs known _ _ (meets p n bound whole (suc b) k (exchanged y 0) le))

        pub try_word : (w : ℕ) (t : Taken) →
            taken_of w n ≡ t →
            (answers : List (Answer ℕ)) →
            seen_by_try p n bound (act.TryLock a) (after_try p n y) w t (come_to p n bound xs) ≡ Some answers →
            resume p n bound answers (Paused (act.TryLock a) (after_try p n y)) ≢ Lost →
            own.resume p n bound xs (own.passed p n bound (own.quiet_from p n bound
            (seen_thread
            (elim t as (λ _. Seen) [
              | taken.Other ↦ Reports (act.TryLock a) (Gives 0) (with_word y w)
              | taken.Taken
                  next ↦ Quietly (with_word y w)
              | taken.TooMany ↦ Quietly (with_word y w)
            ]))))
            ≡ resume p n bound answers (Paused (act.TryLock a) (after_try p n y))
        try_word w (taken.Taken next) et answers e ne =
            ap (λ o. own.resume p n bound xs (own.passed p n bound o))
            (take_is p n y a run 2 (act.TryLock a) (is_trying p y.top.counter) g (take_there 2 _ g.shaped) refl w
            (taken.Taken next) et bound)
            ∙ known.try_takes y a w run g answers e ne
        try_word w taken.Other et answers e ne =
            ap (λ o. own.resume p n bound xs (own.passed p n bound o))
            (take_is p n y a run 2 (act.TryLock a) (is_trying p y.top.counter) g (take_there 2 _ g.shaped) refl w
            taken.Other et bound)
            ∙ SameFed.close p n b whole xs known (act.TryLock a) (after_try p n y) (Gives 0) _
            (after_false (suc b) (omega arith)) answers e ne
        try_word w taken.TooMany et answers e ne =
            ap (λ o. own.resume p n bound xs (own.passed p n bound o))
            (take_is p n y a run 2 (act.TryLock a) (is_trying p y.top.counter) g (take_there 2 _ g.shaped) refl w
            taken.TooMany et bound)
            ∙ SameFed.full p n b whole xs known (act.TryLock a) (after_try p n y) y w
            (SameFed.goes p n b whole xs known (throwing p (seen y (full_word n)) Error))
            (w == full_word n) refl answers e ne

        pub try_won : (w : ℕ) (c : Bool) (answers : List (Answer ℕ)) →
            (if c then ends_with p n bound (after_try p n y) (Gives 1) (come_to p n bound xs) else
            ends_with p n bound (after_try p n y) (Gives 0) (come_to p n bound xs)) ≡ Some answers →
            resume p n bound answers (Paused (act.TryLock a) (after_try p n y)) ≢ Lost →
            own.resume p n bound xs (own.passed p n bound (own.quiet_from p n bound
            (seen_thread (if c then Reports (act.TryLock a) (taking_answer 2) (replaced (seen y w) 1) else
            Reports (act.TryLock a) (Gives 0) (replaced (seen y w) 0))))) ≡ resume p n bound answers
            (Paused (act.TryLock a) (after_try p n y))
        try_won w true answers e ne = SameFed.close p n b whole xs known (act.TryLock a) (after_try p n y) (Gives 1) _
            (SameFed.goes_past p n b whole xs known (Some (exchanged y 1))) answers e ne
        try_won w false answers e ne = SameFed.close p n b whole xs known (act.TryLock a) (after_try p n y) (Gives 0) _
            (after_false bound (omega arith)) answers e ne

      -- `unlock()`
      pub unlock_word : Begins p n y 3 a (act.Unlock a) (is_unlocking p 0 y.top.counter) →
          (w : ℕ) (c : Bool) →
          is_own w n ≡ c →
          (answers : List (Answer ℕ)) →
          (if c then ends_with p n bound (after_unlock p y) Done (come_to p n bound xs) else
          ends_with p n bound (after_unlock p y) (Fails IllegalMonitorState) (come_to p n bound xs)) ≡ Some answers
          →
          resume p n bound answers (Paused (act.Unlock a) (after_unlock p y)) ≢ Lost →
          own.resume p n bound xs (own.passed p n bound (own.quiet_from p n bound
          (seen_thread (if c then Quietly (with_word y w) else
          Reports (act.Unlock a) (Fails IllegalMonitorState) (throwing p y IllegalMonitorState))))) ≡ resume p n
          bound answers (Paused (act.Unlock a) (after_unlock p y))
      unlock_word g w true ec answers e ne =
          ap (λ o. own.resume p n bound xs (own.passed p n bound o))
          (drop_is p n y a run 3 0 (act.Unlock a) (is_unlocking p 0 y.top.counter) g (drop_there 0 _ g.shaped) refl
          w _ (own_left w n ec) bound)
          ∙ SameFed.close p n b whole xs known (act.Unlock a) (after_unlock p y) Done _
          (SameFed.goes p n b whole xs known (Some (with_top (seen y 0) (discarded (seen y 0).top 2)))) answers e ne
      unlock_word g w false ec answers e ne = SameFed.close p n b whole xs known (act.Unlock a) (after_unlock p y)
          (Fails IllegalMonitorState) _
          (SameFed.goes_past p n b whole xs known (throwing p y IllegalMonitorState)) answers e ne

      -- the lock of a monitor
      module _ (g : Begins p n y 4 a (act.LockMonitor a) (is_locking p 4 y.top.counter)) where
        monitor_shape : (is_take 4 (slice_get p.instructions (y.top.counter + 1)) ≡ true) ×
            (is_back_to y.top.counter (slice_get p.instructions (y.top.counter + 1 + 1)) ≡ true)
        monitor_shape = and_both (is_take 4 (slice_get p.instructions (y.top.counter + 1)))
            (is_back_to y.top.counter (slice_get p.instructions (y.top.counter + 1 + 1))) g.shaped

        monitor_again : (k : ℕ) →
            own.quiet p n (suc k) (exchanged y 0) ≡ Paused (act.LockMonitor a)
            (told_word (saw p y n 4 (act.LockMonitor a)))
        monitor_again k = back_is p n y a run (back_there y.top.counter _ monitor_shape.1) k ∙
            sees_is p n y a run 4 (act.LockMonitor a) (is_locking p 4 y.top.counter) g k

        pub monitor_word : (w : ℕ) (t : Taken) →
            taken_of w n ≡ t →
            (answers : List (Answer ℕ)) →
            seen_by_lock p n bound (act.LockMonitor a) (after_lock p n y) w t (come_to p n bound xs) ≡ Some answers →
            resume p n bound answers (Paused (act.LockMonitor a) (after_lock p n y)) ≢ Lost →
            own.resume p n bound xs (own.passed p n bound (own.quiet p n bound (seen y w))) ≡ resume p n bound
            answers (Paused (act.LockMonitor a) (after_lock p n y))
        monitor_word w (taken.Taken next) et answers e ne =
            ap (λ o. own.resume p n bound xs (own.passed p n bound o))
            (take_is p n y a run 4 (act.LockMonitor a) (is_locking p 4 y.top.counter) g
            (take_there 4 _ monitor_shape.0) refl w (taken.Taken next) et bound)
            ∙ known.monitor_takes y a w run g answers e ne
        monitor_word w taken.Other et answers e ne =
            ap (λ o. own.resume p n bound xs (own.passed p n bound o))
            (take_is p n y a run 4 (act.LockMonitor a) (is_locking p 4 y.top.counter) g
            (take_there 4 _ monitor_shape.0) refl w taken.Other et bound ∙ monitor_again b)
            ∙ known.monitor_sees y a run g answers e ne
        monitor_word w taken.TooMany et answers e ne =
            ap (λ o. own.resume p n bound xs (own.passed p n bound o))
            (take_is p n y a run 4 (act.LockMonitor a) (is_locking p 4 y.top.counter) g
            (take_there 4 _ monitor_shape.0) refl w taken.TooMany et bound)
            ∙ SameFed.full p n b whole xs known (act.LockMonitor a) (after_lock p n y) y w
            (SameFed.goes p n b whole xs known (throwing p (seen y (full_word n)) Error))
            (w == full_word n) refl answers e ne

        pub monitor_won : (w : ℕ) (c : Bool) (answers : List (Answer ℕ)) →
            (if c then ends_with p n bound (after_lock p n y) Done (come_to p n bound xs) else
            come_to p n bound xs (Waits (Paused (act.LockMonitor a) (after_lock p n y)))) ≡ Some answers →
            resume p n bound answers (Paused (act.LockMonitor a) (after_lock p n y)) ≢ Lost →
            own.resume p n bound xs (own.passed p n bound (own.quiet_from p n bound
            (seen_thread (if c then Reports (act.LockMonitor a) (taking_answer 4) (replaced (seen y w) 1) else
            Quietly (replaced (seen y w) 0))))) ≡ resume p n bound answers
            (Paused (act.LockMonitor a) (after_lock p n y))
        monitor_won w true answers e ne = SameFed.close p n b whole xs known (act.LockMonitor a)
            (after_lock p n y) Done _ (SameFed.goes_past p n b whole xs known (Some (exchanged y 1))) answers e ne
        monitor_won w false answers e ne = ap (λ o. own.resume p n bound xs (own.passed p n bound o))
            (monitor_again (suc b)) ∙ known.monitor_sees y a run g answers e ne

      -- the unlock of a monitor
      pub leave_word : Begins p n y 5 a (act.UnlockMonitor a) (is_unlocking p 1 y.top.counter) →
          (w : ℕ) (c : Bool) →
          is_own w n ≡ c →
          (answers : List (Answer ℕ)) →
          (if c then ends_with p n bound (after_unlock p y) Done (come_to p n bound xs) else
          ends_with p n bound (after_unlock p y) (Fails IllegalMonitorState) (come_to p n bound xs)) ≡ Some answers
          →
          resume p n bound answers (Paused (act.UnlockMonitor a) (after_unlock p y)) ≢ Lost →
          own.resume p n bound xs (own.passed p n bound (own.quiet_from p n bound
          (seen_thread (if c then Quietly (with_word y w) else
          Reports (act.UnlockMonitor a) (Fails IllegalMonitorState) (throwing p y IllegalMonitorState))))) ≡ resume
          p n bound answers (Paused (act.UnlockMonitor a) (after_unlock p y))
      leave_word g w true ec answers e ne =
          ap (λ o. own.resume p n bound xs (own.passed p n bound o))
          (drop_is p n y a run 5 1 (act.UnlockMonitor a) (is_unlocking p 1 y.top.counter) g
          (drop_there 1 _ g.shaped) refl w _ (own_left w n ec) bound)
          ∙ SameFed.close p n b whole xs known (act.UnlockMonitor a) (after_unlock p y) Done _
          (SameFed.goes p n b whole xs known (Some (with_top (seen y 0) (discarded (seen y 0).top 2)))) answers e ne
      leave_word g w false ec answers e ne = SameFed.close p n b whole xs known (act.UnlockMonitor a) (after_unlock p y)
          (Fails IllegalMonitorState)
          _ (SameFed.goes_past p n b whole xs known (throwing p y IllegalMonitorState)) answers e ne
