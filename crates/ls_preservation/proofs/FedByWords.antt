-- Fed with words, a thread does what it is read to do after the answers that these words give.
use Rattle.std.proofs.Common.{ℕ, zero, suc, ◌==◌, List, [], ◌∷◌, refl, arith, All}
use Rattle.ls_events.specs.declared.action.Action.TheVariants as act
use Rattle.ls_events.specs.declared.action.Answer.{Answer}
use Rattle.ls_events.specs.declared.action.Answer.TheVariants.{Done, Gives, Fails}
use Rattle.ls_code.specs.Code.{Code}
use Rattle.ls_code.specs.Thread.{Thread}
use Rattle.ls_code.specs.Locks.{taken_of, is_own}
use Rattle.ls_code.specs.Exchanges.{saw, took}
use Rattle.ls_code.specs.Fed.{Paused, told_word}
use Rattle.ls_code.specs.Fed as own
use Rattle.ls_code.specs.Reading.{seen, after_lock, after_try, after_unlock, quiet}
use Rattle.ls_preservation.specs.ByWords.{IsExchanged, Waits, Exchanges, FedByWords}
use Rattle.ls_preservation.proofs.Meets.{meets}
use Rattle.ls_preservation.proofs.SameFed.{Known}
use Rattle.ls_preservation.proofs.SameFed
use Rattle.ls_preservation.proofs.LockFed

module _ (p : Code) (n b : ℕ) (whole : All IsExchanged p.instructions) where
  abbrev bound : ℕ
  bound = suc (suc b)

  module _ (xs : List (Answer ℕ)) (known : Known p n b whole xs) where
    lock_sees : (x : Answer ℕ) → SameFed.LockSees p n b whole (x ∷ xs)
    lock_sees Done y a run g answers e ne = cc
    lock_sees (Fails k) y a run g answers e ne = cc
    lock_sees (Gives w) y a run g answers e ne = LockFed.lock_word p n b whole xs known y a run g w
        (taken_of w n) refl answers e ne

    lock_takes : (x : Answer ℕ) → SameFed.LockTakes p n b whole (x ∷ xs)
    lock_takes Done y a w run g answers e ne = cc
    lock_takes (Fails k) y a w run g answers e ne = cc
    lock_takes (Gives v) y a w run g answers e ne = LockFed.lock_won p n b whole xs known y a run g w
        (v == 1) answers e ne

    try_sees : (x : Answer ℕ) → SameFed.TrySees p n b whole (x ∷ xs)
    try_sees Done y a run g answers e ne = cc
    try_sees (Fails k) y a run g answers e ne = cc
    try_sees (Gives w) y a run g answers e ne = LockFed.try_word p n b whole xs known y a run g w
        (taken_of w n) refl answers e ne

    try_takes : (x : Answer ℕ) → SameFed.TryTakes p n b whole (x ∷ xs)
    try_takes Done y a w run g answers e ne = cc
    try_takes (Fails k) y a w run g answers e ne = cc
    try_takes (Gives v) y a w run g answers e ne = LockFed.try_won p n b whole xs known y a run g w
        (v == 1) answers e ne

    unlock_sees : (x : Answer ℕ) → SameFed.UnlockSees p n b whole (x ∷ xs)
    unlock_sees Done y a run g answers e ne = cc
    unlock_sees (Fails k) y a run g answers e ne = cc
    unlock_sees (Gives w) y a run g answers e ne = LockFed.unlock_word p n b whole xs known y a run g w
        (is_own w n) refl answers e ne

    monitor_sees : (x : Answer ℕ) → SameFed.MonitorSees p n b whole (x ∷ xs)
    monitor_sees Done y a run g answers e ne = cc
    monitor_sees (Fails k) y a run g answers e ne = cc
    monitor_sees (Gives w) y a run g answers e ne = LockFed.monitor_word p n b whole xs known y a run g w
        (taken_of w n) refl answers e ne

    monitor_takes : (x : Answer ℕ) → SameFed.MonitorTakes p n b whole (x ∷ xs)
    monitor_takes Done y a w run g answers e ne = cc
    monitor_takes (Fails k) y a w run g answers e ne = cc
    monitor_takes (Gives v) y a w run g answers e ne = LockFed.monitor_won p n b whole xs known y a run g w
        (v == 1) answers e ne

    leave_sees : (x : Answer ℕ) → SameFed.LeaveSees p n b whole (x ∷ xs)
    leave_sees Done y a run g answers e ne = cc
    leave_sees (Fails k) y a run g answers e ne = cc
    leave_sees (Gives w) y a run g answers e ne = LockFed.leave_word p n b whole xs known y a run g w
        (is_own w n) refl answers e ne

    one_more : (x : Answer ℕ) → Known p n b whole (x ∷ xs)
    one_more x = record {
      waits = SameFed.waits_by p n b whole (x ∷ xs) (SameFed.acts p n b whole xs known x) (lock_sees x) (try_sees x)
          (unlock_sees x) (monitor_sees x) (leave_sees x);
      lock_sees = lock_sees x;
      lock_takes = lock_takes x;
      try_sees = try_sees x;
      try_takes = try_takes x;
      unlock_sees = unlock_sees x;
      monitor_sees = monitor_sees x;
      monitor_takes = monitor_takes x;
      leave_sees = leave_sees x;
    }

  nothing : Known p n b whole []
  nothing =
      let lock : SameFed.LockSees p n b whole [] = λ y a run g. SameFed.none_left p n b whole
      (Waits (Paused (act.Lock a) (after_lock p n y))) (act.Lock a)
      (after_lock p n y) (told_word (saw p y n 1 (act.Lock a))) in
      let try : SameFed.TrySees p n b whole [] = λ y a run g. SameFed.none_left p n b whole
      (Waits (Paused (act.TryLock a) (after_try p n y))) (act.TryLock a)
      (after_try p n y) (told_word (saw p y n 2 (act.TryLock a))) in
      let unlock : SameFed.UnlockSees p n b whole [] = λ y a run g. SameFed.none_left p n b whole
      (Waits (Paused (act.Unlock a) (after_unlock p y)))
      (act.Unlock a) (after_unlock p y) (told_word (saw p y n 3 (act.Unlock a))) in
      let monitor : SameFed.MonitorSees p n b whole [] = λ y a run g. SameFed.none_left p n b whole
      (Waits (Paused (act.LockMonitor a) (after_lock p n y)))
      (act.LockMonitor a) (after_lock p n y) (told_word (saw p y n 4 (act.LockMonitor a))) in
      let leave : SameFed.LeaveSees p n b whole [] = λ y a run g. SameFed.none_left p n b whole
      (Waits (Paused (act.UnlockMonitor a) (after_unlock p y)))
      (act.UnlockMonitor a) (after_unlock p y) (told_word (saw p y n 5 (act.UnlockMonitor a))) in
      record {
        waits = SameFed.waits_by p n b whole [] (λ a go plain. SameFed.none_left p n b whole
            (Waits (Paused a go)) a go go) lock try unlock monitor leave;
        lock_sees = lock;
        lock_takes = λ y a w run g. SameFed.none_left p n b whole (Exchanges (act.Lock a) (after_lock p n y))
            (act.Lock a) (after_lock p n y) (told_word (took (seen y w) 1 (act.Lock a)));
        try_sees = try;
        try_takes = λ y a w run g. SameFed.none_left p n b whole (Exchanges (act.TryLock a) (after_try p n y))
            (act.TryLock a) (after_try p n y) (told_word (took (seen y w) 2 (act.TryLock a)));
        unlock_sees = unlock;
        monitor_sees = monitor;
        monitor_takes = λ y a w run g. SameFed.none_left p n b whole (Exchanges (act.LockMonitor a) (after_lock p n y))
            (act.LockMonitor a) (after_lock p n y) (told_word (took (seen y w) 4 (act.LockMonitor a)));
        leave_sees = leave;
      }

  known : (xs : List (Answer ℕ)) → Known p n b whole xs
  known [] = nothing
  known (x ∷ xs) = one_more xs (known xs) x

  fed_so : (k : ℕ) (t : Thread) (words : List (Answer ℕ)) →
      SameFed.Same p n b whole words (Waits (quiet p n k t)) (quiet p n k t) (own.passed p n bound (own.quiet p n k t))
  fed_so k t words = SameFed.passing p n b whole words (known words) _ _ (meets p n bound whole k k t (omega arith))

-- the law: fed with words, a thread does what it is read to do after the answers
pub fed_by_words : FedByWords
fed_by_words p n zero k t words answers whole two e ne = absurd (let f : ⊥ = omega arith in f)
fed_by_words p n (suc zero) k t words answers whole two e ne = absurd (let f : ⊥ = omega arith in f)
fed_by_words p n (suc (suc b)) k t words answers whole two e ne = fed_so p n b whole k t words answers e ne
