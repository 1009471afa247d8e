-- An operation of a lock, from each place within it: if the action doesn't wait, the thread acts.
use Rattle.std.proofs.Common.{◌≡◌, ◌≢◌, ◌⊎◌, inl, inr, ℕ, ◌==◌, Bool, true, false, Option, Some, refl, sym, ap, ◌∙◌}
use Rattle.std.proofs.Common.{subst}
use Rattle.std.proofs.lemmas.Bool.Decides.{eqb_tells}
use Rattle.ls_events.specs.declared.kind.Kind.{Kind}
use Rattle.ls_events.specs.declared.kind.Kind.TheVariants.{IllegalMonitorState, Error}
use Rattle.ls_events.specs.declared.action.Action.{Action}
use Rattle.ls_events.specs.declared.action.Action.TheVariants as act
use Rattle.ls_events.specs.declared.action.Answer.{Answer}
use Rattle.ls_events.specs.declared.action.Answer.TheVariants.{Done, Gives, Fails}
use Rattle.ls_code.specs.Code.{Code}
use Rattle.ls_code.specs.Thread.{Thread}
use Rattle.ls_code.specs.Cells.{Cells, Answers, Waits, cell_at}
use Rattle.ls_code.specs.Exchanges.{throwing}
use Rattle.ls_code.specs.Steps.{StepResult, step_result, ended_so}
use Rattle.ls_code.specs.Locks.{taken_of, left_of, is_own}
use Rattle.ls_code.specs.Reading.{seen, exchanged, full_word, after_lock, after_try, after_unlock}
use Rattle.ls_code.specs.declared.step.Mode.TheVariants as mode
use Rattle.ls_code.specs.declared.step.Did.TheVariants as did
use Rattle.ls_code.specs.declared.lock_word.Taken.{Taken}
use Rattle.ls_code.specs.declared.lock_word.Taken.TheVariants as taken
use Rattle.ls_code.specs.declared.lock_word.Left.TheVariants as left
use Rattle.ls_preservation.specs.Parts.{one, LockParts, TryParts, UnlockParts, Parts}
use Rattle.ls_preservation.proofs.LockWords.{Fresh, fresh_now, lost_other, full_now, own_left, not_left}
use Rattle.ls_preservation.proofs.LockCells.{lock_is, unlock_is, store_is, won_is, lost_is}
use Rattle.ls_preservation.proofs.Others.{Sees, lock_on}
use Rattle.ls_preservation.proofs.Middle.{OwnFor, Locking, Unlocking, of_lock, of_monitor, off_lock, off_monitor}
use Rattle.ls_preservation.specs.Acting.{acts_or_stops}
use Rattle.ls_preservation.proofs.Alone.{Acting, Replies, goes_on, waits_not, Comes}

-- a lock's word; the word with too many holds is the fullest
abbrev pub Word : Cells → ℕ → ℕ → Type 0
Word c t lock = (now : ℕ) × (cell_at c lock 0 ≡ Some now) × (taken_of now t ≡ taken.TooMany → now ≡ full_word t)

module _ (room : Bool) (code : Code) (t : ℕ) (c : Cells) where
  acts_by : (x : Thread) (o : StepResult) → one code t c x ≡ o → Acting room o.did → Acting room (one code t c x).did
  acts_by x o e acts = ap (λ (z : StepResult). acts_or_stops room z.did) e ∙ acts

  acts_thrown : (x x' z : Thread) (b : Action ℕ) (kind : Kind) →
      one code t c x ≡ ended_so c x (throwing code z kind) (did.Acted b (Fails kind)) →
      throwing code z kind ≡ Some x' →
      Acting room (one code t c x).did
  acts_thrown x x' z b kind e thrown = acts_by x (step_result x' c (did.Acted b (Fails kind)))
      (e ∙ ap (λ o. ended_so c x o (did.Acted b (Fails kind))) thrown) refl

  module _ (y : Thread) (runs : y.mode ≡ mode.Running) (a : ℕ) (now : ℕ) (ec : cell_at c a 0 ≡ Some now)
      (most : taken_of now t ≡ taken.TooMany → now ≡ full_word t) where
    module _ (b : Action ℕ) (locks : Locking a b) (parts : LockParts code t y a b)
        (replies : Replies room c t b (after_lock code t y)) where
      lock_free : taken_of now t ≢ taken.Other
      lock_free e = waits_not room c t b (after_lock code t y)
          (locks.does c t ∙ lock_is c a t now taken.Other Done Waits ec e) replies

      take_lock : (w : ℕ) →
          Fresh t w now →
          (k : Taken) →
          taken_of w t ≡ k →
          k ≢ taken.Other →
          Acting room (one code t c (seen y w)).did
      take_lock w fresh taken.Other ek other = absurd (other refl)
      take_lock w fresh taken.TooMany ek other =
          let same : now ≡ w = full_now t w now fresh ek in
          let en : taken_of now t ≡ taken.TooMany = ap (λ z. taken_of z t) same ∙ ek in
          let on = goes_on room c t b (after_lock code t y) c (Fails Error)
          (locks.does c t ∙ lock_is c a t now taken.TooMany Done Waits ec en) replies in
          acts_thrown (seen y w) on.0 (seen y w) b Error (parts.full c w ek)
          (ap (λ z. throwing code (seen y z) Error) (sym same ∙ most en) ∙ on.1)
      take_lock w fresh (taken.Taken v) ek other = by_test (eqb_tells now w)
        where
          by_test : (((now == w) ≡ true) × (now ≡ w)) ⊎ (((now == w) ≡ false) × (now ≢ w)) →
              Acting room (one code t c (seen y w)).did
          by_test (inl (bt, same)) =
              let st = store_is c a v w (ec ∙ ap Some same) in
              acts_by (seen y w) _ (parts.won c st.0 w v ek (won_is c st.0 a t w v (ec ∙ ap Some same) st.1)) refl
          by_test (inr (bt, apart)) = absurd (lock_free (lost_other t w now v fresh ek apart))

      lock_acts : Comes room code t c 2 y
      lock_acts = (
        runs,
        inr (
          seen y now,
          parts.see c now ec,
          (runs, inl (take_lock now (fresh_now t now) (taken_of now t) refl lock_free)),
        ),
      )

      -- back from a lost exchange or from another's word
      pub lock_back : Comes room code t c 3 (exchanged y 0)
      lock_back = (runs, inr (y, parts.back c, lock_acts))

      lock_saw : (w : ℕ) → Fresh t w now → (k : Taken) → taken_of w t ≡ k → Comes room code t c 4 (seen y w)
      lock_saw w fresh taken.Other ek = (runs, inr (exchanged y 0, parts.other c w ek, lock_back))
      lock_saw w fresh taken.TooMany ek = (runs, inl (take_lock w fresh taken.TooMany ek (λ e. absurd (cc))))
      lock_saw w fresh (taken.Taken v) ek = (runs, inl (take_lock w fresh (taken.Taken v) ek (λ e. absurd (cc))))

    module _ (parts : TryParts code t y a) (replies : Replies room c t (act.TryLock a) (after_try code t y)) where
      take_try : (w : ℕ) →
          Fresh t w now →
          (k : Taken) →
          taken_of w t ≡ k →
          k ≢ taken.Other →
          Acting room (one code t c (seen y w)).did
      take_try w fresh taken.Other ek other = absurd (other refl)
      take_try w fresh taken.TooMany ek other =
          let same : now ≡ w = full_now t w now fresh ek in
          let en : taken_of now t ≡ taken.TooMany = ap (λ z. taken_of z t) same ∙ ek in
          let on = goes_on room c t (act.TryLock a) (after_try code t y) c (Fails Error)
          (lock_is c a t now taken.TooMany (Gives 1) (Answers c (Gives 0)) ec en) replies in
          acts_thrown (seen y w) on.0 (seen y w) (act.TryLock a) Error (parts.full c w ek)
          (ap (λ z. throwing code (seen y z) Error) (sym same ∙ most en) ∙ on.1)
      take_try w fresh (taken.Taken v) ek other = by_test (eqb_tells now w)
        where
          by_test : (((now == w) ≡ true) × (now ≡ w)) ⊎ (((now == w) ≡ false) × (now ≢ w)) →
              Acting room (one code t c (seen y w)).did
          by_test (inl (bt, same)) =
              let st = store_is c a v w (ec ∙ ap Some same) in
              acts_by (seen y w) _ (parts.won c st.0 w v ek (won_is c st.0 a t w v (ec ∙ ap Some same) st.1)) refl
          by_test (inr (bt, apart)) = acts_by (seen y w) _ (parts.lost c c w v ek (lost_is c a t w v now ec bt)) refl

      try_acts : (k : Taken) → taken_of now t ≡ k → Comes room code t c 2 y
      try_acts taken.Other ek = (runs, inl (acts_by y _ (parts.see_other c now ec ek) refl))
      try_acts taken.TooMany ek = (
        runs,
        inr (
          seen y now,
          parts.see_full c now ec ek,
          (runs, inl (take_try now (fresh_now t now) taken.TooMany ek (λ e. absurd (cc)))),
        ),
      )
      try_acts (taken.Taken v) ek = (
        runs,
        inr (
          seen y now,
          parts.see c now v ec ek,
          (runs, inl (take_try now (fresh_now t now) (taken.Taken v) ek (λ e. absurd (cc)))),
        ),
      )

    module _ (b : Action ℕ) (unlocks : Unlocking a b) (parts : UnlockParts code t y a b)
        (replies : Replies room c t b (after_unlock code y)) where
      drop_acts : (w : ℕ) →
          Fresh t w now →
          is_own w t ≡ true →
          (next : ℕ) →
          left_of w t ≡ left.Left next →
          Acting room (one code t c (seen y w)).did
      drop_acts w fresh own next ek =
          let st = store_is c a next now ec in
          acts_by (seen y w) _ (parts.drop c st.0 w next ek (st.1 Done) _ refl) refl

      unlock_acts : (b : Bool) → is_own now t ≡ b → Comes room code t c 2 y
      unlock_acts true own = (
        runs,
        inr (
          seen y now,
          parts.see c now _ ec (own_left now t own),
          (runs, inl (drop_acts now (fresh_now t now) own _ (own_left now t own))),
        ),
      )
      unlock_acts false own =
          let on = goes_on room c t b (after_unlock code y) c (Fails IllegalMonitorState)
          (unlocks.does c t ∙ unlock_is c a t now left.NotOwner ec (not_left now t own)) replies in
          (runs, inl (acts_thrown y on.0 y b IllegalMonitorState (parts.see_other c now ec (not_left now t own)) on.1))

  module _ (y : Thread) (runs : y.mode ≡ mode.Running) where
    -- at the beginning of the operation
    pub begins : (b : Action ℕ) (go : Answer ℕ → Option Thread) →
        Parts code t y b go →
        Replies room c t b go →
        ((lock : ℕ) → lock_on b ≡ Some lock → Word c t lock) →
        Comes room code t c 2 y
    begins (act.Lock a) go parts replies word =
        let r = word a refl in lock_acts y runs a r.0 r.1 r.2 (act.Lock a) (of_lock a) parts.0
        (subst (Replies room c t (act.Lock a)) parts.1 replies)
    begins (act.LockMonitor a) go parts replies word =
        let r = word a refl in lock_acts y runs a r.0 r.1 r.2 (act.LockMonitor a) (of_monitor a) parts.0
        (subst (Replies room c t (act.LockMonitor a)) parts.1 replies)
    begins (act.TryLock a) go parts replies word =
        let r = word a refl in try_acts y runs a r.0 r.1 r.2 parts.0
        (subst (Replies room c t (act.TryLock a)) parts.1 replies) (taken_of r.0 t) refl
    begins (act.Unlock a) go parts replies word =
        let r = word a refl in unlock_acts y runs a r.0 r.1 r.2 (act.Unlock a) (off_lock a) parts.0
        (subst (Replies room c t (act.Unlock a)) parts.1 replies) (is_own r.0 t) refl
    begins (act.UnlockMonitor a) go parts replies word =
        let r = word a refl in unlock_acts y runs a r.0 r.1 r.2 (act.UnlockMonitor a) (off_monitor a) parts.0
        (subst (Replies room c t (act.UnlockMonitor a)) parts.1 replies) (is_own r.0 t) refl
    begins _ go parts replies word = absurd parts

    fresh_for : (a lock w : ℕ) → Some a ≡ Some lock → Sees c t lock w → (r : Word c t a) → Fresh t w r.0
    fresh_for a lock w on (now, ec, fresh) r =
        let same : lock ≡ a = cc in
        let there : Some now ≡ Some r.0 = sym ec ∙ ap (λ z. cell_at c z 0) same ∙ r.1 in
        let word : now ≡ r.0 = cc in
        subst (Fresh t w) word fresh

    -- with a word that it has seen
    pub has_seen : (b : Action ℕ) (go : Answer ℕ → Option Thread) →
        Parts code t y b go →
        Replies room c t b go →
        ((lock : ℕ) → lock_on b ≡ Some lock → Word c t lock) →
        (lock w : ℕ) →
        lock_on b ≡ Some lock →
        Sees c t lock w →
        OwnFor t w b →
        Comes room code t c 4 (seen y w)
    has_seen (act.Lock a) go parts replies word lock w on sees own =
        let r = word a refl in
        lock_saw y runs a r.0 r.1 r.2 (act.Lock a) (of_lock a) parts.0
        (subst (Replies room c t (act.Lock a)) parts.1 replies) w (fresh_for a lock w on sees r) (taken_of w t) refl
    has_seen (act.LockMonitor a) go parts replies word lock w on sees own =
        let r = word a refl in
        lock_saw y runs a r.0 r.1 r.2 (act.LockMonitor a) (of_monitor a) parts.0
        (subst (Replies room c t (act.LockMonitor a)) parts.1 replies) w (fresh_for a lock w on sees r)
        (taken_of w t) refl
    has_seen (act.TryLock a) go parts replies word lock w on sees own =
        let r = word a refl in (
          runs,
          inl (take_try y runs a r.0 r.1 r.2 parts.0 (subst (Replies room c t (act.TryLock a)) parts.1 replies) w
              (fresh_for a lock w on sees r) (taken_of w t) refl own),
        )
    has_seen (act.Unlock a) go parts replies word lock w on sees own =
        let r = word a refl in (
          runs,
          inl (drop_acts y runs a r.0 r.1 r.2 (act.Unlock a) (off_lock a) parts.0
              (subst (Replies room c t (act.Unlock a)) parts.1 replies) w (fresh_for a lock w on sees r) own _
              (own_left w t own)),
        )
    has_seen (act.UnlockMonitor a) go parts replies word lock w on sees own =
        let r = word a refl in (
          runs,
          inl (drop_acts y runs a r.0 r.1 r.2 (act.UnlockMonitor a) (off_monitor a) parts.0
              (subst (Replies room c t (act.UnlockMonitor a)) parts.1 replies) w (fresh_for a lock w on sees r) own _
              (own_left w t own)),
        )
    has_seen _ go parts replies word lock w on sees own = absurd parts
