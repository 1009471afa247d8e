-- The instructions of the operations on locks, and what the source does for each.
use Rattle.std.proofs.Common.{◌≡◌, ℕ, ◌==◌, ◌≢◌, ◌⊎◌, inl, inr, Bool, true, false, Option, Some, refl, sym, ap, ◌∙◌}
use Rattle.std.proofs.Common.{subst, slice_get}
use Rattle.std.proofs.lemmas.Bool.Decides.{eqb_tells}
use Rattle.ls_events.specs.declared.action.Action.{Action}
use Rattle.ls_events.specs.declared.action.Answer.{Answer}
use Rattle.ls_meaning.specs.Course.{Answers}
use Rattle.ls_meaning.specs.Steps.{Stepped}
use Rattle.ls_meaning.specs.Runs.{State, has_started}
use Rattle.ls_code.specs.Code.{Start}
use Rattle.ls_code.specs.Thread.{Thread}
use Rattle.ls_code.specs.Cells.{Cells}
use Rattle.ls_code.specs.Cells as cells
use Rattle.ls_code.specs.Steps.{Silent, Asks as MoveAsks, thread_move}
use Rattle.ls_code.specs.Steps as machine_steps
use Rattle.ls_code.specs.Locks.{taken_of, left_of, is_own}
use Rattle.ls_code.specs.declared.lock_word.Taken.{Taken}
use Rattle.ls_code.specs.declared.lock_word.Taken.TheVariants as taken
use Rattle.ls_code.specs.declared.lock_word.Left.TheVariants as left
use Rattle.ls_code.specs.declared.step.Did.TheVariants as did
use Rattle.ls_code.specs.Exchanges.{throwing}
use Rattle.ls_events.specs.declared.kind.Kind.TheVariants.{IllegalMonitorState, Error}
use Rattle.ls_events.specs.declared.action.Action.TheVariants as act
use Rattle.ls_events.specs.declared.action.Answer.TheVariants.{Done as AnswerDone, Gives, Fails}
use Rattle.ls_code.specs.Reading.{seen, exchanged, full_word, word_of_another, after_lock, after_try, after_unlock}
use Rattle.ls_code.specs.Reading.{whole_move}
use Rattle.ls_preservation.specs.Parts.{one, LockParts, TryParts, UnlockParts, IsPlanned, Parts}
use Rattle.ls_preservation.proofs.Setting.{Setting}
use Rattle.ls_preservation.proofs.LockWords.{lost_other, full_now, own_left, not_left}
use Rattle.ls_preservation.proofs.LockCells.{lock_is, unlock_is, store_is, won_is, lost_is, another_is}
use Rattle.ls_preservation.proofs.Others.{Sees, lock_on, lock_word}
use Rattle.ls_preservation.proofs.Middle.{Middle, Here, Lost, Told, OwnFor, Locking, Unlocking, of_lock, of_monitor}
use Rattle.ls_preservation.proofs.Middle.{off_lock, off_monitor}
use Rattle.ls_code.specs.Machine.{Machine, Entry}
use Rattle.ls_code.specs.declared.step.Mode.TheVariants as mode
use Rattle.ls_preservation.specs.Sorts.{Known}
use Rattle.ls_preservation.proofs.Following.{moved}
use Rattle.ls_preservation.proofs.Following
use Rattle.ls_preservation.proofs.Feeding.{silent_keeps}
use Rattle.ls_preservation.proofs.Effects.{renaming}
use Rattle.ls_preservation.proofs.ActingBack.{so}
use Rattle.ls_preservation.proofs.ActingBack

module _ (setting : Setting) where
  open setting use {file, program, code}
  open Following.notions setting use {names, bound, stands, words, fed_to, Follows}

  abbrev BackStep : State → Machine → ℕ → Stepped Machine Entry → Type 0
  BackStep = ActingBack.BackStep setting

  module _ (s : State) (m : Machine) (h : Follows s m) (t : ℕ) (had : Answers)
      (start : has_started file program s t ≡ true) (at : slice_get s.answers t ≡ Some had) (y : Thread)
      (runs : y.mode ≡ mode.Running) (x : Thread) (there : slice_get m.threads t ≡ Some x) (start_ : Start)
      (es : slice_get code.starts t ≡ Some start_) (known : Known file program h.sorts t had)
      (way : stands t y ≡ fed_to t start_ (words (renaming names s.store) had)) (mid : Middle code m.cells t y x) where
    abbrev Comes : machine_steps.StepResult → Type 0
    Comes o = BackStep s m t (so t (moved m t o))

    module _ (a : ℕ) (planned : IsPlanned (thread_move code y)) where
      abbrev c : Cells
      c = m.cells

      -- a tryLock that isn't won
      told_mids : (go : Answer ℕ → Option Thread) →
          go ≡ after_try code t y →
          TryParts code t y a →
          (w : ℕ) →
          taken_of w t ≡ taken.Other →
          ActingBack.Mids setting t go c (Gives 0) (λ z. seen y w)
      told_mids go eg parts w ek y' e l =
          let is : y' ≡ seen y (word_of_another t) = (let z : Some y' ≡ Some (seen y (word_of_another t)) = sym e ∙
          ap (λ f. f (Gives 0)) eg in cc) in
          (y', refl, Told (ap (λ z. z.mode) is ∙ runs) y a w parts is refl ek)

      lost_mids : (go : Answer ℕ → Option Thread) →
          go ≡ after_try code t y →
          TryParts code t y a →
          ActingBack.Mids setting t go c (Gives 0) (λ z. exchanged y 0)
      lost_mids go eg parts y' e l =
          let is : y' ≡ seen y (word_of_another t) = (let z : Some y' ≡ Some (seen y (word_of_another t)) = sym e ∙
          ap (λ f. f (Gives 0)) eg in cc) in
          let silent : whole_move code t y' ≡ Silent (exchanged y 0) = ap (whole_move code t) is ∙
          parts.told_whole (word_of_another t) (another_is t) in
          (exchanged y 0, silent_keeps code t bound y' (exchanged y 0) (ap (λ z. z.mode) is ∙ runs) silent l, Here refl)

      module _ (b : Action ℕ) (locks : Locking a b) (go : Answer ℕ → Option Thread)
          (em : whole_move code t y ≡ MoveAsks b go) (parts : LockParts code t y a b) (eg : go ≡ after_lock code t y)
        where
          see_lock : x ≡ y → Comes (one code t c x)
          see_lock here =
              let r = ActingBack.word_of_lock setting s m h t had start at y runs b go em planned x there start_ es
              known way mid a locks.on in
              subst Comes (sym (ap (one code t c) here ∙ parts.see c (lock_word r.0) r.2))
              (ActingBack.saw setting s m h t had start at y runs b go em planned x there start_ es known way mid a
              (lock_word r.0) locks.on
              (ActingBack.sees_now setting s m h t had start at y runs b go em planned x there start_ es known way mid a
              (lock_word r.0) r.2) (locks.own t (lock_word r.0)))

          lost_lock : Comes (machine_steps.step_result (exchanged y 0) c did.Silent)
          lost_lock = ActingBack.comes_to setting s m h t had start at x (exchanged y 0) there
              (start_, es, known, y, way, mid) y refl
              (Lost runs a b locks go em planned refl)

          take_lock : (w : ℕ) → x ≡ seen y w → Sees c t a w → (k : Taken) → taken_of w t ≡ k → Comes (one code t c x)
          take_lock w is sees taken.Other ek = subst Comes (sym (ap (one code t c) is ∙ parts.other c w ek)) lost_lock
          take_lock w is (now, ec, fresh) taken.TooMany ek =
              let same : now ≡ w = full_now t w now fresh ek in
              let r = ActingBack.word_of_lock setting s m h t had start at y runs b go em planned x there start_ es
              known way mid a locks.on in
              let word : lock_word r.0 ≡ w = (let z : Some (lock_word r.0) ≡ Some now = sym r.2 ∙ ec in
              (let e : lock_word r.0 ≡ now = cc in e ∙ same)) in
              let full : w ≡ full_word t = sym word ∙ r.1 (ap (λ z. taken_of z t) word ∙ ek) in
              subst Comes (sym (ap (one code t c) is ∙ parts.full c w ek))
              (subst (λ z. Comes (machine_steps.ended_so c z (throwing code (seen y w) Error)
              (did.Acted b (Fails Error)))) is
              (ActingBack.acts_thrown setting s m h t had start at y runs b go em planned x there start_ es known way
              mid c (Fails Error) (locks.does c t ∙ lock_is c a t now taken.TooMany AnswerDone cells.Waits ec
              (ap (λ z. taken_of z t) same ∙ ek)) (throwing code (seen y w) Error) (ap (λ f. f (Fails Error)) eg ∙
              ap (λ z. throwing code (seen y z) Error) (sym full))))
          take_lock w is (now, ec, fresh) (taken.Taken next_) ek = by_test (eqb_tells now w)
            where
              by_test : (((now == w) ≡ true) × (now ≡ w)) ⊎ (((now == w) ≡ false) × (now ≢ w)) → Comes (one code t c x)
              by_test (inl (bt, same)) =
                  let ew : cells.cell_at c a 0 ≡ Some w = ec ∙ ap Some same in
                  let st = store_is c a next_ w ew in
                  subst Comes (sym (ap (one code t c) is ∙ parts.won c st.0 w next_ ek
                  (won_is c st.0 a t w next_ ew st.1)))
                  (ActingBack.acts_so setting s m h t had start at y runs b go em planned x there start_ es known way
                  mid st.0 AnswerDone
                  (locks.does c t ∙ lock_is c a t w (taken.Taken next_) AnswerDone cells.Waits ew ek ∙ st.1 AnswerDone)
                  (exchanged y 1) (ap (λ f. f AnswerDone) eg))
              by_test (inr (bt, apart)) =
                  subst Comes (sym (ap (one code t c) is ∙ parts.lost c c w next_ ek (lost_is c a t w next_ now ec bt)))
                  lost_lock

          pub back_lock : x ≡ exchanged y 0 → Comes (one code t c x)
          back_lock is =
              subst Comes (sym (ap (one code t c) is ∙ parts.back c))
              (ActingBack.comes_to setting s m h t had start at x y there (start_, es, known, y, way, mid) y refl
              (Here refl))

      module _ (go : Answer ℕ → Option Thread) (em : whole_move code t y ≡ MoveAsks (act.TryLock a) go)
          (parts : TryParts code t y a) (eg : go ≡ after_try code t y) where
        see_try : x ≡ y → Comes (one code t c x)
        see_try here = by_word (taken_of (lock_word r.0) t) refl
          where
            r : ActingBack.Word setting s m h t had start at y runs (act.TryLock a) go em planned x there start_ es
                known way mid a
            r = ActingBack.word_of_lock setting s m h t had start at y runs
                (act.TryLock a) go em planned x there start_ es known way mid a
                refl

            keeps : taken_of (lock_word r.0) t ≢ taken.Other →
                Comes (machine_steps.step_result (seen y (lock_word r.0)) c did.Silent)
            keeps differs = ActingBack.saw setting s m h t had start at y runs
                (act.TryLock a) go em planned x there start_ es known way
                mid a (lock_word r.0) refl (ActingBack.sees_now setting s m h t had start at y runs
                (act.TryLock a) go em planned x there
                start_ es known way mid a (lock_word r.0) r.2) differs

            by_word : (k : Taken) → taken_of (lock_word r.0) t ≡ k → Comes (one code t c x)
            by_word taken.Other ek =
                subst Comes (sym (ap (one code t c) here ∙ parts.see_other c (lock_word r.0) r.2 ek))
                (ActingBack.acts_here setting s m h t had start at y runs
                (act.TryLock a) go em planned x there start_ es known way mid c
                (Gives 0)
                (lock_is c a t (lock_word r.0) taken.Other (Gives 1) (cells.Answers c (Gives 0)) r.2 ek)
                (λ z. seen y (lock_word r.0)) (told_mids go eg parts (lock_word r.0) ek)).2
            by_word taken.TooMany ek = subst Comes (sym (ap (one code t c) here ∙
                parts.see_full c (lock_word r.0) r.2 ek)) (keeps
                (λ z. let q : taken.TooMany ≡ taken.Other = sym ek ∙ z in absurd (cc)))
            by_word (taken.Taken next_) ek = subst Comes (sym
                (ap (one code t c) here ∙ parts.see c (lock_word r.0) next_ r.2 ek))
                (keeps (λ z. let q : taken.Taken next_ ≡ taken.Other = sym ek ∙ z in absurd (cc)))

        take_try : (w : ℕ) →
            x ≡ seen y w →
            Sees c t a w →
            taken_of w t ≢ taken.Other →
            (k : Taken) →
            taken_of w t ≡ k →
            Comes (one code t c x)
        take_try w is (now, ec, fresh) differs taken.Other ek = absurd (differs ek)
        take_try w is (now, ec, fresh) differs taken.TooMany ek =
            let same : now ≡ w = full_now t w now fresh ek in
            let r = ActingBack.word_of_lock setting s m h t had start at y runs
            (act.TryLock a) go em planned x there start_ es known way
            mid a refl in
            let word : lock_word r.0 ≡ w = (let z : Some (lock_word r.0) ≡ Some now = sym r.2 ∙ ec in
            (let e : lock_word r.0 ≡ now = cc in e ∙ same)) in
            let full : w ≡ full_word t = sym word ∙ r.1 (ap (λ z. taken_of z t) word ∙ ek) in
            subst Comes (sym (ap (one code t c) is ∙ parts.full c w ek))
            (subst (λ z. Comes (machine_steps.ended_so c z (throwing code (seen y w) Error)
            (did.Acted (act.TryLock a) (Fails Error)))) is
            (ActingBack.acts_thrown setting s m h t had start at y runs
            (act.TryLock a) go em planned x there start_ es known way mid c
            (Fails Error)
            (lock_is c a t now taken.TooMany (Gives 1) (cells.Answers c (Gives 0)) ec
            (ap (λ z. taken_of z t) same ∙ ek)) (throwing code (seen y w) Error) (ap (λ f. f (Fails Error)) eg ∙
            ap (λ z. throwing code (seen y z) Error) (sym full))))
        take_try w is (now, ec, fresh) differs (taken.Taken next_) ek = by_test (eqb_tells now w)
          where
            by_test : (((now == w) ≡ true) × (now ≡ w)) ⊎ (((now == w) ≡ false) × (now ≢ w)) → Comes (one code t c x)
            by_test (inl (bt, same)) =
                let ew : cells.cell_at c a 0 ≡ Some w = ec ∙ ap Some same in
                let st = store_is c a next_ w ew in
                subst Comes (sym (ap (one code t c) is ∙ parts.won c st.0 w next_ ek
                (won_is c st.0 a t w next_ ew st.1)))
                (ActingBack.acts_so setting s m h t had start at y runs
                (act.TryLock a) go em planned x there start_ es known way mid st.0
                (Gives 1)
                (lock_is c a t w (taken.Taken next_) (Gives 1) (cells.Answers c (Gives 0)) ew ek ∙ st.1 (Gives 1))
                (exchanged y 1) (ap (λ f. f (Gives 1)) eg))
            by_test (inr (bt, apart)) =
                subst Comes (sym (ap (one code t c) is ∙ parts.lost c c w next_ ek (lost_is c a t w next_ now ec bt)))
                (ActingBack.acts_here setting s m h t had start at y runs
                (act.TryLock a) go em planned x there start_ es known way mid c
                (Gives 0)
                (lock_is c a t now taken.Other (Gives 1) (cells.Answers c (Gives 0)) ec
                (lost_other t w now next_ fresh ek apart)) (λ z. exchanged y 0) (lost_mids go eg parts)).2

      module _ (b : Action ℕ) (unlocks : Unlocking a b) (go : Answer ℕ → Option Thread)
          (em : whole_move code t y ≡ MoveAsks b go) (parts : UnlockParts code t y a b) (eg : go ≡ after_unlock code y)
        where
          see_unlock : x ≡ y → Comes (one code t c x)
          see_unlock here = by_owner (is_own (lock_word r.0) t) refl
            where
              r : ActingBack.Word setting s m h t had start at y runs b go em planned x there start_ es known way mid a
              r = ActingBack.word_of_lock setting s m h t had start at y runs b go em planned x there start_ es known
                  way mid a unlocks.on

              by_owner : (z : Bool) → is_own (lock_word r.0) t ≡ z → Comes (one code t c x)
              by_owner true ez =
                  subst Comes (sym (ap (one code t c) here ∙ parts.see c (lock_word r.0) _ r.2
                  (own_left (lock_word r.0) t ez)))
                  (ActingBack.saw setting s m h t had start at y runs b go em planned x there start_ es known way mid a
                  (lock_word r.0)
                  unlocks.on (ActingBack.sees_now setting s m h t had start at y runs b go em planned x there start_ es
                  known way mid a (lock_word r.0) r.2) (unlocks.own t (lock_word r.0) ez))
              by_owner false ez =
                  subst Comes (sym (ap (one code t c) here ∙ parts.see_other c (lock_word r.0) r.2
                  (not_left (lock_word r.0) t ez)))
                  (subst (λ z. Comes (machine_steps.ended_so c z (throwing code y IllegalMonitorState)
                  (did.Acted b (Fails IllegalMonitorState)))) here
                  (ActingBack.acts_thrown setting s m h t had start at y runs b go em planned x there start_ es known
                  way mid c (Fails IllegalMonitorState)
                  (unlocks.does c t ∙ unlock_is c a t (lock_word r.0) left.NotOwner r.2 (not_left (lock_word r.0) t ez))
                  (throwing code y IllegalMonitorState) (ap (λ f. f (Fails IllegalMonitorState)) eg)))

          drop_unlock : (w : ℕ) →
              x ≡ seen y w →
              Sees c t a w →
              is_own w t ≡ true →
              (next_ : ℕ) →
              left_of w t ≡ left.Left next_ →
              Comes (one code t c x)
          drop_unlock w is (now, ec, fresh) own next_ ek =
              let same : now ≡ w = fresh.0 own in
              let st = store_is c a next_ now ec in
              subst Comes (sym (ap (one code t c) is ∙ parts.drop c st.0 w next_ ek (st.1 AnswerDone) _ refl))
              (ActingBack.acts_so setting s m h t had start at y runs b go em planned x there start_ es known way mid
              st.0 AnswerDone
              (unlocks.does c t ∙ unlock_is c a t now (left.Left next_) ec (ap (λ z. left_of z t) same ∙ ek) ∙
              st.1 AnswerDone) _ (ap (λ f. f AnswerDone) eg))

    same_lock : (a lock w : ℕ) → Some a ≡ Some lock → Sees m.cells t lock w → Sees m.cells t a w
    same_lock a lock w e sees = (let z : lock ≡ a = cc in subst (λ v. Sees m.cells t v w) z sees)

    -- SEE, by the operation
    pub see_any : (b : Action ℕ) (go : Answer ℕ → Option Thread) →
        whole_move code t y ≡ MoveAsks b go →
        IsPlanned (thread_move code y) →
        Parts code t y b go →
        x ≡ y →
        Comes (one code t m.cells x)
    see_any (act.Lock a) go em planned parts here = see_lock a planned (act.Lock a) (of_lock a) go em parts.0 parts.1
        here
    see_any (act.LockMonitor a) go em planned parts here = see_lock a planned (act.LockMonitor a) (of_monitor a) go em
        parts.0 parts.1 here
    see_any (act.TryLock a) go em planned parts here = see_try a planned go em parts.0 parts.1 here
    see_any (act.Unlock a) go em planned parts here = see_unlock a planned (act.Unlock a) (off_lock a) go em parts.0
        parts.1 here
    see_any (act.UnlockMonitor a) go em planned parts here = see_unlock a planned (act.UnlockMonitor a) (off_monitor a)
        go em parts.0 parts.1 here
    see_any b go em planned parts here = absurd parts

    -- TAKE and DROP, by the operation
    pub take_any : (b : Action ℕ) (go : Answer ℕ → Option Thread) →
        whole_move code t y ≡ MoveAsks b go →
        IsPlanned (thread_move code y) →
        Parts code t y b go →
        (lock w : ℕ) →
        lock_on b ≡ Some lock →
        x ≡ seen y w →
        Sees m.cells t lock w →
        OwnFor t w b →
        Comes (one code t m.cells x)
    take_any (act.LockMonitor a) go em planned parts lock w on is sees own = take_lock a planned (act.LockMonitor a)
        (of_monitor a) go em parts.0 parts.1 w is (same_lock a lock w on sees) (taken_of w t) refl
    take_any (act.Lock a) go em planned parts lock w on is sees own = take_lock a planned (act.Lock a) (of_lock a) go em
        parts.0 parts.1 w is (same_lock a lock w on sees) (taken_of w t) refl
    take_any (act.TryLock a) go em planned parts lock w on is sees own = take_try a planned go em parts.0 parts.1 w is
        (same_lock a lock w on sees) own (taken_of w t) refl
    take_any (act.UnlockMonitor a) go em planned parts lock w on is sees own = drop_unlock a planned
        (act.UnlockMonitor a) (off_monitor a) go em parts.0 parts.1 w is (same_lock a lock w on sees) own _
        (own_left w t own)
    take_any (act.Unlock a) go em planned parts lock w on is sees own = drop_unlock a planned (act.Unlock a)
        (off_lock a) go em parts.0 parts.1 w is (same_lock a lock w on sees) own _ (own_left w t own)
    take_any b go em planned parts lock w on is sees own = absurd parts
