-- The instruction that acts in a burst of a thread's instructions, alone or after the one that sees a lock's word.
use Rattle.std.proofs.Common.{◌≡◌, ◌≢◌, ℕ, zero, suc, ◌+◌, ◌≤◌, Bool, true, false, List, [], ◌∷◌, ◌++◌, length, Option}
use Rattle.std.proofs.Common.{Some, refl, sym, ap, ◌∙◌, subst, arith, slice_get, nat_eq}
use Rattle.ls_events.specs.declared.value.Value.{Value}
use Rattle.ls_events.specs.declared.value.ValueType.{ValueType}
use Rattle.ls_events.specs.declared.action.Action.{Action}
use Rattle.ls_events.specs.declared.action.Answer.{Answer}
use Rattle.ls_meaning.specs.declared.sort.Sort.{Sort}
use Rattle.ls_meaning.specs.Course.{Answers}
use Rattle.ls_meaning.specs.Store.{Store, Thing}
use Rattle.ls_meaning.specs.Effect.{Does, effect}
use Rattle.ls_meaning.specs.Threads.{Goes, next}
use Rattle.ls_meaning.specs.Runs.{State}
use Rattle.ls_code.specs.Code.{Start}
use Rattle.ls_code.specs.Thread.{Thread}
use Rattle.ls_code.specs.Cells as cells
use Rattle.ls_code.specs.Steps.{Silent, Asks as MoveAsks, thread_move}
use Rattle.ls_code.specs.Steps as machine_steps
use Rattle.ls_code.specs.Fed.{Paused, TooLong}
use Rattle.ls_code.specs.Locks.{taken_of, is_own}
use Rattle.ls_code.specs.Exchanges.{throwing}
use Rattle.ls_code.specs.declared.lock_word.Taken.{Taken}
use Rattle.ls_code.specs.declared.lock_word.Taken.TheVariants as taken
use Rattle.ls_code.specs.declared.lock_word.Left.TheVariants as left
use Rattle.ls_events.specs.declared.kind.Kind.TheVariants.{IllegalMonitorState, Error}
use Rattle.ls_events.specs.declared.action.Action.TheVariants as act
use Rattle.ls_events.specs.declared.action.Answer.TheVariants.{Done as AnswerDone, Gives, Fails}
use Rattle.ls_preservation.specs.Sorts.{Names, Known, ActionHas}
use Rattle.ls_code.specs.Reading.{seen, exchanged, full_word, word_of_another, after_lock, after_try, after_unlock}
use Rattle.ls_code.specs.Reading.{whole_move, begins_early, carry, quiet}
use Rattle.ls_preservation.specs.Parts.{one, LockParts, TryParts, UnlockParts, IsPlanned, Parts}
use Rattle.ls_preservation.proofs.Setting.{Setting}
use Rattle.ls_preservation.proofs.LockWords.{own_left, not_left}
use Rattle.ls_preservation.proofs.LockCells.{lock_is, unlock_is, store_is, won_is, another_is, full_is}
use Rattle.ls_preservation.proofs.Others.{IsHeldType, lock_on, lock_word, word_there}
use Rattle.ls_preservation.proofs.Middle.{Locking, Unlocking, of_lock, of_monitor, off_lock, off_monitor}
use Rattle.ls_preservation.proofs.Lists.{set_same, set_other}
use Rattle.ls_preservation.proofs.Effects.{thing_there, renaming, Agrees}
use Rattle.ls_preservation.proofs.AllCases.{effects_agree}
use Rattle.ls_code.specs.Machine.{Machine, machine_step, machine_run, machine_trace}
use Rattle.ls_code.specs.Machine as machine
use Rattle.ls_code.specs.Events.{events_of}
use Rattle.ls_code.specs.declared.step.Mode.TheVariants as mode
use Rattle.ls_code.specs.declared.step.Did.TheVariants as did
use Rattle.ls_preservation.specs.Translations.{if_silent, until_acts}
use Rattle.ls_preservation.specs.Same.{total}
use Rattle.ls_preservation.proofs.Feeding.{at_end, more}
use Rattle.ls_preservation.proofs.Following.{line, line_in, told_to, went, moved}
use Rattle.ls_preservation.proofs.Following
use Rattle.ls_preservation.proofs.Between

module _ (setting : Setting) where
  open setting use {file, program, code, asks, sound, room, small}
  open Following.notions setting use {named, names, bound, StoreHolds, stands, words, fed_to, Live, Later, write}
  open Following.notions setting use {acts_as}
  open Between.notions setting use {Each, Follows, Ready, PerformsBy, Performs}

  module _ (s : State) (t : ℕ) (had : Answers) (at : slice_get s.answers t ≡ Some had) (a : Action Value) (q : Sort)
      (goes : next file program t had ≡ Goes a q) (st' : Store) (y : Answer Value)
      (does : effect file.classes s.store t a ≡ Does st' y) (fits : names + total st'.things ≤ room) where
    abbrev pub s' : State
    s' = told_to s t had st' y

    abbrev pub Lives : Type 0
    Lives = Live s' (line t a y) × Later s s'

    -- the instruction that acts
    acts_gen : (m : Machine) (σ : List ValueType) (image : m.code ≡ code) (holds : StoreHolds σ s.store m.cells)
        (count : length s.answers ≡ length program.threads)
        (others : (u : ℕ) → u ≢ t → Each σ (renaming names s.store) u (slice_get s.answers u)
        (slice_get m.threads u)) →
        m.stopped ≡ false →
        Ready m t →
        (x : Thread) →
        slice_get m.threads t ≡ Some x →
        x.mode ≡ mode.Running →
        (st : Start) (es : slice_get code.starts t ≡ Some st) (known : Known file program σ t had)
        (go : Answer ℕ → Option Thread) →
        fed_to t st (words (renaming names s.store) had) ≡ Paused (acts_as s a) go →
        (c' : cells.Cells) (w : Answer ℕ) →
        cells.effect m.cells t (acts_as s a) ≡ cells.Answers c' w →
        (x_of : Thread → Thread) →
        ((y' : Thread) → go w ≡ Some y' → stands t (x_of y') ≡ stands t y') →
        ((y' : Thread) → go w ≡ Some y' → one code t m.cells x ≡ machine_steps.step_result (x_of y') c'
        (did.Acted (acts_as s a) w)) →
        (k : machine.Stepped → List ℕ) →
        ((m' : Machine) (c : Action ℕ) (w : Answer ℕ) → k (machine.stepped_by m' (did.Acted c w)) ≡ []) →
        Lives × PerformsBy s' (write s' (line t a y)) m (t ∷ k (machine_step m t))
    acts_gen m σ image holds count others unstopped ready x there runs st es known go pause c' w ee x_of steady is k
        none_ =
        let has : ActionHas file program σ t a q = sound.sound σ t had a q known goes in
        let ag0 = effects_agree file program code.sizes room small asks.sizes σ s.store m.cells holds t a q has in
        let ag1 = subst (λ d. Agrees file.classes named code.sizes room σ s.store a q d
        (cells.effect m.cells t (acts_as s a))) does ag0 in
        let done = subst (λ e. Agrees file.classes named code.sizes room σ s.store a q (Does st' y) e) ee ag1 in
        let r = Between.both setting s m σ image holds count t others had x at there st es known a q goes has go pause
        st' y c' w x_of steady done in
        let m' = went m t (x_of r.0) c' false (m.history ++ events_of m.code t (did.Acted (acts_as s a) w)) in
        let eq : machine_step m t ≡ machine.stepped_by m' (did.Acted (acts_as s a) w) = Between.machine_goes setting m t
        x (thread_move code x) image unstopped runs ready there refl ∙ ap (moved m t) (is r.0 r.1) in (
          (r.4, r.5),
          Between.after_first setting s' (write s' (line t a y)) m t k
              (machine.stepped_by m' (did.Acted (acts_as s a) w)) eq
              (subst (λ l. Performs s' (write s' (line t a y)) (line_in t (acts_as s a) w ∷ machine_trace m' l)
              (machine_run m' l)) (sym (none_ m' (acts_as s a) w)) (ap (λ z. z ∷ []) r.3, r.2 false _, refl)),
        )

    abbrev pub Acting : Machine → (machine.Stepped → List ℕ) → Type 0
    Acting m k = Lives × PerformsBy s' (write s' (line t a y)) m (t ∷ k (machine_step m t))

    abbrev pub Stops : (machine.Stepped → List ℕ) → Type 0
    Stops k = (m' : Machine) (c : Action ℕ) (w : Answer ℕ) → k (machine.stepped_by m' (did.Acted c w)) ≡ []

    running : (m : Machine) (h : Follows s m) (x : Thread) → slice_get m.threads t ≡ Some x → x.mode ≡ mode.Running
    running m h x there = Between.runs_on setting s m h t had x at there a q goes

    -- by one instruction
    pub plain_acts : (m : Machine) (h : Follows s m) →
        m.stopped ≡ false →
        Ready m t →
        (x : Thread) →
        slice_get m.threads t ≡ Some x →
        (go : Answer ℕ → Option Thread) →
        thread_move code x ≡ MoveAsks (acts_as s a) go →
        stands t x ≡ Paused (acts_as s a) go →
        (e : cells.Effect) →
        cells.effect m.cells t (acts_as s a) ≡ e →
        Agrees file.classes named code.sizes room h.sorts s.store a q (Does st' y) e →
        (k : machine.Stepped → List ℕ) →
        Stops k →
        Acting m k
    plain_acts m h unstopped ready x there go em stood cells.Waits ee ag k none_ = absurd ag
    plain_acts m h unstopped ready x there go em stood cells.Unfit ee ag k none_ = absurd ag
    plain_acts m h unstopped ready x there go em stood cells.Stops ee ag k none_ = absurd (omega arith)
    plain_acts m h unstopped ready x there go em stood (cells.Answers c' w) ee ag k none_ =
        let each = Between.each_here setting s m h t had x at there in
        acts_gen m h.sorts h.same_code h.holds h.count (λ u d. h.each u) unstopped ready x there (running m h x there)
        each.0 each.1 each.2 go (sym each.3 ∙ stood) c' w ee (λ z. z) (λ y' e. refl)
        (λ y' e. ap (machine_steps.performed m.cells t x) em ∙ ap (machine_steps.settled m.cells x (acts_as s a) go) ee
        ∙ ap (machine_steps.replied c' x (acts_as s a) w) e) k none_

    -- SEE in silence, and then the exchange or the store
    see_then : (n : ℕ) (m : Machine) (h : Follows s m) →
        m.stopped ≡ false →
        Ready m t →
        (x : Thread) →
        slice_get m.threads t ≡ Some x →
        (w : ℕ) →
        one code t m.cells x ≡ machine_steps.step_result (seen x w) m.cells did.Silent →
        ((k : machine.Stepped → List ℕ) → Stops k → Acting (went m t (seen x w) m.cells false (m.history ++ [])) k) →
        Acting m (λ z. if_silent z.did (until_acts n z.machine t))
    see_then n m h unstopped ready x there w is rest =
        let m1 = went m t (seen x w) m.cells false (m.history ++ []) in
        let r : machine.Stepped = machine.stepped_by m1 did.Silent in
        let eq : machine_step m t ≡ r =
        Between.machine_goes setting m t x (thread_move code x) h.same_code unstopped (running m h x there)
        ready there refl ∙ ap (moved m t) is in
        let then_ = by_bound n in (
          then_.0,
          Between.after_first setting s' (write s' (line t a y)) m t (λ z. if_silent z.did (until_acts n z.machine t)) r
              eq
              then_.1,
        )
      where
        by_bound : (n : ℕ) →
            Lives × PerformsBy s' (write s' (line t a y)) (went m t (seen x w) m.cells false (m.history ++ []))
            (until_acts n (went m t (seen x w) m.cells false (m.history ++ [])) t)
        by_bound zero = rest (λ r. []) (λ m' c w. refl)
        by_bound (suc n) = rest (λ z. if_silent z.did (until_acts n z.machine t)) (λ m' c w. refl)

    module _ (n : ℕ) (m : Machine) (h : Follows s m) (unstopped : m.stopped ≡ false) (ready : Ready m t) (x : Thread)
        (there : slice_get m.threads t ≡ Some x) (go : Answer ℕ → Option Thread)
        (planned : IsPlanned (thread_move code x)) where
      abbrev c : cells.Cells
      c = m.cells

      abbrev k : machine.Stepped → List ℕ
      k z = if_silent z.did (until_acts n z.machine t)

      runs : x.mode ≡ mode.Running
      runs = running m h x there

      abbrev each : Each h.sorts (renaming names s.store) t (Some had) (Some x)
      each = Between.each_here setting s m h t had x at there

      -- SEE acts
      at_see : (b : Action ℕ) →
          b ≡ acts_as s a →
          stands t x ≡ Paused b go →
          (c' : cells.Cells) (w : Answer ℕ) →
          cells.effect c t b ≡ cells.Answers c' w →
          (x_of : Thread → Thread) →
          ((y' : Thread) → go w ≡ Some y' → stands t (x_of y') ≡ stands t y') →
          ((y' : Thread) → go w ≡ Some y' → one code t c x ≡ machine_steps.step_result (x_of y') c' (did.Acted b w)) →
          Acting m k
      at_see b eb stood c' w ee x_of steady is =
          acts_gen m h.sorts h.same_code h.holds h.count (λ u d. h.each u)
          unstopped ready x there runs each.0 each.1 each.2
          go (sym each.3 ∙ stood ∙ ap (λ z. Paused z go) eb) c' w (ap (cells.effect c t) (sym eb) ∙ ee) x_of steady
          (λ y' e. is y' e ∙ ap (λ z. machine_steps.step_result (x_of y') c' (did.Acted z w)) eb) k (λ m' c w. refl)

      -- after SEE
      at_take : (b : Action ℕ) →
          b ≡ acts_as s a →
          stands t x ≡ Paused b go →
          (v : ℕ) →
          one code t c x ≡ machine_steps.step_result (seen x v) c did.Silent →
          (c' : cells.Cells) (w : Answer ℕ) →
          cells.effect c t b ≡ cells.Answers c' w →
          ((y' : Thread) → go w ≡ Some y' → one code t c (seen x v) ≡ machine_steps.step_result y' c' (did.Acted b w)) →
          Acting m k
      at_take b eb stood v is1 c' w ee is =
          see_then n m h unstopped ready x there v is1
          (λ k none_. acts_gen (went m t (seen x v) c false (m.history ++ [])) h.sorts h.same_code h.holds h.count
          (λ u d. subst (Each h.sorts (renaming names s.store) u (slice_get s.answers u))
          (sym (set_other m.threads t u (seen x v) d)) (h.each u))
          refl (Between.still_ready setting m t (seen x v) (nat_eq t 0) refl ready) (seen x v)
          (set_same m.threads t x (seen x v) there)
          runs each.0 each.1 each.2 go (sym each.3 ∙ stood ∙ ap (λ z. Paused z go) eb) c' w
          (ap (cells.effect c t) (sym eb) ∙ ee) (λ z. z) (λ y' e. refl)
          (λ y' e. is y' e ∙ ap (λ z. machine_steps.step_result y' c' (did.Acted z w)) eb) k none_)

      abbrev Word : ℕ → Type 0
      Word lock = (o : Thing) × (taken_of (lock_word o) t ≡ taken.TooMany → lock_word o ≡ full_word t) ×
          (cells.cell_at c lock 0 ≡ Some (lock_word o))

      named_word : (i lock : ℕ) (q : ValueType) →
          IsHeldType q →
          Names h.sorts i q →
          renaming names s.store i ≡ lock →
          Word lock
      named_word zero lock q held is e = absurd is
      named_word (suc i) lock q held is e =
          let r = thing_there file.classes h.sorts s.store.things h.sorts i q h.holds.typed is in (
            r.0,
            full_is file.classes h.sorts r.0 q t r.2,
            ap (λ z. cells.cell_at c z 0) (sym e) ∙
                word_there file.classes named code.sizes room h.sorts s.store c h.holds i r.0 q r.1 held r.2,
          )

      word_of : (b : Action ℕ) → whole_move code t x ≡ MoveAsks b go → (lock : ℕ) → lock_on b ≡ Some lock → Word lock
      word_of b em lock on =
          let l = Following.lock_of setting h.sorts s.store c h.holds t had x
          (Between.each_back setting c h.sorts (renaming names s.store) t had x each) runs b go em lock on in
          named_word l.0 lock l.1 l.2 l.3 l.4

      -- the effect that the source's action has isn't a wait
      not_waiting : (b : Action ℕ) → b ≡ acts_as s a → cells.effect c t b ≡ cells.Waits → ⊥
      not_waiting b eb ee =
          let has : ActionHas file program h.sorts t a q = sound.sound h.sorts t had a q each.2 goes in
          let ag0 = effects_agree file program code.sizes room small asks.sizes h.sorts s.store c h.holds t a q has in
          let ag1 = subst (λ d. Agrees file.classes named code.sizes room h.sorts s.store a q d
          (cells.effect c t (acts_as s a))) does ag0 in
          subst (λ e. Agrees file.classes named code.sizes room h.sorts s.store a q (Does st' y) e)
          (ap (cells.effect c t) (sym eb) ∙ ee) ag1

      thrown_so : (b : Action ℕ) (w : Answer ℕ) (z : Thread) (o : Option Thread) →
          go w ≡ o →
          one code t c z ≡ machine_steps.ended_so c z o (did.Acted b w) →
          (y' : Thread) →
          go w ≡ Some y' →
          one code t c z ≡ machine_steps.step_result y' c (did.Acted b w)
      thrown_so b w z o eo is y' e = is ∙ ap (λ p. machine_steps.ended_so c z p (did.Acted b w)) (sym eo ∙ e)

      went_so : (b : Action ℕ) (w : Answer ℕ) (c' : cells.Cells) (z z' : Thread) →
          go w ≡ Some z' →
          one code t c z ≡ machine_steps.step_result z' c' (did.Acted b w) →
          (y' : Thread) →
          go w ≡ Some y' →
          one code t c z ≡ machine_steps.step_result y' c' (did.Acted b w)
      went_so b w c' z z' ez is y' e = (let same : z' ≡ y' = (let both_ : Some z' ≡ Some y' = sym ez ∙ e in cc) in is ∙
          ap (λ p. machine_steps.step_result p c' (did.Acted b w)) same)

      lock_acts : (lock : ℕ) (b : Action ℕ) →
          Locking lock b →
          whole_move code t x ≡ MoveAsks b go →
          b ≡ acts_as s a →
          stands t x ≡ Paused b go →
          LockParts code t x lock b →
          go ≡ after_lock code t x →
          (r : Word lock) →
          (z : Taken) →
          taken_of (lock_word r.0) t ≡ z →
          Acting m k
      lock_acts lock b locks em eb stood parts eg r taken.Other ek = absurd
          (not_waiting b eb (locks.does c t ∙ lock_is c lock t (lock_word r.0) taken.Other AnswerDone cells.Waits r.2
          ek))
      lock_acts lock b locks em eb stood parts eg r taken.TooMany ek =
          let w = lock_word r.0 in
          at_take b eb stood w (parts.see c w r.2) c (Fails Error)
          (locks.does c t ∙ lock_is c lock t w taken.TooMany AnswerDone cells.Waits r.2 ek)
          (thrown_so b (Fails Error) (seen x w) (throwing code (seen x w) Error)
          (ap (λ f. f (Fails Error)) eg ∙ ap (λ v. throwing code (seen x v) Error) (sym (r.1 ek)))
          (parts.full c w ek))
      lock_acts lock b locks em eb stood parts eg r (taken.Taken v) ek =
          let w = lock_word r.0 in
          let st = store_is c lock v w r.2 in
          at_take b eb stood w (parts.see c w r.2) st.0 AnswerDone
          (locks.does c t ∙ lock_is c lock t w (taken.Taken v) AnswerDone cells.Waits r.2 ek ∙ st.1 AnswerDone)
          (went_so b AnswerDone st.0 (seen x w) (exchanged x 1) (ap (λ f. f AnswerDone) eg)
          (parts.won c st.0 w v ek (won_is c st.0 lock t w v r.2 st.1)))

      -- a tryLock that is known to fail goes on in silence, whichever word it saw
      same_told : (w v : ℕ) (i : ℕ) →
          whole_move code t (seen x w) ≡ Silent (exchanged x 0) →
          whole_move code t (seen x v) ≡ Silent (exchanged x 0) →
          quiet code t i (seen x w) ≡ quiet code t i (seen x v)
      same_told w v zero ew ev =
          at_end code t (seen x w) runs ∙ ap (λ d. carry false (begins_early (thread_move code (seen x w))) d
          (λ z. TooLong)) ew
          ∙ sym (at_end code t (seen x v) runs ∙ ap (λ d. carry false (begins_early (thread_move code (seen x v))) d
          (λ z. TooLong)) ev)
      same_told w v (suc i) ew ev =
          more code t i (seen x w) runs ∙ ap (λ d. carry true (begins_early (thread_move code (seen x w))) d
          (quiet code t i)) ew
          ∙ sym (more code t i (seen x v) runs ∙ ap (λ d. carry true (begins_early (thread_move code (seen x v))) d
          (quiet code t i)) ev)

      try_acts : (lock : ℕ) →
          whole_move code t x ≡ MoveAsks (act.TryLock lock) go →
          act.TryLock lock ≡ acts_as s a →
          stands t x ≡ Paused (act.TryLock lock) go →
          TryParts code t x lock →
          go ≡ after_try code t x →
          (r : Word lock) →
          (z : Taken) →
          taken_of (lock_word r.0) t ≡ z →
          Acting m k
      try_acts lock em eb stood parts eg r taken.Other ek =
          let w = lock_word r.0 in
          at_see (act.TryLock lock) eb stood c (Gives 0) (lock_is c lock t w taken.Other (Gives 1)
          (cells.Answers c (Gives 0)) r.2 ek) (λ z. seen x w)
          (λ y' e. let is : y' ≡ seen x (word_of_another t) =
          (let both_ : Some y' ≡ Some (seen x (word_of_another t)) = sym e ∙ ap (λ f. f (Gives 0)) eg in cc) in
          same_told w (word_of_another t) bound (parts.told_whole w ek)
          (parts.told_whole (word_of_another t) (another_is t)) ∙ ap (stands t) (sym is))
          (λ y' e. parts.see_other c w r.2 ek)
      try_acts lock em eb stood parts eg r taken.TooMany ek =
          let w = lock_word r.0 in
          at_take (act.TryLock lock) eb stood w (parts.see_full c w r.2 ek) c (Fails Error)
          (lock_is c lock t w taken.TooMany (Gives 1) (cells.Answers c (Gives 0)) r.2 ek)
          (thrown_so (act.TryLock lock) (Fails Error) (seen x w) (throwing code (seen x w) Error)
          (ap (λ f. f (Fails Error)) eg ∙ ap (λ v. throwing code (seen x v) Error) (sym (r.1 ek)))
          (parts.full c w ek))
      try_acts lock em eb stood parts eg r (taken.Taken v) ek =
          let w = lock_word r.0 in
          let st = store_is c lock v w r.2 in
          at_take (act.TryLock lock) eb stood w (parts.see c w v r.2 ek) st.0 (Gives 1)
          (lock_is c lock t w (taken.Taken v) (Gives 1) (cells.Answers c (Gives 0)) r.2 ek ∙ st.1 (Gives 1))
          (went_so (act.TryLock lock) (Gives 1) st.0 (seen x w) (exchanged x 1) (ap (λ f. f (Gives 1)) eg)
          (parts.won c st.0 w v ek (won_is c st.0 lock t w v r.2 st.1)))

      unlock_acts : (lock : ℕ) (b : Action ℕ) →
          Unlocking lock b →
          whole_move code t x ≡ MoveAsks b go →
          b ≡ acts_as s a →
          stands t x ≡ Paused b go →
          UnlockParts code t x lock b →
          go ≡ after_unlock code x →
          (r : Word lock) →
          (z : Bool) →
          is_own (lock_word r.0) t ≡ z →
          Acting m k
      unlock_acts lock b unlocks em eb stood parts eg r false ez =
          let w = lock_word r.0 in
          let ek = not_left w t ez in
          at_see b eb stood c (Fails IllegalMonitorState) (unlocks.does c t ∙ unlock_is c lock t w left.NotOwner r.2 ek)
          (λ z. z) (λ y' e. refl) (thrown_so b (Fails IllegalMonitorState) x (throwing code x IllegalMonitorState)
          (ap (λ f. f (Fails IllegalMonitorState)) eg) (parts.see_other c w r.2 ek))
      unlock_acts lock b unlocks em eb stood parts eg r true ez =
          let w = lock_word r.0 in
          let ek = own_left w t ez in
          let st = store_is c lock _ w r.2 in
          at_take b eb stood w (parts.see c w _ r.2 ek) st.0 AnswerDone
          (unlocks.does c t ∙ unlock_is c lock t w (left.Left _) r.2 ek ∙ st.1 AnswerDone)
          (went_so b AnswerDone st.0 (seen x w) _ (ap (λ f. f AnswerDone) eg)
          (parts.drop c st.0 w _ ek (st.1 AnswerDone) _ refl))

      pub any_acts : (b : Action ℕ) →
          whole_move code t x ≡ MoveAsks b go →
          b ≡ acts_as s a →
          stands t x ≡ Paused b go →
          Parts code t x b go →
          Acting m k
      any_acts (act.Lock o) em eb stood parts = (let r = word_of (act.Lock o) em o refl in
          lock_acts o (act.Lock o) (of_lock o) em eb stood parts.0 parts.1 r (taken_of (lock_word r.0) t) refl)
      any_acts (act.LockMonitor o) em eb stood parts = (let r = word_of (act.LockMonitor o) em o refl in
          lock_acts o (act.LockMonitor o) (of_monitor o) em eb stood parts.0 parts.1 r (taken_of (lock_word r.0) t)
          refl)
      any_acts (act.TryLock o) em eb stood parts = (let r = word_of (act.TryLock o) em o refl in
          try_acts o em eb stood parts.0 parts.1 r (taken_of (lock_word r.0) t) refl)
      any_acts (act.Unlock o) em eb stood parts = (let r = word_of (act.Unlock o) em o refl in
          unlock_acts o (act.Unlock o) (off_lock o) em eb stood parts.0 parts.1 r (is_own (lock_word r.0) t) refl)
      any_acts (act.UnlockMonitor o) em eb stood parts = (let r = word_of (act.UnlockMonitor o) em o refl in
          unlock_acts o (act.UnlockMonitor o) (off_monitor o) em eb stood parts.0 parts.1 r (is_own (lock_word r.0) t)
          refl)
      any_acts b em eb stood parts = absurd parts
