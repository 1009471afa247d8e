-- If a thread is read to reach an action that doesn't wait, it acts in time by its own instructions.
use Rattle.std.proofs.Common.{◌≡◌, ◌<◌, ◌≤◌, ◌⊎◌, inl, inr, ℕ, zero, suc, Bool, true, false, length, Option, Some, None}
use Rattle.std.proofs.Common.{refl, sym, ap, ◌∙◌, subst, arith, slice_get}
use Rattle.ls_events.specs.declared.action.Action.{Action}
use Rattle.ls_events.specs.declared.action.Answer.{Answer}
use Rattle.ls_code.specs.Code.{Code}
use Rattle.ls_code.specs.Thread.{Thread}
use Rattle.ls_code.specs.Cells.{Cells}
use Rattle.ls_code.specs.Steps.{Move, Silent, Still, Asks as MoveAsks, Plans, step_result, thread_move, fetched_move}
use Rattle.ls_code.specs.Fed.{Pause, Paused, IsOver, TooLong}
use Rattle.ls_code.specs.Reading.{seen, exchanged, whole_move, begins_early, carry, quiet, word_of_another}
use Rattle.ls_code.specs.declared.instruction.Instruction.{Instruction}
use Rattle.ls_code.specs.declared.step.Mode.{Mode}
use Rattle.ls_code.specs.declared.step.Mode.TheVariants as mode
use Rattle.ls_code.specs.declared.step.Did.TheVariants as did
use Rattle.ls_preservation.specs.Translations.{most_silent}
use Rattle.ls_preservation.specs.Parts.{one, IsPlanned}
use Rattle.ls_preservation.proofs.Lists.{get_within}
use Rattle.ls_preservation.proofs.PartsThere.{parts_are_there}
use Rattle.ls_preservation.proofs.LockCells.{another_is}
use Rattle.ls_preservation.proofs.Others.{lock_on}
use Rattle.ls_preservation.proofs.Feeding.{IsLoud, ended, trapped, at_end, more, beginning, asked_by, silent_is}
use Rattle.ls_preservation.proofs.Middle.{Middle, Here, Saw, Lost, Told, OwnFor, same_mode}
use Rattle.ls_preservation.proofs.Alone.{Replies, Comes, longer, plain}
use Rattle.ls_preservation.proofs.LocksAct.{Word, begins, has_seen, lock_back}

same_action : (a b : Action ℕ) (f g : Answer ℕ → Option Thread) → Paused a f ≡ Paused b g → a ≡ b
same_action a b f g e = cc

same_going : (a b : Action ℕ) (f g : Answer ℕ → Option Thread) → Paused a f ≡ Paused b g → f ≡ g
same_going a b f g e = cc

-- what begins with SEE takes a silent step before it
early : (d : Move) → IsPlanned d → begins_early d ≡ true
early (Silent x) h = absurd h
early Still h = absurd h
early (MoveAsks b go) h = absurd h
early (Plans go) h = refl

module _ (room : Bool) (code : Code) (t : ℕ) (c : Cells) (b : Action ℕ) (go : Answer ℕ → Option Thread)
    (replies : Replies room c t b go) (word : (lock : ℕ) → lock_on b ≡ Some lock → Word c t lock) where
  -- if a thread asks, it asks for this
  asked_same : (m e : Bool) (b' : Action ℕ) (go' : Answer ℕ → Option Thread) (f : Thread → Pause) →
      carry m e (MoveAsks b' go') f ≡ Paused b go →
      Paused b' go' ≡ Paused b go
  asked_same true true b' go' f h = h
  asked_same false true b' go' f h = absurd (cc)
  asked_same m false b' go' f h = h

  acts_plain : (x : Thread) →
      x.mode ≡ mode.Running →
      (b' : Action ℕ) (go' : Answer ℕ → Option Thread) →
      Paused b' go' ≡ Paused b go →
      thread_move code x ≡ MoveAsks b' go' →
      Comes room code t c 1 x
  acts_plain x runs b' go' same em = (
    runs,
    inl (plain room code t c x b go (em ∙ ap (λ z. MoveAsks z go') (same_action b' b go' go same) ∙
        ap (MoveAsks b) (same_going b' b go' go same)) replies),
  )

  acts_begun : (x : Thread) →
      x.mode ≡ mode.Running →
      (b' : Action ℕ) (go' : Answer ℕ → Option Thread) →
      Paused b' go' ≡ Paused b go →
      whole_move code t x ≡ MoveAsks b' go' →
      IsPlanned (thread_move code x) →
      Comes room code t c 2 x
  acts_begun x runs b' go' same em planned =
      begins room code t c x runs b go
      (parts_are_there code t x b go planned (em ∙ ap (λ z. MoveAsks z go') (same_action b' b go' go same) ∙
      ap (MoveAsks b) (same_going b' b go' go same))) replies word

  not_early : (e : Bool) (b' : Action ℕ) (go' : Answer ℕ → Option Thread) →
      e ≡ true →
      carry false e (MoveAsks b' go') (λ s. TooLong) ≡ Paused b go →
      ⊥
  not_early true b' go' h e = cc
  not_early false b' go' h e = cc

  -- if a thread is read to ask for the action after at most n silent instructions, it acts in n + 1 steps
  abbrev pub Reads : ℕ → Type 0
  Reads n = (x : Thread) → quiet code t n x ≡ Paused b go → Comes room code t c (suc n) x

  zero_moves : (x : Thread) →
      x.mode ≡ mode.Running →
      (d : Move) →
      whole_move code t x ≡ d →
      carry false (begins_early (thread_move code x)) d (λ s. TooLong) ≡ Paused b go →
      Comes room code t c 1 x
  zero_moves x runs (Silent x') em e = absurd (cc)
  zero_moves x runs Still em e = absurd (cc)
  zero_moves x runs (Plans f) em e = absurd (cc)
  zero_moves x runs (MoveAsks b' go') em e = by_instruction (asked_by code t x b' go' (thread_move code x) em)
    where
      by_instruction : (thread_move code x ≡ MoveAsks b' go') ⊎ IsPlanned (thread_move code x) → Comes room code t c 1 x
      by_instruction (inl et) = acts_plain x runs b' go' (asked_same false (begins_early (thread_move code x)) b' go'
          (λ s. TooLong) e) et
      by_instruction (inr p) = absurd (not_early (begins_early (thread_move code x)) b' go'
          (early (thread_move code x) p) e)

  more_moves : (n : ℕ) →
      Reads n →
      (x : Thread) →
      x.mode ≡ mode.Running →
      (d : Move) →
      whole_move code t x ≡ d →
      carry true (begins_early (thread_move code x)) d (quiet code t n) ≡ Paused b go →
      Comes room code t c (suc (suc n)) x
  more_moves n ih x runs (Silent x') em e = (runs, inr (x', silent_is code t x x' c em, ih x' e))
  more_moves n ih x runs Still em e = absurd (cc)
  more_moves n ih x runs (Plans f) em e = absurd (cc)
  more_moves n ih x runs (MoveAsks b' go') em e = by_instruction (asked_by code t x b' go' (thread_move code x) em)
    where
      same : Paused b' go' ≡ Paused b go
      same = asked_same true (begins_early (thread_move code x)) b' go' (quiet code t n) e

      by_instruction : (thread_move code x ≡ MoveAsks b' go') ⊎ IsPlanned (thread_move code x) →
          Comes room code t c (suc (suc n)) x
      by_instruction (inl et) = longer room code t c 1 (suc (suc n)) x (omega arith) (acts_plain x runs b' go' same et)
      by_instruction (inr p) = longer room code t c 2 (suc (suc n)) x (omega arith) (acts_begun x runs b' go' same em p)

  over_not : (z : Mode) → IsOver z ≡ Paused b go → ⊥
  over_not z e = cc

  reads_zero : (x : Thread) → quiet code t zero x ≡ Paused b go → (z : Mode) → x.mode ≡ z → Comes room code t c 1 x
  reads_zero x e mode.Running em = zero_moves x em (whole_move code t x) refl (sym (at_end code t x em) ∙ e)
  reads_zero x e mode.Ended em = absurd (over_not mode.Ended (sym (ended code t zero x em) ∙ e))
  reads_zero x e mode.Trapped em = absurd (over_not mode.Trapped (sym (trapped code t zero x em) ∙ e))

  reads_more : (n : ℕ) →
      Reads n →
      (x : Thread) →
      quiet code t (suc n) x ≡ Paused b go →
      (z : Mode) →
      x.mode ≡ z →
      Comes room code t c (suc (suc n)) x
  reads_more n ih x e mode.Running em = more_moves n ih x em (whole_move code t x) refl (sym (more code t n x em) ∙ e)
  reads_more n ih x e mode.Ended em = absurd (over_not mode.Ended (sym (ended code t (suc n) x em) ∙ e))
  reads_more n ih x e mode.Trapped em = absurd (over_not mode.Trapped (sym (trapped code t (suc n) x em) ∙ e))

  -- each number of instructions does so
  pub reads : (n : ℕ) → Reads n
  reads zero x e = reads_zero x e x.mode refl
  reads (suc n) x e = reads_more n (reads n) x e x.mode refl

  -- an instruction that begins an operation is there
  some_code : (y : Thread) → IsPlanned (thread_move code y) → 4 ≤ suc (most_silent code)
  some_code y h = by_place (slice_get code.instructions y.top.counter) refl h
    where
      by_place : (o : Option Instruction) →
          slice_get code.instructions y.top.counter ≡ o →
          IsPlanned (fetched_move code y o) →
          4 ≤ suc (most_silent code)
      by_place None e h = absurd h
      by_place (Some i) e h = let within : y.top.counter < length code.instructions = get_within code.instructions
          y.top.counter i e in omega arith

  too_long : TooLong ≡ Paused b go → ⊥
  too_long e = cc

  -- one silent step, if the reading's thread and the machine's thread become the same
  told : (n : ℕ) (x y x' : Thread) →
      x.mode ≡ mode.Running →
      y.mode ≡ mode.Running →
      one code t c x ≡ step_result x' c did.Silent →
      whole_move code t y ≡ Silent x' →
      quiet code t n y ≡ Paused b go →
      Comes room code t c (suc n) x
  told zero x y x' rx ry step em e = absurd
      (too_long (sym (ap (λ d. carry false (begins_early (thread_move code y)) d (λ s. TooLong)) em) ∙
      sym (at_end code t y ry) ∙ e))
  told (suc n) x y x' rx ry step em e = (
    rx,
    inr (
      x',
      step,
      reads n x' (sym (ap (λ d. carry true (begins_early (thread_move code y)) d (quiet code t n)) em) ∙
          sym (more code t n y ry) ∙ e),
    ),
  )

  abbrev bound : ℕ
  bound = most_silent code

  begun_same : (y : Thread) →
      y.mode ≡ mode.Running →
      (b' : Action ℕ) (go' : Answer ℕ → Option Thread) →
      whole_move code t y ≡ MoveAsks b' go' →
      quiet code t bound y ≡ Paused b go →
      Paused b' go' ≡ Paused b go
  begun_same y runs b' go' em e = sym (beginning code t bound y b' go' runs em (subst IsLoud (sym e) tt)) ∙ e

  -- a thread of the machine, in the midst of what leads a thread to the action
  pub in_middle : (y x : Thread) →
      Middle code c t y x →
      quiet code t bound y ≡ Paused b go →
      Comes room code t c (suc bound) x
  in_middle y x (Here ex) e = subst (Comes room code t c (suc bound)) (sym ex) (reads bound y e)
  in_middle y x (Saw r b' go' lock w em planned on is sees own) e =
      let same = begun_same y r b' go' em e in
      let eb : b' ≡ b = same_action b' b go' go same in
      let parts = parts_are_there code t y b go planned (em ∙ ap (λ z. MoveAsks z go') eb ∙
      ap (MoveAsks b) (same_going b' b go' go same)) in
      subst (Comes room code t c (suc bound)) (sym is)
      (longer room code t c 4 (suc bound) (seen y w) (some_code y planned)
      (has_seen room code t c y r b go parts replies word lock w (sym (ap lock_on eb) ∙ on) sees
      (subst (OwnFor t w) eb own)))
  in_middle y x (Lost r a b' locks go' em planned is) e =
      let same = begun_same y r b' go' em e in
      let eb : b' ≡ b = same_action b' b go' go same in
      let parts = locks.parts code t y go' (parts_are_there code t y b' go' planned em) in
      let l = word a (sym (ap lock_on eb) ∙ locks.on) in
      subst (Comes room code t c (suc bound)) (sym is)
      (longer room code t c 3 (suc bound) (exchanged y 0) (let some = some_code y planned in omega arith)
      (lock_back room code t c y r a l.0 l.1 l.2 b' locks parts.0
      (subst (Replies room c t b') (sym (same_going b' b go' go same) ∙ parts.1)
      (subst (λ z. Replies room c t z go) (sym eb) replies))))
  in_middle y x (Told r z a w parts ey ex ek) e =
      told bound x y (exchanged z 0) (same_mode code c t y x (Told r z a w parts ey ex ek) ∙ r) r
      (ap (one code t c) ex ∙ parts.told c w ek) (ap (whole_move code t) ey ∙
      parts.told_whole (word_of_another t) (another_is t)) e
