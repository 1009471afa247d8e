-- Where the source's next step of a thread acts, the machine's thread acts in time.
use Rattle.std.proofs.lemmas.Bool.Decides.{nat_tests}
use Rattle.std.proofs.lemmas.List.{length-map}
use Rattle.std.proofs.Common.{◌≡◌, ◌<◌, ℕ, zero, suc, ◌+◌, Bool, true, false, [], length, Option, Some, None, refl, sym}
use Rattle.std.proofs.Common.{ap, ◌∙◌, subst, arith, slice_get, nat_le, if◌then◌else◌}
use Rattle.ls_events.specs.declared.value.Value.{Value}
use Rattle.ls_events.specs.declared.value.ValueType.{ValueType}
use Rattle.ls_events.specs.declared.action.Action.{Action}
use Rattle.ls_events.specs.declared.action.Answer.{Answer}
use Rattle.ls_checked.specs.CheckedTree.{File}
use Rattle.ls_checked.specs.CheckedProgram.{Program}
use Rattle.ls_meaning.specs.declared.sort.Sort.{Sort}
use Rattle.ls_meaning.specs.Course.{Answers}
use Rattle.ls_meaning.specs.Store.{Store}
use Rattle.ls_meaning.specs.Effect.{Effect, Waits, Does, effect}
use Rattle.ls_meaning.specs.Threads.{Next, Goes, Ended, Trapped, next}
use Rattle.ls_meaning.specs.Runs.{State, Step, answers_of, has_started, idle, step_of, performed, step, source_run}
use Rattle.ls_code.specs.Code.{Code}
use Rattle.ls_code.specs.Thread.{Thread}
use Rattle.ls_code.specs.Cells as cells
use Rattle.ls_code.specs.Fed.{Pause, Paused, Passes, IsOver, IsStuck, TooLong}
use Rattle.ls_code.specs.Machine.{Machine, loaded, machine_run}
use Rattle.ls_preservation.specs.InWords.{written}
use Rattle.ls_preservation.specs.Sorts.{Names, ActionHas}
use Rattle.ls_preservation.specs.Threads.{Asks}
use Rattle.ls_preservation.specs.Same.{IsCells, total}
use Rattle.ls_preservation.specs.Translations.{most_silent, to_source}
use Rattle.ls_preservation.proofs.Setting.{Setting, setting_of}
use Rattle.ls_preservation.proofs.Lists.{get_there, index_there}
use Rattle.ls_preservation.proofs.Meaning.{Means}
use Rattle.ls_preservation.proofs.LockCells.{full_is}
use Rattle.ls_preservation.proofs.Others.{IsHeldType, lock_on, lock_word, lock_renamed, renamed_lock, lock_named}
use Rattle.ls_preservation.proofs.Others.{LockNamed, word_there}
use Rattle.ls_preservation.proofs.Middle.{Here}
use Rattle.ls_preservation.proofs.Effects.{renaming, thing_there, Agrees}
use Rattle.ls_preservation.proofs.Following
use Rattle.ls_preservation.proofs.BothAct
use Rattle.ls_preservation.specs.InTime.{IsOpen}
use Rattle.ls_preservation.specs.Acting.{first_did, StepsAs, ActsInTime}
use Rattle.ls_preservation.proofs.Reached.{follows_all}
use Rattle.ls_preservation.proofs.Alone.{Acting, Replies, Goes as Answered, Ends as Stopped, acts_first}
use Rattle.ls_preservation.proofs.LocksAct.{Word}
use Rattle.ls_preservation.proofs.Read.{in_middle}

module _ (file : File) (program : Program) (code : Code) (asks : Asks file program code) (sound : Means file program)
    (room : ℕ) (within : IsCells code room) where
  abbrev setting : Setting
  setting = setting_of file program code asks sound room within

  open Following.notions setting use {named, names, bound, stands, Follows, InWords, acts_as}

  abbrev Each : (s : State) (m : Machine) → Follows s m → ℕ → Option Answers → Option Thread → Type 0
  Each s m h t o p = Following.Each setting m.cells h.sorts (renaming names s.store) t o p

  -- whether there is room for a store
  abbrev roomy : Store → Bool
  roomy st = nat_le (length program.names + total st.things) room

  module _ (s : State) (m : Machine) (h : Follows s m) (t : ℕ) (had : Answers) (at : slice_get s.answers t ≡ Some had)
      (x : Thread) (there : slice_get m.threads t ≡ Some x) (each : Each s m h t (Some had) (Some x)) (a : Action Value)
      (q : Sort) (goes : next file program t had ≡ Goes a q) where
    has : ActionHas file program h.sorts t a q
    has = sound.sound h.sorts t had a q each.2 goes

    -- the machine's action does what the source's does
    replies : (go : Answer ℕ → Option Thread) →
        stands t each.3 ≡ Paused (acts_as s a) go →
        (st : Store) (y : Answer Value) →
        effect file.classes s.store t a ≡ Does st y →
        Replies (roomy st) m.cells t (acts_as s a) go
    replies go stood st y does =
        by_effect (cells.effect m.cells t (acts_as s a)) refl
        (subst (λ d. Agrees file.classes named code.sizes room h.sorts s.store a q d
        (cells.effect m.cells t (acts_as s a))) does
        (Following.agree_here setting s m h t a q has))
      where
        no_room : room < names + total st.things → roomy st ≡ false
        no_room h = (let same : names ≡ length program.names = length-map program.names _ in grind (arith, nat_tests))

        by_effect : (e : cells.Effect) →
            cells.effect m.cells t (acts_as s a) ≡ e →
            Agrees file.classes named code.sizes room h.sorts s.store a q (Does st y) e →
            Replies (roomy st) m.cells t (acts_as s a) go
        by_effect cells.Waits ee agree = absurd agree
        by_effect cells.Unfit ee agree = absurd agree
        by_effect cells.Stops ee agree = Stopped (no_room agree) ee
        by_effect (cells.Answers c w) ee agree =
            let both = BothAct.both_act setting s m h t had x at there each a q goes has go stood st y c w does
            (λ z. z) (λ y' e l. (y', refl, Here refl)) agree in
            Answered c w both.0 ee both.1

    -- the lock that it is on
    some_lock : (o : Option ℕ) (lock : ℕ) →
        LockNamed h.sorts o →
        renamed_lock (renaming names s.store) o ≡ Some lock →
        (n : ℕ) × (q : ValueType) × IsHeldType q × Names h.sorts n q × (renaming names s.store n ≡ lock)
    some_lock None lock is e = cc
    some_lock (Some n) lock is e = (n, is.0, is.1, is.2, cc)

    named_word : (n lock : ℕ) (q : ValueType) →
        IsHeldType q →
        Names h.sorts n q →
        renaming names s.store n ≡ lock →
        Word m.cells t lock
    named_word zero lock q held is e = absurd is
    named_word (suc k) lock q held is e =
        let r = thing_there file.classes h.sorts s.store.things h.sorts k q h.holds.typed is in (
          lock_word r.0,
          ap (λ z. cells.cell_at m.cells z 0) (sym e) ∙ word_there file.classes named code.sizes
              room h.sorts s.store m.cells h.holds k r.0 q r.1 held r.2,
          full_is file.classes h.sorts r.0 q t r.2,
        )

    word : (lock : ℕ) → lock_on (acts_as s a) ≡ Some lock → Word m.cells t lock
    word lock on =
        let l = some_lock (lock_on a) lock (lock_named file program h.sorts t a q has)
        (sym (lock_renamed (renaming names s.store) (written (renaming names s.store)) a) ∙ on) in
        named_word l.0 lock l.1 l.2 l.3 l.4

    acts_by : IsOpen m t →
        (d : Pause) →
        stands t each.3 ≡ d →
        InWords (renaming names s.store) (Goes a q) d →
        (st : Store) (y : Answer Value) →
        effect file.classes s.store t a ≡ Does st y →
        Acting (roomy st) (first_did (suc bound) m t)
    acts_by is_open (Paused b go) stood w st y does =
        let stood' : stands t each.3 ≡ Paused (acts_as s a) go = stood ∙ ap (λ z. Paused z go) w in
        acts_first (roomy st) code t (suc bound) m x h.same_code is_open.0 is_open.1 there
        (in_middle (roomy st) code t m.cells (acts_as s a) go (replies go stood' st y does) word each.3 x each.5
        stood')
    acts_by is_open (Passes u) stood w st y does = absurd w
    acts_by is_open (IsOver z) stood w st y does = absurd w
    acts_by is_open IsStuck stood w st y does = absurd w
    acts_by is_open TooLong stood w st y does = absurd w

    -- if the source's action is done, the thread acts in time; if there is no room, the machine may stop
    pub acts : IsOpen m t →
        (st : Store) (y : Answer Value) →
        effect file.classes s.store t a ≡ Does st y →
        Acting (roomy st) (first_did (suc bound) m t)
    acts is_open st y does =
        acts_by is_open (stands t each.3) refl
        (subst (λ d. InWords (renaming names s.store) d (stands t each.3)) goes
        (Following.stands_so setting h.sorts s.store m.cells h.holds t had x each)) st y does

  abbrev So : Machine → ℕ → Step → Type 0
  So m t p = StepsAs program room p (first_did (suc bound) m t)

  acts_next : (s : State) (m : Machine) (h : Follows s m) (t : ℕ) →
      IsOpen m t →
      (had : Answers) →
      slice_get s.answers t ≡ Some had →
      (x : Thread) →
      slice_get m.threads t ≡ Some x →
      Each s m h t (Some had) (Some x) →
      (d : Next) →
      next file program t had ≡ d →
      So m t (step_of file s t d)
  acts_next s m h t is_open had at x there each Ended goes = tt
  acts_next s m h t is_open had at x there each Trapped goes = tt
  acts_next s m h t is_open had at x there each (Goes a q) goes = by_effect (effect file.classes s.store t a) refl
    where
      by_effect : (d : Effect) → effect file.classes s.store t a ≡ d → So m t (performed s t a d)
      by_effect Waits e = tt
      by_effect (Does st y) e = acts s m h t had at x there each a q goes is_open st y e

  acts_had : (s : State) (m : Machine) (h : Follows s m) (t : ℕ) →
      IsOpen m t →
      (had : Answers) →
      slice_get s.answers t ≡ Some had →
      (p : Option Thread) →
      slice_get m.threads t ≡ p →
      Each s m h t (Some had) p →
      So m t (step_of file s t (next file program t had))
  acts_had s m h t is_open had at None there each = absurd each
  acts_had s m h t is_open had at (Some x) there each = acts_next s m h t is_open had at x there each
      (next file program t had) refl

  pub acts_in_step : (s : State) (m : Machine) (h : Follows s m) (t : ℕ) →
      t < length program.threads →
      IsOpen m t →
      So m t (step file program s t)
  acts_in_step s m h t is is_open = by_start (has_started file program s t)
    where
      found : (had : Answers) × (slice_get s.answers t ≡ Some had)
      found = get_there s.answers t (omega (arith, h.count))

      by_start : (b : Bool) → So m t (if b then step_of file s t (next file program t (answers_of s t)) else idle s)
      by_start false = tt
      by_start true =
          subst (λ l. So m t (step_of file s t (next file program t l)))
          (sym (index_there s.answers t found.0 [] found.1))
          (acts_had s m h t is_open found.0 found.1 (slice_get m.threads t) refl
          (subst (λ o. Each s m h t o (slice_get m.threads t)) found.1 (h.each t)))

-- the law: threads act in time
pub acts_right : (file : File) (program : Program) (code : Code) →
    Asks file program code →
    Means file program →
    ActsInTime file program code
acts_right file program code asks sound cells within schedule t is is_open =
    let m = machine_run (loaded code cells) schedule in
    let s = source_run file program (to_source code cells schedule) in
    let one_more : suc (most_silent code) ≡ most_silent code + 1 = omega arith in
    subst (λ n. StepsAs program cells (step file program s t) (first_did n m t)) one_more
    (acts_in_step file program code asks sound cells within s m
    (follows_all file program code asks sound cells within schedule) t is is_open)
