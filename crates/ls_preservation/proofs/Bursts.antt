-- The instructions of a thread up to and with the instruction that acts, for one action of the source.
use Rattle.std.proofs.Common.{◌≡◌, ◌⊎◌, inl, inr, ℕ, zero, suc, ◌+◌, ◌≤◌, Bool, true, false, List, [], Option, Some}
use Rattle.std.proofs.Common.{refl, ap, ◌∙◌, subst, slice_get, nat_eq}
use Rattle.ls_events.specs.declared.value.Value.{Value}
use Rattle.ls_events.specs.declared.action.Action.{Action}
use Rattle.ls_events.specs.declared.action.Answer.{Answer}
use Rattle.ls_meaning.specs.declared.sort.Sort.{Sort}
use Rattle.ls_meaning.specs.Course.{Answers}
use Rattle.ls_meaning.specs.Store.{Store}
use Rattle.ls_meaning.specs.Effect.{Does, effect}
use Rattle.ls_meaning.specs.Threads.{Goes, next}
use Rattle.ls_meaning.specs.Runs.{State}
use Rattle.ls_code.specs.Thread.{Thread}
use Rattle.ls_code.specs.Cells as cells
use Rattle.ls_code.specs.Steps.{Move, Silent, Still, Asks as MoveAsks, Plans, thread_move}
use Rattle.ls_code.specs.Steps as machine_steps
use Rattle.ls_code.specs.Fed.{Paused, TooLong}
use Rattle.ls_preservation.specs.Sorts.{ActionHas}
use Rattle.ls_code.specs.Reading.{whole_move, begins_early, carry, quiet}
use Rattle.ls_preservation.specs.Parts.{IsPlanned}
use Rattle.ls_preservation.proofs.Setting.{Setting}
use Rattle.ls_preservation.proofs.PartsThere.{parts_are_there}
use Rattle.ls_preservation.proofs.Lists.{set_same}
use Rattle.ls_preservation.proofs.Effects.{renaming, Agrees}
use Rattle.ls_preservation.proofs.AllCases.{effects_agree}
use Rattle.ls_code.specs.Machine.{Machine, machine_step}
use Rattle.ls_code.specs.Machine as machine
use Rattle.ls_code.specs.declared.step.Did.TheVariants as did
use Rattle.ls_preservation.specs.Translations.{if_silent, until_acts}
use Rattle.ls_preservation.specs.Same.{total}
use Rattle.ls_preservation.proofs.Feeding.{IsLoud, beginning, asked_by, silent_is, NoPlan, none, at_end, more}
use Rattle.ls_preservation.proofs.Following.{line, told_to, moved}
use Rattle.ls_preservation.proofs.Following
use Rattle.ls_preservation.proofs.Between
use Rattle.ls_preservation.proofs.BurstActs

module _ (setting : Setting) where
  open setting use {file, program, code, asks, sound, room, small}
  open Following.notions setting use {named, names, bound, stands, InWords, Live, Later, write, acts_as}
  open Between.notions setting use {Follows, Ready, PerformsBy}

  module _ (s : State) (t : ℕ) (had : Answers) (at : slice_get s.answers t ≡ Some had) (a : Action Value) (q : Sort)
      (goes : next file program t had ≡ Goes a q) (st' : Store) (y : Answer Value)
      (does : effect file.classes s.store t a ≡ Does st' y) (fits : names + total st'.things ≤ room) where
    abbrev s' : State
    s' = told_to s t had st' y

    abbrev Lives : Type 0
    Lives = Live s' (line t a y) × Later s s'

    abbrev Acting : Machine → (machine.Stepped → List ℕ) → Type 0
    Acting = BurstActs.Acting setting s t had at a q goes st' y does fits

    abbrev Stops : (machine.Stepped → List ℕ) → Type 0
    Stops = BurstActs.Stops setting s t had at a q goes st' y does fits

    abbrev Bursts : ℕ → Type 0
    Bursts n = (m : Machine) → Follows s m → m.stopped ≡ false → Ready m t → (x : Thread) →
        slice_get m.threads t ≡ Some x → IsLoud (quiet code t n x) →
        Lives × PerformsBy s' (write s' (line t a y)) m (until_acts n m t)

    asks_as : (m : Machine) (h : Follows s m) (x : Thread) →
        slice_get m.threads t ≡ Some x →
        (b : Action ℕ) (go : Answer ℕ → Option Thread) →
        whole_move code t x ≡ MoveAsks b go →
        (stands t x ≡ Paused b go) × (b ≡ acts_as s a)
    asks_as m h x there b go em =
        let each = Between.each_here setting s m h t had x at there in
        let stood : stands t x ≡ Paused b go = beginning code t bound x b go
        (Between.runs_on setting s m h t had x at there a q goes) em
        (Between.loud_so setting h.sorts s.store m.cells h.holds t had x each) in (
          stood,
          subst (λ d. InWords (renaming names s.store) d (Paused b go)) goes
              (subst (λ z. InWords (renaming names s.store) (next file program t had) z) stood
              (Between.stands_so setting h.sorts s.store m.cells h.holds t had x each)),
        )

    by_one : (m : Machine) (h : Follows s m) →
        m.stopped ≡ false →
        Ready m t →
        (x : Thread) →
        slice_get m.threads t ≡ Some x →
        (b : Action ℕ) (go : Answer ℕ → Option Thread) →
        whole_move code t x ≡ MoveAsks b go →
        thread_move code x ≡ MoveAsks b go →
        (k : machine.Stepped → List ℕ) →
        Stops k →
        Acting m k
    by_one m h unstopped ready x there b go em et k none_ =
        let r = asks_as m h x there b go em in
        let each = Between.each_here setting s m h t had x at there in
        let has : ActionHas file program h.sorts t a q = sound.sound h.sorts t had a q each.2 goes in
        let ag0 = effects_agree file program code.sizes room small asks.sizes h.sorts s.store m.cells h.holds t a q has
        in
        BurstActs.plain_acts setting s t had at a q goes st' y does fits m h unstopped ready x there go
        (et ∙ ap (λ z. MoveAsks z go) r.1) (r.0 ∙ ap (λ z. Paused z go) r.1)
        (cells.effect m.cells t (acts_as s a)) refl
        (subst (λ d. Agrees file.classes named code.sizes room h.sorts s.store a q d
        (cells.effect m.cells t (acts_as s a))) does ag0) k none_

    -- with no silent instruction left, no operation of several instructions is begun
    not_early : (e : Bool) (b : Action ℕ) (go : Answer ℕ → Option Thread) →
        e ≡ true →
        IsLoud (carry false e (MoveAsks b go) (λ z. TooLong)) →
        ⊥
    not_early true b go ee l = l
    not_early false b go ee l = cc

    early : (d : Move) → IsPlanned d → begins_early d ≡ true
    early (Silent x') p = absurd p
    early Still p = absurd p
    early (MoveAsks b go) p = absurd p
    early (Plans go) p = refl

    burst_zero : (m : Machine) →
        Follows s m →
        m.stopped ≡ false →
        Ready m t →
        (x : Thread) →
        slice_get m.threads t ≡ Some x →
        (d : Move) →
        whole_move code t x ≡ d →
        IsLoud (carry false (begins_early (thread_move code x)) d (λ z. TooLong)) →
        Acting m (λ r. [])
    burst_zero m h unstopped ready x there (Silent x') em loud = absurd loud
    burst_zero m h unstopped ready x there Still em loud = absurd
        (Between.never_still setting s m h t had x (Between.each_here setting s m h t had x at there)
        (Between.runs_on setting s m h t had x at there a q goes) em)
    burst_zero m h unstopped ready x there (Plans go) em loud = absurd
        (subst (NoPlan code t) em (none code t x (thread_move code x)))
    burst_zero m h unstopped ready x there (MoveAsks b go) em loud = by_instruction
        (asked_by code t x b go (thread_move code x) em)
      where
        by_instruction : (thread_move code x ≡ MoveAsks b go) ⊎ IsPlanned (thread_move code x) → Acting m (λ r. [])
        by_instruction (inl et) = by_one m h unstopped ready x there b go em et (λ r. []) (λ m' c w. refl)
        by_instruction (inr p) = absurd (not_early (begins_early (thread_move code x)) b go
            (early (thread_move code x) p) loud)

    burst_more : (n : ℕ) →
        Bursts n →
        (m : Machine) →
        Follows s m →
        m.stopped ≡ false →
        Ready m t →
        (x : Thread) →
        slice_get m.threads t ≡ Some x →
        (d : Move) →
        whole_move code t x ≡ d →
        IsLoud (carry true (begins_early (thread_move code x)) d (quiet code t n)) →
        Acting m (λ z. if_silent z.did (until_acts n z.machine t))
    burst_more n ih m h unstopped ready x there (Silent x') em loud =
        let runs = Between.runs_on setting s m h t had x at there a q goes in
        let r : machine.Stepped = moved m t (machine_steps.step_result x' m.cells did.Silent) in
        let eq : machine_step m t ≡ r =
        Between.machine_goes setting m t x (thread_move code x) h.same_code unstopped runs ready there refl
        ∙ ap (moved m t) (silent_is code t x x' m.cells em) in
        let h1 : Follows s r.machine = Between.went_on setting s m h t had x x' false _ at there
        (Between.keeps setting h.sorts s.store m.cells h.holds t had x x'
        (Between.each_here setting s m h t had x at there) runs em) in
        let next_ = ih r.machine h1 refl (Between.still_ready setting m t x' (nat_eq t 0) refl ready) x'
        (set_same m.threads t x x' there) loud in (
          next_.0,
          Between.after_first setting s' (write s' (line t a y)) m t (λ z. if_silent z.did (until_acts n z.machine t)) r
              eq
              next_.1,
        )
    burst_more n ih m h unstopped ready x there Still em loud = absurd
        (Between.never_still setting s m h t had x (Between.each_here setting s m h t had x at there)
        (Between.runs_on setting s m h t had x at there a q goes) em)
    burst_more n ih m h unstopped ready x there (Plans go) em loud = absurd
        (subst (NoPlan code t) em (none code t x (thread_move code x)))
    burst_more n ih m h unstopped ready x there (MoveAsks b go) em loud = by_instruction
        (asked_by code t x b go (thread_move code x) em)
      where
        by_instruction : (thread_move code x ≡ MoveAsks b go) ⊎ IsPlanned (thread_move code x) →
            Acting m (λ z. if_silent z.did (until_acts n z.machine t))
        by_instruction (inl et) = by_one m h unstopped ready x there b go em et
            (λ z. if_silent z.did (until_acts n z.machine t)) (λ m' c w. refl)
        by_instruction (inr p) = (let r = asks_as m h x there b go em in
            BurstActs.any_acts setting s t had at a q goes st' y does fits n m h unstopped ready x there go p b em r.1
            r.0 (parts_are_there code t x b go p em))

    -- the thread's instructions up to and with the acting one
    pub burst : (n : ℕ) → Bursts n
    burst zero m h unstopped ready x there loud = burst_zero m h unstopped ready x there (whole_move code t x) refl
        (subst IsLoud (at_end code t x (Between.runs_on setting s m h t had x at there a q goes)) loud)
    burst (suc n) m h unstopped ready x there loud = burst_more n (burst n) m h unstopped ready x there
        (whole_move code t x) refl (subst IsLoud (more code t n x
        (Between.runs_on setting s m h t had x at there a q goes)) loud)
