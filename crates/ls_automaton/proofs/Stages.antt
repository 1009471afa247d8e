-- How far a thread has come in its calls: a number that rises with each of its events.
use Rattle.std.proofs.Common.{◌≡◌, ℕ, ◌+◌, ◌*◌, ◌<◌, ◌≤◌, Bool, true, false, List, [], ◌∷◌, ◌++◌, Option, Some, None}
use Rattle.std.proofs.Common.{sym, ap, arith}
use Rattle.ls_events.specs.declared.value.Value.{Value}
use Rattle.ls_events.specs.declared.action.Action.{Action}
use Rattle.ls_events.specs.declared.action.Action.TheVariants as act
use Rattle.ls_events.specs.declared.action.Answer.{Answer}
use Rattle.ls_events.specs.declared.event.Event.{Event}
use Rattle.ls_checked.specs.CheckedTree.{File}
use Rattle.ls_checked.specs.CheckedProgram.{Program, ProgramCall, Making, Calling}
use Rattle.ls_meaning.specs.Course.{Answers, Evaluated, Asks, Results, Throws}
use Rattle.ls_meaning.specs.Threads.{Next, Goes, Ended, Trapped, after_call, all_calls, one_call}
use Rattle.ls_meaning.specs.Runs.{event_of}
use Rattle.ls_serial.specs.Serial.{is_called}
use Rattle.ls_serial_search.proofs.Further.{Further, IsLoud, body_of_call}

-- ---- events

abbrev pub rank_by : Bool → ℕ → ℕ
rank_by true n = 2 * n
rank_by false n = 2 * n + 1

-- where the event stands among those of its thread
abbrev pub rank : Event → ℕ
rank e = rank_by (is_called e.happening) e.call

-- an action with this event
abbrev Has : ℕ → Action Value → Event → Type 0
Has t a e = event_of t a ≡ Some e

some_is : {A : Type 0} {x y : A} → Some x ≡ Some y → x ≡ y
some_is h = cc

loud : (t : ℕ) (a : Action Value) (e : Event) → Has t a e → IsLoud a
loud t (act.Call n) e is = tt
loud t (act.Return n v) e is = tt
loud t (act.Trap n k) e is = tt
loud t _ e is = absurd (nothing is)
  where
    nothing : {e : Event} → None ≡ Some e → ⊥
    nothing h = cc

pub event_thread : (t : ℕ) (a : Action Value) (e : Event) → Has t a e → e.thread ≡ t
event_thread t (act.Call n) e is = cc
event_thread t (act.Return n v) e is = cc
event_thread t (act.Trap n k) e is = cc
event_thread t _ e is = absurd cc

-- ---- stages

-- where the thread stands after a call of this number has begun
abbrev stage_after : ℕ → Evaluated (Option Value) → (Answers → ℕ) → ℕ
stage_after n (Asks a s) go = 2 * n + 1
stage_after n (Results v []) go = 2 * n + 1
stage_after n (Results v (y ∷ rest)) go = go rest
stage_after n (Throws k []) go = 2 * n + 1
stage_after n (Throws k (y ∷ rest)) go = 2 * n + 2

module _ (file : File) (program : Program) where
  -- where the thread stands after these answers
  abbrev pub stage : ℕ → List ProgramCall → Answers → ℕ
  stage n [] q = 2 * n
  stage n (c ∷ cs) [] = 2 * n
  stage n (c ∷ cs) (y ∷ q) = stage_after n (one_call file program n c (y ∷ q)) (stage (n + 1) cs)

  -- ---- it stands at least at its call

  after_low : (n : ℕ) (x : Evaluated (Option Value)) (go : Answers → ℕ) → ((r : Answers) → 2 * (n + 1) ≤ go r) →
      2 * n + 1 ≤ stage_after n x go
  after_low n (Asks a s) go low = omega arith
  after_low n (Results v []) go low = omega arith
  after_low n (Results v (y ∷ rest)) go low = omega (arith, low rest)
  after_low n (Throws k []) go low = omega arith
  after_low n (Throws k (y ∷ rest)) go low = omega arith

  stage_low : (n : ℕ) (cs : List ProgramCall) (q : Answers) → 2 * n ≤ stage n cs q
  stage_low n [] q = omega arith
  stage_low n (c ∷ cs) [] = omega arith
  stage_low n (c ∷ cs) (y ∷ q) =
      let low = after_low n (one_call file program n c (y ∷ q)) (stage (n + 1) cs) (λ r. stage_low (n + 1) cs r) in
      omega (arith, low)

  -- ---- the event that is due

  -- what comes next has this event
  abbrev pub IsDue : ℕ → Next → Event → Type 0
  IsDue t (Goes a s) e = Has t a e
  IsDue t Ended e = ⊥
  IsDue t Trapped e = ⊥

  module _ (t : ℕ) (e : Event) where
    -- it has the number at which its thread stands
    after_due : (n : ℕ) (x y : Evaluated (Option Value)) (go : Answers → Next) (low : Answers → ℕ) →
        Further [] x y →
        ((r : Answers) → IsDue t (go r) e → rank e ≡ low r) →
        IsDue t (after_call n x go) e →
        rank e ≡ stage_after n x low
    after_due n (Asks a s) y go low f on due = absurd (f.is (loud t a e due))
    after_due n (Results v []) y go low f on due = ap rank (sym (some_is due))
    after_due n (Results v (z ∷ rest)) y go low f on due = on rest due
    after_due n (Throws k []) y go low f on due = ap rank (sym (some_is due))
    after_due n (Throws k (z ∷ rest)) y go low f on due = absurd due

    pub due_rank : (n : ℕ) (cs : List ProgramCall) (q : Answers) →
        IsDue t (all_calls file program n cs q) e →
        rank e ≡ stage n cs q
    due_rank n [] q due = absurd due
    due_rank n (Making name c text values ∷ cs) [] due = ap rank (sym (some_is due))
    due_rank n (Calling name m text result values ∷ cs) [] due = ap rank (sym (some_is due))
    due_rank n (c ∷ cs) (y ∷ q) due =
        after_due n (one_call file program n c (y ∷ q)) (one_call file program n c (y ∷ q ++ []))
        (all_calls file program (n + 1) cs) (stage (n + 1) cs) (body_of_call [] file program n c y q)
        (λ r. due_rank (n + 1) cs r) due

  -- ---- with one answer more it stands no lower, and higher if its event was due

  module _ (y : Answer Value) where
    after_grows : (n : ℕ) (x x' : Evaluated (Option Value)) (low : Answers → ℕ) →
        Further (y ∷ []) x x' →
        ((r : Answers) → 2 * (n + 1) ≤ low r) →
        ((r : Answers) → low r ≤ low (r ++ y ∷ [])) →
        stage_after n x low ≤ stage_after n x' low
    after_grows n (Asks a s) x' low f least on = after_low n x' low least
    after_grows n (Results v []) x' low f least on =
        rw f.is (let h = least [] in omega (arith, h))
    after_grows n (Results v (z ∷ rest)) x' low f least on = rw f.is (on rest)
    after_grows n (Throws k []) x' low f least on = rw f.is (omega arith)
    after_grows n (Throws k (z ∷ rest)) x' low f least on = rw f.is (omega arith)

    pub stage_grows : (n : ℕ) (cs : List ProgramCall) (q : Answers) → stage n cs q ≤ stage n cs (q ++ y ∷ [])
    stage_grows n [] q = omega arith
    stage_grows n (c ∷ cs) [] =
        let low = after_low n (one_call file program n c (y ∷ [])) (stage (n + 1) cs) (λ r. stage_low (n + 1) cs r) in
        omega (arith, low)
    stage_grows n (c ∷ cs) (z ∷ q) =
        after_grows n (one_call file program n c (z ∷ q)) (one_call file program n c (z ∷ q ++ y ∷ []))
        (stage (n + 1) cs) (body_of_call (y ∷ []) file program n c z q) (λ r. stage_low (n + 1) cs r)
        (λ r. stage_grows (n + 1) cs r)

    module _ (t : ℕ) (e : Event) where
      after_passes : (n : ℕ) (x x' : Evaluated (Option Value)) (go : Answers → Next) (low : Answers → ℕ) →
          Further (y ∷ []) x x' →
          ((r : Answers) → 2 * (n + 1) ≤ low r) →
          ((r : Answers) → IsDue t (go r) e → low r < low (r ++ y ∷ [])) →
          IsDue t (after_call n x go) e →
          stage_after n x low < stage_after n x' low
      after_passes n (Asks a s) x' go low f least on due = absurd (f.is (loud t a e due))
      after_passes n (Results v []) x' go low f least on due =
          rw f.is (let h = least [] in omega (arith, h))
      after_passes n (Results v (z ∷ rest)) x' go low f least on due = rw f.is (on rest due)
      after_passes n (Throws k []) x' go low f least on due = rw f.is (omega arith)
      after_passes n (Throws k (z ∷ rest)) x' go low f least on due = absurd due

      pub stage_passes : (n : ℕ) (cs : List ProgramCall) (q : Answers) →
          IsDue t (all_calls file program n cs q) e →
          stage n cs q < stage n cs (q ++ y ∷ [])
      stage_passes n [] q due = absurd due
      stage_passes n (c ∷ cs) [] due =
          let low = after_low n (one_call file program n c (y ∷ []))
          (stage (n + 1) cs) (λ r. stage_low (n + 1) cs r) in
          omega (arith, low)
      stage_passes n (c ∷ cs) (z ∷ q) due =
          after_passes n (one_call file program n c (z ∷ q)) (one_call file program n c (z ∷ q ++ y ∷ []))
          (all_calls file program (n + 1) cs) (stage (n + 1) cs) (body_of_call (y ∷ []) file program n c z q)
          (λ r. stage_low (n + 1) cs r) (λ r. stage_passes (n + 1) cs r) due
