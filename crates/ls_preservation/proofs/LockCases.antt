-- The acting cases of locks and monitors.
use Rattle.std.proofs.Common.{◌≡◌, ◌≢◌, ℕ, suc, ◌+◌, ◌-◌, ◌*◌, ◌/◌, ◌%◌, ◌<◌, ◌≤◌, ◌^◌, ◌==◌, Bool, true, false, not}
use Rattle.std.proofs.Common.{List, [], ◌∷◌, length, Some, refl, sym, ap, ◌∙◌, arith, slice_get, slice_set, nat_eq}
use Rattle.std.proofs.Common.{nat_lt, nat_le, if◌then◌else◌, map}
use Rattle.std.proofs.lemmas.Bool.Decides.{nat_tests}
use Rattle.ls_code.specs.Limits.{most_cells}
use Rattle.ls_events.specs.declared.kind.Kind.TheVariants.{IllegalMonitorState, Error}
use Rattle.ls_events.specs.declared.value.Value.{Value}
use Rattle.ls_events.specs.declared.value.Value.TheVariants.{Boolean}
use Rattle.ls_events.specs.declared.value.ValueType.{ValueType}
use Rattle.ls_events.specs.declared.value.ValueType.TheVariants as type
use Rattle.ls_events.specs.declared.action.Action.{Action}
use Rattle.ls_events.specs.declared.action.Action.TheVariants.{Lock, Unlock, TryLock, IsHeld, LockMonitor}
use Rattle.ls_events.specs.declared.action.Action.TheVariants.{UnlockMonitor}
use Rattle.ls_events.specs.declared.action.Answer.{Answer}
use Rattle.ls_events.specs.declared.action.Answer.TheVariants.{Done, Gives, Fails}
use Rattle.ls_checked.specs.CheckedTree.{Class}
use Rattle.ls_meaning.specs.declared.sort.Sort.{Sort}
use Rattle.ls_meaning.specs.declared.sort.Sort.TheVariants.{NoValue, ValueOf}
use Rattle.ls_meaning.specs.Store.{Hold, Free, HeldBy, Thing, Object, LockOf, Markable, Array, Store}
use Rattle.ls_meaning.specs.Effect.{Effect, Leaves, Holding, Awaits, Becomes, on_thing, put_back, with_hold, locking}
use Rattle.ls_meaning.specs.Effect.{trying, unlocking}
use Rattle.ls_meaning.specs.Threads.{Goes}
use Rattle.ls_code.specs.Words.{bool_word}
use Rattle.ls_code.specs.Locks.{is_own, taken_of, left_of}
use Rattle.ls_code.specs.Cells.{Cells, cell_at, on_cell}
use Rattle.ls_code.specs.Cells as machine
use Rattle.ls_code.specs.declared.lock_word.Taken.{Taken}
use Rattle.ls_code.specs.declared.lock_word.Taken.TheVariants as taken
use Rattle.ls_code.specs.declared.lock_word.Left.{Left}
use Rattle.ls_code.specs.declared.lock_word.Left.TheVariants as left
use Rattle.ls_preservation.specs.InWords.{written, map_answer}
use Rattle.ls_preservation.specs.Sorts.{Refers, Suits}
use Rattle.ls_preservation.specs.Same.{size_of}
use Rattle.ls_preservation.proofs.Cells.{held_word, hold_word, cells_of, size_pos}
use Rattle.ls_preservation.proofs.Effects.{IsHold, ThingHas, renaming, Holds, Agrees}
use Rattle.ls_preservation.proofs.FieldCases.{on_is, back_is}
use Rattle.ls_preservation.proofs.FieldCases as cases

-- a lock's word, as its owner and another thread find it
held_taken : (owner holds t : ℕ) (b d : Bool) →
    nat_eq owner t ≡ b →
    nat_lt holds 2147483647 ≡ d →
    holds ≤ 2147483647 →
    taken_of (held_word owner holds) t ≡ (if b then (if d then taken.Taken (held_word owner holds + 1) else
    taken.TooMany) else taken.Other)
held_taken owner holds t b d eb ed h =
    let w = held_word owner holds in
    let some : w ≢ 0 = omega arith in
    let e1 : (w == 0) ≡ false = grind (arith, nat_tests) in
    let e2 : w / 2 ^ 32 ≡ owner + 1 = omega arith in
    let e3 : w % 2 ^ 32 ≡ holds = omega arith in
    let e4 : (owner + 1 == t + 1) ≡ b = (let e5 : (owner + 1 == t + 1) ≡ nat_eq owner t = grind (arith, nat_tests) in e5
    ∙ eb) in
    let e6 : nat_le 2147483647 holds ≡ not d = (let e7 : nat_le 2147483647 holds ≡ not (nat_lt holds 2147483647) = grind
    (arith, nat_tests) in e7 ∙ ap not ed) in
    ap (λ z. if z then taken.Taken ((t + 1) * 2 ^ 32 + 1) else
    (if is_own w t then (if nat_le 2147483647 (w % 2 ^ 32) then taken.TooMany else taken.Taken (w + 1)) else
    taken.Other)) e1
    ∙ ap (λ z. if z == t + 1 then (if nat_le 2147483647 (w % 2 ^ 32) then taken.TooMany else taken.Taken (w + 1)) else
    taken.Other) e2
    ∙ ap (λ z. if z then (if nat_le 2147483647 (w % 2 ^ 32) then taken.TooMany else taken.Taken (w + 1)) else
    taken.Other) e4
    ∙ ap (λ z. if b then (if nat_le 2147483647 z then taken.TooMany else taken.Taken (w + 1)) else taken.Other) e3
    ∙ ap (λ z. if b then (if z then taken.TooMany else taken.Taken (w + 1)) else taken.Other) e6
    ∙ turned b d (taken.Taken (w + 1))
  where
    turned : (b d : Bool) (x : Taken) →
        (if b then (if not d then taken.TooMany else x) else taken.Other) ≡
        (if b then (if d then x else taken.TooMany) else taken.Other)
    turned true true x = refl
    turned true false x = refl
    turned false d x = refl

held_left : (owner holds t : ℕ) (b d : Bool) →
    nat_eq owner t ≡ b →
    nat_lt 1 holds ≡ d →
    holds ≤ 2147483647 →
    left_of (held_word owner holds) t ≡ (if b then left.Left (if d then held_word owner holds - 1 else 0) else
    left.NotOwner)
held_left owner holds t b d eb ed h =
    let w = held_word owner holds in
    let e2 : w / 2 ^ 32 ≡ owner + 1 = omega arith in
    let e3 : w % 2 ^ 32 ≡ holds = omega arith in
    let e4 : (owner + 1 == t + 1) ≡ b = (let e5 : (owner + 1 == t + 1) ≡ nat_eq owner t = grind (arith, nat_tests) in e5
    ∙ eb) in
    let e6 : nat_le holds 1 ≡ not d = (let e7 : nat_le holds 1 ≡ not (nat_lt 1 holds) = grind (arith, nat_tests) in e7 ∙
    ap not ed) in
    ap (λ z. if z == t + 1 then left.Left (if nat_le (w % 2 ^ 32) 1 then 0 else w - 1) else left.NotOwner) e2
    ∙ ap (λ z. if z then left.Left (if nat_le (w % 2 ^ 32) 1 then 0 else w - 1) else left.NotOwner) e4
    ∙ ap (λ z. if b then left.Left (if nat_le z 1 then 0 else w - 1) else left.NotOwner) e3
    ∙ ap (λ z. if b then left.Left (if z then 0 else w - 1) else left.NotOwner) e6
    ∙ turned b d (w - 1)
  where
    turned : (b d : Bool) (x : ℕ) →
        (if b then left.Left (if not d then 0 else x) else left.NotOwner) ≡
        (if b then left.Left (if d then x else 0) else left.NotOwner)
    turned true true x = refl
    turned true false x = refl
    turned false d x = refl

free_left : (t : ℕ) → left_of 0 t ≡ left.NotOwner
free_left t = let e : (0 == t + 1) ≡ false = grind (arith, nat_tests) in
    ap (λ b. if b then left.Left (if nat_le (0 % 2 ^ 32) 1 then 0 else 0 - 1) else left.NotOwner) e

-- a word is a thread's own if the thread is its owner
pub held_own : (owner holds t : ℕ) → holds ≤ 2147483647 → is_own (held_word owner holds) t ≡ nat_eq owner t
held_own owner holds t h =
    let e2 : held_word owner holds / 2 ^ 32 ≡ owner + 1 = omega arith in
    let e4 : (owner + 1 == t + 1) ≡ nat_eq owner t = grind (arith, nat_tests) in
    ap (λ z. z == t + 1) e2 ∙ e4

module _ (classes : List Class) (named : List ValueType) (sizes : List ℕ) (room : ℕ) (small : room ≤ most_cells)
    (σ : List ValueType) (st : Store) (c : Cells) (holds : Holds classes named sizes room σ st c) where
  open cases.laws classes named sizes room σ st c holds use {agree_at, unchanged, one_cell, cell_is, write_is}

  abbrev ρ : ℕ → ℕ
  ρ = renaming (length named) st

  abbrev Agree : Action Value → Sort → Effect → machine.Effect → Type 0
  Agree a s e d = Agrees classes named sizes room σ st a s e d

  abbrev locked_by : ℕ → Answer ℕ → machine.Effect → Taken → machine.Effect
  locked_by a won other (taken.Taken next) = machine.written c a 0 next won
  locked_by a won other taken.Other = other
  locked_by a won other taken.TooMany = machine.Answers c (Fails Error)

  abbrev unlocked_by : ℕ → Left → machine.Effect
  unlocked_by a (left.Left next) = machine.written c a 0 next Done
  unlocked_by a left.NotOwner = machine.Answers c (Fails IllegalMonitorState)

  -- a hold is taken if it can be; else this happens
  abbrev locking_as : ℕ → Answer Value → (ℕ → ℕ → Holding) → Hold → Holding
  locking_as t x away Free = Becomes (HeldBy t 1) x
  locking_as t x away (HeldBy owner holds) = if nat_eq owner t then
      (if nat_lt holds 2147483647 then Becomes (HeldBy t (holds + 1)) x else Becomes (HeldBy t holds) (Fails Error))
      else away owner holds

  -- of a thing whose first cell is the word of its hold
  module _ (thing : Hold → Thing) (kind : ValueType) (rest : List ℕ)
      (is : (h : Hold) → cells_of ρ (thing h) ≡ hold_word h ∷ rest)
      (size : (g h : Hold) → size_of (thing g) ≡ size_of (thing h))
      (good : (h : Hold) → IsHold h → ThingHas classes σ (thing h) kind) (n : ℕ) (sort : slice_get σ n ≡ Some kind)
    where
      hold_is : (h : Hold) → slice_get st.things n ≡ Some (thing h) → cell_at c (ρ (suc n)) 0 ≡ Some (hold_word h)
      hold_is h at = cell_is n 0 (hold_word h) (thing h) at (omega (arith, size_pos (thing h)))
          (ap (λ l. slice_get l 0) (is h))

      becomes : (a : Action Value) (s : Sort) (x : Answer Value) (v : Answer ℕ) (w : ℕ) (g h : Hold) →
          Suits (Refers σ) (Goes a s) x →
          v ≡ map_answer (written ρ) x →
          slice_get st.things n ≡ Some (thing g) →
          IsHold h →
          w ≡ hold_word h →
          Agree a s (put_back st (suc n) (Leaves (thing h) x)) (machine.written c (ρ (suc n)) 0 w v)
      becomes a s x v w g h suit word at ok ew =
          agree_at a s _ _ _ _ (back_is st n (thing h) x) (ap (λ z. machine.written c (ρ (suc n)) 0 z v) ew ∙
          write_is n 0 (hold_word h) (thing g) v at (omega (arith, size_pos (thing g))))
          (one_cell n 0 (hold_word h) (thing g) (thing h) kind at sort (good h ok) (size h g)
          (omega (arith, size_pos (thing g))) (is h ∙ ap (λ l. slice_set l 0 (hold_word h)) (sym (is g))) a s x v suit
          word)

      keeps : (a : Action Value) (s : Sort) (x : Answer Value) (v : Answer ℕ) (h : Hold) →
          Suits (Refers σ) (Goes a s) x →
          v ≡ map_answer (written ρ) x →
          slice_get st.things n ≡ Some (thing h) →
          Agree a s (put_back st (suc n) (Leaves (thing h) x)) (machine.Answers c v)
      keeps a s x v h suit word at = agree_at a s _ _ _ (machine.Answers c v) (back_is st n (thing h) x) refl
          (unchanged a s n (thing h) x v at suit word)

      lock_mine : (a : Action Value) (s : Sort) (x : Answer Value) (won : Answer ℕ) (waiting : Holding)
          (other : machine.Effect) (t owner holds : ℕ) →
          Suits (Refers σ) (Goes a s) x →
          won ≡ map_answer (written ρ) x →
          Suits (Refers σ) (Goes a s) (Fails Error) →
          Agree a s (put_back st (suc n) (with_hold thing waiting)) other →
          slice_get st.things n ≡ Some (thing (HeldBy owner holds)) →
          (1 ≤ holds) × (holds ≤ 2147483647) →
          (b d : Bool) →
          nat_eq owner t ≡ b →
          nat_lt holds 2147483647 ≡ d →
          Agree a s (put_back st (suc n) (with_hold thing (if b then
          (if d then Becomes (HeldBy t (holds + 1)) x else Becomes (HeldBy t holds) (Fails Error)) else waiting)))
          (locked_by (ρ (suc n)) won other (if b then (if d then taken.Taken (held_word owner holds + 1) else
          taken.TooMany) else taken.Other))
      lock_mine a s x won waiting other t owner holds suit word fail away at has false d eb ed = away
      lock_mine a s x won waiting other t owner holds suit word fail away at has true true eb ed =
          let same : owner ≡ t = grind (arith, nat_tests) in
          let less : holds < 2147483647 = grind (arith, nat_tests) in
          let cells : held_word owner holds + 1 ≡ held_word t (holds + 1) = omega arith in
          let good : (1 ≤ holds + 1) × (holds + 1 ≤ 2147483647) = (omega arith, omega arith) in
          becomes a s x won (held_word owner holds + 1) (HeldBy owner holds) (HeldBy t (holds + 1)) suit word at good
          cells
      lock_mine a s x won waiting other t owner holds suit word fail away at has true false eb ed =
          let same : owner ≡ t = grind (arith, nat_tests) in
          keeps a s (Fails Error) (Fails Error) (HeldBy t holds) fail refl
          (at ∙ ap (λ z. Some (thing (HeldBy z holds))) same)

      taking : (a : Action Value) (s : Sort) (x : Answer Value) (won : Answer ℕ) (away : ℕ → ℕ → Holding)
          (other : machine.Effect) (t : ℕ) →
          Suits (Refers σ) (Goes a s) x →
          won ≡ map_answer (written ρ) x →
          Suits (Refers σ) (Goes a s) (Fails Error) →
          ((owner holds : ℕ) → slice_get st.things n ≡ Some (thing (HeldBy owner holds)) →
          Agree a s (put_back st (suc n) (with_hold thing (away owner holds))) other) →
          (h : Hold) →
          slice_get st.things n ≡ Some (thing h) →
          IsHold h →
          Agree a s (put_back st (suc n) (with_hold thing (locking_as t x away h)))
          (machine.lock_effect c (ρ (suc n)) t won other)
      taking a s x won away other t suit word fail else_ Free at has =
          agree_at a s _ (put_back st (suc n) (with_hold thing (locking_as t x away Free))) _ _ refl
          (ap (λ z. on_cell z (λ word. locked_by (ρ (suc n)) won other (taken_of word t))) (hold_is Free at))
          (becomes a s x won ((t + 1) * 2 ^ 32 + 1) Free (HeldBy t 1) suit word at (omega arith, omega arith) refl)
      taking a s x won away other t suit word fail else_ (HeldBy owner holds) at has =
          agree_at a s _ (put_back st (suc n) (with_hold thing (locking_as t x away (HeldBy owner holds)))) _ _ refl
          (ap (λ z. on_cell z (λ word. locked_by (ρ (suc n)) won other (taken_of word t)))
          (hold_is (HeldBy owner holds) at)
          ∙ ap (locked_by (ρ (suc n)) won other) (held_taken owner holds t (nat_eq owner t)
          (nat_lt holds 2147483647) refl
          refl has.1))
          (lock_mine a s x won (away owner holds) other t owner holds suit word fail (else_ owner holds at) at has
          (nat_eq owner t) (nat_lt holds 2147483647) refl refl)

      -- waits for another
      waiting : (a : Action Value) (t : ℕ) →
          Suits (Refers σ) (Goes a NoValue) (Fails Error) →
          (h : Hold) →
          slice_get st.things n ≡ Some (thing h) →
          IsHold h →
          Agree a NoValue (put_back st (suc n) (with_hold thing (locking t h)))
          (machine.lock_effect c (ρ (suc n)) t Done machine.Waits)
      waiting a t fail h at has =
          agree_at a NoValue _ _ _ (machine.lock_effect c (ρ (suc n)) t Done machine.Waits)
          (ap (λ z. put_back st (suc n) (with_hold thing z)) (same h)) refl
          (taking a NoValue Done Done (λ owner holds. Awaits) machine.Waits t refl refl fail (λ owner holds h. tt) h at
          has)
        where
          same : (h : Hold) → locking t h ≡ locking_as t Done (λ owner holds. Awaits) h
          same Free = refl
          same (HeldBy owner holds) = refl

      -- doesn't wait for another
      trying_it : (a : Action Value) (t : ℕ) →
          Suits (Refers σ) (Goes a (ValueOf type.Boolean)) (Fails Error) →
          (h : Hold) →
          slice_get st.things n ≡ Some (thing h) →
          IsHold h →
          Agree a (ValueOf type.Boolean) (put_back st (suc n) (with_hold thing (trying t h)))
          (machine.lock_effect c (ρ (suc n)) t (Gives 1) (machine.Answers c (Gives 0)))
      trying_it a t fail h at has =
          agree_at a (ValueOf type.Boolean) _ _ _ (machine.lock_effect c (ρ (suc n)) t (Gives 1)
          (machine.Answers c (Gives 0))) (ap (λ z. put_back st (suc n) (with_hold thing z)) (same h)) refl
          (taking a (ValueOf type.Boolean) (Gives (Boolean true)) (Gives 1)
          (λ owner holds. Becomes (HeldBy owner holds) (Gives (Boolean false))) (machine.Answers c (Gives 0)) t tt
          refl fail
          (λ owner holds h. keeps a (ValueOf type.Boolean) (Gives (Boolean false)) (Gives 0)
          (HeldBy owner holds) tt refl
          h) h at has)
        where
          same : (h : Hold) →
              trying t h ≡ locking_as t (Gives (Boolean true))
              (λ owner holds. Becomes (HeldBy owner holds) (Gives (Boolean false))) h
          same Free = refl
          same (HeldBy owner holds) = refl

      unlock_mine : (a : Action Value) (t owner holds : ℕ) →
          Suits (Refers σ) (Goes a NoValue) (Fails IllegalMonitorState) →
          slice_get st.things n ≡ Some (thing (HeldBy owner holds)) →
          (1 ≤ holds) × (holds ≤ 2147483647) →
          (b d : Bool) →
          nat_eq owner t ≡ b →
          nat_lt 1 holds ≡ d →
          Agree a NoValue
          (put_back st (suc n) (with_hold thing (if b then
          Becomes (if d then HeldBy t (holds - 1) else Free) Done else
          Becomes (HeldBy owner holds) (Fails IllegalMonitorState))))
          (unlocked_by (ρ (suc n)) (if b then left.Left (if d then held_word owner holds - 1 else 0) else
          left.NotOwner))
      unlock_mine a t owner holds fail at has false d eb ed = keeps a NoValue (Fails IllegalMonitorState)
          (Fails IllegalMonitorState) (HeldBy owner holds) fail refl at
      unlock_mine a t owner holds fail at has true true eb ed =
          let same : owner ≡ t = grind (arith, nat_tests) in
          let more : 1 < holds = grind (arith, nat_tests) in
          let least : 1 ≤ holds = has.0 in
          let most : holds ≤ 2147483647 = has.1 in
          let cells : held_word owner holds - 1 ≡ held_word t (holds - 1) = omega arith in
          let good : (1 ≤ holds - 1) × (holds - 1 ≤ 2147483647) = (omega arith, omega arith) in
          becomes a NoValue Done Done (held_word owner holds - 1) (HeldBy owner holds)
          (HeldBy t (holds - 1)) refl refl at
          good cells
      unlock_mine a t owner holds fail at has true false eb ed = becomes a NoValue Done Done 0 (HeldBy owner holds) Free
          refl refl at tt refl

      leaving : (a : Action Value) (t : ℕ) →
          Suits (Refers σ) (Goes a NoValue) (Fails IllegalMonitorState) →
          (h : Hold) →
          slice_get st.things n ≡ Some (thing h) →
          IsHold h →
          Agree a NoValue (put_back st (suc n) (with_hold thing (unlocking t h)))
          (machine.unlock_effect c (ρ (suc n)) t)
      leaving a t fail Free at has =
          agree_at a NoValue _ (put_back st (suc n) (with_hold thing (unlocking t Free))) _
          (machine.Answers c (Fails IllegalMonitorState)) refl
          (ap (λ z. on_cell z (λ word. unlocked_by (ρ (suc n)) (left_of word t))) (hold_is Free at) ∙
          ap (unlocked_by (ρ (suc n))) (free_left t))
          (keeps a NoValue (Fails IllegalMonitorState) (Fails IllegalMonitorState) Free fail refl at)
      leaving a t fail (HeldBy owner holds) at has =
          agree_at a NoValue _ (put_back st (suc n) (with_hold thing (unlocking t (HeldBy owner holds)))) _ _ refl
          (ap (λ z. on_cell z (λ word. unlocked_by (ρ (suc n)) (left_of word t))) (hold_is (HeldBy owner holds) at) ∙
          ap (unlocked_by (ρ (suc n))) (held_left owner holds t (nat_eq owner t) (nat_lt 1 holds) refl refl has.1))
          (unlock_mine a t owner holds fail at has (nat_eq owner t) (nat_lt 1 holds) refl refl)

  -- `lock()`
  pub lock_case : (t n : ℕ) →
      slice_get σ n ≡ Some type.Lock →
      (o : Thing) →
      slice_get st.things n ≡ Some o →
      ThingHas classes σ o type.Lock →
      Agree (Lock (suc n)) NoValue (on_thing st (suc n) t (Lock (suc n))) (machine.effect c t (Lock (ρ (suc n))))
  lock_case t n sort (LockOf h) at has =
      agree_at (Lock (suc n)) NoValue _ _ _ (machine.effect c t (Lock (ρ (suc n))))
      (on_is st n t (Lock (suc n)) (LockOf h) at) refl
      (waiting LockOf type.Lock [] (λ h. refl) (λ g h. refl) (λ h i. i) n sort (Lock (suc n)) t refl h at has)
  lock_case t n sort (Object _ vs) at has = absurd has
  lock_case t n sort (Markable v) at has = absurd has
  lock_case t n sort (Array m items) at has = absurd has

  -- `tryLock()`
  pub try_case : (t n : ℕ) →
      slice_get σ n ≡ Some type.Lock →
      (o : Thing) →
      slice_get st.things n ≡ Some o →
      ThingHas classes σ o type.Lock →
      Agree (TryLock (suc n)) (ValueOf type.Boolean) (on_thing st (suc n) t (TryLock (suc n)))
      (machine.effect c t (TryLock (ρ (suc n))))
  try_case t n sort (LockOf h) at has =
      agree_at (TryLock (suc n)) (ValueOf type.Boolean) _ _ _ (machine.effect c t (TryLock (ρ (suc n))))
      (on_is st n t (TryLock (suc n)) (LockOf h) at) refl
      (trying_it LockOf type.Lock [] (λ h. refl) (λ g h. refl) (λ h i. i) n sort (TryLock (suc n)) t refl h at has)
  try_case t n sort (Object _ vs) at has = absurd has
  try_case t n sort (Markable v) at has = absurd has
  try_case t n sort (Array m items) at has = absurd has

  -- `unlock()`
  pub unlock_case : (t n : ℕ) →
      slice_get σ n ≡ Some type.Lock →
      (o : Thing) →
      slice_get st.things n ≡ Some o →
      ThingHas classes σ o type.Lock →
      Agree (Unlock (suc n)) NoValue (on_thing st (suc n) t (Unlock (suc n))) (machine.effect c t (Unlock (ρ (suc n))))
  unlock_case t n sort (LockOf h) at has =
      agree_at (Unlock (suc n)) NoValue _ _ _ (machine.effect c t (Unlock (ρ (suc n))))
      (on_is st n t (Unlock (suc n)) (LockOf h) at) refl
      (leaving LockOf type.Lock [] (λ h. refl) (λ g h. refl) (λ h i. i) n sort (Unlock (suc n)) t refl h at has)
  unlock_case t n sort (Object _ vs) at has = absurd has
  unlock_case t n sort (Markable v) at has = absurd has
  unlock_case t n sort (Array m items) at has = absurd has

  -- the lock of a monitor
  pub monitor_case : (t n k : ℕ) →
      slice_get σ n ≡ Some (type.Class k) →
      (o : Thing) →
      slice_get st.things n ≡ Some o →
      ThingHas classes σ o (type.Class k) →
      Agree (LockMonitor (suc n)) NoValue (on_thing st (suc n) t (LockMonitor (suc n)))
      (machine.effect c t (LockMonitor (ρ (suc n))))
  monitor_case t n k sort (Object h vs) at has =
      agree_at (LockMonitor (suc n)) NoValue _ _ _ (machine.effect c t (LockMonitor (ρ (suc n))))
      (on_is st n t (LockMonitor (suc n)) (Object h vs) at) refl
      (waiting (λ h. Object h vs) (type.Class k) (map (written ρ) vs) (λ h. refl) (λ g h. refl)
      (λ h i. (has.0, has.1, i)) n sort (LockMonitor (suc n)) t refl h at has.2)
  monitor_case t n k sort (LockOf _) at has = absurd has
  monitor_case t n k sort (Markable v) at has = absurd has
  monitor_case t n k sort (Array m items) at has = absurd has

  -- the unlock of a monitor
  pub leave_case : (t n k : ℕ) →
      slice_get σ n ≡ Some (type.Class k) →
      (o : Thing) →
      slice_get st.things n ≡ Some o →
      ThingHas classes σ o (type.Class k) →
      Agree (UnlockMonitor (suc n)) NoValue (on_thing st (suc n) t (UnlockMonitor (suc n)))
      (machine.effect c t (UnlockMonitor (ρ (suc n))))
  leave_case t n k sort (Object h vs) at has =
      agree_at (UnlockMonitor (suc n)) NoValue _ _ _ (machine.effect c t (UnlockMonitor (ρ (suc n))))
      (on_is st n t (UnlockMonitor (suc n)) (Object h vs) at) refl
      (leaving (λ h. Object h vs) (type.Class k) (map (written ρ) vs) (λ h. refl) (λ g h. refl)
      (λ h i. (has.0, has.1, i)) n sort (UnlockMonitor (suc n)) t refl h at has.2)
  leave_case t n k sort (LockOf _) at has = absurd has
  leave_case t n k sort (Markable v) at has = absurd has
  leave_case t n k sort (Array m items) at has = absurd has

  -- isHeldByCurrentThread()
  pub held_case : (t n : ℕ) →
      (o : Thing) →
      slice_get st.things n ≡ Some o →
      ThingHas classes σ o type.Lock →
      Agree (IsHeld (suc n)) (ValueOf type.Boolean) (on_thing st (suc n) t (IsHeld (suc n)))
      (machine.effect c t (IsHeld (ρ (suc n))))
  held_case t n (LockOf Free) at has =
      let e : is_own 0 t ≡ false = grind (arith, nat_tests) in
      agree_at (IsHeld (suc n)) (ValueOf type.Boolean) _ _ _ _
      (on_is st n t (IsHeld (suc n)) (LockOf Free) at ∙ back_is st n (LockOf Free) (Gives (Boolean false)))
      (ap (λ z. on_cell z (λ word. machine.Answers c (Gives (bool_word (is_own word t)))))
      (cell_is n 0 0 (LockOf Free) at (omega arith) refl) ∙ ap (λ b. machine.Answers c (Gives (bool_word b))) e)
      (unchanged (IsHeld (suc n)) (ValueOf type.Boolean) n (LockOf Free) (Gives (Boolean false)) (Gives 0) at tt refl)
  held_case t n (LockOf (HeldBy owner holds)) at has =
      agree_at (IsHeld (suc n)) (ValueOf type.Boolean) _ _ _ _
      (on_is st n t (IsHeld (suc n)) (LockOf (HeldBy owner holds)) at ∙
      back_is st n (LockOf (HeldBy owner holds)) (Gives (Boolean (nat_eq owner t))))
      (ap (λ z. on_cell z (λ word. machine.Answers c (Gives (bool_word (is_own word t)))))
      (cell_is n 0 (held_word owner holds) (LockOf (HeldBy owner holds)) at (omega arith) refl) ∙
      ap (λ b. machine.Answers c (Gives (bool_word b))) (held_own owner holds t has.1))
      (unchanged (IsHeld (suc n)) (ValueOf type.Boolean) n (LockOf (HeldBy owner holds))
      (Gives (Boolean (nat_eq owner t))) (Gives (bool_word (nat_eq owner t))) at tt refl)
  held_case t n (Object _ vs) at has = absurd has
  held_case t n (Markable v) at has = absurd has
  held_case t n (Array m items) at has = absurd has
