-- The instructions of an operation, one after another.
use Rattle.std.proofs.Common.{◌≡◌, ℕ, ◌+◌, ◌==◌, Bool, true, false, ◌&&◌, ◌||◌, List, [], ◌∷◌, length, Option, Some}
use Rattle.std.proofs.Common.{None, refl, sym, ap, ◌∙◌, subst, arith, slice_get, nat_lt, if◌then◌else◌}
use Rattle.std.proofs.lemmas.Bool.Decides.{nat_tests}
use Rattle.ls_events.specs.declared.kind.Kind.TheVariants.{NullPointer, IllegalMonitorState}
use Rattle.ls_events.specs.declared.action.Action.{Action}
use Rattle.ls_events.specs.declared.action.Action.TheVariants as act
use Rattle.ls_events.specs.declared.action.Answer.{Answer}
use Rattle.ls_events.specs.declared.action.Answer.TheVariants.{Done, Gives, Fails}
use Rattle.ls_code.specs.Code.{Code}
use Rattle.ls_code.specs.Frame.{top_one, top_two}
use Rattle.ls_code.specs.Thread.{Thread, with_top}
use Rattle.ls_code.specs.Locks.{taken_of, left_of, is_own}
use Rattle.ls_code.specs.Cells.{Cells, Answers, cell_at, on_cell}
use Rattle.ls_code.specs.Moves.{discarded}
use Rattle.ls_code.specs.Exchanges.{Seen, Quietly, Reports, Says, Touches, throwing, saw, see_at, see_named}
use Rattle.ls_code.specs.Exchanges.{seeing_action, taking_action, dropping_action, take_at, take_named, take_from, took}
use Rattle.ls_code.specs.Exchanges.{replaced, drop_at, drop_named, drop_to, with_word, stuck}
use Rattle.ls_code.specs.Steps.{Move, Silent, Still, Asks, Plans, step_result, seen_outcome, touched, planned}
use Rattle.ls_code.specs.Steps.{performed, fetched_move, silent_or_still, thread_move}
use Rattle.ls_code.specs.declared.step.Did.TheVariants as did
use Rattle.ls_code.specs.declared.instruction.Instruction.{Instruction}
use Rattle.ls_code.specs.declared.instruction.Instruction.TheVariants as op
use Rattle.ls_code.specs.declared.lock_word.Taken.{Taken}
use Rattle.ls_code.specs.declared.lock_word.Taken.TheVariants as taken
use Rattle.ls_code.specs.declared.lock_word.Left.{Left}
use Rattle.ls_code.specs.declared.lock_word.Left.TheVariants as left
use Rattle.ls_code.specs.Reading.{is_locking, is_trying, is_unlocking, is_take, is_back_to, seen, exchanged, after_lock}
use Rattle.ls_code.specs.Reading.{after_try, after_unlock, operation, planned_move, read_move, whole_move}
use Rattle.ls_preservation.specs.Parts.{one, LockParts, TryParts, UnlockParts, IsPlanned, Parts, PartsAreThere}
use Rattle.ls_preservation.proofs.LockWords.{own_left, not_left}
use Rattle.ls_preservation.proofs.Codes.{Word, IsSee, IsTake, IsDrop, IsAnother, word_of, another, NoPlan, take_there}
use Rattle.ls_preservation.proofs.Codes.{back_there, drop_there}

-- both parts of an `and` hold
pub and_both : (a b : Bool) → (a && b) ≡ true → (a ≡ true) × (b ≡ true)
and_both true true e = (refl, refl)
and_both true false e = cc
and_both false b e = cc

module _ (p : Code) (n : ℕ) (y : Thread) (a : ℕ) (rest : List ℕ) (top : y.top.operands ≡ a ∷ rest) where
  -- SEE
  pub see_move : (x : ℕ) →
      slice_get p.instructions y.top.counter ≡ Some (op.See x) →
      thread_move p y ≡ Plans (λ n. see_at p y n x (top_one y.top.operands))
  see_move x e = ap (fetched_move p y) e

  -- TAKE and DROP, with the word that was seen
  pub take_move : (x : ℕ) (w : ℕ) →
      slice_get p.instructions (y.top.counter + 1) ≡ Some (op.Take x) →
      thread_move p (seen y w) ≡ Plans (λ n. take_at p (seen y w) n x (top_two (w ∷ y.top.operands)))
  take_move x w e = ap (fetched_move p (seen y w)) e

  -- the plan of TAKE, by what the word allows
  pub take_plan : (x w : ℕ) (o : Action ℕ) (k : Taken) →
      taking_action x a ≡ Some o →
      taken_of w n ≡ k →
      take_at p (seen y w) n x (top_two (w ∷ y.top.operands)) ≡ take_from p (seen y w) x o a w k
  take_plan x w o k eo ek =
      ap (λ l. take_at p (seen y w) n x (top_two (w ∷ l))) top ∙ ap (take_named p (seen y w) n x a w) eo ∙
      ap (take_from p (seen y w) x o a w) ek

  take_is : (x w : ℕ) (o : Action ℕ) (k : Taken) (c : Cells) →
      slice_get p.instructions (y.top.counter + 1) ≡ Some (op.Take x) →
      taking_action x a ≡ Some o →
      taken_of w n ≡ k →
      one p n c (seen y w) ≡ planned c n (seen y w) (take_from p (seen y w) x o a w k)
  take_is x w o k c e eo ek = ap (performed c n (seen y w)) (take_move x w e) ∙
      ap (planned c n (seen y w)) (take_plan x w o k eo ek)

  drop_is : (x w : ℕ) (o : Action ℕ) (k : Left) (c : Cells) →
      slice_get p.instructions (y.top.counter + 1) ≡ Some (op.DropLock x) →
      dropping_action x a ≡ Some o →
      left_of w n ≡ k →
      one p n c (seen y w) ≡ planned c n (seen y w) (drop_to (seen y w) o a k)
  drop_is x w o k c e eo ek =
      ap (performed c n (seen y w)) (ap (fetched_move p (seen y w)) e)
      ∙ ap (λ l. planned c n (seen y w) (drop_at (seen y w) n x (top_two (w ∷ l)))) top
      ∙ ap (λ z. planned c n (seen y w) (drop_named (seen y w) n a w z)) eo ∙
      ap (λ z. planned c n (seen y w) (drop_to (seen y w) o a z)) ek

  back_is : (c : Cells) →
      slice_get p.instructions (y.top.counter + 1 + 1) ≡ Some (op.JumpIfFalse y.top.counter) →
      one p n c (exchanged y 0) ≡ step_result y c did.Silent
  back_is c e = ap (performed c n (exchanged y 0)) (ap (fetched_move p (exchanged y 0)) e)

  -- SEE of an operation, if the lock isn't null and there is room for the word
  module _ (x : ℕ) (o : Action ℕ) (see : slice_get p.instructions y.top.counter ≡ Some (op.See x))
      (plan : see_at p y n x (top_one y.top.operands) ≡ Touches o (act.ReadPair a) (saw p y n x o)) where
    see_is : (c : Cells) (w : ℕ) → cell_at c a 0 ≡ Some w → one p n c y ≡ seen_outcome c y (saw p y n x o w)
    see_is c w ec =
        ap (performed c n y) (see_move x see) ∙ ap (planned c n y) plan
        ∙ ap (λ z. touched c y (saw p y n x o) (on_cell z (λ word. Answers c (Gives word)))) ec

  try_saw : (w : ℕ) (k : Taken) →
      taken_of w n ≡ k →
      saw p y n 2 (act.TryLock a) w ≡ (elim k as (λ _. Seen) [
        | taken.Other ↦ Reports (act.TryLock a) (Gives 0) (with_word y w)
        | taken.Taken next ↦ Quietly (with_word y w)
        | taken.TooMany ↦ Quietly (with_word y w)
      ])
  try_saw w k ek = ap
      (λ k. elim k as (λ _. Seen) [
        | taken.Other ↦ Reports (act.TryLock a) (Gives 0) (with_word y w)
        | taken.Taken next ↦
            Quietly (with_word y w)
        | taken.TooMany ↦ Quietly (with_word y w)
      ]) ek

  unlock_saw : (x : ℕ) (o : Action ℕ) (w : ℕ) (b : Bool) →
      (x == 2) ≡ false →
      (x == 3 || x == 5) ≡ true →
      is_own w n ≡ b →
      saw p y n x o w ≡ (if b then Quietly (with_word y w) else
      Reports o (Fails IllegalMonitorState) (throwing p y IllegalMonitorState))
  unlock_saw x o w b e2 e3 eb =
      ap (λ z. if z then (elim (taken_of w n) as (λ _. Seen) [
        | taken.Other ↦ Reports o (Gives 0) (with_word y w)
        | taken.Taken next ↦ Quietly (with_word y w)
        | taken.TooMany ↦ Quietly (with_word y w)
      ]) else (if x == 3 || x == 5 then
      (if is_own w n then Quietly (with_word y w) else Reports o (Fails IllegalMonitorState)
      (throwing p y IllegalMonitorState)) else Quietly (with_word y w))) e2
      ∙ ap (λ z. if z then (if is_own w n then Quietly (with_word y w) else
      Reports o (Fails IllegalMonitorState) (throwing p y IllegalMonitorState)) else Quietly (with_word y w)) e3
      ∙ ap (λ z. if z then Quietly (with_word y w) else Reports o (Fails IllegalMonitorState)
      (throwing p y IllegalMonitorState)) eb

  -- SEE and TAKE with an operand by which the operation waits
  lock_parts : (x : ℕ) (o : Action ℕ) →
      taking_action x a ≡ Some o →
      ((w : ℕ) → saw p y n x o w ≡ Quietly (with_word y w)) →
      ((w v : ℕ) → took (seen y w) x o v ≡ (if v == 1 then Reports o Done (replaced (seen y w) 1) else
      Quietly (replaced (seen y w) 0))) →
      slice_get p.instructions y.top.counter ≡ Some (op.See x) →
      see_at p y n x (top_one y.top.operands) ≡ Touches o (act.ReadPair a) (saw p y n x o) →
      is_locking p x y.top.counter ≡ true → LockParts p n y a o
  lock_parts x o eo quietly takes see plan shape =
      let both = and_both (is_take x (slice_get p.instructions (y.top.counter + 1)))
      (is_back_to y.top.counter (slice_get p.instructions (y.top.counter + 1 + 1))) shape in
      let at_take : slice_get p.instructions (y.top.counter + 1) ≡ Some (op.Take x) = take_there x _ both.0 in
      let at_back : slice_get p.instructions (y.top.counter + 1 + 1) ≡ Some (op.JumpIfFalse y.top.counter) = back_there
      y.top.counter _ both.1 in
      record {
        see = λ c w ec. see_is x o see plan c w ec ∙ ap (seen_outcome c y) (quietly w);
        other = λ c w ek. take_is x w o taken.Other c at_take eo ek;
        full = λ c w ek. take_is x w o taken.TooMany c at_take eo ek;
        won = λ c d w next ek ee. take_is x w o (taken.Taken next) c at_take eo ek ∙
            ap (touched c (seen y w) (took (seen y w) x o)) ee ∙ ap (seen_outcome d (seen y w)) (takes w 1);
        lost = λ c d w next ek ee. take_is x w o (taken.Taken next) c at_take eo ek ∙
            ap (touched c (seen y w) (took (seen y w) x o)) ee ∙ ap (seen_outcome d (seen y w)) (takes w 0);
        back = λ c. back_is c at_back;
      }

  try_parts : slice_get p.instructions y.top.counter ≡ Some (op.See 2) →
      see_at p y n 2 (top_one y.top.operands) ≡ Touches (act.TryLock a) (act.ReadPair a) (saw p y n 2 (act.TryLock a)) →
      is_trying p y.top.counter ≡ true →
      TryParts p n y a
  try_parts see plan shape =
      let at_take : slice_get p.instructions (y.top.counter + 1) ≡ Some (op.Take 2) = take_there 2 _ shape in
      record {
        see = λ c w next ec ek. see_is 2 (act.TryLock a) see plan c w ec ∙
            ap (seen_outcome c y) (try_saw w (taken.Taken next) ek);
        see_full = λ c w ec ek. see_is 2 (act.TryLock a) see plan c w ec ∙
            ap (seen_outcome c y) (try_saw w taken.TooMany ek);
        see_other = λ c w ec ek. see_is 2 (act.TryLock a) see plan c w ec ∙
            ap (seen_outcome c y) (try_saw w taken.Other ek);
        full = λ c w ek. take_is 2 w (act.TryLock a) taken.TooMany c at_take refl ek;
        won = λ c d w next ek ee. take_is 2 w (act.TryLock a) (taken.Taken next) c at_take refl ek ∙
            ap (touched c (seen y w) (took (seen y w) 2 (act.TryLock a))) ee;
        lost = λ c d w next ek ee. take_is 2 w (act.TryLock a) (taken.Taken next) c at_take refl ek ∙
            ap (touched c (seen y w) (took (seen y w) 2 (act.TryLock a))) ee;
        told = λ c w ek. take_is 2 w (act.TryLock a) taken.Other c at_take refl ek;
        told_whole = λ w ek. ap (read_move p n (seen y w)) (take_move 2 w at_take) ∙
            ap (planned_move p n (seen y w)) (take_plan 2 w (act.TryLock a) taken.Other refl ek);
      }

  -- SEE and DROP with operands of one operation
  unlock_parts : (x v : ℕ) (o : Action ℕ) →
      (x == 2) ≡ false →
      (x == 3 || x == 5) ≡ true →
      dropping_action v a ≡ Some o →
      slice_get p.instructions y.top.counter ≡ Some (op.See x) →
      see_at p y n x (top_one y.top.operands) ≡ Touches o (act.ReadPair a) (saw p y n x o) →
      is_unlocking p v y.top.counter ≡ true → UnlockParts p n y a o
  unlock_parts x v o e2 e3 eo see plan shape =
      let at_drop : slice_get p.instructions (y.top.counter + 1) ≡ Some (op.DropLock v) = drop_there v _ shape in
      record {
        see = λ c w next ec ek. see_is x o see plan c w ec ∙
            ap (seen_outcome c y) (unlock_saw x o w true e2 e3 (owner w (is_own w n) refl next ek));
        see_other = λ c w ec ek. see_is x o see plan c w ec ∙
            ap (seen_outcome c y) (unlock_saw x o w false e2 e3 (not_owner w (is_own w n) refl ek));
        drop = λ c d w next ek ee s es. (let same : with_top (seen y w) (discarded (seen y w).top 2) ≡ s = cc in
            drop_is v w o (left.Left next) c at_drop eo ek ∙
            ap (touched c (seen y w) (λ word. Reports o Done
            (Some (with_top (seen y w) (discarded (seen y w).top 2))))) ee
            ∙ ap (λ z. step_result z d (did.Acted o Done)) same);
      }
    where
      owner : (w : ℕ) (b : Bool) → is_own w n ≡ b → (next : ℕ) → left_of w n ≡ left.Left next → is_own w n ≡ true
      owner w true eb next ek = eb
      owner w false eb next ek = let both : left.NotOwner ≡ left.Left next = sym (not_left w n eb) ∙ ek in absurd (cc)

      not_owner : (w : ℕ) (b : Bool) → is_own w n ≡ b → left_of w n ≡ left.NotOwner → is_own w n ≡ false
      not_owner w false eb ek = eb
      not_owner w true eb ek = let both : left.Left _ ≡ left.NotOwner = sym (own_left w n eb) ∙ ek in absurd (cc)

both_not : (m : Move) → NoPlan m → IsPlanned m → ⊥
both_not (Silent t) h g = g
both_not Still h g = g
both_not (Asks a go) h g = g
both_not (Plans go) h g = h

-- the beginning of an operation: the lock's address on top, SEE with this operand, what it does, and the instructions
-- after it
pub record Begins (p : Code) (n : ℕ) (y : Thread) (x a : ℕ) (o : Action ℕ) (shape : Bool) : Type 0 where
  pub rest : List ℕ
  pub top : y.top.operands ≡ a ∷ rest
  pub see : slice_get p.instructions y.top.counter ≡ Some (op.See x)
  pub plan : see_at p y n x (top_one y.top.operands) ≡ Touches o (act.ReadPair a) (saw p y n x o)
  pub shaped : shape ≡ true

-- where an operation begins, with how it goes on
abbrev pub Beginning : Code → ℕ → Thread → Action ℕ → (Answer ℕ → Option Thread) → Type 0
Beginning p n y (act.Lock a) go = Begins p n y 1 a (act.Lock a) (is_locking p 1 y.top.counter) × (go ≡ after_lock p n y)
Beginning p n y (act.TryLock a) go = Begins p n y 2 a (act.TryLock a) (is_trying p y.top.counter) ×
    (go ≡ after_try p n y)
Beginning p n y (act.Unlock a) go = Begins p n y 3 a (act.Unlock a) (is_unlocking p 0 y.top.counter) ×
    (go ≡ after_unlock p y)
Beginning p n y (act.LockMonitor a) go = Begins p n y 4 a (act.LockMonitor a) (is_locking p 4 y.top.counter) ×
    (go ≡ after_lock p n y)
Beginning p n y (act.UnlockMonitor a) go = Begins p n y 5 a (act.UnlockMonitor a) (is_unlocking p 1 y.top.counter) ×
    (go ≡ after_unlock p y)
Beginning p n y _ go = ⊥

silent_not : (o : Option Thread) (b : Action ℕ) (go : Answer ℕ → Option Thread) → silent_or_still o ≡ Asks b go → ⊥
silent_not None b go e = cc
silent_not (Some t) b go e = cc

module _ (p : Code) (n : ℕ) (y : Thread) (b : Action ℕ) (go : Answer ℕ → Option Thread) where
  -- what a move owes
  abbrev PartsOf : Move → Type 0
  PartsOf (Asks a g) = Beginning p n y a g
  PartsOf (Silent t) = Unit {0}
  PartsOf Still = Unit {0}
  PartsOf (Plans g) = Unit {0}

  -- an operation is read if the instructions after SEE have its shape
  from_shape : (o : Action ℕ) (g : Answer ℕ → Option Thread) (t : Bool) →
      (t ≡ true → Beginning p n y o g) →
      PartsOf (if t then Asks o g else Still)
  from_shape o g true f = f refl
  from_shape o g false f = tt

  silent_parts : (o : Option Thread) → PartsOf (silent_or_still o)
  silent_parts None = tt
  silent_parts (Some t) = tt

  -- SEE with a lock's address
  guarded : (x a : ℕ) (o : Action ℕ) (z : Bool) (r : Bool) →
      (see_named p y n x a (Some o) ≡ (if z then Says (Quietly (throwing p y NullPointer)) else
      (if r then Touches o (act.ReadPair a) (saw p y n x o) else stuck))) →
      (see_named p y n x a (Some o) ≡ Touches o (act.ReadPair a) (saw p y n x o) → PartsOf (operation p n y o)) →
      PartsOf (planned_move p n y (see_named p y n x a (Some o)))
  guarded x a o true r e f = subst (λ q. PartsOf (planned_move p n y q)) (sym e)
      (silent_parts (throwing p y NullPointer))
  guarded x a o false false e f = subst (λ q. PartsOf (planned_move p n y q)) (sym e) tt
  guarded x a o false true e f = subst (λ q. PartsOf (planned_move p n y q)) (sym e) (f e)

  module _ (a : ℕ) (rest : List ℕ) (top : y.top.operands ≡ a ∷ rest) where
    plan_at : (x : ℕ) (o : Action ℕ) →
        seeing_action x a ≡ Some o →
        see_named p y n x a (Some o) ≡ Touches o (act.ReadPair a) (saw p y n x o) →
        see_at p y n x (top_one y.top.operands) ≡ Touches o (act.ReadPair a) (saw p y n x o)
    plan_at x o eo e = ap (λ l. see_at p y n x (top_one l)) top ∙ ap (see_named p y n x a) eo ∙ e

    -- by the operand of SEE
    at_1 : slice_get p.instructions y.top.counter ≡ Some (op.See 1) →
        PartsOf (planned_move p n y (see_named p y n 1 a (Some (act.Lock a))))
    at_1 see =
        guarded 1 a (act.Lock a) (a == 0) (nat_lt (length y.top.operands) y.top.need) refl
        (λ e. from_shape (act.Lock a) (after_lock p n y) (is_locking p 1 y.top.counter)
        (λ shape.
        (record { rest = rest; top = top; see = see; plan = plan_at 1 (act.Lock a) refl e; shaped = shape }, refl)))

    at_2 : slice_get p.instructions y.top.counter ≡ Some (op.See 2) →
        PartsOf (planned_move p n y (see_named p y n 2 a (Some (act.TryLock a))))
    at_2 see =
        guarded 2 a (act.TryLock a) (a == 0) (nat_lt (length y.top.operands) y.top.need) refl
        (λ e. from_shape (act.TryLock a) (after_try p n y) (is_trying p y.top.counter)
        (λ shape. (
          record { rest = rest; top = top; see = see; plan = plan_at 2 (act.TryLock a) refl e; shaped = shape },
          refl,
        )))

    at_3 : slice_get p.instructions y.top.counter ≡ Some (op.See 3) →
        PartsOf (planned_move p n y (see_named p y n 3 a (Some (act.Unlock a))))
    at_3 see =
        guarded 3 a (act.Unlock a) (a == 0) (nat_lt (length y.top.operands) y.top.need) refl
        (λ e. from_shape (act.Unlock a) (after_unlock p y) (is_unlocking p 0 y.top.counter)
        (λ shape. (
          record { rest = rest; top = top; see = see; plan = plan_at 3 (act.Unlock a) refl e; shaped = shape },
          refl,
        )))

    at_4 : slice_get p.instructions y.top.counter ≡ Some (op.See 4) →
        PartsOf (planned_move p n y (see_named p y n 4 a (Some (act.LockMonitor a))))
    at_4 see =
        guarded 4 a (act.LockMonitor a) (a == 0) (nat_lt (length y.top.operands) y.top.need) refl
        (λ e. from_shape (act.LockMonitor a) (after_lock p n y) (is_locking p 4 y.top.counter)
        (λ shape. (
          record { rest = rest; top = top; see = see; plan = plan_at 4 (act.LockMonitor a) refl e; shaped = shape },
          refl,
        )))

    at_5 : slice_get p.instructions y.top.counter ≡ Some (op.See 5) →
        PartsOf (planned_move p n y (see_named p y n 5 a (Some (act.UnlockMonitor a))))
    at_5 see =
        guarded 5 a (act.UnlockMonitor a) (a == 0) (nat_lt (length y.top.operands) y.top.need) refl
        (λ e. from_shape (act.UnlockMonitor a) (after_unlock p y) (is_unlocking p 1 y.top.counter)
        (λ shape. (
          record {
            rest = rest;
            top = top;
            see = see;
            plan = plan_at 5 (act.UnlockMonitor a) refl e;
            shaped = shape;
          },
          refl,
        )))

    abbrev ByOperand : ℕ → Type 0
    ByOperand x = slice_get p.instructions y.top.counter ≡ Some (op.See x) →
        PartsOf (planned_move p n y (see_named p y n x a (seeing_action x a)))

    by_operand : (x : ℕ) (b1 b2 b3 b4 b5 : Bool) →
        (x == 1) ≡ b1 →
        (x == 2) ≡ b2 →
        (x == 3) ≡ b3 →
        (x == 4) ≡ b4 →
        (x == 5) ≡ b5 →
        ByOperand x
    by_operand x true b2 b3 b4 b5 e1 e2 e3 e4 e5 = (let is : x ≡ 1 = grind (arith, nat_tests) in
        subst ByOperand (sym is) at_1)
    by_operand x false true b3 b4 b5 e1 e2 e3 e4 e5 = (let is : x ≡ 2 = grind (arith, nat_tests) in
        subst ByOperand (sym is) at_2)
    by_operand x false false true b4 b5 e1 e2 e3 e4 e5 = (let is : x ≡ 3 = grind (arith, nat_tests) in
        subst ByOperand (sym is) at_3)
    by_operand x false false false true b5 e1 e2 e3 e4 e5 = (let is : x ≡ 4 = grind (arith, nat_tests) in
        subst ByOperand (sym is) at_4)
    by_operand x false false false false true e1 e2 e3 e4 e5 =
        (let is : x ≡ 5 = grind (arith, nat_tests) in subst ByOperand (sym is) at_5)
    by_operand x false false false false false e1 e2 e3 e4 e5 = λ see.
        let eo : seeing_action x a ≡ None =
        ap (λ z. if z then Some (act.Lock a) else (if x == 2 then Some (act.TryLock a) else
        (if x == 3 then Some (act.Unlock a) else (if x == 4 then Some (act.LockMonitor a) else
        (if x == 5 then Some (act.UnlockMonitor a) else None))))) e1 ∙
        ap (λ z. if z then Some (act.TryLock a) else (if x == 3 then Some (act.Unlock a) else
        (if x == 4 then Some (act.LockMonitor a) else (if x == 5 then Some (act.UnlockMonitor a) else None)))) e2 ∙
        ap (λ z. if z then Some (act.Unlock a) else (if x == 4 then Some (act.LockMonitor a) else
        (if x == 5 then Some (act.UnlockMonitor a) else None))) e3 ∙
        ap (λ z. if z then Some (act.LockMonitor a) else (if x == 5 then Some (act.UnlockMonitor a) else None)) e4 ∙
        ap (λ z. if z then Some (act.UnlockMonitor a) else None) e5 in
        subst (λ o. PartsOf (planned_move p n y (see_named p y n x a o))) (sym eo) tt

  from_see : (x : ℕ) →
      slice_get p.instructions y.top.counter ≡ Some (op.See x) →
      (l : List ℕ) →
      y.top.operands ≡ l →
      PartsOf (planned_move p n y (see_at p y n x (top_one l)))
  from_see x see [] el = tt
  from_see x see (a ∷ rest) el = by_operand a rest el x (x == 1) (x == 2) (x == 3) (x == 4) (x == 5) refl refl refl refl
      refl see

  -- TAKE and DROP begin nothing
  from_taken : (x a w : ℕ) (o : Action ℕ) (k : Taken) → PartsOf (planned_move p n y (take_from p y x o a w k))
  from_taken x a w o taken.Other = tt
  from_taken x a w o taken.TooMany = tt
  from_taken x a w o (taken.Taken next) = tt

  from_named : (x a w : ℕ) (o : Option (Action ℕ)) → PartsOf (planned_move p n y (take_named p y n x a w o))
  from_named x a w None = tt
  from_named x a w (Some o) = from_taken x a w o (taken_of w n)

  from_take : (x : ℕ) (r : Option (ℕ × ℕ)) → PartsOf (planned_move p n y (take_at p y n x r))
  from_take x None = tt
  from_take x (Some r) = from_named x r.0 r.1 (taking_action x r.0)

  from_left : (o : Action ℕ) (a : ℕ) (k : Left) → PartsOf (planned_move p n y (drop_to y o a k))
  from_left o a left.NotOwner = tt
  from_left o a (left.Left next) = tt

  from_dropped : (a w : ℕ) (o : Option (Action ℕ)) → PartsOf (planned_move p n y (drop_named y n a w o))
  from_dropped a w None = tt
  from_dropped a w (Some o) = from_left o a (left_of w n)

  from_drop : (x : ℕ) (r : Option (ℕ × ℕ)) → PartsOf (planned_move p n y (drop_at y n x r))
  from_drop x None = tt
  from_drop x (Some r) = from_dropped r.0 r.1 (dropping_action x r.0)

  by_word : (i : Instruction) →
      slice_get p.instructions y.top.counter ≡ Some i →
      IsPlanned (fetched_move p y (Some i)) →
      Word i →
      PartsOf (read_move p n y (fetched_move p y (Some i)))
  by_word i e h (IsSee x ei) =
      subst (λ j. PartsOf (read_move p n y (fetched_move p y (Some j)))) (sym ei)
      (from_see x (e ∙ ap Some ei) y.top.operands refl)
  by_word i e h (IsTake x ei) = subst (λ j. PartsOf (read_move p n y (fetched_move p y (Some j)))) (sym ei)
      (from_take x (top_two y.top.operands))
  by_word i e h (IsDrop x ei) = subst (λ j. PartsOf (read_move p n y (fetched_move p y (Some j)))) (sym ei)
      (from_drop x (top_two y.top.operands))
  by_word i e h (IsAnother w) = absurd (both_not (fetched_move p y (Some i)) (another p y i w) h)

  fetched : (o : Option Instruction) →
      slice_get p.instructions y.top.counter ≡ o →
      IsPlanned (fetched_move p y o) →
      PartsOf (read_move p n y (fetched_move p y o))
  fetched None e h = absurd h
  fetched (Some i) e h = by_word i e h (word_of i)

  -- if the reading asks for an operation, it begins there
  pub there : IsPlanned (thread_move p y) → whole_move p n y ≡ Asks b go → Beginning p n y b go
  there h e = subst PartsOf e (fetched (slice_get p.instructions y.top.counter) refl h)

parts_of : (p : Code) (n : ℕ) (y : Thread) (b : Action ℕ) (go : Answer ℕ → Option Thread) →
    Beginning p n y b go →
    Parts p n y b go
parts_of p n y (act.Lock a) go s = let b = s.0 in (
  lock_parts p n y a b.rest b.top 1 (act.Lock a) refl (λ w. refl)
      (λ w v. refl) b.see b.plan b.shaped,
  s.1,
)
parts_of p n y (act.LockMonitor a) go s = let b = s.0 in (
  lock_parts p n y a b.rest b.top 4 (act.LockMonitor a) refl
      (λ w. refl) (λ w v. refl) b.see b.plan b.shaped,
  s.1,
)
parts_of p n y (act.TryLock a) go s = let b = s.0 in (try_parts p n y a b.rest b.top b.see b.plan b.shaped, s.1)
parts_of p n y (act.Unlock a) go s = let b = s.0 in (
  unlock_parts p n y a b.rest b.top 3 0 (act.Unlock a) refl refl refl
      b.see b.plan b.shaped,
  s.1,
)
parts_of p n y (act.UnlockMonitor a) go s = let b = s.0 in (
  unlock_parts p n y a b.rest b.top 5 1 (act.UnlockMonitor a)
      refl refl refl b.see b.plan b.shaped,
  s.1,
)
parts_of p n y (act.ReadField o i) go s = absurd s
parts_of p n y (act.WriteField o i v) go s = absurd s
parts_of p n y (act.ReadItem o i) go s = absurd s
parts_of p n y (act.WriteItem o i v) go s = absurd s
parts_of p n y (act.ReadName o) go s = absurd s
parts_of p n y (act.WriteName o v) go s = absurd s
parts_of p n y (act.New o) go s = absurd s
parts_of p n y act.NewLock go s = absurd s
parts_of p n y (act.NewMarkable v) go s = absurd s
parts_of p n y (act.NewArray o) go s = absurd s
parts_of p n y (act.IsHeld o) go s = absurd s
parts_of p n y (act.ReadPair o) go s = absurd s
parts_of p n y (act.SetPair o v) go s = absurd s
parts_of p n y (act.SwapPair o v w) go s = absurd s
parts_of p n y (act.AttemptMark o r m) go s = absurd s
parts_of p n y act.Turn go s = absurd s
parts_of p n y (act.Enter o) go s = absurd s
parts_of p n y (act.Call o) go s = absurd s
parts_of p n y (act.Return o v) go s = absurd s
parts_of p n y (act.Trap o v) go s = absurd s

-- the law: the instructions of an operation do what its parts say
pub parts_are_there : PartsAreThere
parts_are_there p n y b go h e = parts_of p n y b go (there p n y b go h e)
