-- Calls of what isn't a method, operators, and the makings.
use Rattle.std.proofs.Common.{◌≡◌, ◌≢◌, ℕ, List, [], ◌∷◌, Option, Some, None, refl, sym, ap, subst}
use Rattle.std.specs.Prelude.{ℤ, pos, negsuc, int_lt, slice_get, if◌then◌else◌}
use Rattle.std.proofs.lemmas.Int.{SFits-int_wrap}
use mir.Syntax.{w32}
use Rattle.ls_events.specs.declared.kind.Kind.TheVariants.{Arithmetic, NegativeArraySize}
use Rattle.ls_events.specs.declared.action.Action.TheVariants as act
use Rattle.ls_events.specs.declared.value.Value.{Value}
use Rattle.ls_events.specs.declared.value.Value.TheVariants as values
use Rattle.ls_events.specs.declared.value.ValueType.{ValueType}
use Rattle.ls_events.specs.declared.value.ValueType.TheVariants as types
use Rattle.ls_checked.specs.declared.tree.Operator.{Operator}
use Rattle.ls_checked.specs.declared.tree.Operator.TheVariants.{Add, Subtract, Multiply, Divide, Remainder, Less}
use Rattle.ls_checked.specs.declared.tree.Operator.TheVariants.{LessEqual, Greater, GreaterEqual, Equal, NotEqual}
use Rattle.ls_checked.specs.declared.tree.Called.TheVariants.{GetReference, IsMarked, GetBoth, SetBoth, CompareAndSet}
use Rattle.ls_checked.specs.declared.tree.Called.TheVariants.{Attempt}
use Rattle.ls_checked.specs.CheckedTree.{Class, File}
use Rattle.ls_meaning.specs.declared.sort.Sort.TheVariants.{NoValue, ValueOf, NewOf, PairOf}
use Rattle.ls_meaning.specs.Values.{int_of, truth_of, reference_of, mark_of, pair_of, operated, divides_by_zero}
use Rattle.ls_meaning.specs.Course.{Answers, Evaluated, Results, Throws, ask}
use Rattle.ls_meaning.specs.Expressions.{Calls, operate, value_in, field_in, field_of, call, argument}
use Rattle.ls_types_judgement.specs.Sorts.{HasType, HasSort, HaveTypes}
use Rattle.ls_types_judgement.specs.Typing.{result_type}
use Rattle.ls_preservation.specs.Sorts.{fields_by, fields_of}
use Rattle.ls_soundness.proofs.Values.{div_fits, reference_has, pair_reference, value_at}
use Rattle.ls_soundness.proofs.Ways.{Way, Good, results_good, throws_good, then_good, weaken, ask_good, either_good}
use Rattle.ls_soundness.proofs.Ways.{null_good}

-- what an operator computes has its type
operated_has : (P : ℕ → ValueType → Type 0) (op : Operator) (x y : Value) → HasType P (operated op x y) (result_type op)
operated_has P Add x y = SFits-int_wrap w32 _
operated_has P Subtract x y = SFits-int_wrap w32 _
operated_has P Multiply x y = SFits-int_wrap w32 _
operated_has P Divide x y = div_fits (int_of x) (int_of y)
operated_has P Remainder x y = SFits-int_wrap w32 _
operated_has P Less x y = tt
operated_has P LessEqual x y = tt
operated_has P Greater x y = tt
operated_has P GreaterEqual x y = tt
operated_has P Equal x y = tt
operated_has P NotEqual x y = tt

-- a field that is there, with its type
value_is : (o : Option ValueType) (t : ValueType) → value_in o ≡ ValueOf t → o ≡ Some t
value_is None t e = absurd (none e)
  where
    none : NoValue ≡ ValueOf t → ⊥
    none e = cc
value_is (Some u) t e = let is : u ≡ t = cc in ap Some is

field_is : (o : Option Class) (f : ℕ) (t : ValueType) → field_in o f ≡ ValueOf t → slice_get (fields_by o) f ≡ Some t
field_is None f t e = absurd (none e)
  where
    none : NoValue ≡ ValueOf t → ⊥
    none e = cc
field_is (Some c) f t e = value_is (slice_get c.fields f) t e

-- a field that has a type is one of the class, with that type
pub field_there : (classes : List Class) (c f : ℕ) (t : ValueType) →
    field_of classes c f ≡ ValueOf t →
    slice_get (fields_of classes c) f ≡ Some t
field_there classes c f t e = field_is (slice_get classes c) f t e

module _ (P : ℕ → ValueType → Type 0) (file : File) (w : Way P file) where
  -- a value of a type
  abbrev pub Valued : ValueType → (Answers → Evaluated Value) → Type 0
  Valued t x = Good P file w (HasSort P (ValueOf t)) x

  -- an operator on two values gives a value of its type
  pub operate_good : (op : Operator) (x y : Value) → Valued (result_type op) (λ q. operate op x y q)
  operate_good op x y = either_good P file w _ (divides_by_zero op y) (λ q. Throws Arithmetic q)
      (λ q. Results (operated op x y) q)
      (λ e. throws_good P file w _ Arithmetic) (λ e. results_good P file w _ (operated op x y) (operated_has P op x y))

  -- a new array, whose length isn't negative
  pub array_good : (z : ℤ) →
      Valued types.BooleanArray (λ q. if int_lt z (pos 0) then Throws NegativeArraySize q else
      ask (act.NewArray z) (NewOf types.BooleanArray) q)
  array_good (pos n) = either_good P file w _ (int_lt (pos n) (pos 0)) (λ q. Throws NegativeArraySize q)
      (λ q. ask (act.NewArray (pos n)) (NewOf types.BooleanArray) q)
      (λ e. throws_good P file w _ NegativeArraySize)
      (λ e. weaken P file w (HasSort P (NewOf types.BooleanArray)) _ _ (λ v h. h.1)
      (ask_good P file w (act.NewArray (pos n)) (NewOf types.BooleanArray) tt (n, refl, refl)))
  array_good (negsuc n) = throws_good P file w _ NegativeArraySize

  -- a read of a field gives a value of the field's type
  pub field_good : (c f : ℕ) (t : ValueType) (o : Value) →
      field_of file.classes c f ≡ ValueOf t →
      HasType P o (types.Class c) →
      reference_of o ≢ 0 →
      Valued t (λ q. ask (act.ReadField (reference_of o) f) (field_of file.classes c f) q)
  field_good c f t o e ho ne =
      subst (λ z. Valued t (λ q. ask (act.ReadField (reference_of o) f) z q)) (sym e)
      (ask_good P file w (act.ReadField (reference_of o) f) (ValueOf t) tt
      (c, t, (ne, reference_has P o (types.Class c) tt ho), field_there file.classes c f t e, refl))

  -- operations of locks
  module _ (o : Value) (ho : HasType P o types.Lock) (ne : reference_of o ≢ 0) where
    -- lock()
    pub lock_good : Good P file w (HasSort P NoValue) (λ q. ask (act.Lock (reference_of o)) NoValue q)
    lock_good = ask_good P file w (act.Lock (reference_of o)) NoValue tt
        ((ne, reference_has P o types.Lock tt ho), refl)

    -- unlock()
    pub unlock_good : Good P file w (HasSort P NoValue) (λ q. ask (act.Unlock (reference_of o)) NoValue q)
    unlock_good = ask_good P file w (act.Unlock (reference_of o)) NoValue tt
        ((ne, reference_has P o types.Lock tt ho), refl)

    -- tryLock() gives a boolean
    pub try_good : Valued types.Boolean (λ q. ask (act.TryLock (reference_of o)) (ValueOf types.Boolean) q)
    try_good = ask_good P file w (act.TryLock (reference_of o)) (ValueOf types.Boolean) tt
        ((ne, reference_has P o types.Lock tt ho), refl)

    -- isHeldByCurrentThread() gives a boolean
    pub held_good : Valued types.Boolean (λ q. ask (act.IsHeld (reference_of o)) (ValueOf types.Boolean) q)
    held_good = ask_good P file w (act.IsHeld (reference_of o)) (ValueOf types.Boolean) tt
        ((ne, reference_has P o types.Lock tt ho), refl)

  -- operations of monitors
  module _ (c : ℕ) (o : Value) (ho : HasType P o (types.Class c)) (ne : reference_of o ≢ 0) where
    -- the lock of a monitor
    pub hold_good : Good P file w (HasSort P NoValue) (λ q. ask (act.LockMonitor (reference_of o)) NoValue q)
    hold_good = ask_good P file w (act.LockMonitor (reference_of o)) NoValue tt
        (c, (ne, reference_has P o (types.Class c) tt ho), refl)

    -- the unlock of a monitor
    pub free_good : Good P file w (HasSort P NoValue) (λ q. ask (act.UnlockMonitor (reference_of o)) NoValue q)
    free_good = ask_good P file w (act.UnlockMonitor (reference_of o)) NoValue tt
        (c, (ne, reference_has P o (types.Class c) tt ho), refl)

  -- operations of markables
  module _ (c : ℕ) (o : Value) (ho : HasType P o (types.Markable c)) (ne : reference_of o ≢ 0) where
    read_good : Good P file w (HasSort P (PairOf c)) (λ q. ask (act.ReadPair (reference_of o)) (PairOf c) q)
    read_good = ask_good P file w (act.ReadPair (reference_of o)) (PairOf c) tt
        (c, (ne, reference_has P o (types.Markable c) tt ho), refl)

    module _ (calls : Calls) (vs : List Value) where
      -- getReference() gives a reference to an object of the class
      pub reference_good : Valued (types.Class c) (λ q. call calls (GetReference c) o vs q)
      reference_good = then_good P file w _ _ _ _ read_good (λ p hp.
          results_good P file w _ (values.Reference (reference_of p)) (pair_reference P p c hp))

      -- isMarked() gives a boolean
      pub marked_good : Valued types.Boolean (λ q. call calls (IsMarked c) o vs q)
      marked_good = then_good P file w _ _ _ _ read_good (λ p hp.
          results_good P file w _ (values.Boolean (mark_of p)) tt)

      -- get(boolean[]) gives a reference to an object of the class
      pub both_good : HaveTypes P (types.BooleanArray ∷ []) vs →
          Valued (types.Class c) (λ q. call calls (GetBoth c) o vs q)
      both_good hvs =
          let array = argument vs 0 in
          let ha : HasType P array types.BooleanArray = value_at P (types.BooleanArray ∷ []) vs 0 types.BooleanArray hvs
          refl in
          then_good P file w _ _ _ _ read_good (λ p hp.
          null_good P file w _ (reference_of array) _ (λ there.
          then_good P file w _ _ _ _
          (ask_good P file w (act.WriteItem (reference_of array) (pos 0) (values.Boolean (mark_of p))) NoValue tt
          ((there, reference_has P array types.BooleanArray tt ha), tt, refl)) (λ u hu.
          results_good P file w _ (values.Reference (reference_of p)) (pair_reference P p c hp))))

      -- set(newReference, newMark)
      pub set_good : HaveTypes P (types.Class c ∷ types.Boolean ∷ []) vs →
          Good P file w (HasSort P NoValue) (λ q. call calls SetBoth o vs q)
      set_good hvs = ask_good P file w (act.SetPair (reference_of o) (pair_of (argument vs 0) (argument vs 1))) NoValue
          tt (
            c,
            (ne, reference_has P o (types.Markable c) tt ho),
            reference_has P (argument vs 0) (types.Class c) tt
                (value_at P (types.Class c ∷ types.Boolean ∷ []) vs 0 (types.Class c) hvs refl),
            refl,
          )

      -- compareAndSet(..) gives a boolean
      pub swap_good : HaveTypes P (types.Class c ∷ types.Class c ∷ types.Boolean ∷ types.Boolean ∷ []) vs →
          Valued types.Boolean (λ q. call calls CompareAndSet o vs q)
      swap_good hvs = ask_good P file w (act.SwapPair (reference_of o) (pair_of (argument vs 0) (argument vs 2))
          (pair_of (argument vs 1) (argument vs 3))) (ValueOf types.Boolean) tt (
            c,
            (ne, reference_has P o (types.Markable c) tt ho),
            reference_has P (argument vs 0) (types.Class c) tt (value_at P
                (types.Class c ∷ types.Class c ∷ types.Boolean ∷ types.Boolean ∷ []) vs 0 (types.Class c) hvs refl),
            reference_has P (argument vs 1) (types.Class c) tt (value_at P
                (types.Class c ∷ types.Class c ∷ types.Boolean ∷ types.Boolean ∷ []) vs 1 (types.Class c) hvs refl),
            refl,
          )

      -- attemptMark(..) gives a boolean
      pub attempt_good : HaveTypes P (types.Class c ∷ types.Boolean ∷ []) vs →
          Valued types.Boolean (λ q. call calls Attempt o vs q)
      attempt_good hvs = ask_good P file w (act.AttemptMark (reference_of o) (reference_of (argument vs 0))
          (truth_of (argument vs 1))) (ValueOf types.Boolean) tt (
            c,
            (ne, reference_has P o (types.Markable c) tt ho),
            reference_has P (argument vs 0) (types.Class c) tt
                (value_at P (types.Class c ∷ types.Boolean ∷ []) vs 0 (types.Class c) hvs refl),
            refl,
          )

  -- the making of a markable gives a markable of the class
  pub markable_good : (c : ℕ) (vs : List Value) →
      HaveTypes P (types.Class c ∷ types.Boolean ∷ []) vs →
      Valued (types.Markable c) (λ q. ask (act.NewMarkable (pair_of (argument vs 0) (argument vs 1)))
      (NewOf (types.Markable c)) q)
  markable_good c vs hvs = weaken P file w (HasSort P (NewOf (types.Markable c))) _ _ (λ v h. h.1)
      (ask_good P file w (act.NewMarkable (pair_of (argument vs 0) (argument vs 1))) (NewOf (types.Markable c)) tt (
        c,
        reference_has P (argument vs 0) (types.Class c) tt
            (value_at P (types.Class c ∷ types.Boolean ∷ []) vs 0 (types.Class c) hvs refl),
        refl,
      ))
