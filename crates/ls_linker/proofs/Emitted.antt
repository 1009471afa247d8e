-- The lowered form of a typed expression has code, if its locals exist and its calls have their arguments.
use Rattle.std.proofs.Common.{◌≡◌, ℕ, ◌+◌, ◌<◌, ◌^◌, List, [], ◌∷◌, length, Option, Some, None, option_map, refl, sym}
use Rattle.std.proofs.Common.{subst, arith}
use Rattle.std.specs.Prelude.{slice_get}
use Rattle.std.proofs.lemmas.Option.{slice_get-map}
use Rattle.ls_events.specs.declared.value.ValueType.{ValueType}
use Rattle.ls_checked.specs.declared.tree.Called.TheVariants.{Method as OfMethod, LockIt, UnlockIt, TryIt, AskIt}
use Rattle.ls_checked.specs.declared.tree.Called.TheVariants.{HoldMonitor, FreeMonitor, GetReference, IsMarked, GetBoth}
use Rattle.ls_checked.specs.declared.tree.Called.TheVariants.{SetBoth, CompareAndSet, Attempt}
use Rattle.ls_checked.specs.CheckedTree.{Class, Method, File, Expression, Literal, Slot, Field, Item, Negate, Not}
use Rattle.ls_checked.specs.CheckedTree.{Binary, And, Or, Call, MakeObject, MakeLock, MakeMarkable, MakeArray}
use Rattle.ls_checked.specs.CheckedTree.{Expressions, End, More}
use Rattle.ls_meaning.specs.declared.sort.Sort.{Sort}
use Rattle.ls_meaning.specs.declared.sort.Sort.TheVariants.{NoValue, ValueOf}
use Rattle.ls_meaning.specs.Expressions.{value_in, field_in, constructor_of}
use Rattle.ls_lowered.specs.LoweredTree as low
use Rattle.ls_types_judgement.specs.Typing.{IsTyped, AreTyped, IsTypedFile}
use Rattle.ls_refs.specs.Lowered.{lowered, all_lowered, lowered_file}
use Rattle.ls_finally.specs.Agreement.{IsBelow, AreBelow}
use Rattle.ls_finally.specs.Flat.{flat_method, flat_file}
use Rattle.ls_finally.specs.Placed as placed
use Rattle.ls_finally.specs.Placed.{CallsWell, AllCallWell}
use Rattle.ls_emit.specs.Emittable.{TakesIn, Takes, IsEmittable, AreEmittable}
use Rattle.ls_types_judgement.specs.Classes.{HasItsClasses}
use Rattle.ls_types_judgement.specs.Limits.{IsRanged}
use Rattle.ls_linker.proofs.Segments.{in_range}
use Rattle.ls_linker.proofs.Words.{small_word}

-- a method without `try` takes as many arguments
takes_flat : (o : Option low.Method) (n : ℕ) → placed.TakesIn o n → TakesIn (option_map flat_method o) n
takes_flat None n h = absurd h
takes_flat (Some g) n h = h

no_value : (t : ValueType) → NoValue ≡ ValueOf t → ⊥
no_value t e = cc

-- a field that has a type is one of its class
field_there : (fields : List ValueType) (f : ℕ) (t : ValueType) (o : Option ValueType) →
    slice_get fields f ≡ o →
    value_in o ≡ ValueOf t →
    f < length fields
field_there fields f t None is e = absurd (no_value t e)
field_there fields f t (Some u) is e = in_range fields f u is

-- the cell of a field is an operand
pub field_small : (file : File) →
    IsRanged file →
    (c f : ℕ) (t : ValueType) (o : Option Class) →
    slice_get file.classes c ≡ o →
    field_in o f ≡ ValueOf t →
    f + 1 < 2 ^ 32
field_small file ranged c f t None is e = absurd (no_value t e)
field_small file ranged c f t (Some class) is e =
    let there = field_there class.fields f t (slice_get class.fields f) refl e in
    let few = ranged.fields c class is in
    omega (arith, there, few)

module _ (file : File) (typed : IsTypedFile file) (its : HasItsClasses file) (ranged : IsRanged file)
    (slots : List ValueType) (k : ℕ) where
  takes : (m : ℕ) (g : Method) (n : ℕ) →
      slice_get file.methods m ≡ Some g →
      placed.Takes (lowered_file file) m n →
      Takes (flat_file (lowered_file file)) m n
  takes m g n e h =
      let there = in_range file.methods m g e in
      let few = ranged.methods in (
        omega (arith, there, few),
        subst (λ o. TakesIn o n) (sym (slice_get-map flat_method (lowered_file file) m))
            (takes_flat (slice_get (lowered_file file) m) n h),
      )

  class_small : (c m : ℕ) (g : Method) → slice_get file.methods m ≡ Some g → g.class ≡ c → c < 2 ^ 32
  class_small c m g e is =
      let there = its m g e in
      let few = ranged.classes in
      omega (arith, there, few, is)

  mutual
    -- a lowered expression of a typed file has code
    pub emitted : (free : ℕ) (s : Sort) (e : Expression) →
        IsTyped file slots s e →
        IsBelow k (lowered file.classes free e) →
        CallsWell (lowered_file file) (lowered file.classes free e) →
        IsEmittable (flat_file (lowered_file file)) k (lowered file.classes free e)
    emitted free s (Literal v) h b w = small_word s v h
    emitted free s (Slot n) h b w = b
    emitted free s (Field e c f) h b w = (
      emitted free _ e h.3 b w,
      field_small file ranged c f h.0 (slice_get file.classes c) refl h.2,
    )
    emitted free s (Item a i) h b w = (emitted free _ a h.1 b.0 w.0, emitted _ _ i h.2 b.1 w.1)
    emitted free s (Negate e) h b w = emitted free _ e h.1 b w
    emitted free s (Not e) h b w = emitted free _ e h.1 b w
    emitted free s (Binary op x y) h b w = (emitted free _ x h.3 b.0 w.0, emitted _ _ y h.4 b.1 w.1)
    emitted free s (And x y) h b w = (emitted free _ x h.1 b.0 w.0, emitted _ _ y h.2 b.1 w.1)
    emitted free s (Or x y) h b w = (emitted free _ x h.1 b.0 w.0, emitted _ _ y h.2 b.1 w.1)
    emitted free s (Call e (OfMethod m) es) h b w = (
      takes m h.0 _ h.1 w.0,
      emitted _ _ e h.3 b.0 w.1,
      all_emitted _ _ es h.4 b.1 w.2,
    )
    emitted free s (Call e LockIt es) h b w = emitted _ _ e h.1 b w
    emitted free s (Call e UnlockIt es) h b w = emitted _ _ e h.1 b w
    emitted free s (Call e TryIt es) h b w = emitted _ _ e h.1 b w
    emitted free s (Call e AskIt es) h b w = emitted _ _ e h.1 b w
    emitted free s (Call e (HoldMonitor c) es) h b w = emitted _ _ e h.1 b w
    emitted free s (Call e (FreeMonitor c) es) h b w = emitted _ _ e h.1 b w
    emitted free s (Call e (GetReference c) es) h b w = emitted _ _ e h.1 b w
    emitted free s (Call e (IsMarked c) es) h b w = emitted _ _ e h.1 b w
    emitted free s (Call e (GetBoth c) End) h b w = absurd h.2
    emitted free s (Call e (GetBoth c) (More x End)) h b w =
        ((emitted _ _ e h.1 b.1.1 w.0.0, b.1.0, emitted _ _ x h.2.0 b.1.2 w.0.1), b.0, ((b.1.0, b.0), b.0))
    emitted free s (Call e (GetBoth c) (More x (More y es))) h b w = absurd h.2.1
    emitted free s (Call e SetBoth End) h b w = absurd h.3
    emitted free s (Call e SetBoth (More x End)) h b w = absurd h.3.1
    emitted free s (Call e SetBoth (More x (More y End))) h b w =
        (emitted _ _ e h.2 b.0 w.0, (emitted _ _ x h.3.0 b.1.0 w.1.0, emitted _ _ y h.3.1.0 b.1.1 w.1.1))
    emitted free s (Call e SetBoth (More x (More y (More z es)))) h b w = absurd h.3.1.1
    emitted free s (Call e CompareAndSet End) h b w = absurd h.3
    emitted free s (Call e CompareAndSet (More p End)) h b w = absurd h.3.1
    emitted free s (Call e CompareAndSet (More p (More q End))) h b w = absurd h.3.1.1
    emitted free s (Call e CompareAndSet (More p (More q (More x End)))) h b w = absurd h.3.1.1.1
    emitted free s (Call e CompareAndSet (More p (More q (More x (More y End))))) h b w = (
      (
        (
          (
            (emitted _ _ e h.2 b.0.1.1.1.1 w.0.0.0.0.0, b.0.1.1.1.0, emitted _ _ p h.3.0 b.0.1.1.1.2 w.0.0.0.0.1),
            b.0.1.1.0,
            emitted _ _ q h.3.1.0 b.0.1.1.2 w.0.0.0.1,
          ),
          b.0.1.0,
          emitted _ _ x h.3.1.1.0 b.0.1.2 w.0.0.1,
        ),
        b.0.0,
        emitted _ _ y h.3.1.1.1.0 b.0.2 w.0.1,
      ),
      b.1,
      b.2,
    )
    emitted free s (Call e CompareAndSet (More p (More q (More x (More y (More z es)))))) h b w = absurd h.3.1.1.1.1
    emitted free s (Call e Attempt End) h b w = absurd h.3
    emitted free s (Call e Attempt (More x End)) h b w = absurd h.3.1
    emitted free s (Call e Attempt (More x (More y End))) h b w =
        (emitted _ _ e h.2 b.0 w.0, emitted _ _ x h.3.0 b.1 w.1, emitted _ _ y h.3.1.0 b.2 w.2)
    emitted free s (Call e Attempt (More x (More y (More z es)))) h b w = absurd h.3.1.1
    emitted free s (MakeObject c es) h b w = (
      class_small c (constructor_of file.classes c) h.0 h.1 h.3,
      takes (constructor_of file.classes c) h.0 _ h.1 w.0,
      all_emitted free _ es h.4 b w.1,
    )
    emitted free s MakeLock h b w = tt
    emitted free s (MakeMarkable c End) h b w = absurd h.1
    emitted free s (MakeMarkable c (More x End)) h b w = absurd h.1.1
    emitted free s (MakeMarkable c (More x (More y End))) h b w =
        (emitted free _ x h.1.0 b.0 w.0, emitted _ _ y h.1.1.0 b.1 w.1)
    emitted free s (MakeMarkable c (More x (More y (More z es)))) h b w = absurd h.1.1.1
    emitted free s (MakeArray e) h b w = emitted free _ e h.1 b w

    pub all_emitted : (free : ℕ) (ts : List ValueType) (es : Expressions) →
        AreTyped file slots ts es →
        AreBelow k (all_lowered file.classes free es) →
        AllCallWell (lowered_file file) (all_lowered file.classes free es) →
        AreEmittable (flat_file (lowered_file file)) k (all_lowered file.classes free es)
    all_emitted free [] End h b w = tt
    all_emitted free [] (More e es) h b w = absurd h
    all_emitted free (t ∷ ts) End h b w = absurd h
    all_emitted free (t ∷ ts) (More e es) h b w = (emitted free _ e h.0 b.0 w.0, all_emitted _ ts es h.1 b.1 w.1)
