-- Each call of a typed expression's lowered form has as many arguments as its method.
use Rattle.std.proofs.Common.{◌≡◌, ℕ, suc, ◌+◌, List, [], ◌∷◌, length, drop, take, Some, refl, sym, subst, ap, ◌∙◌}
use Rattle.std.proofs.Common.{arith}
use Rattle.std.specs.Prelude.{slice_get}
use Rattle.ls_events.specs.declared.value.ValueType.{ValueType}
use Rattle.ls_events.specs.declared.value.ValueType.TheVariants as types
use Rattle.ls_checked.specs.declared.tree.Called.TheVariants.{Method as OfMethod, LockIt, UnlockIt, TryIt, AskIt}
use Rattle.ls_checked.specs.declared.tree.Called.TheVariants.{HoldMonitor, FreeMonitor, GetReference, IsMarked, GetBoth}
use Rattle.ls_checked.specs.declared.tree.Called.TheVariants.{SetBoth, CompareAndSet, Attempt}
use Rattle.ls_checked.specs.CheckedTree.{Method, File, Expression, Literal, Slot, Field, Item, Negate, Not, Binary, And}
use Rattle.ls_checked.specs.CheckedTree.{Or, Call, MakeObject, MakeLock, MakeMarkable, MakeArray, Expressions, End}
use Rattle.ls_checked.specs.CheckedTree.{More}
use Rattle.ls_meaning.specs.declared.sort.Sort.{Sort}
use Rattle.ls_meaning.specs.Expressions.{constructor_of}
use Rattle.ls_lowered.specs.LoweredTree as low
use Rattle.ls_types_judgement.specs.Typing.{IsTyped, AreTyped, IsTypedFile, parameters_of}
use Rattle.ls_refs.specs.Temporaries.{temporaries}
use Rattle.ls_refs.specs.Calls.{first_of, second_of}
use Rattle.ls_refs.specs.Lowered.{lowered, all_lowered, lowered_method, lowered_file}
use Rattle.ls_finally.specs.Placed.{count, TakesIn, Takes, CallsWell, AllCallWell}
use Rattle.ls_linker.proofs.Segments.{at_mapped, length_taken}

-- as many arguments as types
counted : (file : File) (slots : List ValueType) (free : ℕ) (ts : List ValueType) (es : Expressions) →
    AreTyped file slots ts es →
    count (all_lowered file.classes free es) ≡ length ts
counted file slots free [] End h = refl
counted file slots free [] (More e es) h = absurd h
counted file slots free (t ∷ ts) End h = absurd h
counted file slots free (t ∷ ts) (More e es) h = ap suc (counted file slots (free + temporaries e) ts es h.1)

-- two typed arguments are the first and the second
pair : (file : File) (ms : low.File) (slots : List ValueType) (free : ℕ) (es : Expressions) (t u : ValueType) →
    AreTyped file slots (t ∷ u ∷ []) es →
    AllCallWell ms (all_lowered file.classes free es) →
    CallsWell ms (first_of (all_lowered file.classes free es)) ×
    CallsWell ms (second_of (all_lowered file.classes free es))
pair file ms slots free End t u h b = absurd h
pair file ms slots free (More x End) t u h b = absurd h.1
pair file ms slots free (More x (More y End)) t u h b = (b.0, b.1.0)
pair file ms slots free (More x (More y (More z es))) t u h b = absurd h.1.1

module _ (file : File) (typed : IsTypedFile file) (slots : List ValueType) where
  -- a method of the file takes `this` and its parameters
  takes : (m : ℕ) (g : Method) (free : ℕ) (es : Expressions) →
      slice_get file.methods m ≡ Some g →
      AreTyped file slots (parameters_of g) es →
      Takes (lowered_file file) m (suc (count (all_lowered file.classes free es)))
  takes m g free es e h =
      let t = typed m g e in
      let parameters : length (parameters_of g) ≡ g.parameters = ap (λ ls. length (take g.parameters (drop 1 ls)))
      t.this ∙ length_taken g.parameters t.locals t.parameters in
      let many : suc (count (all_lowered file.classes free es)) ≡ g.parameters + 1 = omega
      (arith, counted file slots free (parameters_of g) es h, parameters) in
      subst (λ o. TakesIn o (suc (count (all_lowered file.classes free es))))
      (sym (at_mapped (lowered_method file.classes) file.methods m g e)) many

  mutual
    -- each call of a lowered expression has as many arguments as its method
    pub calls : (free : ℕ) (s : Sort) (e : Expression) →
        IsTyped file slots s e →
        CallsWell (lowered_file file) (lowered file.classes free e)
    calls free s (Literal v) h = tt
    calls free s (Slot n) h = tt
    calls free s (Field e c f) h = calls free _ e h.3
    calls free s (Item a i) h = (calls free _ a h.1, calls _ _ i h.2)
    calls free s (Negate e) h = calls free _ e h.1
    calls free s (Not e) h = calls free _ e h.1
    calls free s (Binary op a b) h = (calls free _ a h.3, calls _ _ b h.4)
    calls free s (And a b) h = (calls free _ a h.1, calls _ _ b h.2)
    calls free s (Or a b) h = (calls free _ a h.1, calls _ _ b h.2)
    calls free s (Call e (OfMethod m) es) h = (takes m h.0 _ es h.1 h.4, calls _ _ e h.3, all_calls _ _ es h.4)
    calls free s (Call e LockIt es) h = calls _ _ e h.1
    calls free s (Call e UnlockIt es) h = calls _ _ e h.1
    calls free s (Call e TryIt es) h = calls _ _ e h.1
    calls free s (Call e AskIt es) h = calls _ _ e h.1
    calls free s (Call e (HoldMonitor c) es) h = calls _ _ e h.1
    calls free s (Call e (FreeMonitor c) es) h = calls _ _ e h.1
    calls free s (Call e (GetReference c) es) h = calls _ _ e h.1
    calls free s (Call e (IsMarked c) es) h = calls _ _ e h.1
    calls free s (Call e (GetBoth c) End) h = absurd h.2
    calls free s (Call e (GetBoth c) (More a End)) h = ((calls _ _ e h.1, calls _ _ a h.2.0), ((tt, tt), tt))
    calls free s (Call e (GetBoth c) (More a (More b es))) h = absurd h.2.1
    calls free s (Call e SetBoth es) h = (
      calls _ _ e h.2,
      pair file (lowered_file file) slots
          (free + 0 + temporaries e) es (types.Class h.0) types.Boolean h.3
          (all_calls (free + 0 + temporaries e) (types.Class h.0 ∷ types.Boolean ∷ []) es h.3),
    )
    calls free s (Call e CompareAndSet End) h = absurd h.3
    calls free s (Call e CompareAndSet (More a End)) h = absurd h.3.1
    calls free s (Call e CompareAndSet (More a (More b End))) h = absurd h.3.1.1
    calls free s (Call e CompareAndSet (More a (More b (More c End)))) h = absurd h.3.1.1.1
    calls free s (Call e CompareAndSet (More a (More b (More c (More d End))))) h = (
      (
        (((calls _ _ e h.2, calls _ _ a h.3.0), calls _ _ b h.3.1.0), calls _ _ c h.3.1.1.0),
        calls _ _ d h.3.1.1.1.0,
      ),
      (tt, tt),
      (tt, tt),
    )
    calls free s (Call e CompareAndSet (More a (More b (More c (More d (More f es)))))) h = absurd h.3.1.1.1.1
    calls free s (Call e Attempt es) h = let both = pair file (lowered_file file) slots (free + 0 + temporaries e) es
        (types.Class h.0) types.Boolean h.3 (all_calls (free + 0 + temporaries e) (types.Class h.0 ∷ types.Boolean ∷ [])
        es h.3) in (calls _ _ e h.2, both.0, both.1)
    calls free s (MakeObject c es) h = (
      takes (constructor_of file.classes c) h.0 free es h.1 h.4,
      all_calls free _ es h.4,
    )
    calls free s MakeLock h = tt
    calls free s (MakeMarkable c es) h = pair file (lowered_file file) slots free es (types.Class c) types.Boolean h.1
        (all_calls free (types.Class c ∷ types.Boolean ∷ []) es h.1)
    calls free s (MakeArray e) h = calls free _ e h.1

    -- each call of lowered arguments has as many arguments as its method
    pub all_calls : (free : ℕ) (ts : List ValueType) (es : Expressions) →
        AreTyped file slots ts es →
        AllCallWell (lowered_file file) (all_lowered file.classes free es)
    all_calls free [] End h = tt
    all_calls free [] (More e es) h = absurd h
    all_calls free (t ∷ ts) End h = absurd h
    all_calls free (t ∷ ts) (More e es) h = (calls free _ e h.0, all_calls _ ts es h.1)
