-- The lowered form of a typed expression reads and sets no local but those of its method.
use Rattle.std.proofs.Common.{ℕ, ◌+◌, ◌≤◌, ◌<◌, List, [], ◌∷◌, length, arith}
use Rattle.ls_events.specs.declared.value.ValueType.{ValueType}
use Rattle.ls_events.specs.declared.value.ValueType.TheVariants as types
use Rattle.ls_checked.specs.declared.tree.Called.TheVariants.{Method as OfMethod, LockIt, UnlockIt, TryIt, AskIt}
use Rattle.ls_checked.specs.declared.tree.Called.TheVariants.{HoldMonitor, FreeMonitor, GetReference, IsMarked, GetBoth}
use Rattle.ls_checked.specs.declared.tree.Called.TheVariants.{SetBoth, CompareAndSet, Attempt}
use Rattle.ls_checked.specs.CheckedTree.{File, Expression, Literal, Slot, Field, Item, Negate, Not, Binary, And, Or}
use Rattle.ls_checked.specs.CheckedTree.{Call, MakeObject, MakeLock, MakeMarkable, MakeArray, Expressions, End, More}
use Rattle.ls_meaning.specs.declared.sort.Sort.{Sort}
use Rattle.ls_types_judgement.specs.Typing.{IsTyped, AreTyped}
use Rattle.ls_refs.specs.Temporaries.{temporaries, all_temporaries}
use Rattle.ls_refs.specs.Calls.{first_of, second_of}
use Rattle.ls_refs.specs.Lowered.{lowered, all_lowered}
use Rattle.ls_finally.specs.Agreement.{IsBelow, AreBelow}
use Rattle.ls_linker.proofs.Segments.{in_range}

-- two typed arguments are the first and the second
pair : (file : File) (slots : List ValueType) (k free : ℕ) (es : Expressions) (t u : ValueType) →
    AreTyped file slots (t ∷ u ∷ []) es →
    AreBelow k (all_lowered file.classes free es) →
    IsBelow k (first_of (all_lowered file.classes free es)) × IsBelow k (second_of (all_lowered file.classes free es))
pair file slots k free End t u h b = absurd h
pair file slots k free (More x End) t u h b = absurd h.1
pair file slots k free (More x (More y End)) t u h b = (b.0, b.1.0)
pair file slots k free (More x (More y (More z es))) t u h b = absurd h.1.1

module _ (file : File) (slots : List ValueType) (k : ℕ) where
  mutual
    -- a lowered expression names only locals of its method
    pub below : (free : ℕ) (s : Sort) (e : Expression) →
        length slots ≤ free →
        free + temporaries e ≤ k →
        IsTyped file slots s e →
        IsBelow k (lowered file.classes free e)
    below free s (Literal v) fits room h = tt
    below free s (Slot n) fits room h = let there = in_range slots n h.0 h.2 in omega (arith, there, fits, room)
    below free s (Field e c f) fits room h = below free _ e fits room h.3
    below free s (Item a i) fits room h = (
      below free _ a fits (omega (arith, room)) h.1,
      below (free + temporaries a) _ i (omega (arith, fits)) (omega (arith, room)) h.2,
    )
    below free s (Negate e) fits room h = below free _ e fits room h.1
    below free s (Not e) fits room h = below free _ e fits room h.1
    below free s (Binary op a b) fits room h = (
      below free _ a fits (omega (arith, room)) h.3,
      below (free + temporaries a) _ b (omega (arith, fits)) (omega (arith, room)) h.4,
    )
    below free s (And a b) fits room h = (
      below free _ a fits (omega (arith, room)) h.1,
      below (free + temporaries a) _ b (omega (arith, fits)) (omega (arith, room)) h.2,
    )
    below free s (Or a b) fits room h = (
      below free _ a fits (omega (arith, room)) h.1,
      below (free + temporaries a) _ b (omega (arith, fits)) (omega (arith, room)) h.2,
    )
    below free s (Call e (OfMethod m) es) fits room h = (
      below (free + 0) _ e (omega (arith, fits)) (omega (arith, room)) h.3,
      all_below (free + 0 + temporaries e) _ es (omega (arith, fits)) (omega (arith, room)) h.4,
    )
    below free s (Call e LockIt es) fits room h = below (free + 0) _ e (omega (arith, fits)) (omega (arith, room)) h.1
    below free s (Call e UnlockIt es) fits room h = below (free + 0) _ e (omega (arith, fits)) (omega (arith, room)) h.1
    below free s (Call e TryIt es) fits room h = below (free + 0) _ e (omega (arith, fits)) (omega (arith, room)) h.1
    below free s (Call e AskIt es) fits room h = below (free + 0) _ e (omega (arith, fits)) (omega (arith, room)) h.1
    below free s (Call e (HoldMonitor c) es) fits room h = below (free + 0) _ e (omega (arith, fits))
        (omega (arith, room)) h.1
    below free s (Call e (FreeMonitor c) es) fits room h = below (free + 0) _ e (omega (arith, fits))
        (omega (arith, room)) h.1
    below free s (Call e (GetReference c) es) fits room h = below (free + 0) _ e (omega (arith, fits))
        (omega (arith, room)) h.1
    below free s (Call e (IsMarked c) es) fits room h = below (free + 0) _ e (omega (arith, fits)) (omega (arith, room))
        h.1
    below free s (Call e (GetBoth c) End) fits room h = absurd h.2
    below free s (Call e (GetBoth c) (More a End)) fits room h =
        let one : free < k = omega (arith, room) in
        let two : free + 1 < k = omega (arith, room) in
        let target = below (free + 2) _ e (omega (arith, fits)) (omega (arith, room)) h.1 in
        let array = below (free + 2 + temporaries e) _ a (omega (arith, fits)) (omega (arith, room)) h.2.0 in
        (two, (one, target, array), ((one, two), two))
    below free s (Call e (GetBoth c) (More a (More b es))) fits room h = absurd h.2.1
    below free s (Call e SetBoth es) fits room h =
        let args = all_below (free + 0 + temporaries e) (types.Class h.0 ∷ types.Boolean ∷ []) es (omega (arith, fits))
        (omega (arith, room)) h.3 in (
          below (free + 0) _ e (omega (arith, fits)) (omega (arith, room)) h.2,
          pair file slots k (free + 0 + temporaries e) es (types.Class h.0) types.Boolean h.3 args,
        )
    below free s (Call e CompareAndSet End) fits room h = absurd h.3
    below free s (Call e CompareAndSet (More a End)) fits room h = absurd h.3.1
    below free s (Call e CompareAndSet (More a (More b End))) fits room h = absurd h.3.1.1
    below free s (Call e CompareAndSet (More a (More b (More c End)))) fits room h = absurd h.3.1.1.1
    below free s (Call e CompareAndSet (More a (More b (More c (More d End))))) fits room h =
        let one : free < k = omega (arith, room) in
        let two : free + 1 < k = omega (arith, room) in
        let three : free + 2 < k = omega (arith, room) in
        let four : free + 3 < k = omega (arith, room) in
        let target = below (free + 4) _ e (omega (arith, fits)) (omega (arith, room)) h.2 in
        let args = all_below (free + 4 + temporaries e) (types.Class h.0 ∷ types.Class h.0 ∷ types.Boolean ∷
        types.Boolean ∷ []) (More a (More b (More c (More d End)))) (omega (arith, fits)) (omega (arith, room))
        h.3 in
        ((four, (three, (two, (one, target, args.0), args.1.0), args.1.1.0), args.1.1.1.0), (one, three), (two, four))
    below free s (Call e CompareAndSet (More a (More b (More c (More d (More f es)))))) fits room h = absurd h.3.1.1.1.1
    below free s (Call e Attempt es) fits room h =
        let all = all_below (free + 0 + temporaries e) (types.Class h.0 ∷ types.Boolean ∷ []) es (omega (arith, fits))
        (omega (arith, room)) h.3 in
        let args = pair file slots k (free + 0 + temporaries e) es (types.Class h.0) types.Boolean h.3 all in
        (below (free + 0) _ e (omega (arith, fits)) (omega (arith, room)) h.2, args.0, args.1)
    below free s (MakeObject c es) fits room h = all_below free _ es fits room h.4
    below free s MakeLock fits room h = tt
    below free s (MakeMarkable c es) fits room h = pair file slots k free es (types.Class c) types.Boolean h.1
        (all_below free (types.Class c ∷ types.Boolean ∷ []) es fits room h.1)
    below free s (MakeArray e) fits room h = below free _ e fits room h.1

    -- lowered arguments name only locals of their method
    pub all_below : (free : ℕ) (ts : List ValueType) (es : Expressions) →
        length slots ≤ free →
        free + all_temporaries es ≤ k →
        AreTyped file slots ts es →
        AreBelow k (all_lowered file.classes free es)
    all_below free [] End fits room h = tt
    all_below free [] (More e es) fits room h = absurd h
    all_below free (t ∷ ts) End fits room h = absurd h
    all_below free (t ∷ ts) (More e es) fits room h = (
      below free _ e fits (omega (arith, room)) h.0,
      all_below (free + temporaries e) ts es (omega (arith, fits))
          (omega (arith, room)) h.1,
    )
