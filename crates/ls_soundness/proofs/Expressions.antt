-- Each typed expression asks for actions of the right types, and its result has its sort.
use Rattle.std.proofs.Common.{◌≡◌, ◌≢◌, ℕ, true, false, List, [], ◌∷◌, Some, refl, sym, subst}
use Rattle.std.specs.Prelude.{neg_ℤ, not, slice_index_or, slice_get}
use Rattle.std.proofs.lemmas.Int.{SFits-int_wrap}
use mir.Syntax.{w32}
use Rattle.ls_events.specs.declared.action.Action.TheVariants as act
use Rattle.ls_events.specs.declared.value.Value.{Value}
use Rattle.ls_events.specs.declared.value.Value.TheVariants as values
use Rattle.ls_events.specs.declared.value.ValueType.{ValueType}
use Rattle.ls_events.specs.declared.value.ValueType.TheVariants as types
use Rattle.ls_checked.specs.declared.tree.Called.{Called}
use Rattle.ls_checked.specs.declared.tree.Called.TheVariants.{Method as OfMethod, LockIt, UnlockIt, TryIt, AskIt}
use Rattle.ls_checked.specs.declared.tree.Called.TheVariants.{HoldMonitor, FreeMonitor, GetReference, IsMarked, GetBoth}
use Rattle.ls_checked.specs.declared.tree.Called.TheVariants.{SetBoth, CompareAndSet, Attempt}
use Rattle.ls_checked.specs.CheckedTree.{File, Method, Expression, Literal, Slot, Field, Item, Negate, Not, Binary, And}
use Rattle.ls_checked.specs.CheckedTree.{Or, Call, MakeObject, MakeLock, MakeMarkable, MakeArray, Expressions, End}
use Rattle.ls_checked.specs.CheckedTree.{More}
use Rattle.ls_meaning.specs.declared.sort.Sort.{Sort}
use Rattle.ls_meaning.specs.declared.sort.Sort.TheVariants.{NoValue, ValueOf, NewOf}
use Rattle.ls_meaning.specs.Values.{int_of, truth_of, reference_of, wrapped, nothing}
use Rattle.ls_meaning.specs.Expressions.{Calls, call, evaluate, arguments, constructor_of}
use Rattle.ls_types_judgement.specs.Sorts.{HasType, HasSort, HaveTypes}
use Rattle.ls_types_judgement.specs.Typing.{IsTyped, AreTyped, result_type, answer_sort, parameters_of}
use Rattle.ls_soundness.proofs.Values.{reference_has, literal_sort}
use Rattle.ls_soundness.proofs.Ways.{Way, Good, results_good, then_good, weaken, ask_good, either_good, null_good}
use Rattle.ls_soundness.proofs.Ways.{resort}
use Rattle.ls_soundness.proofs.Calls.{operate_good, array_good, field_good, lock_good, unlock_good, hold_good}
use Rattle.ls_soundness.proofs.Calls.{free_good, try_good, held_good, reference_good, marked_good, both_good, set_good}
use Rattle.ls_soundness.proofs.Calls.{swap_good, attempt_good, markable_good}
use Rattle.ls_soundness.proofs.Locals.{Locals}

-- a call of a method, with `this` and arguments of the right types
abbrev pub CallsGood : (P : ℕ → ValueType → Type 0) (file : File) → Way P file → Calls → Type 0
CallsGood P file w calls = (n : ℕ) (m : Method) (o : Value) (vs : List Value) → slice_get file.methods n ≡ Some m →
    HasType P o (types.Class m.class) → HaveTypes P (parameters_of m) vs →
    Good P file w (HasSort P (answer_sort m.result)) (λ q. calls n (o ∷ vs) q)

module _ (P : ℕ → ValueType → Type 0) (null : (n : ℕ) (t : ValueType) → n ≡ 0 → P n t) (file : File) (w : Way P file)
    (calls : Calls) (called : CallsGood P file w calls) (slots : List ValueType) where
  -- the results of an expression have the sort, and it asks on things of the right types
  abbrev pub Evaluates : Sort → Expression → List Value → Type 0
  Evaluates s e ls = Good P file w (HasSort P s) (λ q. evaluate file.classes calls e ls q)

  -- the target, the arguments, and what is called
  abbrev Called_on : Sort → Called → ValueType → List ValueType → Type 0
  Called_on s c t ts = (o : Value) (vs : List Value) → HasType P o t → HaveTypes P ts vs → reference_of o ≢ 0 →
      Good P file w (HasSort P s) (λ q. call calls c o vs q)

  call_good : (s : Sort) (c : Called) (t : ValueType) (ts : List ValueType) (e : Expression) (es : Expressions)
      (ls : List Value) →
      Called_on s c t ts →
      Evaluates (ValueOf t) e ls → Good P file w (HaveTypes P ts) (λ q. arguments file.classes calls es ls q) →
      Evaluates s (Call e c es) ls
  call_good s c t ts e es ls f a b =
      then_good P file w _ _ _ _ a (λ o ho.
      then_good P file w _ _ _ _ b (λ vs hvs.
      null_good P file w _ (reference_of o) (λ q. call calls c o vs q) (λ ne. f o vs ho hvs ne)))

  made_good : (c : ℕ) (m : Method) (es : Expressions) (ls : List Value) →
      slice_get file.methods (constructor_of file.classes c) ≡ Some m →
      m.class ≡ c →
      Good P file w (HaveTypes P (parameters_of m)) (λ q. arguments file.classes calls es ls q) →
      Evaluates (ValueOf (types.Class c)) (MakeObject c es) ls
  made_good c m es ls found own a =
      then_good P file w _ _ _ _ (ask_good P file w (act.New c) (NewOf (types.Class c)) tt
      (constructor_of file.classes c, m, found, own, refl)) (λ o ho.
      then_good P file w _ _ _ _ a (λ vs hvs.
      then_good P file w _ _ _ _ (called (constructor_of file.classes c) m o vs found
      (subst (λ z. HasType P o (types.Class z)) (sym own) ho.1) hvs) (λ u hu.
      results_good P file w _ o ho.1)))

  mutual
    -- each typed expression does that
    pub good_of : (e : Expression) (s : Sort) (ls : List Value) →
        IsTyped file slots s e →
        Locals P slots ls →
        Evaluates s e ls
    good_of (Literal v) s ls t h = results_good P file w _ v (literal_sort P null v s t)
    good_of (Slot n) s ls t h = resort P file w s (ValueOf t.0) _ t.1
        (results_good P file w _ (slice_index_or ls n nothing) (h.typed n t.0 t.2))
    good_of (Field e c f) s ls t h = resort P file w s (ValueOf t.0) _ t.1 (
        then_good P file w _ _ _ _ (good_of e (ValueOf (types.Class c)) ls t.3 h) (λ o ho.
        null_good P file w _ (reference_of o) _ (λ ne. field_good P file w c f t.0 o t.2 ho ne)))
    good_of (Item a i) s ls t h = resort P file w s (ValueOf types.Boolean) _ t.0 (
        then_good P file w _ _ _ _ (good_of a (ValueOf types.BooleanArray) ls t.1 h) (λ o ho.
        then_good P file w _ _ _ _ (good_of i (ValueOf types.Int) ls t.2 h) (λ n hn.
        null_good P file w _ (reference_of o) _ (λ ne.
        ask_good P file w (act.ReadItem (reference_of o) (int_of n)) (ValueOf types.Boolean) tt
        ((ne, reference_has P o types.BooleanArray tt ho), refl)))))
    good_of (Negate e) s ls t h = resort P file w s (ValueOf types.Int) _ t.0 (
        then_good P file w _ _ _ _ (good_of e (ValueOf types.Int) ls t.1 h)
        (λ v hv. results_good P file w _ (wrapped (neg_ℤ (int_of v))) (SFits-int_wrap w32 _)))
    good_of (Not e) s ls t h = resort P file w s (ValueOf types.Boolean) _ t.0 (
        then_good P file w _ _ _ _ (good_of e (ValueOf types.Boolean) ls t.1 h)
        (λ v hv. results_good P file w _ (values.Boolean (not (truth_of v))) tt))
    good_of (Binary op a b) s ls t h = resort P file w s (ValueOf (result_type op)) _ t.1 (
        then_good P file w _ _ _ _ (good_of a (ValueOf t.0) ls t.3 h) (λ x hx.
        then_good P file w _ _ _ _ (good_of b (ValueOf t.0) ls t.4 h) (λ y hy. operate_good P file w op x y)))
    good_of (And a b) s ls t h = resort P file w s (ValueOf types.Boolean) _ t.0 (
        then_good P file w _ _ _ _ (good_of a (ValueOf types.Boolean) ls t.1 h) (λ x hx.
        either_good P file w _ (truth_of x) _ _ (λ e. good_of b (ValueOf types.Boolean) ls t.2 h)
        (λ e. results_good P file w _ (values.Boolean false) tt)))
    good_of (Or a b) s ls t h = resort P file w s (ValueOf types.Boolean) _ t.0 (
        then_good P file w _ _ _ _ (good_of a (ValueOf types.Boolean) ls t.1 h) (λ x hx.
        either_good P file w _ (truth_of x) _ _ (λ e. results_good P file w _ (values.Boolean true) tt)
        (λ e. good_of b (ValueOf types.Boolean) ls t.2 h)))
    good_of (Call e (OfMethod n) es) s ls t h = resort P file w s (answer_sort t.0.result) _ t.2 (
        call_good (answer_sort t.0.result) (OfMethod n) (types.Class t.0.class) (parameters_of t.0) e es ls
        (λ o vs ho hvs ne. called n t.0 o vs t.1 ho hvs)
        (good_of e (ValueOf (types.Class t.0.class)) ls t.3 h) (all_good es (parameters_of t.0) ls t.4 h))
    good_of (Call e LockIt es) s ls t h = resort P file w s NoValue _ t.0 (
        call_good NoValue LockIt types.Lock [] e es ls (λ o vs ho hvs ne. lock_good P file w o ho ne)
        (good_of e (ValueOf types.Lock) ls t.1 h) (all_good es [] ls t.2 h))
    good_of (Call e UnlockIt es) s ls t h = resort P file w s NoValue _ t.0 (
        call_good NoValue UnlockIt types.Lock [] e es ls (λ o vs ho hvs ne. unlock_good P file w o ho ne)
        (good_of e (ValueOf types.Lock) ls t.1 h) (all_good es [] ls t.2 h))
    good_of (Call e (HoldMonitor c) es) s ls t h = resort P file w s NoValue _ t.0 (
        call_good NoValue (HoldMonitor c) (types.Class c) [] e es ls (λ o vs ho hvs ne. hold_good P file w c o ho ne)
        (good_of e (ValueOf (types.Class c)) ls t.1 h) (all_good es [] ls t.2 h))
    good_of (Call e (FreeMonitor c) es) s ls t h = resort P file w s NoValue _ t.0 (
        call_good NoValue (FreeMonitor c) (types.Class c) [] e es ls (λ o vs ho hvs ne. free_good P file w c o ho ne)
        (good_of e (ValueOf (types.Class c)) ls t.1 h) (all_good es [] ls t.2 h))
    good_of (Call e TryIt es) s ls t h = resort P file w s (ValueOf types.Boolean) _ t.0 (
        call_good (ValueOf types.Boolean) TryIt types.Lock [] e es ls (λ o vs ho hvs ne. try_good P file w o ho ne)
        (good_of e (ValueOf types.Lock) ls t.1 h) (all_good es [] ls t.2 h))
    good_of (Call e AskIt es) s ls t h = resort P file w s (ValueOf types.Boolean) _ t.0 (
        call_good (ValueOf types.Boolean) AskIt types.Lock [] e es ls (λ o vs ho hvs ne. held_good P file w o ho ne)
        (good_of e (ValueOf types.Lock) ls t.1 h) (all_good es [] ls t.2 h))
    good_of (Call e (GetReference c) es) s ls t h = resort P file w s (ValueOf (types.Class c)) _ t.0 (
        call_good (ValueOf (types.Class c)) (GetReference c) (types.Markable c) [] e es ls
        (λ o vs ho hvs ne. reference_good P file w c o ho ne calls vs)
        (good_of e (ValueOf (types.Markable c)) ls t.1 h) (all_good es [] ls t.2 h))
    good_of (Call e (IsMarked c) es) s ls t h = resort P file w s (ValueOf types.Boolean) _ t.0 (
        call_good (ValueOf types.Boolean) (IsMarked c) (types.Markable c) [] e es ls
        (λ o vs ho hvs ne. marked_good P file w c o ho ne calls vs)
        (good_of e (ValueOf (types.Markable c)) ls t.1 h) (all_good es [] ls t.2 h))
    good_of (Call e (GetBoth c) es) s ls t h = resort P file w s (ValueOf (types.Class c)) _ t.0 (
        call_good (ValueOf (types.Class c)) (GetBoth c) (types.Markable c) (types.BooleanArray ∷ []) e es ls
        (λ o vs ho hvs ne. both_good P file w c o ho ne calls vs hvs)
        (good_of e (ValueOf (types.Markable c)) ls t.1 h) (all_good es (types.BooleanArray ∷ []) ls t.2 h))
    good_of (Call e SetBoth es) s ls t h = resort P file w s NoValue _ t.1 (
        call_good NoValue SetBoth (types.Markable t.0) (types.Class t.0 ∷ types.Boolean ∷ []) e es ls
        (λ o vs ho hvs ne. set_good P file w t.0 o ho ne calls vs hvs)
        (good_of e (ValueOf (types.Markable t.0)) ls t.2 h) (all_good es (types.Class t.0 ∷ types.Boolean ∷ []) ls t.3
        h))
    good_of (Call e CompareAndSet es) s ls t h = resort P file w s (ValueOf types.Boolean) _ t.1 (
        call_good (ValueOf types.Boolean) CompareAndSet (types.Markable t.0)
        (types.Class t.0 ∷ types.Class t.0 ∷ types.Boolean ∷ types.Boolean ∷ []) e es ls
        (λ o vs ho hvs ne. swap_good P file w t.0 o ho ne calls vs hvs)
        (good_of e (ValueOf (types.Markable t.0)) ls t.2 h) (all_good es
        (types.Class t.0 ∷ types.Class t.0 ∷ types.Boolean ∷ types.Boolean ∷ []) ls t.3 h))
    good_of (Call e Attempt es) s ls t h = resort P file w s (ValueOf types.Boolean) _ t.1 (
        call_good (ValueOf types.Boolean) Attempt (types.Markable t.0) (types.Class t.0 ∷ types.Boolean ∷ []) e es ls
        (λ o vs ho hvs ne. attempt_good P file w t.0 o ho ne calls vs hvs)
        (good_of e (ValueOf (types.Markable t.0)) ls t.2 h) (all_good es (types.Class t.0 ∷ types.Boolean ∷ []) ls t.3
        h))
    good_of (MakeObject c es) s ls t h = resort P file w s (ValueOf (types.Class c)) _ t.2
        (made_good c t.0 es ls t.1 t.3 (all_good es (parameters_of t.0) ls t.4 h))
    good_of MakeLock s ls t h = resort P file w s (ValueOf types.Lock) _ t
        (weaken P file w (HasSort P (NewOf types.Lock)) _ _ (λ v h. h.1)
        (ask_good P file w act.NewLock (NewOf types.Lock) tt refl))
    good_of (MakeMarkable c es) s ls t h = resort P file w s (ValueOf (types.Markable c)) _ t.0 (
        then_good P file w _ _ _ _ (all_good es (types.Class c ∷ types.Boolean ∷ []) ls t.1 h)
        (λ vs hvs. markable_good P file w c vs hvs))
    good_of (MakeArray e) s ls t h = resort P file w s (ValueOf types.BooleanArray) _ t.0 (
        then_good P file w _ _ _ _ (good_of e (ValueOf types.Int) ls t.1 h) (λ n hn. array_good P file w (int_of n)))

    pub all_good : (es : Expressions) (ts : List ValueType) (ls : List Value) →
        AreTyped file slots ts es →
        Locals P slots ls →
        Good P file w (HaveTypes P ts) (λ q. arguments file.classes calls es ls q)
    all_good End [] ls t h = results_good P file w (HaveTypes P []) [] tt
    all_good (More e es) (u ∷ ts) ls t h =
        then_good P file w _ _ _ _ (good_of e (ValueOf u) ls t.0 h) (λ v hv.
        then_good P file w _ _ _ _ (all_good es ts ls t.1 h)
        (λ vs hvs. results_good P file w (HaveTypes P (u ∷ ts)) (v ∷ vs) (hv, hvs)))
    all_good End (u ∷ ts) ls t h = absurd t
    all_good (More e es) [] ls t h = absurd t
