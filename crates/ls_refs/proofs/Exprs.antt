-- The words of each typed expression ask what it asks.
use Rattle.std.proofs.Common.{◌≡◌, ℕ, ◌+◌, ◌<◌, ◌^◌, Bool, true, false, cond, List, [], ◌∷◌, Some, refl, sym, ap, ◌∙◌}
use Rattle.std.proofs.Common.{subst, arith}
use Rattle.std.specs.Prelude.{pos, int_lt, nat_eq, slice_index_or, slice_get}
use Rattle.ls_events.specs.declared.kind.Kind.TheVariants.{NegativeArraySize}
use Rattle.ls_events.specs.declared.action.Action.TheVariants as act
use Rattle.ls_events.specs.declared.value.Value.{Value}
use Rattle.ls_events.specs.declared.value.Value.TheVariants as values
use Rattle.ls_events.specs.declared.value.ValueType.{ValueType}
use Rattle.ls_events.specs.declared.value.ValueType.TheVariants as types
use Rattle.ls_checked.specs.declared.tree.Called.TheVariants.{Method as OfMethod, LockIt, UnlockIt, TryIt, AskIt}
use Rattle.ls_checked.specs.declared.tree.Called.TheVariants.{HoldMonitor, FreeMonitor, GetReference, IsMarked, GetBoth}
use Rattle.ls_checked.specs.declared.tree.Called.TheVariants.{SetBoth, CompareAndSet, Attempt}
use Rattle.ls_checked.specs.CheckedTree.{File, Method, Expression, Literal, Slot, Field, Item, Negate, Not, Binary, And}
use Rattle.ls_checked.specs.CheckedTree.{Or, Call, MakeObject, MakeLock, MakeMarkable, MakeArray, Expressions, End}
use Rattle.ls_checked.specs.CheckedTree.{More}
use Rattle.ls_meaning.specs.declared.sort.Sort.{Sort}
use Rattle.ls_meaning.specs.declared.sort.Sort.TheVariants.{NoValue, ValueOf, NewOf, PairOf}
use Rattle.ls_meaning.specs.Values.{int_of, truth_of, reference_of, pair_of, nothing}
use Rattle.ls_meaning.specs.Course.{Answers, Evaluated, Throws, ask}
use Rattle.ls_meaning.specs.Expressions.{Calls, constructor_of}
use Rattle.ls_lowered.specs.Words as words
use Rattle.ls_lowered.specs.Course as low
use Rattle.ls_refs.specs.ValueWords.{value_word}
use Rattle.ls_types_judgement.specs.Sorts.{HasType, HasSort}
use Rattle.ls_types_judgement.specs.Typing.{IsTyped, AreTyped, result_type, answer_sort, parameters_of}
use Rattle.ls_refs.specs.Temporaries.{temporaries}
use Rattle.ls_refs.proofs.Numbers.{int_back}
use Rattle.ls_refs.proofs.Values.{reference_word, truth_word, int_word, int_fits, new_word}
use Rattle.ls_refs.proofs.Sim.{Agrees, gets_agrees, throws_agrees, then_agrees, ask_agrees, null_agrees}
use Rattle.ls_refs.proofs.Sim.{not_null_agrees, weaken}
use Rattle.ls_refs.proofs.Operations.{operate_agrees, negate_agrees, not_agrees}
use Rattle.ls_refs.proofs.Good.{holds_kept, get_within, CallsAgree, Good, Each, all_agree}
use Rattle.ls_refs.proofs.CallForms.{method_agrees, lock_agrees, unlock_agrees, hold_agrees, free_agrees, try_agrees}
use Rattle.ls_refs.proofs.CallForms.{held_agrees, reference_agrees, marked_agrees, set_agrees, attempt_agrees}
use Rattle.ls_refs.proofs.CallForms.{pair_arguments}
use Rattle.ls_refs.proofs.MarkForms.{both_agrees, swap_agrees}

module _ (P : ℕ → ValueType → Type 0) (null : (n : ℕ) (t : ValueType) → n ≡ 0 → P n t)
    (small : (n : ℕ) (t : ValueType) → P n t → n < 2 ^ 32) where
  literal_type : (v : Value) (t : ValueType) → HasType (λ n t. n ≡ 0) v t → HasType P v t
  literal_type (values.Int z) types.Int h = h
  literal_type (values.Boolean b) types.Boolean h = tt
  literal_type (values.Reference n) types.BooleanArray h = null n types.BooleanArray h
  literal_type (values.Reference n) (types.Class c) h = null n (types.Class c) h
  literal_type (values.Reference n) types.Lock h = null n types.Lock h
  literal_type (values.Reference n) (types.Markable c) h = null n (types.Markable c) h
  literal_type (values.Int z) types.Boolean h = absurd h
  literal_type (values.Int z) types.BooleanArray h = absurd h
  literal_type (values.Int z) (types.Class c) h = absurd h
  literal_type (values.Int z) types.Lock h = absurd h
  literal_type (values.Int z) (types.Markable c) h = absurd h
  literal_type (values.Boolean b) types.Int h = absurd h
  literal_type (values.Boolean b) types.BooleanArray h = absurd h
  literal_type (values.Boolean b) (types.Class c) h = absurd h
  literal_type (values.Boolean b) types.Lock h = absurd h
  literal_type (values.Boolean b) (types.Markable c) h = absurd h
  literal_type (values.Reference n) types.Int h = absurd h
  literal_type (values.Reference n) types.Boolean h = absurd h
  literal_type (values.Pair n b) types.Int h = absurd h
  literal_type (values.Pair n b) types.Boolean h = absurd h
  literal_type (values.Pair n b) types.BooleanArray h = absurd h
  literal_type (values.Pair n b) (types.Class c) h = absurd h
  literal_type (values.Pair n b) types.Lock h = absurd h
  literal_type (values.Pair n b) (types.Markable c) h = absurd h

  literal_sort : (v : Value) (s : Sort) → HasSort (λ n t. n ≡ 0) s v → HasSort P s v
  literal_sort v NoValue h = h
  literal_sort v (ValueOf t) h = literal_type v t h
  literal_sort v (NewOf t) h = (h.0, literal_type v t h.1)
  literal_sort (values.Pair n b) (PairOf c) h = null n (types.Class c) h
  literal_sort (values.Int z) (PairOf c) h = absurd h
  literal_sort (values.Boolean b) (PairOf c) h = absurd h
  literal_sort (values.Reference n) (PairOf c) h = absurd h

  choose : {A B : Type 0} (H : A → Type 0) (W : A → B) (base : ℕ) (old : List ℕ) (v : Value)
      (x y : Answers → Evaluated A) (x' y' : low.Answers → low.Course (low.Outcome B)) →
      HasType P v types.Boolean →
      Agrees P H W base old x x' →
      Agrees P H W base old y y' →
      Agrees P H W base old (λ q. cond (truth_of v) (x q) (y q)) (λ q. cond (nat_eq (value_word v) 0) (y' q) (x' q))
  choose H W base old v x y x' y' hv a b = subst (λ w. Agrees P H W base old (λ q. cond (truth_of v) (x q) (y q))
      (λ q. cond (nat_eq w 0) (y' q) (x' q))) (sym (truth_word P v hv)) (by_case (truth_of v))
    where
      by_case : (t : Bool) →
          Agrees P H W base old (λ q. cond t (x q) (y q)) (λ q. cond (nat_eq (words.bool_word t) 0) (y' q) (x' q))
      by_case true = a
      by_case false = b

  array_agrees : (base : ℕ) (old : List ℕ) (v : Value) → HasType P v types.Int →
      Agrees P (HasSort P (ValueOf types.BooleanArray)) value_word base old
      (λ q. cond (int_lt (int_of v) (pos 0)) (Throws NegativeArraySize q)
      (ask (act.NewArray (int_of v)) (NewOf types.BooleanArray) q))
      (λ q. cond (int_lt (words.int_of (value_word v)) (pos 0)) (low.Ends (low.Throws NegativeArraySize) old q)
      (low.ask (act.NewArray (words.int_of (value_word v))) old q))
  array_agrees base old v hv = subst (λ z. Agrees P (HasSort P (ValueOf types.BooleanArray)) value_word base old
      (λ q. cond (int_lt (int_of v) (pos 0)) (Throws NegativeArraySize q)
      (ask (act.NewArray (int_of v)) (NewOf types.BooleanArray) q))
      (λ q. cond (int_lt z (pos 0)) (low.Ends (low.Throws NegativeArraySize) old q) (low.ask (act.NewArray z) old q)))
      (sym (ap words.int_of (int_word P v hv) ∙ int_back (int_of v) (int_fits P v hv)))
      (by_case (int_lt (int_of v) (pos 0)))
    where
      by_case : (b : Bool) →
          Agrees P (HasSort P (ValueOf types.BooleanArray)) value_word base old
          (λ q. cond b (Throws NegativeArraySize q) (ask (act.NewArray (int_of v)) (NewOf types.BooleanArray) q))
          (λ q. cond b (low.Ends (low.Throws NegativeArraySize) old q) (low.ask (act.NewArray (int_of v)) old q))
      by_case true = throws_agrees P _ _ base old NegativeArraySize
      by_case false = weaken P (HasSort P (NewOf types.BooleanArray)) (HasSort P (ValueOf types.BooleanArray))
          value_word base old _ _ (λ w h. h.1) (ask_agrees P base old (act.NewArray (int_of v))
          (NewOf types.BooleanArray) (act.NewArray (int_of v)) refl)

  module _ (file : File) (calls : Calls) (calls' : low.Calls) (called : CallsAgree P file calls calls')
      (slots : List ValueType) where
    good_of : (s r : Sort) (e : Expression) →
        s ≡ r →
        Good P file calls calls' slots r e →
        Good P file calls calls' slots s e
    good_of s r e is g = subst (λ z. Good P file calls calls' slots z e) (sym is) g

    made_agrees : (c n : ℕ) (m : Method) (es : Expressions) →
        n ≡ constructor_of file.classes c →
        slice_get file.methods n ≡ Some m →
        m.class ≡ c →
        Each P file calls calls' slots (parameters_of m) es →
        Good P file calls calls' slots (ValueOf (types.Class c)) (MakeObject c es)
    made_agrees c n m es is found same each = record {
      good = λ base ls old h le room.
          then_agrees P _ _ _ _ base base base old _ _ _ _ (omega arith) (omega arith)
          (ask_agrees P base old (act.New c) (NewOf (types.Class c)) (act.New c) refl) (λ o l ho k.
          then_agrees P _ _ _ _ base base base l _ _ _ _ (omega arith) (omega arith)
          (all_agree P file calls calls' slots (parameters_of m) es base ls l each
          (holds_kept P slots ls base old l le k h) le (omega (arith, k.long))) (λ vs l2 hvs k2.
          not_null_agrees P _ _ base l2 (value_word o) _ _ (new_word P o ho.0) (
          then_agrees P _ _ _ _ base base base l2 _ _ _ _ (omega arith) (omega arith)
          (called base l2 (constructor_of file.classes c) m o vs
          (subst (λ z. slice_get file.methods z ≡ Some m) is found)
          (subst (λ z. HasType P o (types.Class z)) (sym same) ho.1) hvs) (λ u l3 hu k3.
          gets_agrees P (HasSort P (ValueOf (types.Class c))) value_word base l3 o (value_word o) ho.1 refl))));
    }

    -- calls with as many arguments as they need
    get_form : (e : Expression) (c : ℕ) (es : Expressions) →
        Good P file calls calls' slots (ValueOf (types.Markable c)) e →
        Each P file calls calls' slots (types.BooleanArray ∷ []) es →
        Good P file calls calls' slots (ValueOf (types.Class c)) (Call e (GetBoth c) es)
    get_form e c (More a End) g each = both_agrees P small file calls calls' slots c e a g each.0
    get_form e c End g each = absurd each
    get_form e c (More a (More b es)) g each = absurd each.1

    set_form : (e : Expression) (c : ℕ) (es : Expressions) →
        Good P file calls calls' slots (ValueOf (types.Markable c)) e →
        Each P file calls calls' slots (types.Class c ∷ types.Boolean ∷ []) es →
        Good P file calls calls' slots NoValue (Call e SetBoth es)
    set_form e c (More r (More m End)) g each = set_agrees P small file calls calls' called slots c e r m g each.0
        each.1.0
    set_form e c End g each = absurd each
    set_form e c (More r End) g each = absurd each.1
    set_form e c (More r (More m (More x es))) g each = absurd each.1.1

    attempt_form : (e : Expression) (c : ℕ) (es : Expressions) →
        Good P file calls calls' slots (ValueOf (types.Markable c)) e →
        Each P file calls calls' slots (types.Class c ∷ types.Boolean ∷ []) es →
        Good P file calls calls' slots (ValueOf types.Boolean) (Call e Attempt es)
    attempt_form e c (More r (More m End)) g each = attempt_agrees P small file calls calls' called slots c e r m g
        each.0 each.1.0
    attempt_form e c End g each = absurd each
    attempt_form e c (More r End) g each = absurd each.1
    attempt_form e c (More r (More m (More x es))) g each = absurd each.1.1

    swap_form : (e : Expression) (c : ℕ) (es : Expressions) →
        Good P file calls calls' slots (ValueOf (types.Markable c)) e →
        Each P file calls calls' slots (types.Class c ∷ types.Class c ∷ types.Boolean ∷ types.Boolean ∷ []) es →
        Good P file calls calls' slots (ValueOf types.Boolean) (Call e CompareAndSet es)
    swap_form e c (More a (More b (More m (More n End)))) g each = swap_agrees P small file calls calls' slots c e a b m
        n g each.0 each.1.0 each.1.1.0 each.1.1.1.0
    swap_form e c End g each = absurd each
    swap_form e c (More a End) g each = absurd each.1
    swap_form e c (More a (More b End)) g each = absurd each.1.1
    swap_form e c (More a (More b (More m End))) g each = absurd each.1.1.1
    swap_form e c (More a (More b (More m (More n (More x es))))) g each = absurd each.1.1.1.1

    markable_form : (c : ℕ) (es : Expressions) →
        Each P file calls calls' slots (types.Class c ∷ types.Boolean ∷ []) es →
        Good P file calls calls' slots (ValueOf (types.Markable c)) (MakeMarkable c es)
    markable_form c (More r (More m End)) each = record {
      good = λ base ls old h le room. pair_arguments P small file calls calls' called slots c r m each.0 each.1.0
          (HasSort P (ValueOf (types.Markable c))) base ls old _ _ h le (omega arith) (λ x y l hx hy.
          weaken P (HasSort P (NewOf (types.Markable c))) (HasSort P (ValueOf (types.Markable c))) value_word base l _ _
          (λ w h. h.1) (ask_agrees P base l (act.NewMarkable (pair_of x y)) (NewOf (types.Markable c))
          (act.NewMarkable (value_word (pair_of x y))) refl));
    }
    markable_form c End each = absurd each
    markable_form c (More r End) each = absurd each.1
    markable_form c (More r (More m (More x es))) each = absurd each.1.1

    mutual
      -- each typed expression asks and ends as its words do
      pub agrees : (e : Expression) (s : Sort) → IsTyped file slots s e → Good P file calls calls' slots s e
      agrees (Literal v) s t = record {
        good = λ base ls old h le room.
            gets_agrees P (HasSort P s) value_word base old v (value_word v) (literal_sort v s t) refl;
      }
      agrees (Slot n) s t = good_of s (ValueOf t.0) (Slot n) t.1
          (record {
            good = λ base ls old h le room. gets_agrees P (HasSort P (ValueOf t.0)) value_word base old
                (slice_index_or ls n nothing) _ (h.typed n t.0 t.2) (h.worded n (get_within slots n t.0 t.2));
          })
      agrees (Field e c f) s t = good_of s (ValueOf t.0) (Field e c f) t.1 (record {
        good = λ base ls old h le room.
            then_agrees P _ _ _ _ base base base old _ _ _ _ (omega arith) (omega arith)
            ((agrees e (ValueOf (types.Class c)) t.3).good base ls old h le room) (λ o l ho k.
            null_agrees P _ _ base l _ _ _ _ (reference_word P o (types.Class c) tt ho)
            (subst (λ z. Agrees P (HasSort P (ValueOf t.0)) value_word base l
            (λ q. ask (act.ReadField (reference_of o) f) z q)
            (λ q. low.ask (act.ReadField (value_word o) (f + 1)) l q)) (sym t.2)
            (ask_agrees P base l (act.ReadField (reference_of o) f) (ValueOf t.0) (act.ReadField (value_word o) (f + 1))
            (ap (λ n. act.ReadField n (f + 1)) (reference_word P o (types.Class c) tt ho)))));
      })
      agrees (Item a i) s t = good_of s (ValueOf types.Boolean) (Item a i) t.0 (record {
        good = λ base ls old h le room.
            let b = base + temporaries a in
            then_agrees P _ _ _ _ base base b old _ _ _ _ (omega arith) (omega arith)
            ((agrees a (ValueOf types.BooleanArray) t.1).good base ls old h le (omega arith)) (λ o l ho k.
            then_agrees P _ _ _ _ b b b l _ _ _ _ (omega arith) (omega arith)
            ((agrees i (ValueOf types.Int) t.2).good b ls l (holds_kept P slots ls base old l le k h) (omega arith)
            (omega (arith, k.long))) (λ n l2 hn k2.
            null_agrees P _ _ b l2 _ _ _ _ (reference_word P o types.BooleanArray tt ho)
            (ask_agrees P b l2 (act.ReadItem (reference_of o) (int_of n)) (ValueOf types.Boolean)
            (act.ReadItem (value_word o) (words.int_of (value_word n)))
            (ap (λ z. act.ReadItem z (words.int_of (value_word n))) (reference_word P o types.BooleanArray tt ho) ∙
            ap (λ z. act.ReadItem (reference_of o) z) (ap words.int_of (int_word P n hn) ∙
            int_back (int_of n) (int_fits P n hn))))));
      })
      agrees (Negate e) s t = good_of s (ValueOf types.Int) (Negate e) t.0 (record {
        good = λ base ls old h le room. then_agrees P _ _ _ _ base base base old _ _ _ _ (omega arith) (omega arith)
            ((agrees e (ValueOf types.Int) t.1).good base ls old h le room) (λ v l hv k. negate_agrees P v base l hv);
      })
      agrees (Not e) s t = good_of s (ValueOf types.Boolean) (Not e) t.0 (record {
        good = λ base ls old h le room. then_agrees P _ _ _ _ base base base old _ _ _ _ (omega arith) (omega arith)
            ((agrees e (ValueOf types.Boolean) t.1).good base ls old h le room) (λ v l hv k. not_agrees P v base l hv);
      })
      agrees (Binary op a b) s t = good_of s (ValueOf (result_type op)) (Binary op a b) t.1 (record {
        good = λ base ls old h le room.
            let c = base + temporaries a in
            then_agrees P _ _ _ _ base base c old _ _ _ _ (omega arith) (omega arith)
            ((agrees a (ValueOf t.0) t.3).good base ls old h le (omega arith)) (λ x l hx k.
            then_agrees P _ _ _ _ c c c l _ _ _ _ (omega arith) (omega arith)
            ((agrees b (ValueOf t.0) t.4).good c ls l (holds_kept P slots ls base old l le k h) (omega arith)
            (omega (arith, k.long))) (λ y l2 hy k2.
            operate_agrees P op t.0 x y c l2 t.2 hx hy));
      })
      agrees (And a b) s t = good_of s (ValueOf types.Boolean) (And a b) t.0 (record {
        good = λ base ls old h le room.
            let c = base + temporaries a in
            then_agrees P _ _ _ _ base base c old _ _ _ _ (omega arith) (omega arith)
            ((agrees a (ValueOf types.Boolean) t.1).good base ls old h le (omega arith)) (λ x l hx k.
            choose (HasSort P (ValueOf types.Boolean)) value_word c l x _ _ _ _ hx
            ((agrees b (ValueOf types.Boolean) t.2).good c ls l (holds_kept P slots ls base old l le k h)
            (omega arith) (omega (arith, k.long)))
            (gets_agrees P (HasSort P (ValueOf types.Boolean)) value_word c l (values.Boolean false) 0 tt refl));
      })
      agrees (Or a b) s t = good_of s (ValueOf types.Boolean) (Or a b) t.0 (record {
        good = λ base ls old h le room.
            let c = base + temporaries a in
            then_agrees P _ _ _ _ base base c old _ _ _ _ (omega arith) (omega arith)
            ((agrees a (ValueOf types.Boolean) t.1).good base ls old h le (omega arith)) (λ x l hx k.
            choose (HasSort P (ValueOf types.Boolean)) value_word c l x _ _ _ _ hx
            (gets_agrees P (HasSort P (ValueOf types.Boolean)) value_word c l (values.Boolean true) 1 tt refl)
            ((agrees b (ValueOf types.Boolean) t.2).good c ls l (holds_kept P slots ls base old l le k h) (omega arith)
            (omega (arith, k.long))));
      })
      agrees (Call e (OfMethod n) es) s t = good_of s (answer_sort t.0.result) (Call e (OfMethod n) es) t.2
          (method_agrees P small file calls calls' called slots n t.0 e es t.1
          (agrees e (ValueOf (types.Class t.0.class)) t.3) (each es (parameters_of t.0) t.4))
      agrees (Call e LockIt End) s t = good_of s NoValue (Call e LockIt End) t.0
          (lock_agrees P small file calls calls' called slots e (agrees e (ValueOf types.Lock) t.1))
      agrees (Call e UnlockIt End) s t = good_of s NoValue (Call e UnlockIt End) t.0
          (unlock_agrees P small file calls calls' called slots e (agrees e (ValueOf types.Lock) t.1))
      agrees (Call e TryIt End) s t = good_of s (ValueOf types.Boolean) (Call e TryIt End) t.0
          (try_agrees P small file calls calls' called slots e (agrees e (ValueOf types.Lock) t.1))
      agrees (Call e AskIt End) s t = good_of s (ValueOf types.Boolean) (Call e AskIt End) t.0
          (held_agrees P small file calls calls' called slots e (agrees e (ValueOf types.Lock) t.1))
      agrees (Call e (HoldMonitor c) End) s t = good_of s NoValue (Call e (HoldMonitor c) End) t.0
          (hold_agrees P small file calls calls' called slots c e (agrees e (ValueOf (types.Class c)) t.1))
      agrees (Call e (FreeMonitor c) End) s t = good_of s NoValue (Call e (FreeMonitor c) End) t.0
          (free_agrees P small file calls calls' called slots c e (agrees e (ValueOf (types.Class c)) t.1))
      agrees (Call e (GetReference c) End) s t = good_of s (ValueOf (types.Class c)) (Call e (GetReference c) End) t.0
          (reference_agrees P small file calls calls' called slots c e (agrees e (ValueOf (types.Markable c)) t.1))
      agrees (Call e (IsMarked c) End) s t = good_of s (ValueOf types.Boolean) (Call e (IsMarked c) End) t.0
          (marked_agrees P small file calls calls' called slots c e (agrees e (ValueOf (types.Markable c)) t.1))
      agrees (Call e LockIt (More a es)) s t = absurd t.2
      agrees (Call e UnlockIt (More a es)) s t = absurd t.2
      agrees (Call e TryIt (More a es)) s t = absurd t.2
      agrees (Call e AskIt (More a es)) s t = absurd t.2
      agrees (Call e (HoldMonitor c) (More a es)) s t = absurd t.2
      agrees (Call e (FreeMonitor c) (More a es)) s t = absurd t.2
      agrees (Call e (GetReference c) (More a es)) s t = absurd t.2
      agrees (Call e (IsMarked c) (More a es)) s t = absurd t.2
      agrees (Call e (GetBoth c) es) s t = good_of s (ValueOf (types.Class c)) (Call e (GetBoth c) es) t.0
          (get_form e c es (agrees e (ValueOf (types.Markable c)) t.1) (each es (types.BooleanArray ∷ []) t.2))
      agrees (Call e SetBoth es) s t = good_of s NoValue (Call e SetBoth es) t.1
          (set_form e t.0 es (agrees e (ValueOf (types.Markable t.0)) t.2)
          (each es (types.Class t.0 ∷ types.Boolean ∷ []) t.3))
      agrees (Call e CompareAndSet es) s t = good_of s (ValueOf types.Boolean) (Call e CompareAndSet es) t.1
          (swap_form e t.0 es (agrees e (ValueOf (types.Markable t.0)) t.2)
          (each es (types.Class t.0 ∷ types.Class t.0 ∷ types.Boolean ∷ types.Boolean ∷ []) t.3))
      agrees (Call e Attempt es) s t = good_of s (ValueOf types.Boolean) (Call e Attempt es) t.1
          (attempt_form e t.0 es (agrees e (ValueOf (types.Markable t.0)) t.2)
          (each es (types.Class t.0 ∷ types.Boolean ∷ []) t.3))
      agrees (MakeObject c es) s t = good_of s (ValueOf (types.Class c)) (MakeObject c es) t.2
          (made_agrees c (constructor_of file.classes c) t.0 es refl t.1 t.3 (each es (parameters_of t.0) t.4))
      agrees MakeLock s t = good_of s (ValueOf types.Lock) MakeLock t
          (record {
            good = λ base ls old h le room. weaken P (HasSort P (NewOf types.Lock))
                (HasSort P (ValueOf types.Lock)) value_word base old _ _ (λ w h. h.1)
                (ask_agrees P base old act.NewLock (NewOf types.Lock) act.NewLock refl);
          })
      agrees (MakeMarkable c es) s t = good_of s (ValueOf (types.Markable c)) (MakeMarkable c es) t.0
          (markable_form c es (each es (types.Class c ∷ types.Boolean ∷ []) t.1))
      agrees (MakeArray e) s t = good_of s (ValueOf types.BooleanArray) (MakeArray e) t.0 (record {
        good = λ base ls old h le room. then_agrees P _ _ _ _ base base base old _ _ _ _ (omega arith) (omega arith)
            ((agrees e (ValueOf types.Int) t.1).good base ls old h le room) (λ v l hv k. array_agrees base l v hv);
      })

      -- so does each of some typed arguments
      pub each : (es : Expressions) (ts : List ValueType) →
          AreTyped file slots ts es →
          Each P file calls calls' slots ts es
      each End [] t = tt
      each (More e es) (u ∷ ts) t = (agrees e (ValueOf u) t.0, each es ts t.1)
      each End (u ∷ ts) t = absurd t
      each (More e es) [] t = absurd t
