-- The constants of typed files and programs name no object.
use Rattle.std.proofs.Common.{◌≡◌, ℕ, suc, List, [], ◌∷◌, Option, Some, refl}
use Rattle.std.specs.Prelude.{slice_get}
use Rattle.ls_events.specs.declared.value.Value.{Value}
use Rattle.ls_events.specs.declared.value.Value.TheVariants.{Int, Boolean, Reference, Pair}
use Rattle.ls_events.specs.declared.value.ValueType.{ValueType}
use Rattle.ls_events.specs.declared.value.ValueType.TheVariants as types
use Rattle.ls_checked.specs.declared.tree.Called.TheVariants.{Method as OfMethod, LockIt, UnlockIt, TryIt, AskIt}
use Rattle.ls_checked.specs.declared.tree.Called.TheVariants.{HoldMonitor, FreeMonitor, GetReference, IsMarked, GetBoth}
use Rattle.ls_checked.specs.declared.tree.Called.TheVariants.{SetBoth, CompareAndSet, Attempt}
use Rattle.ls_checked.specs.CheckedTree.{File, Expression, Literal, Slot, Field, Item, Negate, Not, Binary, And, Or}
use Rattle.ls_checked.specs.CheckedTree.{Call, MakeObject, MakeLock, MakeMarkable, MakeArray, Expressions, End, More}
use Rattle.ls_checked.specs.CheckedTree.{Statement, Block, SetSlot, SetField, AddField, SetItem, Evaluate, If, While}
use Rattle.ls_checked.specs.CheckedTree.{Break, Continue, ReturnNothing, ReturnValue, Try, Statements, Done, Then}
use Rattle.ls_checked.specs.CheckedProgram.{Program, ProgramCall, Making, Calling}
use Rattle.ls_meaning.specs.declared.sort.Sort.{Sort}
use Rattle.ls_meaning.specs.declared.sort.Sort.TheVariants.{NoValue, ValueOf, NewOf, PairOf}
use Rattle.ls_meaning.specs.Constants.{IsConstant, HasConstants, HaveConstants, UsesConstants, UseConstants}
use Rattle.ls_meaning.specs.Constants.{FileHasConstants, AllConstant, CallHasConstants, CallsHaveConstants}
use Rattle.ls_meaning.specs.Constants.{ProgramHasConstants}
use Rattle.ls_types_judgement.specs.Sorts.{HasType, HasSort}
use Rattle.ls_types_judgement.specs.Typing.{IsTyped, AreTyped, IsTypedStatement, AreTypedStatements, IsTypedFile}
use Rattle.ls_types_judgement.specs.Typing.{parameters_of}
use Rattle.ls_types_laws.proofs.Pairs.{IsNoPair, EvaluatesNoPair, EvaluateNoPair, HasNoPairs}
use Rattle.ls_types_judgement.specs.Programs.{IsArgument, AreArguments, IsTypedCall, IsTypedProgram}

-- a literal whose reference is null
of_type : (v : Value) (t : ValueType) → HasType (λ n t. n ≡ 0) v t → IsConstant v
of_type (Int z) t h = tt
of_type (Boolean b) t h = tt
of_type (Reference n) types.BooleanArray h = h
of_type (Reference n) (types.Class c) h = h
of_type (Reference n) types.Lock h = h
of_type (Reference n) (types.Markable c) h = h
of_type (Reference n) types.Int h = absurd h
of_type (Reference n) types.Boolean h = absurd h
of_type (Pair n b) types.Int h = absurd h
of_type (Pair n b) types.Boolean h = absurd h
of_type (Pair n b) types.BooleanArray h = absurd h
of_type (Pair n b) (types.Class c) h = absurd h
of_type (Pair n b) types.Lock h = absurd h
of_type (Pair n b) (types.Markable c) h = absurd h

of_sort : (v : Value) (s : Sort) → IsNoPair (Literal v) → HasSort (λ n t. n ≡ 0) s v → IsConstant v
of_sort v (ValueOf t) p h = of_type v t h
of_sort v (NewOf t) p h = of_type v t h.1
of_sort (Int z) NoValue p h = tt
of_sort (Boolean b) NoValue p h = tt
of_sort (Reference n) NoValue p h = h
of_sort (Pair n b) NoValue p h = absurd p
of_sort (Int z) (PairOf c) p h = tt
of_sort (Boolean b) (PairOf c) p h = tt
of_sort (Reference n) (PairOf c) p h = absurd h
of_sort (Pair n b) (PairOf c) p h = absurd p

module _ (file : File) (slots : List ValueType) where
  no_pair : (e : Expression) (t : ValueType) → IsTyped file slots (ValueOf t) e → IsNoPair e
  no_pair (Literal (Int z)) t h = tt
  no_pair (Literal (Boolean b)) t h = tt
  no_pair (Literal (Reference n)) t h = tt
  no_pair (Literal (Pair n b)) t h = of_type (Pair n b) t h
  no_pair (Slot n) t h = tt
  no_pair (Field e c f) t h = tt
  no_pair (Item a i) t h = tt
  no_pair (Negate e) t h = tt
  no_pair (Not e) t h = tt
  no_pair (Binary op a b) t h = tt
  no_pair (And a b) t h = tt
  no_pair (Or a b) t h = tt
  no_pair (Call e m es) t h = tt
  no_pair (MakeObject c es) t h = tt
  no_pair MakeLock t h = tt
  no_pair (MakeMarkable c es) t h = tt
  no_pair (MakeArray e) t h = tt

  mutual
    constants : (e : Expression) (s : Sort) → IsNoPair e → IsTyped file slots s e → HasConstants e
    constants (Literal v) s p h = of_sort v s p h
    constants (Slot n) s p h = tt
    constants (Field e c f) s p h = constants e (ValueOf (types.Class c)) (no_pair e (types.Class c) h.3) h.3
    constants (Item a i) s p h = (
      constants a (ValueOf types.BooleanArray) (no_pair a types.BooleanArray h.1) h.1,
      constants i (ValueOf types.Int) (no_pair i types.Int h.2) h.2,
    )
    constants (Negate e) s p h = constants e (ValueOf types.Int) (no_pair e types.Int h.1) h.1
    constants (Not e) s p h = constants e (ValueOf types.Boolean) (no_pair e types.Boolean h.1) h.1
    constants (Binary op a b) s p h = (
      constants a (ValueOf h.0) (no_pair a h.0 h.3) h.3,
      constants b (ValueOf h.0) (no_pair b h.0 h.4) h.4,
    )
    constants (And a b) s p h = (
      constants a (ValueOf types.Boolean) (no_pair a types.Boolean h.1) h.1,
      constants b (ValueOf types.Boolean) (no_pair b types.Boolean h.2) h.2,
    )
    constants (Or a b) s p h = (
      constants a (ValueOf types.Boolean) (no_pair a types.Boolean h.1) h.1,
      constants b (ValueOf types.Boolean) (no_pair b types.Boolean h.2) h.2,
    )
    constants (Call e (OfMethod n) es) s p h = (
      constants e (ValueOf (types.Class h.0.class))
          (no_pair e (types.Class h.0.class) h.3) h.3,
      all_constants es (parameters_of h.0) h.4,
    )
    constants (Call e LockIt es) s p h = (
      constants e (ValueOf types.Lock) (no_pair e types.Lock h.1) h.1,
      all_constants es [] h.2,
    )
    constants (Call e UnlockIt es) s p h = (
      constants e (ValueOf types.Lock) (no_pair e types.Lock h.1) h.1,
      all_constants es [] h.2,
    )
    constants (Call e TryIt es) s p h = (
      constants e (ValueOf types.Lock) (no_pair e types.Lock h.1) h.1,
      all_constants es [] h.2,
    )
    constants (Call e AskIt es) s p h = (
      constants e (ValueOf types.Lock) (no_pair e types.Lock h.1) h.1,
      all_constants es [] h.2,
    )
    constants (Call e (HoldMonitor c) es) s p h = (
      constants e (ValueOf (types.Class c)) (no_pair e (types.Class c) h.1)
          h.1,
      all_constants es [] h.2,
    )
    constants (Call e (FreeMonitor c) es) s p h = (
      constants e (ValueOf (types.Class c)) (no_pair e (types.Class c) h.1)
          h.1,
      all_constants es [] h.2,
    )
    constants (Call e (GetReference c) es) s p h = (
      constants e (ValueOf (types.Markable c))
          (no_pair e (types.Markable c) h.1) h.1,
      all_constants es [] h.2,
    )
    constants (Call e (IsMarked c) es) s p h = (
      constants e (ValueOf (types.Markable c))
          (no_pair e (types.Markable c) h.1) h.1,
      all_constants es [] h.2,
    )
    constants (Call e (GetBoth c) es) s p h = (
      constants e (ValueOf (types.Markable c))
          (no_pair e (types.Markable c) h.1) h.1,
      all_constants es (types.BooleanArray ∷ []) h.2,
    )
    constants (Call e SetBoth es) s p h = (
      constants e (ValueOf (types.Markable h.0))
          (no_pair e (types.Markable h.0) h.2) h.2,
      all_constants es (types.Class h.0 ∷ types.Boolean ∷ []) h.3,
    )
    constants (Call e CompareAndSet es) s p h = (
      constants e (ValueOf (types.Markable h.0))
          (no_pair e (types.Markable h.0) h.2) h.2,
      all_constants es
          (types.Class h.0 ∷ types.Class h.0 ∷ types.Boolean ∷ types.Boolean ∷ []) h.3,
    )
    constants (Call e Attempt es) s p h = (
      constants e (ValueOf (types.Markable h.0))
          (no_pair e (types.Markable h.0) h.2) h.2,
      all_constants es (types.Class h.0 ∷ types.Boolean ∷ []) h.3,
    )
    constants (MakeObject c es) s p h = all_constants es (parameters_of h.0) h.4
    constants MakeLock s p h = tt
    constants (MakeMarkable c es) s p h = all_constants es (types.Class c ∷ types.Boolean ∷ []) h.1
    constants (MakeArray e) s p h = constants e (ValueOf types.Int) (no_pair e types.Int h.1) h.1

    all_constants : (es : Expressions) (ts : List ValueType) → AreTyped file slots ts es → HaveConstants es
    all_constants End ts h = tt
    all_constants (More e es) (t ∷ ts) h = (constants e (ValueOf t) (no_pair e t h.0) h.0, all_constants es ts h.1)
    all_constants (More e es) [] h = absurd h

  value_constants : (e : Expression) (t : ValueType) → IsTyped file slots (ValueOf t) e → HasConstants e
  value_constants e t h = constants e (ValueOf t) (no_pair e t h) h

  module _ (r : Option ValueType) where
    mutual
      pub uses : (s : Statement) → EvaluatesNoPair s → IsTypedStatement file slots r s → UsesConstants s
      uses (Block ss) p h = use_all ss p h
      uses (SetSlot n e) p h = value_constants e h.0 h.2
      uses (SetField e f v) p h = (value_constants e (types.Class h.0) h.3, value_constants v h.1 h.4)
      uses (AddField e f v) p h = (value_constants e (types.Class h.0) h.2, value_constants v types.Int h.3)
      uses (SetItem a i v) p h = (
        value_constants a types.BooleanArray h.0,
        value_constants i types.Int h.1,
        value_constants v types.Boolean h.2,
      )
      uses (Evaluate e) p h = constants e h.0 p h.1
      uses (If e a b) p h = (value_constants e types.Boolean h.0, uses a p.0 h.1, uses b p.1 h.2)
      uses (While e s) p h = (value_constants e types.Boolean h.0, uses s p h.1)
      uses (Break n) p h = tt
      uses (Continue n) p h = tt
      uses ReturnNothing p h = tt
      uses (ReturnValue e) p h = value_constants e h.0 h.2
      uses (Try b f) p h = (uses b p.0 h.0, uses f p.1 h.1)

      pub use_all : (ss : Statements) → EvaluateNoPair ss → AreTypedStatements file slots r ss → UseConstants ss
      use_all Done p h = tt
      use_all (Then s ss) p h = (uses s p.0 h.0, use_all ss p.1 h.1)

-- a typed file without pairs has constants that name no object
pub of_file : (file : File) → IsTypedFile file → HasNoPairs file → FileHasConstants file
of_file file t p n m e = uses file m.slots m.result m.body (p n m e) ((t n m e).body)

argument_constant : (t : ValueType) (v : Value) → IsArgument t v → IsConstant v
argument_constant t (Int z) h = tt
argument_constant t (Boolean b) h = tt
argument_constant types.Int (Reference n) h = absurd h
argument_constant types.Boolean (Reference n) h = absurd h
argument_constant types.BooleanArray (Reference n) h = absurd h
argument_constant (types.Class c) (Reference n) h = absurd h
argument_constant types.Lock (Reference n) h = absurd h
argument_constant (types.Markable c) (Reference n) h = absurd h
argument_constant types.Int (Pair n b) h = h
argument_constant types.Boolean (Pair n b) h = h
argument_constant types.BooleanArray (Pair n b) h = h
argument_constant (types.Class c) (Pair n b) h = h
argument_constant types.Lock (Pair n b) h = h
argument_constant (types.Markable c) (Pair n b) h = h

arguments_constant : (ts : List ValueType) (vs : List Value) → AreArguments ts vs → AllConstant vs
arguments_constant ts [] h = tt
arguments_constant [] (v ∷ vs) h = absurd h
arguments_constant (t ∷ ts) (v ∷ vs) h = (argument_constant t v h.0, arguments_constant ts vs h.1)

module _ (file : File) (program : Program) where
  call_constant : (c : ProgramCall) → IsTypedCall file program c → CallHasConstants c
  call_constant (Making name c text vs) is = arguments_constant (parameters_of is.constructor) vs is.fit
  call_constant (Calling name m text r vs) is = arguments_constant (parameters_of is.called) vs is.fit

  calls_constant : (cs : List ProgramCall) →
      ((i : ℕ) (c : ProgramCall) → slice_get cs i ≡ Some c → IsTypedCall file program c) →
      CallsHaveConstants cs
  calls_constant [] typed = tt
  calls_constant (c ∷ cs) typed = (call_constant c (typed 0 c refl), calls_constant cs (λ i d e. typed (suc i) d e))

-- a typed program has constants that name no object
pub of_program : (file : File) (program : Program) → IsTypedProgram file program → ProgramHasConstants program
of_program file program typed n t e = calls_constant file program t.calls (λ i c is. typed n t i c e is)
