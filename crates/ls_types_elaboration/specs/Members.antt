-- What a call may name: a method of a class, an operation of a lock or of a markable, a constructor.
use Rattle.std.specs.Prelude.{ℕ, List, [], ◌∷◌, Option, Some, None, Ok, codes, bytes_eq, if◌then◌else◌}
use Rattle.ls_lexer.specs.declared.token.Span.{Span}
use Rattle.ls_events.specs.declared.value.ValueType.{ValueType}
use Rattle.ls_events.specs.declared.value.ValueType.TheVariants.{Boolean, BooleanArray, Class, Lock, Markable}
use Rattle.ls_checked.specs.declared.tree.Called.{Called}
use Rattle.ls_checked.specs.declared.tree.Called.TheVariants.{Method, LockIt, UnlockIt, TryIt, AskIt, GetReference}
use Rattle.ls_checked.specs.declared.tree.Called.TheVariants.{IsMarked, GetBoth, SetBoth, CompareAndSet, Attempt}
use Rattle.ls_checked.specs.CheckedTree as checked
use Rattle.ls_types_elaboration.specs.declared.rule.Rule.TheVariants.{UnknownName, UnknownType}
use Rattle.ls_types_elaboration.specs.declared.static_types.Static.{Static}
use Rattle.ls_types_elaboration.specs.declared.static_types.Static.TheVariants.{Of}
use Rattle.ls_types_elaboration.specs.declared.members.Makes.{Makes}
use Rattle.ls_types_elaboration.specs.declared.members.Makes.TheVariants.{AnObject, ALock, AMarkable}
use Rattle.ls_types_elaboration.specs.Trees.{Text, Name}
use Rattle.ls_types_elaboration.specs.Elaborated.{Elaborated, broken}
use Rattle.ls_types_elaboration.specs.Known.{Known, MethodSign, method_of, parameters_of, number_of}

-- what may be called, the types of its arguments, and the type of its result
pub record Member : Type 0 where
  pub called : Called
  pub parameters : List ValueType
  pub result : Option ValueType

abbrev pub member : Called → List ValueType → Option ValueType → Option Member
member called parameters result = Some (record { called = called; parameters = parameters; result = result })

abbrev pub method_member : Option MethodSign → Option Member
method_member None = None
method_member (Some m) = member (Method m.number) m.parameters m.result

-- the operations of a lock (java.util.concurrent.locks.Lock, ReentrantLock)
abbrev pub lock_member : Text → Option Member
lock_member name =
    if bytes_eq name (codes "lock") then member LockIt [] None
    else if bytes_eq name (codes "unlock") then member UnlockIt [] None
    else if bytes_eq name (codes "tryLock") then member TryIt [] (Some Boolean)
    else if bytes_eq name (codes "isHeldByCurrentThread") then member AskIt [] (Some Boolean)
    else None

-- the operations of a markable of class c (java.util.concurrent.atomic.AtomicMarkableReference)
abbrev pub markable_member : ℕ → Text → Option Member
markable_member c name =
    if bytes_eq name (codes "getReference") then member (GetReference c) [] (Some (Class c))
    else if bytes_eq name (codes "isMarked") then member (IsMarked c) [] (Some Boolean)
    else if bytes_eq name (codes "get") then member (GetBoth c) (BooleanArray ∷ []) (Some (Class c))
    else if bytes_eq name (codes "set") then member SetBoth (Class c ∷ Boolean ∷ []) None
    else if bytes_eq name (codes "compareAndSet") then member CompareAndSet (Class c ∷ Class c ∷ Boolean ∷ Boolean ∷ [])
    (Some Boolean)
    else if bytes_eq name (codes "attemptMark") then member Attempt (Class c ∷ Boolean ∷ []) (Some Boolean)
    else None

-- by the static type of the target (JLS 15.12.1, 15.12.2)
abbrev pub member_of : Known → Static → Text → Option Member
member_of known (Of (Class c)) name = method_member (method_of known c name)
member_of known (Of Lock) name = lock_member name
member_of known (Of (Markable c)) name = markable_member c name
member_of known _ name = None

abbrev pub found : {A : Type 0} → Option A → Span → Elaborated A
found None span = broken UnknownName span
found (Some x) span = Ok x

-- what `new` makes, the types of its arguments, and the type of what is made (JLS 15.9.1, 15.9.3)
pub record Maker : Type 0 where
  pub makes : Makes
  pub parameters : List ValueType
  pub type : ValueType

abbrev pub made : Makes → checked.Expressions → checked.Expression
made (AnObject c) es = checked.MakeObject c es
made ALock es = checked.MakeLock
made (AMarkable c) es = checked.MakeMarkable c es

abbrev pub object_maker : Known → Option ℕ → Span → Elaborated Maker
object_maker known None span = broken UnknownType span
object_maker known (Some c) span = Ok (record {
  makes = AnObject c;
  parameters = parameters_of known c;
  type = Class c;
})

-- `Lock` is not a class that can be made, and no class of the file has its name
abbrev pub maker_of : Known → Name → Elaborated Maker
maker_of known n =
    if bytes_eq n.text (codes "ReentrantLock")
    then Ok (record { makes = ALock; parameters = []; type = Lock })
    else object_maker known (number_of known.names n.text) n.span

abbrev pub markable_maker : Option ℕ → Span → Elaborated Maker
markable_maker None span = broken UnknownType span
markable_maker (Some c) span = Ok (record {
  makes = AMarkable c;
  parameters = Class c ∷ Boolean ∷ [];
  type = Markable c;
})
