-- Calls, makings and arrays in class A (JLS 15.9, 15.10, 15.12).
use Rattle.std.specs.Prelude.{[], ◌∷◌, codes}
use Rattle.ls_events.specs.declared.value.ValueType.TheVariants as types
use Rattle.ls_checked.specs.declared.tree.Called.TheVariants as called
use Rattle.ls_checked.specs.CheckedTree as checked
use Rattle.ls_types_elaboration.specs.declared.mismatch.Mismatch.TheVariants as mismatches
use Rattle.ls_types_elaboration.specs.declared.rule.Rule.TheVariants as rules
use Rattle.ls_types_elaboration.specs.declared.static_types.Static.TheVariants.{Of, NullType, Void}
use Rattle.ls_types_elaboration.specs.StaticTypes.{of_type}
use Rattle.ls_types_elaboration.specs.Trees as parsed
use Rattle.ls_types_rows.specs.Written.{at, one, yes, nothing, self, named, call, call_on, making, making_markable, int}
use Rattle.ls_types_rows.specs.Written.{truth, null, passed, own, arguments}
use Rattle.ls_types_rows.specs.Expressions.{Is, Breaks}

-- a method of the object's own class, and a method of another object's class
abbrev pub Methods : Type 0
Methods =
    Is (call (codes "f") (one 1 ∷ yes 2 ∷ []) 8) (checked.Call (checked.Slot 0) (called.Method 1)
    (passed (int 1 ∷ truth ∷ []))) (Of types.Int)
    × Is (call (codes "v") [] 8) (checked.Call (checked.Slot 0) (called.Method 2) checked.End) Void
    × Is (call_on (named (codes "o") 1) (codes "g") [] 8) (checked.Call (own 6) (called.Method 3) checked.End)
    (Of (types.Class 0))
    × Breaks (call (codes "g") [] 8) rules.UnknownName 8
    × Breaks (call (codes "i") [] 8) rules.UnknownName 8
    × Breaks (call_on (named (codes "o") 1) (codes "f") (one 2 ∷ yes 3 ∷ []) 8) rules.UnknownName 8
    × Breaks (call_on (nothing 1) (codes "v") [] 8) rules.UnknownName 8
    × Breaks (call_on (named (codes "x") 1) (codes "v") [] 8) rules.UnknownName 8
    × Breaks (call_on (call (codes "v") [] 1) (codes "v") [] 8) rules.UnknownName 8

-- one argument for each parameter, of the type of the parameter; the right number of arguments is not enough
abbrev pub Arguments : Type 0
Arguments =
    Breaks (call (codes "f") (one 1 ∷ []) 8) (arguments 2 1) 9
    × Breaks (call (codes "f") [] 8) (arguments 2 0) 9
    × Breaks (call (codes "f") (one 1 ∷ yes 2 ∷ one 3 ∷ []) 8) (arguments 2 3) 9
    × Breaks (call (codes "v") (one 1 ∷ []) 8) (arguments 0 1) 9
    × Breaks (call (codes "f") (yes 1 ∷ one 2 ∷ []) 8) (of_type types.Int (Of types.Boolean)) 1
    × Breaks (call (codes "f") (one 1 ∷ one 2 ∷ []) 8) (of_type types.Boolean (Of types.Int)) 2
    × Breaks (call (codes "f") (nothing 1 ∷ yes 2 ∷ []) 8) (of_type types.Int NullType) 1
    × Breaks (call (codes "f") (one 1 ∷ call (codes "v") [] 2 ∷ []) 8) (of_type types.Boolean Void) 3
    × Breaks (parsed.Paren (call (codes "v") [] 1) (at 8)) (rules.WrongType mismatches.NoValue) 2

abbrev pub Locks : Type 0
Locks =
    Is (call_on (named (codes "l") 1) (codes "lock") [] 8) (checked.Call (own 4) called.LockIt checked.End) Void
    × Is (call_on (named (codes "l") 1) (codes "unlock") [] 8) (checked.Call (own 4) called.UnlockIt checked.End) Void
    × Is (call_on (named (codes "l") 1) (codes "tryLock") [] 8) (checked.Call (own 4) called.TryIt checked.End)
    (Of types.Boolean)
    × Is (call_on (named (codes "l") 1) (codes "isHeldByCurrentThread") [] 8)
    (checked.Call (own 4) called.AskIt checked.End) (Of types.Boolean)
    × Breaks (call_on (named (codes "l") 1) (codes "isLocked") [] 8) rules.UnknownName 8
    × Breaks (call_on (named (codes "l") 1) (codes "lock") (one 2 ∷ []) 8) (arguments 0 1) 9

-- the operations of a markable that holds objects of class A
abbrev pub Markables : Type 0
Markables =
    Is (call_on (named (codes "r") 1) (codes "getReference") [] 8)
    (checked.Call (own 5) (called.GetReference 0) checked.End) (Of (types.Class 0))
    × Is (call_on (named (codes "q") 1) (codes "getReference") [] 8)
    (checked.Call (own 7) (called.GetReference 1) checked.End) (Of (types.Class 1))
    × Is (call_on (named (codes "r") 1) (codes "isMarked") [] 8) (checked.Call (own 5) (called.IsMarked 0) checked.End)
    (Of types.Boolean)
    × Is (call_on (named (codes "r") 1) (codes "get") (named (codes "a") 2 ∷ []) 8)
    (checked.Call (own 5) (called.GetBoth 0) (passed (own 2 ∷ []))) (Of (types.Class 0))
    × Is (call_on (named (codes "r") 1) (codes "set") (self 2 ∷ yes 3 ∷ []) 8)
    (checked.Call (own 5) called.SetBoth (passed (checked.Slot 0 ∷ truth ∷ []))) Void
    × Is (call_on (named (codes "r") 1) (codes "compareAndSet") (self 2 ∷ nothing 3 ∷ yes 4 ∷ yes 5 ∷ []) 8)
    (checked.Call (own 5) called.CompareAndSet (passed (checked.Slot 0 ∷ null ∷ truth ∷ truth ∷ [])))
    (Of types.Boolean)
    × Is (call_on (named (codes "r") 1) (codes "attemptMark") (nothing 2 ∷ yes 3 ∷ []) 8)
    (checked.Call (own 5) called.Attempt (passed (null ∷ truth ∷ []))) (Of types.Boolean)

abbrev pub OtherArgumentsOfMarkables : Type 0
OtherArgumentsOfMarkables =
    Breaks (call_on (named (codes "r") 1) (codes "compareAndSet") (self 2 ∷ yes 3 ∷ nothing 4 ∷ yes 5 ∷ []) 8)
    (of_type (types.Class 0) (Of types.Boolean)) 3
    × Breaks (call_on (named (codes "r") 1) (codes "compareAndSet") (self 2 ∷ self 3 ∷ yes 4 ∷ []) 8)
    (arguments 4 3) 9
    × Breaks (call_on (named (codes "r") 1) (codes "get") [] 8) (arguments 1 0) 9
    × Breaks (call_on (named (codes "r") 1) (codes "get") (yes 2 ∷ []) 8)
    (of_type types.BooleanArray (Of types.Boolean)) 2
    × Breaks (call_on (named (codes "r") 1) (codes "set") (named (codes "o") 2 ∷ yes 3 ∷ []) 8)
    (of_type (types.Class 0) (Of (types.Class 1))) 2
    × Breaks (call_on (named (codes "r") 1) (codes "attemptMark") (yes 2 ∷ nothing 3 ∷ []) 8)
    (of_type (types.Class 0) (Of types.Boolean)) 2
    × Breaks (call_on (named (codes "r") 1) (codes "weakCompareAndSet") [] 8) rules.UnknownName 8

-- `Lock` is an interface: no object is made of it
abbrev pub Makings : Type 0
Makings =
    Is (making (codes "A") (one 1 ∷ []) 8) (checked.MakeObject 0 (passed (int 1 ∷ []))) (Of (types.Class 0))
    × Is (making (codes "B") [] 8) (checked.MakeObject 1 checked.End) (Of (types.Class 1))
    × Is (making (codes "ReentrantLock") [] 8) checked.MakeLock (Of types.Lock)
    × Is (making_markable (codes "B") (nothing 1 ∷ yes 2 ∷ []) 8) (checked.MakeMarkable 1 (passed (null ∷ truth ∷ [])))
    (Of (types.Markable 1))
    × Breaks (making (codes "A") [] 8) (arguments 1 0) 9
    × Breaks (making (codes "A") (yes 1 ∷ []) 8) (of_type types.Int (Of types.Boolean)) 1
    × Breaks (making (codes "C") [] 8) rules.UnknownType 8
    × Breaks (making (codes "Lock") [] 8) rules.UnknownType 8
    × Breaks (making (codes "ReentrantLock") (yes 1 ∷ []) 8) (arguments 0 1) 9
    × Breaks (making_markable (codes "Lock") (nothing 1 ∷ yes 2 ∷ []) 8) rules.UnknownType 8
    × Breaks (making_markable (codes "B") (self 1 ∷ yes 2 ∷ []) 8) (of_type (types.Class 1) (Of (types.Class 0))) 1
    × Breaks (making_markable (codes "A") (yes 1 ∷ self 2 ∷ []) 8) (of_type (types.Class 0) (Of types.Boolean)) 1

abbrev pub Arrays : Type 0
Arrays =
    Is (parsed.Item (named (codes "a") 1) (one 2) (at 8)) (checked.Item (own 2) (int 1)) (Of types.Boolean)
    × Is (parsed.NewArray (one 1) (at 8)) (checked.MakeArray (int 1)) (Of types.BooleanArray)
    × Breaks (parsed.Item (named (codes "a") 1) (yes 2) (at 8)) (of_type types.Int (Of types.Boolean)) 2
    × Breaks (parsed.Item (nothing 1) (one 2) (at 8)) (of_type types.BooleanArray NullType) 1
    × Breaks (parsed.Item (named (codes "x") 1) (one 2) (at 8)) (of_type types.BooleanArray (Of types.Int)) 1
    × Breaks (parsed.NewArray (yes 1) (at 8)) (of_type types.Int (Of types.Boolean)) 1
