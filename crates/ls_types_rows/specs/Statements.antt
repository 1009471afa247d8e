-- Statements in a method of class A: scopes, loops, what is assigned and returned (JLS 6.3, 6.4, 14, 15.26).
use Rattle.std.specs.Prelude.{◌≡◌, ◌+◌, ℕ, negsuc, true, false, List, [], ◌∷◌, ◌++◌, length, replicate, codes, Option}
use Rattle.std.specs.Prelude.{Some, None, Ok, Err}
use Rattle.ls_tree.specs.declared.tree.BinaryOp.TheVariants as written
use Rattle.ls_events.specs.declared.value.Value.TheVariants as values
use Rattle.ls_events.specs.declared.value.ValueType.{ValueType}
use Rattle.ls_events.specs.declared.value.ValueType.TheVariants as types
use Rattle.ls_checked.specs.declared.tree.Called.TheVariants as called
use Rattle.ls_checked.specs.declared.tree.Operator.TheVariants as operators
use Rattle.ls_checked.specs.CheckedTree as checked
use Rattle.ls_types_elaboration.specs.declared.mismatch.Mismatch.TheVariants as mismatches
use Rattle.ls_types_elaboration.specs.declared.rule.Rule.{Rule}
use Rattle.ls_types_elaboration.specs.declared.rule.Rule.TheVariants as rules
use Rattle.ls_types_elaboration.specs.StaticTypes.{of_type}
use Rattle.ls_types_elaboration.specs.declared.static_types.Static.TheVariants.{Of, NullType, Void}
use Rattle.ls_types_elaboration.specs.Trees.{Text, Name}
use Rattle.ls_types_elaboration.specs.Trees as parsed
use Rattle.ls_types_elaboration.specs.Scopes.{Body, Slots}
use Rattle.ls_types_elaboration.specs.TypedStatements.{Loops, statement}
use Rattle.ls_types_rows.specs.Written.{at, name, assign, evaluate, one, yes, nothing, self, named, both, field, call}
use Rattle.ls_types_rows.specs.Written.{items, variable, int, truth, null, block, known, locals, own}

-- a method that answers this, with its name at 99
abbrev pub body : Option ValueType → Body
body result = record { known = known; result = result; span = at 99 }

-- the types of the slots of `this`, x and b
abbrev pub slots : Slots
slots = record { types = types.Class 0 ∷ types.Int ∷ types.Int ∷ []; named = 3 }

abbrev pub with_more : List ValueType → Slots
with_more more = record { types = slots.types ++ more; named = length more + 3 }

-- in a method that answers this, within these loops, the statement has this checked form and gives the method these
-- new slots
abbrev pub Becomes : Option ValueType → Loops → parsed.Statement → checked.Statement → List ValueType → Type 0
Becomes result loops s form more = statement (body result) loops locals slots s ≡ Ok
    (record { tree = form; slots = with_more more })

-- the statement, in no loop of a void method, breaks this rule there
abbrev pub Breaks : parsed.Statement → Rule → ℕ → Type 0
Breaks s rule k = statement (body None) [] locals slots s ≡ Err (record { rule = rule; span = at k })

abbrev pub set : Text → ℕ → parsed.Statement
set text k = assign (named text k) (one (k + 1))

-- `int name = 1;` before others
abbrev pub declare : Text → ℕ → parsed.Items → parsed.Items
declare text k rest = parsed.Declare (variable parsed.Int text k (Some (one (k + 1)))) rest

-- ---- variables

abbrev pub Assignments : Type 0
Assignments =
    Becomes None [] (set (codes "x") 1) (checked.SetSlot 1 (int 1)) []
    × Becomes None [] (set (codes "i") 1) (checked.SetField (checked.Slot 0) 0 (int 1)) []
    × Becomes None [] (assign (field (named (codes "o") 1) (codes "k") 2) (one 3)) (checked.SetField (own 6) 1 (int 1))
    []
    × Becomes None [] (assign (parsed.Item (named (codes "a") 1) (one 2) (at 3)) (yes 4))
    (checked.SetItem (own 2) (int 1) truth) []
    × Becomes None [] (assign (named (codes "n") 1) (nothing 2)) (checked.SetField (checked.Slot 0) 3 null) []

abbrev pub NotAssigned : Type 0
NotAssigned =
    Breaks (assign (self 1) (nothing 2)) rules.NotAssignable 1
    × Breaks (assign (one 1) (one 2)) rules.NotAssignable 1
    × Breaks (assign (call (codes "f") (one 1 ∷ yes 2 ∷ []) 3) (one 5)) rules.NotAssignable 4
    × Breaks (assign (call (codes "v") [] 3) (one 5)) rules.NotAssignable 4
    × Breaks (assign (named (codes "x") 1) (yes 2)) (of_type types.Int (Of types.Boolean)) 2
    × Breaks (assign (named (codes "x") 1) (nothing 2)) (of_type types.Int NullType) 2
    × Breaks (assign (named (codes "x") 1) (call (codes "v") [] 3)) (of_type types.Int Void) 4
    × Breaks (assign (named (codes "n") 1) (named (codes "o") 2)) (of_type (types.Class 0) (Of (types.Class 1))) 2
    × Breaks (assign (named (codes "r") 1) (named (codes "q") 2)) (of_type (types.Markable 0) (Of (types.Markable 1))) 2
    × Breaks (assign (parsed.Item (named (codes "a") 1) (one 2) (at 3)) (one 4))
    (of_type types.Boolean (Of types.Int)) 4

-- parentheses round a left side change nothing, also round a call without a value
abbrev pub Wrapped : Type 0
Wrapped =
    Becomes None [] (assign (parsed.Paren (parsed.Paren (named (codes "i") 1) (at 2)) (at 3)) (one 4))
    (checked.SetField (checked.Slot 0) 0 (int 1)) []
    × Becomes None [] (assign (parsed.Paren (parsed.Item (named (codes "a") 1) (one 2) (at 3)) (at 4)) (yes 5))
    (checked.SetItem (own 2) (int 1) truth) []
    × Breaks (assign (parsed.Paren (call (codes "v") [] 1) (at 3)) (one 4)) rules.NotAssignable 3
    × Breaks (assign (parsed.Paren (parsed.Paren (call (codes "v") [] 1) (at 3)) (at 4)) (one 5)) rules.NotAssignable 4
    × Breaks (parsed.Perform (parsed.Add (parsed.Paren (call (codes "v") [] 1) (at 3)) (yes 4))) rules.NotAssignable 3
    × Breaks (parsed.Perform (parsed.Count true false (parsed.Paren (call (codes "v") [] 1) (at 3))))
    rules.NotAssignable 3
    × Breaks (assign (parsed.Paren (named (codes "z") 1) (at 2)) (one 3)) rules.UnknownName 1
    × Breaks (assign (field (parsed.Paren (call (codes "v") [] 1) (at 3)) (codes "k") 4) (one 6))
    (rules.WrongType mismatches.NoValue) 2

-- a call without a value is a statement; the value of any other expression is dropped
abbrev pub Evaluations : Type 0
Evaluations =
    Becomes None [] (evaluate (call (codes "v") [] 1)) (checked.Evaluate
    (checked.Call (checked.Slot 0) (called.Method 2) checked.End)) []
    × Becomes None [] parsed.Empty (checked.Block checked.Done) []

-- ---- scopes

-- a local has the next slot; the slot first holds the start value, then the value of the initialiser
abbrev pub Declarations : Type 0
Declarations =
    Becomes None [] (parsed.Block (declare (codes "y") 1 (items (set (codes "y") 3 ∷ []))))
    (checked.Block (block (checked.SetSlot 3 (int 0) ∷ checked.SetSlot 3 (int 1) ∷ checked.SetSlot 3 (int 1) ∷ [])))
    (types.Int ∷ [])
    × Becomes None []
    (parsed.Block (parsed.Declare (variable parsed.Boolean (codes "y") 1 None)
    (parsed.Declare (variable (parsed.Class (name (codes "B") 2)) (codes "z") 3 None) parsed.NoItem)))
    (checked.Block (block (checked.SetSlot 3 (checked.Literal (values.Boolean false)) ∷ checked.SetSlot 4 null ∷ [])))
    (types.Boolean ∷ types.Class 1 ∷ [])

-- the initialiser of a local may name that local
abbrev pub OwnInitialiser : Type 0
OwnInitialiser =
    Becomes None []
    (parsed.Block (parsed.Declare (variable parsed.Int (codes "y") 1 (Some (named (codes "y") 2))) parsed.NoItem))
    (checked.Block (block (checked.SetSlot 3 (int 0) ∷ checked.SetSlot 3 (checked.Slot 3) ∷ []))) (types.Int ∷ [])

-- a local can't be named after its block, or before its declaration
abbrev pub OutOfScope : Type 0
OutOfScope =
    Breaks (parsed.Block (parsed.Do (parsed.Block (declare (codes "y") 1 parsed.NoItem))
    (items (set (codes "y") 5 ∷ [])))) rules.UnknownName 5
    × Breaks (parsed.Block (parsed.Do (set (codes "y") 5) (declare (codes "y") 1 parsed.NoItem))) rules.UnknownName 5
    × Breaks (parsed.Try (declare (codes "y") 1 parsed.NoItem) (items (set (codes "y") 5 ∷ []))) rules.UnknownName 5
    × Breaks (parsed.IfElse (yes 1) (parsed.Block (declare (codes "y") 2 parsed.NoItem)) (set (codes "y") 5))
    rules.UnknownName 5

-- no local hides a local. A local may have the name of a field, or of a local that is out of scope. Each local has a
-- slot of its own.
abbrev pub TwoOfOneName : Type 0
TwoOfOneName =
    Breaks (parsed.Block (declare (codes "x") 1 parsed.NoItem)) rules.TwiceDeclared 1
    × Breaks (parsed.Block
    (declare (codes "y") 1 (parsed.Do (parsed.Block (declare (codes "y") 3 parsed.NoItem)) parsed.NoItem)))
    rules.TwiceDeclared 3
    × Becomes None [] (parsed.Block (declare (codes "i") 1 parsed.NoItem))
    (checked.Block (block (checked.SetSlot 3 (int 0) ∷ checked.SetSlot 3 (int 1) ∷ []))) (types.Int ∷ [])
    × Becomes None []
    (parsed.Block (parsed.Do (parsed.Block (declare (codes "y") 1 parsed.NoItem))
    (declare (codes "y") 3 parsed.NoItem)))
    (checked.Block (block (checked.Block (block (checked.SetSlot 3 (int 0) ∷ checked.SetSlot 3 (int 1) ∷ [])) ∷
    checked.SetSlot 4 (int 0) ∷ checked.SetSlot 4 (int 1) ∷ []))) (types.Int ∷ types.Int ∷ [])

-- the locals of a finally block, and those of a second branch, have slots of their own
abbrev pub OwnSlots : Type 0
OwnSlots =
    Becomes None [] (parsed.Try (declare (codes "y") 1 parsed.NoItem) (declare (codes "y") 3 parsed.NoItem))
    (checked.Try (checked.Block (block (checked.SetSlot 3 (int 0) ∷ checked.SetSlot 3 (int 1) ∷ [])))
    (checked.Block (block (checked.SetSlot 4 (int 0) ∷ checked.SetSlot 4 (int 1) ∷ []))))
    (types.Int ∷ types.Int ∷ [])
    × Becomes None [] (parsed.IfElse (yes 1) (parsed.Block (declare (codes "y") 1 parsed.NoItem))
    (parsed.Block (declare (codes "y") 3 parsed.NoItem)))
    (checked.If truth (checked.Block (block (checked.SetSlot 3 (int 0) ∷ checked.SetSlot 3 (int 1) ∷ [])))
    (checked.Block (block (checked.SetSlot 4 (int 0) ∷ checked.SetSlot 4 (int 1) ∷ []))))
    (types.Int ∷ types.Int ∷ [])

-- `all` slots; the first `n` of them have names
abbrev pub filled : ℕ → ℕ → Slots
filled all n = record { types = replicate all types.Int; named = n }

-- a method has at most 128 slots with names; a method with more is refused at its name
abbrev pub MostSlots : Type 0
MostSlots =
    (statement (body None) [] locals (filled 127 127) (parsed.Block
    (parsed.Declare (variable parsed.Int (codes "y") 1 None) parsed.NoItem))
    ≡ Ok (record { tree = checked.Block (block (checked.SetSlot 127 (int 0) ∷ [])); slots = filled 128 128 }))
    × (statement (body None) [] locals (filled 128 128) (parsed.Block
    (parsed.Declare (variable parsed.Int (codes "y") 1 None) parsed.NoItem))
    ≡ Err (record { rule = rules.Limit; span = at 99 }))

-- ---- loops and jumps

-- `while (true) s`, with or without a label
abbrev pub loop : Option Text → parsed.Statement → parsed.Statement
loop None s = parsed.While None (yes 1) s
loop (Some l) s = parsed.While (Some (name l 50)) (yes 1) s

-- loops are counted outward from the innermost
abbrev pub Jumps : Type 0
Jumps =
    Becomes None [] (loop None (parsed.Break None (at 2))) (checked.While truth (checked.Break 0)) []
    × Becomes None [] (loop None (loop None (parsed.Continue None (at 2))))
    (checked.While truth (checked.While truth (checked.Continue 0))) []
    × Becomes None [] (loop (Some (codes "p")) (loop None (parsed.Continue (Some (name (codes "p") 3)) (at 2))))
    (checked.While truth (checked.While truth (checked.Continue 1))) []
    × Becomes None []
    (loop (Some (codes "p")) (loop (Some (codes "q")) (parsed.Break (Some (name (codes "q") 3)) (at 2))))
    (checked.While truth (checked.While truth (checked.Break 0))) []
    × Becomes None []
    (loop (Some (codes "p"))
    (loop None (loop (Some (codes "q")) (parsed.Break (Some (name (codes "p") 3)) (at 2)))))
    (checked.While truth (checked.While truth (checked.While truth (checked.Break 2)))) []
    × Becomes None [] (loop None (parsed.Try (items (parsed.Break None (at 2) ∷ [])) parsed.NoItem))
    (checked.While truth (checked.Try (checked.Block (block (checked.Break 0 ∷ []))) (checked.Block checked.Done)))
    []

abbrev pub NoLoops : Type 0
NoLoops =
    Breaks (parsed.Break None (at 2)) rules.NoLoop 2
    × Breaks (parsed.Continue None (at 2)) rules.NoLoop 2
    × Breaks (parsed.Break (Some (name (codes "p") 3)) (at 2)) rules.NoLoop 2
    × Breaks (loop (Some (codes "p")) (parsed.Continue (Some (name (codes "q") 3)) (at 2))) rules.UnknownLabel 3
    × Breaks (loop None (parsed.Break (Some (name (codes "p") 3)) (at 2))) rules.UnknownLabel 3
    × Breaks (parsed.Block (parsed.Do (loop (Some (codes "p")) parsed.Empty) (items (parsed.Break None (at 2) ∷ []))))
    rules.NoLoop 2

-- a label is refused within a statement of the same label, but not after that statement
abbrev pub Labels : Type 0
Labels =
    Breaks (loop (Some (codes "p")) (loop (Some (codes "p")) parsed.Empty)) rules.TwiceDeclared 50
    × Breaks (loop (Some (codes "p")) (loop None (loop (Some (codes "p")) parsed.Empty))) rules.TwiceDeclared 50
    × Becomes None []
    (parsed.Block (items (loop (Some (codes "p")) parsed.Empty ∷ loop (Some (codes "p")) parsed.Empty ∷ [])))
    (checked.Block (block (checked.While truth (checked.Block checked.Done) ∷
    checked.While truth (checked.Block checked.Done) ∷ []))) []

abbrev pub Conditions : Type 0
Conditions =
    Becomes None [] (parsed.If (yes 1) parsed.Empty) (checked.If truth (checked.Block checked.Done)
    (checked.Block checked.Done)) []
    × Becomes None [] (parsed.IfElse (yes 1) (set (codes "x") 2) parsed.Empty)
    (checked.If truth (checked.SetSlot 1 (int 1)) (checked.Block checked.Done)) []
    × Breaks (parsed.If (one 1) parsed.Empty) (of_type types.Boolean (Of types.Int)) 1
    × Breaks (parsed.If (call (codes "v") [] 1) parsed.Empty) (of_type types.Boolean Void) 2
    × Breaks (parsed.IfElse (nothing 1) parsed.Empty parsed.Empty) (of_type types.Boolean NullType) 1
    × Breaks (parsed.While None (one 1) parsed.Empty) (of_type types.Boolean (Of types.Int)) 1

-- `for (int i = 1; true; i++) s`
abbrev pub labelled_count : Option Name → parsed.Statement → parsed.Statement
labelled_count l s = parsed.For l (parsed.Declares (variable parsed.Int (codes "i") 51 (Some (one 52)))) (Some (yes 53))
    (parsed.Count true false (named (codes "i") 54) ∷ []) s

abbrev pub counting : Option Text → parsed.Statement → parsed.Statement
counting None s = labelled_count None s
counting (Some l) s = labelled_count (Some (name l 50)) s

-- its loops, if the local is in slot n
abbrev pub counted : ℕ → checked.Statement → checked.Statement
counted n s =
    checked.Block (block (
    checked.SetSlot n (int 0)
    ∷ checked.SetSlot n (int 1)
    ∷ checked.While truth (checked.Block (block (
    checked.While truth (checked.Block (block (s ∷ checked.Break 0 ∷ [])))
    ∷ checked.Block (block (checked.SetSlot n (checked.Binary operators.Add (checked.Slot n) (int 1)) ∷ [])) ∷ [])))
    ∷ []))

-- `break` leaves the whole `for`, `continue` leaves one turn of it; each `for` counts as two loops outward
abbrev pub ForLoops : Type 0
ForLoops =
    Becomes None [] (counting None parsed.Empty) (counted 3 (checked.Block checked.Done)) (types.Int ∷ [])
    × Becomes None [] (counting None (parsed.Break None (at 2))) (counted 3 (checked.Break 1)) (types.Int ∷ [])
    × Becomes None [] (counting None (parsed.Continue None (at 2))) (counted 3 (checked.Break 0)) (types.Int ∷ [])
    × Becomes None [] (counting (Some (codes "p")) (loop None (parsed.Continue (Some (name (codes "p") 3)) (at 2))))
    (counted 3 (checked.While truth (checked.Break 1))) (types.Int ∷ [])
    × Becomes None [] (loop (Some (codes "p")) (counting None (parsed.Continue (Some (name (codes "p") 3)) (at 2))))
    (checked.While truth (counted 3 (checked.Continue 2))) (types.Int ∷ [])
    × Becomes None [] (parsed.For None (parsed.Performs []) None [] (parsed.Break None (at 2)))
    (checked.Block (block (checked.While truth (checked.Block (block (
    checked.While truth (checked.Block (block (checked.Break 1 ∷ checked.Break 0 ∷ []))) ∷ checked.Block checked.Done ∷
    []))) ∷ []))) []
    × Becomes None [] (parsed.For None (parsed.Performs (parsed.Assign (named (codes "x") 1) (one 2) ∷ [])) None []
    parsed.Empty)
    (checked.Block (block (checked.SetSlot 1 (int 1) ∷ checked.While truth (checked.Block (block (
    checked.While truth (checked.Block (block (checked.Block checked.Done ∷ checked.Break 0 ∷ []))) ∷
    checked.Block checked.Done ∷ []))) ∷ []))) []
    × Becomes None [] (parsed.For None (parsed.Declares (variable parsed.Int (codes "i") 51 (Some (one 52))))
    (Some (both written.Less (named (codes "i") 53) (one 54) 55)) [] parsed.Empty)
    (checked.Block (block (checked.SetSlot 3 (int 0) ∷ checked.SetSlot 3 (int 1)
    ∷ checked.While (checked.Binary operators.Less (checked.Slot 3) (int 1)) (checked.Block (block (
    checked.While truth (checked.Block (block (checked.Block checked.Done ∷ checked.Break 0 ∷ []))) ∷
    checked.Block checked.Done ∷ []))) ∷ []))) (types.Int ∷ [])
    × Breaks (parsed.Block (parsed.Do (counting None parsed.Empty)
    (items (set (codes "i") 5 ∷ set (codes "z") 7 ∷ [])))) rules.UnknownName 7
    × Breaks (counting None (parsed.Block (declare (codes "i") 5 parsed.NoItem))) rules.TwiceDeclared 5
    × Breaks (counting (Some (codes "p")) (counting (Some (codes "p")) parsed.Empty)) rules.TwiceDeclared 50
    × Breaks (parsed.For None (parsed.Performs []) (Some (one 1)) [] parsed.Empty)
    (of_type types.Boolean (Of types.Int)) 1

-- what may be added to: a local or a field, but no element and no variable of another type
abbrev pub Additions : Type 0
Additions =
    Becomes None [] (parsed.Perform (parsed.Add (named (codes "x") 1) (one 2)))
    (checked.SetSlot 1 (checked.Binary operators.Add (checked.Slot 1) (int 1))) []
    × Becomes None [] (parsed.Perform (parsed.Count false true (named (codes "i") 1)))
    (checked.AddField (checked.Slot 0) 0 (checked.Literal (values.Int (negsuc 0)))) []
    × Becomes None [] (parsed.Perform (parsed.Count true false (parsed.Paren (named (codes "x") 1) (at 2))))
    (checked.SetSlot 1 (checked.Binary operators.Add (checked.Slot 1) (int 1))) []
    × Becomes None [] (parsed.Perform (parsed.Add (field (named (codes "o") 1) (codes "k") 2) (one 3)))
    (checked.AddField (own 6) 1 (int 1)) []
    × Breaks (parsed.Perform (parsed.Add (named (codes "x") 1) (yes 2))) (of_type types.Int (Of types.Boolean)) 2
    × Breaks (parsed.Perform (parsed.Count true false (parsed.Item (named (codes "a") 1) (one 2) (at 3))))
    (of_type types.Int (Of types.Boolean)) 3
    × Breaks (parsed.Perform (parsed.Count true false (named (codes "n") 1))) (of_type types.Int (Of (types.Class 0))) 1
    × Breaks (parsed.Perform (parsed.Count true false (field (self 1) (codes "b") 2)))
    (of_type types.Int (Of types.Boolean)) 3
    × Breaks (parsed.Perform (parsed.Count true false (self 1))) rules.NotAssignable 1
    × Breaks (parsed.Perform (parsed.Count true false (one 1))) rules.NotAssignable 1

-- ---- return

abbrev pub Returns : Type 0
Returns =
    Becomes None [] (parsed.Return None (at 2)) checked.ReturnNothing []
    × Becomes (Some types.Int) [] (parsed.Return (Some (one 1)) (at 2)) (checked.ReturnValue (int 1)) []
    × Becomes (Some (types.Class 0)) [] (parsed.Return (Some (nothing 1)) (at 2)) (checked.ReturnValue null) []
    × Breaks (parsed.Return (Some (one 1)) (at 2)) (rules.WrongType mismatches.Returned) 1
    × Breaks (parsed.Return (Some (call (codes "v") [] 1)) (at 3)) (rules.WrongType mismatches.Returned) 2
    × (statement (body (Some types.Int)) [] locals slots (parsed.Return None (at 2)) ≡ Err
    (record { rule = rules.WrongType (mismatches.NotReturned types.Int); span = at 2 }))
    × (statement (body (Some types.Int)) [] locals slots (parsed.Return (Some (yes 1)) (at 2)) ≡ Err
    (record { rule = of_type types.Int (Of types.Boolean); span = at 1 }))
    × (statement (body (Some types.Int)) [] locals slots (parsed.Return (Some (nothing 1)) (at 2)) ≡ Err
    (record { rule = of_type types.Int NullType; span = at 1 }))
