-- Expressions in class A: names, literals, operators (JLS 6, 15).
use Rattle.std.specs.Prelude.{◌≡◌, ℕ, negsuc, false, [], ◌∷◌, codes, Ok, Err}
use Rattle.ls_tree.specs.declared.tree.BinaryOp.{BinaryOp}
use Rattle.ls_tree.specs.declared.tree.BinaryOp.TheVariants as written
use Rattle.ls_tree.specs.declared.tree.UnaryOp.TheVariants.{Minus, Not}
use Rattle.ls_events.specs.declared.value.Value.TheVariants as values
use Rattle.ls_events.specs.declared.value.ValueType.{ValueType}
use Rattle.ls_events.specs.declared.value.ValueType.TheVariants as types
use Rattle.ls_checked.specs.declared.tree.Operator.{Operator}
use Rattle.ls_checked.specs.declared.tree.Operator.TheVariants as operators
use Rattle.ls_checked.specs.CheckedTree as checked
use Rattle.ls_types_elaboration.specs.declared.mismatch.Mismatch.TheVariants as mismatches
use Rattle.ls_types_elaboration.specs.declared.rule.Rule.{Rule}
use Rattle.ls_types_elaboration.specs.declared.rule.Rule.TheVariants as rules
use Rattle.ls_types_elaboration.specs.declared.static_types.Static.{Static}
use Rattle.ls_types_elaboration.specs.declared.static_types.Static.TheVariants.{Of, NullType, Void}
use Rattle.ls_types_elaboration.specs.StaticTypes.{of_type}
use Rattle.ls_types_elaboration.specs.Trees as parsed
use Rattle.ls_types_elaboration.specs.TypedExpressions.{typed}
use Rattle.ls_types_rows.specs.Written.{at, one, yes, nothing, self, named, both, field, call, int, truth, null, known}
use Rattle.ls_types_rows.specs.Written.{locals, own}

-- the expression has this checked form and this type
abbrev pub Is : parsed.Expression → checked.Expression → Static → Type 0
Is e form static = typed known locals e ≡ Ok (record { expression = form; static = static })

-- the expression breaks this rule there
abbrev pub Breaks : parsed.Expression → Rule → ℕ → Type 0
Breaks e rule k = typed known locals e ≡ Err (record { rule = rule; span = at k })

-- 2147483648 is the least int, since it may come only after a minus
abbrev pub Literals : Type 0
Literals =
    Is (parsed.Number (codes "0") (at 1)) (int 0) (Of types.Int)
    × Is (parsed.Number (codes "2147483647") (at 1)) (int 2147483647) (Of types.Int)
    × Is (parsed.Number (codes "2147483648") (at 1)) (checked.Literal (values.Int (negsuc 2147483647))) (Of types.Int)
    × Is (yes 1) truth (Of types.Boolean)
    × Is (nothing 1) null NullType
    × Is (self 1) (checked.Slot 0) (Of (types.Class 0))
    × Is (parsed.Paren (one 1) (at 2)) (int 1) (Of types.Int)

abbrev pub Constants : Type 0
Constants =
    Is (field (named (codes "Integer") 1) (codes "MIN_VALUE") 2) (checked.Literal (values.Int (negsuc 2147483647)))
    (Of types.Int)
    × Is (field (named (codes "Integer") 1) (codes "MAX_VALUE") 2) (int 2147483647) (Of types.Int)
    × Breaks (field (named (codes "Integer") 1) (codes "SIZE") 2) rules.UnknownName 2
    × Breaks (named (codes "Integer") 1) rules.UnknownName 1

-- a local of the name `Integer` hides the class
abbrev pub IntegerIsALocal : Type 0
IntegerIsALocal =
    typed known (record { name = codes "Integer"; type = types.Class 1; slot = 1 } ∷ [])
    (field (named (codes "Integer") 1) (codes "MAX_VALUE") 2)
    ≡ Err (record { rule = rules.UnknownName; span = at 2 })

-- a local hides a field; a method is not a variable
abbrev pub Names : Type 0
Names =
    Is (named (codes "x") 1) (checked.Slot 1) (Of types.Int)
    × Is (named (codes "b") 1) (checked.Slot 2) (Of types.Int)
    × Is (field (self 1) (codes "b") 2) (own 1) (Of types.Boolean)
    × Is (named (codes "i") 1) (own 0) (Of types.Int)
    × Is (named (codes "r") 1) (own 5) (Of (types.Markable 0))
    × Breaks (named (codes "u") 1) rules.UnknownName 1
    × Breaks (named (codes "f") 1) rules.UnknownName 1
    × Breaks (named (codes "j") 1) rules.UnknownName 1

-- a field belongs to the class that is the type of the target
abbrev pub Fields : Type 0
Fields =
    Is (field (named (codes "o") 1) (codes "k") 2) (checked.Field (own 6) 1 1) (Of types.Int)
    × Is (field (named (codes "n") 1) (codes "i") 2) (checked.Field (own 3) 0 0) (Of types.Int)
    × Breaks (field (named (codes "o") 1) (codes "i") 2) rules.UnknownName 2
    × Breaks (field (named (codes "x") 1) (codes "i") 2) rules.UnknownName 2
    × Breaks (field (nothing 1) (codes "i") 2) rules.UnknownName 2
    × Breaks (field (named (codes "r") 1) (codes "i") 2) rules.UnknownName 2

-- ---- operators

-- an operator on two ints has this type
abbrev pub OfInts : BinaryOp → Operator → ValueType → Type 0
OfInts op operator t = Is (both op (one 1) (named (codes "x") 2) 3) (checked.Binary operator (int 1) (checked.Slot 1))
    (Of t)

abbrev pub Arithmetic : Type 0
Arithmetic =
    OfInts written.Add operators.Add types.Int
    × OfInts written.Subtract operators.Subtract types.Int
    × OfInts written.Multiply operators.Multiply types.Int
    × OfInts written.Divide operators.Divide types.Int
    × OfInts written.Remainder operators.Remainder types.Int

abbrev pub Comparisons : Type 0
Comparisons =
    OfInts written.Less operators.Less types.Boolean
    × OfInts written.LessEqual operators.LessEqual types.Boolean
    × OfInts written.Greater operators.Greater types.Boolean
    × OfInts written.GreaterEqual operators.GreaterEqual types.Boolean

-- the first operand of another type is reported
abbrev pub OperandsOfInts : Type 0
OperandsOfInts =
    Breaks (both written.Add (yes 1) (nothing 2) 3) (of_type types.Int (Of types.Boolean)) 1
    × Breaks (both written.Add (one 1) (yes 2) 3) (of_type types.Int (Of types.Boolean)) 2
    × Breaks (both written.Less (yes 1) (yes 2) 3) (of_type types.Int (Of types.Boolean)) 1
    × Breaks (both written.GreaterEqual (one 1) (nothing 2) 3) (of_type types.Int NullType) 2
    × Breaks (both written.Subtract (one 1) (call (codes "v") [] 2) 4) (of_type types.Int Void) 3

abbrev pub ShortCircuits : Type 0
ShortCircuits =
    Is (both written.And (yes 1) (parsed.False (at 2)) 3) (checked.And truth (checked.Literal (values.Boolean false)))
    (Of types.Boolean)
    × Is (both written.Or (parsed.False (at 1)) (yes 2) 3) (checked.Or (checked.Literal (values.Boolean false)) truth)
    (Of types.Boolean)
    × Breaks (both written.And (one 1) (yes 2) 3) (of_type types.Boolean (Of types.Int)) 1
    × Breaks (both written.And (yes 1) (one 2) 3) (of_type types.Boolean (Of types.Int)) 2
    × Breaks (both written.Or (one 1) (one 2) 3) (of_type types.Boolean (Of types.Int)) 1
    × Breaks (both written.Or (yes 1) (nothing 2) 3) (of_type types.Boolean NullType) 2

abbrev pub Signs : Type 0
Signs =
    Is (parsed.Unary Minus (one 1) (at 2)) (checked.Negate (int 1)) (Of types.Int)
    × Is (parsed.Unary Not (yes 1) (at 2)) (checked.Not truth) (Of types.Boolean)
    × Breaks (parsed.Unary Minus (yes 1) (at 2)) (of_type types.Int (Of types.Boolean)) 1
    × Breaks (parsed.Unary Not (one 1) (at 2)) (of_type types.Boolean (Of types.Int)) 1
    × Breaks (parsed.Unary Not (nothing 1) (at 2)) (of_type types.Boolean NullType) 1

-- `==` of two expressions, with their checked forms
abbrev pub AreCompared : parsed.Expression → parsed.Expression → checked.Expression → checked.Expression → Type 0
AreCompared e f a b = Is (both written.Equal e f 9) (checked.Binary operators.Equal a b) (Of types.Boolean)

abbrev pub Comparable : Type 0
Comparable =
    AreCompared (one 1) (named (codes "x") 2) (int 1) (checked.Slot 1)
    × AreCompared (yes 1) (yes 2) truth truth
    × AreCompared (nothing 1) (nothing 2) null null
    × AreCompared (self 1) (nothing 2) (checked.Slot 0) null
    × AreCompared (nothing 1) (named (codes "a") 2) null (own 2)
    × AreCompared (self 1) (named (codes "n") 2) (checked.Slot 0) (own 3)
    × AreCompared (named (codes "l") 1) (named (codes "l") 2) (own 4) (own 4)
    × AreCompared (named (codes "r") 1) (named (codes "r") 2) (own 5) (own 5)
    × Is (both written.NotEqual (one 1) (one 2) 9) (checked.Binary operators.NotEqual (int 1) (int 1))
    (Of types.Boolean)

-- the whole comparison is refused; only a call without a value is refused at its own place
abbrev pub NotComparable : Type 0
NotComparable =
    Breaks (both written.Equal (one 1) (yes 2) 9)
    (rules.WrongType (mismatches.Operands (Of types.Int) (Of types.Boolean))) 9
    × Breaks (both written.Equal (one 1) (nothing 2) 9)
    (rules.WrongType (mismatches.Operands (Of types.Int) NullType)) 9
    × Breaks (both written.Equal (nothing 1) (yes 2) 9)
    (rules.WrongType (mismatches.Operands NullType (Of types.Boolean))) 9
    × Breaks (both written.NotEqual (self 1) (named (codes "o") 2) 9)
    (rules.WrongType (mismatches.Operands (Of (types.Class 0)) (Of (types.Class 1)))) 9
    × Breaks (both written.Equal (named (codes "r") 1) (named (codes "q") 2) 9)
    (rules.WrongType (mismatches.Operands (Of (types.Markable 0)) (Of (types.Markable 1)))) 9
    × Breaks (both written.Equal (named (codes "l") 1) (self 2) 9)
    (rules.WrongType (mismatches.Operands (Of types.Lock) (Of (types.Class 0)))) 9
    × Breaks (both written.Equal (call (codes "v") [] 1) (call (codes "v") [] 3) 9)
    (rules.WrongType mismatches.NoValue) 2
    × Breaks (both written.NotEqual (one 1) (call (codes "v") [] 3) 9) (rules.WrongType mismatches.NoValue) 4
