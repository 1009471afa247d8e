-- The checked tree as plain data. Slot 0 of a method is `this`. After it come its parameters, then a slot for each
-- local that it declares, in text order. Classes, fields and methods are numbered in text order.
use Rattle.std.specs.Prelude.{ℕ, List, Option}
use Rattle.ls_events.specs.declared.value.Value.{Value}
use Rattle.ls_events.specs.declared.value.ValueType.{ValueType}
use Rattle.ls_checked.specs.declared.tree.Operator.{Operator}
use Rattle.ls_checked.specs.declared.tree.Called.{Called}

mutual
  pub data Expression : Type 0 where
    Literal : (value : Value) → Expression
    Slot : (number : ℕ) → Expression
    -- a field of an object of the class
    Field : (target : Expression) → (class field : ℕ) → Expression
    Item : (array index : Expression) → Expression
    Negate : (operand : Expression) → Expression
    Not : (operand : Expression) → Expression
    Binary : (op : Operator) → (left right : Expression) → Expression
    And : (left right : Expression) → Expression
    Or : (left right : Expression) → Expression
    -- a method of an object, an operation of a lock or of a markable
    Call : (target : Expression) → (called : Called) → (arguments : Expressions) → Expression
    MakeObject : (class : ℕ) → (arguments : Expressions) → Expression
    MakeLock : Expression
    -- a markable that holds references to objects of the class
    MakeMarkable : (class : ℕ) → (arguments : Expressions) → Expression
    MakeArray : (length : Expression) → Expression

  pub data Expressions : Type 0 where
    End : Expressions
    More : (first : Expression) → (others : Expressions) → Expressions

-- `Break n` and `Continue n` belong to the n-th enclosing loop, counted outward from 0
mutual
  pub data Statement : Type 0 where
    Block : (body : Statements) → Statement
    SetSlot : (number : ℕ) → (value : Expression) → Statement
    SetField : (target : Expression) → (field : ℕ) → (value : Expression) → Statement
    -- adds to an int field of an object
    AddField : (target : Expression) → (field : ℕ) → (value : Expression) → Statement
    SetItem : (array index value : Expression) → Statement
    Evaluate : (value : Expression) → Statement
    If : (condition : Expression) → (first second : Statement) → Statement
    While : (condition : Expression) → (body : Statement) → Statement
    Break : (loop : ℕ) → Statement
    Continue : (loop : ℕ) → Statement
    ReturnNothing : Statement
    ReturnValue : (value : Expression) → Statement
    Try : (body finally : Statement) → Statement

  pub data Statements : Type 0 where
    Done : Statements
    Then : (first : Statement) → (others : Statements) → Statements

-- a method or constructor: its class, the number of its parameters, the types of its slots, the type that it answers,
-- and its body
pub record Method : Type 0 where
  pub class : ℕ
  pub parameters : ℕ
  pub slots : List ValueType
  pub result : Option ValueType
  pub body : Statement

-- a class: the types of its fields, and the number of its constructor
pub record Class : Type 0 where
  pub fields : List ValueType
  pub constructor : ℕ

pub record File : Type 0 where
  pub classes : List Class
  pub methods : List Method
