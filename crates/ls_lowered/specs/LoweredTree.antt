-- The lowered tree as plain data. Local 0 of a method is `this`. After it come its parameters, its locals and its
-- temporaries.
use Rattle.std.specs.Prelude.{ℕ, List}
use Rattle.ls_lowered.specs.declared.tree.UnaryOperator.{UnaryOperator}
use Rattle.ls_lowered.specs.declared.tree.BinaryOperator.{BinaryOperator}
use Rattle.ls_lowered.specs.declared.tree.LockOperation.{LockOperation}

mutual
  pub data Expression : Type 0 where
    Word : (word : ℕ) → Expression
    Local : (number : ℕ) → Expression
    Unary : (op : UnaryOperator) → (operand : Expression) → Expression
    Binary : (op : BinaryOperator) → (left right : Expression) → Expression
    And : (left right : Expression) → Expression
    Or : (left right : Expression) → Expression
    -- the first, then the second, whose word goes into the local; the word is that of the first
    Hold : (value : Expression) → (number : ℕ) → (second : Expression) → Expression
    -- the first, whose word goes into the local, then the second
    Keep : (number : ℕ) → (value second : Expression) → Expression
    -- the first, then the second
    After : (first second : Expression) → Expression
    -- a field of an object, whose first cell is its monitor's
    Field : (object : Expression) → (field : ℕ) → Expression
    Item : (array index : Expression) → Expression
    -- writes element 0 of an array
    SetFirst : (array value : Expression) → Expression
    ReadPair : (markable : Expression) → Expression
    SetPair : (markable pair : Expression) → Expression
    SwapPair : (markable expected new : Expression) → Expression
    AttemptMark : (markable reference mark : Expression) → Expression
    -- an operation of the lock at an address, or of the monitor of the object there
    OnLock : (op : LockOperation) → (lock : Expression) → Expression
    Call : (method : ℕ) → (target : Expression) → (arguments : Expressions) → Expression
    MakeObject : (class constructor : ℕ) → (arguments : Expressions) → Expression
    MakeLock : Expression
    MakeMarkable : (pair : Expression) → Expression
    MakeArray : (length : Expression) → Expression

  pub data Expressions : Type 0 where
    End : Expressions
    More : (first : Expression) → (others : Expressions) → Expressions

-- `Leave n` in the body of a leavable statement goes on at the exit of that number, counted from 0. The number after
-- that of the last exit is the end of the statement. Higher numbers, counted on from there, are those of the leavable
-- statement around it.
mutual
  pub data Statement : Type 0 where
    Block : (body : Statements) → Statement
    SetLocal : (number : ℕ) → (value : Expression) → Statement
    SetField : (object : Expression) → (field : ℕ) → (value : Expression) → Statement
    -- adds to an int field of an object
    AddField : (object : Expression) → (field : ℕ) → (value : Expression) → Statement
    SetItem : (array index value : Expression) → Statement
    Evaluate : (value : Expression) → Statement
    If : (condition : Expression) → (first second : Statement) → Statement
    While : (condition : Expression) → (body : Statement) → Statement
    Return : (value : Expression) → Statement
    Try : (body finally : Statement) → Statement
    -- a throw of the body goes on at the handler, with its kind in the local
    Guarded : (body : Statement) → (number : ℕ) → (handler : Statement) → Statement
    Throw : (number : ℕ) → Statement
    Leavable : (body : Statement) → (exits : Statements) → Statement
    Leave : (exit : ℕ) → Statement

  pub data Statements : Type 0 where
    Done : Statements
    Then : (first : Statement) → (others : Statements) → Statements

-- a method or constructor: how many arguments it has (`this` among them), how many further locals, and its body
pub record Method : Type 0 where
  pub arguments : ℕ
  pub locals : ℕ
  pub body : Statement

-- the methods and constructors of a file, by number
abbrev pub File : Type 0
File = List Method
