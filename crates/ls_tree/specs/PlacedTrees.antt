-- Class texts as trees, with the places that a refusal may name. A name is its bytes. The package, imports, modifiers
-- and annotations have no effect. So they are left out, but `synchronized` is kept.
use Rattle.std.specs.Prelude.{ℕ, Bool, true, false, List, [], ◌∷◌, Option}
use Rattle.ls_lexer.specs.declared.token.Span.{Span}
use Rattle.ls_tree.specs.declared.tree.UnaryOp.{UnaryOp}
use Rattle.ls_tree.specs.declared.tree.BinaryOp.{BinaryOp}

abbrev pub Text : Type 0
Text = List ℕ

pub record Name : Type 0 where
  pub text : Text
  pub span : Span

mutual
  pub data Expression : Type 0 where
    Number : (text : Text) → (span : Span) → Expression
    True : (span : Span) → Expression
    False : (span : Span) → Expression
    Null : (span : Span) → Expression
    This : (span : Span) → Expression
    Named : (name : Name) → Expression
    Paren : (inner : Expression) → (span : Span) → Expression
    Unary : (op : UnaryOp) → (operand : Expression) → (span : Span) → Expression
    Binary : (op : BinaryOp) → (left right : Expression) → (span : Span) → Expression
    Field : (target : Expression) → (name : Name) → (span : Span) → Expression
    Call : (name : Name) → (arguments : Expressions) → (span : Span) → Expression
    CallOn : (target : Expression) → (name : Name) → (arguments : Expressions) → (span : Span) → Expression
    Item : (array index : Expression) → (span : Span) → Expression
    New : (class : Name) → (arguments : Expressions) → (span : Span) → Expression
    NewMarkable : (class : Name) → (arguments : Expressions) → (span : Span) → Expression
    NewArray : (length : Expression) → (span : Span) → Expression

  pub data Expressions : Type 0 where
    End : Expressions
    More : (first : Expression) → (others : Expressions) → Expressions

-- the span of an expression
abbrev pub span_of : Expression → Span
span_of (Number text span) = span
span_of (True span) = span
span_of (False span) = span
span_of (Null span) = span
span_of (This span) = span
span_of (Named name) = name.span
span_of (Paren inner span) = span
span_of (Unary op operand span) = span
span_of (Binary op left right span) = span
span_of (Field target name span) = span
span_of (Call name arguments span) = span
span_of (CallOn target name arguments span) = span
span_of (Item array index span) = span
span_of (New class arguments span) = span
span_of (NewMarkable class arguments span) = span
span_of (NewArray length span) = span

pub data TypeName : Type 0 where
  Int : TypeName
  Boolean : TypeName
  BooleanArray : TypeName
  Class : (name : Name) → TypeName
  Markable : (name : Name) → TypeName

pub record Declarator : Type 0 where
  pub name : Name
  pub value : Option Expression

-- fields or locals of one type
pub record Declaration : Type 0 where
  pub type_name : TypeName
  pub first : Declarator
  pub more : List Declarator

-- a simple form, and what a `for` begins with
pub data Simple : Type 0 where
  Assign : (target value : Expression) → Simple
  Add : (target value : Expression) → Simple
  Count : (up before : Bool) → (target : Expression) → Simple
  Evaluate : (value : Expression) → Simple

pub data Opening : Type 0 where
  Declares : (declaration : Declaration) → Opening
  Performs : (simples : List Simple) → Opening

mutual
  pub data Statement : Type 0 where
    Block : (items : Items) → Statement
    Empty : Statement
    If : (condition : Expression) → (first : Statement) → Statement
    IfElse : (condition : Expression) → (first second : Statement) → Statement
    While : (label : Option Name) → (condition : Expression) → (body : Statement) → Statement
    For : (label : Option Name) → (opening : Opening) → (condition : Option Expression) → (updates : List Simple) →
        (body : Statement) →
        Statement
    Break : (label : Option Name) → (span : Span) → Statement
    Continue : (label : Option Name) → (span : Span) → Statement
    Return : (value : Option Expression) → (span : Span) → Statement
    Try : (body finally : Items) → Statement
    Synchronized : (target : Expression) → (body : Items) → Statement
    Perform : (simple : Simple) → Statement

  pub data Items : Type 0 where
    NoItem : Items
    Do : (first : Statement) → (others : Items) → Items
    Declare : (first : Declaration) → (others : Items) → Items

pub record Parameter : Type 0 where
  pub type_name : TypeName
  pub name : Name

-- whether there are any
abbrev pub some_in : {A : Type 0} → List A → Bool
some_in [] = false
some_in (x ∷ xs) = true

-- a method without a result is void; a synchronized method locks the monitor of its own object (JLS 8.4.3.6)
pub data Member : Type 0 where
  Fields : (declaration : Declaration) → Member
  Method : (is_synchronized : Bool) → (result : Option TypeName) → (name : Name) → (parameters : List Parameter) →
      (body : Items) →
      Member
  Constructor : (name : Name) → (parameters : List Parameter) → (body : Items) → Member

pub record ClassTree : Type 0 where
  pub name : Name
  pub members : List Member

pub record File : Type 0 where
  pub classes : List ClassTree
