-- Trees of the whole grammar, without their places in memory and in the text. A name is its bytes.
use Rattle.std.specs.Prelude.{ℕ, Bool, List, [], ◌∷◌, Option}
use Rattle.ls_tree.specs.declared.tree.UnaryOp.{UnaryOp}
use Rattle.ls_tree.specs.declared.tree.BinaryOp.{BinaryOp}

abbrev pub Text : Type 0
Text = List ℕ

mutual
  pub data Expression : Type 0 where
    Number : (text : Text) → Expression
    True : Expression
    False : Expression
    Null : Expression
    This : Expression
    Name : (text : Text) → Expression
    Paren : (inner : Expression) → Expression
    Unary : (op : UnaryOp) → (operand : Expression) → Expression
    Binary : (op : BinaryOp) → (left right : Expression) → Expression
    Field : (target : Expression) → (name : Text) → Expression
    Call : (name : Text) → (arguments : Expressions) → Expression
    CallOn : (target : Expression) → (name : Text) → (arguments : Expressions) → Expression
    Item : (array index : Expression) → Expression
    New : (class : Text) → (arguments : Expressions) → Expression
    NewMarkable : (class : Text) → (arguments : Expressions) → Expression
    NewArray : (length : Expression) → Expression

  pub data Expressions : Type 0 where
    NoExpression : Expressions
    MoreExpressions : (first : Expression) → (others : Expressions) → Expressions

abbrev pub listed : List Expression → Expressions
listed [] = NoExpression
listed (t ∷ ts) = MoreExpressions t (listed ts)

pub data Modifier : Type 0 where
  Public : Modifier
  Protected : Modifier
  Private : Modifier
  Final : Modifier
  Volatile : Modifier
  Annotation : (name : Text) → Modifier

pub data TypeName : Type 0 where
  Int : TypeName
  Boolean : TypeName
  BooleanArray : TypeName
  Class : (name : Text) → TypeName
  Markable : (name : Text) → TypeName

pub record Declarator : Type 0 where
  pub name : Text
  pub value : Option Expression

pub record Declaration : Type 0 where
  pub modifiers : List Modifier
  pub type_name : TypeName
  pub first : Declarator
  pub more : List Declarator

-- What a statement does at once, and each part of the head of a `for`. It is an assignment, an addition `target +=
-- value`, a count up or down by 1, or a call. The sign of a count comes before or after the target.
pub data Simple : Type 0 where
  Assign : (target value : Expression) → Simple
  Add : (target value : Expression) → Simple
  Count : (up before : Bool) → (target : Expression) → Simple
  Evaluate : (value : Expression) → Simple

-- what a `for` begins with
pub data Opening : Type 0 where
  Declares : (declaration : Declaration) → Opening
  Performs : (simples : List Simple) → Opening

mutual
  pub data Statement : Type 0 where
    Block : (items : Items) → Statement
    Empty : Statement
    If : (condition : Expression) → (first : Statement) → Statement
    IfElse : (condition : Expression) → (first second : Statement) → Statement
    While : (label : Option Text) → (condition : Expression) → (body : Statement) → Statement
    For : (label : Option Text) → (opening : Opening) → (condition : Option Expression) → (updates : List Simple) →
        (body : Statement) →
        Statement
    Break : (label : Option Text) → Statement
    Continue : (label : Option Text) → Statement
    Return : (value : Option Expression) → Statement
    Try : (body finally : Items) → Statement
    Synchronized : (target : Expression) → (body : Items) → Statement
    Perform : (simple : Simple) → Statement

  pub data Items : Type 0 where
    NoItem : Items
    Do : (first : Statement) → (others : Items) → Items
    Declare : (first : Declaration) → (others : Items) → Items

-- one statement or declaration of a block
pub data Piece : Type 0 where
  Doing : (statement : Statement) → Piece
  Declaring : (declaration : Declaration) → Piece

abbrev pub put_before : Piece → Items → Items
put_before (Doing statement) items = Do statement items
put_before (Declaring declaration) items = Declare declaration items

abbrev pub collected : List Piece → Items
collected [] = NoItem
collected (p ∷ ps) = put_before p (collected ps)

pub record Parameter : Type 0 where
  pub modifiers : List Modifier
  pub type_name : TypeName
  pub name : Text

-- The modifiers of a method are those before the first `synchronized`, and for each of these words those after it.
pub data Member : Type 0 where
  Fields : (declaration : Declaration) → Member
  Method : (modifiers : List Modifier) → (locked : List (List Modifier)) → (result : Option TypeName) →
      (name : Text) →
      (parameters : List Parameter) →
      (body : Items) →
      Member
  Constructor : (modifiers : List Modifier) → (name : Text) → (parameters : List Parameter) → (body : Items) → Member

pub record ClassTree : Type 0 where
  pub modifiers : List Modifier
  pub name : Text
  pub members : List Member

pub record Dotted : Type 0 where
  pub first : Text
  pub more : List Text

pub record Import : Type 0 where
  pub path : Dotted
  pub all : Bool

pub record File : Type 0 where
  pub package_name : Option Dotted
  pub imports : List Import
  pub classes : List ClassTree
