-- Which trees the grammar has.
use Rattle.std.specs.Prelude.{◌≡◌, ◌≢◌, ℕ, ◌+◌, ◌<◌, ◌≤◌, max, Bool, true, false, not, ◌||◌, List, [], ◌∷◌, Option}
use Rattle.std.specs.Prelude.{Some, None, IfSome, codes, ⊤}
use Rattle.std.specs.List.{AllByRecursion}
use Rattle.std.specs.Str.{bytes_eq}
use Rattle.ls_tree.specs.declared.tree.UnaryOp.{UnaryOp}
use Rattle.ls_tree.specs.declared.tree.UnaryOp.TheVariants as unary
use Rattle.ls_tree.specs.declared.tree.BinaryOp.{BinaryOp}
use Rattle.ls_tree.specs.declared.tree.BinaryOp.TheVariants as binary
use Rattle.ls_tree.specs.Trees.{Text, Expression, Number, True, False, Null, This, Name, Paren, Unary, Binary, Field}
use Rattle.ls_tree.specs.Trees.{Call, CallOn, Item, New, NewMarkable, NewArray, Expressions, NoExpression}
use Rattle.ls_tree.specs.Trees.{MoreExpressions, Declarator, Declaration, Statement, Block, Empty, If, IfElse, While}
use Rattle.ls_tree.specs.Trees.{For, Break, Continue, Return, Try, Perform, Simple, Synchronized, Assign, Add, Count}
use Rattle.ls_tree.specs.Trees.{Evaluate, Opening, Declares, Performs, Items, NoItem, Do, Declare, Piece, Doing}
use Rattle.ls_tree.specs.Trees.{Declaring, Member, Fields, Method, Constructor, ClassTree, File}

-- how loosely an operator binds
abbrev pub rank_of : BinaryOp → ℕ
rank_of binary.Or = 6
rank_of binary.And = 5
rank_of binary.Equal = 4
rank_of binary.NotEqual = 4
rank_of binary.Less = 3
rank_of binary.Greater = 3
rank_of binary.LessEqual = 3
rank_of binary.GreaterEqual = 3
rank_of binary.Add = 2
rank_of binary.Subtract = 2
rank_of binary.Multiply = 1
rank_of binary.Divide = 1
rank_of binary.Remainder = 1

-- an expression without a binary operator has rank 0
abbrev pub rank : Expression → ℕ
rank (Binary op left right) = rank_of op
rank _ = 0

-- without an operator
abbrev pub is_post : Expression → Bool
is_post (Binary op left right) = false
is_post (Unary op operand) = false
is_post _ = true

abbrev pub is_new_array : Expression → Bool
is_new_array (NewArray length) = true
is_new_array _ = false

-- what may be a statement
abbrev pub is_call : Expression → Bool
is_call (Call name arguments) = true
is_call (CallOn target name arguments) = true
is_call (New class arguments) = true
is_call (NewMarkable class arguments) = true
is_call _ = false

abbrev pub is_minus : UnaryOp → Bool
is_minus unary.Minus = true
is_minus unary.Not = false

-- where a number may come; the largest comes only directly after a unary minus
abbrev pub may_stand : Bool → Text → Bool
may_stand after_minus text = after_minus || not (bytes_eq text (codes "2147483648"))

abbrev mutual
  -- an expression of the grammar; the flag says whether it comes directly after a unary minus
  pub WellFormed : Bool → Expression → Type 0
  WellFormed after_minus (Number text) = after_minus ≡ false → text ≢ codes "2147483648"
  WellFormed after_minus True = ⊤
  WellFormed after_minus False = ⊤
  WellFormed after_minus Null = ⊤
  WellFormed after_minus This = ⊤
  WellFormed after_minus (Name text) = ⊤
  WellFormed after_minus (Paren inner) = WellFormed false inner
  WellFormed after_minus (Unary op operand) = (rank operand ≡ 0) × WellFormed (is_minus op) operand
  WellFormed after_minus (Binary op left right) = (rank left ≤ rank_of op) × (rank right < rank_of op) ×
      WellFormed false left × WellFormed false right
  WellFormed after_minus (Field target name) = (is_post target ≡ true) × WellFormed after_minus target
  WellFormed after_minus (Call name arguments) = AreWellFormed arguments
  WellFormed after_minus (CallOn target name arguments) = (is_post target ≡ true) × WellFormed after_minus target ×
      AreWellFormed arguments
  WellFormed after_minus (Item array index) = (is_post array ≡ true) × (is_new_array array ≡ false) ×
      WellFormed after_minus array × WellFormed false index
  WellFormed after_minus (New class arguments) = AreWellFormed arguments
  WellFormed after_minus (NewMarkable class arguments) = AreWellFormed arguments
  WellFormed after_minus (NewArray length) = WellFormed false length

  pub AreWellFormed : Expressions → Type 0
  AreWellFormed NoExpression = ⊤
  AreWellFormed (MoreExpressions first others) = WellFormed false first × AreWellFormed others

-- Height in nodes: each block, statement, local declaration, expression and pair of parentheses is one.
abbrev mutual
  pub expression_height : Expression → ℕ
  expression_height (Paren inner) = expression_height inner + 1
  expression_height (Unary op operand) = expression_height operand + 1
  expression_height (Binary op left right) = max (expression_height left) (expression_height right) + 1
  expression_height (Field target name) = expression_height target + 1
  expression_height (Call name arguments) = expressions_height arguments + 1
  expression_height (CallOn target name arguments) = max (expression_height target) (expressions_height arguments) + 1
  expression_height (Item array index) = max (expression_height array) (expression_height index) + 1
  expression_height (New class arguments) = expressions_height arguments + 1
  expression_height (NewMarkable class arguments) = expressions_height arguments + 1
  expression_height (NewArray length) = expression_height length + 1
  expression_height _ = 1

  pub expressions_height : Expressions → ℕ
  expressions_height NoExpression = 0
  expressions_height (MoreExpressions first others) = max (expression_height first) (expressions_height others)

abbrev pub value_height : Option Expression → ℕ
value_height None = 0
value_height (Some value) = expression_height value

abbrev pub declarators_height : List Declarator → ℕ
declarators_height [] = 0
declarators_height (d ∷ ds) = max (value_height d.value) (declarators_height ds)

abbrev pub declaration_height : Declaration → ℕ
declaration_height d = declarators_height (d.first ∷ d.more) + 1

abbrev pub simple_height : Simple → ℕ
simple_height (Assign target value) = max (expression_height target) (expression_height value) + 1
simple_height (Add target value) = max (expression_height target) (expression_height value) + 1
simple_height (Count up before target) = expression_height target + 1
simple_height (Evaluate value) = expression_height value + 1

abbrev pub simples_height : List Simple → ℕ
simples_height [] = 0
simples_height (s ∷ ss) = max (simple_height s) (simples_height ss)

abbrev pub opening_height : Opening → ℕ
opening_height (Declares declaration) = declaration_height declaration
opening_height (Performs simples) = simples_height simples

abbrev mutual
  pub statement_height : Statement → ℕ
  statement_height (Block items) = items_height items + 1
  statement_height (If condition first) = max (expression_height condition) (statement_height first) + 1
  statement_height (IfElse condition first second) =
      max (expression_height condition) (max (statement_height first) (statement_height second)) + 1
  statement_height (While label condition body) = max (expression_height condition) (statement_height body) + 1
  statement_height (For label opening condition updates body) =
      max (opening_height opening) (max (value_height condition) (max (simples_height updates) (statement_height body)))
      + 1
  statement_height (Return value) = value_height value + 1
  statement_height (Try body finally) = max (items_height body) (items_height finally) + 2
  statement_height (Synchronized target body) = max (expression_height target) (items_height body + 1) + 1
  statement_height (Perform simple) = simple_height simple
  statement_height _ = 1

  pub items_height : Items → ℕ
  items_height NoItem = 0
  items_height (Do first others) = max (statement_height first) (items_height others)
  items_height (Declare first others) = max (declaration_height first) (items_height others)

abbrev pub piece_height : Piece → ℕ
piece_height (Doing statement) = statement_height statement
piece_height (Declaring declaration) = declaration_height declaration

-- an `else` after it would belong to an `if` in it
abbrev pub ends_open : Statement → Bool
ends_open (If condition first) = true
ends_open (IfElse condition first second) = ends_open second
ends_open (While label condition body) = ends_open body
ends_open (For label opening condition updates body) = ends_open body
ends_open _ = false

abbrev pub WellFormedValue : Option Expression → Type 0
WellFormedValue value = IfSome value (WellFormed false)

abbrev pub WellFormedDeclaration : Declaration → Type 0
WellFormedDeclaration d = AllByRecursion (λ (m : Declarator). WellFormedValue m.value) (d.first ∷ d.more)

abbrev pub WellFormedSimple : Simple → Type 0
WellFormedSimple (Assign target value) = (is_post target ≡ true) × WellFormed false target × WellFormed false value
WellFormedSimple (Add target value) = (is_post target ≡ true) × WellFormed false target × WellFormed false value
WellFormedSimple (Count up before target) = (is_post target ≡ true) × WellFormed false target
WellFormedSimple (Evaluate value) = (is_call value ≡ true) × WellFormed false value

abbrev pub WellFormedSimples : List Simple → Type 0
WellFormedSimples simples = AllByRecursion WellFormedSimple simples

abbrev pub WellFormedOpening : Opening → Type 0
WellFormedOpening (Declares declaration) = WellFormedDeclaration declaration
WellFormedOpening (Performs simples) = WellFormedSimples simples

abbrev mutual
  pub WellFormedStatement : Statement → Type 0
  WellFormedStatement (Block items) = WellFormedItems items
  WellFormedStatement Empty = ⊤
  WellFormedStatement (If condition first) = WellFormed false condition × WellFormedStatement first
  WellFormedStatement (IfElse condition first second) = WellFormed false condition × WellFormedStatement first ×
      (ends_open first ≡ false) × WellFormedStatement second
  WellFormedStatement (While label condition body) = WellFormed false condition × WellFormedStatement body
  WellFormedStatement (For label opening condition updates body) =
      WellFormedOpening opening × WellFormedValue condition × WellFormedSimples updates × WellFormedStatement body
  WellFormedStatement (Break label) = ⊤
  WellFormedStatement (Continue label) = ⊤
  WellFormedStatement (Return value) = WellFormedValue value
  WellFormedStatement (Try body finally) = WellFormedItems body × WellFormedItems finally
  WellFormedStatement (Synchronized target body) = WellFormed false target × WellFormedItems body
  WellFormedStatement (Perform simple) = WellFormedSimple simple

  pub WellFormedItems : Items → Type 0
  WellFormedItems NoItem = ⊤
  WellFormedItems (Do first others) = WellFormedStatement first × WellFormedItems others
  WellFormedItems (Declare first others) = WellFormedDeclaration first × WellFormedItems others

abbrev pub most_nodes : ℕ
most_nodes = 128

abbrev pub WellFormedMember : Member → Type 0
WellFormedMember (Fields declaration) = WellFormedDeclaration declaration ×
    (declarators_height (declaration.first ∷ declaration.more) ≤ most_nodes)
WellFormedMember (Method modifiers locked result name parameters body) =
    WellFormedItems body × (items_height body + 1 ≤ most_nodes)
WellFormedMember (Constructor modifiers name parameters body) =
    WellFormedItems body × (items_height body + 1 ≤ most_nodes)

abbrev pub WellFormedFile : File → Type 0
WellFormedFile f = AllByRecursion (λ (c : ClassTree). AllByRecursion WellFormedMember c.members) f.classes
