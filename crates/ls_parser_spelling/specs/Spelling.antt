-- The tokens of each tree.
use Rattle.std.specs.Prelude.{Bool, true, false, List, [], ◌∷◌, ◌++◌, Option, Some, None, codes}
use Rattle.std.specs.List.{flat_map}
use Rattle.ls_lexer.specs.Lexemes.{Lexeme, Named, Numeral, Reserved, Marked}
use Rattle.ls_lexer.specs.declared.word.Word.TheVariants as words
use Rattle.ls_lexer.specs.declared.sign.Sign.{Sign}
use Rattle.ls_lexer.specs.declared.sign.Sign.TheVariants as signs
use Rattle.ls_tree.specs.declared.tree.UnaryOp.{UnaryOp}
use Rattle.ls_tree.specs.declared.tree.UnaryOp.TheVariants as unary
use Rattle.ls_tree.specs.declared.tree.BinaryOp.{BinaryOp}
use Rattle.ls_tree.specs.declared.tree.BinaryOp.TheVariants as binary
use Rattle.ls_tree.specs.Trees.{Text, Expression, Number, True, False, Null, This, Name, Paren, Unary, Binary, Field}
use Rattle.ls_tree.specs.Trees.{Call, CallOn, Item, New, NewMarkable, NewArray, Expressions, NoExpression}
use Rattle.ls_tree.specs.Trees.{MoreExpressions, Modifier, Public, Protected, Private, Final, Volatile, Annotation}
use Rattle.ls_tree.specs.Trees.{TypeName, Int, Boolean, BooleanArray, Class, Markable, Declarator, Declaration}
use Rattle.ls_tree.specs.Trees.{Statement, Block, Empty, If, IfElse, While, For, Break, Continue, Return, Try}
use Rattle.ls_tree.specs.Trees.{Perform, Simple, Synchronized, Assign, Add, Count, Evaluate, Opening, Declares}
use Rattle.ls_tree.specs.Trees.{Performs, Items, NoItem, Do, Declare, Piece, Doing, Declaring, Parameter, Member}
use Rattle.ls_tree.specs.Trees.{Fields, Method, Constructor, ClassTree, Dotted, Import, File}

abbrev pub sign_of_unary : UnaryOp → Sign
sign_of_unary unary.Minus = signs.Minus
sign_of_unary unary.Not = signs.Not

abbrev pub sign_of : BinaryOp → Sign
sign_of binary.Or = signs.Or
sign_of binary.And = signs.And
sign_of binary.Equal = signs.Equal
sign_of binary.NotEqual = signs.NotEqual
sign_of binary.Less = signs.Less
sign_of binary.Greater = signs.Greater
sign_of binary.LessEqual = signs.LessEqual
sign_of binary.GreaterEqual = signs.GreaterEqual
sign_of binary.Add = signs.Plus
sign_of binary.Subtract = signs.Minus
sign_of binary.Multiply = signs.Star
sign_of binary.Divide = signs.Slash
sign_of binary.Remainder = signs.Percent

-- between parentheses
abbrev pub in_parens : List Lexeme → List Lexeme
in_parens ks = Marked signs.OpenParen ∷ (ks ++ Marked signs.CloseParen ∷ [])

abbrev pub in_braces : List Lexeme → List Lexeme
in_braces ks = Marked signs.OpenBrace ∷ (ks ++ Marked signs.CloseBrace ∷ [])

-- `AtomicMarkableReference<name>`
abbrev pub markable : Text → List Lexeme
markable name = Named (codes "AtomicMarkableReference") ∷ Marked signs.Less ∷ Named name ∷ Marked signs.Greater ∷ []

abbrev mutual
  pub spell_expression : Expression → List Lexeme
  spell_expression (Number text) = Numeral text ∷ []
  spell_expression True = Reserved words.True ∷ []
  spell_expression False = Reserved words.False ∷ []
  spell_expression Null = Reserved words.Null ∷ []
  spell_expression This = Reserved words.This ∷ []
  spell_expression (Name text) = Named text ∷ []
  spell_expression (Paren inner) = in_parens (spell_expression inner)
  spell_expression (Unary op operand) = Marked (sign_of_unary op) ∷ spell_expression operand
  spell_expression (Binary op left right) = spell_expression left ++ Marked (sign_of op) ∷ spell_expression right
  spell_expression (Field target name) = spell_expression target ++ Marked signs.Dot ∷ Named name ∷ []
  spell_expression (Call name arguments) = Named name ∷ in_parens (spell_expressions arguments)
  spell_expression (CallOn target name arguments) = spell_expression target ++ Marked signs.Dot ∷ Named name ∷
      in_parens (spell_expressions arguments)
  spell_expression (Item array index) = spell_expression array ++ Marked signs.OpenBracket ∷
      (spell_expression index ++ Marked signs.CloseBracket ∷ [])
  spell_expression (New class arguments) = Reserved words.New ∷ Named class ∷ in_parens (spell_expressions arguments)
  spell_expression (NewMarkable class arguments) =
      Reserved words.New ∷ (markable class ++ in_parens (spell_expressions arguments))
  spell_expression (NewArray length) = Reserved words.New ∷ Reserved words.Boolean ∷ Marked signs.OpenBracket ∷
      (spell_expression length ++ Marked signs.CloseBracket ∷ [])

  pub spell_expressions : Expressions → List Lexeme
  spell_expressions NoExpression = []
  spell_expressions (MoreExpressions first others) = spell_expression first ++ spell_others others

  -- the arguments after the first, each after a comma
  pub spell_others : Expressions → List Lexeme
  spell_others NoExpression = []
  spell_others (MoreExpressions first others) = Marked signs.Comma ∷ (spell_expression first ++ spell_others others)

abbrev pub spell_modifier : Modifier → List Lexeme
spell_modifier Public = Reserved words.Public ∷ []
spell_modifier Protected = Reserved words.Protected ∷ []
spell_modifier Private = Reserved words.Private ∷ []
spell_modifier Final = Reserved words.Final ∷ []
spell_modifier Volatile = Reserved words.Volatile ∷ []
spell_modifier (Annotation name) = Marked signs.At ∷ Named name ∷ []

abbrev pub spell_type : TypeName → List Lexeme
spell_type Int = Reserved words.Int ∷ []
spell_type Boolean = Reserved words.Boolean ∷ []
spell_type BooleanArray = Reserved words.Boolean ∷ Marked signs.OpenBracket ∷ Marked signs.CloseBracket ∷ []
spell_type (Class name) = Named name ∷ []
spell_type (Markable name) = markable name

abbrev pub spell_initial : Option Expression → List Lexeme
spell_initial None = []
spell_initial (Some value) = Marked signs.Assign ∷ spell_expression value

abbrev pub spell_declarator : Declarator → List Lexeme
spell_declarator d = Named d.name ∷ spell_initial d.value

abbrev pub spell_declaration : Declaration → List Lexeme
spell_declaration d =
    flat_map spell_modifier d.modifiers ++ spell_type d.type_name ++ spell_declarator d.first
    ++ flat_map (λ m. Marked signs.Comma ∷ spell_declarator m) d.more ++ Marked signs.Semicolon ∷ []

abbrev pub spell_label : Option Text → List Lexeme
spell_label None = []
spell_label (Some name) = Named name ∷ []

abbrev pub spell_label_before : Option Text → List Lexeme
spell_label_before None = []
spell_label_before (Some name) = Named name ∷ Marked signs.Colon ∷ []

abbrev pub spell_value : Option Expression → List Lexeme
spell_value None = []
spell_value (Some value) = spell_expression value

abbrev pub count_sign : Bool → Sign
count_sign true = signs.Increment
count_sign false = signs.Decrement

abbrev pub spell_simple : Simple → List Lexeme
spell_simple (Assign target value) = spell_expression target ++ Marked signs.Assign ∷ spell_expression value
spell_simple (Add target value) = spell_expression target ++ Marked signs.PlusAssign ∷ spell_expression value
spell_simple (Count up true target) = Marked (count_sign up) ∷ spell_expression target
spell_simple (Count up false target) = spell_expression target ++ Marked (count_sign up) ∷ []
spell_simple (Evaluate value) = spell_expression value

abbrev pub spell_simples : List Simple → List Lexeme
spell_simples [] = []
spell_simples (s ∷ ss) = spell_simple s ++ flat_map (λ t. Marked signs.Comma ∷ spell_simple t) ss

-- with the semicolon after it
abbrev pub spell_opening : Opening → List Lexeme
spell_opening (Declares declaration) = spell_declaration declaration
spell_opening (Performs simples) = spell_simples simples ++ Marked signs.Semicolon ∷ []

-- what is in the parentheses of a `for`
abbrev pub spell_head : Opening → Option Expression → List Simple → List Lexeme
spell_head opening condition updates = spell_opening opening ++ spell_value condition ++ Marked signs.Semicolon ∷
    spell_simples updates

abbrev mutual
  pub spell_statement : Statement → List Lexeme
  spell_statement (Block items) = in_braces (spell_items items)
  spell_statement Empty = Marked signs.Semicolon ∷ []
  spell_statement (If condition first) =
      Reserved words.If ∷ (in_parens (spell_expression condition) ++ spell_statement first)
  spell_statement (IfElse condition first second) =
      Reserved words.If ∷ (in_parens (spell_expression condition) ++ spell_statement first ++ Reserved words.Else ∷
      spell_statement second)
  spell_statement (While label condition body) = spell_label_before label ++ Reserved words.While ∷
      (in_parens (spell_expression condition) ++ spell_statement body)
  spell_statement (For label opening condition updates body) =
      spell_label_before label ++ Reserved words.For ∷
      (in_parens (spell_head opening condition updates) ++ spell_statement body)
  spell_statement (Break label) = Reserved words.Break ∷ (spell_label label ++ Marked signs.Semicolon ∷ [])
  spell_statement (Continue label) = Reserved words.Continue ∷ (spell_label label ++ Marked signs.Semicolon ∷ [])
  spell_statement (Return value) = Reserved words.Return ∷ (spell_value value ++ Marked signs.Semicolon ∷ [])
  spell_statement (Try body finally) =
      Reserved words.Try ∷ (in_braces (spell_items body) ++ Reserved words.Finally ∷ in_braces (spell_items finally))
  spell_statement (Synchronized target body) =
      Reserved words.Synchronized ∷ (in_parens (spell_expression target) ++ in_braces (spell_items body))
  spell_statement (Perform simple) = spell_simple simple ++ Marked signs.Semicolon ∷ []

  pub spell_items : Items → List Lexeme
  spell_items NoItem = []
  spell_items (Do first others) = spell_statement first ++ spell_items others
  spell_items (Declare first others) = spell_declaration first ++ spell_items others

abbrev pub spell_piece : Piece → List Lexeme
spell_piece (Doing statement) = spell_statement statement
spell_piece (Declaring declaration) = spell_declaration declaration

abbrev pub spell_parameter : Parameter → List Lexeme
spell_parameter p = flat_map spell_modifier p.modifiers ++ spell_type p.type_name ++ Named p.name ∷ []

abbrev pub spell_parameters : List Parameter → List Lexeme
spell_parameters [] = []
spell_parameters (p ∷ ps) = spell_parameter p ++ flat_map (λ q. Marked signs.Comma ∷ spell_parameter q) ps

abbrev pub spell_result : Option TypeName → List Lexeme
spell_result None = Reserved words.Void ∷ []
spell_result (Some type_name) = spell_type type_name

-- `synchronized`, and the modifiers after it
abbrev pub spell_locked : List Modifier → List Lexeme
spell_locked ms = Reserved words.Synchronized ∷ flat_map spell_modifier ms

abbrev pub spell_member : Member → List Lexeme
spell_member (Fields declaration) = spell_declaration declaration
spell_member (Method modifiers locked result name parameters body) =
    flat_map spell_modifier modifiers ++ flat_map spell_locked locked ++ spell_result result ++ Named name ∷
    (in_parens (spell_parameters parameters) ++ in_braces (spell_items body))
spell_member (Constructor modifiers name parameters body) =
    flat_map spell_modifier modifiers ++ Named name ∷
    (in_parens (spell_parameters parameters) ++ in_braces (spell_items body))

abbrev pub spell_class : ClassTree → List Lexeme
spell_class c = flat_map spell_modifier c.modifiers ++ Reserved words.Class ∷ Named c.name ∷
    in_braces (flat_map spell_member c.members)

abbrev pub spell_dotted : Dotted → List Lexeme
spell_dotted d = Named d.first ∷ flat_map (λ name. Marked signs.Dot ∷ Named name ∷ []) d.more

abbrev pub spell_all : Bool → List Lexeme
spell_all true = Marked signs.Dot ∷ Marked signs.Star ∷ []
spell_all false = []

abbrev pub spell_import : Import → List Lexeme
spell_import i = Reserved words.Import ∷ (spell_dotted i.path ++ spell_all i.all ++ Marked signs.Semicolon ∷ [])

abbrev pub spell_package : Option Dotted → List Lexeme
spell_package None = []
spell_package (Some name) = Reserved words.Package ∷ (spell_dotted name ++ Marked signs.Semicolon ∷ [])

-- the tokens of a file
abbrev pub spell : File → List Lexeme
spell f = spell_package f.package_name ++ flat_map spell_import f.imports ++ flat_map spell_class f.classes
