-- Which tokens, at which places, are those of a type, a declaration and a statement. Modifiers have no places in a
-- tree. So their tokens may be anywhere.
use Rattle.std.specs.Prelude.{Bool, true, false, List, [], ◌∷◌, Option, Some, None, codes}
use Rattle.ls_lexer.specs.declared.token.Span.{Span}
use Rattle.ls_lexer.specs.declared.word.Word.{Word}
use Rattle.ls_lexer.specs.declared.word.Word.TheVariants as words
use Rattle.ls_lexer.specs.declared.sign.Sign.{Sign}
use Rattle.ls_lexer.specs.declared.sign.Sign.TheVariants as signs
use Rattle.ls_lexer.specs.Lexemes.{Lexeme, Named, Reserved}
use Rattle.ls_tree.specs.Trees.{Modifier}
use Rattle.ls_tree.specs.PlacedTrees.{Name, Expression, TypeName, Int, Boolean, BooleanArray, Class, Markable}
use Rattle.ls_tree.specs.PlacedTrees.{Declarator, Declaration, Statement, Block, Empty, If, IfElse, While, For, Break}
use Rattle.ls_tree.specs.PlacedTrees.{Continue, Return, Try, Perform, Simple, Synchronized, Assign, Add, Count}
use Rattle.ls_tree.specs.PlacedTrees.{Evaluate, Opening, Declares, Performs, Items, NoItem, Do, Declare}
use Rattle.ls_parser_spelling.specs.Spelling.{spell_modifier, count_sign}
use Rattle.ls_parser_spelling.specs.Places.{Spot, spot, sign, named, upto, At, ClassNameAt}

abbrev pub word : Word → Span → Spot
word w s = spot (Reserved w) s

-- what begins the tokens, and leaves the rest
abbrev pub Begins : Type 0 → Type 1
Begins A = A → List Spot → List Spot → Type 0

-- these tokens, at whichever places
pub data Anywhere : List Lexeme → List Spot → List Spot → Type 0 where
  nothing_more : {rest : List Spot} → Anywhere [] rest rest
  one_token : {k : Lexeme} {ks : List Lexeme} {s : Span} {ss rest : List Spot} →
      Anywhere ks ss rest →
      Anywhere (k ∷ ks) (spot k s ∷ ss) rest

-- things one after another
pub data ManyAt {A : Type 0} (one : Begins A) : List A → List Spot → List Spot → Type 0 where
  none_left : {rest : List Spot} → ManyAt one [] rest rest
  next_one : {x : A} {xs : List A} {ss middle rest : List Spot} →
      one x ss middle →
      ManyAt one xs middle rest →
      ManyAt one (x ∷ xs) ss rest

-- something after a comma
pub data BehindComma {A : Type 0} (one : Begins A) : A → List Spot → List Spot → Type 0 where
  behind_comma_at : {x : A} {comma : Span} {ss rest : List Spot} →
      one x ss rest →
      BehindComma one x (sign signs.Comma comma ∷ ss) rest

abbrev pub ModifierAt : Begins Modifier
ModifierAt m ss rest = Anywhere (spell_modifier m) ss rest

pub data TypeAt : TypeName → List Spot → List Spot → Type 0 where
  int_at : {s : Span} {rest : List Spot} → TypeAt Int (word words.Int s ∷ rest) rest
  boolean_at : {s : Span} {rest : List Spot} → TypeAt Boolean (word words.Boolean s ∷ rest) rest
  boolean_array_at : {s opening last : Span} {rest : List Spot} →
      TypeAt BooleanArray (word words.Boolean s ∷ sign signs.OpenBracket opening ∷ sign signs.CloseBracket last ∷ rest)
      rest
  class_type_at : {name : Name} {rest : List Spot} → TypeAt (Class name) (named name ∷ rest) rest
  markable_at : {name : Name} {s : Span} {ss rest : List Spot} →
      ClassNameAt name ss rest → TypeAt (Markable name) (spot (Named (codes "AtomicMarkableReference")) s ∷ ss) rest

-- a declared name, with the value that it begins with, or without a value
pub data DeclaratorAt : Declarator → List Spot → List Spot → Type 0 where
  no_value_at : {name : Name} {rest : List Spot} →
      DeclaratorAt (record { name = name; value = None }) (named name ∷ rest) rest
  value_at : {name : Name} {value : Expression} {assign : Span} {ss rest : List Spot} →
      At value ss rest →
      DeclaratorAt (record { name = name; value = Some value }) (named name ∷ sign signs.Assign assign ∷ ss) rest

-- the declarators after the type of a declaration, and the semicolon
pub data DeclaratorsAt : Declarator → List Declarator → List Spot → List Spot → Type 0 where
  declarators_at : {first : Declarator} {more : List Declarator} {semicolon : Span} {ss middle rest : List Spot} →
      DeclaratorAt first ss middle →
      ManyAt (BehindComma DeclaratorAt) more middle (sign signs.Semicolon semicolon ∷ rest) →
      DeclaratorsAt first more ss rest

pub data DeclarationAt : Declaration → List Spot → List Spot → Type 0 where
  declaration_at : {modifiers : List Modifier} {d : Declaration} {ss behind middle rest : List Spot} →
      ManyAt ModifierAt modifiers ss behind → TypeAt d.type_name behind middle →
      DeclaratorsAt d.first d.more middle rest →
      DeclarationAt d ss rest

-- an expression in parentheses
pub data ConditionAt : Expression → List Spot → List Spot → Type 0 where
  condition_at : {e : Expression} {opening last : Span} {ss rest : List Spot} →
      At e ss (sign signs.CloseParen last ∷ rest) → ConditionAt e (sign signs.OpenParen opening ∷ ss) rest

-- a label and a colon, or nothing
pub data LabelAt : Option Name → List Spot → List Spot → Type 0 where
  no_label_at : {rest : List Spot} → LabelAt None rest rest
  label_at : {name : Name} {colon : Span} {rest : List Spot} →
      LabelAt (Some name) (named name ∷ sign signs.Colon colon ∷ rest) rest

-- a label or nothing, and a semicolon, which is at the span
pub data JumpAt : Option Name → Span → List Spot → List Spot → Type 0 where
  bare_jump_at : {last : Span} {rest : List Spot} → JumpAt None last (sign signs.Semicolon last ∷ rest) rest
  jump_to_at : {name : Name} {last : Span} {rest : List Spot} →
      JumpAt (Some name) last (named name ∷ sign signs.Semicolon last ∷ rest) rest

-- a value or nothing, and a semicolon, which is at the span
pub data ReturnedAt : Option Expression → Span → List Spot → List Spot → Type 0 where
  nothing_at : {last : Span} {rest : List Spot} → ReturnedAt None last (sign signs.Semicolon last ∷ rest) rest
  returned_at : {e : Expression} {last : Span} {ss rest : List Spot} →
      At e ss (sign signs.Semicolon last ∷ rest) →
      ReturnedAt (Some e) last ss rest

pub data SimpleAt : Simple → List Spot → List Spot → Type 0 where
  assign_at : {target value : Expression} {s : Span} {ss middle rest : List Spot} →
      At target ss (sign signs.Assign s ∷ middle) → At value middle rest → SimpleAt (Assign target value) ss rest
  add_at : {target value : Expression} {s : Span} {ss middle rest : List Spot} →
      At target ss (sign signs.PlusAssign s ∷ middle) → At value middle rest → SimpleAt (Add target value) ss rest
  count_before_at : {up : Bool} {target : Expression} {s : Span} {ss rest : List Spot} →
      At target ss rest → SimpleAt (Count up true target) (sign (count_sign up) s ∷ ss) rest
  count_behind_at : {up : Bool} {target : Expression} {s : Span} {ss rest : List Spot} →
      At target ss (sign (count_sign up) s ∷ rest) → SimpleAt (Count up false target) ss rest
  evaluate_at : {value : Expression} {ss rest : List Spot} → At value ss rest → SimpleAt (Evaluate value) ss rest

-- one simple form or more, with commas between them
pub data SomeSimplesAt : List Simple → List Spot → List Spot → Type 0 where
  some_simples_at : {first : Simple} {others : List Simple} {ss middle rest : List Spot} →
      SimpleAt first ss middle → ManyAt (BehindComma SimpleAt) others middle rest →
      SomeSimplesAt (first ∷ others) ss rest

-- simple forms, or none, and a sign after them
pub data SimplesAt (stop : Sign) : List Simple → List Spot → List Spot → Type 0 where
  no_simple_at : {last : Span} {rest : List Spot} → SimplesAt stop [] (sign stop last ∷ rest) rest
  simples_at : {simples : List Simple} {last : Span} {ss rest : List Spot} →
      SomeSimplesAt simples ss (sign stop last ∷ rest) → SimplesAt stop simples ss rest

-- what a `for` begins with, and the semicolon
pub data OpeningAt : Opening → List Spot → List Spot → Type 0 where
  declares_at : {declaration : Declaration} {ss rest : List Spot} →
      DeclarationAt declaration ss rest →
      OpeningAt (Declares declaration) ss rest
  performs_at : {simples : List Simple} {ss rest : List Spot} →
      SimplesAt signs.Semicolon simples ss rest →
      OpeningAt (Performs simples) ss rest

-- the head of a `for`, in parentheses
pub data HeadAt : Opening → Option Expression → List Simple → List Spot → List Spot → Type 0 where
  head_at : {opening : Opening} {condition : Option Expression} {updates : List Simple} {paren semicolon : Span}
      {ss middle behind rest : List Spot} →
      OpeningAt opening ss middle → ReturnedAt condition semicolon middle behind →
      SimplesAt signs.CloseParen updates behind rest →
      HeadAt opening condition updates (sign signs.OpenParen paren ∷ ss) rest

-- Only the statements `break`, `continue` and `return` keep a span. It goes up to the semicolon.
mutual
  pub data StatementAt : Statement → List Spot → List Spot → Type 0 where
    block_statement_at : {items : Items} {ss rest : List Spot} →
        BlockAt items ss rest →
        StatementAt (Block items) ss rest
    empty_at : {s : Span} {rest : List Spot} → StatementAt Empty (sign signs.Semicolon s ∷ rest) rest
    if_at : {condition : Expression} {first : Statement} {s : Span} {ss middle rest : List Spot} →
        ConditionAt condition ss middle → StatementAt first middle rest →
        StatementAt (If condition first) (word words.If s ∷ ss) rest
    if_else_at : {condition : Expression} {first second : Statement} {s other : Span}
        {ss middle behind rest : List Spot} →
        ConditionAt condition ss middle → StatementAt first middle (word words.Else other ∷ behind) →
        StatementAt second behind rest →
        StatementAt (IfElse condition first second) (word words.If s ∷ ss) rest
    while_at : {label : Option Name} {condition : Expression} {body : Statement} {s : Span}
        {ss middle behind rest : List Spot} →
        LabelAt label ss (word words.While s ∷ middle) → ConditionAt condition middle behind →
        StatementAt body behind rest →
        StatementAt (While label condition body) ss rest
    for_at : {label : Option Name} {opening : Opening} {condition : Option Expression} {updates : List Simple}
        {body : Statement} {s : Span} {ss middle behind rest : List Spot} →
        LabelAt label ss (word words.For s ∷ middle) → HeadAt opening condition updates middle behind →
        StatementAt body behind rest →
        StatementAt (For label opening condition updates body) ss rest
    break_at : {label : Option Name} {from last : Span} {ss rest : List Spot} →
        JumpAt label last ss rest → StatementAt (Break label (upto from last)) (word words.Break from ∷ ss) rest
    continue_at : {label : Option Name} {from last : Span} {ss rest : List Spot} →
        JumpAt label last ss rest → StatementAt (Continue label (upto from last)) (word words.Continue from ∷ ss) rest
    return_at : {value : Option Expression} {from last : Span} {ss rest : List Spot} →
        ReturnedAt value last ss rest → StatementAt (Return value (upto from last)) (word words.Return from ∷ ss) rest
    try_at : {body finally : Items} {s other : Span} {ss middle rest : List Spot} →
        BlockAt body ss (word words.Finally other ∷ middle) → BlockAt finally middle rest →
        StatementAt (Try body finally) (word words.Try s ∷ ss) rest
    synchronized_at : {target : Expression} {body : Items} {s : Span} {ss middle rest : List Spot} →
        ConditionAt target ss middle → BlockAt body middle rest →
        StatementAt (Synchronized target body) (word words.Synchronized s ∷ ss) rest
    perform_at : {simple : Simple} {semicolon : Span} {ss rest : List Spot} →
        SimpleAt simple ss (sign signs.Semicolon semicolon ∷ rest) → StatementAt (Perform simple) ss rest

  -- statements and declarations in braces
  pub data BlockAt : Items → List Spot → List Spot → Type 0 where
    block_at : {items : Items} {opening last : Span} {ss rest : List Spot} →
        ItemsAt items ss (sign signs.CloseBrace last ∷ rest) → BlockAt items (sign signs.OpenBrace opening ∷ ss) rest

  pub data ItemsAt : Items → List Spot → List Spot → Type 0 where
    no_item_at : {rest : List Spot} → ItemsAt NoItem rest rest
    do_at : {first : Statement} {others : Items} {ss middle rest : List Spot} →
        StatementAt first ss middle → ItemsAt others middle rest → ItemsAt (Do first others) ss rest
    declare_at : {first : Declaration} {others : Items} {ss middle rest : List Spot} →
        DeclarationAt first ss middle → ItemsAt others middle rest → ItemsAt (Declare first others) ss rest
