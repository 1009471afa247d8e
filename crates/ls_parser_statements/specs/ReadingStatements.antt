-- Reading of statements.
use Rattle.std.specs.Prelude.{ℕ, zero, suc, Bool, true, false, List, [], ◌∷◌, Option, Some, None, if◌then◌else◌}
use Rattle.ls_lexer.specs.declared.word.Word.{Word}
use Rattle.ls_lexer.specs.declared.word.Word.TheVariants as words
use Rattle.ls_lexer.specs.declared.sign.Sign.{Sign}
use Rattle.ls_lexer.specs.declared.sign.Sign.TheVariants as signs
use Rattle.ls_lexer.specs.Lexemes.{Lexeme, Named, Numeral, Reserved, Marked}
use Rattle.ls_tree.specs.Trees.{Text, Expression, Declaration, Simple, Statement, Block, Empty, If, IfElse, While}
use Rattle.ls_tree.specs.Trees.{For, Break, Continue, Return, Try, Perform, Synchronized, Assign, Add, Count}
use Rattle.ls_tree.specs.Trees.{Evaluate, Opening, Declares, Performs, Items, Piece, Doing, Declaring, collected}
use Rattle.ls_tree.specs.WellFormed.{is_call}
use Rattle.ls_parser_tokens.specs.Reading.{◌>>=◌, Reader, given, after_sign, after_word, name_at, starts, many_from}
use Rattle.ls_parser_tokens.specs.Reading.{many_at, behind_comma, not_yet}
use Rattle.ls_parser_expressions.specs.ReadingExpressions.{expression_at, post_at}
use Rattle.ls_parser_declarations.specs.ReadingDeclarations.{declaration_at, starts_declaration}

abbrev pub declared_at : Reader Declaration → Reader Piece
declared_at declaration ks = declaration ks >>= λ d. Some (Declaring d.0, d.1)

abbrev pub piece_at : Reader Declaration → Reader Statement → Reader Piece
piece_at declaration statement ks =
    if starts_declaration ks
    then declared_at declaration ks
    else (statement ks >>= λ a. Some (Doing a.0, a.1))

-- statements and declarations in braces
abbrev pub braces_at : Reader Piece → Reader Items
braces_at piece ks =
    after_sign signs.OpenBrace ks >>= λ rest. many_at (not_yet signs.CloseBrace) piece rest >>= λ pieces.
    after_sign signs.CloseBrace pieces.1 >>= λ end. Some (collected pieces.0, end)

abbrev pub block_in : Reader Items → Reader Statement
block_in block ks = block ks >>= λ items. Some (Block items.0, items.1)

-- an expression in parentheses
abbrev pub condition_at : Reader Expression → Reader Expression
condition_at expression ks =
    after_sign signs.OpenParen ks >>= λ rest. expression rest >>= λ condition.
    after_sign signs.CloseParen condition.1 >>= λ end. Some (condition.0, end)

-- what comes after `if`
abbrev pub if_at : Reader Expression → Reader Statement → Reader Statement
if_at expression statement ks =
    condition_at expression ks >>= λ condition. statement condition.1 >>= λ first. given (after_word words.Else first.1)
    (λ rest. statement rest >>= λ second. Some (IfElse condition.0 first.0 second.0, second.1))
    (Some (If condition.0 first.0, first.1))

-- what comes after `while`
abbrev pub while_at : Reader Expression → Reader Statement → Option Text → Reader Statement
while_at expression statement label ks =
    condition_at expression ks >>= λ condition. statement condition.1 >>= λ body. Some (
      While label condition.0 body.0,
      body.1,
    )

-- a label or none, and a semicolon
abbrev pub jump_at : Reader (Option Text)
jump_at ks =
    given (name_at ks)
    (λ name. after_sign signs.Semicolon name.1 >>= λ rest. Some (Some name.0, rest))
    (after_sign signs.Semicolon ks >>= λ rest. Some (None, rest))

-- an expression and a semicolon
abbrev pub ended_at : Reader Expression → Reader Expression
ended_at expression ks = expression ks >>= λ value. after_sign signs.Semicolon value.1 >>= λ rest. Some (value.0, rest)

-- a value or none, and a semicolon
abbrev pub value_at : Reader Expression → Reader (Option Expression)
value_at expression ks =
    given (after_sign signs.Semicolon ks) (λ rest. Some (None, rest))
    (expression ks >>= λ value. after_sign signs.Semicolon value.1 >>= λ rest. Some (Some value.0, rest))

abbrev pub break_at : Reader Statement
break_at ks = jump_at ks >>= λ label. Some (Break label.0, label.1)

abbrev pub continue_at : Reader Statement
continue_at ks = jump_at ks >>= λ label. Some (Continue label.0, label.1)

-- what comes after `return`
abbrev pub return_at : Reader Expression → Reader Statement
return_at expression ks = value_at expression ks >>= λ value. Some (Return value.0, value.1)

-- what comes after `try`
abbrev pub try_at : Reader Items → Reader Statement
try_at block ks =
    block ks >>= λ body. after_word words.Finally body.1 >>= λ rest.
    block rest >>= λ finally. Some (Try body.0 finally.0, finally.1)

-- what comes after `synchronized`
abbrev pub synchronized_at : Reader Expression → Reader Items → Reader Statement
synchronized_at expression block ks =
    condition_at expression ks >>= λ target. block target.1 >>= λ body. Some (Synchronized target.0 body.0, body.1)

-- a name and a colon
abbrev pub label_at : Reader Text
label_at ks = name_at ks >>= λ name. after_sign signs.Colon name.1 >>= λ rest. Some (name.0, rest)

-- `++` or `--`
abbrev pub counted_at : Reader Bool
counted_at ks =
    given (after_sign signs.Increment ks) (λ rest. Some (true, rest))
    (after_sign signs.Decrement ks >>= λ rest. Some (false, rest))

-- a count after its target, or a call or the making of an object
abbrev pub stepped_at : Expression → Reader Simple
stepped_at target ks =
    given (counted_at ks) (λ up. Some (Count up.0 false target, up.1))
    (if is_call target then Some (Evaluate target, ks) else None)

-- what comes after an expression without an operator, with that expression
abbrev pub used_at : Reader Expression → Expression → Reader Simple
used_at expression target ks =
    given (after_sign signs.Assign ks) (λ rest. expression rest >>= λ value. Some (Assign target value.0, value.1))
    (given (after_sign signs.PlusAssign ks) (λ rest. expression rest >>= λ value. Some (Add target value.0, value.1))
    (stepped_at target ks))

abbrev pub simple_from : Reader Expression → Reader Expression → Reader Simple
simple_from post expression ks =
    given (counted_at ks) (λ up. post up.1 >>= λ target. Some (Count up.0 true target.0, target.1))
    (post ks >>= λ target. used_at expression target.0 target.1)

-- a simple form of at most this height
abbrev pub simple_at : ℕ → Reader Simple
simple_at zero ks = None
simple_at (suc limit) ks = simple_from (post_at limit false) (expression_at limit) ks

-- one simple form or more, with commas between them
abbrev pub simples_at : Reader Simple → Reader (List Simple)
simples_at simple ks =
    simple ks >>= λ first. many_from (first.0 ∷ []) (starts signs.Comma) (behind_comma simple) first.1

-- simple forms, or none, and a sign after them
abbrev pub simples_to : Sign → Reader Simple → Reader (List Simple)
simples_to stop simple ks =
    given (after_sign stop ks) (λ rest. Some ([], rest))
    (simples_at simple ks >>= λ all. after_sign stop all.1 >>= λ rest. Some (all.0, rest))

-- what a `for` begins with, and a semicolon
abbrev pub opening_at : Reader Declaration → Reader Simple → Reader Opening
opening_at declaration simple ks =
    if starts_declaration ks
    then (declaration ks >>= λ d. Some (Declares d.0, d.1))
    else (simples_to signs.Semicolon simple ks >>= λ all. Some (Performs all.0, all.1))

-- what comes after the opening of a `for`: a condition or none, and its updates
abbrev pub turns_at : Reader Simple → Reader Expression → Reader (Option Expression × List Simple)
turns_at simple expression ks =
    value_at expression ks >>= λ condition.
    simples_to signs.CloseParen simple condition.1 >>= λ updates. Some ((condition.0, updates.0), updates.1)

-- the head of a `for`, in parentheses
abbrev pub head_at : Reader Declaration →
    Reader Simple →
    Reader Expression →
    Reader (Opening × Option Expression × List Simple)
head_at declaration simple expression ks =
    after_sign signs.OpenParen ks >>= λ rest. opening_at declaration simple rest >>= λ opening.
    turns_at simple expression opening.1 >>= λ turns. Some ((opening.0, turns.0.0, turns.0.1), turns.1)

-- what comes after `for`
abbrev pub for_at : Reader (Opening × Option Expression × List Simple) →
    Reader Statement →
    Option Text →
    Reader Statement
for_at head statement label ks =
    head ks >>= λ h. statement h.1 >>= λ body. Some (For label h.0.0 h.0.1 h.0.2 body.0, body.1)

-- a loop after its label
abbrev pub loop_at : Reader Expression →
    Reader (Opening × Option Expression × List Simple) →
    Reader Statement →
    Text →
    Reader Statement
loop_at expression head statement label ks =
    given (after_word words.While ks) (λ rest. while_at expression statement (Some label) rest)
    (after_word words.For ks >>= λ rest. for_at head statement (Some label) rest)

-- a simple form and a semicolon
abbrev pub perform_at : Reader Simple → Reader Statement
perform_at simple ks = simple ks >>= λ s. after_sign signs.Semicolon s.1 >>= λ rest. Some (Perform s.0, rest)

-- a loop with a label, or a simple form
abbrev pub other_at : Reader Simple →
    Reader Expression →
    Reader (Opening × Option Expression × List Simple) →
    Reader Statement →
    Reader Statement
other_at simple expression head statement ks =
    given (label_at ks) (λ label. loop_at expression head statement label.0 label.1) (perform_at simple ks)

pub data First : Type 0 where
  FirstEmpty : First
  FirstBlock : First
  FirstIf : First
  FirstWhile : First
  FirstFor : First
  FirstBreak : First
  FirstContinue : First
  FirstReturn : First
  FirstTry : First
  FirstSynchronized : First
  FirstOther : First

abbrev pub first_of_sign : Sign → First
first_of_sign signs.Semicolon = FirstEmpty
first_of_sign signs.OpenBrace = FirstBlock
first_of_sign _ = FirstOther

abbrev pub first_of_word : Word → First
first_of_word words.If = FirstIf
first_of_word words.While = FirstWhile
first_of_word words.For = FirstFor
first_of_word words.Break = FirstBreak
first_of_word words.Continue = FirstContinue
first_of_word words.Return = FirstReturn
first_of_word words.Try = FirstTry
first_of_word words.Synchronized = FirstSynchronized
first_of_word _ = FirstOther

abbrev pub first_of : Lexeme → First
first_of (Named text) = FirstOther
first_of (Numeral text) = FirstOther
first_of (Reserved word) = first_of_word word
first_of (Marked sign) = first_of_sign sign

-- a local declaration of at most this height
abbrev pub local_at : ℕ → Reader Declaration
local_at zero ks = None
local_at (suc limit) ks = declaration_at (expression_at limit) ks

-- the head of a `for`, each part of at most this height
abbrev pub head_in : ℕ → Reader (Opening × Option Expression × List Simple)
head_in limit = head_at (local_at limit) (simple_at limit) (expression_at limit)

-- `all` begins with the first token, and `rest` comes after it
abbrev pub statement_from : First → ℕ → Reader Statement → Reader Items → Reader Piece → List Lexeme → Reader Statement
statement_from FirstEmpty limit statement block piece all rest = Some (Empty, rest)
statement_from FirstBlock limit statement block piece all rest = block_in (braces_at piece) all
statement_from FirstIf limit statement block piece all rest = if_at (expression_at limit) statement rest
statement_from FirstWhile limit statement block piece all rest = while_at (expression_at limit) statement None rest
statement_from FirstFor limit statement block piece all rest = for_at (head_in limit) statement None rest
statement_from FirstBreak limit statement block piece all rest = break_at rest
statement_from FirstContinue limit statement block piece all rest = continue_at rest
statement_from FirstReturn limit statement block piece all rest = return_at (expression_at limit) rest
statement_from FirstTry limit statement block piece all rest = try_at block rest
statement_from FirstSynchronized limit statement block piece all rest = synchronized_at (expression_at limit) block rest
statement_from FirstOther limit statement block piece all rest =
    other_at (simple_from (post_at limit false) (expression_at limit)) (expression_at limit) (head_in limit) statement
    all

abbrev pub statement_of : ℕ → Reader Statement → Reader Items → Reader Statement
statement_of limit statement block [] = None
statement_of limit statement block (k ∷ ks) =
    statement_from (first_of k) limit statement block (piece_at (local_at limit) statement) (k ∷ ks) ks

-- a statement and a block of at most this height
unfoldable pub nested_at : ℕ → Reader Statement × Reader Items
nested_at zero = (λ ks. None, λ ks. None)
nested_at (suc limit) =
    let inner = nested_at limit in
    (statement_of limit inner.0 inner.1, braces_at (piece_at (local_at limit) inner.0))

abbrev pub statement_at : ℕ → Reader Statement
statement_at limit = (nested_at limit).0

abbrev pub block_at : ℕ → Reader Items
block_at limit = (nested_at limit).1

-- the statement that a first token begins; the limit is that of the parts of the statement
abbrev pub begun_at : ℕ → First → List Lexeme → Reader Statement
begun_at limit first all rest =
    statement_from first limit (statement_at limit) (block_at limit) (piece_at (local_at limit) (statement_at limit))
    all rest
