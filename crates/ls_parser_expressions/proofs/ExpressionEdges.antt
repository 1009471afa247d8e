-- How an expression begins, and what follows it.
use Rattle.std.proofs.Common.{◌≡◌, ℕ, ◌<◌, ◌≤◌, Bool, true, false, eqb, List, ◌∷◌, Some, None, refl, ap, ◌∙◌, arith}
use Rattle.std.proofs.lemmas.Bool.{eq-eqb, ne_eqb}
use Rattle.ls_lexer.specs.declared.sign.Sign.TheVariants as signs
use Rattle.ls_lexer.specs.declared.word.Word.TheVariants as words
use Rattle.ls_lexer.specs.Lexemes.{Lexeme, Named, Numeral, Reserved, Marked}
use Rattle.ls_tree.specs.declared.tree.UnaryOp.{UnaryOp}
use Rattle.ls_tree.specs.declared.tree.UnaryOp.TheVariants as unary
use Rattle.ls_tree.specs.declared.tree.BinaryOp.{BinaryOp}
use Rattle.ls_tree.specs.declared.tree.BinaryOp.TheVariants as binary
use Rattle.ls_tree.specs.Trees.{Text, Expression, Number, True, False, Null, This, Name, Paren, Unary, Binary, Field}
use Rattle.ls_tree.specs.Trees.{Call, CallOn, Item, New, NewMarkable, NewArray}
use Rattle.ls_parser_spelling.specs.Spelling.{sign_of, sign_of_unary}
use Rattle.ls_tree.specs.WellFormed.{rank_of, rank, is_post, WellFormed}
use Rattle.ls_parser_tokens.specs.Reading.{after_sign}
use Rattle.ls_parser_expressions.specs.ReadingExpressions.{operator_of_sign, operator_at}
use Rattle.ls_parser_expressions.proofs.Onto.{onto, onto_expressions}

-- ---- what follows an expression

-- no operator of these ranks, and nothing that goes on with an expression without one
pub record Follow (most : ℕ) (ks : List Lexeme) : Type 0 where
  pub operators : (wanted : ℕ) → wanted ≤ most → operator_at wanted ks ≡ None
  pub dot : after_sign signs.Dot ks ≡ None
  pub bracket : after_sign signs.OpenBracket ks ≡ None
  pub paren : after_sign signs.OpenParen ks ≡ None

-- a closing parenthesis may follow an expression
pub follow_close : (most : ℕ) (ks : List Lexeme) → Follow most (Marked signs.CloseParen ∷ ks)
follow_close most ks = record { operators = λ wanted le. refl; dot = refl; bracket = refl; paren = refl }

-- so may a comma
pub follow_comma : (most : ℕ) (ks : List Lexeme) → Follow most (Marked signs.Comma ∷ ks)
follow_comma most ks = record { operators = λ wanted le. refl; dot = refl; bracket = refl; paren = refl }

pub follow_bracket : (most : ℕ) (ks : List Lexeme) → Follow most (Marked signs.CloseBracket ∷ ks)
follow_bracket most ks = record { operators = λ wanted le. refl; dot = refl; bracket = refl; paren = refl }

-- so may a semicolon
pub follow_semicolon : (most : ℕ) (ks : List Lexeme) → Follow most (Marked signs.Semicolon ∷ ks)
follow_semicolon most ks = record { operators = λ wanted le. refl; dot = refl; bracket = refl; paren = refl }

-- so may an assignment sign
pub follow_assign : (most : ℕ) (ks : List Lexeme) → Follow most (Marked signs.Assign ∷ ks)
follow_assign most ks = record { operators = λ wanted le. refl; dot = refl; bracket = refl; paren = refl }

operator_is : (op : BinaryOp) → operator_of_sign (sign_of op) ≡ Some op
operator_is binary.Or = refl
operator_is binary.And = refl
operator_is binary.Equal = refl
operator_is binary.NotEqual = refl
operator_is binary.Less = refl
operator_is binary.Greater = refl
operator_is binary.LessEqual = refl
operator_is binary.GreaterEqual = refl
operator_is binary.Add = refl
operator_is binary.Subtract = refl
operator_is binary.Multiply = refl
operator_is binary.Divide = refl
operator_is binary.Remainder = refl

pub operator_again : (op : BinaryOp) (wanted : ℕ) (rest : List Lexeme) →
    rank_of op ≡ wanted →
    operator_at wanted (Marked (sign_of op) ∷ rest) ≡ Some (op, rest)
operator_again op wanted rest h =
    let same : eqb (rank_of op) wanted ≡ true = eq-eqb (rank_of op) wanted h in
    rw (operator_is op, same) refl

other_rank : (op : BinaryOp) (wanted : ℕ) (rest : List Lexeme) →
    wanted < rank_of op →
    operator_at wanted (Marked (sign_of op) ∷ rest) ≡ None
other_rank op wanted rest h =
    let differs : eqb (rank_of op) wanted ≡ false = ne_eqb (rank_of op) wanted (λ same. absurd (omega arith)) in
    rw (operator_is op, differs) refl

no_suffix : (op : BinaryOp) (ks : List Lexeme) →
    (after_sign signs.Dot (Marked (sign_of op) ∷ ks) ≡ None) ×
    (after_sign signs.OpenBracket (Marked (sign_of op) ∷ ks) ≡ None) ×
    (after_sign signs.OpenParen (Marked (sign_of op) ∷ ks) ≡ None)
no_suffix binary.Or ks = (refl, refl, refl)
no_suffix binary.And ks = (refl, refl, refl)
no_suffix binary.Equal ks = (refl, refl, refl)
no_suffix binary.NotEqual ks = (refl, refl, refl)
no_suffix binary.Less ks = (refl, refl, refl)
no_suffix binary.Greater ks = (refl, refl, refl)
no_suffix binary.LessEqual ks = (refl, refl, refl)
no_suffix binary.GreaterEqual ks = (refl, refl, refl)
no_suffix binary.Add ks = (refl, refl, refl)
no_suffix binary.Subtract ks = (refl, refl, refl)
no_suffix binary.Multiply ks = (refl, refl, refl)
no_suffix binary.Divide ks = (refl, refl, refl)
no_suffix binary.Remainder ks = (refl, refl, refl)

pub follow_operator : (op : BinaryOp) (most : ℕ) (ks : List Lexeme) →
    most < rank_of op →
    Follow most (Marked (sign_of op) ∷ ks)
follow_operator op most ks lt =
    let none = no_suffix op ks in
    record {
      operators = λ wanted le. other_rank op wanted ks (omega arith);
      dot = none.0;
      bracket = none.1;
      paren =
          none.2;
    }

pub rank_pos : (op : BinaryOp) → 1 ≤ rank_of op
rank_pos binary.Or = omega arith
rank_pos binary.And = omega arith
rank_pos binary.Equal = omega arith
rank_pos binary.NotEqual = omega arith
rank_pos binary.Less = omega arith
rank_pos binary.Greater = omega arith
rank_pos binary.LessEqual = omega arith
rank_pos binary.GreaterEqual = omega arith
rank_pos binary.Add = omega arith
rank_pos binary.Subtract = omega arith
rank_pos binary.Multiply = omega arith
rank_pos binary.Divide = omega arith
rank_pos binary.Remainder = omega arith

rank_six : (op : BinaryOp) → rank_of op ≤ 6
rank_six binary.Or = omega arith
rank_six binary.And = omega arith
rank_six binary.Equal = omega arith
rank_six binary.NotEqual = omega arith
rank_six binary.Less = omega arith
rank_six binary.Greater = omega arith
rank_six binary.LessEqual = omega arith
rank_six binary.GreaterEqual = omega arith
rank_six binary.Add = omega arith
rank_six binary.Subtract = omega arith
rank_six binary.Multiply = omega arith
rank_six binary.Divide = omega arith
rank_six binary.Remainder = omega arith

pub ranked_six : (t : Expression) → rank t ≤ 6
ranked_six (Binary op left right) = rank_six op
ranked_six _ = omega arith

-- ---- how an expression begins

-- what is so of each token by which an expression without an operator begins is so of its first token
pub record Begins (Good : Lexeme → Type 0) : Type 0 where
  pub number : (text : Text) → Good (Numeral text)
  pub name : (text : Text) → Good (Named text)
  pub yes' : Good (Reserved words.True)
  pub no' : Good (Reserved words.False)
  pub null : Good (Reserved words.Null)
  pub this : Good (Reserved words.This)
  pub new : Good (Reserved words.New)
  pub paren : Good (Marked signs.OpenParen)

abbrev pub Head : (Lexeme → Type 0) → List Lexeme → Type 0
Head Good ks = (k : Lexeme) × (more : List Lexeme) × (ks ≡ k ∷ more) × Good k

-- a postfix expression begins with a token that expressions begin with
pub post_head : (Good : Lexeme → Type 0) →
    Begins Good →
    (after_minus : Bool) (t : Expression) (rest : List Lexeme) →
    is_post t ≡ true →
    WellFormed after_minus t →
    Head Good (onto t rest)
post_head Good b after_minus (Number text) rest post formed = (_, _, refl, b.number text)
post_head Good b after_minus True rest post formed = (_, _, refl, b.yes')
post_head Good b after_minus False rest post formed = (_, _, refl, b.no')
post_head Good b after_minus Null rest post formed = (_, _, refl, b.null)
post_head Good b after_minus This rest post formed = (_, _, refl, b.this)
post_head Good b after_minus (Name text) rest post formed = (_, _, refl, b.name text)
post_head Good b after_minus (Paren inner) rest post formed = (_, _, refl, b.paren)
post_head Good b after_minus (Unary op operand) rest post formed = absurd cc
post_head Good b after_minus (Binary op left right) rest post formed = absurd cc
post_head Good b after_minus (Field target name) rest post formed =
    post_head Good b after_minus target (Marked signs.Dot ∷ Named name ∷ rest) formed.0 formed.1
post_head Good b after_minus (Call name arguments) rest post formed = (_, _, refl, b.name name)
post_head Good b after_minus (CallOn target name arguments) rest post formed =
    post_head Good b after_minus target (Marked signs.Dot ∷ Named name ∷ Marked signs.OpenParen ∷
    onto_expressions arguments rest) formed.0 formed.1
post_head Good b after_minus (Item array index) rest post formed =
    post_head Good b after_minus array (Marked signs.OpenBracket ∷ onto index (Marked signs.CloseBracket ∷ rest))
    formed.0 formed.2
post_head Good b after_minus (New class arguments) rest post formed = (_, _, refl, b.new)
post_head Good b after_minus (NewMarkable class arguments) rest post formed = (_, _, refl, b.new)
post_head Good b after_minus (NewArray length') rest post formed = (_, _, refl, b.new)

pub expression_head : (Good : Lexeme → Type 0) →
    Begins Good →
    ((op : UnaryOp) → Good (Marked (sign_of_unary op))) →
    (t : Expression) (rest : List Lexeme) →
    Head Good (onto t rest)
expression_head Good b u (Number text) rest = (_, _, refl, b.number text)
expression_head Good b u True rest = (_, _, refl, b.yes')
expression_head Good b u False rest = (_, _, refl, b.no')
expression_head Good b u Null rest = (_, _, refl, b.null)
expression_head Good b u This rest = (_, _, refl, b.this)
expression_head Good b u (Name text) rest = (_, _, refl, b.name text)
expression_head Good b u (Paren inner) rest = (_, _, refl, b.paren)
expression_head Good b u (Unary op operand) rest = (_, _, refl, u op)
expression_head Good b u (Binary op left right) rest =
    expression_head Good b u left (Marked (sign_of op) ∷ onto right rest)
expression_head Good b u (Field target name) rest =
    expression_head Good b u target (Marked signs.Dot ∷ Named name ∷ rest)
expression_head Good b u (Call name arguments) rest = (_, _, refl, b.name name)
expression_head Good b u (CallOn target name arguments) rest =
    expression_head Good b u target (Marked signs.Dot ∷ Named name ∷ Marked signs.OpenParen ∷
    onto_expressions arguments rest)
expression_head Good b u (Item array index) rest =
    expression_head Good b u array (Marked signs.OpenBracket ∷ onto index (Marked signs.CloseBracket ∷ rest))
expression_head Good b u (New class arguments) rest = (_, _, refl, b.new)
expression_head Good b u (NewMarkable class arguments) rest = (_, _, refl, b.new)
expression_head Good b u (NewArray length') rest = (_, _, refl, b.new)

abbrev NotClose : Lexeme → Type 0
NotClose k = (ks : List Lexeme) → after_sign signs.CloseParen (k ∷ ks) ≡ None

not_close_unary : (op : UnaryOp) → NotClose (Marked (sign_of_unary op))
not_close_unary unary.Minus ks = refl
not_close_unary unary.Not ks = refl

pub no_close : (t : Expression) (rest : List Lexeme) → after_sign signs.CloseParen (onto t rest) ≡ None
no_close t rest =
    let h = expression_head NotClose
    (record {
      number = λ text ks. refl;
      name = λ text ks. refl;
      yes' = λ ks. refl;
      no' = λ ks. refl;
      null =
          λ ks. refl;
      this = λ ks. refl;
      new = λ ks. refl;
      paren = λ ks. refl;
    }) not_close_unary t rest in
    ap (after_sign signs.CloseParen) h.2 ∙ h.3 h.1

abbrev NotSemicolon : Lexeme → Type 0
NotSemicolon k = (ks : List Lexeme) → after_sign signs.Semicolon (k ∷ ks) ≡ None

not_semicolon_unary : (op : UnaryOp) → NotSemicolon (Marked (sign_of_unary op))
not_semicolon_unary unary.Minus ks = refl
not_semicolon_unary unary.Not ks = refl

-- an expression doesn't begin with a semicolon
pub no_semicolon : (t : Expression) (rest : List Lexeme) → after_sign signs.Semicolon (onto t rest) ≡ None
no_semicolon t rest =
    let h = expression_head NotSemicolon
    (record {
      number = λ text ks. refl;
      name = λ text ks. refl;
      yes' = λ ks. refl;
      no' = λ ks. refl;
      null =
          λ ks. refl;
      this = λ ks. refl;
      new = λ ks. refl;
      paren = λ ks. refl;
    }) not_semicolon_unary t rest in
    ap (after_sign signs.Semicolon) h.2 ∙ h.3 h.1
