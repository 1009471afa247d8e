-- The tokens of an expression, and then the rest.
use Rattle.std.proofs.Common.{◌≡◌, ℕ, ◌+◌, ◌<◌, length, List, [], ◌∷◌, ◌++◌, refl, sym, ap, ◌∙◌, append_assoc, arith}
use Rattle.ls_lexer.specs.Lexemes.{Lexeme, Named, Numeral, Reserved, Marked}
use Rattle.ls_lexer.specs.declared.sign.Sign.TheVariants as signs
use Rattle.ls_lexer.specs.declared.word.Word.TheVariants as words
use Rattle.ls_tree.specs.Trees.{Text, Expression, Number, True, False, Null, This, Name, Paren, Unary, Binary, Field}
use Rattle.ls_tree.specs.Trees.{Call, CallOn, Item, New, NewMarkable, NewArray, Expressions, NoExpression}
use Rattle.ls_tree.specs.Trees.{MoreExpressions}
use Rattle.ls_parser_spelling.specs.Spelling.{sign_of, sign_of_unary, in_parens, spell_expression, spell_expressions}
use Rattle.ls_parser_spelling.specs.Spelling.{spell_others}
use Rattle.ls_parser_expressions.specs.ReadingExpressions.{markable_name}

-- `<name>`
abbrev pub onto_class : Text → List Lexeme → List Lexeme
onto_class name rest = Marked signs.Less ∷ Named name ∷ Marked signs.Greater ∷ rest

abbrev mutual
  -- an expression, spelled onto tokens
  pub onto : Expression → List Lexeme → List Lexeme
  onto (Number text) rest = Numeral text ∷ rest
  onto True rest = Reserved words.True ∷ rest
  onto False rest = Reserved words.False ∷ rest
  onto Null rest = Reserved words.Null ∷ rest
  onto This rest = Reserved words.This ∷ rest
  onto (Name text) rest = Named text ∷ rest
  onto (Paren inner) rest = Marked signs.OpenParen ∷ onto inner (Marked signs.CloseParen ∷ rest)
  onto (Unary op operand) rest = Marked (sign_of_unary op) ∷ onto operand rest
  onto (Binary op left right) rest = onto left (Marked (sign_of op) ∷ onto right rest)
  onto (Field target name) rest = onto target (Marked signs.Dot ∷ Named name ∷ rest)
  onto (Call name arguments) rest = Named name ∷ Marked signs.OpenParen ∷ onto_expressions arguments rest
  onto (CallOn target name arguments) rest =
      onto target (Marked signs.Dot ∷ Named name ∷ Marked signs.OpenParen ∷ onto_expressions arguments rest)
  onto (Item array index) rest = onto array (Marked signs.OpenBracket ∷ onto index (Marked signs.CloseBracket ∷ rest))
  onto (New class arguments) rest = Reserved words.New ∷ Named class ∷ Marked signs.OpenParen ∷
      onto_expressions arguments rest
  onto (NewMarkable class arguments) rest = Reserved words.New ∷ Named markable_name ∷
      onto_class class (Marked signs.OpenParen ∷ onto_expressions arguments rest)
  onto (NewArray length') rest = Reserved words.New ∷ Reserved words.Boolean ∷ Marked signs.OpenBracket ∷
      onto length' (Marked signs.CloseBracket ∷ rest)

  -- up to and with the closing parenthesis
  pub onto_expressions : Expressions → List Lexeme → List Lexeme
  onto_expressions NoExpression rest = Marked signs.CloseParen ∷ rest
  onto_expressions (MoreExpressions first others) rest = onto first (onto_others others rest)

  -- a comma before each expression, spelled onto tokens
  pub onto_others : Expressions → List Lexeme → List Lexeme
  onto_others NoExpression rest = Marked signs.CloseParen ∷ rest
  onto_others (MoreExpressions first others) rest = Marked signs.Comma ∷ onto first (onto_others others rest)

abbrev cons : Lexeme → List Lexeme → List Lexeme
cons k ks = k ∷ ks

abbrev close : List Lexeme → List Lexeme
close rest = Marked signs.CloseParen ∷ rest

mutual
  -- an expression is spelled as its spelling says
  pub onto_spells : (t : Expression) (rest : List Lexeme) → onto t rest ≡ spell_expression t ++ rest
  onto_spells (Number text) rest = refl
  onto_spells True rest = refl
  onto_spells False rest = refl
  onto_spells Null rest = refl
  onto_spells This rest = refl
  onto_spells (Name text) rest = refl
  onto_spells (Paren inner) rest =
      ap (cons (Marked signs.OpenParen)) (onto_spells inner (close rest) ∙
      sym (append_assoc (spell_expression inner) (Marked signs.CloseParen ∷ []) rest))
  onto_spells (Unary op operand) rest = ap (cons (Marked (sign_of_unary op))) (onto_spells operand rest)
  onto_spells (Binary op left right) rest =
      onto_spells left (Marked (sign_of op) ∷ onto right rest)
      ∙ ap (λ (ks : List Lexeme). spell_expression left ++ Marked (sign_of op) ∷ ks) (onto_spells right rest)
      ∙ sym (append_assoc (spell_expression left) (Marked (sign_of op) ∷ spell_expression right) rest)
  onto_spells (Field target name) rest =
      onto_spells target (Marked signs.Dot ∷ Named name ∷ rest) ∙
      sym (append_assoc (spell_expression target) (Marked signs.Dot ∷ Named name ∷ []) rest)
  onto_spells (Call name arguments) rest =
      ap (λ (ks : List Lexeme). Named name ∷ Marked signs.OpenParen ∷ ks) (onto_expressions_spells arguments rest)
  onto_spells (CallOn target name arguments) rest =
      onto_spells target (Marked signs.Dot ∷ Named name ∷ Marked signs.OpenParen ∷ onto_expressions arguments rest)
      ∙ ap (λ (ks : List Lexeme). spell_expression target ++ Marked signs.Dot ∷ Named name ∷ Marked signs.OpenParen ∷
      ks) (onto_expressions_spells arguments rest)
      ∙ sym (append_assoc (spell_expression target) (Marked signs.Dot ∷ Named name ∷
      in_parens (spell_expressions arguments)) rest)
  onto_spells (Item array index) rest =
      onto_spells array (Marked signs.OpenBracket ∷ onto index (Marked signs.CloseBracket ∷ rest))
      ∙ ap (λ (ks : List Lexeme). spell_expression array ++ Marked signs.OpenBracket ∷ ks)
      (onto_spells index (Marked signs.CloseBracket ∷ rest) ∙
      sym (append_assoc (spell_expression index) (Marked signs.CloseBracket ∷ []) rest))
      ∙ sym (append_assoc (spell_expression array) (Marked signs.OpenBracket ∷
      (spell_expression index ++ Marked signs.CloseBracket ∷ [])) rest)
  onto_spells (New class arguments) rest =
      ap (λ (ks : List Lexeme). Reserved words.New ∷ Named class ∷ Marked signs.OpenParen ∷ ks)
      (onto_expressions_spells arguments rest)
  onto_spells (NewMarkable class arguments) rest =
      ap (λ (ks : List Lexeme). Reserved words.New ∷ Named markable_name ∷
      onto_class class (Marked signs.OpenParen ∷ ks)) (onto_expressions_spells arguments rest)
  onto_spells (NewArray length') rest =
      ap (λ (ks : List Lexeme). Reserved words.New ∷ Reserved words.Boolean ∷ Marked signs.OpenBracket ∷ ks)
      (onto_spells length' (Marked signs.CloseBracket ∷ rest) ∙
      sym (append_assoc (spell_expression length') (Marked signs.CloseBracket ∷ []) rest))

  pub onto_expressions_spells : (ts : Expressions) (rest : List Lexeme) →
      onto_expressions ts rest ≡ (spell_expressions ts ++ Marked signs.CloseParen ∷ []) ++ rest
  onto_expressions_spells NoExpression rest = refl
  onto_expressions_spells (MoreExpressions first others) rest =
      onto_spells first (onto_others others rest) ∙
      ap (λ (ks : List Lexeme). spell_expression first ++ ks) (onto_others_spells others rest)
      ∙ sym (append_assoc (spell_expression first) (spell_others others ++ Marked signs.CloseParen ∷ []) rest)
      ∙ ap (λ (ks : List Lexeme). ks ++ rest)
      (sym (append_assoc (spell_expression first) (spell_others others) (Marked signs.CloseParen ∷ [])))

  pub onto_others_spells : (ts : Expressions) (rest : List Lexeme) →
      onto_others ts rest ≡ (spell_others ts ++ Marked signs.CloseParen ∷ []) ++ rest
  onto_others_spells NoExpression rest = refl
  onto_others_spells (MoreExpressions first others) rest =
      ap (cons (Marked signs.Comma)) (onto_spells first (onto_others others rest) ∙
      ap (λ (ks : List Lexeme). spell_expression first ++ ks) (onto_others_spells others rest)
      ∙ sym (append_assoc (spell_expression first) (spell_others others ++ Marked signs.CloseParen ∷ []) rest)
      ∙ ap (λ (ks : List Lexeme). ks ++ rest)
      (sym (append_assoc (spell_expression first) (spell_others others) (Marked signs.CloseParen ∷ []))))

-- how many expressions these are
abbrev pub count : Expressions → ℕ
count NoExpression = 0
count (MoreExpressions first others) = count others + 1

mutual
  -- an expression has a token
  pub onto_longer : (t : Expression) (rest : List Lexeme) → length rest < length (onto t rest)
  onto_longer (Number text) rest = omega arith
  onto_longer True rest = omega arith
  onto_longer False rest = omega arith
  onto_longer Null rest = omega arith
  onto_longer This rest = omega arith
  onto_longer (Name text) rest = omega arith
  onto_longer (Paren inner) rest = omega (arith, onto_longer inner (Marked signs.CloseParen ∷ rest))
  onto_longer (Unary op operand) rest = omega (arith, onto_longer operand rest)
  onto_longer (Binary op left right) rest =
      omega (arith, onto_longer left (Marked (sign_of op) ∷ onto right rest), onto_longer right rest)
  onto_longer (Field target name) rest = omega (arith, onto_longer target (Marked signs.Dot ∷ Named name ∷ rest))
  onto_longer (Call name arguments) rest = omega (arith, onto_expressions_longer arguments rest)
  onto_longer (CallOn target name arguments) rest =
      omega (
        arith,
        onto_longer target (Marked signs.Dot ∷ Named name ∷ Marked signs.OpenParen ∷ onto_expressions arguments rest),
        onto_expressions_longer arguments rest,
      )
  onto_longer (Item array index) rest =
      omega (
        arith,
        onto_longer array (Marked signs.OpenBracket ∷ onto index (Marked signs.CloseBracket ∷ rest)),
        onto_longer index (Marked signs.CloseBracket ∷ rest),
      )
  onto_longer (New class arguments) rest = omega (arith, onto_expressions_longer arguments rest)
  onto_longer (NewMarkable class arguments) rest = omega (arith, onto_expressions_longer arguments rest)
  onto_longer (NewArray length') rest = omega (arith, onto_longer length' (Marked signs.CloseBracket ∷ rest))

  pub onto_expressions_longer : (ts : Expressions) (rest : List Lexeme) →
      length rest < length (onto_expressions ts rest)
  onto_expressions_longer NoExpression rest = omega arith
  onto_expressions_longer (MoreExpressions first others) rest =
      omega (arith, onto_longer first (onto_others others rest), onto_others_longer others rest)

  pub onto_others_longer : (ts : Expressions) (rest : List Lexeme) →
      count ts + length rest < length (onto_others ts rest)
  onto_others_longer NoExpression rest = omega arith
  onto_others_longer (MoreExpressions first others) rest =
      omega (arith, onto_longer first (onto_others others rest), onto_others_longer others rest)
