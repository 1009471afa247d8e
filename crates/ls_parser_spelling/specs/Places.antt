-- Which tokens, at which places, are those of an expression. As in the spelling without places, each form is its
-- tokens in order. The span of a form goes from its first token to its last.
use Rattle.std.specs.Prelude.{ℕ, List, [], ◌∷◌, codes}
use Rattle.ls_lexer.specs.declared.token.Span.{Span}
use Rattle.ls_lexer.specs.declared.token.Token.{Token}
use Rattle.ls_lexer.specs.declared.word.Word.TheVariants as words
use Rattle.ls_lexer.specs.declared.sign.Sign.{Sign}
use Rattle.ls_lexer.specs.declared.sign.Sign.TheVariants as signs
use Rattle.ls_lexer.specs.Lexemes.{Lexeme, Named, Numeral, Reserved, Marked, lexeme_of}
use Rattle.ls_tree.specs.declared.tree.UnaryOp.{UnaryOp}
use Rattle.ls_tree.specs.declared.tree.BinaryOp.{BinaryOp}
use Rattle.ls_tree.specs.PlacedTrees as trees
use Rattle.ls_tree.specs.PlacedTrees.{Name, Expression, Expressions, End, More, span_of}
use Rattle.ls_parser_spelling.specs.Spelling.{sign_of, sign_of_unary}

-- a token and its span
pub record Spot : Type 0 where
  pub lexeme : Lexeme
  pub span : Span

abbrev pub spot : Lexeme → Span → Spot
spot k s = record { lexeme = k; span = s }

abbrev pub spots : List Token → List Spot
spots [] = []
spots (t ∷ ts) = spot (lexeme_of t.kind) t.span ∷ spots ts

-- the tokens alone
abbrev pub forgotten : List Spot → List Lexeme
forgotten [] = []
forgotten (s ∷ ss) = s.lexeme ∷ forgotten ss

-- from the beginning of one token to the end of another
abbrev pub upto : Span → Span → Span
upto first last = record { start = first.start; end = last.end }

abbrev pub named : Name → Spot
named name = spot (Named name.text) name.span

abbrev pub sign : Sign → Span → Spot
sign mark s = spot (Marked mark) s

-- `<name>` begins the tokens, and then the rest
pub data ClassNameAt : Name → List Spot → List Spot → Type 0 where
  class_name_at : {name : Name} {from last : Span} {rest : List Spot} →
      ClassNameAt name (sign signs.Less from ∷ named name ∷ sign signs.Greater last ∷ rest) rest

-- The tokens begin with those of the expression, and then the rest is left.
mutual
  pub data At : Expression → List Spot → List Spot → Type 0 where
    number_at : {text : List ℕ} {s : Span} {rest : List Spot} →
        At (trees.Number text s) (spot (Numeral text) s ∷ rest) rest
    true_at : {s : Span} {rest : List Spot} → At (trees.True s) (spot (Reserved words.True) s ∷ rest) rest
    false_at : {s : Span} {rest : List Spot} → At (trees.False s) (spot (Reserved words.False) s ∷ rest) rest
    null_at : {s : Span} {rest : List Spot} → At (trees.Null s) (spot (Reserved words.Null) s ∷ rest) rest
    this_at : {s : Span} {rest : List Spot} → At (trees.This s) (spot (Reserved words.This) s ∷ rest) rest
    name_at : {name : Name} {rest : List Spot} → At (trees.Named name) (named name ∷ rest) rest
    paren_at : {e : Expression} {from last : Span} {ss rest : List Spot} →
        At e ss (sign signs.CloseParen last ∷ rest) →
        At (trees.Paren e (upto from last)) (sign signs.OpenParen from ∷ ss) rest
    unary_at : {op : UnaryOp} {e : Expression} {from : Span} {ss rest : List Spot} →
        At e ss rest →
        At (trees.Unary op e (upto from (span_of e))) (sign (sign_of_unary op) from ∷ ss) rest
    binary_at : {op : BinaryOp} {left right : Expression} {ss middle rest : List Spot} →
        At left ss middle → OperandAt op right middle rest →
        At (trees.Binary op left right (upto (span_of left) (span_of right))) ss rest
    field_at : {target : Expression} {name : Name} {dot : Span} {ss rest : List Spot} →
        At target ss (sign signs.Dot dot ∷ named name ∷ rest) →
        At (trees.Field target name (upto (span_of target) name.span)) ss rest
    call_at : {name : Name} {arguments : Expressions} {opening last : Span} {ss rest : List Spot} →
        ArgumentsAt arguments last ss rest →
        At (trees.Call name arguments (upto name.span last)) (named name ∷ sign signs.OpenParen opening ∷ ss) rest
    call_on_at : {target : Expression} {name : Name} {arguments : Expressions} {dot opening last : Span}
        {ss middle rest : List Spot} →
        At target ss (sign signs.Dot dot ∷ named name ∷ sign signs.OpenParen opening ∷ middle) →
        ArgumentsAt arguments last middle rest →
        At (trees.CallOn target name arguments (upto (span_of target) last)) ss rest
    item_at : {array index : Expression} {last : Span} {ss middle rest : List Spot} →
        At array ss middle → IndexAt index last middle rest →
        At (trees.Item array index (upto (span_of array) last)) ss rest
    new_at : {class : Name} {arguments : Expressions} {from opening last : Span} {ss rest : List Spot} →
        ArgumentsAt arguments last ss rest →
        At (trees.New class arguments (upto from last)) (spot (Reserved words.New) from ∷ named class ∷
        sign signs.OpenParen opening ∷ ss) rest
    new_markable_at : {class : Name} {arguments : Expressions} {from word opening last : Span}
        {ss middle rest : List Spot} →
        ClassNameAt class ss (sign signs.OpenParen opening ∷ middle) → ArgumentsAt arguments last middle rest →
        At (trees.NewMarkable class arguments (upto from last))
        (spot (Reserved words.New) from ∷ spot (Named (codes "AtomicMarkableReference")) word ∷ ss) rest
    new_array_at : {length : Expression} {from word last : Span} {ss rest : List Spot} →
        IndexAt length last ss rest →
        At (trees.NewArray length (upto from last)) (spot (Reserved words.New) from ∷ spot (Reserved words.Boolean) word
        ∷ ss) rest

  -- an operator and its right operand
  pub data OperandAt : BinaryOp → Expression → List Spot → List Spot → Type 0 where
    operand_at : {op : BinaryOp} {right : Expression} {s : Span} {ss rest : List Spot} →
        At right ss rest → OperandAt op right (sign (sign_of op) s ∷ ss) rest

  -- an index in brackets; the closing bracket is at the span
  pub data IndexAt : Expression → Span → List Spot → List Spot → Type 0 where
    index_at : {index : Expression} {opening last : Span} {ss rest : List Spot} →
        At index ss (sign signs.CloseBracket last ∷ rest) →
        IndexAt index last (sign signs.OpenBracket opening ∷ ss) rest

  -- arguments, and after them the closing parenthesis, which is at the span
  pub data ArgumentsAt : Expressions → Span → List Spot → List Spot → Type 0 where
    none_at : {last : Span} {rest : List Spot} → ArgumentsAt End last (sign signs.CloseParen last ∷ rest) rest
    some_at : {arguments : Expressions} {last : Span} {ss rest : List Spot} →
        SomeAt arguments ss (sign signs.CloseParen last ∷ rest) → ArgumentsAt arguments last ss rest

  -- one argument or more, with commas between them
  pub data SomeAt : Expressions → List Spot → List Spot → Type 0 where
    one_at : {e : Expression} {ss rest : List Spot} → At e ss rest → SomeAt (More e End) ss rest
    more_at : {e : Expression} {others : Expressions} {comma : Span} {ss middle rest : List Spot} →
        At e ss (sign signs.Comma comma ∷ middle) → SomeAt others middle rest → SomeAt (More e others) ss rest
