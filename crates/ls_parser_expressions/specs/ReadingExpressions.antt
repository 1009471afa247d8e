-- Reading of expressions.
use Rattle.std.specs.Prelude.{ℕ, zero, suc, ◌+◌, nat_le, ◌==◌, Bool, false, not, ◌&&◌, ◌||◌, List, [], ◌∷◌, Option}
use Rattle.std.specs.Prelude.{Some, None, is_some, if◌then◌else◌, codes}
use Rattle.std.specs.Str.{bytes_eq}
use Rattle.ls_lexer.specs.declared.word.Word.{Word}
use Rattle.ls_lexer.specs.declared.word.Word.TheVariants as words
use Rattle.ls_lexer.specs.declared.sign.Sign.{Sign}
use Rattle.ls_lexer.specs.declared.sign.Sign.TheVariants as signs
use Rattle.ls_lexer.specs.Lexemes.{Lexeme, Named, Numeral, Reserved, Marked}
use Rattle.ls_tree.specs.declared.tree.UnaryOp.{UnaryOp}
use Rattle.ls_tree.specs.declared.tree.UnaryOp.TheVariants as unary
use Rattle.ls_tree.specs.declared.tree.BinaryOp.{BinaryOp}
use Rattle.ls_tree.specs.declared.tree.BinaryOp.TheVariants as binary
use Rattle.ls_tree.specs.Trees.{Text, Expression, Number, True, False, Null, This, Name, Paren, Unary, Binary, Field}
use Rattle.ls_tree.specs.Trees.{Call, CallOn, Item, New, NewMarkable, NewArray, Expressions, listed}
use Rattle.ls_tree.specs.WellFormed.{rank_of, expression_height, is_new_array, is_minus}
use Rattle.ls_parser_tokens.specs.Reading.{◌>>=◌, Reader, given, after_sign, after_word, name_at, starts, repeat}
use Rattle.ls_parser_tokens.specs.Reading.{group_at}

abbrev pub operator_of_sign : Sign → Option BinaryOp
operator_of_sign signs.Or = Some binary.Or
operator_of_sign signs.And = Some binary.And
operator_of_sign signs.Equal = Some binary.Equal
operator_of_sign signs.NotEqual = Some binary.NotEqual
operator_of_sign signs.Less = Some binary.Less
operator_of_sign signs.Greater = Some binary.Greater
operator_of_sign signs.LessEqual = Some binary.LessEqual
operator_of_sign signs.GreaterEqual = Some binary.GreaterEqual
operator_of_sign signs.Plus = Some binary.Add
operator_of_sign signs.Minus = Some binary.Subtract
operator_of_sign signs.Star = Some binary.Multiply
operator_of_sign signs.Slash = Some binary.Divide
operator_of_sign signs.Percent = Some binary.Remainder
operator_of_sign _ = None

abbrev pub of_rank : ℕ → Option BinaryOp → Option BinaryOp
of_rank wanted None = None
of_rank wanted (Some op) = if rank_of op == wanted then Some op else None

abbrev pub operator : ℕ → Lexeme → Option BinaryOp
operator wanted (Marked sign) = of_rank wanted (operator_of_sign sign)
operator wanted (Named text) = None
operator wanted (Numeral text) = None
operator wanted (Reserved word) = None

-- an operator of this rank, and the tokens after it
abbrev pub operator_at : ℕ → Reader BinaryOp
operator_at wanted [] = None
operator_at wanted (k ∷ ks) = operator wanted k >>= λ op. Some (op, ks)

abbrev pub has_operator : ℕ → List Lexeme → Bool
has_operator wanted ks = is_some (operator_at wanted ks)

abbrev pub below : ℕ → Expression → Bool
below limit t = nat_le (expression_height t + 1) limit

-- an operator of a rank and its right operand; the operator is the root, and `left` its left operand
abbrev pub joined_at : ℕ → ℕ → Reader Expression → Expression → Reader Expression
joined_at wanted limit operand left ks =
    operator_at wanted ks >>= λ op.
    (if below limit left then (operand op.1 >>= λ right.
    (if below limit right.0 then Some (Binary op.0 left right.0, right.1) else None)) else None)

unfoldable pub binary_at : ℕ → ℕ → Reader Expression → Reader Expression
binary_at zero limit operand ks = operand ks
binary_at (suc low) limit operand ks =
    binary_at low limit operand ks >>= λ left.
    repeat limit (has_operator (suc low)) (joined_at (suc low) limit (binary_at low limit operand)) left.0 left.1

-- ---- what comes after a primary

abbrev pub arguments_at : Reader Expression → Reader Expressions
arguments_at whole ks = group_at whole ks >>= λ ts. Some (listed ts.0, ts.1)

abbrev pub has_suffix : List Lexeme → Bool
has_suffix ks = starts signs.Dot ks || starts signs.OpenBracket ks

-- what comes after a dot
abbrev pub member_at : Reader Expression → Expression → Reader Expression
member_at whole left ks =
    name_at ks >>= λ name. given (after_sign signs.OpenParen name.1)
    (λ rest. arguments_at whole rest >>= λ ts. Some (CallOn left name.0 ts.0, ts.1))
    (Some (Field left name.0, name.1))

-- an opening bracket, an index and a closing bracket
abbrev pub index_at : Reader Expression → Reader Expression
index_at whole ks =
    after_sign signs.OpenBracket ks >>= λ rest. whole rest >>= λ index.
    after_sign signs.CloseBracket index.1 >>= λ end. Some (index.0, end)

abbrev pub item_at : Reader Expression → Expression → Reader Expression
item_at whole left ks =
    if is_new_array left then None else (index_at whole ks >>= λ index. Some (Item left index.0, index.1))

abbrev pub suffix_at : ℕ → Reader Expression → Expression → Reader Expression
suffix_at limit whole left ks =
    if below limit left then given (after_sign signs.Dot ks) (λ rest. member_at whole left rest) (item_at whole left ks)
    else None

-- ---- primaries

pub data Start : Type 0 where
  StartsName : (text : Text) → Start
  StartsNumber : (text : Text) → Start
  StartsConstant : (constant : Expression) → Start
  StartsNew : Start
  StartsParen : Start
  StartsNothing : Start

abbrev pub start_of_sign : Sign → Start
start_of_sign signs.OpenParen = StartsParen
start_of_sign _ = StartsNothing

abbrev pub start_of_word : Word → Start
start_of_word words.True = StartsConstant True
start_of_word words.False = StartsConstant False
start_of_word words.Null = StartsConstant Null
start_of_word words.This = StartsConstant This
start_of_word words.New = StartsNew
start_of_word _ = StartsNothing

abbrev pub start_of : Lexeme → Start
start_of (Named text) = StartsName text
start_of (Numeral text) = StartsNumber text
start_of (Reserved word) = start_of_word word
start_of (Marked sign) = start_of_sign sign

abbrev pub largest : Text
largest = codes "2147483648"

abbrev pub is_largest : Text → Bool
is_largest text = bytes_eq text largest

abbrev pub number_here : Bool → Text → Reader Expression
number_here after_minus text ks = if after_minus || not (is_largest text) then Some (Number text, ks) else None

-- what comes after a name
abbrev pub named_at : Reader Expression → Text → Reader Expression
named_at whole text ks =
    given (after_sign signs.OpenParen ks)
    (λ rest. arguments_at whole rest >>= λ ts. Some (Call text ts.0, ts.1))
    (Some (Name text, ks))

-- the arguments of a made object, with their parentheses
abbrev pub made_at : Reader Expression → (Expressions → Expression) → Reader Expression
made_at whole make ks =
    after_sign signs.OpenParen ks >>= λ rest. arguments_at whole rest >>= λ ts. Some (make ts.0, ts.1)

abbrev pub markable_name : Text
markable_name = codes "AtomicMarkableReference"

abbrev pub is_markable : Text → Bool
is_markable text = bytes_eq text markable_name

-- a name between `<` and `>`
abbrev pub class_at : Reader Text
class_at ks =
    after_sign signs.Less ks >>= λ rest. name_at rest >>= λ name.
    after_sign signs.Greater name.1 >>= λ end. Some (name.0, end)

-- what comes after `new` and a name
abbrev pub object_at : Reader Expression → Text → Reader Expression
object_at whole text ks =
    if is_markable text && starts signs.Less ks
    then (class_at ks >>= λ name. made_at whole (NewMarkable name.0) name.1)
    else made_at whole (New text) ks

-- what comes after `new`
abbrev pub new_at : Reader Expression → Reader Expression
new_at whole ks =
    given (name_at ks)
    (λ name. object_at whole name.0 name.1)
    (after_word words.Boolean ks >>= λ rest. index_at whole rest >>= λ length. Some (NewArray length.0, length.1))

abbrev pub paren_at : Reader Expression → Reader Expression
paren_at whole ks = whole ks >>= λ inner. after_sign signs.CloseParen inner.1 >>= λ rest. Some (Paren inner.0, rest)

abbrev pub primary_from : Start → Bool → Reader Expression → Reader Expression
primary_from (StartsName text) after_minus whole ks = named_at whole text ks
primary_from (StartsNumber text) after_minus whole ks = number_here after_minus text ks
primary_from (StartsConstant constant) after_minus whole ks = Some (constant, ks)
primary_from StartsNew after_minus whole ks = new_at whole ks
primary_from StartsParen after_minus whole ks = paren_at whole ks
primary_from StartsNothing after_minus whole ks = None

abbrev pub primary_at : Bool → Reader Expression → Reader Expression
primary_at after_minus whole [] = None
primary_at after_minus whole (k ∷ ks) = primary_from (start_of k) after_minus whole ks

-- a primary and what comes after it, of at most this height
abbrev pub post_of : ℕ → Bool → Reader Expression → Reader Expression
post_of limit after_minus whole ks =
    primary_at after_minus whole ks >>= λ left. repeat limit has_suffix (suffix_at limit whole) left.0 left.1

-- ---- unary operators

abbrev pub unary_of_sign : Sign → Option UnaryOp
unary_of_sign signs.Minus = Some unary.Minus
unary_of_sign signs.Not = Some unary.Not
unary_of_sign _ = None

abbrev pub unary_of : Lexeme → Option UnaryOp
unary_of (Marked sign) = unary_of_sign sign
unary_of (Named text) = None
unary_of (Numeral text) = None
unary_of (Reserved word) = None

-- what comes after a unary operator, which is the root of the answer
abbrev pub signed_at : UnaryOp → Reader Expression → Reader Expression
signed_at op operand ks = operand ks >>= λ e. Some (Unary op e.0, e.1)

unfoldable pub unary_at : ℕ → Bool → Reader Expression
unary_at zero after_minus ks = None
unary_at (suc limit) after_minus [] = None
unary_at (suc limit) after_minus (k ∷ ks) =
    given (unary_of k) (λ op. signed_at op (unary_at limit (is_minus op)) ks)
    (post_of (suc limit) after_minus (binary_at 6 limit (unary_at limit false)) (k ∷ ks))

-- an expression of at most this height
abbrev pub expression_at : ℕ → Reader Expression
expression_at limit = binary_at 6 limit (unary_at limit false)

-- an expression without an operator
unfoldable pub post_at : ℕ → Bool → Reader Expression
post_at zero after_minus ks = None
post_at (suc limit) after_minus ks = post_of (suc limit) after_minus (expression_at limit) ks
