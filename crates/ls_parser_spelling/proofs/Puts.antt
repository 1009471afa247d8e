-- Places that tokens give a tree without places.
use Rattle.std.proofs.Common.{◌≡◌, List, [], ◌∷◌, refl, sym, ap, ◌∙◌}
use Rattle.ls_lexer.specs.declared.token.Span.{Span}
use Rattle.ls_lexer.specs.declared.sign.Sign.TheVariants as signs
use Rattle.ls_tree.specs.declared.tree.UnaryOp.{UnaryOp}
use Rattle.ls_tree.specs.declared.tree.BinaryOp.{BinaryOp}
use Rattle.ls_tree.specs.Trees as bare
use Rattle.ls_tree.specs.Trees as bare
use Rattle.ls_tree.specs.Trees.{Text}
use Rattle.ls_tree.specs.PlacedTrees as trees
use Rattle.ls_tree.specs.PlacedTrees.{Name, Expression, Expressions, End, More, span_of}
use Rattle.ls_parser_spelling.specs.Places.{Spot, sign, named, upto, class_name_at, At, OperandAt, IndexAt}
use Rattle.ls_parser_spelling.specs.Places.{ArgumentsAt, SomeAt, number_at, true_at, false_at, null_at, this_at}
use Rattle.ls_parser_spelling.specs.Places.{name_at, paren_at, unary_at, binary_at, field_at, call_at, call_on_at}
use Rattle.ls_parser_spelling.specs.Places.{item_at, new_at, new_markable_at, new_array_at, operand_at, index_at}
use Rattle.ls_parser_spelling.specs.Places.{none_at, some_at, one_at, more_at}
use Rattle.ls_parser_spelling.specs.Laws.{plain, all_plain, OnePlacing}

-- the span of the first token
abbrev here : List Spot → Span
here [] = record { start = 0; end = 0 }
here (s ∷ ss) = s.span

abbrev behind : List Spot → List Spot
behind [] = []
behind (s ∷ ss) = ss

abbrev Put : Type 0
Put = Expression × List Spot

abbrev PutMany : Type 0
PutMany = Expressions × List Spot

-- arguments, and the span of the closing parenthesis
abbrev PutClosed : Type 0
PutClosed = (Expressions × Span) × List Spot

abbrev name_of : Text → List Spot → Name
name_of text ss = record { text = text; span = here ss }

abbrev paren_of : Span → Put → Put
paren_of from x = (trees.Paren x.0 (upto from (here x.1)), behind x.1)

abbrev unary_of : UnaryOp → Span → Put → Put
unary_of op from x = (trees.Unary op x.0 (upto from (span_of x.0)), x.1)

abbrev binary_of : BinaryOp → Put → Put → Put
binary_of op x y = (trees.Binary op x.0 y.0 (upto (span_of x.0) (span_of y.0)), y.1)

abbrev field_of : Text → Put → Put
field_of text x =
    (trees.Field x.0 (name_of text (behind x.1)) (upto (span_of x.0) (here (behind x.1))), behind (behind x.1))

abbrev call_of : Name → PutClosed → Put
call_of name y = (trees.Call name y.0.0 (upto name.span y.0.1), y.1)

abbrev call_on_of : Text → Put → PutClosed → Put
call_on_of text x y = (trees.CallOn x.0 (name_of text (behind x.1)) y.0.0 (upto (span_of x.0) y.0.1), y.1)

abbrev item_of : Put → Put → Put
item_of x y = (trees.Item x.0 y.0 (upto (span_of x.0) (here y.1)), behind y.1)

abbrev new_of : Name → Span → PutClosed → Put
new_of class from y = (trees.New class y.0.0 (upto from y.0.1), y.1)

abbrev new_markable_of : Name → Span → PutClosed → Put
new_markable_of class from y = (trees.NewMarkable class y.0.0 (upto from y.0.1), y.1)

abbrev new_array_of : Span → Put → Put
new_array_of from y = (trees.NewArray y.0 (upto from (here y.1)), behind y.1)

abbrev more_of : Put → PutMany → PutMany
more_of x y = (More x.0 y.0, y.1)

abbrev closed_of : PutMany → PutClosed
closed_of x = ((x.0, here x.1), behind x.1)

abbrev mutual
  put : bare.Expression → List Spot → Put
  put (bare.Number text) ss = (trees.Number text (here ss), behind ss)
  put bare.True ss = (trees.True (here ss), behind ss)
  put bare.False ss = (trees.False (here ss), behind ss)
  put bare.Null ss = (trees.Null (here ss), behind ss)
  put bare.This ss = (trees.This (here ss), behind ss)
  put (bare.Name text) ss = (trees.Named (name_of text ss), behind ss)
  put (bare.Paren inner) ss = paren_of (here ss) (put inner (behind ss))
  put (bare.Unary op operand) ss = unary_of op (here ss) (put operand (behind ss))
  put (bare.Binary op left right) ss = binary_of op (put left ss) (put right (behind (put left ss).1))
  put (bare.Field target text) ss = field_of text (put target ss)
  put (bare.Call text arguments) ss = call_of (name_of text ss) (put_arguments arguments (behind (behind ss)))
  put (bare.CallOn target text arguments) ss =
      call_on_of text (put target ss) (put_arguments arguments (behind (behind (behind (put target ss).1))))
  put (bare.Item array index) ss = item_of (put array ss) (put index (behind (put array ss).1))
  put (bare.New text arguments) ss =
      new_of (name_of text (behind ss)) (here ss) (put_arguments arguments (behind (behind (behind ss))))
  put (bare.NewMarkable text arguments) ss =
      new_markable_of (name_of text (behind (behind (behind ss)))) (here ss)
      (put_arguments arguments (behind (behind (behind (behind (behind (behind ss)))))))
  put (bare.NewArray length) ss = new_array_of (here ss) (put length (behind (behind (behind ss))))

  put_arguments : bare.Expressions → List Spot → PutClosed
  put_arguments bare.NoExpression ss = ((End, here ss), behind ss)
  put_arguments (bare.MoreExpressions t ts) ss = closed_of (more_of (put t ss) (put_others ts (put t ss).1))

  -- each after a comma
  put_others : bare.Expressions → List Spot → PutMany
  put_others bare.NoExpression ss = (End, ss)
  put_others (bare.MoreExpressions t ts) ss = more_of (put t (behind ss)) (put_others ts (put t (behind ss)).1)

abbrev put_some : bare.Expressions → List Spot → PutMany
put_some bare.NoExpression ss = (End, ss)
put_some (bare.MoreExpressions t ts) ss = more_of (put t ss) (put_others ts (put t ss).1)

others_are_some : {es : Expressions} {ss rest : List Spot} (comma : Spot) →
    SomeAt es ss rest →
    put_others (all_plain es) (comma ∷ ss) ≡ put_some (all_plain es) ss
others_are_some comma (one_at h) = refl
others_are_some comma (more_at h k) = refl

arguments_are_some : {es : Expressions} {ss rest : List Spot} →
    SomeAt es ss rest →
    put_arguments (all_plain es) ss ≡ closed_of (put_some (all_plain es) ss)
arguments_are_some (one_at h) = refl
arguments_are_some (more_at h k) = refl

mutual
  puts : {e : Expression} {ss rest : List Spot} → At e ss rest → put (plain e) ss ≡ (e, rest)
  puts number_at = refl
  puts true_at = refl
  puts false_at = refl
  puts null_at = refl
  puts this_at = refl
  puts name_at = refl
  puts (paren_at {from = from} h) = ap (paren_of from) (puts h)
  puts (unary_at {op} {from = from} h) = ap (unary_of op from) (puts h)
  puts (binary_at {op} {left} {right} {middle = middle} h g) =
      ap (λ (x : Put). binary_of op x (put (plain right) (behind x.1))) (puts h) ∙
      ap (binary_of op (left, middle)) (operand_puts g)
  puts (field_at {name = name} h) = ap (field_of name.text) (puts h)
  puts (call_at {name} g) = ap (call_of name) (arguments_put g)
  puts (call_on_at {target} {name} {arguments} {dot} {opening} {middle = middle} h g) =
      ap (λ (x : Put). call_on_of name.text x (put_arguments (all_plain arguments) (behind (behind (behind x.1)))))
      (puts h)
      ∙ ap (call_on_of name.text (target, sign signs.Dot dot ∷ named name ∷ sign signs.OpenParen opening ∷ middle))
      (arguments_put g)
  puts (item_at {array} {index} {middle = middle} h g) =
      ap (λ (x : Put). item_of x (put (plain index) (behind x.1))) (puts h) ∙
      ap (item_of (array, middle)) (index_puts g)
  puts (new_at {class} {from = from} g) = ap (new_of class from) (arguments_put g)
  puts (new_markable_at {class} {from = from} class_name_at g) = ap (new_markable_of class from) (arguments_put g)
  puts (new_array_at {from = from} g) = ap (new_array_of from) (index_puts g)

  operand_puts : {op : BinaryOp} {right : Expression} {ss rest : List Spot} →
      OperandAt op right ss rest →
      put (plain right) (behind ss) ≡ (right, rest)
  operand_puts (operand_at h) = puts h

  index_puts : {index : Expression} {last : Span} {ss rest : List Spot} →
      IndexAt index last ss rest →
      put (plain index) (behind ss) ≡ (index, sign signs.CloseBracket last ∷ rest)
  index_puts (index_at h) = puts h

  arguments_put : {es : Expressions} {last : Span} {ss rest : List Spot} →
      ArgumentsAt es last ss rest →
      put_arguments (all_plain es) ss ≡ ((es, last), rest)
  arguments_put none_at = refl
  arguments_put (some_at h) = arguments_are_some h ∙ ap closed_of (some_put h)

  some_put : {es : Expressions} {ss rest : List Spot} → SomeAt es ss rest → put_some (all_plain es) ss ≡ (es, rest)
  some_put (one_at h) = ap (λ (x : Put). more_of x (End, x.1)) (puts h)
  some_put (more_at {e} {others} {comma} {middle = middle} h k) =
      ap (λ (x : Put). more_of x (put_others (all_plain others) x.1)) (puts h)
      ∙ ap (more_of (e, sign signs.Comma comma ∷ middle)) (others_are_some (sign signs.Comma comma) k ∙ some_put k)

-- the law: tokens give an expression its places in at most one way
pub one_placing : OnePlacing
one_placing e f ss rest rest' h g same =
    ap (λ (x : Put). x.0) (sym (puts h) ∙ ap (λ (t : bare.Expression). put t ss) same ∙ puts g)
