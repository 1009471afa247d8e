-- The places of an expression, from what the parser's functions answer.
use Rattle.std.proofs.Common.{◌≡◌, true, List, [], ◌∷◌, ◌++◌, Result, Ok, Err, IfOk, sym, ap, subst, ◌∙◌, codes}
use Rattle.std.specs.Global.{Vec, Box}
use Rattle.std.specs.Cmp.Lexicographic.{same_text}
use Rattle.ls_lexer.specs.declared.token.Span.{Span}
use Rattle.ls_lexer.specs.declared.token.Token.{Token}
use Rattle.ls_lexer.specs.declared.word.Word.TheVariants as words
use Rattle.ls_lexer.specs.declared.sign.Sign.{Sign}
use Rattle.ls_lexer.specs.declared.sign.Sign.TheVariants as signs
use Rattle.ls_lexer.specs.Lexemes.{Named, Reserved}
use Rattle.ls_tree.specs.declared.tree.BinaryOp.{BinaryOp}
use Rattle.ls_tree.specs.declared.tree.UnaryOp.{UnaryOp}
use Rattle.ls_tree.specs.declared.tree.Expression.{Expression as Tree}
use Rattle.ls_tree.specs.declared.tree.Name.{Name}
use Rattle.ls_tree.specs.PlacedTrees as trees
use Rattle.ls_tree.specs.PlacedTrees.{Expression, Expressions, End, More, span_of}
use Rattle.ls_tree.specs.Placed.{placed, placed_all, placed_name}
use Rattle.ls_tree.specs.Views.{name_text}
use Rattle.ls_parser_spelling.specs.Spelling.{sign_of, sign_of_unary}
use Rattle.ls_parser_spelling.specs.Places.{Spot, ClassNameAt, class_name_at, spot, spots, sign, named, upto, At}
use Rattle.ls_parser_spelling.specs.Places.{OperandAt, IndexAt, ArgumentsAt, SomeAt, name_at, paren_at, unary_at}
use Rattle.ls_parser_spelling.specs.Places.{binary_at, operand_at, index_at, field_at, call_at, call_on_at, item_at}
use Rattle.ls_parser_spelling.specs.Places.{new_at, new_markable_at, new_array_at, none_at, some_at, one_at, more_at}
use Rattle.ls_parser_expressions.specs.ReadingExpressions.{markable_name, is_markable}
use Rattle.ls_parser_expressions.proofs.PlacedRows.{snoc, all_push}

-- ---- tokens

-- both facts of what is answered
pub both_ok : {R E : Type 0} (r : Result R E) (P Q S : R → Type 0) → ((x : R) → P x → Q x → S x) →
    IfOk r P →
    IfOk r Q →
    IfOk r S
both_ok (Ok x) P Q S f p q = f x p q
both_ok (Err e) P Q S f p q = tt

-- a sign at its place, as its operator names it
pub operator_stands : (op : BinaryOp) {mark : Sign} {at : Span} {rest : List Spot} →
    sign_of op ≡ mark →
    sign mark at ∷ rest ≡ sign (sign_of op) at ∷ rest
operator_stands op {at = at} {rest} is = ap (λ (m : Sign). sign m at ∷ rest) (sym is)

-- a name between angle brackets
pub class_name_is : {n m : Name} {from : Span} {ss middle end rest : List Spot} →
    m ≡ n →
    ss ≡ sign signs.Less from ∷ middle →
    middle ≡ named (placed_name n) ∷ end →
    (s : Span) × (end ≡ sign signs.Greater s ∷ rest) →
    ClassNameAt (placed_name m) ss rest
class_name_is {n} {from = from} {ss} {rest = rest} same a b c =
    subst (λ (x : Name). ClassNameAt (placed_name x) ss rest) (sym same)
    (subst (λ (xs : List Spot). ClassNameAt (placed_name n) xs rest)
    (sym (a ∙ ap (λ (xs : List Spot). sign signs.Less from ∷ xs)
    (b ∙ ap (λ (xs : List Spot). named (placed_name n) ∷ xs) c.1))) class_name_at)

-- a text that is tested to be the markable class is its name
pub is_markable_text : (text : trees.Text) → is_markable text ≡ true → text ≡ codes "AtomicMarkableReference"
is_markable_text text is = same_text text markable_name (sym is)

-- a name that was made of a text and a span
pub name_spot : (n : Name) {text : trees.Text} {span : Span} →
    name_text n ≡ text →
    n.span ≡ span →
    named (placed_name n) ≡ spot (Named text) span
name_spot n a b = λ i. spot (Named (a i)) (b i)

-- ---- operators

-- an expression in parentheses
pub paren_is : {e : Expression} {from last : Span} {ss middle rest : List Spot} →
    At e ss middle →
    middle ≡ sign signs.CloseParen last ∷ rest →
    At (trees.Paren e (upto from last)) (sign signs.OpenParen from ∷ ss) rest
paren_is {e} {ss = ss} h is = paren_at (subst (At e ss) is h)

-- an operator before an operand
pub unary_is : {op : UnaryOp} {e : Expression} {from : Span} {ss rest : List Spot} → At e ss rest →
    At (trees.Unary op e (upto from (span_of e))) (sign (sign_of_unary op) from ∷ ss) rest
unary_is h = unary_at h

-- an operator and its right operand
pub operand_is : {op : BinaryOp} {e : Expression} {s : Span} {ss middle rest : List Spot} →
    ss ≡ sign (sign_of op) s ∷ middle →
    At e middle rest →
    OperandAt op e ss rest
operand_is {op} {e} {rest = rest} is h = subst (λ (xs : List Spot). OperandAt op e xs rest) (sym is) (operand_at h)

-- an operator between operands
pub binary_is : {t : Expression} {op : BinaryOp} {left right : Expression} {middle rest : List Spot} →
    t ≡ trees.Binary op left right (upto (span_of left) (span_of right)) →
    OperandAt op right middle rest →
    (ss : List Spot) → At left ss middle → At t ss rest
binary_is {middle = middle} {rest} is g ss h = subst (λ (x : Expression). At x ss rest) (sym is) (binary_at h g)

-- ---- suffixes

-- after a dot
pub dotted : {e f : Expression} {dot : Span} {before behind rest : List Spot} → before ≡ sign signs.Dot dot ∷ behind →
    ((ss : List Spot) (at : Span) → At e ss (sign signs.Dot at ∷ behind) → At f ss rest) → (ss : List Spot) →
    At e ss before → At f ss rest
dotted {e} {dot = dot} is go ss h = go ss dot (subst (At e ss) is h)

-- a field
pub field_is : {target : Expression} {name : trees.Name} {start span : Span} {behind rest : List Spot} →
    start ≡ span_of target →
    span ≡ upto start name.span →
    behind ≡ named name ∷ rest →
    (ss : List Spot) (dot : Span) → At target ss (sign signs.Dot dot ∷ behind) →
    At (trees.Field target name span) ss rest
field_is {target} {name} {rest = rest} from whole is ss dot h =
    subst (λ (s : Span). At (trees.Field target name s) ss rest)
    (sym (whole ∙ ap (λ (s : Span). upto s name.span) from))
    (field_at (subst (λ (xs : List Spot). At target ss (sign signs.Dot dot ∷ xs)) is h))

-- a call of a method on an object
pub call_on_is : {t target : Expression} {name : trees.Name} {arguments : Expressions} {opening last start span : Span}
    {behind middle inner rest : List Spot} →
    t ≡ trees.CallOn target name arguments span → start ≡ span_of target → span ≡ upto start last →
    behind ≡ named name ∷ middle → middle ≡ sign signs.OpenParen opening ∷ inner →
    ArgumentsAt arguments last inner rest →
    (ss : List Spot) (dot : Span) → At target ss (sign signs.Dot dot ∷ behind) → At t ss rest
call_on_is {target = target} {name} {arguments} {last = last} {rest = rest} is from whole a b g ss dot h =
    subst (λ (x : Expression). At x ss rest)
    (sym (is ∙ ap (trees.CallOn target name arguments) (whole ∙ ap (λ (s : Span). upto s last) from)))
    (call_on_at (subst (λ (xs : List Spot). At target ss (sign signs.Dot dot ∷ xs))
    (a ∙ ap (λ (xs : List Spot). named name ∷ xs) b) h) g)

-- an item of an array
pub item_is : {array index : Expression} {last : Span} {middle rest : List Spot} → IndexAt index last middle rest →
    (ss : List Spot) → At array ss middle → At (trees.Item array index (upto (span_of array) last)) ss rest
item_is g ss h = item_at h g

index_stands : {e : Expression} {opening last : Span} {ss middle end rest : List Spot} →
    ss ≡ sign signs.OpenBracket opening ∷ middle →
    At e middle end →
    end ≡ sign signs.CloseBracket last ∷ rest →
    IndexAt e last ss rest
index_stands {e} {opening} {last} {middle = middle} {rest = rest} is h close =
    subst (λ (xs : List Spot). IndexAt e last xs rest) (sym is) (index_at (subst (At e middle) close h))

-- of an index that was boxed
pub index_is :
    {b c : Box Tree} {e : Tree} {opening last : Span} {before after : List Token} {ss middle rest : List Spot} →
    c ≡ b →
    b.value ≡ e →
    after ≡ before →
    ss ≡ sign signs.OpenBracket opening ∷ middle → At (placed e) middle (spots before) →
    spots after ≡ sign signs.CloseBracket last ∷ rest → IndexAt (placed c.value) last ss rest
index_is {last = last} {ss = ss} {rest = rest} same boxed kept is h close =
    subst (λ (x : Tree). IndexAt (placed x) last ss rest) (sym (ap (λ (x : Box Tree). x.value) same ∙ boxed))
    (index_stands is h (sym (ap spots kept) ∙ close))

-- ---- arguments

-- no argument
pub none_is : (es : List Tree) {last : Span} {ss rest : List Spot} →
    es ≡ [] →
    ss ≡ sign signs.CloseParen last ∷ rest →
    ArgumentsAt (placed_all es) last ss rest
none_is es {last} {rest = rest} e is =
    subst (λ (xs : List Spot). ArgumentsAt (placed_all es) last xs rest) (sym is)
    (subst (λ (xs : List Tree). ArgumentsAt (placed_all xs) last (sign signs.CloseParen last ∷ rest) rest) (sym e)
    none_at)

-- the first argument
pub first_is : (es : List Tree) (e : Tree) {ss rest : List Spot} →
    es ≡ [] ++ e ∷ [] →
    At (placed e) ss rest →
    SomeAt (placed_all es) ss rest
first_is es e {ss} {rest} is h = subst (λ (xs : List Tree). SomeAt (placed_all xs) ss rest) (sym is) (one_at h)

more_is : {es : Expressions} {e : Expression} {comma : Span} {ss middle next rest : List Spot} →
    SomeAt es ss middle →
    middle ≡ sign signs.Comma comma ∷ next →
    At e next rest →
    SomeAt (snoc es e) ss rest
more_is {e = e} (one_at {e = first} {ss} {rest} h) is g = more_at (subst (At first ss) is h) (one_at g)
more_is (more_at h k) is g = more_at h (more_is k is g)

-- one argument more, after a comma
pub pushed_is : (es : List Tree) (e : Tree) {all : List Tree} {comma : Span} {middle next rest : List Spot} →
    all ≡ es ++ e ∷ [] →
    middle ≡ sign signs.Comma comma ∷ next →
    At (placed e) next rest →
    (ss : List Spot) → SomeAt (placed_all es) ss middle → SomeAt (placed_all all) ss rest
pushed_is es e {rest = rest} push is g ss h =
    subst (λ (xs : Expressions). SomeAt xs ss rest) (sym (ap placed_all push ∙ all_push es e)) (more_is h is g)

-- arguments up to the closing parenthesis
pub some_is : {v w : Vec Tree} {last : Span} {ss middle rest : List Spot} →
    w ≡ v →
    SomeAt (placed_all v.items) ss middle →
    middle ≡ sign signs.CloseParen last ∷ rest →
    ArgumentsAt (placed_all w.items) last ss rest
some_is {v} {last = last} {ss} {rest = rest} same h is =
    subst (λ (x : Vec Tree). ArgumentsAt (placed_all x.items) last ss rest) (sym same)
    (some_at (subst (SomeAt (placed_all v.items) ss) is h))

-- ---- names and what is made

-- a name alone
pub name_is : (n : Name) {text : trees.Text} {span : Span} {rest : List Spot} →
    name_text n ≡ text →
    n.span ≡ span →
    At (trees.Named (placed_name n)) (spot (Named text) span ∷ rest) rest
name_is n {rest = rest} a b =
    subst (λ (x : Spot). At (trees.Named (placed_name n)) (x ∷ rest) rest) (name_spot n a b) name_at

-- a call of a method by its name
pub call_is : (n : Name) {t : Expression} {text : trees.Text} {start span opening last : Span} {arguments : Expressions}
    {ss middle rest : List Spot} →
    name_text n ≡ text → n.span ≡ start → t ≡ trees.Call (placed_name n) arguments span → span ≡ upto start last →
    ss ≡ sign signs.OpenParen opening ∷ middle → ArgumentsAt arguments last middle rest →
    At t (spot (Named text) start ∷ ss) rest
call_is n {t} {start = start} {last = last} {arguments} {ss} {middle} {rest} a b is whole c g =
    let called : At (trees.Call (placed_name n) arguments (upto n.span last)) (named (placed_name n) ∷ ss) rest =
    subst (λ (xs : List Spot). At (trees.Call (placed_name n) arguments (upto n.span last)) (named (placed_name n) ∷ xs)
    rest) (sym c) (call_at g) in
    subst (λ (x : Spot). At t (x ∷ ss) rest) (name_spot n a b)
    (subst (λ (x : Expression). At x (named (placed_name n) ∷ ss) rest)
    (sym (is ∙ ap (trees.Call (placed_name n) arguments) (whole ∙ ap (λ (s : Span). upto s last) (sym b)))) called)

-- a making of an object
pub new_is : (n : Name) {t : Expression} {text : trees.Text} {from start span opening last : Span}
    {arguments : Expressions} {ss middle rest : List Spot} →
    name_text n ≡ text → n.span ≡ start → t ≡ trees.New (placed_name n) arguments span → span ≡ upto from last →
    ss ≡ sign signs.OpenParen opening ∷ middle → ArgumentsAt arguments last middle rest →
    At t (spot (Reserved words.New) from ∷ spot (Named text) start ∷ ss) rest
new_is n {t} {from = from} {last = last} {arguments} {ss} {middle} {rest} a b is whole c g =
    let made : At (trees.New (placed_name n) arguments (upto from last)) (spot (Reserved words.New) from ∷
    named (placed_name n) ∷ ss) rest =
    subst (λ (xs : List Spot). At (trees.New (placed_name n) arguments (upto from last)) (spot (Reserved words.New) from
    ∷ named (placed_name n) ∷ xs) rest) (sym c) (new_at g) in
    subst (λ (x : Spot). At t (spot (Reserved words.New) from ∷ x ∷ ss) rest) (name_spot n a b)
    (subst (λ (x : Expression). At x (spot (Reserved words.New) from ∷ named (placed_name n) ∷ ss) rest)
    (sym (is ∙ ap (trees.New (placed_name n) arguments) whole)) made)

-- a making of a markable reference
pub new_markable_is : {t : Expression} {text : trees.Text} {class : trees.Name} {from at span opening last : Span}
    {arguments : Expressions} {ss middle inner rest : List Spot} →
    is_markable text ≡ true → t ≡ trees.NewMarkable class arguments span → span ≡ upto from last →
    ClassNameAt class ss middle → middle ≡ sign signs.OpenParen opening ∷ inner →
    ArgumentsAt arguments last inner rest →
    At t (spot (Reserved words.New) from ∷ spot (Named text) at ∷ ss) rest
new_markable_is {t} {text} {class} {from} {at} {arguments = arguments} {ss} {rest = rest} a is whole n c g =
    subst (λ (x : trees.Text). At t (spot (Reserved words.New) from ∷ spot (Named x) at ∷ ss) rest)
    (sym (is_markable_text text a))
    (subst (λ (x : Expression). At x (spot (Reserved words.New) from ∷ spot (Named (codes "AtomicMarkableReference")) at
    ∷ ss) rest) (sym (is ∙ ap (trees.NewMarkable class arguments) whole))
    (new_markable_at (subst (ClassNameAt class ss) c n) g))

-- a making of an array
pub new_array_is : {e : Expression} {from at last span : Span} {ss middle rest : List Spot} →
    span ≡ upto from last →
    ss ≡ spot (Reserved words.Boolean) at ∷ middle →
    IndexAt e last middle rest →
    At (trees.NewArray e span) (spot (Reserved words.New) from ∷ ss) rest
new_array_is {e} {from} {last = last} {ss = ss} {rest = rest} whole is g =
    subst (λ (s : Span). At (trees.NewArray e s) (spot (Reserved words.New) from ∷ ss) rest) (sym whole)
    (subst (λ (xs : List Spot). At (trees.NewArray e (upto from last)) (spot (Reserved words.New) from ∷ xs) rest)
    (sym is) (new_array_at g))
