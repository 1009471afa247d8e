-- The places of simple forms, from what the parser's functions answer.
use Rattle.std.proofs.Common.{◌≡◌, max, true, false, Bool, List, [], ◌∷◌, ◌++◌, Option, sym, ap, subst, ◌∙◌, map, arith}
use Rattle.std.specs.Global.{Vec}
use Rattle.ls_lexer.specs.declared.token.Span.{Span}
use Rattle.ls_lexer.specs.declared.sign.Sign.{Sign}
use Rattle.ls_lexer.specs.declared.sign.Sign.TheVariants as signs
use Rattle.ls_tree.specs.declared.tree.Simple.{Simple}
use Rattle.ls_tree.specs.Trees as bare
use Rattle.ls_tree.specs.WellFormed.{simple_height, simples_height}
use Rattle.ls_tree.specs.PlacedTrees as trees
use Rattle.ls_tree.specs.PlacedTrees.{Expression, Opening}
use Rattle.ls_tree.specs.PlacedStatements.{placed_simple}
use Rattle.ls_parser_spelling.specs.Spelling.{count_sign}
use Rattle.ls_parser_spelling.specs.Places.{Spot, sign, At}
use Rattle.ls_parser_spelling.specs.StatementPlaces.{none_left, BehindComma, behind_comma_at, ReturnedAt, SimpleAt}
use Rattle.ls_parser_spelling.specs.StatementPlaces.{assign_at, add_at, count_before_at, count_behind_at, evaluate_at}
use Rattle.ls_parser_spelling.specs.StatementPlaces.{SomeSimplesAt, some_simples_at, SimplesAt, no_simple_at}
use Rattle.ls_parser_spelling.specs.StatementPlaces.{simples_at, OpeningAt, HeadAt, head_at, StatementAt, perform_at}
use Rattle.ls_parser_expressions.proofs.Rows.{map_push}
use Rattle.ls_parser_declarations.proofs.Places.{many_push}

-- a `++` at its place
pub up_is : {s : Span} {ss rest : List Spot} →
    ss ≡ sign signs.Increment s ∷ rest →
    (s : Span) × (ss ≡ sign (count_sign true) s ∷ rest)
up_is {s} is = (s, is)

-- a `--` at its place
pub down_is : {s : Span} {ss rest : List Spot} →
    ss ≡ sign signs.Decrement s ∷ rest →
    (s : Span) × (ss ≡ sign (count_sign false) s ∷ rest)
down_is {s} is = (s, is)

-- an assignment
pub assign_is : {target value : Expression} {s : Span} {middle inner rest : List Spot} →
    middle ≡ sign signs.Assign s ∷ inner →
    At value inner rest →
    (ss : List Spot) → At target ss middle → SimpleAt (trees.Assign target value) ss rest
assign_is {target} a g ss h = assign_at (subst (At target ss) a h) g

-- a `+=`
pub add_is : {target value : Expression} {s : Span} {middle inner rest : List Spot} →
    middle ≡ sign signs.PlusAssign s ∷ inner →
    At value inner rest →
    (ss : List Spot) → At target ss middle → SimpleAt (trees.Add target value) ss rest
add_is {target} a g ss h = add_at (subst (At target ss) a h) g

-- a count after its target
pub count_behind_is : {up : Bool} {target : Expression} {middle rest : List Spot} →
    (s : Span) × (middle ≡ sign (count_sign up) s ∷ rest) →
    (ss : List Spot) → At target ss middle → SimpleAt (trees.Count up false target) ss rest
count_behind_is {target = target} a ss h = count_behind_at (subst (At target ss) a.1 h)

-- a count before its target
pub count_before_is : {up : Bool} {target : Expression} {ss inner rest : List Spot} →
    (s : Span) × (ss ≡ sign (count_sign up) s ∷ inner) →
    At target inner rest →
    SimpleAt (trees.Count up true target) ss rest
count_before_is {up} {target} {rest = rest} a h =
    subst (λ (xs : List Spot). SimpleAt (trees.Count up true target) xs rest) (sym a.1) (count_before_at h)

-- an expression that is evaluated
pub evaluate_is : {value : Expression} {middle : List Spot} → (ss : List Spot) →
    At value ss middle →
    SimpleAt (trees.Evaluate value) ss middle
evaluate_is ss h = evaluate_at h

-- a simple form before its semicolon
pub perform_is : {s t : Simple} {last : Span} {ss end rest : List Spot} →
    t ≡ s →
    SimpleAt (placed_simple s) ss end →
    end ≡ sign signs.Semicolon last ∷ rest →
    StatementAt (trees.Perform (placed_simple t)) ss rest
perform_is {s} {ss = ss} {rest = rest} same h is =
    subst (λ (x : Simple). StatementAt (trees.Perform (placed_simple x)) ss rest) (sym same)
    (perform_at (subst (SimpleAt (placed_simple s) ss) is h))

-- ---- lists of them

-- the height of one simple form more
pub simples_height_push : (ss : List bare.Simple) (s : bare.Simple) →
    simples_height (ss ++ s ∷ []) ≡ max (simples_height ss) (simple_height s)
simples_height_push [] s = omega arith
simples_height_push (x ∷ ss) s = omega (arith, simples_height_push ss s)

-- the first simple form
pub first_simple : (xs : List Simple) (x : Simple) {ss rest : List Spot} →
    xs ≡ [] ++ x ∷ [] →
    SimpleAt (placed_simple x) ss rest →
    SomeSimplesAt (map placed_simple xs) ss rest
first_simple xs x {ss} {rest} is h =
    subst (λ (ys : List Simple). SomeSimplesAt (map placed_simple ys) ss rest) (sym is) (some_simples_at h none_left)

some_push : {xs : List trees.Simple} {x : trees.Simple} {ss middle rest : List Spot} →
    SomeSimplesAt xs ss middle →
    BehindComma SimpleAt x middle rest →
    SomeSimplesAt (xs ++ x ∷ []) ss rest
some_push (some_simples_at h k) g = some_simples_at h (many_push (BehindComma SimpleAt) k g)

-- one simple form more, after a comma
pub simple_pushed :
    (xs : List Simple) (x : Simple) {all : List Simple} {comma : Span} {middle inner rest : List Spot} →
    all ≡ xs ++ x ∷ [] →
    middle ≡ sign signs.Comma comma ∷ inner →
    SimpleAt (placed_simple x) inner rest →
    (ss : List Spot) → SomeSimplesAt (map placed_simple xs) ss middle → SomeSimplesAt (map placed_simple all) ss rest
simple_pushed xs x {rest = rest} is a g ss h =
    subst (λ (ys : List trees.Simple). SomeSimplesAt ys ss rest)
    (sym (ap (map placed_simple) is ∙ map_push placed_simple xs x))
    (some_push h (subst (λ (ys : List Spot). BehindComma SimpleAt (placed_simple x) ys rest) (sym a)
    (behind_comma_at g)))

-- no simple form
pub no_simples : (stop : Sign) (xs : List Simple) {last : Span} {ss rest : List Spot} →
    xs ≡ [] →
    ss ≡ sign stop last ∷ rest →
    SimplesAt stop (map placed_simple xs) ss rest
no_simples stop xs {last} {rest = rest} e is =
    subst (λ (ys : List Spot). SimplesAt stop (map placed_simple xs) ys rest) (sym is)
    (subst (λ (ys : List Simple). SimplesAt stop (map placed_simple ys) (sign stop last ∷ rest) rest) (sym e)
    no_simple_at)

-- simple forms up to their stop
pub simples_are : (stop : Sign) {v w : Vec Simple} {last : Span} {ss end rest : List Spot} →
    w ≡ v →
    SomeSimplesAt (map placed_simple v.items) ss end →
    end ≡ sign stop last ∷ rest →
    SimplesAt stop (map placed_simple w.items) ss rest
simples_are stop {v} {ss = ss} {rest = rest} same h is =
    subst (λ (x : Vec Simple). SimplesAt stop (map placed_simple x.items) ss rest) (sym same)
    (simples_at (subst (SomeSimplesAt (map placed_simple v.items) ss) is h))

-- the head of a `for`
pub head_is : {opening : Opening} {condition : Option Expression} {updates : List trees.Simple} {paren semicolon : Span}
    {ss inner middle behind rest : List Spot} →
    ss ≡ sign signs.OpenParen paren ∷ inner → OpeningAt opening inner middle →
    ReturnedAt condition semicolon middle behind → SimplesAt signs.CloseParen updates behind rest →
    HeadAt opening condition updates ss rest
head_is {opening} {condition} {updates} {rest = rest} is h g k =
    subst (λ (xs : List Spot). HeadAt opening condition updates xs rest) (sym is) (head_at h g k)
