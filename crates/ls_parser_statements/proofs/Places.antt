-- The places of statements, from what the parser's functions answer.
use Rattle.std.proofs.Common.{◌≡◌, List, [], ◌∷◌, ◌++◌, Option, Some, None, Result, Ok, Err, IfOk, refl, sym, ap}
use Rattle.std.proofs.Common.{subst, ◌∙◌}
use Rattle.ls_lexer.specs.declared.token.Span.{Span}
use Rattle.ls_lexer.specs.declared.word.Word.{Word}
use Rattle.ls_lexer.specs.declared.word.Word.TheVariants as words
use Rattle.ls_lexer.specs.declared.sign.Sign.TheVariants as signs
use Rattle.ls_lexer.specs.Lexemes.{Named}
use Rattle.ls_tree.specs.declared.tree.Expression.{Expression as Tree}
use Rattle.ls_tree.specs.declared.tree.Name.{Name}
use Rattle.ls_tree.specs.declared.tree.BlockItem.{BlockItem}
use Rattle.ls_tree.specs.declared.tree.BlockItem.TheVariants as rows
use Rattle.ls_tree.specs.Views.{name_text}
use Rattle.ls_tree.specs.PlacedTrees as trees
use Rattle.ls_tree.specs.PlacedTrees.{Expression, Declaration, Simple, Opening, Statement, Items, NoItem, Do, Declare}
use Rattle.ls_tree.specs.Placed.{placed, placed_name}
use Rattle.ls_tree.specs.PlacedStatements.{placed_declaration, placed_statement, placed_before, placed_items}
use Rattle.ls_parser_spelling.specs.Places.{Spot, spot, sign, At}
use Rattle.ls_parser_spelling.specs.StatementPlaces.{word, DeclarationAt, ConditionAt, condition_at, LabelAt}
use Rattle.ls_parser_spelling.specs.StatementPlaces.{no_label_at, label_at, JumpAt, bare_jump_at, jump_to_at}
use Rattle.ls_parser_spelling.specs.StatementPlaces.{ReturnedAt, nothing_at, returned_at, HeadAt, StatementAt}
use Rattle.ls_parser_spelling.specs.StatementPlaces.{block_statement_at, empty_at, if_at, if_else_at, while_at}
use Rattle.ls_parser_spelling.specs.StatementPlaces.{for_at, try_at, synchronized_at, BlockAt, block_at, ItemsAt}
use Rattle.ls_parser_spelling.specs.StatementPlaces.{no_item_at, do_at, declare_at}
use Rattle.ls_parser_expressions.proofs.Places.{name_spot}

-- ---- simple statements

-- a condition between its parentheses
pub condition_is : {e f : Tree} {opening last : Span} {ss middle end rest : List Spot} →
    f ≡ e →
    ss ≡ sign signs.OpenParen opening ∷ middle →
    At (placed e) middle end →
    end ≡ sign signs.CloseParen last ∷ rest →
    ConditionAt (placed f) ss rest
condition_is {e} {ss = ss} {middle} {rest = rest} same a h b =
    subst (λ (x : Tree). ConditionAt (placed x) ss rest) (sym same)
    (subst (λ (xs : List Spot). ConditionAt (placed e) xs rest) (sym a)
    (condition_at (subst (At (placed e) middle) b h)))

-- an expression before a semicolon
pub ended_is : {e f : Tree} {last : Span} {ss end rest : List Spot} →
    f ≡ e →
    At (placed e) ss end →
    end ≡ sign signs.Semicolon last ∷ rest →
    At (placed f) ss (sign signs.Semicolon last ∷ rest)
ended_is {e} {last = last} {ss} {rest = rest} same h is =
    subst (λ (x : Tree). At (placed x) ss (sign signs.Semicolon last ∷ rest)) (sym same) (subst (At (placed e) ss) is h)

-- a jump without a label
pub bare_jump_is : {last : Span} {ss rest : List Spot} →
    ss ≡ sign signs.Semicolon last ∷ rest →
    JumpAt None last ss rest
bare_jump_is {last} {rest = rest} is = subst (λ (xs : List Spot). JumpAt None last xs rest) (sym is) bare_jump_at

-- a jump with a label
pub jump_is : (n : Name) {text : trees.Text} {span last : Span} {ss middle rest : List Spot} →
    name_text n ≡ text →
    n.span ≡ span →
    ss ≡ spot (Named text) span ∷ middle →
    middle ≡ sign signs.Semicolon last ∷ rest →
    JumpAt (Some (placed_name n)) last ss rest
jump_is n {last = last} {ss} {middle} {rest} a b is end =
    subst (λ (xs : List Spot). JumpAt (Some (placed_name n)) last xs rest)
    (sym (is ∙ (λ i. sym (name_spot n a b) i ∷ end i))) jump_to_at

-- a return without a value
pub nothing_is : {last : Span} {ss rest : List Spot} →
    ss ≡ sign signs.Semicolon last ∷ rest →
    ReturnedAt None last ss rest
nothing_is {last} {rest = rest} is = subst (λ (xs : List Spot). ReturnedAt None last xs rest) (sym is) nothing_at

-- a return with a value
pub returned_is : {e : Expression} {last : Span} {ss rest : List Spot} →
    At e ss (sign signs.Semicolon last ∷ rest) →
    ReturnedAt (Some e) last ss rest
returned_is h = returned_at h

-- ---- statements

-- a block between its braces
pub block_is : {items : Items} {opening last : Span} {ss middle end rest : List Spot} →
    ss ≡ sign signs.OpenBrace opening ∷ middle →
    ItemsAt items middle end →
    end ≡ sign signs.CloseBrace last ∷ rest →
    BlockAt items ss rest
block_is {items} {middle = middle} {rest = rest} a h b =
    subst (λ (xs : List Spot). BlockAt items xs rest) (sym a) (block_at (subst (ItemsAt items middle) b h))

-- the items of both, one after the other
abbrev pub joined : Items → Items → Items
joined NoItem others = others
joined (Do s xs) others = Do s (joined xs others)
joined (Declare d xs) others = Declare d (joined xs others)

items_join : {xs ys : Items} {ss middle rest : List Spot} →
    ItemsAt xs ss middle →
    ItemsAt ys middle rest →
    ItemsAt (joined xs ys) ss rest
items_join no_item_at g = g
items_join (do_at h k) g = do_at h (items_join k g)
items_join (declare_at h k) g = declare_at h (items_join k g)

items_push : (items : List BlockItem) (item : BlockItem) →
    placed_items (items ++ item ∷ []) ≡ joined (placed_items items) (placed_before item NoItem)
items_push [] (rows.Statement s) = refl
items_push [] (rows.Declaration d) = refl
items_push (rows.Statement s ∷ items) item = ap (Do (placed_statement s)) (items_push items item)
items_push (rows.Declaration d ∷ items) item = ap (Declare (placed_declaration d)) (items_push items item)

-- no items
pub items_none : {items : List BlockItem} {ss : List Spot} → items ≡ [] → ItemsAt (placed_items items) ss ss
items_none {ss = ss} is = subst (λ (xs : List BlockItem). ItemsAt (placed_items xs) ss ss) (sym is) no_item_at

-- one item more
pub items_pushed : (items : List BlockItem) (item : BlockItem) {all : List BlockItem} {middle rest : List Spot} →
    all ≡ items ++ item ∷ [] →
    ItemsAt (placed_before item NoItem) middle rest →
    (ss : List Spot) → ItemsAt (placed_items items) ss middle → ItemsAt (placed_items all) ss rest
items_pushed items item {rest = rest} is g ss h =
    subst (λ (xs : Items). ItemsAt xs ss rest) (sym (ap placed_items is ∙ items_push items item)) (items_join h g)

-- one statement as items
pub one_statement : {s : Statement} {ss rest : List Spot} → StatementAt s ss rest → ItemsAt (Do s NoItem) ss rest
one_statement h = do_at h no_item_at

-- one declaration as items
pub one_declaration : {d : Declaration} {ss rest : List Spot} →
    DeclarationAt d ss rest →
    ItemsAt (Declare d NoItem) ss rest
one_declaration h = declare_at h no_item_at

-- a block as a statement
pub block_statement_is : {t : Statement} {items : Items} {ss rest : List Spot} →
    t ≡ trees.Block items →
    BlockAt items ss rest →
    StatementAt t ss rest
block_statement_is {ss = ss} {rest} is h =
    subst (λ (x : Statement). StatementAt x ss rest) (sym is) (block_statement_at h)

-- the empty statement
pub empty_is : {s : Span} {ss rest : List Spot} → ss ≡ sign signs.Semicolon s ∷ rest → StatementAt trees.Empty ss rest
empty_is {rest = rest} is = subst (λ (xs : List Spot). StatementAt trees.Empty xs rest) (sym is) empty_at

-- an `if` without `else`
pub if_is : {condition : Expression} {first : Statement} {ss middle rest : List Spot} →
    ConditionAt condition ss middle →
    StatementAt first middle rest →
    (s : Span) → StatementAt (trees.If condition first) (word words.If s ∷ ss) rest
if_is h g s = if_at h g

-- an `if` with `else`
pub if_else_is :
    {condition : Expression} {first second : Statement} {other : Span} {ss middle end behind rest : List Spot} →
    ConditionAt condition ss middle →
    StatementAt first middle end →
    end ≡ word words.Else other ∷ behind →
    StatementAt second behind rest →
    (s : Span) → StatementAt (trees.IfElse condition first second) (word words.If s ∷ ss) rest
if_else_is {first = first} {middle = middle} h g is k s = if_else_at h (subst (StatementAt first middle) is g) k

-- a `while`
pub while_is :
    {label : Option trees.Name} {condition : Expression} {body : Statement} {behind middle rest : List Spot} →
    ConditionAt condition behind middle →
    StatementAt body middle rest →
    (ss : List Spot) (s : Span) → LabelAt label ss (word words.While s ∷ behind) →
    StatementAt (trees.While label condition body) ss rest
while_is h g ss s l = while_at l h g

-- a `for`
pub for_is :
    {label : Option trees.Name} {opening : Opening} {condition : Option Expression} {updates : List Simple}
    {body : Statement} {behind middle rest : List Spot} →
    HeadAt opening condition updates behind middle →
    StatementAt body middle rest →
    (ss : List Spot) (s : Span) → LabelAt label ss (word words.For s ∷ behind) →
    StatementAt (trees.For label opening condition updates body) ss rest
for_is h g ss s l = for_at l h g

-- a `try`
pub try_is : {t : Statement} {body finally : Items} {other : Span} {ss middle inner rest : List Spot} →
    t ≡ trees.Try body finally →
    BlockAt body ss middle →
    middle ≡ word words.Finally other ∷ inner →
    BlockAt finally inner rest →
    (s : Span) → StatementAt t (word words.Try s ∷ ss) rest
try_is {body = body} {ss = ss} {rest = rest} same h is g s =
    subst (λ (x : Statement). StatementAt x (word words.Try s ∷ ss) rest) (sym same)
    (try_at (subst (BlockAt body ss) is h) g)

-- a `synchronized`
pub synchronized_is : {t : Statement} {target : Expression} {body : Items} {ss middle rest : List Spot} →
    t ≡ trees.Synchronized target body →
    ConditionAt target ss middle →
    BlockAt body middle rest →
    (s : Span) → StatementAt t (word words.Synchronized s ∷ ss) rest
synchronized_is {ss = ss} {rest = rest} same h g s =
    subst (λ (x : Statement). StatementAt x (word words.Synchronized s ∷ ss) rest) (sym same) (synchronized_at h g)

-- a label before the word of a loop
pub labelled : (n : Name) {text : trees.Text} {w : Word} {span colon s : Span} {ss middle behind : List Spot} →
    name_text n ≡ text →
    n.span ≡ span →
    ss ≡ spot (Named text) span ∷ sign signs.Colon colon ∷ middle →
    middle ≡ word w s ∷ behind →
    LabelAt (Some (placed_name n)) ss (word w s ∷ behind)
labelled n {w = w} {colon = colon} {s} {behind = behind} a b is end =
    subst (λ (xs : List Spot). LabelAt (Some (placed_name n)) xs (word w s ∷ behind))
    (sym (is ∙ (λ i. sym (name_spot n a b) i ∷ sign signs.Colon colon ∷ end i))) label_at

-- a loop without a label
pub loop_is : {t : Statement} {w : Word} {s : Span} {ss inner rest : List Spot} →
    ((xs : List Spot) (at : Span) → LabelAt None xs (word w at ∷ inner) → StatementAt t xs rest) →
    ss ≡ word w s ∷ inner →
    StatementAt t ss rest
loop_is {s = s} {ss} f is = f ss s (subst (LabelAt None ss) is no_label_at)

-- the loop, if there is no label
pub without_label :
    {R E : Type 0} (r : Result R E) (P : R → List Spot → Type 0) {w : Word} {s : Span} {ss inner : List Spot} →
    ss ≡ word w s ∷ inner →
    IfOk r (λ x. (xs : List Spot) (at : Span) → LabelAt None xs (word w at ∷ inner) → P x xs) → IfOk r (λ x. P x ss)
without_label (Ok x) P {s = s} {ss} is f = f ss s (subst (LabelAt None ss) is no_label_at)
without_label (Err e) P is f = tt

-- the loop after a label
pub behind_label :
    {R E : Type 0} (r : Result R E) (P : R → List Spot → Type 0) (n : Name) {text : trees.Text} {w : Word}
    {span s : Span} {middle behind : List Spot} →
    name_text n ≡ text →
    n.span ≡ span →
    middle ≡ word w s ∷ behind →
    IfOk r (λ x. (xs : List Spot) (at : Span) → LabelAt (Some (placed_name n)) xs (word w at ∷ behind) → P x xs) →
    IfOk r (λ x. (xs : List Spot) (colon : Span) → xs ≡ spot (Named text) span ∷ sign signs.Colon colon ∷ middle →
    P x xs)
behind_label (Ok x) P n {s = s} a b end f = λ xs colon is. f xs s (labelled n a b is end)
behind_label (Err e) P n a b end f = tt

-- what comes after a name and a colon
pub at_label :
    {R E : Type 0} (r : Result R E) (P : R → List Spot → Type 0) {text : trees.Text} {span : Span}
    {ss middle : List Spot} →
    (colon : Span) × (ss ≡ spot (Named text) span ∷ sign signs.Colon colon ∷ middle) →
    IfOk r (λ x. (xs : List Spot) (colon : Span) → xs ≡ spot (Named text) span ∷ sign signs.Colon colon ∷ middle →
    P x xs) → IfOk r (λ x. P x ss)
at_label (Ok x) P {ss = ss} at f = f ss at.0 at.1
at_label (Err e) P at f = tt
