-- The places of declarations, from what the parser's functions answer.
use Rattle.std.proofs.Common.{◌≡◌, ◌-◌, ◌≤◌, true, List, [], ◌∷◌, ◌++◌, length, take, drop, slice_index_or, Some}
use Rattle.std.proofs.Common.{None, sym, ap, subst, ◌∙◌, map}
use Rattle.std.specs.Global.{Vec}
use Rattle.ls_lexer.specs.declared.token.Span.{Span}
use Rattle.ls_lexer.specs.declared.token.Token.{Token}
use Rattle.ls_lexer.specs.declared.word.Word.{Word}
use Rattle.ls_lexer.specs.declared.word.Word.TheVariants as words
use Rattle.ls_lexer.specs.declared.sign.Sign.TheVariants as signs
use Rattle.ls_lexer.specs.Lexemes.{Lexeme, Named, Reserved, lexeme_of}
use Rattle.ls_tree.specs.declared.tree.Name.{Name}
use Rattle.ls_tree.specs.declared.tree.Modifier.{Modifier}
use Rattle.ls_tree.specs.declared.tree.Declarator.{Declarator}
use Rattle.ls_tree.specs.Trees as bare
use Rattle.ls_tree.specs.Views.{name_text, bare_modifier}
use Rattle.ls_tree.specs.PlacedTrees as trees
use Rattle.ls_tree.specs.PlacedTrees.{Expression, Declaration}
use Rattle.ls_tree.specs.Placed.{placed_name}
use Rattle.ls_tree.specs.PlacedStatements.{placed_declarator}
use Rattle.ls_parser_spelling.specs.Spelling.{spell_modifier}
use Rattle.ls_parser_spelling.specs.Places.{Spot, spot, spots, sign, named, At, ClassNameAt}
use Rattle.ls_parser_spelling.specs.StatementPlaces.{word, Begins, Anywhere, nothing_more, one_token, ManyAt}
use Rattle.ls_parser_spelling.specs.StatementPlaces.{none_left, next_one, BehindComma, behind_comma_at, ModifierAt}
use Rattle.ls_parser_spelling.specs.StatementPlaces.{TypeAt, int_at, boolean_at, boolean_array_at, class_type_at}
use Rattle.ls_parser_spelling.specs.StatementPlaces.{markable_at, DeclaratorAt, no_value_at, value_at, DeclaratorsAt}
use Rattle.ls_parser_spelling.specs.StatementPlaces.{declarators_at, DeclarationAt, declaration_at}
use Rattle.ls_parser_expressions.specs.ReadingExpressions.{is_markable}
use Rattle.ls_parser_expressions.proofs.Rows.{map_push}
use Rattle.ls_parser_tokens.proofs.Places.{first_spot}
use Rattle.ls_parser_expressions.proofs.Places.{name_spot, is_markable_text}

-- ---- lists

-- one thing more of a list
pub many_push : {A : Type 0} (one : Begins A) {xs : List A} {x : A} {ss middle rest : List Spot} →
    ManyAt one xs ss middle →
    one x middle rest →
    ManyAt one (xs ++ x ∷ []) ss rest
many_push one none_left g = next_one g none_left
many_push one (next_one h k) g = next_one h (many_push one k g)

-- one thing more, with places
pub many_pushed :
    {A B : Type 0} (one : Begins B) (f : A → B) (xs : List A) (x : A) {all : List A} {middle rest : List Spot} →
    all ≡ xs ++ x ∷ [] →
    one (f x) middle rest →
    (ss : List Spot) → ManyAt one (map f xs) ss middle → ManyAt one (map f all) ss rest
many_pushed {A} {B} one f xs x {rest = rest} is g ss h =
    subst (λ (ys : List B). ManyAt one ys ss rest) (sym (ap (map f) is ∙ map_push f xs x)) (many_push one h g)

-- no things
pub many_none : {A B : Type 0} (one : Begins B) (f : A → B) {xs : List A} {ss : List Spot} →
    xs ≡ [] →
    ManyAt one (map f xs) ss ss
many_none {A} {B} one f {ss = ss} is = subst (λ (ys : List A). ManyAt one (map f ys) ss ss) (sym is) none_left

-- ---- modifiers

pub modifier_is : (m : bare.Modifier) {w : Word} {s : Span} {rest : List Spot} →
    spell_modifier m ≡ Reserved w ∷ [] →
    ModifierAt m (word w s ∷ rest) rest
modifier_is m {w} {s} {rest} is =
    subst (λ (ks : List Lexeme). Anywhere ks (word w s ∷ rest) rest) (sym is) (one_token nothing_more)

-- an annotation
pub annotation_is : (n : Name) {at : Span} {ss middle rest : List Spot} →
    ss ≡ sign signs.At at ∷ middle →
    middle ≡ named (placed_name n) ∷ rest →
    ModifierAt (bare.Annotation (name_text n)) ss rest
annotation_is n {at} {rest = rest} a b =
    subst (λ (xs : List Spot). ModifierAt (bare.Annotation (name_text n)) xs rest)
    (sym (a ∙ ap (λ (xs : List Spot). sign signs.At at ∷ xs) b)) (one_token (one_token nothing_more))

pub modifiers_none : {ms : List Modifier} {ss : List Spot} → ms ≡ [] → ManyAt ModifierAt (map bare_modifier ms) ss ss
modifiers_none is = many_none ModifierAt bare_modifier is

pub modifiers_pushed : (ms : List Modifier) (m : Modifier) {all : List Modifier} {middle rest : List Spot} →
    all ≡ ms ++ m ∷ [] →
    ModifierAt (bare_modifier m) middle rest →
    (ss : List Spot) → ManyAt ModifierAt (map bare_modifier ms) ss middle →
    ManyAt ModifierAt (map bare_modifier all) ss rest
modifiers_pushed ms m is g ss h = many_pushed ModifierAt bare_modifier ms m is g ss h

pub modifier_first : (m : bare.Modifier) (ts : List Token) (d : Token) {w : Word} →
    spell_modifier m ≡ Reserved w ∷ [] →
    1 ≤ length ts →
    lexeme_of (slice_index_or ts 0 d).kind ≡ Reserved w →
    ModifierAt m (spots ts) (spots (take (length ts - 1) (drop 1 ts)))
modifier_first m ts d {w} spelled le e =
    subst (λ (xs : List Spot). ModifierAt m xs (spots (take (length ts - 1) (drop 1 ts))))
    (sym (first_spot ts d (Reserved w) le e)) (modifier_is m spelled)

-- ---- types

-- `boolean`
pub boolean_is : {rest : List Spot} → (s : Span) → TypeAt trees.Boolean (word words.Boolean s ∷ rest) rest
boolean_is s = boolean_at

-- an array of `boolean`
pub array_is : {opening last : Span} {ss middle rest : List Spot} →
    ss ≡ sign signs.OpenBracket opening ∷ middle →
    middle ≡ sign signs.CloseBracket last ∷ rest →
    (s : Span) →
    TypeAt trees.BooleanArray (word words.Boolean s ∷ ss) rest
array_is {opening} {rest = rest} a b s =
    subst (λ (xs : List Spot). TypeAt trees.BooleanArray (word words.Boolean s ∷ xs) rest)
    (sym (a ∙ ap (λ (xs : List Spot). sign signs.OpenBracket opening ∷ xs) b)) boolean_array_at

-- `int`
pub int_is : {s : Span} {ss rest : List Spot} → ss ≡ word words.Int s ∷ rest → TypeAt trees.Int ss rest
int_is {rest = rest} is = subst (λ (xs : List Spot). TypeAt trees.Int xs rest) (sym is) int_at

-- a class as a type
pub class_type_is : (n : Name) {text : trees.Text} {span : Span} {rest : List Spot} →
    name_text n ≡ text →
    n.span ≡ span →
    TypeAt (trees.Class (placed_name n)) (spot (Named text) span ∷ rest) rest
class_type_is n {rest = rest} a b =
    subst (λ (x : Spot). TypeAt (trees.Class (placed_name n)) (x ∷ rest) rest) (name_spot n a b) class_type_at

-- a markable reference as a type
pub markable_is : {name : trees.Name} {text : trees.Text} {span : Span} {ss rest : List Spot} →
    is_markable text ≡ true →
    ClassNameAt name ss rest →
    TypeAt (trees.Markable name) (spot (Named text) span ∷ ss) rest
markable_is {name} {text} {span} {ss} {rest} is h =
    subst (λ (x : trees.Text). TypeAt (trees.Markable name) (spot (Named x) span ∷ ss) rest)
    (sym (is_markable_text text is)) (markable_at h)

-- ---- declarators

-- a declarator without a value
pub no_value_is : {name : trees.Name} {ss rest : List Spot} →
    ss ≡ named name ∷ rest →
    DeclaratorAt (record { name = name; value = None }) ss rest
no_value_is {name} {rest = rest} is =
    subst (λ (xs : List Spot). DeclaratorAt (record { name = name; value = None }) xs rest) (sym is) no_value_at

-- a declarator with a value
pub value_is : {name : trees.Name} {value : Expression} {assign : Span} {ss middle inner rest : List Spot} →
    ss ≡ named name ∷ middle →
    middle ≡ sign signs.Assign assign ∷ inner →
    At value inner rest →
    DeclaratorAt (record { name = name; value = Some value }) ss rest
value_is {name} {value} {rest = rest} a b h =
    subst (λ (xs : List Spot). DeclaratorAt (record { name = name; value = Some value }) xs rest)
    (sym (a ∙ ap (λ (xs : List Spot). named name ∷ xs) b)) (value_at h)

-- no other declarator
pub declarators_none : {ds : List Declarator} {ss : List Spot} →
    ds ≡ [] →
    ManyAt (BehindComma DeclaratorAt) (map placed_declarator ds) ss ss
declarators_none is = many_none (BehindComma DeclaratorAt) placed_declarator is

behind_comma_is : {A : Type 0} (one : Begins A) {x : A} {comma : Span} {ss middle rest : List Spot} →
    ss ≡ sign signs.Comma comma ∷ middle →
    one x middle rest →
    BehindComma one x ss rest
behind_comma_is one {x} {rest = rest} is h =
    subst (λ (xs : List Spot). BehindComma one x xs rest) (sym is) (behind_comma_at h)

-- one declarator more, after a comma
pub declarators_pushed :
    (ds : List Declarator) (d : Declarator) {all : List Declarator} {comma : Span} {middle inner rest : List Spot} →
    all ≡ ds ++ d ∷ [] →
    middle ≡ sign signs.Comma comma ∷ inner →
    DeclaratorAt (placed_declarator d) inner rest →
    (ss : List Spot) → ManyAt (BehindComma DeclaratorAt) (map placed_declarator ds) ss middle →
    ManyAt (BehindComma DeclaratorAt) (map placed_declarator all) ss rest
declarators_pushed ds d is a g ss h =
    many_pushed (BehindComma DeclaratorAt) placed_declarator ds d is (behind_comma_is DeclaratorAt a g) ss h

-- declarators up to the semicolon
pub list_is : {v w : Vec Declarator} {last : Span} {middle end rest : List Spot} →
    w ≡ v →
    ManyAt (BehindComma DeclaratorAt) (map placed_declarator v.items) middle end →
    end ≡ sign signs.Semicolon last ∷ rest →
    (first : trees.Declarator) (ss : List Spot) → DeclaratorAt first ss middle →
    DeclaratorsAt first (map placed_declarator w.items) ss rest
list_is {v} {middle = middle} {rest = rest} same h is first ss g =
    subst (λ (x : Vec Declarator). DeclaratorsAt first (map placed_declarator x.items) ss rest) (sym same)
    (declarators_at g (subst (ManyAt (BehindComma DeclaratorAt) (map placed_declarator v.items) middle) is h))

-- a declaration
pub declaration_is : {d : Declaration} {behind rest : List Spot} → DeclaratorsAt d.first d.more behind rest →
    (ms : List bare.Modifier) (ss middle : List Spot) → ManyAt ModifierAt ms ss middle →
    TypeAt d.type_name middle behind → DeclarationAt d ss rest
declaration_is g ms ss middle h k = declaration_at h k g
