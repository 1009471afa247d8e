-- The places of members, classes and files, from what the parser's functions answer.
use Rattle.std.proofs.Common.{◌≡◌, List, [], ◌∷◌, ◌++◌, Bool, refl, false, true≢false, Option, Some, None, Result, Ok}
use Rattle.std.proofs.Common.{Err, IfOk, sym, ap, subst, ◌∙◌, map}
use Rattle.std.specs.Global.{Vec}
use Rattle.ls_lexer.specs.declared.token.Span.{Span}
use Rattle.ls_lexer.specs.declared.token.Token.{Token}
use Rattle.ls_lexer.specs.Lexemes.{lexemes}
use Rattle.ls_lexer.specs.declared.word.Word.TheVariants as words
use Rattle.ls_lexer.specs.declared.sign.Sign.TheVariants as signs
use Rattle.ls_tree.specs.declared.tree.Parameter.{Parameter}
use Rattle.ls_tree.specs.declared.tree.Modifier.{Modifier}
use Rattle.ls_tree.specs.declared.tree.Member.{Member}
use Rattle.ls_tree.specs.declared.tree.Class.{Class}
use Rattle.ls_tree.specs.Trees as bare
use Rattle.ls_tree.specs.PlacedTrees as trees
use Rattle.ls_tree.specs.Views.{bare_modifier, bare_modifiers}
use Rattle.ls_tree.specs.PlacedTrees.{some_in, TypeName, Declaration, Items}
use Rattle.ls_tree.specs.PlacedStatements.{placed_parameter, placed_member, placed_class}
use Rattle.ls_parser_spelling.specs.Places.{Spot, spots, sign, named}
use Rattle.ls_parser_spelling.specs.StatementPlaces.{word, ManyAt, none_left, BehindComma, behind_comma_at}
use Rattle.ls_parser_spelling.specs.StatementPlaces.{ModifierAt, TypeAt, DeclarationAt, BlockAt}
use Rattle.ls_parser_spelling.specs.FilePlaces.{ParameterAt, parameter_at, SomeParametersAt, some_parameters_at}
use Rattle.ls_parser_spelling.specs.FilePlaces.{ParametersAt, no_parameter_at, parameters_at, CallableAt, callable_at}
use Rattle.ls_parser_spelling.specs.FilePlaces.{ResultAt, void_at, result_at, LockedAt, locked_at, MemberAt}
use Rattle.ls_parser_spelling.specs.FilePlaces.{fields_at, method_at, constructor_at, BodyAt, body_at, ClassAt}
use Rattle.ls_parser_spelling.specs.FilePlaces.{class_at}
use Rattle.ls_parser_expressions.proofs.Rows.{map_push}
use Rattle.ls_parser_declarations.proofs.Places.{many_push, many_pushed, many_none}
use Rattle.ls_parser.specs.ReadingClasses.{is_left}

-- ---- parameters

-- a parameter
pub parameter_is :
    {modifiers : List bare.Modifier} {type_name : TypeName} {name : trees.Name} {ss middle end rest : List Spot} →
    ManyAt ModifierAt modifiers ss middle →
    TypeAt type_name middle end →
    end ≡ named name ∷ rest →
    ParameterAt (record { type_name = type_name; name = name }) ss rest
parameter_is {type_name = type_name} {middle = middle} h g is = parameter_at h (subst (TypeAt type_name middle) is g)

-- no parameter
pub no_parameter : (ps : List Parameter) {last : Span} {ss rest : List Spot} →
    ps ≡ [] →
    ss ≡ sign signs.CloseParen last ∷ rest →
    (opening : Span) →
    ParametersAt (map placed_parameter ps) (sign signs.OpenParen opening ∷ ss) rest
no_parameter ps {last} {rest = rest} e is opening =
    subst (λ (xs : List Spot). ParametersAt (map placed_parameter ps) (sign signs.OpenParen opening ∷ xs) rest) (sym is)
    (subst (λ (xs : List Parameter). ParametersAt (map placed_parameter xs) (sign signs.OpenParen opening ∷
    sign signs.CloseParen last ∷ rest) rest) (sym e) no_parameter_at)

-- the first parameter
pub first_parameter : (ps : List Parameter) (p : Parameter) {ss rest : List Spot} →
    ps ≡ [] ++ p ∷ [] →
    ParameterAt (placed_parameter p) ss rest →
    SomeParametersAt (map placed_parameter ps) ss rest
first_parameter ps p {ss} {rest} is h =
    subst (λ (xs : List Parameter). SomeParametersAt (map placed_parameter xs) ss rest) (sym is)
    (some_parameters_at h none_left)

some_push : {ps : List trees.Parameter} {p : trees.Parameter} {ss middle rest : List Spot} →
    SomeParametersAt ps ss middle →
    BehindComma ParameterAt p middle rest →
    SomeParametersAt (ps ++ p ∷ []) ss rest
some_push (some_parameters_at h k) g = some_parameters_at h (many_push (BehindComma ParameterAt) k g)

-- one parameter more, after a comma
pub parameter_pushed :
    (ps : List Parameter) (p : Parameter) {all : List Parameter} {comma : Span} {middle inner rest : List Spot} →
    all ≡ ps ++ p ∷ [] →
    middle ≡ sign signs.Comma comma ∷ inner →
    ParameterAt (placed_parameter p) inner rest →
    (ss : List Spot) → SomeParametersAt (map placed_parameter ps) ss middle →
    SomeParametersAt (map placed_parameter all) ss rest
parameter_pushed ps p {rest = rest} is a g ss h =
    subst (λ (xs : List trees.Parameter). SomeParametersAt xs ss rest)
    (sym (ap (map placed_parameter) is ∙ map_push placed_parameter ps p))
    (some_push h (subst (λ (xs : List Spot). BehindComma ParameterAt (placed_parameter p) xs rest) (sym a)
    (behind_comma_at g)))

-- parameters between their parentheses
pub group_is : {ps : List trees.Parameter} {last : Span} {ss end rest : List Spot} →
    SomeParametersAt ps ss end →
    end ≡ sign signs.CloseParen last ∷ rest →
    (opening : Span) →
    ParametersAt ps (sign signs.OpenParen opening ∷ ss) rest
group_is {ps} {ss = ss} h is opening = parameters_at (subst (SomeParametersAt ps ss) is h)

-- ---- members

-- a name, parameters and a body
pub callable_is :
    {name : trees.Name} {parameters : List trees.Parameter} {body : Items} {ss middle behind rest : List Spot} →
    ss ≡ named name ∷ middle →
    ParametersAt parameters middle behind →
    BlockAt body behind rest →
    CallableAt name parameters body ss rest
callable_is {name} {parameters} {body} {rest = rest} is h g =
    subst (λ (xs : List Spot). CallableAt name parameters body xs rest) (sym is) (callable_at h g)

-- a constructor
pub constructor_is :
    {name : trees.Name} {parameters : List trees.Parameter} {body : Items} {behind rest : List Spot} →
    CallableAt name parameters body behind rest →
    (ms : List bare.Modifier) (ss : List Spot) → ManyAt ModifierAt ms ss behind →
    MemberAt (trees.Constructor name parameters body) ss rest
constructor_is g ms ss h = constructor_at h g

-- whether there is a `synchronized`, without places
pub some_map : (ls : List (Vec Modifier)) → some_in ls ≡ some_in (map bare_modifiers ls)
some_map [] = refl
some_map (l ∷ ls) = refl

-- a method
pub method_is :
    (locked : List (Vec Modifier)) {result : Option TypeName} {name : trees.Name} {parameters : List trees.Parameter}
    {body : Items} {behind rest : List Spot} →
    CallableAt name parameters body behind rest →
    (ms : List bare.Modifier) (ss inner middle : List Spot) → ManyAt ModifierAt ms ss inner →
    ManyAt LockedAt (map bare_modifiers locked) inner middle → ResultAt result middle behind →
    MemberAt (trees.Method (some_in locked) result name parameters body) ss rest
method_is locked {result} {name} {parameters} {body} {rest = rest} g ms ss inner middle h l k =
    subst (λ (b : Bool). MemberAt (trees.Method b result name parameters body) ss rest) (sym (some_map locked))
    (method_at h l k g)

-- no `synchronized`
pub locked_none : {ls : List (Vec Modifier)} {ss : List Spot} → ls ≡ [] → ManyAt LockedAt (map bare_modifiers ls) ss ss
locked_none is = many_none LockedAt bare_modifiers is

-- one `synchronized` more
pub locked_pushed :
    (ls : List (Vec Modifier)) (l : Vec Modifier) {all : List (Vec Modifier)} {s : Span} {middle inner rest : List Spot}
    →
    all ≡ ls ++ l ∷ [] →
    middle ≡ word words.Synchronized s ∷ inner →
    ManyAt ModifierAt (map bare_modifier l.items) inner rest →
    (ss : List Spot) → ManyAt LockedAt (map bare_modifiers ls) ss middle →
    ManyAt LockedAt (map bare_modifiers all) ss rest
locked_pushed ls l {rest = rest} is a g ss h =
    many_pushed LockedAt bare_modifiers ls l is
    (subst (λ (xs : List Spot). LockedAt (bare_modifiers l) xs rest) (sym a) (locked_at g)) ss h

-- if there is no `synchronized`, nothing comes between
no_locked : (ls : List (List bare.Modifier)) {ss rest : List Spot} →
    some_in ls ≡ false →
    ManyAt LockedAt ls ss rest →
    ss ≡ rest
no_locked [] e none_left = refl
no_locked (l ∷ ls) e h = absurd cc

pub unlocked : (ls : List (List bare.Modifier)) {ms : List bare.Modifier} {ss inner rest : List Spot} →
    some_in ls ≡ false →
    ManyAt ModifierAt ms ss inner →
    ManyAt LockedAt ls inner rest →
    ManyAt ModifierAt ms ss rest
unlocked ls {ms} {ss} e h l = subst (ManyAt ModifierAt ms ss) (no_locked ls e l) h

-- fields
pub fields_is : {d : Declaration} {t : TypeName} {behind rest : List Spot} →
    ((ms : List bare.Modifier) (ss middle : List Spot) → ManyAt ModifierAt ms ss middle → TypeAt t middle behind →
    DeclarationAt d ss rest) →
    (ms : List bare.Modifier) (ss middle : List Spot) → ManyAt ModifierAt ms ss middle → TypeAt t middle behind →
    MemberAt (trees.Fields d) ss rest
fields_is go ms ss middle h k = fields_at (go ms ss middle h k)

pub void_is : {s : Span} {ss rest : List Spot} → ss ≡ word words.Void s ∷ rest → ResultAt None ss rest
void_is {rest = rest} is = subst (λ (xs : List Spot). ResultAt None xs rest) (sym is) void_at

-- a method that isn't synchronized, after its result's type
pub with_result : {R E : Type 0} (r : Result R E) (P : R → List Spot → Type 0) (t : TypeName) (behind : List Spot) →
    {ls : List (Vec Modifier)} → ls ≡ [] →
    IfOk r (λ m. (ms : List bare.Modifier) (ss inner middle : List Spot) → ManyAt ModifierAt ms ss inner →
    ManyAt LockedAt (map bare_modifiers ls) inner middle → ResultAt (Some t) middle behind → P m ss) →
    IfOk r (λ m. (ms : List bare.Modifier) (ss middle : List Spot) → ManyAt ModifierAt ms ss middle →
    TypeAt t middle behind → P m ss)
with_result (Ok m) P t behind none f = λ ms ss middle h k. f ms ss middle middle h (locked_none none) (result_at k)
with_result (Err e) P t behind none f = tt

-- a method that isn't synchronized, after `void`
pub without_result :
    {R E : Type 0} (r : Result R E) (P : R → List Spot → Type 0) {s : Span} {here behind : List Spot} →
    here ≡ word words.Void s ∷ behind →
    {ls : List (Vec Modifier)} → ls ≡ [] →
    IfOk r (λ m. (ms : List bare.Modifier) (ss inner middle : List Spot) → ManyAt ModifierAt ms ss inner →
    ManyAt LockedAt (map bare_modifiers ls) inner middle → ResultAt None middle behind → P m ss) →
    IfOk r (λ m. (ms : List bare.Modifier) (ss : List Spot) → ManyAt ModifierAt ms ss here → P m ss)
without_result (Ok m) P {here = here} is none f = λ ms ss h. f ms ss here here h (locked_none none) (void_is is)
without_result (Err e) P is none f = tt

-- the same of a synchronized method
pub locked_with_result :
    {R E : Type 0} (r : Result R E) (P : R → List Spot → Type 0) (ls : List (List bare.Modifier)) {t : TypeName}
    {here behind : List Spot} →
    TypeAt t here behind →
    IfOk r (λ m. (ms : List bare.Modifier) (ss inner middle : List Spot) → ManyAt ModifierAt ms ss inner →
    ManyAt LockedAt ls inner middle → ResultAt (Some t) middle behind → P m ss) →
    IfOk r (λ m. (ms : List bare.Modifier) (ss inner : List Spot) → ManyAt ModifierAt ms ss inner →
    ManyAt LockedAt ls inner here → P m ss)
locked_with_result (Ok m) P ls {here = here} k f = λ ms ss inner h l. f ms ss inner here h l (result_at k)
locked_with_result (Err e) P ls k f = tt

-- a synchronized method, after `void`
pub locked_without_result :
    {R E : Type 0} (r : Result R E) (P : R → List Spot → Type 0) (ls : List (List bare.Modifier)) {s : Span}
    {here behind : List Spot} →
    here ≡ word words.Void s ∷ behind →
    IfOk r (λ m. (ms : List bare.Modifier) (ss inner middle : List Spot) → ManyAt ModifierAt ms ss inner →
    ManyAt LockedAt ls inner middle → ResultAt None middle behind → P m ss) →
    IfOk r (λ m. (ms : List bare.Modifier) (ss inner : List Spot) → ManyAt ModifierAt ms ss inner →
    ManyAt LockedAt ls inner here → P m ss)
locked_without_result (Ok m) P ls {here = here} is f = λ ms ss inner h l. f ms ss inner here h l (void_is is)
locked_without_result (Err e) P ls is f = tt

-- a member after its modifiers
pub plain_member :
    {R E : Type 0} (r : Result R E) (P : R → List Spot → Type 0) (ls : List (List bare.Modifier))
    {ms : List bare.Modifier} {ss inner rest : List Spot} →
    some_in ls ≡ false →
    ManyAt ModifierAt ms ss inner →
    ManyAt LockedAt ls inner rest →
    IfOk r (λ m. (ms : List bare.Modifier) (ss : List Spot) → ManyAt ModifierAt ms ss rest → P m ss) →
    IfOk r (λ m. P m ss)
plain_member (Ok m) P ls {ms} {ss} e h l f = f ms ss (unlocked ls e h l)
plain_member (Err x) P ls e h l f = tt

-- a member after its modifiers and `synchronized`
pub locked_member :
    {R E : Type 0} (r : Result R E) (P : R → List Spot → Type 0) {ls : List (List bare.Modifier)}
    {ms : List bare.Modifier} {ss inner rest : List Spot} →
    ManyAt ModifierAt ms ss inner →
    ManyAt LockedAt ls inner rest →
    IfOk r (λ m. (ms : List bare.Modifier) (ss inner : List Spot) → ManyAt ModifierAt ms ss inner →
    ManyAt LockedAt ls inner rest → P m ss) → IfOk r (λ m. P m ss)
locked_member (Ok m) P {ms = ms} {ss} {inner} h l f = f ms ss inner h l
locked_member (Err x) P h l f = tt

-- no members
pub members_none : {ms : List Member} {ss : List Spot} → ms ≡ [] → ManyAt MemberAt (map placed_member ms) ss ss
members_none is = many_none MemberAt placed_member is

-- one member more
pub members_pushed : (ms : List Member) (m : Member) {all : List Member} {middle rest : List Spot} →
    all ≡ ms ++ m ∷ [] →
    MemberAt (placed_member m) middle rest →
    (ss : List Spot) → ManyAt MemberAt (map placed_member ms) ss middle →
    ManyAt MemberAt (map placed_member all) ss rest
members_pushed ms m is g ss h = many_pushed MemberAt placed_member ms m is g ss h

-- ---- classes

-- members between their braces
pub body_is : {v w : Vec Member} {opening : Span} {ss middle end rest : List Spot} →
    w ≡ v →
    ss ≡ sign signs.OpenBrace opening ∷ middle →
    ManyAt MemberAt (map placed_member v.items) middle end →
    (s : Span) × (end ≡ sign signs.CloseBrace s ∷ rest) →
    BodyAt (map placed_member w.items) ss rest
body_is {v} {ss = ss} {middle} {rest = rest} same is h closed =
    subst (λ (x : Vec Member). BodyAt (map placed_member x.items) ss rest) (sym same)
    (subst (λ (xs : List Spot). BodyAt (map placed_member v.items) xs rest) (sym is)
    (body_at (subst (ManyAt MemberAt (map placed_member v.items) middle) closed.1 h)))

-- a class
pub class_is :
    {modifiers : List bare.Modifier} {name : trees.Name} {members : List trees.Member} {s : Span}
    {ss middle inner behind rest : List Spot} →
    ManyAt ModifierAt modifiers ss middle →
    middle ≡ word words.Class s ∷ inner →
    inner ≡ named name ∷ behind →
    BodyAt members behind rest →
    ClassAt (record { name = name; members = members }) ss rest
class_is {modifiers} {s = s} {ss} h a b g =
    class_at (subst (ManyAt ModifierAt modifiers ss) (a ∙ ap (λ (xs : List Spot). word words.Class s ∷ xs) b) h) g

-- no classes
pub classes_none : {cs : List Class} {ss : List Spot} → cs ≡ [] → ManyAt ClassAt (map placed_class cs) ss ss
classes_none is = many_none ClassAt placed_class is

-- one class more
pub classes_pushed : (cs : List Class) (c : Class) {all : List Class} {middle rest : List Spot} →
    all ≡ cs ++ c ∷ [] →
    ClassAt (placed_class c) middle rest →
    (ss : List Spot) → ManyAt ClassAt (map placed_class cs) ss middle → ManyAt ClassAt (map placed_class all) ss rest
classes_pushed cs c is g ss h = many_pushed ClassAt placed_class cs c is g ss h

-- if no token is left, the classes go up to the end
pub to_the_end : (ts : List Token) {classes : List trees.ClassTree} {ss : List Spot} →
    is_left (lexemes ts) ≡ false →
    ManyAt ClassAt classes ss (spots ts) →
    ManyAt ClassAt classes ss []
to_the_end [] e h = h
to_the_end (t ∷ ts) e h = absurd (true≢false e)
