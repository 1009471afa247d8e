-- What the type of an elaborated expression says of it, and what fits a place.
use Rattle.std.proofs.Common.{◌≡◌, refl, sym, subst, ap, true, false, List, Ok, eqb-true}
use Rattle.ls_lexer.specs.declared.token.Span.{Span}
use Rattle.ls_events.specs.declared.value.Value.TheVariants as values
use Rattle.ls_events.specs.declared.value.ValueType.{ValueType}
use Rattle.ls_events.specs.declared.value.ValueType.TheVariants.{Int, Boolean, BooleanArray, Class, Lock, Markable}
use Rattle.ls_tree.specs.declared.tree.UnaryOp.{UnaryOp}
use Rattle.ls_tree.specs.declared.tree.UnaryOp.TheVariants.{Minus, Not}
use Rattle.ls_tree.specs.declared.tree.BinaryOp.{BinaryOp}
use Rattle.ls_tree.specs.declared.tree.BinaryOp.TheVariants as written
use Rattle.ls_checked.specs.declared.tree.Operator.{Operator}
use Rattle.ls_checked.specs.declared.tree.Operator.TheVariants as operators
use Rattle.ls_checked.specs.CheckedTree as checked
use Rattle.ls_meaning.specs.declared.sort.Sort.TheVariants.{NoValue, ValueOf}
use Rattle.ls_types_judgement.specs.Typing as typing
use Rattle.ls_types_judgement.specs.Typing.{IsTyped, IsOperand}
use Rattle.ls_types_elaboration.specs.declared.mismatch.Mismatch.TheVariants as mismatches
use Rattle.ls_types_elaboration.specs.declared.rule.Rule.TheVariants as rules
use Rattle.ls_types_elaboration.specs.declared.static_types.Static.{Static}
use Rattle.ls_types_elaboration.specs.declared.static_types.Static.TheVariants.{Of, NullType, Void}
use Rattle.ls_types_elaboration.specs.Elaborated.{Elaborated, broken}
use Rattle.ls_types_elaboration.specs.StaticTypes.{Typed, typed_as, same_type, is_reference, fits, as_type, is_void}
use Rattle.ls_types_elaboration.specs.StaticTypes.{as_value, is_array, as_array, comparable, of_type}
use Rattle.ls_types_elaboration.specs.Operators.{unary_of, of_operands, computed, compared, binary_of}
use Rattle.ls_types_laws.proofs.Results.{Gives, bind, either}

-- an expression is typed as its static type says
abbrev pub Has : checked.File → List ValueType → Static → checked.Expression → Type 0
Has F W (Of t) e = IsTyped F W (ValueOf t) e
Has F W NullType e = e ≡ checked.Literal (values.Reference 0)
Has F W Void e = IsTyped F W NoValue e

-- an expression with its static type is so
abbrev pub Shows : checked.File → List ValueType → Typed → Type 0
Shows F W x = Has F W x.static x.expression

-- false is not true
pub no_truth : false ≡ true → ⊥
no_truth e = cc

pub same_types : (t u : ValueType) → same_type t u ≡ true → t ≡ u
same_types Int Int h = refl
same_types Boolean Boolean h = refl
same_types BooleanArray BooleanArray h = refl
same_types (Class m) (Class n) h = ap (λ k. Class k) (eqb-true m n h)
same_types Lock Lock h = refl
same_types (Markable m) (Markable n) h = ap (λ k. Markable k) (eqb-true m n h)
same_types _ _ h = absurd (no_truth h)

pub null_typed : (F : checked.File) (W : List ValueType) (t : ValueType) →
    is_reference t ≡ true →
    IsTyped F W (ValueOf t) (checked.Literal (values.Reference 0))
null_typed F W Int h = absurd (no_truth h)
null_typed F W Boolean h = absurd (no_truth h)
null_typed F W BooleanArray h = refl
null_typed F W (Class c) h = refl
null_typed F W Lock h = refl
null_typed F W (Markable c) h = refl

pub fits_typed : (F : checked.File) (W : List ValueType) (t : ValueType) (x : Static) (e : checked.Expression) →
    fits t x ≡ true →
    Has F W x e →
    IsTyped F W (ValueOf t) e
fits_typed F W t (Of u) e h k = subst (λ t. IsTyped F W (ValueOf t) e) (sym (same_types t u h)) k
fits_typed F W t NullType e h k = subst (λ e. IsTyped F W (ValueOf t) e) (sym k) (null_typed F W t h)
fits_typed F W t Void e h k = absurd (no_truth h)

-- an expression that fits has the wanted type
pub as_type_gives : (F : checked.File) (W : List ValueType) (t : ValueType) (s : Span) (x : Typed) →
    Shows F W x →
    Gives (λ e. IsTyped F W (ValueOf t) e) (as_type t s x)
as_type_gives F W t s x h =
    either (λ e. IsTyped F W (ValueOf t) e) (fits t x.static) (Ok x.expression)
    (broken (of_type t x.static) s)
    (λ f. fits_typed F W t x.static x.expression f h) (λ f. tt)

-- an expression with a value keeps its type
pub as_value_gives : (F : checked.File) (W : List ValueType) (s : Span) (x : Typed) →
    Shows F W x →
    Gives (Shows F W) (as_value s x)
as_value_gives F W s x h = either (Shows F W) (is_void x.static) (broken (rules.WrongType mismatches.NoValue) s) (Ok x)
    (λ f. tt) (λ f. h)

array_typed : (F : checked.File) (W : List ValueType) (x : Static) (e : checked.Expression) →
    is_array x ≡ true →
    Has F W x e →
    IsTyped F W (ValueOf BooleanArray) e
array_typed F W (Of BooleanArray) e h k = k
array_typed F W (Of Int) e h k = absurd (no_truth h)
array_typed F W (Of Boolean) e h k = absurd (no_truth h)
array_typed F W (Of (Class c)) e h k = absurd (no_truth h)
array_typed F W (Of Lock) e h k = absurd (no_truth h)
array_typed F W (Of (Markable c)) e h k = absurd (no_truth h)
array_typed F W NullType e h k = absurd (no_truth h)
array_typed F W Void e h k = absurd (no_truth h)

-- an expression that is an array has the type of arrays
pub as_array_gives : (F : checked.File) (W : List ValueType) (s : Span) (x : Typed) →
    Shows F W x →
    Gives (λ e. IsTyped F W (ValueOf BooleanArray) e) (as_array s x)
as_array_gives F W s x h =
    either (λ e. IsTyped F W (ValueOf BooleanArray) e) (is_array x.static) (Ok x.expression)
    (broken (of_type BooleanArray x.static) s)
    (λ f. array_typed F W x.static x.expression f h) (λ f. tt)

-- operators

-- a unary operator gives an expression of its type
pub unary_gives : (F : checked.File) (W : List ValueType) (op : UnaryOp) (s : Span) (x : Typed) →
    Shows F W x →
    Gives (Shows F W) (unary_of op s x)
unary_gives F W Minus s x h = bind (λ e. IsTyped F W (ValueOf Int) e) (Shows F W) (as_type Int s x) _
    (as_type_gives F W Int s x h) (λ e k. (refl, k))
unary_gives F W Not s x h = bind (λ e. IsTyped F W (ValueOf Boolean) e) (Shows F W) (as_type Boolean s x) _
    (as_type_gives F W Boolean s x h) (λ e k. (refl, k))

operands_give : (F : checked.File) (W : List ValueType) (t : ValueType)
    (make : checked.Expression → checked.Expression → Elaborated Typed) (l r : Span) (x y : Typed) →
    Shows F W x →
    Shows F W y →
    ((a b : checked.Expression) → IsTyped F W (ValueOf t) a → IsTyped F W (ValueOf t) b → Gives (Shows F W) (make a b))
    → Gives (Shows F W) (of_operands t make l r x y)
operands_give F W t make l r x y h k m =
    bind (λ e. IsTyped F W (ValueOf t) e) (Shows F W) (as_type t l x) _ (as_type_gives F W t l x h) (λ a p.
    bind (λ e. IsTyped F W (ValueOf t) e) (Shows F W) (as_type t r y) _ (as_type_gives F W t r y k) (λ b q. m a b p q))

computed_gives : (F : checked.File) (W : List ValueType) (t : ValueType) (op : Operator) (l r : Span) (x y : Typed) →
    t ≡ typing.result_type op →
    IsOperand op Int →
    Shows F W x → Shows F W y → Gives (Shows F W) (computed t op l r x y)
computed_gives F W t op l r x y is o h k =
    operands_give F W Int (λ a b. typed_as t (checked.Binary op a b)) l r x y h k
    (λ a b p q. (Int, ap (λ u. ValueOf u) is, o, p, q))

compared_typed : (F : checked.File) (W : List ValueType) (x y : Static) (a b : checked.Expression) →
    comparable x y ≡ true →
    Has F W x a →
    Has F W y b →
    (t : ValueType) × IsTyped F W (ValueOf t) a × IsTyped F W (ValueOf t) b
compared_typed F W (Of t) y a b c h k = (t, h, fits_typed F W t y b c k)
compared_typed F W NullType (Of t) a b c h k = (t, fits_typed F W t NullType a c h, k)
compared_typed F W NullType NullType a b c h k = (
  BooleanArray,
  fits_typed F W BooleanArray NullType a refl h,
  fits_typed F W BooleanArray NullType b refl k,
)
compared_typed F W NullType Void a b c h k = absurd (no_truth c)
compared_typed F W Void y a b c h k = absurd (no_truth c)

compared_gives : (F : checked.File) (W : List ValueType) (op : Operator) (s l r : Span) (x y : Typed) →
    Boolean ≡ typing.result_type op →
    ((t : ValueType) → IsOperand op t) →
    Shows F W x → Shows F W y → Gives (Shows F W) (compared op s l r x y)
compared_gives F W op s l r x y is o h k =
    bind (Shows F W) (Shows F W) (as_value l x) _ (as_value_gives F W l x h) (λ a p.
    bind (Shows F W) (Shows F W) (as_value r y) _ (as_value_gives F W r y k) (λ b q.
    either (Shows F W) (comparable a.static b.static) (typed_as Boolean (checked.Binary op a.expression b.expression))
    (broken (rules.WrongType (mismatches.Operands a.static b.static)) s)
    (λ c. let z : (t : ValueType) × IsTyped F W (ValueOf t) a.expression ×
    IsTyped F W (ValueOf t) b.expression = compared_typed F W a.static b.static a.expression b.expression c p q in
    (z.0, ap (λ u. ValueOf u) is, o z.0, z.1, z.2)) (λ c. tt)))

-- a binary operator gives an expression of its type
pub binary_gives : (F : checked.File) (W : List ValueType) (op : BinaryOp) (s l r : Span) (x y : Typed) →
    Shows F W x →
    Shows F W y →
    Gives (Shows F W) (binary_of op s l r x y)
binary_gives F W written.Or s l r x y h k = operands_give F W Boolean (λ a b. typed_as Boolean (checked.Or a b)) l r x y
    h k (λ a b p q. (refl, p, q))
binary_gives F W written.And s l r x y h k = operands_give F W Boolean (λ a b. typed_as Boolean (checked.And a b)) l r x
    y h k (λ a b p q. (refl, p, q))
binary_gives F W written.Equal s l r x y h k = compared_gives F W operators.Equal s l r x y refl (λ t. tt) h k
binary_gives F W written.NotEqual s l r x y h k = compared_gives F W operators.NotEqual s l r x y refl (λ t. tt) h k
binary_gives F W written.Less s l r x y h k = computed_gives F W Boolean operators.Less l r x y refl refl h k
binary_gives F W written.Greater s l r x y h k = computed_gives F W Boolean operators.Greater l r x y refl refl h k
binary_gives F W written.LessEqual s l r x y h k = computed_gives F W Boolean operators.LessEqual l r x y refl refl h k
binary_gives F W written.GreaterEqual s l r x y h k = computed_gives F W Boolean operators.GreaterEqual l r x y refl
    refl h k
binary_gives F W written.Add s l r x y h k = computed_gives F W Int operators.Add l r x y refl refl h k
binary_gives F W written.Subtract s l r x y h k = computed_gives F W Int operators.Subtract l r x y refl refl h k
binary_gives F W written.Multiply s l r x y h k = computed_gives F W Int operators.Multiply l r x y refl refl h k
binary_gives F W written.Divide s l r x y h k = computed_gives F W Int operators.Divide l r x y refl refl h k
binary_gives F W written.Remainder s l r x y h k = computed_gives F W Int operators.Remainder l r x y refl refl h k
