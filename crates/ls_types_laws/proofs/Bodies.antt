-- Statements that are typed in all slots of a method, and what a part of a body leaves after it.
use Rattle.std.proofs.Common.{◌≡◌, ℕ, refl, sym, subst, List, [], ◌∷◌, Option, Some, lit<, nat_eq}
use Rattle.std.specs.Prelude.{slice_get}
use Rattle.ls_lexer.specs.declared.token.Span.{Span}
use Rattle.ls_events.specs.declared.value.Value.TheVariants as values
use Rattle.ls_events.specs.declared.value.ValueType.{ValueType}
use Rattle.ls_events.specs.declared.value.ValueType.TheVariants.{Int, Boolean, BooleanArray, Class, Lock, Markable}
use Rattle.ls_checked.specs.CheckedTree as checked
use Rattle.ls_meaning.specs.declared.sort.Sort.TheVariants.{NoValue, ValueOf}
use Rattle.ls_types_judgement.specs.Typing.{IsTyped, IsTypedStatement, AreTypedStatements}
use Rattle.ls_types_laws.proofs.Pairs.{IsNoPair, EvaluatesNoPair, EvaluateNoPair}
use Rattle.ls_types_elaboration.specs.declared.rule.Rule.TheVariants as rules
use Rattle.ls_types_elaboration.specs.declared.static_types.Static.{Static}
use Rattle.ls_types_elaboration.specs.declared.static_types.Static.TheVariants.{Of, NullType, Void}
use Rattle.ls_types_elaboration.specs.Trees.{Expression}
use Rattle.ls_types_elaboration.specs.Elaborated.{broken}
use Rattle.ls_types_elaboration.specs.Known.{Known, Local}
use Rattle.ls_types_elaboration.specs.StaticTypes.{Typed}
use Rattle.ls_types_elaboration.specs.TypedExpressions.{typed, fitting}
use Rattle.ls_types_elaboration.specs.Scopes.{Body, Slots, Scope, start_of}
use Rattle.ls_types_elaboration.specs.Monitors.{synchronized}
use Rattle.ls_types_elaboration.specs.TypedStatements.{WithSlots, sequence, AtSlot, AtField, AtItem, Variable, variable}
use Rattle.ls_types_elaboration.specs.TypedStatements.{variable_as, assigned}
use Rattle.ls_types_laws.proofs.Results.{Gives, weaker, later, either}
use Rattle.ls_types_laws.proofs.Lists.{Each, Grows, grows_same, grows_on}
use Rattle.ls_types_laws.proofs.Shown.{Has, Shows}
use Rattle.ls_types_laws.proofs.Agreement.{Agrees, Ready, ready_grown}
use Rattle.ls_types_laws.proofs.Evaluated.{typed_gives, fitting_gives}

-- a statement is typed, and evaluates no pair
abbrev pub Fine : checked.File → List ValueType → Option ValueType → checked.Statement → Type 0
Fine F W r s = IsTypedStatement F W r s × EvaluatesNoPair s

-- what holds of a tree in all slots that a method may have
abbrev pub Later : checked.File → Known → List ValueType → (List ValueType → Type 0) → Type 0
Later F known slots T = (W : List ValueType) → Grows slots W → Agrees F known → T W

-- a typed expression stays typed in more slots
pub typed_later : (F : checked.File) (known : Known) (locals : List Local) (slots : List ValueType) →
    Ready known locals slots →
    (e : Expression) →
    Gives (λ x. Later F known slots (λ W. Shows F W x)) (typed known locals e)
typed_later F known locals slots r e =
    weaker (λ x. (c : (W : List ValueType) × Grows slots W × Agrees F known) → Shows F c.0 x)
    (λ x. Later F known slots (λ W. Shows F W x)) (typed known locals e)
    (later (λ (c : (W : List ValueType) × Grows slots W × Agrees F known) (x : Typed). Shows F c.0 x)
    (typed known locals e)
    (λ c. typed_gives F known locals c.0 c.2 (ready_grown known locals slots c.0 c.1 r) e))
    (λ x h W g a. h (W, g, a))

-- an expression that fits stays so in more slots
pub fitting_later : (F : checked.File) (known : Known) (locals : List Local) (slots : List ValueType) →
    Ready known locals slots →
    (t : ValueType) (e : Expression) →
    Gives (λ v. Later F known slots (λ W. IsTyped F W (ValueOf t) v)) (fitting known locals t e)
fitting_later F known locals slots r t e =
    weaker (λ v. (c : (W : List ValueType) × Grows slots W × Agrees F known) → IsTyped F c.0 (ValueOf t) v)
    (λ v. Later F known slots (λ W. IsTyped F W (ValueOf t) v)) (fitting known locals t e)
    (later (λ (c : (W : List ValueType) × Grows slots W × Agrees F known) (v : checked.Expression).
    IsTyped F c.0 (ValueOf t) v) (fitting known locals t e)
    (λ c. fitting_gives F known locals c.0 c.2 (ready_grown known locals slots c.0 c.1 r) t e))
    (λ v h W g a. h (W, g, a))

-- a statement leaves more slots after it, and is typed in all of them
abbrev pub Good : checked.File → Body → Slots → WithSlots checked.Statement → Type 0
Good F body slots out = Grows slots.types out.slots.types × Later F body.known out.slots.types
    (λ W. Fine F W body.result out.tree)

-- so do the statements and declarations of a block
abbrev pub Scoped : checked.File → Body → Scope → Scope → Type 0
Scoped F body scope out =
    Grows scope.slots.types out.slots.types × Ready body.known out.locals out.slots.types
    × Later F body.known out.slots.types (λ W. Each (Fine F W body.result) scope.statements →
    Each (Fine F W body.result) out.statements)

-- a scope without a new statement
pub scoped_same : (F : checked.File) (body : Body) (scope : Scope) →
    Ready body.known scope.locals scope.slots.types →
    Scoped F body scope scope
scoped_same F body scope r = (grows_same scope.slots.types, r, λ W g a h. h)

-- one part of a body, and then another
pub scoped_on : (F : checked.File) (body : Body) (scope mid out : Scope) →
    Scoped F body scope mid →
    Scoped F body mid out →
    Scoped F body scope out
scoped_on F body scope mid out h k = (
  grows_on scope.slots.types mid.slots.types out.slots.types h.0 k.0,
  k.1,
  λ W g a hs. k.2 W g a (h.2 W (grows_on mid.slots.types out.slots.types W k.0 g) a hs),
)

-- statements in order
pub in_order : (F : checked.File) (W : List ValueType) (r : Option ValueType) (ss : List checked.Statement) →
    Each (Fine F W r) ss →
    AreTypedStatements F W r (sequence ss)
in_order F W r [] h = tt
in_order F W r (s ∷ ss) h = (h.0.0, in_order F W r ss h.1)

-- statements in order evaluate no pair
pub in_order_no_pair : (F : checked.File) (W : List ValueType) (r : Option ValueType) (ss : List checked.Statement) →
    Each (Fine F W r) ss →
    EvaluateNoPair (sequence ss)
in_order_no_pair F W r [] h = tt
in_order_no_pair F W r (s ∷ ss) h = (h.0.1, in_order_no_pair F W r ss h.1)

-- an expression statement
pub no_pair : (F : checked.File) (W : List ValueType) (t : ValueType) (e : checked.Expression) →
    IsTyped F W (ValueOf t) e →
    IsNoPair e
no_pair F W t (checked.Literal (values.Pair n m)) h = h
no_pair F W t (checked.Literal (values.Int z)) h = tt
no_pair F W t (checked.Literal (values.Boolean b)) h = tt
no_pair F W t (checked.Literal (values.Reference n)) h = tt
no_pair F W t _ h = tt

no_pair_void : (F : checked.File) (W : List ValueType) (e : checked.Expression) → IsTyped F W NoValue e → IsNoPair e
no_pair_void F W (checked.Literal (values.Pair n m)) h = h
no_pair_void F W (checked.Literal (values.Int z)) h = tt
no_pair_void F W (checked.Literal (values.Boolean b)) h = tt
no_pair_void F W (checked.Literal (values.Reference n)) h = tt
no_pair_void F W _ h = tt

-- an evaluated expression is a fine statement
pub evaluated_fine : (F : checked.File) (W : List ValueType) (r : Option ValueType) (x : Static)
    (e : checked.Expression) →
    Has F W x e →
    Fine F W r (checked.Evaluate e)
evaluated_fine F W r (Of t) e h = ((ValueOf t, h), no_pair F W t e h)
evaluated_fine F W r NullType e h = subst (λ e. Fine F W r (checked.Evaluate e)) (sym h) ((NoValue, refl), tt)
evaluated_fine F W r Void e h = ((NoValue, h), no_pair_void F W e h)

-- a monitor that is held for a statement
pub monitor_fine : (F : checked.File) (W : List ValueType) (r : Option ValueType) (slot class : ℕ)
    (target : checked.Expression) (s : checked.Statement) →
    slice_get W slot ≡ Some (Class class) →
    IsTyped F W (ValueOf (Class class)) target → Fine F W r s → Fine F W r (synchronized slot class target s)
monitor_fine F W r slot class target s at typed h = (
  (
    (Class class, at, typed),
    (
      (NoValue, (refl, (Class class, refl, at), tt)),
      ((h.0, (NoValue, (refl, (Class class, refl, at), tt))), tt),
    ),
  ),
  (tt, (tt, ((h.1, tt), tt))),
)

-- what a variable starts at
pub start_typed : (F : checked.File) (W : List ValueType) (t : ValueType) →
    IsTyped F W (ValueOf t) (checked.Literal (start_of t))
start_typed F W Int = record { sfits = lit< tt }
start_typed F W Boolean = tt
start_typed F W BooleanArray = refl
start_typed F W (Class c) = refl
start_typed F W Lock = refl
start_typed F W (Markable c) = refl

-- assignment
abbrev pub MaySet : checked.File → List ValueType → Option ValueType → Variable → Type 0
MaySet F W r to = (v : checked.Expression) → IsTyped F W (ValueOf to.type) v → Fine F W r (assigned to.place v)

-- a sort has one type
pub one_type : (t u : ValueType) → ValueOf t ≡ ValueOf u → t ≡ u
one_type t u e = cc

set_slot : (F : checked.File) (W : List ValueType) (r : Option ValueType) (n : ℕ) (t : ValueType) →
    IsTyped F W (ValueOf t) (checked.Slot n) →
    MaySet F W r (record { place = AtSlot n; type = t })
set_slot F W r n t h v k = ((h.0, h.2, subst (λ u. IsTyped F W (ValueOf u) v) (one_type t h.0 h.1) k), tt)

set_field : (F : checked.File) (W : List ValueType) (r : Option ValueType) (e : checked.Expression) (c f : ℕ)
    (t : ValueType) →
    IsTyped F W (ValueOf t) (checked.Field e c f) →
    MaySet F W r (record { place = AtField e f; type = t })
set_field F W r e c f t h v k = ((c, h.0, h.2, h.3, subst (λ u. IsTyped F W (ValueOf u) v) (one_type t h.0 h.1) k), tt)

set_item : (F : checked.File) (W : List ValueType) (r : Option ValueType) (a i : checked.Expression) (t : ValueType) →
    IsTyped F W (ValueOf t) (checked.Item a i) →
    MaySet F W r (record { place = AtItem a i; type = t })
set_item F W r a i t h v k = ((h.1, h.2, subst (λ u. IsTyped F W (ValueOf u) v) (one_type t Boolean h.0) k), tt)

-- a variable gives a place that may be assigned to
pub variable_gives : (F : checked.File) (known : Known) (slots : List ValueType) (r : Option ValueType) (s : Span)
    (e : checked.Expression) (x : Static) →
    Later F known slots (λ W. Has F W x e) →
    Gives (λ to. Later F known slots (λ W. MaySet F W r to)) (variable s e x)
variable_gives F known slots r s (checked.Slot n) (Of t) h =
    either (λ to. Later F known slots (λ W. MaySet F W r to)) (nat_eq n 0) (broken rules.NotAssignable s)
    (variable_as t (AtSlot n)) (λ z. tt) (λ z W g a. set_slot F W r n t (h W g a))
variable_gives F known slots r s (checked.Field e c f) (Of t) h = λ W g a. set_field F W r e c f t (h W g a)
variable_gives F known slots r s (checked.Item a i) (Of t) h = λ W g b. set_item F W r a i t (h W g b)
variable_gives F known slots r s _ _ h = tt
