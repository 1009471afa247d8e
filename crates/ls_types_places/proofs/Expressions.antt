-- Expressions without places.
use Rattle.std.proofs.Common.{◌≡◌, refl, ap, ◌∙◌, ◌+◌, Bool, List, [], ◌∷◌, Option, Some, None, Ok, ℕ}
use Rattle.std.specs.Prelude.{if◌then◌else◌, bytes_eq, codes}
use Rattle.ls_lexer.specs.declared.token.Span.{Span}
use Rattle.ls_events.specs.declared.value.ValueType.{ValueType}
use Rattle.ls_events.specs.declared.value.ValueType.TheVariants as types
use Rattle.ls_tree.specs.declared.tree.UnaryOp.{UnaryOp}
use Rattle.ls_tree.specs.declared.tree.UnaryOp.TheVariants.{Minus, Not}
use Rattle.ls_tree.specs.declared.tree.BinaryOp.{BinaryOp}
use Rattle.ls_tree.specs.declared.tree.BinaryOp.TheVariants as written
use Rattle.ls_checked.specs.declared.tree.Operator.{Operator}
use Rattle.ls_checked.specs.declared.tree.Operator.TheVariants as operators
use Rattle.ls_checked.specs.CheckedTree as checked
use Rattle.ls_types_elaboration.specs.declared.mismatch.Counts.{Counts}
use Rattle.ls_types_elaboration.specs.declared.mismatch.Mismatch.TheVariants as mismatches
use Rattle.ls_types_elaboration.specs.declared.rule.Rule.TheVariants as rules
use Rattle.ls_types_elaboration.specs.declared.known.FoundField.{FoundField}
use Rattle.ls_types_elaboration.specs.declared.static_types.Static.{Static}
use Rattle.ls_types_elaboration.specs.declared.static_types.Static.TheVariants.{Of, NullType, Void}
use Rattle.ls_types_elaboration.specs.Trees
use Rattle.ls_types_elaboration.specs.Trees.{Name, Expression, Expressions, span_of}
use Rattle.ls_types_elaboration.specs.Elaborated.{Elaborated, broken, with_ok}
use Rattle.ls_types_elaboration.specs.Known.{Known, Local, local_named, field_of, method_of, number_of}
use Rattle.ls_types_elaboration.specs.StaticTypes.{Typed, typed_as, fits, as_type, is_void, as_value, is_array}
use Rattle.ls_types_elaboration.specs.StaticTypes.{as_array, comparable, of_type}
use Rattle.ls_types_elaboration.specs.Members.{method_member, member_of, found, maker_of, object_maker, markable_maker}
use Rattle.ls_types_elaboration.specs.Operators.{unary_of, of_operands, computed, compared, binary_of}
use Rattle.ls_types_elaboration.specs.TypedExpressions.{own_field, local_or, field_in, field_at, is_integer}
use Rattle.ls_types_elaboration.specs.TypedExpressions.{argument_count, counts, integer_constant, typed, passed}
use Rattle.ls_types_elaboration.specs.TypedExpressions.{fitting}
use Rattle.ls_parser_spelling.specs.Unplaced.{nowhere, unplaced, all_unplaced, unplaced_name}
use Rattle.ls_types_places.proofs.Anywhere.{anywhere}
use Rattle.ls_types_places.proofs.Steps.{bind, blank, choice}

-- an expression without places is nowhere
pub span_nowhere : (e : Expression) → span_of (unplaced e) ≡ nowhere
span_nowhere (Trees.Number text span) = refl
span_nowhere (Trees.True span) = refl
span_nowhere (Trees.False span) = refl
span_nowhere (Trees.Null span) = refl
span_nowhere (Trees.This span) = refl
span_nowhere (Trees.Named n) = refl
span_nowhere (Trees.Paren inner span) = refl
span_nowhere (Trees.Unary op operand span) = refl
span_nowhere (Trees.Binary op left right span) = refl
span_nowhere (Trees.Field target n span) = refl
span_nowhere (Trees.Call n es span) = refl
span_nowhere (Trees.CallOn target n es span) = refl
span_nowhere (Trees.Item array index span) = refl
span_nowhere (Trees.New n es span) = refl
span_nowhere (Trees.NewMarkable n es span) = refl
span_nowhere (Trees.NewArray length span) = refl

-- arguments without places are as many
argument_count_same : (es : Expressions) → argument_count (all_unplaced es) ≡ argument_count es
argument_count_same Trees.End = refl
argument_count_same (Trees.More e es) = ap (λ n. n + 1) (argument_count_same es)

counts_same : (ts : List ValueType) (es : Expressions) → counts ts (all_unplaced es) ≡ counts ts es
counts_same ts es = ap (λ n. record { wanted = (counts ts es).wanted; found = n }) (argument_count_same es)

-- so what is passed is the same where arguments without places are counted
counted : (known : Known) (locals : List Local) (ts : List ValueType) (es : Expressions) (span : Span) →
    passed known locals (counts ts es) ts (all_unplaced es) nowhere ≡
    anywhere (passed known locals (counts ts es) ts es span) →
    passed known locals (counts ts (all_unplaced es)) ts (all_unplaced es) nowhere ≡
    anywhere (passed known locals (counts ts es) ts es span)
counted known locals ts es span e =
    ap (λ n. passed known locals n ts (all_unplaced es) nowhere) (counts_same ts es) ∙ e

pub as_type_same : (t : ValueType) (s' s : Span) (x : Typed) → s' ≡ nowhere → as_type t s' x ≡ anywhere (as_type t s x)
as_type_same t s' s x e = choice (fits t x.static) (Ok x.expression) (Ok x.expression)
    (broken (of_type t x.static) s) (broken (of_type t x.static) s') refl (blank (of_type t x.static) s' s e)

as_value_same : (s' s : Span) (x : Typed) → s' ≡ nowhere → as_value s' x ≡ anywhere (as_value s x)
as_value_same s' s x e = choice (is_void x.static) (broken (rules.WrongType mismatches.NoValue) s)
    (broken (rules.WrongType mismatches.NoValue) s') (Ok x) (Ok x) (blank (rules.WrongType mismatches.NoValue) s' s e)
    refl

as_array_same : (s' s : Span) (x : Typed) → s' ≡ nowhere → as_array s' x ≡ anywhere (as_array s x)
as_array_same s' s x e = choice (is_array x.static) (Ok x.expression) (Ok x.expression)
    (broken (of_type types.BooleanArray x.static) s) (broken (of_type types.BooleanArray x.static) s') refl
    (blank (of_type types.BooleanArray x.static) s' s e)

found_same : {A : Type 0} (o : Option A) (s : Span) → found o nowhere ≡ anywhere (found o s)
found_same None s = refl
found_same (Some x) s = refl

own_field_same : (own : ℕ) (o : Option FoundField) (s : Span) → own_field own o nowhere ≡ anywhere (own_field own o s)
own_field_same own None s = refl
own_field_same own (Some f) s = refl

local_or_same : (o : Option Local) (x x' : Elaborated Typed) → x' ≡ anywhere x → local_or o x' ≡ anywhere (local_or o x)
local_or_same None x x' e = e
local_or_same (Some l) x x' e = refl

field_in_same : (c : ℕ) (o : Option FoundField) (e : checked.Expression) (s : Span) →
    field_in c o e nowhere ≡ anywhere (field_in c o e s)
field_in_same c None e s = refl
field_in_same c (Some f) e s = refl

field_at_same : (known : Known) (static : Static) (e : checked.Expression) (n : Name) →
    field_at known static e (unplaced_name n) ≡ anywhere (field_at known static e n)
field_at_same known (Of (types.Class c)) e n = field_in_same c (field_of known c n.text) e n.span
field_at_same known (Of types.Int) e n = refl
field_at_same known (Of types.Boolean) e n = refl
field_at_same known (Of types.BooleanArray) e n = refl
field_at_same known (Of types.Lock) e n = refl
field_at_same known (Of (types.Markable c)) e n = refl
field_at_same known NullType e n = refl
field_at_same known Void e n = refl

integer_same : (known : Known) (locals : List Local) (e : Expression) →
    is_integer known locals (unplaced e) ≡ is_integer known locals e
integer_same known locals (Trees.Number text span) = refl
integer_same known locals (Trees.True span) = refl
integer_same known locals (Trees.False span) = refl
integer_same known locals (Trees.Null span) = refl
integer_same known locals (Trees.This span) = refl
integer_same known locals (Trees.Named n) = refl
integer_same known locals (Trees.Paren inner span) = refl
integer_same known locals (Trees.Unary op operand span) = refl
integer_same known locals (Trees.Binary op left right span) = refl
integer_same known locals (Trees.Field target n span) = refl
integer_same known locals (Trees.Call n es span) = refl
integer_same known locals (Trees.CallOn target n es span) = refl
integer_same known locals (Trees.Item array index span) = refl
integer_same known locals (Trees.New n es span) = refl
integer_same known locals (Trees.NewMarkable n es span) = refl
integer_same known locals (Trees.NewArray length span) = refl

constant_same : (n : Name) → integer_constant (unplaced_name n) ≡ anywhere (integer_constant n)
constant_same n =
    choice (bytes_eq n.text (codes "MIN_VALUE")) _ _ _ _ refl
    (choice (bytes_eq n.text (codes "MAX_VALUE")) _ _ _ _ refl refl)

maker_same : (known : Known) (o : Option ℕ) (s : Span) →
    object_maker known o nowhere ≡ anywhere (object_maker known o s)
maker_same known None s = refl
maker_same known (Some c) s = refl

maker_of_same : (known : Known) (n : Name) → maker_of known (unplaced_name n) ≡ anywhere (maker_of known n)
maker_of_same known n = choice (bytes_eq n.text (codes "ReentrantLock")) _ _ _ _ refl
    (maker_same known (number_of known.names n.text) n.span)

markable_same : (o : Option ℕ) (s : Span) → markable_maker o nowhere ≡ anywhere (markable_maker o s)
markable_same None s = refl
markable_same (Some c) s = refl

unary_same : (op : UnaryOp) (s' s : Span) (x : Typed) → s' ≡ nowhere → unary_of op s' x ≡ anywhere (unary_of op s x)
unary_same Minus s' s x e = bind (as_type types.Int s x) (as_type types.Int s' x) _ _ (as_type_same types.Int s' s x e)
    (λ a. refl)
unary_same Not s' s x e = bind (as_type types.Boolean s x) (as_type types.Boolean s' x) _ _
    (as_type_same types.Boolean s' s x e) (λ a. refl)

operands_same : (t : ValueType) (make : checked.Expression → checked.Expression → Elaborated Typed) (l' l r' r : Span)
    (x y : Typed)
    → l' ≡ nowhere → r' ≡ nowhere → ((a b : checked.Expression) → make a b ≡ anywhere (make a b)) →
    of_operands t make l' r' x y ≡ anywhere (of_operands t make l r x y)
operands_same t make l' l r' r x y e h m =
    bind (as_type t l x) (as_type t l' x) _ _ (as_type_same t l' l x e)
    (λ a. bind (as_type t r y) (as_type t r' y) _ _ (as_type_same t r' r y h) (λ b. m a b))

computed_same : (t : ValueType) (op : Operator) (l' l r' r : Span) (x y : Typed) → l' ≡ nowhere → r' ≡ nowhere
    → computed t op l' r' x y ≡ anywhere (computed t op l r x y)
computed_same t op l' l r' r x y e h = operands_same types.Int (λ a b. typed_as t (checked.Binary op a b)) l' l r' r x y
    e h (λ a b. refl)

compared_same : (op : Operator) (s l' l r' r : Span) (x y : Typed) → l' ≡ nowhere → r' ≡ nowhere
    → compared op nowhere l' r' x y ≡ anywhere (compared op s l r x y)
compared_same op s l' l r' r x y e h =
    bind (as_value l x) (as_value l' x) _ _ (as_value_same l' l x e)
    (λ a. bind (as_value r y) (as_value r' y) _ _ (as_value_same r' r y h) (λ b.
    choice (comparable a.static b.static) _ _ _ _ refl refl))

binary_same : (op : BinaryOp) (s l' l r' r : Span) (x y : Typed) → l' ≡ nowhere → r' ≡ nowhere
    → binary_of op nowhere l' r' x y ≡ anywhere (binary_of op s l r x y)
binary_same written.Or s l' l r' r x y e h = operands_same types.Boolean
    (λ a b. typed_as types.Boolean (checked.Or a b)) l' l r' r x y e h (λ a b. refl)
binary_same written.And s l' l r' r x y e h = operands_same types.Boolean
    (λ a b. typed_as types.Boolean (checked.And a b)) l' l r' r x y e h (λ a b. refl)
binary_same written.Equal s l' l r' r x y e h = compared_same operators.Equal s l' l r' r x y e h
binary_same written.NotEqual s l' l r' r x y e h = compared_same operators.NotEqual s l' l r' r x y e h
binary_same written.Less s l' l r' r x y e h = computed_same types.Boolean operators.Less l' l r' r x y e h
binary_same written.Greater s l' l r' r x y e h = computed_same types.Boolean operators.Greater l' l r' r x y e h
binary_same written.LessEqual s l' l r' r x y e h = computed_same types.Boolean operators.LessEqual l' l r' r x y e h
binary_same written.GreaterEqual s l' l r' r x y e h = computed_same types.Boolean operators.GreaterEqual l' l r' r x y
    e h
binary_same written.Add s l' l r' r x y e h = computed_same types.Int operators.Add l' l r' r x y e h
binary_same written.Subtract s l' l r' r x y e h = computed_same types.Int operators.Subtract l' l r' r x y e h
binary_same written.Multiply s l' l r' r x y e h = computed_same types.Int operators.Multiply l' l r' r x y e h
binary_same written.Divide s l' l r' r x y e h = computed_same types.Int operators.Divide l' l r' r x y e h
binary_same written.Remainder s l' l r' r x y e h = computed_same types.Int operators.Remainder l' l r' r x y e h

-- a field, after the test for `Integer`
field_same : (b' b : Bool) (n : Name) (x x' : Elaborated Typed) (known : Known) → b' ≡ b → x' ≡ anywhere x
    → (if b' then integer_constant (unplaced_name n) else with_ok x'
    (λ y. field_at known y.static y.expression (unplaced_name n)))
    ≡ anywhere (if b then integer_constant n else with_ok x (λ y. field_at known y.static y.expression n))
field_same b' b n x x' known same e =
    ap (λ c. if c then integer_constant (unplaced_name n) else
    with_ok x' (λ y. field_at known y.static y.expression (unplaced_name n))) same
    ∙ choice b _ _ _ _ (constant_same n) (bind x x' _ _ e (λ y. field_at_same known y.static y.expression n))

mutual
  -- an expression without places has the same type
  pub typed_same : (known : Known) (locals : List Local) (e : Expression) →
      typed known locals (unplaced e) ≡ anywhere (typed known locals e)
  typed_same known locals (Trees.Number text span) = refl
  typed_same known locals (Trees.True span) = refl
  typed_same known locals (Trees.False span) = refl
  typed_same known locals (Trees.Null span) = refl
  typed_same known locals (Trees.This span) = refl
  typed_same known locals (Trees.Named n) =
      local_or_same (local_named locals n.text) _ _ (own_field_same known.own (field_of known known.own n.text) n.span)
  typed_same known locals (Trees.Paren inner span) =
      bind (typed known locals inner) (typed known locals (unplaced inner)) _ _ (typed_same known locals inner) (λ x.
      as_value_same (span_of (unplaced inner)) (span_of inner) x (span_nowhere inner))
  typed_same known locals (Trees.Unary op operand span) =
      bind (typed known locals operand) (typed known locals (unplaced operand)) _ _ (typed_same known locals operand)
      (λ x.
      unary_same op (span_of (unplaced operand)) (span_of operand) x (span_nowhere operand))
  typed_same known locals (Trees.Binary op left right span) =
      bind (typed known locals left) (typed known locals (unplaced left)) _ _ (typed_same known locals left) (λ x.
      bind (typed known locals right) (typed known locals (unplaced right)) _ _ (typed_same known locals right) (λ y.
      binary_same op span (span_of (unplaced left)) (span_of left) (span_of (unplaced right)) (span_of right) x y
      (span_nowhere left) (span_nowhere right)))
  typed_same known locals (Trees.Field target n span) =
      field_same (is_integer known locals (unplaced target)) (is_integer known locals target) n
      (typed known locals target) (typed known locals (unplaced target)) known
      (integer_same known locals target) (typed_same known locals target)
  typed_same known locals (Trees.Call n es span) =
      bind (found (method_member (method_of known known.own n.text)) n.span) _ _ _
      (found_same (method_member (method_of known known.own n.text)) n.span) (λ m.
      bind (passed known locals (counts m.parameters es) m.parameters es span)
      (passed known locals (counts m.parameters (all_unplaced es)) m.parameters (all_unplaced es) nowhere) _ _
      (counted known locals m.parameters es span
      (passed_same known locals (counts m.parameters es) m.parameters es span)) (λ as'. refl))
  typed_same known locals (Trees.CallOn target n es span) =
      bind (typed known locals target) (typed known locals (unplaced target)) _ _ (typed_same known locals target) (λ x.
      bind (found (member_of known x.static n.text) n.span) _ _ _ (found_same (member_of known x.static n.text) n.span)
      (λ m.
      bind (passed known locals (counts m.parameters es) m.parameters es span)
      (passed known locals (counts m.parameters (all_unplaced es)) m.parameters (all_unplaced es) nowhere) _ _
      (counted known locals m.parameters es span
      (passed_same known locals (counts m.parameters es) m.parameters es span)) (λ as'. refl)))
  typed_same known locals (Trees.Item array index span) =
      bind (typed known locals array) (typed known locals (unplaced array)) _ _ (typed_same known locals array) (λ x.
      bind (as_array (span_of array) x) (as_array (span_of (unplaced array)) x) _ _
      (as_array_same (span_of (unplaced array)) (span_of array) x (span_nowhere array)) (λ a.
      bind (typed known locals index) (typed known locals (unplaced index)) _ _ (typed_same known locals index) (λ y.
      bind (as_type types.Int (span_of index) y) (as_type types.Int (span_of (unplaced index)) y) _ _
      (as_type_same types.Int (span_of (unplaced index)) (span_of index) y (span_nowhere index)) (λ i. refl))))
  typed_same known locals (Trees.New n es span) =
      bind (maker_of known n) (maker_of known (unplaced_name n)) _ _ (maker_of_same known n) (λ m.
      bind (passed known locals (counts m.parameters es) m.parameters es span)
      (passed known locals (counts m.parameters (all_unplaced es)) m.parameters (all_unplaced es) nowhere) _ _
      (counted known locals m.parameters es span
      (passed_same known locals (counts m.parameters es) m.parameters es span)) (λ as'. refl))
  typed_same known locals (Trees.NewMarkable n es span) =
      bind (markable_maker (number_of known.names n.text) n.span)
      (markable_maker (number_of known.names n.text) nowhere) _ _
      (markable_same (number_of known.names n.text) n.span) (λ m.
      bind (passed known locals (counts m.parameters es) m.parameters es span)
      (passed known locals (counts m.parameters (all_unplaced es)) m.parameters (all_unplaced es) nowhere) _ _
      (counted known locals m.parameters es span
      (passed_same known locals (counts m.parameters es) m.parameters es span)) (λ as'. refl))
  typed_same known locals (Trees.NewArray length span) =
      bind (typed known locals length) (typed known locals (unplaced length)) _ _ (typed_same known locals length) (λ x.
      bind (as_type types.Int (span_of length) x) (as_type types.Int (span_of (unplaced length)) x) _ _
      (as_type_same types.Int (span_of (unplaced length)) (span_of length) x (span_nowhere length)) (λ n. refl))

  passed_same : (known : Known) (locals : List Local) (n : Counts) (ts : List ValueType) (es : Expressions)
      (span : Span)
      → passed known locals n ts (all_unplaced es) nowhere ≡ anywhere (passed known locals n ts es span)
  passed_same known locals n [] Trees.End span = refl
  passed_same known locals n [] (Trees.More e es) span = refl
  passed_same known locals n (t ∷ ts) Trees.End span = refl
  passed_same known locals n (t ∷ ts) (Trees.More e es) span =
      bind (typed known locals e) (typed known locals (unplaced e)) _ _ (typed_same known locals e) (λ x.
      bind (as_type t (span_of e) x) (as_type t (span_of (unplaced e)) x) _ _
      (as_type_same t (span_of (unplaced e)) (span_of e) x (span_nowhere e)) (λ a.
      bind (passed known locals n ts es span) (passed known locals n ts (all_unplaced es) nowhere) _ _
      (passed_same known locals n ts es span) (λ rest. refl)))

-- an expression without places fits the same type
pub fitting_same : (known : Known) (locals : List Local) (t : ValueType) (e : Expression) →
    fitting known locals t (unplaced e) ≡ anywhere (fitting known locals t e)
fitting_same known locals t e =
    bind (typed known locals e) (typed known locals (unplaced e)) _ _ (typed_same known locals e) (λ x.
    as_type_same t (span_of (unplaced e)) (span_of e) x (span_nowhere e))
