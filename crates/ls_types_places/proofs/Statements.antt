-- Statements without places.
use Rattle.std.proofs.Common.{◌≡◌, refl, ap, ◌∙◌, List, [], ◌∷◌, Option, Some, None, ℕ, length}
use Rattle.std.specs.Prelude.{Bool, true, false, Ok, map, is_some, not, nat_lt, nat_eq, option_map}
use Rattle.ls_lexer.specs.declared.token.Span.{Span}
use Rattle.ls_events.specs.declared.value.ValueType.{ValueType}
use Rattle.ls_events.specs.declared.value.ValueType.TheVariants as types
use Rattle.ls_checked.specs.CheckedTree as checked
use Rattle.ls_types_elaboration.specs.declared.loops.LoopPart.{LoopPart}
use Rattle.ls_types_elaboration.specs.declared.loops.LoopPart.TheVariants as parts
use Rattle.ls_types_elaboration.specs.declared.rule.Rule.{Rule}
use Rattle.ls_types_elaboration.specs.declared.mismatch.Mismatch.TheVariants as mismatches
use Rattle.ls_types_elaboration.specs.declared.rule.Rule.TheVariants as rules
use Rattle.ls_types_elaboration.specs.StaticTypes.{of_type}
use Rattle.ls_types_elaboration.specs.declared.static_types.Static.{Static}
use Rattle.ls_types_elaboration.specs.declared.static_types.Static.TheVariants.{Of}
use Rattle.ls_types_elaboration.specs.Trees
use Rattle.ls_types_elaboration.specs.Trees.{Text, Name, Expression, TypeName, Declarator, Declaration, Simple, Opening}
use Rattle.ls_types_elaboration.specs.Trees.{Statement, Items, span_of}
use Rattle.ls_types_elaboration.specs.Elaborated.{Elaborated, with_ok}
use Rattle.ls_types_elaboration.specs.Known.{Known, Local, local_named, number_of, is_lock_name, class_type, type_of}
use Rattle.ls_types_elaboration.specs.Known.{result_of}
use Rattle.ls_types_elaboration.specs.TypedExpressions.{typed, fitting}
use Rattle.ls_types_elaboration.specs.Scopes.{Body, Slots, with_unnamed, Scope, most_slots, start_of, with_statement}
use Rattle.ls_types_elaboration.specs.Scopes.{with_variable, may_declare, initialised, declared, declaration}
use Rattle.ls_types_elaboration.specs.TypedStatements.{Loops, loop_of, with_slots, loop_named, found_loop, jump}
use Rattle.ls_types_elaboration.specs.TypedStatements.{label_text, fresh_label, variable, assignment, counter}
use Rattle.ls_types_elaboration.specs.TypedStatements.{addition, step, simple, one_simple, simples, returned, opened}
use Rattle.ls_types_elaboration.specs.TypedStatements.{opening, condition, for_loop, closed, followed, monitor_of}
use Rattle.ls_types_elaboration.specs.TypedStatements.{monitor, statement, items, unwrapped}
use Rattle.ls_parser_spelling.specs.Unplaced.{nowhere, unplaced, unplaced_name, unplaced_type, unplaced_declarator}
use Rattle.ls_parser_spelling.specs.Unplaced.{unplaced_declaration, unplaced_simple, unplaced_opening}
use Rattle.ls_parser_spelling.specs.Unplaced.{unplaced_statement, unplaced_items}
use Rattle.ls_types_places.proofs.Anywhere.{anywhere}
use Rattle.ls_types_places.proofs.Steps.{bind, blank, test, choice, each_same}
use Rattle.ls_types_places.proofs.Expressions.{span_nowhere, typed_same, fitting_same}

-- the body of a method whose name's place is put to 0
abbrev pub unplaced_body : Body → Body
unplaced_body b = record { known = b.known; result = b.result; span = nowhere }

class_same : (make : ℕ → ValueType) (o : Option ℕ) (s : Span) →
    class_type make o nowhere ≡ anywhere (class_type make o s)
class_same make None s = refl
class_same make (Some c) s = refl

-- the type of a name without places
pub type_same : (names : List Text) (t : TypeName) → type_of names (unplaced_type t) ≡ anywhere (type_of names t)
type_same names Trees.Int = refl
type_same names Trees.Boolean = refl
type_same names Trees.BooleanArray = refl
type_same names (Trees.Class n) = choice (is_lock_name n.text) _ _ _ _ refl
    (class_same (λ c. types.Class c) (number_of names n.text) n.span)
type_same names (Trees.Markable n) = class_same (λ c. types.Markable c) (number_of names n.text) n.span

-- the result's type without places
pub result_same : (names : List Text) (t : Option TypeName) →
    result_of names (option_map unplaced_type t) ≡ anywhere (result_of names t)
result_same names None = refl
result_same names (Some t) = bind (type_of names t) (type_of names (unplaced_type t)) _ _ (type_same names t)
    (λ u. refl)

-- whether a name may be declared, without places
pub may_same : {A : Type 0} (s : Span) (scope : Scope) (n : Name) (x x' : Elaborated A) → x' ≡ anywhere x
    → may_declare nowhere scope (unplaced_name n) x' ≡ anywhere (may_declare s scope n x)
may_same s scope n x x' e =
    test (is_some (local_named scope.locals n.text)) rules.TwiceDeclared nowhere n.span _ _ refl
    (test (not (nat_lt scope.slots.named most_slots)) rules.Limit nowhere s x x' refl e)

initialised_same : (known : Known) (t : ValueType) (slot : ℕ) (scope : Scope) (v : Option Expression)
    → initialised known t slot scope (option_map unplaced v) ≡ anywhere (initialised known t slot scope v)
initialised_same known t slot scope None = refl
initialised_same known t slot scope (Some e) =
    bind (fitting known scope.locals t e) (fitting known scope.locals t (unplaced e)) _ _
    (fitting_same known scope.locals t e) (λ v. refl)

declared_same : (body : Body) (t : ValueType) (scope : Scope) (d : Declarator)
    → declared (unplaced_body body) t scope (unplaced_declarator d) ≡ anywhere (declared body t scope d)
declared_same body t scope d =
    may_same body.span scope d.name _ _ (initialised_same body.known t (length scope.slots.types)
    (with_statement (with_variable scope d.name.text t) (checked.SetSlot (length scope.slots.types)
    (checked.Literal (start_of t)))) d.value)

declaration_same : (body : Body) (scope : Scope) (d : Declaration) →
    declaration (unplaced_body body) scope (unplaced_declaration d) ≡ anywhere (declaration body scope d)
declaration_same body scope d =
    bind (type_of body.known.names d.type_name) (type_of body.known.names (unplaced_type d.type_name)) _ _
    (type_same body.known.names d.type_name) (λ t.
    each_same (declared body t) (declared (unplaced_body body) t) unplaced_declarator scope (d.first ∷ d.more)
    (λ s a. declared_same body t s a))

found_loop_same : (o : Option (ℕ × LoopPart)) (rule : Rule) (s : Span) →
    found_loop o rule nowhere ≡ anywhere (found_loop o rule s)
found_loop_same None rule s = refl
found_loop_same (Some w) rule s = refl

jump_same : (breaking : Bool) (loops : Loops) (label : Option Name) (s : Span) →
    jump breaking loops (option_map unplaced_name label) nowhere ≡ anywhere (jump breaking loops label s)
jump_same breaking [] label s = refl
jump_same breaking (l ∷ ls) None s = found_loop_same (loop_named breaking (l ∷ ls) None) rules.NoLoop s
jump_same breaking (l ∷ ls) (Some n) s = found_loop_same (loop_named breaking (l ∷ ls) (Some n.text)) rules.UnknownLabel
    n.span

label_same : (label : Option Name) → label_text (option_map unplaced_name label) ≡ label_text label
label_same None = refl
label_same (Some n) = refl

fresh_same : {A : Type 0} (loops : Loops) (label : Option Name) (x x' : Elaborated A) → x' ≡ anywhere x
    → fresh_label loops (option_map unplaced_name label) x' ≡ anywhere (fresh_label loops label x)
fresh_same loops None x x' e = e
fresh_same loops (Some n) x x' e = test (is_some (loop_named true loops (Some n.text))) rules.TwiceDeclared nowhere
    n.span x x' refl e

variable_same : (s' s : Span) (e : checked.Expression) (u : Static) →
    s' ≡ nowhere →
    variable s' e u ≡ anywhere (variable s e u)
variable_same s' s (checked.Slot n) (Of t) h = choice (nat_eq n 0) _ _ _ _ (blank rules.NotAssignable s' s h) refl
variable_same s' s (checked.Field e c f) (Of t) h = refl
variable_same s' s (checked.Item a i) (Of t) h = refl
variable_same s' s _ _ h = blank rules.NotAssignable s' s h

monitor_of_same : (s' s : Span) (e : checked.Expression) (u : Static) →
    s' ≡ nowhere →
    monitor_of s' e u ≡ anywhere (monitor_of s e u)
monitor_of_same s' s e (Of (types.Class c)) h = refl
monitor_of_same s' s e x h = blank (rules.WrongType (mismatches.NoObject x)) s' s h

monitor_same : (known : Known) (locals : List Local) (e : Expression) →
    monitor known locals (unplaced e) ≡ anywhere (monitor known locals e)
monitor_same known locals e =
    bind (typed known locals e) (typed known locals (unplaced e)) _ _ (typed_same known locals e) (λ x.
    monitor_of_same (span_of (unplaced e)) (span_of e) x.expression x.static (span_nowhere e))

unwrapped_same : (e : Expression) → unwrapped (unplaced e) ≡ unplaced (unwrapped e)
unwrapped_same (Trees.Paren inner span) = unwrapped_same inner
unwrapped_same _ = refl

left_same : (known : Known) (locals : List Local) (e : Expression) →
    typed known locals (unwrapped (unplaced e)) ≡ anywhere (typed known locals (unwrapped e))
left_same known locals e = ap (λ t. typed known locals t) (unwrapped_same e) ∙ typed_same known locals (unwrapped e)

assignment_same : (known : Known) (locals : List Local) (target value : Expression)
    → assignment known locals (unplaced target) (unplaced value) ≡ anywhere (assignment known locals target value)
assignment_same known locals target value =
    bind (typed known locals (unwrapped target)) (typed known locals (unwrapped (unplaced target))) _ _
    (left_same known locals target) (λ x.
    bind (variable (span_of target) x.expression x.static) (variable (span_of (unplaced target)) x.expression x.static)
    _ _
    (variable_same (span_of (unplaced target)) (span_of target) x.expression x.static (span_nowhere target)) (λ to.
    bind (fitting known locals to.type value) (fitting known locals to.type (unplaced value)) _ _
    (fitting_same known locals to.type value) (λ v. refl)))

counter_same : (s' s : Span) (e : checked.Expression) (u : Static) →
    s' ≡ nowhere →
    counter s' e u ≡ anywhere (counter s e u)
counter_same s' s (checked.Slot n) (Of types.Int) h = choice (nat_eq n 0) _ _ _ _ (blank rules.NotAssignable s' s h)
    refl
counter_same s' s (checked.Slot n) (Of t) h = choice (nat_eq n 0) _ _ _ _ (blank rules.NotAssignable s' s h)
    (blank (of_type types.Int (Of t)) s' s h)
counter_same s' s (checked.Field e c f) (Of types.Int) h = refl
counter_same s' s (checked.Field e c f) (Of t) h = blank (of_type types.Int (Of t)) s' s h
counter_same s' s (checked.Item a i) (Of t) h = blank (of_type types.Int (Of t)) s' s h
counter_same s' s _ _ h = blank rules.NotAssignable s' s h

addition_same : (known : Known) (locals : List Local) (target : Expression) (v v' : Elaborated checked.Expression) →
    v' ≡ anywhere v
    → addition known locals (unplaced target) v' ≡ anywhere (addition known locals target v)
addition_same known locals target v v' e =
    bind (typed known locals (unwrapped target)) (typed known locals (unwrapped (unplaced target))) _ _
    (left_same known locals target) (λ x.
    bind (counter (span_of target) x.expression x.static) (counter (span_of (unplaced target)) x.expression x.static) _
    _
    (counter_same (span_of (unplaced target)) (span_of target) x.expression x.static (span_nowhere target)) (λ to.
    bind v v' _ _ e (λ v. refl)))

simple_same : (known : Known) (locals : List Local) (s : Simple) →
    simple known locals (unplaced_simple s) ≡ anywhere (simple known locals s)
simple_same known locals (Trees.Assign target value) = assignment_same known locals target value
simple_same known locals (Trees.Add target value) = addition_same known locals target _ _
    (fitting_same known locals types.Int value)
simple_same known locals (Trees.Count up before target) = addition_same known locals target (Ok (step up))
    (Ok (step up)) refl
simple_same known locals (Trees.Evaluate e) = bind (typed known locals e) (typed known locals (unplaced e)) _ _
    (typed_same known locals e) (λ x. refl)

simples_same : (known : Known) (locals : List Local) (ss : List Simple) →
    simples known locals (map unplaced_simple ss) ≡ anywhere (simples known locals ss)
simples_same known locals ss =
    each_same (one_simple known locals) (one_simple known locals) unplaced_simple [] ss (λ front s.
    bind (simple known locals s) (simple known locals (unplaced_simple s)) _ _ (simple_same known locals s) (λ t. refl))

opening_same : (body : Body) (locals : List Local) (slots : Slots) (o : Opening) →
    opening (unplaced_body body) locals slots (unplaced_opening o) ≡ anywhere (opening body locals slots o)
opening_same body locals slots (Trees.Declares d) = declaration_same body (opened locals slots) d
opening_same body locals slots (Trees.Performs ss) =
    bind (simples body.known locals ss) (simples body.known locals (map unplaced_simple ss)) _ _
    (simples_same body.known locals ss) (λ ss. refl)

condition_same : (known : Known) (locals : List Local) (c : Option Expression) →
    condition known locals (option_map unplaced c) ≡ anywhere (condition known locals c)
condition_same known locals None = refl
condition_same known locals (Some c) = fitting_same known locals types.Boolean c

returned_same : (known : Known) (locals : List Local) (r : Option ValueType) (v : Option Expression) (s : Span)
    → returned known locals r (option_map unplaced v) nowhere ≡ anywhere (returned known locals r v s)
returned_same known locals None None s = refl
returned_same known locals (Some t) None s = refl
returned_same known locals None (Some e) s = blank (rules.WrongType mismatches.Returned) (span_of (unplaced e))
    (span_of e) (span_nowhere e)
returned_same known locals (Some t) (Some e) s =
    bind (fitting known locals t e) (fitting known locals t (unplaced e)) _ _ (fitting_same known locals t e)
    (λ v. refl)

mutual
  -- a statement without places is elaborated to the same statement
  pub statement_same : (body : Body) (loops : Loops) (locals : List Local) (slots : Slots) (s : Statement)
      → statement (unplaced_body body) loops locals slots (unplaced_statement s) ≡ anywhere
      (statement body loops locals slots s)
  statement_same body loops locals slots (Trees.Block is) =
      bind (items body loops (opened locals slots) is) (items (unplaced_body body) loops (opened locals slots)
      (unplaced_items is)) _ _
      (items_same body loops (opened locals slots) is) (λ s. refl)
  statement_same body loops locals slots Trees.Empty = refl
  statement_same body loops locals slots (Trees.If c s) =
      bind (fitting body.known locals types.Boolean c) (fitting body.known locals types.Boolean (unplaced c)) _ _
      (fitting_same body.known locals types.Boolean c) (λ e.
      bind (statement body loops locals slots s) (statement (unplaced_body body) loops locals slots
      (unplaced_statement s)) _ _ (statement_same body loops locals slots s) (λ a. refl))
  statement_same body loops locals slots (Trees.IfElse c s t) =
      bind (fitting body.known locals types.Boolean c) (fitting body.known locals types.Boolean (unplaced c)) _ _
      (fitting_same body.known locals types.Boolean c) (λ e.
      bind (statement body loops locals slots s) (statement (unplaced_body body) loops locals slots
      (unplaced_statement s)) _ _ (statement_same body loops locals slots s) (λ a.
      bind (statement body loops locals a.slots t) (statement (unplaced_body body) loops locals a.slots
      (unplaced_statement t)) _ _ (statement_same body loops locals a.slots t) (λ b. refl)))
  statement_same body loops locals slots (Trees.While label c s) =
      ap (λ l. fresh_label loops (option_map unplaced_name label)
      (with_ok (fitting body.known locals types.Boolean (unplaced c)) (λ e.
      with_ok (statement (unplaced_body body) (loop_of parts.While l ∷ loops) locals slots (unplaced_statement s))
      (λ a. with_slots (checked.While e a.tree) a.slots)))) (label_same label)
      ∙ fresh_same loops label _ _ (
      bind (fitting body.known locals types.Boolean c) (fitting body.known locals types.Boolean (unplaced c)) _ _
      (fitting_same body.known locals types.Boolean c) (λ e.
      bind (statement body (loop_of parts.While (label_text label) ∷ loops) locals slots s)
      (statement (unplaced_body body) (loop_of parts.While (label_text label) ∷ loops) locals slots
      (unplaced_statement s)) _ _
      (statement_same body (loop_of parts.While (label_text label) ∷ loops) locals slots s) (λ a. refl)))
  statement_same body loops locals slots (Trees.For label o c us s) =
      ap (λ l. fresh_label loops (option_map unplaced_name label) (
      with_ok (opening (unplaced_body body) locals slots (unplaced_opening o)) (λ front.
      with_ok (condition body.known front.locals (option_map unplaced c)) (λ c.
      with_ok (simples body.known front.locals (map unplaced_simple us)) (λ us.
      with_ok (statement (unplaced_body body) (loop_of parts.Turn l ∷ loop_of parts.For l ∷ loops) front.locals
      front.slots (unplaced_statement s)) (λ s.
      with_slots (for_loop front.statements c s.tree us) s.slots)))))) (label_same label)
      ∙ fresh_same loops label _ _ (
      bind (opening body locals slots o) (opening (unplaced_body body) locals slots (unplaced_opening o)) _ _
      (opening_same body locals slots o) (λ front.
      bind (condition body.known front.locals c) (condition body.known front.locals (option_map unplaced c)) _ _
      (condition_same body.known front.locals c) (λ c.
      bind (simples body.known front.locals us) (simples body.known front.locals (map unplaced_simple us)) _ _
      (simples_same body.known front.locals us) (λ us.
      bind (statement body (loop_of parts.Turn (label_text label) ∷ loop_of parts.For (label_text label) ∷ loops)
      front.locals front.slots s)
      (statement (unplaced_body body) (loop_of parts.Turn (label_text label) ∷ loop_of parts.For (label_text label) ∷
      loops) front.locals front.slots (unplaced_statement s)) _ _
      (statement_same body (loop_of parts.Turn (label_text label) ∷ loop_of parts.For (label_text label) ∷ loops)
      front.locals front.slots s) (λ a. refl)))))
  statement_same body loops locals slots (Trees.Break label span) =
      bind (jump true loops label span) (jump true loops (option_map unplaced_name label) nowhere) _ _
      (jump_same true loops label span) (λ n. refl)
  statement_same body loops locals slots (Trees.Continue label span) =
      bind (jump false loops label span) (jump false loops (option_map unplaced_name label) nowhere) _ _
      (jump_same false loops label span) (λ n. refl)
  statement_same body loops locals slots (Trees.Return value span) =
      bind (returned body.known locals body.result value span)
      (returned body.known locals body.result (option_map unplaced value) nowhere) _ _
      (returned_same body.known locals body.result value span) (λ s. refl)
  statement_same body loops locals slots (Trees.Try b f) =
      bind (with_ok (items body loops (opened locals slots) b) closed)
      (with_ok (items (unplaced_body body) loops (opened locals slots) (unplaced_items b)) closed) _ _
      (bind (items body loops (opened locals slots) b) (items (unplaced_body body) loops (opened locals slots)
      (unplaced_items b)) _ _ (items_same body loops (opened locals slots) b) (λ s. refl))
      (λ x. bind (with_ok (items body loops (opened locals x.slots) f) closed)
      (with_ok (items (unplaced_body body) loops (opened locals x.slots) (unplaced_items f)) closed) _ _
      (bind (items body loops (opened locals x.slots) f) (items (unplaced_body body) loops (opened locals x.slots)
      (unplaced_items f)) _ _ (items_same body loops (opened locals x.slots) f) (λ s. refl))
      (λ y. refl))
  statement_same body loops locals slots (Trees.Synchronized e b) =
      bind (monitor body.known locals e) (monitor body.known locals (unplaced e)) _ _ (monitor_same body.known locals e)
      (λ m.
      let inner : Slots = with_unnamed slots (types.Class m.class) in
      bind (with_ok (items body loops (opened locals inner) b) closed)
      (with_ok (items (unplaced_body body) loops (opened locals inner) (unplaced_items b)) closed) _ _
      (bind (items body loops (opened locals inner) b) (items (unplaced_body body) loops (opened locals inner)
      (unplaced_items b)) _ _ (items_same body loops (opened locals inner) b) (λ s. refl))
      (λ x. refl))
  statement_same body loops locals slots (Trees.Perform s) =
      bind (simple body.known locals s) (simple body.known locals (unplaced_simple s)) _ _
      (simple_same body.known locals s) (λ s. refl)

  -- the items of a block without places are elaborated to the same statements
  pub items_same : (body : Body) (loops : Loops) (scope : Scope) (is : Items)
      → items (unplaced_body body) loops scope (unplaced_items is) ≡ anywhere (items body loops scope is)
  items_same body loops scope Trees.NoItem = refl
  items_same body loops scope (Trees.Do s rest) =
      bind (statement body loops scope.locals scope.slots s)
      (statement (unplaced_body body) loops scope.locals scope.slots (unplaced_statement s)) _ _
      (statement_same body loops scope.locals scope.slots s) (λ a. items_same body loops (followed scope a) rest)
  items_same body loops scope (Trees.Declare d rest) =
      bind (declaration body scope d) (declaration (unplaced_body body) scope (unplaced_declaration d)) _ _
      (declaration_same body scope d) (λ next. items_same body loops next rest)
