-- Elaborated statements are typed.
use Rattle.std.proofs.Common.{◌≡◌, ℕ, refl, sym, subst, ◌∙◌, lit<, nat_eq, Bool, true, false, not, List, [], ◌∷◌, ◌++◌}
use Rattle.std.proofs.Common.{length, Option, Some, None, Ok, Err, nat_lt, is_some}
use Rattle.std.specs.Prelude.{slice_get}
use Rattle.ls_lexer.specs.declared.token.Span.{Span}
use Rattle.ls_events.specs.declared.value.ValueType.{ValueType}
use Rattle.ls_events.specs.declared.value.ValueType.TheVariants as types
use Rattle.ls_checked.specs.CheckedTree as checked
use Rattle.ls_meaning.specs.declared.sort.Sort.TheVariants.{ValueOf}
use Rattle.ls_types_judgement.specs.Typing.{IsTyped}
use Rattle.ls_types_elaboration.specs.declared.loops.LoopPart.{LoopPart}
use Rattle.ls_types_elaboration.specs.declared.loops.LoopPart.TheVariants as parts
use Rattle.ls_types_elaboration.specs.declared.rule.Rule.TheVariants as rules
use Rattle.ls_types_elaboration.specs.StaticTypes.{of_type}
use Rattle.ls_types_elaboration.specs.declared.static_types.Static.{Static}
use Rattle.ls_types_elaboration.specs.declared.static_types.Static.TheVariants.{Of}
use Rattle.ls_types_elaboration.specs.Trees
use Rattle.ls_types_elaboration.specs.Trees.{Text, Name, Expression, Declarator, Declaration, Simple, Opening}
use Rattle.ls_types_elaboration.specs.Trees.{Statement, Items, span_of}
use Rattle.ls_types_elaboration.specs.Elaborated.{Elaborated, broken, with_ok}
use Rattle.ls_types_elaboration.specs.Known.{Known, Local, local_named, type_of}
use Rattle.ls_types_elaboration.specs.TypedExpressions.{typed, fitting}
use Rattle.ls_types_elaboration.specs.Scopes.{Body, Slots, with_unnamed, Scope, most_slots, start_of, with_statement}
use Rattle.ls_types_elaboration.specs.Scopes.{with_variable, initialised, declared, declaration}
use Rattle.ls_types_elaboration.specs.TypedStatements.{Loops, loop_of, jump, continued, label_text, fresh_label}
use Rattle.ls_types_elaboration.specs.TypedStatements.{loop_named, variable, assignment, counter, Counter, OfSlot}
use Rattle.ls_types_elaboration.specs.TypedStatements.{OfField, added, addition, step, simple, one_simple, simples}
use Rattle.ls_types_elaboration.specs.TypedStatements.{returned, opened, opening, condition, for_loop, closed, followed}
use Rattle.ls_types_elaboration.specs.TypedStatements.{monitor_of, monitor, sequence, statement, items, unwrapped}
use Rattle.ls_types_elaboration.specs.TypedMethods.{with_unnamed_slot, all_items}
use Rattle.ls_types_laws.proofs.Results.{Gives, bind, weaker, unless, either, each_keeps}
use Rattle.ls_types_laws.proofs.Lists.{Each, each_push, Grows, grows_same, grows_by, grows_on, at_grown, at_end}
use Rattle.ls_types_laws.proofs.Shown.{Has, Shows}
use Rattle.ls_types_laws.proofs.Agreement.{Ready, ready_grown}
use Rattle.ls_types_laws.proofs.Bodies.{Fine, Later, one_type, typed_later, fitting_later, Good, Scoped, scoped_same}
use Rattle.ls_types_laws.proofs.Bodies.{scoped_on, in_order, in_order_no_pair, evaluated_fine, monitor_fine}
use Rattle.ls_types_laws.proofs.Bodies.{start_typed, MaySet, variable_gives}

-- nothing is asked of the answer
pub any : {A : Type 0} (x : Elaborated A) → Gives (λ _. Unit {0}) x
any (Ok a) = tt
any (Err e) = tt

-- declarations

-- a new variable is in a slot of its scope
pub ready_with : (known : Known) (scope : Scope) (name : Text) (t : ValueType) →
    Ready known scope.locals scope.slots.types →
    Ready known (with_variable scope name t).locals (with_variable scope name t).slots.types
ready_with known scope name t r =
    let grown = ready_grown known scope.locals scope.slots.types (scope.slots.types ++ t ∷ [])
    (grows_by scope.slots.types (t ∷ [])) r in
    record {
      this = grown.this;
      in_scope = each_push (λ l. slice_get (scope.slots.types ++ t ∷ []) l.slot ≡ Some l.type) scope.locals
          (record { name = name; type = t; slot = length scope.slots.types }) grown.in_scope
          (at_end scope.slots.types t);
    }

abbrev started : Scope → Text → ValueType → Scope
started scope name t = with_statement (with_variable scope name t)
    (checked.SetSlot (length scope.slots.types) (checked.Literal (start_of t)))

started_scoped : (F : checked.File) (body : Body) (scope : Scope) (name : Text) (t : ValueType) →
    Ready body.known scope.locals scope.slots.types →
    Scoped F body scope (started scope name t)
started_scoped F body scope name t r = (
  grows_by scope.slots.types (t ∷ []),
  ready_with body.known scope name t r,
  λ W g a h. each_push (Fine F W body.result) scope.statements
      (checked.SetSlot (length scope.slots.types) (checked.Literal (start_of t))) h (
        (
          t,
          at_grown (scope.slots.types ++ t ∷ []) W (length scope.slots.types) t g (at_end scope.slots.types t),
          start_typed F W t,
        ),
        tt,
      ),
)

initialised_gives : (F : checked.File) (body : Body) (scope : Scope) (name : Text) (t : ValueType) →
    Ready body.known scope.locals scope.slots.types →
    (o : Option Expression) →
    Gives (Scoped F body scope) (initialised body.known t (length scope.slots.types) (started scope name t) o)
initialised_gives F body scope name t r None = started_scoped F body scope name t r
initialised_gives F body scope name t r (Some e) =
    bind (λ v. Later F body.known (scope.slots.types ++ t ∷ []) (λ W. IsTyped F W (ValueOf t) v)) (Scoped F body scope)
    (fitting body.known (started scope name t).locals t e) _
    (fitting_later F body.known (started scope name t).locals (scope.slots.types ++ t ∷ [])
    (ready_with body.known scope name t r) t e) (λ v k.
    scoped_on F body scope (started scope name t) (with_statement (started scope name t)
    (checked.SetSlot (length scope.slots.types) v)) (started_scoped F body scope name t r) (
      grows_same (scope.slots.types ++ t ∷ []),
      ready_with body.known scope name t r,
      λ W g a h. each_push (Fine F W body.result) (started scope name t).statements
          (checked.SetSlot (length scope.slots.types) v) h (
            (
              t,
              at_grown (scope.slots.types ++ t ∷ []) W (length scope.slots.types) t g (at_end scope.slots.types t),
              k W g a,
            ),
            tt,
          ),
    ))

declared_gives : (F : checked.File) (body : Body) (t : ValueType) (scope : Scope) →
    Ready body.known scope.locals scope.slots.types →
    (d : Declarator) →
    Gives (Scoped F body scope) (declared body t scope d)
declared_gives F body t scope r d =
    unless (Scoped F body scope) (is_some (local_named scope.locals d.name.text)) rules.TwiceDeclared d.name.span _
    (λ e.
    unless (Scoped F body scope) (not (nat_lt scope.slots.named most_slots)) rules.Limit body.span _ (λ e.
    initialised_gives F body scope d.name.text t r d.value))

declaration_gives : (F : checked.File) (body : Body) (scope : Scope) →
    Ready body.known scope.locals scope.slots.types →
    (d : Declaration) →
    Gives (Scoped F body scope) (declaration body scope d)
declaration_gives F body scope r d =
    bind (λ t. Unit {0}) (Scoped F body scope) (type_of body.known.names d.type_name) _
    (any (type_of body.known.names d.type_name)) (λ t z.
    each_keeps (Scoped F body scope) (declared body t) scope (d.first ∷ d.more) (scoped_same F body scope r) (λ mid d h.
    weaker (Scoped F body mid) (Scoped F body scope) (declared body t mid d) (declared_gives F body t mid h.1 d)
    (λ out k. scoped_on F body scope mid out h k)))

-- simple statements

fresh_gives : {A : Type 0} (Q : A → Type 0) (loops : Loops) (label : Option Name) (x : Elaborated A) →
    Gives Q x →
    Gives Q (fresh_label loops label x)
fresh_gives Q loops None x h = h
fresh_gives Q loops (Some n) x h = unless Q (is_some (loop_named true loops (Some n.text))) rules.TwiceDeclared n.span x
    (λ e. h)

assignment_gives : (F : checked.File) (known : Known) (locals : List Local) (slots : List ValueType)
    (r : Option ValueType) →
    Ready known locals slots →
    (target value : Expression) →
    Gives (λ s. Later F known slots (λ W. Fine F W r s)) (assignment known locals target value)
assignment_gives F known locals slots r ready target value =
    bind (λ x. Later F known slots (λ W. Shows F W x)) (λ s. Later F known slots (λ W. Fine F W r s))
    (typed known locals (unwrapped target)) _ (typed_later F known locals slots ready (unwrapped target)) (λ x h.
    bind (λ to. Later F known slots (λ W. MaySet F W r to)) (λ s. Later F known slots (λ W. Fine F W r s))
    (variable (span_of target) x.expression x.static) _
    (variable_gives F known slots r (span_of target) x.expression x.static h) (λ to may.
    bind (λ v. Later F known slots (λ W. IsTyped F W (ValueOf to.type) v))
    (λ s. Later F known slots (λ W. Fine F W r s)) (fitting known locals to.type value) _
    (fitting_later F known locals slots ready to.type value) (λ v k W g a. may W g a v (k W g a))))

-- what is added to a variable
abbrev MayAdd : checked.File → List ValueType → Option ValueType → Counter → Type 0
MayAdd F W r to = (v : checked.Expression) → IsTyped F W (ValueOf types.Int) v → Fine F W r (added to v)

add_slot : (F : checked.File) (W : List ValueType) (r : Option ValueType) (n : ℕ) →
    IsTyped F W (ValueOf types.Int) (checked.Slot n) →
    MayAdd F W r (OfSlot n)
add_slot F W r n h v k = (
  (
    types.Int,
    subst (λ u. slice_get W n ≡ Some u) (sym (one_type types.Int h.0 h.1)) h.2,
    (types.Int, refl, refl, h, k),
  ),
  tt,
)

add_field : (F : checked.File) (W : List ValueType) (r : Option ValueType) (e : checked.Expression) (c f : ℕ) →
    IsTyped F W (ValueOf types.Int) (checked.Field e c f) →
    MayAdd F W r (OfField e f)
add_field F W r e c f h v k = ((c, h.2 ∙ sym h.1, h.3, k), tt)

counter_gives : (F : checked.File) (known : Known) (slots : List ValueType) (r : Option ValueType) (s : Span)
    (e : checked.Expression) (x : Static) →
    Later F known slots (λ W. Has F W x e) →
    Gives (λ to. Later F known slots (λ W. MayAdd F W r to)) (counter s e x)
counter_gives F known slots r s (checked.Slot n) (Of types.Int) h =
    either (λ to. Later F known slots (λ W. MayAdd F W r to)) (nat_eq n 0) (broken rules.NotAssignable s)
    (Ok (OfSlot n)) (λ z. tt) (λ z W g a. add_slot F W r n (h W g a))
counter_gives F known slots r s (checked.Slot n) (Of t) h =
    either (λ to. Later F known slots (λ W. MayAdd F W r to)) (nat_eq n 0) (broken rules.NotAssignable s)
    (broken (of_type types.Int (Of t)) s) (λ z. tt) (λ z. tt)
counter_gives F known slots r s (checked.Field e c f) (Of types.Int) h = λ W g a. add_field F W r e c f (h W g a)
counter_gives F known slots r s (checked.Field e c f) (Of t) h = tt
counter_gives F known slots r s (checked.Item a i) (Of t) h = tt
counter_gives F known slots r s _ _ h = tt

addition_gives : (F : checked.File) (known : Known) (locals : List Local) (slots : List ValueType)
    (r : Option ValueType) →
    Ready known locals slots →
    (target : Expression) (value : Elaborated checked.Expression) →
    Gives (λ v. Later F known slots (λ W. IsTyped F W (ValueOf types.Int) v)) value →
    Gives (λ s. Later F known slots (λ W. Fine F W r s)) (addition known locals target value)
addition_gives F known locals slots r ready target value is =
    bind (λ x. Later F known slots (λ W. Shows F W x)) (λ s. Later F known slots (λ W. Fine F W r s))
    (typed known locals (unwrapped target)) _ (typed_later F known locals slots ready (unwrapped target)) (λ x h.
    bind (λ to. Later F known slots (λ W. MayAdd F W r to)) (λ s. Later F known slots (λ W. Fine F W r s))
    (counter (span_of target) x.expression x.static) _
    (counter_gives F known slots r (span_of target) x.expression x.static h) (λ to may.
    bind (λ v. Later F known slots (λ W. IsTyped F W (ValueOf types.Int) v))
    (λ s. Later F known slots (λ W. Fine F W r s)) value _ is (λ v k W g a. may W g a v (k W g a))))

step_typed : (F : checked.File) (W : List ValueType) (up : Bool) → IsTyped F W (ValueOf types.Int) (step up)
step_typed F W true = record { sfits = lit< tt }
step_typed F W false = record { sfits = lit< tt }

simple_gives : (F : checked.File) (known : Known) (locals : List Local) (slots : List ValueType) (r : Option ValueType)
    →
    Ready known locals slots →
    (s : Simple) →
    Gives (λ t. Later F known slots (λ W. Fine F W r t)) (simple known locals s)
simple_gives F known locals slots r ready (Trees.Assign target value) = assignment_gives F known locals slots r ready
    target value
simple_gives F known locals slots r ready (Trees.Add target value) =
    addition_gives F known locals slots r ready target (fitting known locals types.Int value)
    (fitting_later F known locals slots ready types.Int value)
simple_gives F known locals slots r ready (Trees.Count up before target) =
    addition_gives F known locals slots r ready target (Ok (step up)) (λ W g a. step_typed F W up)
simple_gives F known locals slots r ready (Trees.Evaluate e) =
    bind (λ x. Later F known slots (λ W. Shows F W x)) (λ t. Later F known slots (λ W. Fine F W r t))
    (typed known locals e) _ (typed_later F known locals slots ready e) (λ x h W g a.
    evaluated_fine F W r x.static x.expression (h W g a))

abbrev AllFine : checked.File → Known → List ValueType → Option ValueType → List checked.Statement → Type 0
AllFine F known slots r front = Later F known slots (λ W. Each (Fine F W r) front)

simples_gives : (F : checked.File) (known : Known) (locals : List Local) (slots : List ValueType) (r : Option ValueType)
    →
    Ready known locals slots →
    (ss : List Simple) →
    Gives (AllFine F known slots r) (simples known locals ss)
simples_gives F known locals slots r ready ss =
    each_keeps (AllFine F known slots r) (one_simple known locals) [] ss (λ W g a. tt) (λ front s h.
    bind (λ t. Later F known slots (λ W. Fine F W r t)) (AllFine F known slots r) (simple known locals s) _
    (simple_gives F known locals slots r ready s) (λ t k W g a.
    each_push (Fine F W r) front t (h W g a) (k W g a)))

opening_gives : (F : checked.File) (body : Body) (locals : List Local) (slots : Slots) →
    Ready body.known locals slots.types →
    (o : Opening) →
    Gives (Scoped F body (opened locals slots)) (opening body locals slots o)
opening_gives F body locals slots r (Trees.Declares d) = declaration_gives F body (opened locals slots) r d
opening_gives F body locals slots r (Trees.Performs ss) =
    bind (AllFine F body.known slots.types body.result) (Scoped F body (opened locals slots))
    (simples body.known locals ss) _ (simples_gives F body.known locals slots.types body.result r ss) (λ ss h.
    (grows_same slots.types, r, λ W g a z. h W g a))

condition_gives : (F : checked.File) (known : Known) (locals : List Local) (slots : List ValueType) →
    Ready known locals slots →
    (c : Option Expression) →
    Gives (λ v. Later F known slots (λ W. IsTyped F W (ValueOf types.Boolean) v)) (condition known locals c)
condition_gives F known locals slots r None = λ W g a. tt
condition_gives F known locals slots r (Some c) = fitting_later F known locals slots r types.Boolean c

continued_fine : (F : checked.File) (W : List ValueType) (r : Option ValueType) (p : LoopPart) (n : ℕ) →
    Fine F W r (continued p n)
continued_fine F W r parts.Turn n = (tt, tt)
continued_fine F W r parts.While n = (tt, tt)
continued_fine F W r parts.For n = (tt, tt)

-- the loops of a `for`
looped_fine : (F : checked.File) (W : List ValueType) (r : Option ValueType) (front : List checked.Statement)
    (c : checked.Expression) (s : checked.Statement) (us : List checked.Statement) →
    Each (Fine F W r) front → IsTyped F W (ValueOf types.Boolean) c → Fine F W r s → Each (Fine F W r) us →
    Fine F W r (for_loop front c s us)
looped_fine F W r front c s us h k l m =
    let all = each_push (Fine F W r) front _ h (
      (k, ((tt, (l.0, (tt, tt))), (in_order F W r us m, tt))),
      ((l.1, (tt, tt)), (in_order_no_pair F W r us m, tt)),
    ) in
    (in_order F W r _ all, in_order_no_pair F W r _ all)

returned_gives : (F : checked.File) (known : Known) (locals : List Local) (slots : List ValueType) →
    Ready known locals slots →
    (r : Option ValueType) (v : Option Expression) (s : Span) →
    Gives (λ s. Later F known slots (λ W. Fine F W r s)) (returned known locals r v s)
returned_gives F known locals slots ready None None s = λ W g a. (refl, tt)
returned_gives F known locals slots ready (Some t) None s = tt
returned_gives F known locals slots ready None (Some e) s = tt
returned_gives F known locals slots ready (Some t) (Some e) s =
    bind (λ v. Later F known slots (λ W. IsTyped F W (ValueOf t) v))
    (λ s. Later F known slots (λ W. Fine F W (Some t) s)) (fitting known locals t e) _
    (fitting_later F known locals slots ready t e) (λ v k W g a. ((t, refl, k W g a), tt))

-- what has a monitor
monitor_of_gives : (F : checked.File) (known : Known) (slots : List ValueType) (s : Span) (e : checked.Expression)
    (x : Static) →
    Later F known slots (λ W. Has F W x e) →
    Gives (λ m. Later F known slots (λ W. IsTyped F W (ValueOf (types.Class m.class)) m.object)) (monitor_of s e x)
monitor_of_gives F known slots s e (Of (types.Class c)) h = h
monitor_of_gives F known slots s e _ h = tt

monitor_gives : (F : checked.File) (known : Known) (locals : List Local) (slots : List ValueType) →
    Ready known locals slots →
    (e : Expression) →
    Gives (λ m. Later F known slots (λ W. IsTyped F W (ValueOf (types.Class m.class)) m.object))
    (monitor known locals e)
monitor_gives F known locals slots r e =
    bind (λ x. Later F known slots (λ W. Shows F W x)) (λ m.
    Later F known slots (λ W. IsTyped F W (ValueOf (types.Class m.class)) m.object)) (typed known locals e) _
    (typed_later F known locals slots r e) (λ x h. monitor_of_gives F known slots (span_of e) x.expression x.static h)

closed_good : (F : checked.File) (body : Body) (locals : List Local) (slots : Slots) (scope : Scope) →
    Scoped F body (opened locals slots) scope →
    Gives (Good F body slots) (closed scope)
closed_good F body locals slots scope h = (
  h.0,
  λ W g a. (
    in_order F W body.result scope.statements (h.2 W g a tt),
    in_order_no_pair F W body.result scope.statements (h.2 W g a tt),
  ),
)

mutual
  pub statement_gives : (F : checked.File) (body : Body) (loops : Loops) (locals : List Local) (slots : Slots) →
      Ready body.known locals slots.types →
      (s : Statement) →
      Gives (Good F body slots) (statement body loops locals slots s)
  statement_gives F body loops locals slots r (Trees.Block is) =
      bind (Scoped F body (opened locals slots)) (Good F body slots) (items body loops (opened locals slots) is) _
      (items_give F body loops (opened locals slots) r is) (λ scope h.
      closed_good F body locals slots scope h)
  statement_gives F body loops locals slots r Trees.Empty = (grows_same slots.types, λ W g a. (tt, tt))
  statement_gives F body loops locals slots r (Trees.If c s) =
      bind (λ v. Later F body.known slots.types (λ W. IsTyped F W (ValueOf types.Boolean) v)) (Good F body slots)
      (fitting body.known locals types.Boolean c) _
      (fitting_later F body.known locals slots.types r types.Boolean c) (λ e k.
      bind (Good F body slots) (Good F body slots) (statement body loops locals slots s) _
      (statement_gives F body loops locals slots r s) (λ s h.
      (h.0, λ W g a. ((k W (grows_on slots.types s.slots.types W h.0 g) a, (h.1 W g a).0, tt), ((h.1 W g a).1, tt)))))
  statement_gives F body loops locals slots r (Trees.IfElse c s t) =
      bind (λ v. Later F body.known slots.types (λ W. IsTyped F W (ValueOf types.Boolean) v)) (Good F body slots)
      (fitting body.known locals types.Boolean c) _
      (fitting_later F body.known locals slots.types r types.Boolean c) (λ e k.
      bind (Good F body slots) (Good F body slots) (statement body loops locals slots s) _
      (statement_gives F body loops locals slots r s) (λ s h.
      bind (Good F body s.slots) (Good F body slots) (statement body loops locals s.slots t) _
      (statement_gives F body loops locals s.slots (ready_grown body.known locals slots.types s.slots.types h.0 r) t)
      (λ t l. (
        grows_on slots.types s.slots.types t.slots.types h.0 l.0,
        λ W g a.
            let f = h.1 W (grows_on s.slots.types t.slots.types W l.0 g) a in
            let z = l.1 W g a in (
              (
                k W (grows_on slots.types s.slots.types W h.0 (grows_on s.slots.types t.slots.types W l.0 g)) a,
                f.0,
                z.0,
              ),
              (f.1, z.1),
            ),
      ))))
  statement_gives F body loops locals slots r (Trees.While label c s) =
      fresh_gives (Good F body slots) loops label _ (
      bind (λ v. Later F body.known slots.types (λ W. IsTyped F W (ValueOf types.Boolean) v)) (Good F body slots)
      (fitting body.known locals types.Boolean c) _
      (fitting_later F body.known locals slots.types r types.Boolean c) (λ e k.
      bind (Good F body slots) (Good F body slots) (statement body (loop_of parts.While (label_text label) ∷ loops)
      locals slots s) _
      (statement_gives F body (loop_of parts.While (label_text label) ∷ loops) locals slots r s) (λ s h.
      (h.0, λ W g a. ((k W (grows_on slots.types s.slots.types W h.0 g) a, (h.1 W g a).0), (h.1 W g a).1)))))
  statement_gives F body loops locals slots r (Trees.For label o c us s) =
      let inner : Loops = loop_of parts.Turn (label_text label) ∷ loop_of parts.For (label_text label) ∷ loops in
      fresh_gives (Good F body slots) loops label _ (
      bind (Scoped F body (opened locals slots)) (Good F body slots) (opening body locals slots o) _
      (opening_gives F body locals slots r o) (λ front h.
      bind (λ v. Later F body.known front.slots.types (λ W. IsTyped F W (ValueOf types.Boolean) v)) (Good F body slots)
      (condition body.known front.locals c) _
      (condition_gives F body.known front.locals front.slots.types h.1 c) (λ e k.
      bind (AllFine F body.known front.slots.types body.result) (Good F body slots) (simples body.known front.locals us)
      _
      (simples_gives F body.known front.locals front.slots.types body.result h.1 us) (λ us l.
      bind (Good F body front.slots) (Good F body slots) (statement body inner front.locals front.slots s) _
      (statement_gives F body inner front.locals front.slots h.1 s) (λ s m. (
        grows_on slots.types front.slots.types s.slots.types h.0 m.0,
        λ W g a.
            let on = grows_on front.slots.types s.slots.types W m.0 g in
            looped_fine F W body.result front.statements e s.tree us (h.2 W on a tt) (k W on a) (m.1 W g a) (l W on a),
      ))))))
  statement_gives F body loops locals slots r (Trees.Break label span) =
      bind (λ w. Unit {0}) (Good F body slots) (jump true loops label span) _ (any (jump true loops label span))
      (λ w z. (grows_same slots.types, λ W g a. (tt, tt)))
  statement_gives F body loops locals slots r (Trees.Continue label span) =
      bind (λ w. Unit {0}) (Good F body slots) (jump false loops label span) _ (any (jump false loops label span))
      (λ w z. (grows_same slots.types, λ W g a. continued_fine F W body.result w.1 w.0))
  statement_gives F body loops locals slots r (Trees.Return value span) =
      bind (λ s. Later F body.known slots.types (λ W. Fine F W body.result s)) (Good F body slots)
      (returned body.known locals body.result value span) _
      (returned_gives F body.known locals slots.types r body.result value span) (λ s h. (grows_same slots.types, h))
  statement_gives F body loops locals slots r (Trees.Try b f) =
      bind (Good F body slots) (Good F body slots) (with_ok (items body loops (opened locals slots) b) closed) _
      (bind (Scoped F body (opened locals slots)) (Good F body slots) (items body loops (opened locals slots) b) closed
      (items_give F body loops (opened locals slots) r b) (λ scope h.
      closed_good F body locals slots scope h)) (λ b h.
      bind (Good F body b.slots) (Good F body slots) (with_ok (items body loops (opened locals b.slots) f) closed) _
      (bind (Scoped F body (opened locals b.slots)) (Good F body b.slots) (items body loops (opened locals b.slots) f)
      closed
      (items_give F body loops (opened locals b.slots) (ready_grown body.known locals slots.types b.slots.types h.0 r)
      f) (λ scope h.
      closed_good F body locals b.slots scope h)) (λ f l. (
        grows_on slots.types b.slots.types f.slots.types h.0 l.0,
        λ W g a.
            let p = h.1 W (grows_on b.slots.types f.slots.types W l.0 g) a in
            let q = l.1 W g a in
            ((p.0, q.0), (p.1, q.1)),
      )))
  statement_gives F body loops locals slots r (Trees.Synchronized e b) =
      bind (λ m. Later F body.known slots.types (λ W. IsTyped F W (ValueOf (types.Class m.class)) m.object))
      (Good F body slots) (monitor body.known locals e) _
      (monitor_gives F body.known locals slots.types r e) (λ m k.
      let inner : Slots = with_unnamed slots (types.Class m.class) in
      let more : Grows slots.types inner.types = grows_by slots.types (types.Class m.class ∷ []) in
      bind (Good F body inner) (Good F body slots) (with_ok (items body loops (opened locals inner) b) closed) _
      (bind (Scoped F body (opened locals inner)) (Good F body inner) (items body loops (opened locals inner) b) closed
      (items_give F body loops (opened locals inner) (ready_grown body.known locals slots.types inner.types more r) b)
      (λ scope h.
      closed_good F body locals inner scope h)) (λ b h. (
        grows_on slots.types inner.types b.slots.types more h.0,
        λ W g a.
            let on : Grows inner.types W = grows_on inner.types b.slots.types W h.0 g in
            monitor_fine F W body.result (length slots.types) m.class m.object b.tree
            (at_grown inner.types W (length slots.types) (types.Class m.class) on
            (at_end slots.types (types.Class m.class)))
            (k W (grows_on slots.types inner.types W more on) a) (h.1 W g a),
      )))
  statement_gives F body loops locals slots r (Trees.Perform s) =
      bind (λ s. Later F body.known slots.types (λ W. Fine F W body.result s)) (Good F body slots)
      (simple body.known locals s) _
      (simple_gives F body.known locals slots.types body.result r s) (λ s h. (grows_same slots.types, h))

  pub items_give : (F : checked.File) (body : Body) (loops : Loops) (scope : Scope) →
      Ready body.known scope.locals scope.slots.types →
      (is : Items) →
      Gives (Scoped F body scope) (items body loops scope is)
  items_give F body loops scope r Trees.NoItem = scoped_same F body scope r
  items_give F body loops scope r (Trees.Do s rest) =
      bind (Good F body scope.slots) (Scoped F body scope) (statement body loops scope.locals scope.slots s) _
      (statement_gives F body loops scope.locals scope.slots r s) (λ s h.
      weaker (Scoped F body (followed scope s)) (Scoped F body scope) (items body loops (followed scope s) rest)
      (items_give F body loops (followed scope s) (ready_grown body.known scope.locals scope.slots.types s.slots.types
      h.0 r) rest) (λ out k. (
        grows_on scope.slots.types s.slots.types out.slots.types h.0 k.0,
        k.1,
        λ W g a hs. k.2 W g a (each_push (Fine F W body.result) scope.statements s.tree hs
            (h.1 W (grows_on s.slots.types out.slots.types W k.0 g) a)),
      )))
  items_give F body loops scope r (Trees.Declare d rest) =
      bind (Scoped F body scope) (Scoped F body scope) (declaration body scope d) _ (declaration_gives F body scope r d)
      (λ mid h.
      weaker (Scoped F body mid) (Scoped F body scope) (items body loops mid rest)
      (items_give F body loops mid h.1 rest) (λ out k. scoped_on F body scope mid out h k))

-- the statements of a method's body, in a monitor or in none
pub all_items_give : (F : checked.File) (body : Body) (sync : Bool) (scope : Scope) →
    Ready body.known scope.locals scope.slots.types →
    (is : Items) →
    Gives (Scoped F body scope) (all_items body sync scope is)
all_items_give F body false scope r is = items_give F body [] scope r is
all_items_give F body true scope r is =
    let t : ValueType = types.Class body.known.own in
    let mid : Scope = with_unnamed_slot scope t in
    let more : Grows scope.slots.types mid.slots.types = grows_by scope.slots.types (t ∷ []) in
    bind (Scoped F body mid) (Scoped F body scope) (items body [] mid is) _
    (items_give F body [] mid (ready_grown body.known scope.locals scope.slots.types mid.slots.types more r) is)
    (λ end k. (
      grows_on scope.slots.types mid.slots.types end.slots.types more k.0,
      k.1,
      λ W g a hs.
          let fine : Each (Fine F W body.result) end.statements = k.2 W g a hs in (
            monitor_fine F W body.result (length scope.slots.types) body.known.own (checked.Slot 0)
                (checked.Block (sequence end.statements))
                (at_grown mid.slots.types W (length scope.slots.types) t
                (grows_on mid.slots.types end.slots.types W k.0 g) (at_end scope.slots.types t))
                (t, refl, at_grown end.slots.types W 0 t g k.1.this)
                (in_order F W body.result end.statements fine, in_order_no_pair F W body.result end.statements fine),
            tt,
          ),
    ))
