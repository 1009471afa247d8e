-- Elaborated statements have their loops.
use Rattle.std.proofs.Common.{ℕ, ◌+◌, ◌<◌, not, true, false, Ok, subst, List, [], ◌∷◌, length, arith, Option, Some}
use Rattle.std.proofs.Common.{None, nat_lt, is_some}
use Rattle.ls_lexer.specs.declared.token.Span.{Span}
use Rattle.ls_events.specs.declared.value.ValueType.{ValueType}
use Rattle.ls_events.specs.declared.value.ValueType.TheVariants as types
use Rattle.ls_checked.specs.CheckedTree as checked
use Rattle.ls_types_elaboration.specs.declared.loops.LoopPart.TheVariants as parts
use Rattle.ls_types_elaboration.specs.declared.rule.Rule.TheVariants as rules
use Rattle.ls_types_elaboration.specs.Trees
use Rattle.ls_types_elaboration.specs.Trees.{Name, Expression, Declarator, Declaration, Simple, Opening, Statement}
use Rattle.ls_types_elaboration.specs.Trees.{Items, span_of}
use Rattle.ls_types_elaboration.specs.Elaborated.{Elaborated, with_ok}
use Rattle.ls_types_elaboration.specs.Known.{Known, Local, local_named, type_of}
use Rattle.ls_types_elaboration.specs.TypedExpressions.{typed, fitting}
use Rattle.ls_types_elaboration.specs.Scopes.{Body, Slots, with_unnamed, Scope, most_slots, start_of, with_variable}
use Rattle.ls_types_elaboration.specs.Scopes.{with_statement, may_declare, initialised, declared, declaration}
use Rattle.ls_types_elaboration.specs.TypedStatements.{Loops, loop_of, WithSlots, jump, label_text, variable, Place}
use Rattle.ls_types_elaboration.specs.TypedStatements.{AtSlot, AtField, AtItem, assigned, assignment, Counter, OfSlot}
use Rattle.ls_types_elaboration.specs.TypedStatements.{OfField, counter, added, addition, step, simple, one_simple}
use Rattle.ls_types_elaboration.specs.TypedStatements.{simples, returned, opened, opening, condition, for_loop, closed}
use Rattle.ls_types_elaboration.specs.TypedStatements.{followed, monitor, statement, items, unwrapped}
use Rattle.ls_types_judgement.specs.Leaving.{JumpsInLoops}
use Rattle.ls_types_laws.proofs.Results.{Gives, bind, after, unless, each_keeps}
use Rattle.ls_types_laws.proofs.Lists.{Each, each_push}
use Rattle.ls_types_laws.proofs.Jumping.{jump_low, continued_low, fresh_gives, one_more, in_sequence}

-- a statement in n loops, and the statements of a block there
abbrev Good : ℕ → WithSlots checked.Statement → Type 0
Good n s = JumpsInLoops n s.tree

-- the statements of a scope jump to these loops
abbrev pub Kept : ℕ → Scope → Type 0
Kept n scope = Each (JumpsInLoops n) scope.statements

-- the test of a declared name changes no answer
pub may_gives : {A : Type 0} (Q : A → Type 0) (s : Span) (scope : Scope) (name : Name) (x : Elaborated A) →
    Gives Q x →
    Gives Q (may_declare s scope name x)
may_gives Q s scope name x h =
    unless Q (is_some (local_named scope.locals name.text)) rules.TwiceDeclared name.span _ (λ e.
    unless Q (not (nat_lt scope.slots.named most_slots)) rules.Limit s x (λ f. h))

initialised_kept : (n : ℕ) (known : Known) (t : ValueType) (slot : ℕ) (scope : Scope) (o : Option Expression) →
    Kept n scope →
    Gives (Kept n) (initialised known t slot scope o)
initialised_kept n known t slot scope None h = h
initialised_kept n known t slot scope (Some e) h =
    after (Kept n) (fitting known scope.locals t e) _ (λ v. each_push (JumpsInLoops n) scope.statements
    (checked.SetSlot slot v) h tt)

declared_kept : (n : ℕ) (body : Body) (t : ValueType) (scope : Scope) (d : Declarator) →
    Kept n scope →
    Gives (Kept n) (declared body t scope d)
declared_kept n body t scope d h =
    let started : checked.Statement = checked.SetSlot (length scope.slots.types) (checked.Literal (start_of t)) in
    may_gives (Kept n) body.span scope d.name _
    (initialised_kept n body.known t (length scope.slots.types)
    (with_statement (with_variable scope d.name.text t) started) d.value
    (each_push (JumpsInLoops n) scope.statements started h tt))

declaration_kept : (n : ℕ) (body : Body) (scope : Scope) (d : Declaration) →
    Kept n scope →
    Gives (Kept n) (declaration body scope d)
declaration_kept n body scope d h =
    after (Kept n) (type_of body.known.names d.type_name) _ (λ t.
    each_keeps (Kept n) (declared body t) scope (d.first ∷ d.more) h (λ s a k. declared_kept n body t s a k))

assigned_good : (n : ℕ) (p : Place) (v : checked.Expression) → JumpsInLoops n (assigned p v)
assigned_good n (AtSlot m) v = tt
assigned_good n (AtField e f) v = tt
assigned_good n (AtItem a i) v = tt

assignment_good : (n : ℕ) (known : Known) (locals : List Local) (target value : Expression) →
    Gives (JumpsInLoops n) (assignment known locals target value)
assignment_good n known locals target value =
    after (JumpsInLoops n) (typed known locals (unwrapped target)) _ (λ x.
    after (JumpsInLoops n) (variable (span_of target) x.expression x.static) _ (λ to.
    after (JumpsInLoops n) (fitting known locals to.type value) _ (λ v. assigned_good n to.place v)))

added_good : (n : ℕ) (to : Counter) (v : checked.Expression) → JumpsInLoops n (added to v)
added_good n (OfSlot m) v = tt
added_good n (OfField e f) v = tt

addition_good : (n : ℕ) (known : Known) (locals : List Local) (target : Expression)
    (value : Elaborated checked.Expression) →
    Gives (JumpsInLoops n) (addition known locals target value)
addition_good n known locals target value =
    after (JumpsInLoops n) (typed known locals (unwrapped target)) _ (λ x.
    after (JumpsInLoops n) (counter (span_of target) x.expression x.static) _ (λ to.
    after (JumpsInLoops n) value _ (λ v. added_good n to v)))

simple_good : (n : ℕ) (known : Known) (locals : List Local) (s : Simple) →
    Gives (JumpsInLoops n) (simple known locals s)
simple_good n known locals (Trees.Assign target value) = assignment_good n known locals target value
simple_good n known locals (Trees.Add target value) = addition_good n known locals target
    (fitting known locals types.Int value)
simple_good n known locals (Trees.Count up before target) = addition_good n known locals target (Ok (step up))
simple_good n known locals (Trees.Evaluate e) = after (JumpsInLoops n) (typed known locals e) _ (λ x. tt)

simples_good : (n : ℕ) (known : Known) (locals : List Local) (ss : List Simple) →
    Gives (Each (JumpsInLoops n)) (simples known locals ss)
simples_good n known locals ss =
    each_keeps (Each (JumpsInLoops n)) (one_simple known locals) [] ss tt (λ front s h.
    bind (JumpsInLoops n) (Each (JumpsInLoops n)) (simple known locals s) _ (simple_good n known locals s)
    (λ t k. each_push (JumpsInLoops n) front t h k))

opening_kept : (n : ℕ) (body : Body) (locals : List Local) (slots : Slots) (o : Opening) →
    Gives (Kept n) (opening body locals slots o)
opening_kept n body locals slots (Trees.Declares d) = declaration_kept n body (opened locals slots) d tt
opening_kept n body locals slots (Trees.Performs ss) =
    bind (Each (JumpsInLoops n)) (Kept n) (simples body.known locals ss) _ (simples_good n body.known locals ss)
    (λ ss h. h)

looped_good : (n : ℕ) (front : List checked.Statement) (c : checked.Expression) (s : checked.Statement)
    (us : List checked.Statement) →
    Each (JumpsInLoops n) front → JumpsInLoops (n + 1 + 1) s → Each (JumpsInLoops (n + 1)) us →
    JumpsInLoops n (for_loop front c s us)
looped_good n front c s us h k l =
    in_sequence n _ (each_push (JumpsInLoops n) front _ h ((k, (omega arith, tt)), (in_sequence (n + 1) us l, tt)))

returned_good : (n : ℕ) (known : Known) (locals : List Local) (r : Option ValueType) (value : Option Expression)
    (span : Span) →
    Gives (JumpsInLoops n) (returned known locals r value span)
returned_good n known locals None None span = tt
returned_good n known locals (Some t) None span = tt
returned_good n known locals None (Some e) span = tt
returned_good n known locals (Some t) (Some e) span = after (JumpsInLoops n) (fitting known locals t e) _ (λ v. tt)

closed_good : (n : ℕ) (scope : Scope) → Kept n scope → Gives (Good n) (closed scope)
closed_good n scope h = in_sequence n scope.statements h

mutual
  statement_good : (body : Body) (loops : Loops) (locals : List Local) (slots : Slots) (s : Statement) →
      Gives (Good (length loops)) (statement body loops locals slots s)
  statement_good body loops locals slots (Trees.Block is) =
      bind (Kept (length loops)) (Good (length loops)) (items body loops (opened locals slots) is) closed
      (items_kept body loops (opened locals slots) is tt) (closed_good (length loops))
  statement_good body loops locals slots Trees.Empty = tt
  statement_good body loops locals slots (Trees.If c s) =
      after (Good (length loops)) (fitting body.known locals types.Boolean c) _ (λ e.
      bind (Good (length loops)) (Good (length loops)) (statement body loops locals slots s) _
      (statement_good body loops locals slots s) (λ a h. (h, tt)))
  statement_good body loops locals slots (Trees.IfElse c s t) =
      after (Good (length loops)) (fitting body.known locals types.Boolean c) _ (λ e.
      bind (Good (length loops)) (Good (length loops)) (statement body loops locals slots s) _
      (statement_good body loops locals slots s) (λ a h.
      bind (Good (length loops)) (Good (length loops)) (statement body loops locals a.slots t) _
      (statement_good body loops locals a.slots t) (λ b k. (h, k))))
  statement_good body loops locals slots (Trees.While label c s) =
      fresh_gives (Good (length loops)) loops label _ (
      after (Good (length loops)) (fitting body.known locals types.Boolean c) _ (λ e.
      bind (Good (length (loop_of parts.While (label_text label) ∷ loops))) (Good (length loops))
      (statement body (loop_of parts.While (label_text label) ∷ loops) locals slots s) _
      (statement_good body (loop_of parts.While (label_text label) ∷ loops) locals slots s)
      (λ a h. subst (λ (n : ℕ). JumpsInLoops n a.tree) (one_more (loop_of parts.While (label_text label)) loops)
      h)))
  statement_good body loops locals slots (Trees.For label o c us s) =
      let inner : Loops = loop_of parts.Turn (label_text label) ∷ loop_of parts.For (label_text label) ∷ loops in
      let n : ℕ = length loops in
      fresh_gives (Good n) loops label _ (
      bind (Kept n) (Good n) (opening body locals slots o) _ (opening_kept n body locals slots o) (λ front h.
      after (Good n) (condition body.known front.locals c) _ (λ e.
      bind (Each (JumpsInLoops (n + 1))) (Good n) (simples body.known front.locals us) _
      (simples_good (n + 1) body.known front.locals us) (λ us l.
      bind (Good (length inner)) (Good n) (statement body inner front.locals front.slots s) _
      (statement_good body inner front.locals front.slots s) (λ a k.
      looped_good n front.statements e a.tree us h (subst (λ (m : ℕ). JumpsInLoops m a.tree) (omega arith) k) l)))))
  statement_good body loops locals slots (Trees.Break label span) =
      bind (λ w. w.0 < length loops) (Good (length loops)) (jump true loops label span) _
      (jump_low true loops label span) (λ w h. h)
  statement_good body loops locals slots (Trees.Continue label span) =
      bind (λ w. w.0 < length loops) (Good (length loops)) (jump false loops label span) _
      (jump_low false loops label span) (λ w h. continued_low w.1 w.0 (length loops) h)
  statement_good body loops locals slots (Trees.Return value span) =
      bind (JumpsInLoops (length loops)) (Good (length loops)) (returned body.known locals body.result value span) _
      (returned_good (length loops) body.known locals body.result value span) (λ s h. h)
  statement_good body loops locals slots (Trees.Try b f) =
      bind (Good (length loops)) (Good (length loops)) (with_ok (items body loops (opened locals slots) b) closed) _
      (bind (Kept (length loops)) (Good (length loops)) (items body loops (opened locals slots) b) closed
      (items_kept body loops (opened locals slots) b tt) (closed_good (length loops))) (λ b h.
      bind (Good (length loops)) (Good (length loops)) (with_ok (items body loops (opened locals b.slots) f) closed) _
      (bind (Kept (length loops)) (Good (length loops)) (items body loops (opened locals b.slots) f) closed
      (items_kept body loops (opened locals b.slots) f tt) (closed_good (length loops))) (λ f k. (h, k)))
  statement_good body loops locals slots (Trees.Synchronized e b) =
      after (Good (length loops)) (monitor body.known locals e) _ (λ m.
      let inner : Slots = with_unnamed slots (types.Class m.class) in
      bind (Good (length loops)) (Good (length loops)) (with_ok (items body loops (opened locals inner) b) closed) _
      (bind (Kept (length loops)) (Good (length loops)) (items body loops (opened locals inner) b) closed
      (items_kept body loops (opened locals inner) b tt) (closed_good (length loops)))
      (λ b h. (tt, (tt, ((h, tt), tt)))))
  statement_good body loops locals slots (Trees.Perform s) =
      bind (JumpsInLoops (length loops)) (Good (length loops)) (simple body.known locals s) _
      (simple_good (length loops) body.known locals s) (λ s h. h)

  -- the items of a block jump to these loops
  pub items_kept : (body : Body) (loops : Loops) (scope : Scope) (is : Items) →
      Kept (length loops) scope →
      Gives (Kept (length loops)) (items body loops scope is)
  items_kept body loops scope Trees.NoItem h = h
  items_kept body loops scope (Trees.Do s rest) h =
      bind (Good (length loops)) (Kept (length loops)) (statement body loops scope.locals scope.slots s) _
      (statement_good body loops scope.locals scope.slots s) (λ a k.
      items_kept body loops (followed scope a) rest (each_push (JumpsInLoops (length loops)) scope.statements a.tree h
      k))
  items_kept body loops scope (Trees.Declare d rest) h =
      bind (Kept (length loops)) (Kept (length loops)) (declaration body scope d) _
      (declaration_kept (length loops) body scope d h) (λ next k.
      items_kept body loops next rest k)
