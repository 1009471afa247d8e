-- What elaborated statements leave alone: each slot that no local in scope has. So each monitor's object stays in its
-- slot.
use Rattle.std.proofs.Common.{◌≡◌, ◌≢◌, ℕ, ◌+◌, ◌<◌, ◌≤◌, arith, true, false, Ok, Err, List, [], ◌∷◌, ◌++◌, length}
use Rattle.std.proofs.Common.{Option, Some, None}
use Rattle.ls_lexer.specs.declared.token.Span.{Span}
use Rattle.ls_events.specs.declared.value.ValueType.{ValueType}
use Rattle.ls_events.specs.declared.value.ValueType.TheVariants as types
use Rattle.ls_checked.specs.declared.tree.Called.TheVariants.{FreeMonitor}
use Rattle.ls_checked.specs.CheckedTree as checked
use Rattle.ls_types_elaboration.specs.declared.loops.LoopPart.{LoopPart}
use Rattle.ls_types_elaboration.specs.declared.loops.LoopPart.TheVariants as parts
use Rattle.ls_types_elaboration.specs.Trees
use Rattle.ls_types_elaboration.specs.Trees.{Text, Expression, Declarator, Declaration, Simple, Opening, Statement}
use Rattle.ls_types_elaboration.specs.Trees.{Items, span_of}
use Rattle.ls_types_elaboration.specs.Elaborated.{Elaborated, with_ok}
use Rattle.ls_types_elaboration.specs.Known.{Known, Local, type_of}
use Rattle.ls_types_elaboration.specs.TypedExpressions.{typed, fitting}
use Rattle.ls_types_elaboration.specs.Monitors.{synchronized}
use Rattle.ls_types_elaboration.specs.Scopes.{Body, Slots, with_unnamed, Scope, start_of, with_variable, with_statement}
use Rattle.ls_types_elaboration.specs.Scopes.{initialised, declared, declaration}
use Rattle.ls_types_elaboration.specs.TypedStatements.{Loops, loop_of, WithSlots, with_slots, jump, continued}
use Rattle.ls_types_elaboration.specs.TypedStatements.{label_text, variable, Variable, Place, AtSlot, AtField, AtItem}
use Rattle.ls_types_elaboration.specs.TypedStatements.{assigned, assignment, Counter, OfSlot, OfField, counter, added}
use Rattle.ls_types_elaboration.specs.TypedStatements.{addition, step, simple, one_simple, simples, returned, sequence}
use Rattle.ls_types_elaboration.specs.TypedStatements.{opened, opening, condition, for_loop, closed, followed, monitor}
use Rattle.ls_types_elaboration.specs.TypedStatements.{statement, items, unwrapped}
use Rattle.ls_types_laws.proofs.Results.{Gives, bind, after, each_keeps}
use Rattle.ls_types_laws.proofs.Lists.{Each, each_push, each_weaker, length_push}
use Rattle.ls_types_laws.proofs.Jumping.{fresh_gives}
use Rattle.ls_types_laws.proofs.Loops.{may_gives}
use Rattle.ls_soundness.specs.Meaning.{Leaves, AllLeave}
use Rattle.ls_soundness.specs.Kept.{Everywhere, EverywhereIn}
use Rattle.ls_soundness.proofs.Named.{Others, PlaceIsNamed, CounterIsNamed, Named, typed_named, variable_named}
use Rattle.ls_soundness.proofs.Named.{counter_named}

-- a `try` that frees a monitor: its object's slot is below this number, and the block leaves it alone
abbrev pub Guarded : ℕ → checked.Statement → Type 0
Guarded count (checked.Try b (checked.Evaluate (checked.Call (checked.Slot n) (FreeMonitor c) checked.End))) =
    (n < count) × Leaves n b
Guarded count _ = Unit {0}

-- each `try` in a statement that frees a monitor has its slot, and its block leaves that slot alone
abbrev pub Guards : ℕ → checked.Statement → Type 0
Guards count s = Everywhere (Guarded count) s

-- statements in order

-- if each of some statements leaves a slot alone, they do so in order
pub leave_in_order : (n : ℕ) (ss : List checked.Statement) → Each (Leaves n) ss → AllLeave n (sequence ss)
leave_in_order n [] h = tt
leave_in_order n (s ∷ ss) h = (h.0, leave_in_order n ss h.1)

-- if each of some statements guards its slots, they do so in order
pub guard_in_order : (count : ℕ) (ss : List checked.Statement) → Each (Guards count) ss →
    EverywhereIn (Guarded count) (sequence ss)
guard_in_order count [] h = tt
guard_in_order count (s ∷ ss) h = (h.0, guard_in_order count ss h.1)

-- a monitor that is held for a statement
pub monitor_guards : (count slot class : ℕ) (target : checked.Expression) (s : checked.Statement) → slot < count →
    Leaves slot s → Guards count s →
    Guards count (synchronized slot class target s)
monitor_guards count slot class target s below leaves guards = (tt, (tt, (tt, (((below, leaves), guards, tt), tt))))

-- a statement that makes no scope: it leaves what no local is in, and holds no monitor
abbrev Still : List Local → checked.Statement → Type 0
Still locals s = ((n : ℕ) → Others n locals → Leaves n s) × ((count : ℕ) → Guards count s)

assigned_still : (locals : List Local) (to : Place) (v : checked.Expression) → PlaceIsNamed locals to →
    Still locals (assigned to v)
assigned_still locals (AtSlot m) v h = (h, λ count. tt)
assigned_still locals (AtField e f) v h = (λ n o. tt, λ count. tt)
assigned_still locals (AtItem a i) v h = (λ n o. tt, λ count. tt)

added_still : (locals : List Local) (to : Counter) (v : checked.Expression) → CounterIsNamed locals to →
    Still locals (added to v)
added_still locals (OfSlot m) v h = (h, λ count. tt)
added_still locals (OfField e f) v h = (λ n o. tt, λ count. tt)

assignment_still : (known : Known) (locals : List Local) (target value : Expression) →
    Gives (Still locals) (assignment known locals target value)
assignment_still known locals target value =
    bind (Named known locals) (Still locals) (typed known locals (unwrapped target)) _
    (typed_named known locals (unwrapped target)) (λ x h.
    bind (λ (to : Variable). PlaceIsNamed locals to.place) (Still locals)
    (variable (span_of target) x.expression x.static) _
    (variable_named locals (span_of target) x.expression x.static h) (λ to k.
    after (Still locals) (fitting known locals to.type value) _ (λ v. assigned_still locals to.place v k)))

addition_still : (known : Known) (locals : List Local) (target : Expression) (value : Elaborated checked.Expression) →
    Gives (Still locals) (addition known locals target value)
addition_still known locals target value =
    bind (Named known locals) (Still locals) (typed known locals (unwrapped target)) _
    (typed_named known locals (unwrapped target)) (λ x h.
    bind (CounterIsNamed locals) (Still locals) (counter (span_of target) x.expression x.static) _
    (counter_named locals (span_of target) x.expression x.static h) (λ to k.
    after (Still locals) value _ (λ v. added_still locals to v k)))

simple_still : (known : Known) (locals : List Local) (s : Simple) → Gives (Still locals) (simple known locals s)
simple_still known locals (Trees.Assign target value) = assignment_still known locals target value
simple_still known locals (Trees.Add target value) =
    addition_still known locals target (fitting known locals types.Int value)
simple_still known locals (Trees.Count up before target) = addition_still known locals target (Ok (step up))
simple_still known locals (Trees.Evaluate e) =
    after (Still locals) (typed known locals e) _ (λ x. (λ n o. tt, λ count. tt))

simples_still : (known : Known) (locals : List Local) (ss : List Simple) →
    Gives (Each (Still locals)) (simples known locals ss)
simples_still known locals ss =
    each_keeps (Each (Still locals)) (one_simple known locals) [] ss tt (λ front s h.
    bind (Still locals) (Each (Still locals)) (simple known locals s) _ (simple_still known locals s)
    (λ t k. each_push (Still locals) front t h k))

returned_still : (known : Known) (locals : List Local) (r : Option ValueType) (value : Option Expression)
    (span : Span) → Gives (Still locals) (returned known locals r value span)
returned_still known locals None None span = (λ n o. tt, λ count. tt)
returned_still known locals (Some t) None span = tt
returned_still known locals None (Some e) span = tt
returned_still known locals (Some t) (Some e) span =
    after (Still locals) (fitting known locals t e) _ (λ v. (λ n o. tt, λ count. tt))

continued_still : (locals : List Local) (p : LoopPart) (n : ℕ) → Still locals (continued p n)
continued_still locals parts.Turn n = (λ n o. tt, λ count. tt)
continued_still locals parts.While n = (λ n o. tt, λ count. tt)
continued_still locals parts.For n = (λ n o. tt, λ count. tt)

all_leave : (n : ℕ) (locals : List Local) (ss : List checked.Statement) → Each (Still locals) ss → Others n locals →
    Each (Leaves n) ss
all_leave n locals ss h o = each_weaker (Still locals) (Leaves n) ss h (λ s k. k.0 n o)

all_guard : (count : ℕ) (locals : List Local) (ss : List checked.Statement) → Each (Still locals) ss →
    Each (Guards count) ss
all_guard count locals ss h = each_weaker (Still locals) (Guards count) ss h (λ s k. k.1 count)

-- a `for`
looped_leaves : (n : ℕ) (front : List checked.Statement) (c : checked.Expression) (s : checked.Statement)
    (us : List checked.Statement) →
    Each (Leaves n) front → Leaves n s → Each (Leaves n) us → Leaves n (for_loop front c s us)
looped_leaves n front c s us h k l =
    leave_in_order n _ (each_push (Leaves n) front _ h ((k, (tt, tt)), (leave_in_order n us l, tt)))

looped_guards : (count : ℕ) (front : List checked.Statement) (c : checked.Expression) (s : checked.Statement)
    (us : List checked.Statement) →
    Each (Guards count) front → Guards count s → Each (Guards count) us → Guards count (for_loop front c s us)
looped_guards count front c s us h k l = (
  tt,
  guard_in_order count _ (each_push (Guards count) front _ h
      (tt, (tt, ((tt, (tt, (k, (tt, tt)))), ((tt, guard_in_order count us l), tt))))),
)

-- the locals in scope are in slots that there are so far
abbrev pub Within : ℕ → List Local → Type 0
Within bound locals = Each (λ (l : Local). l.slot < bound) locals

-- locals that are within some slots are within more
pub within_more : (low high : ℕ) (locals : List Local) → low ≤ high → Within low locals → Within high locals
within_more low high locals more h =
    each_weaker (λ (l : Local). l.slot < low) (λ (l : Local). l.slot < high) locals h (λ l k. omega (arith, k, more))

-- so a further slot is another than theirs
pub others_of_within : (n : ℕ) (locals : List Local) → Within n locals → Others n locals
others_of_within n locals h =
    each_weaker (λ (l : Local). l.slot < n) (λ (l : Local). l.slot ≢ n) locals h (λ l k e. absurd (omega (arith, k, e)))

-- a slot that there is, which no local is in
abbrev pub Hidden : ℕ → List Local → ℕ → Type 0
Hidden bound locals n = (n < bound) × Others n locals

-- what a statement leaves, from this many slots and these locals in scope on
pub record Good (bound : ℕ) (locals : List Local) (out : WithSlots checked.Statement) : Type 0 where
  pub more : bound ≤ length out.slots.types
  pub leaves : (n : ℕ) → Hidden bound locals n → Leaves n out.tree
  pub guards : (count : ℕ) → length out.slots.types ≤ count → Guards count out.tree

-- and the statements of a block so far
pub record Kept (bound : ℕ) (locals : List Local) (scope : Scope) : Type 0 where
  pub more : bound ≤ length scope.slots.types
  pub within : Within (length scope.slots.types) scope.locals
  pub others : (n : ℕ) → Hidden bound locals n → Others n scope.locals
  pub leaves : (n : ℕ) → Hidden bound locals n → Each (Leaves n) scope.statements
  pub guards : (count : ℕ) → length scope.slots.types ≤ count → Each (Guards count) scope.statements

at_least : (n : ℕ) → n ≤ n
at_least n = omega arith

still_good : (locals : List Local) (slots : Slots) (s : checked.Statement) → Still locals s →
    Good (length slots.types) locals (record { tree = s; slots = slots })
still_good locals slots s h = record {
  more = at_least (length slots.types);
  leaves = λ n d. h.0 n d.1;
  guards = λ count g. h.1 count;
}

opened_kept : (locals : List Local) (slots : Slots) → Within (length slots.types) locals →
    Kept (length slots.types) locals (opened locals slots)
opened_kept locals slots h =
    record {
      more = at_least (length slots.types);
      within = h;
      others = λ n d. d.1;
      leaves = λ n d. tt;
      guards = λ count g. tt;
    }

closed_good : (bound : ℕ) (locals : List Local) (scope : Scope) → Kept bound locals scope →
    Gives (Good bound locals) (closed scope)
closed_good bound locals scope h = record {
  more = h.more;
  leaves = λ n d. leave_in_order n scope.statements (h.leaves n d);
  guards = λ count g. (tt, guard_in_order count scope.statements (h.guards count g));
}

followed_kept : (bound : ℕ) (locals : List Local) (scope : Scope) (s : WithSlots checked.Statement) →
    Kept bound locals scope → Good (length scope.slots.types) scope.locals s →
    Kept bound locals (followed scope s)
followed_kept bound locals scope s h k = record {
  more = omega (arith, h.more, k.more);
  within = within_more (length scope.slots.types) (length s.slots.types) scope.locals k.more h.within;
  others = h.others;
  leaves = λ n d.
      each_push (Leaves n) scope.statements s.tree (h.leaves n d)
      (k.leaves n (omega (arith, d.0, h.more), h.others n d));
  guards = λ count g.
      each_push (Guards count) scope.statements s.tree (h.guards count (omega (arith, g, k.more))) (k.guards count g);
}

-- declarations

set_kept : (bound : ℕ) (locals : List Local) (scope : Scope) (m : ℕ) (v : checked.Expression) → bound ≤ m →
    Kept bound locals scope →
    Kept bound locals (with_statement scope (checked.SetSlot m v))
set_kept bound locals scope m v below h = record {
  more = h.more;
  within = h.within;
  others = h.others;
  leaves = λ n d.
      each_push (Leaves n) scope.statements (checked.SetSlot m v) (h.leaves n d)
      (λ e. absurd (omega (arith, d.0, below, e)));
  guards = λ count g. each_push (Guards count) scope.statements (checked.SetSlot m v) (h.guards count g) tt;
}

-- a new variable is within the slots of its scope
pub variable_within : (scope : Scope) (name : Text) (t : ValueType) → Within (length scope.slots.types) scope.locals →
    Within (length (with_variable scope name t).slots.types) (with_variable scope name t).locals
variable_within scope name t h =
    let many : length (scope.slots.types ++ t ∷ []) ≡ length scope.slots.types + 1 = length_push scope.slots.types t in
    each_push (λ (l : Local). l.slot < length (scope.slots.types ++ t ∷ [])) scope.locals
    (record { name = name; type = t; slot = length scope.slots.types })
    (within_more (length scope.slots.types) (length (scope.slots.types ++ t ∷ [])) scope.locals
    (omega (arith, many)) h) (omega (arith, many))

variable_kept : (bound : ℕ) (locals : List Local) (scope : Scope) (name : Text) (t : ValueType) →
    Kept bound locals scope → Kept bound locals (with_variable scope name t)
variable_kept bound locals scope name t h =
    let many : length (scope.slots.types ++ t ∷ []) ≡ length scope.slots.types + 1 =
    length_push scope.slots.types t in record {
      more = omega (arith, h.more, many);
      within = variable_within scope name t h.within;
      others = λ n d.
          each_push (λ (l : Local). l.slot ≢ n) scope.locals
          (record { name = name; type = t; slot = length scope.slots.types }) (h.others n d)
          (λ e. absurd (omega (arith, d.0, h.more, e)));
      leaves = h.leaves;
      guards = λ count g. h.guards count (omega (arith, g, many));
    }

initialised_kept : (bound : ℕ) (locals : List Local) (known : Known) (t : ValueType) (slot : ℕ) (scope : Scope)
    (o : Option Expression) → bound ≤ slot →
    Kept bound locals scope → Gives (Kept bound locals) (initialised known t slot scope o)
initialised_kept bound locals known t slot scope None below h = h
initialised_kept bound locals known t slot scope (Some e) below h =
    after (Kept bound locals) (fitting known scope.locals t e) _ (λ v. set_kept bound locals scope slot v below h)

declared_kept : (bound : ℕ) (locals : List Local) (body : Body) (t : ValueType) (scope : Scope) (d : Declarator) →
    Kept bound locals scope →
    Gives (Kept bound locals) (declared body t scope d)
declared_kept bound locals body t scope d h =
    let slot : ℕ = length scope.slots.types in
    let start : checked.Expression = checked.Literal (start_of t) in
    let begun : Scope = with_variable scope d.name.text t in
    may_gives (Kept bound locals) body.span scope d.name _
    (initialised_kept bound locals body.known t slot (with_statement begun (checked.SetSlot slot start)) d.value h.more
    (set_kept bound locals begun slot start h.more (variable_kept bound locals scope d.name.text t h)))

declaration_kept : (bound : ℕ) (locals : List Local) (body : Body) (scope : Scope) (d : Declaration) →
    Kept bound locals scope →
    Gives (Kept bound locals) (declaration body scope d)
declaration_kept bound locals body scope d h =
    after (Kept bound locals) (type_of body.known.names d.type_name) _ (λ t.
    each_keeps (Kept bound locals) (declared body t) scope (d.first ∷ d.more) h
    (λ s a k. declared_kept bound locals body t s a k))

opening_kept : (body : Body) (locals : List Local) (slots : Slots) (o : Opening) → Within (length slots.types) locals →
    Gives (Kept (length slots.types) locals) (opening body locals slots o)
opening_kept body locals slots (Trees.Declares d) h =
    declaration_kept (length slots.types) locals body (opened locals slots) d (opened_kept locals slots h)
opening_kept body locals slots (Trees.Performs ss) h =
    bind (Each (Still locals)) (Kept (length slots.types) locals) (simples body.known locals ss) _
    (simples_still body.known locals ss) (λ ss k. record {
      more = at_least (length slots.types);
      within = h;
      others = λ n d. d.1;
      leaves = λ n d. all_leave n locals ss k d.1;
      guards = λ count g. all_guard count locals ss k;
    })

-- a block, and both blocks of a `try`
block_good : (locals : List Local) (slots : Slots) (x : Elaborated Scope) → Gives (Kept (length slots.types) locals) x →
    Gives (Good (length slots.types) locals) (with_ok x closed)
block_good locals slots x h =
    bind (Kept (length slots.types) locals) (Good (length slots.types) locals) x closed h
    (closed_good (length slots.types) locals)

try_good : (bound : ℕ) (locals : List Local) (b : WithSlots checked.Statement) (x : Elaborated Scope) →
    Good bound locals b → Gives (Kept (length b.slots.types) locals) x →
    Gives (Good bound locals) (with_ok (with_ok x closed) (λ f. with_slots (checked.Try b.tree f.tree) f.slots))
try_good bound locals b (Ok scope) h k = record {
  more = omega (arith, h.more, k.more);
  leaves = λ n d. (h.leaves n d, leave_in_order n scope.statements (k.leaves n (omega (arith, d.0, h.more), d.1)));
  guards = λ count g. (
    tt,
    h.guards count (omega (arith, g, k.more)),
    (tt, guard_in_order count scope.statements (k.guards count g)),
  );
}
try_good bound locals b (Err e) h k = tt

mutual
  pub statement_good : (body : Body) (loops : Loops) (locals : List Local) (slots : Slots) →
      Within (length slots.types) locals → (s : Statement) →
      Gives (Good (length slots.types) locals) (statement body loops locals slots s)
  statement_good body loops locals slots w (Trees.Block is) =
      block_good locals slots (items body loops (opened locals slots) is)
      (items_kept (length slots.types) locals body loops (opened locals slots) (opened_kept locals slots w) is)
  statement_good body loops locals slots w Trees.Empty =
      still_good locals slots (checked.Block checked.Done) (λ n o. tt, λ count. (tt, tt))
  statement_good body loops locals slots w (Trees.If c s) =
      let Q : WithSlots checked.Statement → Type 0 = Good (length slots.types) locals in
      after Q (fitting body.known locals types.Boolean c) _ (λ e.
      bind Q Q (statement body loops locals slots s) _ (statement_good body loops locals slots w s) (λ a h. record {
        more = h.more;
        leaves = λ n d. (h.leaves n d, tt);
        guards = λ count g. (tt, h.guards count g, (tt, tt));
      }))
  statement_good body loops locals slots w (Trees.IfElse c s t) =
      let Q : WithSlots checked.Statement → Type 0 = Good (length slots.types) locals in
      after Q (fitting body.known locals types.Boolean c) _ (λ e.
      bind Q Q (statement body loops locals slots s) _ (statement_good body loops locals slots w s) (λ a h.
      bind (Good (length a.slots.types) locals) Q (statement body loops locals a.slots t) _
      (statement_good body loops locals a.slots
      (within_more (length slots.types) (length a.slots.types) locals h.more w) t) (λ b k. record {
        more = omega (arith, h.more, k.more);
        leaves = λ n d. (h.leaves n d, k.leaves n (omega (arith, d.0, h.more), d.1));
        guards = λ count g. (tt, h.guards count (omega (arith, g, k.more)), k.guards count g);
      })))
  statement_good body loops locals slots w (Trees.While label c s) =
      let Q : WithSlots checked.Statement → Type 0 = Good (length slots.types) locals in
      fresh_gives Q loops label _ (
      after Q (fitting body.known locals types.Boolean c) _ (λ e.
      bind Q Q (statement body (loop_of parts.While (label_text label) ∷ loops) locals slots s) _
      (statement_good body (loop_of parts.While (label_text label) ∷ loops) locals slots w s) (λ a h. record {
        more = h.more;
        leaves = h.leaves;
        guards = λ count g. (tt, h.guards count g);
      })))
  statement_good body loops locals slots w (Trees.For label o c us s) =
      let inner : Loops = loop_of parts.Turn (label_text label) ∷ loop_of parts.For (label_text label) ∷ loops in
      let Q : WithSlots checked.Statement → Type 0 = Good (length slots.types) locals in
      fresh_gives Q loops label _ (
      bind (Kept (length slots.types) locals) Q (opening body locals slots o) _ (opening_kept body locals slots o w)
      (λ front h.
      after Q (condition body.known front.locals c) _ (λ e.
      bind (Each (Still front.locals)) Q (simples body.known front.locals us) _
      (simples_still body.known front.locals us) (λ us l.
      bind (Good (length front.slots.types) front.locals) Q (statement body inner front.locals front.slots s) _
      (statement_good body inner front.locals front.slots h.within s) (λ a k. record {
        more = omega (arith, h.more, k.more);
        leaves = λ n d.
            looped_leaves n front.statements e a.tree us (h.leaves n d)
            (k.leaves n (omega (arith, d.0, h.more), h.others n d)) (all_leave n front.locals us l (h.others n d));
        guards = λ count g.
            looped_guards count front.statements e a.tree us
            (h.guards count (omega (arith, g, k.more))) (k.guards count g) (all_guard count front.locals us l);
      })))))
  statement_good body loops locals slots w (Trees.Break label span) =
      after (Good (length slots.types) locals) (jump true loops label span) _
      (λ z. still_good locals slots (checked.Break z.0) (λ n o. tt, λ count. tt))
  statement_good body loops locals slots w (Trees.Continue label span) =
      after (Good (length slots.types) locals) (jump false loops label span) _
      (λ z. still_good locals slots (continued z.1 z.0) (continued_still locals z.1 z.0))
  statement_good body loops locals slots w (Trees.Return value span) =
      bind (Still locals) (Good (length slots.types) locals) (returned body.known locals body.result value span) _
      (returned_still body.known locals body.result value span) (λ s h. still_good locals slots s h)
  statement_good body loops locals slots w (Trees.Try b f) =
      let Q : WithSlots checked.Statement → Type 0 = Good (length slots.types) locals in
      bind Q Q (with_ok (items body loops (opened locals slots) b) closed) _
      (block_good locals slots (items body loops (opened locals slots) b)
      (items_kept (length slots.types) locals body loops (opened locals slots) (opened_kept locals slots w) b)) (λ b h.
      try_good (length slots.types) locals b (items body loops (opened locals b.slots) f) h
      (items_kept (length b.slots.types) locals body loops (opened locals b.slots)
      (opened_kept locals b.slots (within_more (length slots.types) (length b.slots.types) locals h.more w)) f))
  statement_good body loops locals slots w (Trees.Synchronized e b) =
      after (Good (length slots.types) locals) (monitor body.known locals e) _ (λ m.
      let inner : Slots = with_unnamed slots (types.Class m.class) in
      let many : length inner.types ≡ length slots.types + 1 = length_push slots.types (types.Class m.class) in
      bind (Good (length inner.types) locals) (Good (length slots.types) locals)
      (with_ok (items body loops (opened locals inner) b) closed) _
      (block_good locals inner (items body loops (opened locals inner) b)
      (items_kept (length inner.types) locals body loops (opened locals inner)
      (opened_kept locals inner
      (within_more (length slots.types) (length inner.types) locals (omega (arith, many)) w)) b)) (λ b h. record {
        more = omega (arith, many, h.more);
        leaves = λ n d.
            (λ e. absurd (omega (arith, d.0, e)), (tt, ((h.leaves n (omega (arith, d.0, many), d.1), tt), tt)));
        guards = λ count g.
            monitor_guards count (length slots.types) m.class m.object b.tree (omega (arith, many, h.more, g))
            (h.leaves (length slots.types) (omega (arith, many), others_of_within (length slots.types) locals w))
            (h.guards count g);
      }))
  statement_good body loops locals slots w (Trees.Perform s) =
      bind (Still locals) (Good (length slots.types) locals) (simple body.known locals s) _
      (simple_still body.known locals s) (λ s h. still_good locals slots s h)

  -- each item of a block leaves the slots alone that it should, and guards the slots of its monitors
  pub items_kept : (bound : ℕ) (outer : List Local) (body : Body) (loops : Loops) (scope : Scope) →
      Kept bound outer scope → (is : Items) →
      Gives (Kept bound outer) (items body loops scope is)
  items_kept bound outer body loops scope h Trees.NoItem = h
  items_kept bound outer body loops scope h (Trees.Do s rest) =
      bind (Good (length scope.slots.types) scope.locals) (Kept bound outer)
      (statement body loops scope.locals scope.slots s) _
      (statement_good body loops scope.locals scope.slots h.within s) (λ a k.
      items_kept bound outer body loops (followed scope a) (followed_kept bound outer scope a h k) rest)
  items_kept bound outer body loops scope h (Trees.Declare d rest) =
      bind (Kept bound outer) (Kept bound outer) (declaration body scope d) _
      (declaration_kept bound outer body scope d h) (λ next k.
      items_kept bound outer body loops next k rest)
