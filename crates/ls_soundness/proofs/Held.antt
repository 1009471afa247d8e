-- Elaborated files hold the monitors of their `synchronized` statements and methods.
use Rattle.std.proofs.Common.{◌≡◌, ℕ, zero, suc, ◌+◌, ◌<◌, ◌≤◌, refl, sym, ◌∙◌, subst, ap, arith, Bool, true, false}
use Rattle.std.proofs.Common.{◌&&◌, Ok, Err, List, [], ◌∷◌, ◌++◌, length, Option, Some, None, is_some, if◌then◌else◌}
use Rattle.std.proofs.Common.{All}
use Rattle.ls_events.specs.declared.value.ValueType.{ValueType}
use Rattle.ls_events.specs.declared.value.ValueType.TheVariants as types
use Rattle.ls_checked.specs.CheckedTree as checked
use Rattle.ls_checked.specs.CheckedTree.{Statement, Block, SetSlot, SetField, AddField, SetItem, Evaluate, If, While}
use Rattle.ls_checked.specs.CheckedTree.{Break, Continue, ReturnNothing, ReturnValue, Try, Statements, Done, Then}
use Rattle.ls_meaning.specs.Statements.{execute}
use Rattle.ls_types_judgement.specs.Completion.{can_complete}
use Rattle.ls_types_elaboration.specs.declared.known.FoundField.{FoundField}
use Rattle.ls_types_elaboration.specs.declared.rule.Rule.TheVariants as rules
use Rattle.ls_types_elaboration.specs.Trees as parsed
use Rattle.ls_types_elaboration.specs.Trees.{Text, Name, Parameter, Items, ClassTree}
use Rattle.ls_types_elaboration.specs.Elaborated.{Elaborated, with_ok, each}
use Rattle.ls_types_elaboration.specs.Known.{Known, ClassSign, Local, field_of, type_of, result_of}
use Rattle.ls_types_elaboration.specs.TypedExpressions.{fitting}
use Rattle.ls_types_elaboration.specs.Scopes.{Body, Slots, with_unnamed, Scope}
use Rattle.ls_types_elaboration.specs.Monitors.{synchronized}
use Rattle.ls_types_elaboration.specs.TypedStatements.{Loops, WithSlots, with_slots, sequence, opened, closed, Monitor}
use Rattle.ls_types_elaboration.specs.TypedStatements.{monitor, statement, items}
use Rattle.ls_types_elaboration.specs.TypedMethods.{parameter, field_set, declarator_set, member_set, initialisers}
use Rattle.ls_types_elaboration.specs.TypedMethods.{with_unnamed_slot, all_items, method, written_method}
use Rattle.ls_types_elaboration.specs.TypedMethods.{written_constructor, one_method, has_constructor, class_methods}
use Rattle.ls_types_elaboration.specs.Signs.{class_names, class_signs}
use Rattle.ls_types_elaboration.specs.Elaboration.{Bodies, one_body, file_methods, ElaboratedFile, elaborated}
use Rattle.ls_types_laws.proofs.Results.{Gives, bind, after, gives_of, weaker, unless, each_keeps}
use Rattle.ls_types_laws.proofs.Lists.{Each, each_push, each_weaker, length_push}
use Rattle.ls_types_laws.proofs.Loops.{may_gives}
use Rattle.ls_soundness.specs.Meaning.{Leaves}
use Rattle.ls_soundness.specs.Kept.{KeepsTheSlot, MethodKeepsTheSlot, HoldsItsMonitor, Everywhere, EverywhereIn}
use Rattle.ls_soundness.specs.Kept.{HoldsMonitors, FileHoldsMonitors}
use Rattle.ls_soundness.proofs.Kept.{holds_the_monitor}
use Rattle.ls_soundness.proofs.Leaving.{Guarded, Guards, leave_in_order, guard_in_order, monitor_guards, Within}
use Rattle.ls_soundness.proofs.Leaving.{within_more, others_of_within, Kept, variable_within, items_kept}

-- what holds of each element, by recursion and by number

each_of : {A : Type 0} (P : A → Type 0) (xs : List A) → All P xs → Each P xs
each_of P [] h = tt
each_of P (x ∷ xs) h = (h 0 x (omega arith), each_of P xs (λ k d l. h (suc k) d (omega (arith, l))))

all_of : {A : Type 0} (P : A → Type 0) (xs : List A) → Each P xs → All P xs
all_of P [] h k d l = absurd (omega (arith, l))
all_of P (x ∷ xs) h zero d l = h.0
all_of P (x ∷ xs) h (suc k) d l = all_of P xs h.1 k d (omega (arith, l))

-- one statement

abbrev Keeps : Body → List Local → Slots → parsed.Expression → WithSlots Statement → Type 0
Keeps body locals slots target out =
    (m : Monitor) × (inner : Statement)
    × (monitor body.known locals target ≡ Ok m)
    × (out.tree ≡ synchronized (length slots.types) m.class m.object inner)
    × Leaves (length slots.types) inner

kept_block : (body : Body) (locals : List Local) (slots : Slots) (target : parsed.Expression) (m : Monitor) →
    monitor body.known locals target ≡ Ok m → Within (length slots.types) locals →
    (x : Elaborated Scope) → Gives (Kept (length (with_unnamed slots (types.Class m.class)).types) locals) x →
    Gives (Keeps body locals slots target) (with_ok (with_ok x closed)
    (λ b. with_slots (synchronized (length slots.types) m.class m.object b.tree) b.slots))
kept_block body locals slots target m e w (Ok scope) h =
    let many : length (slots.types ++ types.Class m.class ∷ []) ≡ length slots.types + 1 = length_push slots.types
    (types.Class m.class) in (
      m,
      Block (sequence scope.statements),
      e,
      refl,
      leave_in_order (length slots.types) scope.statements
          (h.leaves (length slots.types) (omega (arith, many), others_of_within (length slots.types) locals w)),
    )
kept_block body locals slots target m e w (Err b) h = tt

kept_synchronized : (body : Body) (loops : Loops) (locals : List Local) (slots : Slots) (target : parsed.Expression)
    (block : Items) → Within (length slots.types) locals →
    (x : Elaborated Monitor) → monitor body.known locals target ≡ x →
    Gives (Keeps body locals slots target) (with_ok x (λ m.
    with_ok (with_ok (items body loops (opened locals (with_unnamed slots (types.Class m.class))) block) closed) (λ b.
    with_slots (synchronized (length slots.types) m.class m.object b.tree) b.slots)))
kept_synchronized body loops locals slots target block w (Ok m) e =
    let inner : Slots = with_unnamed slots (types.Class m.class) in
    let many : length inner.types ≡ length slots.types + 1 = length_push slots.types (types.Class m.class) in
    kept_block body locals slots target m e w (items body loops (opened locals inner) block)
    (items_kept (length inner.types) locals body loops (opened locals inner) (record {
      more = omega arith;
      within = within_more (length slots.types) (length inner.types) locals (omega (arith, many)) w;
      others = λ n d. d.1;
      leaves = λ n d. tt;
      guards = λ count g. tt;
    }) block)
kept_synchronized body loops locals slots target block w (Err b) e = tt

-- the law of the statement: its block leaves the slot alone
pub keeps_the_slot : KeepsTheSlot
keeps_the_slot body loops locals slots target block out within is =
    gives_of (Keeps body locals slots target) (statement body loops locals slots (parsed.Synchronized target block))
    out is
    (kept_synchronized body loops locals slots target block
    (each_of (λ (l : Local). l.slot < length slots.types) locals within) (monitor body.known locals target) refl)

-- the law of the statement: its course is the standard's
pub holds_its_monitor : HoldsItsMonitor
holds_its_monitor body loops locals slots target block out within is =
    let k = keeps_the_slot body loops locals slots target block out within is in (
      k.0,
      k.1,
      k.2,
      k.3,
      λ classes calls values answers l.
          ap (λ s. execute classes calls s values answers) k.3
          ∙ holds_the_monitor classes calls (length slots.types) k.0.class k.0.object k.1 values answers
          (omega (arith, l)) k.4,
    )

-- the body of a method

-- statements in front of a body, which leave every slot
abbrev Still : Statement → Type 0
Still s = ((n : ℕ) → Leaves n s) × ((count : ℕ) → Guards count s)

record Begun (scope : Scope) : Type 0 where
  within : Within (length scope.slots.types) scope.locals
  front : Each Still scope.statements

abbrev Guarding : Scope → Type 0
Guarding out = (count : ℕ) → length out.slots.types ≤ count → Each (Guards count) out.statements

-- so the statements of the body may come there
begun_kept : (scope : Scope) (bound : ℕ) → length scope.slots.types ≡ bound → Begun scope →
    Kept bound scope.locals scope
begun_kept scope bound e h = record {
  more = omega (arith, e);
  within = h.within;
  others = λ n d. d.1;
  leaves = λ n d. each_weaker Still (Leaves n) scope.statements h.front (λ s k. k.0 n);
  guards = λ count g. each_weaker Still (Guards count) scope.statements h.front (λ s k. k.1 count);
}

unnamed_begun : (scope : Scope) (t : ValueType) → Begun scope → Begun (with_unnamed_slot scope t)
unnamed_begun scope t h = record {
  within = within_more (length scope.slots.types) (length (scope.slots.types ++ t ∷ [])) scope.locals
      (omega (arith, length_push scope.slots.types t)) h.within;
  front = h.front;
}

-- a synchronized method's
abbrev KeepsAll : Body → Scope → Scope → Type 0
KeepsAll body scope out =
    (inner : Statement)
    × (out.statements ≡ synchronized (length scope.slots.types) body.known.own (checked.Slot 0) inner ∷ [])
    × Leaves (length scope.slots.types) inner

synchronized_items : (body : Body) (scope : Scope) → Begun scope → (is : Items) →
    Gives (λ (out : Scope). KeepsAll body scope out × Guarding out) (all_items body true scope is)
synchronized_items body scope h is =
    let t : ValueType = types.Class body.known.own in
    let slot : ℕ = length scope.slots.types in
    let mid : Scope = with_unnamed_slot scope t in
    let many : length mid.slots.types ≡ slot + 1 = length_push scope.slots.types t in
    bind (Kept (length mid.slots.types) scope.locals) (λ (out : Scope). KeepsAll body scope out × Guarding out)
    (items body [] mid is) _
    (items_kept (length mid.slots.types) scope.locals body [] mid
    (begun_kept mid (length mid.slots.types) refl (unnamed_begun scope t h)) is) (λ end k.
    let leaves : Leaves slot (Block (sequence end.statements)) =
    leave_in_order slot end.statements (k.leaves slot
    (omega (arith, many), others_of_within slot scope.locals h.within)) in (
      (Block (sequence end.statements), refl, leaves),
      λ count g. (
        monitor_guards count slot body.known.own (checked.Slot 0) (Block (sequence end.statements))
            (omega (arith, many, k.more, g)) leaves
            (tt, guard_in_order count end.statements (k.guards count g)),
        tt,
      ),
    ))

all_items_guard : (body : Body) (sync : Bool) (scope : Scope) → Begun scope → (is : Items) →
    Gives Guarding (all_items body sync scope is)
all_items_guard body false scope h is =
    weaker (Kept (length scope.slots.types) scope.locals) Guarding (items body [] scope is)
    (items_kept (length scope.slots.types) scope.locals body [] scope
    (begun_kept scope (length scope.slots.types) refl h) is) (λ out k. k.guards)
all_items_guard body true scope h is =
    weaker (λ (out : Scope). KeepsAll body scope out × Guarding out) Guarding (all_items body true scope is)
    (synchronized_items body scope h is) (λ out k. k.1)

-- the law of a synchronized method: its body leaves the slot alone
pub method_keeps_the_slot : MethodKeepsTheSlot
method_keeps_the_slot body scope out block begins within is =
    (gives_of (λ (out : Scope). KeepsAll body scope out × Guarding out) (all_items body true scope block) out is
    (synchronized_items body scope (record {
      within = each_of (λ (l : Local). l.slot < length scope.slots.types) scope.locals within;
      front = subst (λ ss. Each Still ss) (sym begins) tt;
    }) block)).0

-- methods

abbrev IsGuarded : checked.Method → Type 0
IsGuarded m = Guards (length m.slots) m.body

parameter_begun : (body : Body) (scope : Scope) (p : Parameter) → Begun scope → Gives Begun (parameter body scope p)
parameter_begun body scope p h =
    may_gives Begun body.span scope p.name _ (
    after Begun (type_of body.known.names p.type_name) _
    (λ t. record { within = variable_within scope p.name.text t h.within; front = h.front }))

method_guards : (known : Known) (sync : Bool) (r : Option ValueType) (name : Name) (ps : List Parameter)
    (front : List Statement) (block : Items) → Each Still front →
    Gives IsGuarded (method known sync r name ps front block)
method_guards known sync r name ps front block f =
    let body : Body = record { known = known; result = r; span = name.span } in
    let start : Scope = record {
      statements = front;
      locals = [];
      slots = record { types = types.Class known.own ∷ []; named = 1 };
    } in
    bind Begun IsGuarded (each (parameter body) start ps) _
    (each_keeps Begun (parameter body) start ps (record { within = tt; front = f })
    (λ scope p h. parameter_begun body scope p h)) (λ scope h.
    bind Guarding IsGuarded (all_items body sync scope block) _ (all_items_guard body sync scope h block) (λ out k.
    unless IsGuarded (is_some r && can_complete (Block (sequence out.statements))) rules.MissingReturn name.span
    (Ok (record {
      class = known.own;
      parameters = length ps;
      slots = out.slots.types;
      result = r;
      body = Block
          (sequence out.statements);
    })) (λ e.
    (tt, guard_in_order (length out.slots.types) out.statements (k (length out.slots.types) (omega arith))))))

-- field initialisers set fields

field_set_still : (known : Known) (front : List Statement) (o : Option FoundField) (v : Option parsed.Expression) →
    Each Still front → Gives (Each Still) (field_set known front o v)
field_set_still known front None v h = h
field_set_still known front (Some f) None h = h
field_set_still known front (Some f) (Some e) h =
    after (Each Still) (fitting known [] f.value_type e) _ (λ v.
    each_push Still front (SetField (checked.Slot 0) f.number v) h (λ n. tt, λ count. tt))

member_set_still : (known : Known) (front : List Statement) (m : parsed.Member) → Each Still front →
    Gives (Each Still) (member_set known front m)
member_set_still known front (parsed.Fields d) h =
    each_keeps (Each Still) (declarator_set known) front (d.first ∷ d.more) h
    (λ front d h. field_set_still known front (field_of known known.own d.name.text) d.value h)
member_set_still known front (parsed.Method sync r n ps block) h = h
member_set_still known front (parsed.Constructor n ps block) h = h

initialisers_still : (known : Known) (ms : List parsed.Member) → Gives (Each Still) (initialisers known ms)
initialisers_still known ms =
    each_keeps (Each Still) (member_set known) [] ms tt (λ front m h. member_set_still known front m h)

-- the methods of a class, and of a file

one_method_guards : (known : Known) (members : List parsed.Member) (before : List checked.Method)
    (m : parsed.Member) → Each IsGuarded before →
    Gives (Each IsGuarded) (one_method known members before m)
one_method_guards known members before (parsed.Fields d) h = h
one_method_guards known members before (parsed.Method sync r n ps block) h =
    bind IsGuarded (Each IsGuarded) (written_method known sync r n ps block) _
    (after IsGuarded (result_of known.names r) _ (λ z. method_guards known sync z n ps [] block tt))
    (λ m k. each_push IsGuarded before m h k)
one_method_guards known members before (parsed.Constructor n ps block) h =
    bind IsGuarded (Each IsGuarded) (written_constructor known members n ps block) _
    (bind (Each Still) IsGuarded (initialisers known members) _ (initialisers_still known members) (λ front f.
    method_guards known false None n ps front block f)) (λ m k. each_push IsGuarded before m h k)

default_guards : (known : Known) (members : List parsed.Member) (before : List checked.Method) →
    Each IsGuarded before → (b : Bool) →
    Gives (Each IsGuarded) (if b then Ok before
    else with_ok (initialisers known members) (λ front. Ok (before ++ record {
      class = known.own;
      parameters = 0;
      slots = types.Class known.own ∷ [];
      result = None;
      body = Block (sequence front);
    } ∷ [])))
default_guards known members before h true = h
default_guards known members before h false =
    bind (Each Still) (Each IsGuarded) (initialisers known members) _ (initialisers_still known members) (λ front f.
    each_push IsGuarded before (record {
      class = known.own;
      parameters = 0;
      slots = types.Class known.own ∷ [];
      result = None;
      body = Block (sequence front);
    }) h
    (tt, guard_in_order 1 front (each_weaker Still (Guards 1) front f (λ s k. k.1 1))))

class_guards : (known : Known) (before : List checked.Method) (members : List parsed.Member) → Each IsGuarded before →
    Gives (Each IsGuarded) (class_methods known before members)
class_guards known before members h =
    bind (Each IsGuarded) (Each IsGuarded) (each (one_method known members) before members) _
    (each_keeps (Each IsGuarded) (one_method known members) before members h
    (λ ms m k. one_method_guards known members ms m k)) (λ ms k.
    default_guards known members ms k (has_constructor members))

abbrev AllGuarded : Bodies → Type 0
AllGuarded b = Each IsGuarded b.methods

methods_guard : (names : List Text) (signs : List ClassSign) (classes : List ClassTree) →
    Gives AllGuarded (file_methods names signs classes)
methods_guard names signs classes =
    each_keeps AllGuarded (one_body names signs) (record { methods = []; own = 0 }) classes tt (λ b c h.
    bind (Each IsGuarded) AllGuarded (class_methods (record { names = names; classes = signs; own = b.own })
    b.methods c.members) _
    (class_guards (record { names = names; classes = signs; own = b.own }) b.methods c.members h) (λ ms k. k))

file_guards : (file : parsed.File) → Gives (λ (o : ElaboratedFile). Each IsGuarded o.file.methods) (elaborated file)
file_guards file =
    after (λ (o : ElaboratedFile). Each IsGuarded o.file.methods) (class_names file.classes) _ (λ names.
    after (λ (o : ElaboratedFile). Each IsGuarded o.file.methods) (class_signs names file.classes) _ (λ classes.
    bind AllGuarded (λ (o : ElaboratedFile). Each IsGuarded o.file.methods)
    (file_methods names classes.signs file.classes)
    _ (methods_guard names classes.signs file.classes) (λ b h. h)))

-- what is so of all of a statement is so of each statement in it

module _ (P Q : Statement → Type 0) (from : (s : Statement) → Everywhere P s → Q s) where
  mutual
    everywhere : (s : Statement) → Everywhere P s → Everywhere Q s
    everywhere (Block ss) h = (from (Block ss) h, everywhere_in ss h.1)
    everywhere (SetSlot n e) h = from (SetSlot n e) h
    everywhere (SetField e f v) h = from (SetField e f v) h
    everywhere (AddField e f v) h = from (AddField e f v) h
    everywhere (SetItem a i v) h = from (SetItem a i v) h
    everywhere (Evaluate e) h = from (Evaluate e) h
    everywhere (If e a b) h = (from (If e a b) h, everywhere a h.1, everywhere b h.2)
    everywhere (While e s) h = (from (While e s) h, everywhere s h.1)
    everywhere (Break n) h = from (Break n) h
    everywhere (Continue n) h = from (Continue n) h
    everywhere ReturnNothing h = from ReturnNothing h
    everywhere (ReturnValue e) h = from (ReturnValue e) h
    everywhere (Try b f) h = (from (Try b f) h, everywhere b h.1, everywhere f h.2)

    everywhere_in : (ss : Statements) → EverywhereIn P ss → EverywhereIn Q ss
    everywhere_in Done h = tt
    everywhere_in (Then s ss) h = (everywhere s h.0, everywhere_in ss h.1)

guarded_holds : (count : ℕ) (s : Statement) → Guards count s → HoldsMonitors count s
guarded_holds count s h slot class target inner e classes calls values answers l =
    let g : Guards count (synchronized slot class target inner) = subst (Guards count) e h in
    let held : (slot < count) × Leaves slot inner = g.1.1.1.0.0 in
    ap (λ s. execute classes calls s values answers) e
    ∙ holds_the_monitor classes calls slot class target inner values answers (omega (arith, held.0, l)) held.1

-- the law: each monitor statement of an elaborated file has the course of the standard
pub file_holds_monitors : FileHoldsMonitors
file_holds_monitors file out is =
    all_of (λ (m : checked.Method). Everywhere (HoldsMonitors (length m.slots)) m.body) out.file.methods
    (each_weaker IsGuarded (λ (m : checked.Method). Everywhere (HoldsMonitors (length m.slots)) m.body) out.file.methods
    (gives_of (λ (o : ElaboratedFile). Each IsGuarded o.file.methods) (elaborated file) out is (file_guards file))
    (λ m h.
    everywhere (Guarded (length m.slots)) (HoldsMonitors (length m.slots)) (guarded_holds (length m.slots)) m.body h))
