-- Methods, constructors and field initialisers (JLS 8.3.2, 8.4, 8.8, 12.5).
use Rattle.std.specs.Prelude.{ℕ, Bool, true, false, ◌&&◌, List, [], ◌∷◌, ◌++◌, length, Option, Some, None, Ok}
use Rattle.std.specs.Prelude.{if◌then◌else◌, is_some}
use Rattle.ls_events.specs.declared.value.ValueType.{ValueType}
use Rattle.ls_events.specs.declared.value.ValueType.TheVariants as types
use Rattle.ls_checked.specs.CheckedTree as checked
use Rattle.ls_types_elaboration.specs.declared.rule.Rule.TheVariants.{MissingReturn}
use Rattle.ls_types_elaboration.specs.declared.known.FoundField.{FoundField}
use Rattle.ls_types_elaboration.specs.Trees.{Name, Declarator, Parameter}
use Rattle.ls_types_elaboration.specs.Trees as parsed
use Rattle.ls_types_elaboration.specs.Elaborated.{Elaborated, with_ok, unless_broken, each}
use Rattle.ls_types_elaboration.specs.Known.{Known, field_of, type_of, result_of}
use Rattle.ls_types_elaboration.specs.TypedExpressions.{fitting}
use Rattle.ls_types_judgement.specs.Completion.{can_complete}
use Rattle.ls_types_elaboration.specs.Scopes.{Body, with_unnamed, Scope, with_variable, may_declare}
use Rattle.ls_types_elaboration.specs.Monitors.{synchronized}
use Rattle.ls_types_elaboration.specs.TypedStatements.{sequence, items}

-- a parameter is in scope in the whole body (JLS 6.3, 8.4.1)
abbrev pub parameter : Body → Scope → Parameter → Elaborated Scope
parameter body scope p =
    may_declare body.span scope p.name (
    with_ok (type_of body.known.names p.type_name) (λ t. Ok (with_variable scope p.name.text t)))

-- a field initialiser is an assignment at the front of the constructor's body; no local is in scope there (JLS 12.5)
abbrev pub field_set : Known →
    List checked.Statement →
    Option FoundField →
    Option parsed.Expression →
    Elaborated (List checked.Statement)
field_set known front (Some f) (Some e) =
    with_ok (fitting known [] f.value_type e) (λ v.
    Ok (front ++ checked.SetField (checked.Slot 0) f.number v ∷ []))
field_set known front _ _ = Ok front

abbrev pub declarator_set : Known → List checked.Statement → Declarator → Elaborated (List checked.Statement)
declarator_set known front d = field_set known front (field_of known known.own d.name.text) d.value

abbrev pub member_set : Known → List checked.Statement → parsed.Member → Elaborated (List checked.Statement)
member_set known front (parsed.Fields d) = each (declarator_set known) front (d.first ∷ d.more)
member_set known front (parsed.Method sync result name ps body) = Ok front
member_set known front (parsed.Constructor name ps body) = Ok front

-- the initialisers of all fields, in text order
abbrev pub initialisers : Known → List parsed.Member → Elaborated (List checked.Statement)
initialisers known members = each (member_set known) [] members

-- a method's body; one that answers a value can't complete normally (JLS 8.4.7)
abbrev pub finished : Known → Option ValueType → Name → ℕ → Scope → Elaborated checked.Method
finished known result name count scope =
    unless_broken (is_some result && can_complete (checked.Block (sequence scope.statements))) MissingReturn name.span (
    Ok (record {
      class = known.own;
      parameters = count;
      slots = scope.slots.types;
      result = result;
      body = checked.Block (sequence scope.statements);
    }))

-- a synchronized method is the statement `synchronized (this)` with its body (JLS 8.4.3.6)
abbrev pub in_monitor : ℕ → ℕ → Scope → Scope
in_monitor slot class scope = record {
  statements = synchronized slot class (checked.Slot 0) (checked.Block (sequence scope.statements)) ∷ [];
  locals = scope.locals;
  slots = scope.slots;
}

abbrev pub with_unnamed_slot : Scope → ValueType → Scope
with_unnamed_slot scope t = record {
  statements = scope.statements;
  locals = scope.locals;
  slots = with_unnamed scope.slots t;
}

abbrev pub all_items : Body → Bool → Scope → parsed.Items → Elaborated Scope
all_items body false scope block = items body [] scope block
all_items body true scope block =
    with_ok (items body [] (with_unnamed_slot scope (types.Class body.known.own)) block) (λ end.
    Ok (in_monitor (length scope.slots.types) body.known.own end))

-- slot 0 is `this`; after it come the parameters, then the locals of the body
abbrev pub method : Known →
    Bool →
    Option ValueType →
    Name →
    List Parameter →
    List checked.Statement →
    parsed.Items →
    Elaborated checked.Method
method known sync result name ps front block =
    let body : Body = record { known = known; result = result; span = name.span } in
    let start : Scope = record {
      statements = front;
      locals = [];
      slots = record { types = types.Class known.own ∷ []; named = 1 };
    } in
    with_ok (each (parameter body) start ps) (λ scope.
    with_ok (all_items body sync scope block) (finished known result name (length ps)))

abbrev pub written_method : Known →
    Bool →
    Option parsed.TypeName →
    Name →
    List Parameter →
    parsed.Items →
    Elaborated checked.Method
written_method known sync result name ps body =
    with_ok (result_of known.names result) (λ r. method known sync r name ps [] body)

abbrev pub written_constructor : Known →
    List parsed.Member →
    Name →
    List Parameter →
    parsed.Items →
    Elaborated checked.Method
written_constructor known members name ps body =
    with_ok (initialisers known members) (λ front. method known false None name ps front body)

-- a method or constructor, after those before it
abbrev pub one_method : Known →
    List parsed.Member →
    List checked.Method →
    parsed.Member →
    Elaborated (List checked.Method)
one_method known members before (parsed.Fields d) = Ok before
one_method known members before (parsed.Method sync result name ps body) =
    with_ok (written_method known sync result name ps body) (λ m. Ok (before ++ m ∷ []))
one_method known members before (parsed.Constructor name ps body) =
    with_ok (written_constructor known members name ps body) (λ m. Ok (before ++ m ∷ []))

abbrev pub has_constructor : List parsed.Member → Bool
has_constructor [] = false
has_constructor (parsed.Constructor name ps body ∷ ms) = true
has_constructor (_ ∷ ms) = has_constructor ms

-- a class without a constructor has an empty one, which comes after its methods (JLS 8.8.9)
abbrev pub default_constructor : Known → List parsed.Member → List checked.Method → Elaborated (List checked.Method)
default_constructor known members before =
    if has_constructor members then Ok before
    else with_ok (initialisers known members) (λ front. Ok (before ++ record {
      class = known.own;
      parameters = 0;
      slots = types.Class known.own ∷ [];
      result = None;
      body = checked.Block (sequence front);
    } ∷ []))

-- the methods and constructors of a class, in text order, after those of the classes before it
abbrev pub class_methods : Known → List checked.Method → List parsed.Member → Elaborated (List checked.Method)
class_methods known before members =
    with_ok (each (one_method known members) before members) (default_constructor known members)
