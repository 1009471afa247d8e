-- Methods, declarations and files without places.
use Rattle.std.proofs.Common.{◌≡◌, refl, Bool, true, false, sym, ap, ◌∙◌, List, [], ◌∷◌, Option, Some, None, ℕ, length}
use Rattle.std.proofs.Common.{map}
use Rattle.std.proofs.lemmas.List.{length-map}
use Rattle.std.specs.Prelude.{is_some, not, nat_lt, option_map, ◌&&◌, bytes_eq}
use Rattle.ls_events.specs.declared.value.ValueType.{ValueType}
use Rattle.ls_events.specs.declared.value.ValueType.TheVariants as types
use Rattle.ls_checked.specs.CheckedTree as checked
use Rattle.ls_types_elaboration.specs.declared.rule.Rule.TheVariants as rules
use Rattle.ls_types_elaboration.specs.declared.known.FoundField.{FoundField}
use Rattle.ls_types_elaboration.specs.Trees
use Rattle.ls_types_elaboration.specs.Trees.{Text, Name, Expression, TypeName, Declarator, Declaration, Items}
use Rattle.ls_types_elaboration.specs.Trees.{Parameter, Member, ClassTree, File}
use Rattle.ls_types_elaboration.specs.Elaborated.{each}
use Rattle.ls_types_elaboration.specs.Known.{Known, ClassSign, field_of, type_of, result_of, number_of, field_named}
use Rattle.ls_types_elaboration.specs.Known.{method_named}
use Rattle.ls_types_elaboration.specs.TypedExpressions.{fitting}
use Rattle.ls_types_judgement.specs.Completion.{can_complete}
use Rattle.ls_types_elaboration.specs.Scopes.{Body, Scope, most_slots}
use Rattle.ls_types_elaboration.specs.TypedStatements.{sequence, items}
use Rattle.ls_types_elaboration.specs.TypedMethods.{parameter, field_set, declarator_set, member_set, initialisers}
use Rattle.ls_types_elaboration.specs.TypedMethods.{finished, with_unnamed_slot, all_items, method, written_method}
use Rattle.ls_types_elaboration.specs.TypedMethods.{written_constructor, one_method, has_constructor}
use Rattle.ls_types_elaboration.specs.TypedMethods.{default_constructor, class_methods}
use Rattle.ls_types_elaboration.specs.Signs.{is_reserved, most_classes, most_fields, most_methods, with_room, one_name}
use Rattle.ls_types_elaboration.specs.Signs.{one_type, parameter_types, Met, field_met, fields_met, method_met}
use Rattle.ls_types_elaboration.specs.Signs.{constructor_met, member_met, Classes, class_met, nothing_met, one_class}
use Rattle.ls_types_elaboration.specs.Signs.{class_names, class_signs}
use Rattle.ls_types_elaboration.specs.Elaboration.{Bodies, one_body, file_methods, elaborated}
use Rattle.ls_parser_spelling.specs.Unplaced.{nowhere, unplaced, unplaced_name, unplaced_type, unplaced_declarator}
use Rattle.ls_parser_spelling.specs.Unplaced.{unplaced_declaration, unplaced_items, unplaced_parameter, unplaced_member}
use Rattle.ls_parser_spelling.specs.Unplaced.{unplaced_class, unplaced_file}
use Rattle.ls_types_places.proofs.Anywhere.{anywhere, same_answer}
use Rattle.ls_types_places.specs.Laws.{NoPlaces}
use Rattle.ls_types_places.proofs.Steps.{bind, test, choice, each_same}
use Rattle.ls_types_places.proofs.Expressions.{fitting_same}
use Rattle.ls_types_places.proofs.Statements.{unplaced_body, type_same, result_same, may_same, items_same}

parameter_same : (body : Body) (scope : Scope) (p : Parameter) →
    parameter (unplaced_body body) scope (unplaced_parameter p) ≡ anywhere (parameter body scope p)
parameter_same body scope p =
    may_same body.span scope p.name _ _ (bind (type_of body.known.names p.type_name)
    (type_of body.known.names (unplaced_type p.type_name)) _ _ (type_same body.known.names p.type_name) (λ t. refl))

field_set_same : (known : Known) (front : List checked.Statement) (f : Option FoundField) (v : Option Expression)
    → field_set known front f (option_map unplaced v) ≡ anywhere (field_set known front f v)
field_set_same known front None None = refl
field_set_same known front None (Some e) = refl
field_set_same known front (Some f) None = refl
field_set_same known front (Some f) (Some e) =
    bind (fitting known [] f.value_type e) (fitting known [] f.value_type (unplaced e)) _ _
    (fitting_same known [] f.value_type e) (λ v. refl)

member_set_same : (known : Known) (front : List checked.Statement) (m : Member) →
    member_set known front (unplaced_member m) ≡ anywhere (member_set known front m)
member_set_same known front (Trees.Fields d) =
    each_same (declarator_set known) (declarator_set known) unplaced_declarator front (d.first ∷ d.more)
    (λ s a. field_set_same known s (field_of known known.own a.name.text) a.value)
member_set_same known front (Trees.Method sync r n ps b) = refl
member_set_same known front (Trees.Constructor n ps b) = refl

initialisers_same : (known : Known) (ms : List Member) →
    initialisers known (map unplaced_member ms) ≡ anywhere (initialisers known ms)
initialisers_same known ms = each_same (member_set known) (member_set known) unplaced_member [] ms
    (λ s a. member_set_same known s a)

finished_same : (known : Known) (r : Option ValueType) (n : Name) (count' count : ℕ) (scope : Scope) → count' ≡ count
    → finished known r (unplaced_name n) count' scope ≡ anywhere (finished known r n count scope)
finished_same known r n count' count scope e =
    ap (λ c. finished known r (unplaced_name n) c scope) e
    ∙ test (is_some r && can_complete (checked.Block (sequence scope.statements))) rules.MissingReturn nowhere n.span _
    _ refl refl

all_items_same : (body : Body) (sync : Bool) (scope : Scope) (block : Items) →
    all_items (unplaced_body body) sync scope (unplaced_items block) ≡ anywhere (all_items body sync scope block)
all_items_same body false scope block = items_same body [] scope block
all_items_same body true scope block =
    let inner : Scope = with_unnamed_slot scope (types.Class body.known.own) in
    bind (items body [] inner block) (items (unplaced_body body) [] inner (unplaced_items block)) _ _
    (items_same body [] inner block) (λ last. refl)

method_same : (known : Known) (sync : Bool) (r : Option ValueType) (n : Name) (ps : List Parameter)
    (front : List checked.Statement) (block : Items)
    → method known sync r (unplaced_name n) (map unplaced_parameter ps) front (unplaced_items block) ≡ anywhere
    (method known sync r n ps front block)
method_same known sync r n ps front block =
    let body : Body = record { known = known; result = r; span = n.span } in
    let start : Scope = record {
      statements = front;
      locals = [];
      slots = record { types = types.Class known.own ∷ []; named = 1 };
    } in
    bind (each (parameter body) start ps) (each (parameter (unplaced_body body)) start (map unplaced_parameter ps)) _ _
    (each_same (parameter body) (parameter (unplaced_body body)) unplaced_parameter start ps
    (λ s a. parameter_same body s a)) (λ scope.
    bind (all_items body sync scope block) (all_items (unplaced_body body) sync scope (unplaced_items block)) _ _
    (all_items_same body sync scope block) (λ last.
    finished_same known r n (length (map unplaced_parameter ps)) (length ps) last (simp length-map)))

written_method_same : (known : Known) (sync : Bool) (t : Option TypeName) (n : Name) (ps : List Parameter)
    (block : Items)
    → written_method known sync (option_map unplaced_type t) (unplaced_name n) (map unplaced_parameter ps)
    (unplaced_items block) ≡ anywhere (written_method known sync t n ps block)
written_method_same known sync t n ps block =
    bind (result_of known.names t) (result_of known.names (option_map unplaced_type t)) _ _ (result_same known.names t)
    (λ r. method_same known sync r n ps [] block)

written_constructor_same : (known : Known) (ms : List Member) (n : Name) (ps : List Parameter) (block : Items)
    → written_constructor known (map unplaced_member ms) (unplaced_name n) (map unplaced_parameter ps)
    (unplaced_items block) ≡ anywhere (written_constructor known ms n ps block)
written_constructor_same known ms n ps block =
    bind (initialisers known ms) (initialisers known (map unplaced_member ms)) _ _ (initialisers_same known ms)
    (λ front. method_same known false None n ps front block)

one_method_same : (known : Known) (ms : List Member) (before : List checked.Method) (m : Member)
    → one_method known (map unplaced_member ms) before (unplaced_member m) ≡ anywhere (one_method known ms before m)
one_method_same known ms before (Trees.Fields d) = refl
one_method_same known ms before (Trees.Method sync t n ps b) =
    bind (written_method known sync t n ps b) (written_method known sync (option_map unplaced_type t) (unplaced_name n)
    (map unplaced_parameter ps) (unplaced_items b)) _ _ (written_method_same known sync t n ps b) (λ m. refl)
one_method_same known ms before (Trees.Constructor n ps b) =
    bind (written_constructor known ms n ps b) (written_constructor known (map unplaced_member ms) (unplaced_name n)
    (map unplaced_parameter ps) (unplaced_items b)) _ _ (written_constructor_same known ms n ps b) (λ m. refl)

constructor_same : (ms : List Member) → has_constructor (map unplaced_member ms) ≡ has_constructor ms
constructor_same [] = refl
constructor_same (Trees.Fields d ∷ ms) = constructor_same ms
constructor_same (Trees.Method sync t n ps b ∷ ms) = constructor_same ms
constructor_same (Trees.Constructor n ps b ∷ ms) = refl

default_same : (known : Known) (ms : List Member) (before : List checked.Method)
    → default_constructor known (map unplaced_member ms) before ≡ anywhere (default_constructor known ms before)
default_same known ms before =
    rw (constructor_same ms)
    (choice (has_constructor ms) _ _ _ _ refl
    (bind (initialisers known ms) (initialisers known (map unplaced_member ms)) _ _ (initialisers_same known ms)
    (λ front. refl)))

class_methods_same : (known : Known) (before : List checked.Method) (ms : List Member)
    → class_methods known before (map unplaced_member ms) ≡ anywhere (class_methods known before ms)
class_methods_same known before ms =
    bind (each (one_method known ms) before ms) (each (one_method known (map unplaced_member ms)) before
    (map unplaced_member ms)) _ _
    (each_same (one_method known ms) (one_method known (map unplaced_member ms)) unplaced_member before ms
    (λ s a. one_method_same known ms s a))
    (λ found. default_same known ms found)

one_name_same : (before : List Text) (c : ClassTree) → one_name before (unplaced_class c) ≡ anywhere (one_name before c)
one_name_same before c =
    test (is_reserved c.name.text) rules.ReservedClass nowhere c.name.span _ _ refl
    (test (is_some (number_of before c.name.text)) rules.TwiceDeclared nowhere c.name.span _ _ refl
    (test (not (nat_lt (length before) most_classes)) rules.Limit nowhere c.name.span _ _ refl refl))

one_type_same : (names : List Text) (before : List ValueType) (p : Parameter) →
    one_type names before (unplaced_parameter p) ≡ anywhere (one_type names before p)
one_type_same names before p = bind (type_of names p.type_name) (type_of names (unplaced_type p.type_name)) _ _
    (type_same names p.type_name) (λ t. refl)

parameter_types_same : (names : List Text) (n : Name) (ps : List Parameter)
    → parameter_types names (unplaced_name n) (map unplaced_parameter ps) ≡ anywhere (parameter_types names n ps)
parameter_types_same names n ps =
    ap (λ c. with_room c most_slots (unplaced_name n) (each (one_type names) [] (map unplaced_parameter ps)))
    (simp length-map)
    ∙ test (not (nat_lt (length ps) most_slots)) rules.Limit nowhere n.span _ _ refl
    (each_same (one_type names) (one_type names) unplaced_parameter [] ps (λ s a. one_type_same names s a))

field_met_same : (t : ValueType) (met : Met) (d : Declarator) →
    field_met t met (unplaced_declarator d) ≡ anywhere (field_met t met d)
field_met_same t met d =
    test (is_some (field_named met.fields d.name.text)) rules.TwiceDeclared nowhere d.name.span _ _ refl
    (test (not (nat_lt (length met.fields) most_fields)) rules.Limit nowhere d.name.span _ _ refl refl)

fields_met_same : (names : List Text) (met : Met) (d : Declaration) →
    fields_met names met (unplaced_declaration d) ≡ anywhere (fields_met names met d)
fields_met_same names met d =
    bind (type_of names d.type_name) (type_of names (unplaced_type d.type_name)) _ _ (type_same names d.type_name) (λ t.
    each_same (field_met t) (field_met t) unplaced_declarator met (d.first ∷ d.more) (λ s a. field_met_same t s a))

method_met_same : (met : Met) (n : Name) (ts : List ValueType) (r : Option ValueType) →
    method_met met (unplaced_name n) ts r ≡ anywhere (method_met met n ts r)
method_met_same met n ts r =
    test (is_some (method_named met.methods n.text)) rules.TwiceDeclared nowhere n.span _ _ refl
    (test (not (nat_lt met.next most_methods)) rules.Limit nowhere n.span _ _ refl refl)

constructor_met_same : (class : Text) (met : Met) (n : Name) (ts : List ValueType) →
    constructor_met class met (unplaced_name n) ts ≡ anywhere (constructor_met class met n ts)
constructor_met_same class met n ts =
    test (not (bytes_eq n.text class)) rules.UnknownType nowhere n.span _ _ refl
    (test (is_some met.constructor) rules.TwiceDeclared nowhere n.span _ _ refl
    (test (not (nat_lt met.next most_methods)) rules.Limit nowhere n.span _ _ refl refl))

member_met_same : (names : List Text) (class : Text) (met : Met) (m : Member) →
    member_met names class met (unplaced_member m) ≡ anywhere (member_met names class met m)
member_met_same names class met (Trees.Fields d) = fields_met_same names met d
member_met_same names class met (Trees.Method sync t n ps b) =
    bind (result_of names t) (result_of names (option_map unplaced_type t)) _ _ (result_same names t) (λ r.
    bind (parameter_types names n ps) (parameter_types names (unplaced_name n) (map unplaced_parameter ps)) _ _
    (parameter_types_same names n ps) (λ ts. method_met_same met n ts r))
member_met_same names class met (Trees.Constructor n ps b) =
    bind (parameter_types names n ps) (parameter_types names (unplaced_name n) (map unplaced_parameter ps)) _ _
    (parameter_types_same names n ps) (λ ts. constructor_met_same class met n ts)

class_met_same : (classes : Classes) (n : Name) (met : Met) (k : Option ℕ) →
    class_met classes (unplaced_name n) met k ≡ anywhere (class_met classes n met k)
class_met_same classes n met None = test (not (nat_lt met.next most_methods)) rules.Limit nowhere n.span _ _ refl refl
class_met_same classes n met (Some k) = refl

one_class_same : (names : List Text) (classes : Classes) (c : ClassTree) →
    one_class names classes (unplaced_class c) ≡ anywhere (one_class names classes c)
one_class_same names classes c =
    bind (each (member_met names c.name.text) (nothing_met classes.next) c.members)
    (each (member_met names c.name.text) (nothing_met classes.next) (map unplaced_member c.members)) _ _
    (each_same (member_met names c.name.text) (member_met names c.name.text) unplaced_member (nothing_met classes.next)
    c.members (λ s a. member_met_same names c.name.text s a))
    (λ met. class_met_same classes c.name met met.constructor)

one_body_same : (names : List Text) (signs : List ClassSign) (bodies : Bodies) (c : ClassTree) →
    one_body names signs bodies (unplaced_class c) ≡ anywhere (one_body names signs bodies c)
one_body_same names signs bodies c =
    let known : Known = record { names = names; classes = signs; own = bodies.own } in
    bind (class_methods known bodies.methods c.members) (class_methods known bodies.methods
    (map unplaced_member c.members)) _ _
    (class_methods_same known bodies.methods c.members) (λ ms. refl)

file_same : (f : File) → elaborated (unplaced_file f) ≡ anywhere (elaborated f)
file_same f =
    bind (class_names f.classes) (class_names (map unplaced_class f.classes)) _ _
    (each_same one_name one_name unplaced_class [] f.classes (λ s a. one_name_same s a)) (λ names.
    bind (class_signs names f.classes) (class_signs names (map unplaced_class f.classes)) _ _
    (each_same (one_class names) (one_class names) unplaced_class (record { signs = []; next = 0 }) f.classes
    (λ s a. one_class_same names s a)) (λ classes.
    bind (file_methods names classes.signs f.classes) (file_methods names classes.signs (map unplaced_class f.classes))
    _ _
    (each_same (one_body names classes.signs) (one_body names classes.signs) unplaced_class
    (record { methods = []; own = 0 }) f.classes (λ s a. one_body_same names classes.signs s a)) (λ bodies. refl)))

-- the law: the answer doesn't depend on places
pub no_places : NoPlaces
no_places f g same =
    same_answer (elaborated f) (elaborated g) (sym (file_same f) ∙ ap elaborated same ∙ file_same g)
