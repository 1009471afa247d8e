-- Elaborated files have their loops and their ends.
use Rattle.std.proofs.Common.{◌≡◌, ℕ, refl, Bool, true, false, ◌&&◌, List, [], ◌∷◌, length, Option, Some, None, Ok}
use Rattle.std.proofs.Common.{is_some}
use Rattle.std.specs.Prelude.{if◌then◌else◌}
use Rattle.ls_events.specs.declared.value.ValueType.{ValueType}
use Rattle.ls_events.specs.declared.value.ValueType.TheVariants as types
use Rattle.ls_checked.specs.CheckedTree as checked
use Rattle.ls_types_elaboration.specs.declared.rule.Rule.TheVariants as rules
use Rattle.ls_types_elaboration.specs.declared.known.FoundField.{FoundField}
use Rattle.ls_types_elaboration.specs.Trees
use Rattle.ls_types_elaboration.specs.Trees.{Text, Name, Expression, TypeName, Declarator, Items, Parameter, Member}
use Rattle.ls_types_elaboration.specs.Trees.{ClassTree, File}
use Rattle.ls_types_elaboration.specs.Elaborated.{Elaborated, each}
use Rattle.ls_types_elaboration.specs.Known.{Known, ClassSign, field_of, type_of, result_of}
use Rattle.ls_types_elaboration.specs.TypedExpressions.{fitting}
use Rattle.ls_types_judgement.specs.Completion.{can_complete}
use Rattle.ls_types_elaboration.specs.Scopes.{Body, Scope}
use Rattle.ls_types_elaboration.specs.TypedStatements.{sequence, items}
use Rattle.ls_types_elaboration.specs.TypedMethods.{parameter, field_set, declarator_set, member_set, initialisers}
use Rattle.ls_types_elaboration.specs.TypedMethods.{finished, with_unnamed_slot, all_items, method, written_method}
use Rattle.ls_types_elaboration.specs.TypedMethods.{written_constructor, one_method, has_constructor}
use Rattle.ls_types_elaboration.specs.TypedMethods.{default_constructor, class_methods}
use Rattle.ls_types_elaboration.specs.Signs.{class_names, class_signs}
use Rattle.ls_types_elaboration.specs.Elaboration.{Bodies, one_body, file_methods, ElaboratedFile, elaborated}
use Rattle.ls_types_judgement.specs.Leaving.{JumpsInLoops}
use Rattle.ls_types_judgement.specs.Jumps.{HasItsLoops, HasItsEnds}
use Rattle.ls_types_laws.proofs.Results.{Gives, bind, after, unless, each_keeps, gives_of}
use Rattle.ls_types_laws.proofs.Lists.{Each, each_push, each_at}
use Rattle.ls_types_laws.proofs.Jumping.{in_sequence}
use Rattle.ls_types_laws.proofs.Loops.{Kept, may_gives, items_kept}

-- a method whose jumps have their loops, and which ends with its value
abbrev Ended : checked.Method → Type 0
Ended m = JumpsInLoops 0 m.body × (is_some m.result && can_complete m.body ≡ false)

field_set_kept : (known : Known) (front : List checked.Statement) (f : Option FoundField) (v : Option Expression) →
    Each (JumpsInLoops 0) front →
    Gives (Each (JumpsInLoops 0)) (field_set known front f v)
field_set_kept known front None None h = h
field_set_kept known front None (Some e) h = h
field_set_kept known front (Some f) None h = h
field_set_kept known front (Some f) (Some e) h =
    after (Each (JumpsInLoops 0)) (fitting known [] f.value_type e) _
    (λ v. each_push (JumpsInLoops 0) front (checked.SetField (checked.Slot 0) f.number v) h tt)

member_set_kept : (known : Known) (front : List checked.Statement) (m : Member) →
    Each (JumpsInLoops 0) front →
    Gives (Each (JumpsInLoops 0)) (member_set known front m)
member_set_kept known front (Trees.Fields d) h =
    each_keeps (Each (JumpsInLoops 0)) (declarator_set known) front (d.first ∷ d.more) h
    (λ s a k. field_set_kept known s (field_of known known.own a.name.text) a.value k)
member_set_kept known front (Trees.Method sync r n ps b) h = h
member_set_kept known front (Trees.Constructor n ps b) h = h

initialisers_kept : (known : Known) (ms : List Member) → Gives (Each (JumpsInLoops 0)) (initialisers known ms)
initialisers_kept known ms = each_keeps (Each (JumpsInLoops 0)) (member_set known) [] ms tt
    (λ s a k. member_set_kept known s a k)

parameter_kept : (body : Body) (scope : Scope) (p : Parameter) → Kept 0 scope → Gives (Kept 0) (parameter body scope p)
parameter_kept body scope p h = may_gives (Kept 0) body.span scope p.name _
    (after (Kept 0) (type_of body.known.names p.type_name) _ (λ t. h))

finished_ended : (known : Known) (r : Option ValueType) (n : Name) (count : ℕ) (scope : Scope) →
    Kept 0 scope →
    Gives Ended (finished known r n count scope)
finished_ended known r n count scope h =
    unless Ended (is_some r && can_complete (checked.Block (sequence scope.statements))) rules.MissingReturn n.span _
    (λ e. (in_sequence 0 scope.statements h, e))

all_kept : (body : Body) (sync : Bool) (scope : Scope) (block : Items) →
    Kept 0 scope →
    Gives (Kept 0) (all_items body sync scope block)
all_kept body false scope block h = items_kept body [] scope block h
all_kept body true scope block h =
    bind (Kept 0) (Kept 0) (items body [] (with_unnamed_slot scope (types.Class body.known.own)) block) _
    (items_kept body [] (with_unnamed_slot scope (types.Class body.known.own)) block h) (λ last l.
    ((tt, (tt, ((in_sequence 0 last.statements l, tt), tt))), tt))

method_ended : (known : Known) (sync : Bool) (r : Option ValueType) (n : Name) (ps : List Parameter)
    (front : List checked.Statement) (block : Items) →
    Each (JumpsInLoops 0) front →
    Gives Ended (method known sync r n ps front block)
method_ended known sync r n ps front block h =
    let body : Body = record { known = known; result = r; span = n.span } in
    let start : Scope = record {
      statements = front;
      locals = [];
      slots = record { types = types.Class known.own ∷ []; named = 1 };
    } in
    bind (Kept 0) Ended (each (parameter body) start ps) _ (each_keeps (Kept 0) (parameter body) start ps h
    (λ s a k. parameter_kept body s a k)) (λ scope k.
    bind (Kept 0) Ended (all_items body sync scope block) _ (all_kept body sync scope block k)
    (λ last l. finished_ended known r n (length ps) last l))

one_ended : (known : Known) (ms : List Member) (before : List checked.Method) (m : Member) →
    Each Ended before →
    Gives (Each Ended) (one_method known ms before m)
one_ended known ms before (Trees.Fields d) h = h
one_ended known ms before (Trees.Method sync t n ps b) h =
    bind Ended (Each Ended) (written_method known sync t n ps b) _
    (after Ended (result_of known.names t) _ (λ r. method_ended known sync r n ps [] b tt))
    (λ m k. each_push Ended before m h k)
one_ended known ms before (Trees.Constructor n ps b) h =
    bind Ended (Each Ended) (written_constructor known ms n ps b) _
    (bind (Each (JumpsInLoops 0)) Ended (initialisers known ms) _ (initialisers_kept known ms)
    (λ front k. method_ended known false None n ps front b k)) (λ m k. each_push Ended before m h k)

default_ended : (b : Bool) (known : Known) (ms : List Member) (before : List checked.Method)
    (x : Elaborated (List checked.Method)) →
    Each Ended before →
    Gives (Each Ended) x →
    Gives (Each Ended) (if b then Ok before else x)
default_ended true known ms before x h k = h
default_ended false known ms before x h k = k

class_ended : (known : Known) (before : List checked.Method) (ms : List Member) →
    Each Ended before →
    Gives (Each Ended) (class_methods known before ms)
class_ended known before ms h =
    bind (Each Ended) (Each Ended) (each (one_method known ms) before ms) (default_constructor known ms)
    (each_keeps (Each Ended) (one_method known ms) before ms h (λ s a k. one_ended known ms s a k)) (λ found k.
    default_ended (has_constructor ms) known ms found _ k
    (bind (Each (JumpsInLoops 0)) (Each Ended) (initialisers known ms) _ (initialisers_kept known ms) (λ front l.
    each_push Ended found _ k (in_sequence 0 front l, refl))))

abbrev AllEnded : Bodies → Type 0
AllEnded b = Each Ended b.methods

file_ended : (names : List Text) (signs : List ClassSign) (cs : List ClassTree) →
    Gives AllEnded (file_methods names signs cs)
file_ended names signs cs =
    each_keeps AllEnded (one_body names signs) (record { methods = []; own = 0 }) cs tt (λ s c h.
    bind (Each Ended) AllEnded (class_methods (record { names = names; classes = signs; own = s.own }) s.methods
    c.members) _
    (class_ended (record { names = names; classes = signs; own = s.own }) s.methods c.members h) (λ ms k. k))

abbrev WholeEnded : ElaboratedFile → Type 0
WholeEnded o = Each Ended o.file.methods

elaborated_ended : (f : File) → Gives WholeEnded (elaborated f)
elaborated_ended f =
    after WholeEnded (class_names f.classes) _ (λ names.
    after WholeEnded (class_signs names f.classes) _ (λ classes.
    bind AllEnded WholeEnded (file_methods names classes.signs f.classes) _ (file_ended names classes.signs f.classes)
    (λ bodies h. h)))

all_ended : (f : File) (o : ElaboratedFile) → elaborated f ≡ Ok o → Each Ended o.file.methods
all_ended f o e = gives_of WholeEnded (elaborated f) o e (elaborated_ended f)

-- in an elaborated file each jump has its loop
pub elaborated_loops : (f : File) (o : ElaboratedFile) → elaborated f ≡ Ok o → HasItsLoops o.file
elaborated_loops f o e n m at = (each_at Ended o.file.methods n m (all_ended f o e) at).0

not_both : (a b : Bool) → a ≡ true → (a && b) ≡ false → b ≡ false
not_both true b h k = k
not_both false b h k = cc h

-- in an elaborated file each method that answers a value ends with one
pub elaborated_ends : (f : File) (o : ElaboratedFile) → elaborated f ≡ Ok o → HasItsEnds o.file
elaborated_ends f o e n m at has = not_both (is_some m.result) (can_complete m.body) has
    (each_at Ended o.file.methods n m (all_ended f o e) at).1
