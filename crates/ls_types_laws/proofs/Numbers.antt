-- How many methods a file's elaboration has.
use Rattle.std.proofs.Common.{◌≡◌, ℕ, ◌+◌, Bool, true, false, List, [], ◌∷◌, ◌++◌, length, None, Ok, arith}
use Rattle.std.specs.Prelude.{if◌then◌else◌}
use Rattle.ls_events.specs.declared.value.ValueType.TheVariants as types
use Rattle.ls_checked.specs.CheckedTree as checked
use Rattle.ls_types_elaboration.specs.Trees as parsed
use Rattle.ls_types_elaboration.specs.Trees.{Text, ClassTree}
use Rattle.ls_types_elaboration.specs.Elaborated.{with_ok, each}
use Rattle.ls_types_elaboration.specs.Known.{Known, ClassSign}
use Rattle.ls_types_elaboration.specs.TypedStatements.{sequence}
use Rattle.ls_types_elaboration.specs.TypedMethods.{initialisers, written_method, written_constructor, one_method}
use Rattle.ls_types_elaboration.specs.TypedMethods.{has_constructor, default_constructor, class_methods}
use Rattle.ls_types_elaboration.specs.Elaboration.{Bodies, one_body, file_methods}
use Rattle.ls_types_laws.proofs.Results.{Gives, bind, after, weaker, total, each_adds}
use Rattle.ls_types_laws.proofs.Lists.{length_push}

-- the methods that a member, a class and a file have; a class without a constructor has another
abbrev pub member_count : parsed.Member → ℕ
member_count (parsed.Fields d) = 0
member_count (parsed.Method sync r n ps body) = 1
member_count (parsed.Constructor n ps body) = 1

-- one for a default constructor, none if a constructor is written
abbrev pub default_count : Bool → ℕ
default_count true = 0
default_count false = 1

-- how many methods and constructors a class has
abbrev pub class_count : ClassTree → ℕ
class_count c = total member_count c.members + default_count (has_constructor c.members)

-- methods so far
one_method_adds : (known : Known) (members : List parsed.Member) (before : List checked.Method) (m : parsed.Member) →
    Gives (λ out. length out ≡ length before + member_count m) (one_method known members before m)
one_method_adds known members before (parsed.Fields d) = omega arith
one_method_adds known members before (parsed.Method sync r n ps body) =
    after (λ out. length out ≡ length before + 1) (written_method known sync r n ps body) _ (λ m. length_push before m)
one_method_adds known members before (parsed.Constructor n ps body) =
    after (λ out. length out ≡ length before + 1) (written_constructor known members n ps body) _
    (λ m. length_push before m)

default_adds : (known : Known) (members : List parsed.Member) (before : List checked.Method) (b : Bool) →
    Gives (λ out. length out ≡ length before + default_count b)
    (if b then Ok before else with_ok (initialisers known members) (λ front. Ok (before ++ record {
      class = known.own;
      parameters = 0;
      slots = types.Class known.own ∷ [];
      result = None;
      body = checked.Block (sequence front);
    } ∷ [])))
default_adds known members before true = omega arith
default_adds known members before false = after (λ out. length out ≡ length before + 1) (initialisers known members) _
    (λ front. length_push before _)

-- a class
class_adds : (known : Known) (before : List checked.Method) (members : List parsed.Member) →
    Gives (λ out. length out ≡ length before + (total member_count members + default_count (has_constructor members)))
    (class_methods known before members)
class_adds known before members =
    bind (λ ms. length ms ≡ length before + total member_count members)
    (λ out. length out ≡ length before + (total member_count members + default_count (has_constructor members)))
    (each (one_method known members) before members) (default_constructor known members)
    (each_adds length member_count (one_method known members) (one_method_adds known members) before members)
    (λ ms e.
    weaker (λ out. length out ≡ length ms + default_count (has_constructor members))
    (λ out. length out ≡ length before + (total member_count members + default_count (has_constructor members)))
    (default_constructor known members ms) (default_adds known members ms (has_constructor members))
    (λ out f. omega (arith, e, f)))

-- the methods of all classes
pub bodies_add : (names : List Text) (signs : List ClassSign) (classes : List ClassTree) →
    Gives (λ b. length b.methods ≡ 0 + total class_count classes) (file_methods names signs classes)
bodies_add names signs classes =
    each_adds (λ (b : Bodies). length b.methods) class_count (one_body names signs) (λ b c.
    bind (λ ms. length ms ≡ length b.methods + class_count c)
    (λ (out : Bodies). length out.methods ≡ length b.methods + class_count c)
    (class_methods (record { names = names; classes = signs; own = b.own }) b.methods c.members) _
    (class_adds (record { names = names; classes = signs; own = b.own }) b.methods c.members) (λ ms e. e))
    (record { methods = []; own = 0 }) classes
