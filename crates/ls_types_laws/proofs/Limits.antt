-- What classes declare keeps the limits of the language, and has a number for each method.
use Rattle.std.proofs.Common.{◌≡◌, ℕ, suc, ◌+◌, ◌≤◌, ◌<◌, Bool, true, false, not, nat_lt, is_some, bytes_eq, refl, sym}
use Rattle.std.proofs.Common.{◌∙◌, ap, List, [], ◌∷◌, ◌++◌, length, Option, Some, None, Ok, arith}
use Rattle.std.proofs.lemmas.Bool.{ltb-true}
use Rattle.ls_events.specs.declared.value.ValueType.{ValueType}
use Rattle.ls_types_elaboration.specs.declared.rule.Rule.TheVariants as rules
use Rattle.ls_types_elaboration.specs.Trees as parsed
use Rattle.ls_types_elaboration.specs.Trees.{Text, Name, Declarator, ClassTree}
use Rattle.ls_types_elaboration.specs.Elaborated.{Elaborated, with_ok, each}
use Rattle.ls_types_elaboration.specs.Known.{ClassSign, number_of, field_named, method_named, type_of, result_of}
use Rattle.ls_types_elaboration.specs.TypedMethods.{has_constructor}
use Rattle.ls_types_elaboration.specs.Signs.{is_reserved, most_classes, most_fields, most_methods, with_room, one_name}
use Rattle.ls_types_elaboration.specs.Signs.{parameter_types, Met, field_met, fields_met, method_met, constructor_met}
use Rattle.ls_types_elaboration.specs.Signs.{member_met, Classes, with_class, class_met, nothing_met, one_class}
use Rattle.ls_types_elaboration.specs.Signs.{class_names, class_signs}
use Rattle.ls_types_laws.proofs.Results.{Gives, any, bind, after, weaker, unless, each_keeps, total, each_adds}
use Rattle.ls_types_laws.proofs.Lists.{Each, each_push, length_push}
use Rattle.ls_types_laws.proofs.Numbers.{member_count, default_count, class_count}

not_false : (b : Bool) → not b ≡ false → b ≡ true
not_false true e = refl
not_false false e = absurd (wrong e)
  where
    wrong : true ≡ false → ⊥
    wrong e = cc

-- if there is room for one more
roomy : {A : Type 0} (Q : A → Type 0) (count most : ℕ) (n : Name) (x : Elaborated A) →
    (count < most → Gives Q x) →
    Gives Q (with_room count most n x)
roomy Q count most n x h = unless Q (not (nat_lt count most)) rules.Limit n.span x
    (λ e. h (ltb-true count most (not_false (nat_lt count most) e)))

-- what has been met of a class is within the limits
record Few (met : Met) : Type 0 where
  fields : length met.fields ≤ 64
  methods : met.next ≤ 512

abbrev made_after : Bool → parsed.Member → Bool
made_after b (parsed.Constructor n ps body) = true
made_after b _ = b

-- what a member adds to it
record Adds (met : Met) (many : ℕ) (made : Bool) (out : Met) : Type 0 where
  next : out.next ≡ met.next + many
  constructor : is_some out.constructor ≡ made
  few : Few met → Few out

field_adds : (t : ValueType) (met : Met) (d : Declarator) →
    Gives (Adds met 0 (is_some met.constructor)) (field_met t met d)
field_adds t met d =
    unless (Adds met 0 (is_some met.constructor)) (is_some (field_named met.fields d.name.text)) rules.TwiceDeclared
    d.name.span _ (λ e.
    roomy (Adds met 0 (is_some met.constructor)) (length met.fields) most_fields d.name _ (λ room. record {
      next = omega arith;
      constructor = refl;
      few = λ f. let many = length_push met.fields (record { name = d.name.text; type = t }) in
          record { fields = omega (arith, room, many); methods = f.methods };
    }))

adds_on : (met mid out : Met) →
    Adds met 0 (is_some met.constructor) mid →
    Adds mid 0 (is_some mid.constructor) out →
    Adds met 0 (is_some met.constructor) out
adds_on met mid out h k = record {
  next = omega (arith, h.next, k.next);
  constructor = k.constructor ∙ h.constructor;
  few = λ f. k.few (h.few f);
}

adds_nothing : (met : Met) → Adds met 0 (is_some met.constructor) met
adds_nothing met = record { next = omega arith; constructor = refl; few = λ f. f }

method_adds : (met : Met) (n : Name) (ts : List ValueType) (r : Option ValueType) →
    Gives (Adds met 1 (is_some met.constructor)) (method_met met n ts r)
method_adds met n ts r =
    unless (Adds met 1 (is_some met.constructor)) (is_some (method_named met.methods n.text)) rules.TwiceDeclared n.span
    _ (λ e.
    roomy (Adds met 1 (is_some met.constructor)) met.next most_methods n _ (λ room. record {
      next = refl;
      constructor = refl;
      few = λ f. record { fields = f.fields; methods = omega (arith, room) };
    }))

constructor_adds : (class : Text) (met : Met) (n : Name) (ts : List ValueType) →
    Gives (Adds met 1 true) (constructor_met class met n ts)
constructor_adds class met n ts =
    unless (Adds met 1 true) (not (bytes_eq n.text class)) rules.UnknownType n.span _ (λ e.
    unless (Adds met 1 true) (is_some met.constructor) rules.TwiceDeclared n.span _ (λ e.
    roomy (Adds met 1 true) met.next most_methods n _ (λ room. record {
      next = refl;
      constructor = refl;
      few = λ f. record { fields = f.fields; methods = omega (arith, room) };
    })))

member_adds : (names : List Text) (class : Text) (met : Met) (m : parsed.Member) →
    Gives (Adds met (member_count m) (made_after (is_some met.constructor) m)) (member_met names class met m)
member_adds names class met (parsed.Fields d) =
    after (Adds met 0 (is_some met.constructor)) (type_of names d.type_name) _ (λ t.
    each_keeps (Adds met 0 (is_some met.constructor)) (field_met t) met (d.first ∷ d.more) (adds_nothing met)
    (λ mid d h.
    weaker (Adds mid 0 (is_some mid.constructor)) (Adds met 0 (is_some met.constructor)) (field_met t mid d)
    (field_adds t mid d) (λ out k. adds_on met mid out h k)))
member_adds names class met (parsed.Method sync result n ps body) =
    after (Adds met 1 (is_some met.constructor)) (result_of names result) _ (λ r.
    after (Adds met 1 (is_some met.constructor)) (parameter_types names n ps) _ (λ ts. method_adds met n ts r))
member_adds names class met (parsed.Constructor n ps body) =
    after (Adds met 1 true) (parameter_types names n ps) _ (λ ts. constructor_adds class met n ts)

-- members in order
abbrev made_all : Bool → List parsed.Member → Bool
made_all b [] = b
made_all b (m ∷ ms) = made_all (made_after b m) ms

made_already : (ms : List parsed.Member) → made_all true ms ≡ true
made_already [] = refl
made_already (parsed.Fields d ∷ ms) = made_already ms
made_already (parsed.Method sync r n ps body ∷ ms) = made_already ms
made_already (parsed.Constructor n ps body ∷ ms) = made_already ms

made_is : (ms : List parsed.Member) → made_all false ms ≡ has_constructor ms
made_is [] = refl
made_is (parsed.Fields d ∷ ms) = made_is ms
made_is (parsed.Method sync r n ps body ∷ ms) = made_is ms
made_is (parsed.Constructor n ps body ∷ ms) = made_already ms

members_add : (names : List Text) (class : Text) (met : Met) (ms : List parsed.Member) →
    Gives (Adds met (total member_count ms) (made_all (is_some met.constructor) ms))
    (each (member_met names class) met ms)
members_add names class met [] = adds_nothing met
members_add names class met (m ∷ ms) =
    let Q : Met → Type 0 = Adds met (member_count m + total member_count ms)
    (made_all (made_after (is_some met.constructor) m) ms) in
    bind (Adds met (member_count m) (made_after (is_some met.constructor) m)) Q (member_met names class met m) _
    (member_adds names class met m) (λ mid h.
    weaker (Adds mid (total member_count ms) (made_all (is_some mid.constructor) ms)) Q
    (each (member_met names class) mid ms) (members_add names class mid ms) (λ out k. record {
      next = omega (arith, h.next, k.next);
      constructor = k.constructor ∙ ap (λ b. made_all b ms) h.constructor;
      few = λ f. k.few (h.few f);
    }))

-- classes
pub record AreFew (classes : Classes) : Type 0 where
  pub fields : Each (λ s. length s.fields ≤ 64) classes.signs
  pub methods : classes.next ≤ 512

record AddsClass (classes : Classes) (many : ℕ) (out : Classes) : Type 0 where
  next : out.next ≡ classes.next + many
  count : length out.signs ≡ length classes.signs + 1
  few : AreFew classes → AreFew out

class_adds : (classes : Classes) (n : Name) (met : Met) (many : ℕ) (b : Bool) (o : Option ℕ) →
    is_some o ≡ b →
    met.next ≡ classes.next + many →
    (AreFew classes → Few met) →
    Gives (AddsClass classes (many + default_count b)) (class_met classes n met o)
class_adds classes n met many true (Some k) e next few = record {
  next = omega (arith, next);
  count = length_push classes.signs _;
  few = λ f. record {
    fields = each_push (λ s. length s.fields ≤ 64) classes.signs _ f.fields (few f).fields;
    methods = (few f).methods;
  };
}
class_adds classes n met many false None e next few =
    roomy (AddsClass classes (many + 1)) met.next most_methods n _ (λ room. record {
      next = omega (arith, next);
      count = length_push classes.signs _;
      few = λ f. record {
        fields = each_push (λ s. length s.fields ≤ 64) classes.signs _ f.fields (few f).fields;
        methods = omega (arith, room);
      };
    })
class_adds classes n met many false (Some k) e next few = absurd (wrong e)
  where
    wrong : true ≡ false → ⊥
    wrong e = cc
class_adds classes n met many true None e next few = absurd (wrong e)
  where
    wrong : false ≡ true → ⊥
    wrong e = cc

none_met : (classes : Classes) → AreFew classes → Few (nothing_met classes.next)
none_met classes f = record { fields = omega arith; methods = f.methods }

one_class_adds : (names : List Text) (classes : Classes) (c : ClassTree) →
    Gives (AddsClass classes (class_count c)) (one_class names classes c)
one_class_adds names classes c =
    let met : Met = nothing_met classes.next in
    bind (Adds met (total member_count c.members) (made_all false c.members)) (AddsClass classes (class_count c))
    (each (member_met names c.name.text) met c.members) _
    (members_add names c.name.text met c.members) (λ out h.
    class_adds classes c.name out (total member_count c.members) (has_constructor c.members) out.constructor
    (h.constructor ∙ made_is c.members) h.next (λ f. h.few (none_met classes f)))

abbrev one : ClassTree → ℕ
one c = 1

ones : (classes : List ClassTree) → total one classes ≡ length classes
ones [] = refl
ones (c ∷ cs) = omega (arith, ones cs)

-- the next number is the number of methods and constructors of all classes
pub signs_number : (names : List Text) (classes : List ClassTree) →
    Gives (λ out. out.next ≡ 0 + total class_count classes) (class_signs names classes)
signs_number names classes =
    each_adds (λ (s : Classes). s.next) class_count (one_class names) (λ s c.
    weaker (AddsClass s (class_count c)) (λ out. out.next ≡ s.next + class_count c) (one_class names s c)
    (one_class_adds names s c) (λ out h. h.next)) (record { signs = []; next = 0 }) classes

-- there are as many declarations as classes
pub signs_count : (names : List Text) (classes : List ClassTree) →
    Gives (λ out. length out.signs ≡ length classes) (class_signs names classes)
signs_count names classes =
    weaker (λ (out : Classes). length out.signs ≡ 0 + total one classes) (λ out. length out.signs ≡ length classes)
    (class_signs names classes)
    (each_adds (λ (s : Classes). length s.signs) one (one_class names) (λ s c.
    weaker (AddsClass s (class_count c)) (λ out. length out.signs ≡ length s.signs + 1) (one_class names s c)
    (one_class_adds names s c) (λ out h. h.count)) (record { signs = []; next = 0 }) classes)
    (λ out e. omega (arith, e, ones classes))

-- no class has over 64 fields, and the file has at most 512 methods and constructors
pub signs_few : (names : List Text) (classes : List ClassTree) → Gives AreFew (class_signs names classes)
signs_few names classes =
    each_keeps AreFew (one_class names) (record { signs = []; next = 0 }) classes
    (record { fields = tt; methods = omega arith }) (λ s c f.
    weaker (AddsClass s (class_count c)) AreFew (one_class names s c) (one_class_adds names s c) (λ out h. h.few f))

one_name_gives : (names : List Text) (c : ClassTree) →
    Gives (λ out. (length out ≡ length names + 1) × (length out ≤ 64)) (one_name names c)
one_name_gives names c =
    let Q : List Text → Type 0 = λ out. (length out ≡ length names + 1) × (length out ≤ 64) in
    unless Q (is_reserved c.name.text) rules.ReservedClass c.name.span _ (λ e.
    unless Q (is_some (number_of names c.name.text)) rules.TwiceDeclared c.name.span _ (λ e.
    roomy Q (length names) most_classes c.name (Ok (names ++ c.name.text ∷ [])) (λ room.
    let next = length_push names c.name.text in (next, omega (arith, next, room)))))

-- there are as many names as classes
pub names_count : (classes : List ClassTree) → Gives (λ names. length names ≡ length classes) (class_names classes)
names_count classes =
    weaker (λ (names : List Text). length names ≡ 0 + total one classes) (λ names. length names ≡ length classes)
    (class_names classes)
    (each_adds (λ (names : List Text). length names) one one_name (λ names c.
    weaker (λ out. (length out ≡ length names + 1) × (length out ≤ 64)) (λ out. length out ≡ length names + 1)
    (one_name names c) (one_name_gives names c) (λ out h. h.0)) [] classes)
    (λ names e. omega (arith, e, ones classes))

-- there are at most 64 names of classes
pub names_few : (classes : List ClassTree) → Gives (λ names. length names ≤ 64) (class_names classes)
names_few classes =
    each_keeps (λ (names : List Text). length names ≤ 64) one_name [] classes (omega arith) (λ names c h.
    weaker (λ out. (length out ≡ length names + 1) × (length out ≤ 64)) (λ out. length out ≤ 64) (one_name names c)
    (one_name_gives names c) (λ out k. k.1))
