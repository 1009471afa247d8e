-- What classes declare agrees with the heads that are written.
use Rattle.std.proofs.Common.{◌≡◌, ℕ, zero, suc, ◌+◌, add-one, refl, sym, ◌∙◌, subst, ap, Bool, true, false, not, List}
use Rattle.std.proofs.Common.{[], ◌∷◌, ◌++◌, append_assoc, length, Option, Some, None, Ok, is_some, nat_lt, bytes_eq}
use Rattle.std.proofs.Common.{arith}
use Rattle.std.specs.Prelude.{slice_get}
use Rattle.ls_events.specs.declared.value.ValueType.{ValueType}
use Rattle.ls_types_elaboration.specs.declared.rule.Rule.TheVariants as rules
use Rattle.ls_types_elaboration.specs.Trees as parsed
use Rattle.ls_types_elaboration.specs.Trees.{Text, Name, Declarator, Declaration, Parameter, ClassTree}
use Rattle.ls_types_elaboration.specs.Elaborated.{each}
use Rattle.ls_types_elaboration.specs.Known.{MethodSign, ClassSign, number_of, field_named, method_named, type_of}
use Rattle.ls_types_elaboration.specs.Known.{result_of}
use Rattle.ls_types_elaboration.specs.Scopes.{most_slots}
use Rattle.ls_types_elaboration.specs.TypedMethods.{has_constructor}
use Rattle.ls_types_elaboration.specs.Signs.{is_reserved, most_classes, most_fields, most_methods, one_name, one_type}
use Rattle.ls_types_elaboration.specs.Signs.{parameter_types, Met, field_met, fields_met, method_met, constructor_met}
use Rattle.ls_types_elaboration.specs.Signs.{member_met, Classes, with_class, class_met, nothing_met, one_class}
use Rattle.ls_types_elaboration.specs.Signs.{class_names, class_signs}
use Rattle.ls_types_laws.proofs.Results.{Gives, bind, unless, each_keeps, each_over}
use Rattle.ls_types_laws.proofs.Lists.{Each, each_push, each_weaker, at_front, at_end, append_nil, same_some, some_none}
use Rattle.ls_types_laws.proofs.Done.{any}
use Rattle.ls_types_laws.proofs.Heads.{Head, head, type_or, result_or, types_of, member_heads, members_heads}
use Rattle.ls_types_laws.proofs.Heads.{default_head, class_heads, file_heads, type_is, result_is, map_push, length_push}
use Rattle.ls_types_laws.proofs.Heads.{members_push, file_push}

-- the types of parameters
parameter_types_give : (names : List Text) (n : Name) (ps : List Parameter) →
    Gives (λ ts. ts ≡ types_of names ps) (parameter_types names n ps)
parameter_types_give names n ps =
    unless (λ ts. ts ≡ types_of names ps) (not (nat_lt (length ps) most_slots)) rules.Limit n.span
    (each (one_type names) [] ps) (λ e.
    each_over (λ done ts. ts ≡ types_of names done) (one_type names) [] [] ps refl (λ done ts p h.
    bind (λ t. t ≡ type_or (type_of names p.type_name)) (λ ts. ts ≡ types_of names (done ++ p ∷ []))
    (type_of names p.type_name) (λ t. Ok (ts ++ t ∷ [])) (type_is (type_of names p.type_name)) (λ t is.
    ap (λ l. l ++ t ∷ []) h ∙ ap (λ u. types_of names done ++ u ∷ []) is ∙
    sym (map_push (λ p. type_or (type_of names p.type_name)) done p))))

-- what has been met of a class
abbrev pub IsMade : List Head → ℕ → Option ℕ → List ValueType → Type 0
IsMade H own None ps = Unit {0}
IsMade H own (Some k) ps = slice_get H k ≡ Some (head own ps None)

abbrev pub HaveHeads : List Head → ℕ → List MethodSign → Type 0
HaveHeads H own ms = Each (λ m. slice_get H m.number ≡ Some (head own m.parameters m.result)) ms

record Meets (H : List Head) (own : ℕ) (made : Bool) (met : Met) : Type 0 where
  next : met.next ≡ length H
  methods : HaveHeads H own met.methods
  constructor : IsMade H own met.constructor met.parameters
  is_made : is_some met.constructor ≡ made

made_grown : (H more : List Head) (own : ℕ) (o : Option ℕ) (ps : List ValueType) →
    IsMade H own o ps →
    IsMade (H ++ more) own o ps
made_grown H more own None ps h = tt
made_grown H more own (Some k) ps h = at_front H more k (head own ps None) h

heads_grown : (H more : List Head) (own : ℕ) (ms : List MethodSign) → HaveHeads H own ms → HaveHeads (H ++ more) own ms
heads_grown H more own ms h =
    each_weaker (λ m. slice_get H m.number ≡ Some (head own m.parameters m.result))
    (λ m. slice_get (H ++ more) m.number ≡ Some (head own m.parameters m.result)) ms h
    (λ m e. at_front H more m.number (head own m.parameters m.result) e)

next_at : (H : List Head) (n : ℕ) (h : Head) → n ≡ length H → slice_get (H ++ h ∷ []) n ≡ Some h
next_at H n h e = subst (λ k. slice_get (H ++ h ∷ []) k ≡ Some h) (sym e) (at_end H h)

next_after : (H : List Head) (n : ℕ) (h : Head) → n ≡ length H → n + 1 ≡ length (H ++ h ∷ [])
next_after H n h e = add-one n ∙ ap suc e ∙ sym (length_push H h)

field_met_gives : (H : List Head) (own : ℕ) (b : Bool) (t : ValueType) (met : Met) (d : Declarator) →
    Meets H own b met →
    Gives (Meets H own b) (field_met t met d)
field_met_gives H own b t met d h =
    unless (Meets H own b) (is_some (field_named met.fields d.name.text)) rules.TwiceDeclared d.name.span _ (λ e.
    unless (Meets H own b) (not (nat_lt (length met.fields) most_fields)) rules.Limit d.name.span (Ok (record {
      fields = met.fields ++ record { name = d.name.text; type = t } ∷ [];
      methods = met.methods;
      constructor = met.constructor;
      parameters = met.parameters;
      next = met.next;
    })) (λ e. record { next = h.next; methods = h.methods; constructor = h.constructor; is_made = h.is_made }))

method_met_gives : (H : List Head) (own : ℕ) (b : Bool) (met : Met) (n : Name) (ts : List ValueType)
    (r : Option ValueType) →
    Meets H own b met →
    Gives (Meets (H ++ head own ts r ∷ []) own b) (method_met met n ts r)
method_met_gives H own b met n ts r h =
    unless (Meets (H ++ head own ts r ∷ []) own b) (is_some (method_named met.methods n.text)) rules.TwiceDeclared
    n.span _ (λ e.
    unless (Meets (H ++ head own ts r ∷ []) own b) (not (nat_lt met.next most_methods)) rules.Limit n.span (Ok (record {
      fields = met.fields;
      methods = met.methods ++ record { name = n.text; number = met.next; parameters = ts; result = r } ∷ [];
      constructor = met.constructor;
      parameters = met.parameters;
      next = met.next + 1;
    })) (λ e. record {
      next = next_after H met.next (head own ts r) h.next;
      methods = each_push (λ m. slice_get (H ++ head own ts r ∷ []) m.number ≡ Some (head own m.parameters m.result))
          met.methods
          (record { name = n.text; number = met.next; parameters = ts; result = r })
          (heads_grown H (head own ts r ∷ []) own met.methods h.methods) (next_at H met.next (head own ts r) h.next);
      constructor = made_grown H (head own ts r ∷ []) own met.constructor met.parameters h.constructor;
      is_made = h.is_made;
    }))

constructor_met_gives : (H : List Head) (own : ℕ) (b : Bool) (class : Text) (met : Met) (n : Name) (ts : List ValueType)
    →
    Meets H own b met →
    Gives (Meets (H ++ head own ts None ∷ []) own true) (constructor_met class met n ts)
constructor_met_gives H own b class met n ts h =
    unless (Meets (H ++ head own ts None ∷ []) own true) (not (bytes_eq n.text class)) rules.UnknownType n.span _ (λ e.
    unless (Meets (H ++ head own ts None ∷ []) own true) (is_some met.constructor) rules.TwiceDeclared n.span _ (λ e.
    unless (Meets (H ++ head own ts None ∷ []) own true) (not (nat_lt met.next most_methods)) rules.Limit n.span
    (Ok (record {
      fields = met.fields;
      methods = met.methods;
      constructor = Some met.next;
      parameters = ts;
      next = met.next + 1;
    })) (λ e. record {
      next = next_after H met.next (head own ts None) h.next;
      methods = heads_grown H (head own ts None ∷ []) own met.methods h.methods;
      constructor = next_at H met.next (head own ts None) h.next;
      is_made = refl;
    })))

abbrev made_after : Bool → parsed.Member → Bool
made_after b (parsed.Constructor n ps body) = true
made_after b _ = b

member_gives : (names : List Text) (class : Text) (H : List Head) (own : ℕ) (b : Bool) (met : Met) (m : parsed.Member) →
    Meets H own b met →
    Gives (Meets (H ++ member_heads names own m) own (made_after b m)) (member_met names class met m)
member_gives names class H own b met (parsed.Fields d) h =
    subst (λ G. Gives (Meets G own b) (fields_met names met d)) (sym (append_nil H))
    (bind (λ t. Unit {0}) (Meets H own b) (type_of names d.type_name) _ (any (type_of names d.type_name)) (λ t z.
    each_keeps (Meets H own b) (field_met t) met (d.first ∷ d.more) h (λ met d h. field_met_gives H own b t met d h)))
member_gives names class H own b met (parsed.Method sync r n ps body) h =
    let Q : Met → Type 0 = Meets (H ++ head own (types_of names ps) (result_or (result_of names r)) ∷ []) own b in
    bind (λ z. z ≡ result_or (result_of names r)) Q (result_of names r) _ (result_is (result_of names r)) (λ z is.
    bind (λ ts. ts ≡ types_of names ps) Q (parameter_types names n ps) _ (parameter_types_give names n ps) (λ ts es.
    subst (λ y. Gives (Meets (H ++ head own y (result_or (result_of names r)) ∷ []) own b) (method_met met n ts z)) es
    (subst (λ y. Gives (Meets (H ++ head own ts y ∷ []) own b) (method_met met n ts z)) is
    (method_met_gives H own b met n ts z h))))
member_gives names class H own b met (parsed.Constructor n ps body) h =
    let Q : Met → Type 0 = Meets (H ++ head own (types_of names ps) None ∷ []) own true in
    bind (λ ts. ts ≡ types_of names ps) Q (parameter_types names n ps) _ (parameter_types_give names n ps) (λ ts es.
    subst (λ y. Gives (Meets (H ++ head own y None ∷ []) own true) (constructor_met class met n ts)) es
    (constructor_met_gives H own b class met n ts h))

made_push : (ms : List parsed.Member) (m : parsed.Member) →
    has_constructor (ms ++ m ∷ []) ≡ made_after (has_constructor ms) m
made_push [] (parsed.Fields d) = refl
made_push [] (parsed.Method sync r n ps body) = refl
made_push [] (parsed.Constructor n ps body) = refl
made_push (parsed.Fields d ∷ ms) m = made_push ms m
made_push (parsed.Method sync r n ps body ∷ ms) m = made_push ms m
made_push (parsed.Constructor n ps body ∷ ms) (parsed.Fields d) = refl
made_push (parsed.Constructor n ps body ∷ ms) (parsed.Method sync r k qs block) = refl
made_push (parsed.Constructor n ps body ∷ ms) (parsed.Constructor k qs block) = refl

members_give : (names : List Text) (class : Text) (B : List Head) (own : ℕ) (next : ℕ) (ms : List parsed.Member) →
    next ≡ length B →
    Gives (Meets (B ++ members_heads names own ms) own (has_constructor ms))
    (each (member_met names class) (nothing_met next) ms)
members_give names class B own next ms e =
    each_over (λ done met. Meets (B ++ members_heads names own done) own (has_constructor done) met)
    (member_met names class) [] (nothing_met next) ms
    (record { next = e ∙ ap length (sym (append_nil B)); methods = tt; constructor = tt; is_made = refl })
    (λ done met m h.
    subst (λ G. Gives (Meets G own (has_constructor (done ++ m ∷ []))) (member_met names class met m))
    (append_assoc B (members_heads names own done) (member_heads names own m) ∙
    ap (λ l. B ++ l) (sym (members_push names own done m)))
    (subst (λ b. Gives (Meets ((B ++ members_heads names own done) ++ member_heads names own m) own b)
    (member_met names class met m)) (sym (made_push done m))
    (member_gives names class (B ++ members_heads names own done) own (has_constructor done) met m h)))

-- classes
pub record ClassAgrees (H : List Head) (c : ℕ) (s : ClassSign) : Type 0 where
  pub methods : HaveHeads H c s.methods
  pub constructor : slice_get H s.constructor ≡ Some (head c s.parameters None)

class_grown : (H more : List Head) (c : ℕ) (s : ClassSign) → ClassAgrees H c s → ClassAgrees (H ++ more) c s
class_grown H more c s a = record {
  methods = heads_grown H more c s.methods a.methods;
  constructor = at_front H more s.constructor (head c s.parameters None) a.constructor;
}

-- the declarations of some classes: their number, and methods and constructors with these heads
pub record Signed (H : List Head) (size : ℕ) (classes : Classes) : Type 0 where
  pub next : classes.next ≡ length H
  pub count : length classes.signs ≡ size
  pub agree : (c : ℕ) (s : ClassSign) → slice_get classes.signs c ≡ Some s → ClassAgrees H c s

at_pushed : {A : Type 0} (P : ℕ → A → Type 0) (xs : List A) (y : A) →
    ((n : ℕ) (x : A) → slice_get xs n ≡ Some x → P n x) →
    P (length xs) y →
    (n : ℕ) (x : A) →
    slice_get (xs ++ y ∷ []) n ≡ Some x →
    P n x
at_pushed P [] y h p zero x e = subst (P 0) (same_some y x e) p
at_pushed P [] y h p (suc n) x e = absurd (some_none x e)
at_pushed P (z ∷ xs) y h p zero x e = h zero x e
at_pushed P (z ∷ xs) y h p (suc n) x e = at_pushed (λ n x. P (suc n) x) xs y (λ n x e. h (suc n) x e) p n x e

class_gives : (B more : List Head) (count : ℕ) (classes : Classes) (n : Name) (met : Met) (b : Bool) (o : Option ℕ) →
    Signed B count classes →
    met.next ≡ length (B ++ more) →
    HaveHeads (B ++ more) (length classes.signs) met.methods →
    IsMade (B ++ more) (length classes.signs) o met.parameters → is_some o ≡ b →
    Gives (Signed ((B ++ more) ++ default_head (length classes.signs) b) (suc count)) (class_met classes n met o)
class_gives B more count classes n met true (Some k) s next methods made e =
    let sign : ClassSign = record {
      fields = met.fields;
      methods = met.methods;
      constructor = k;
      parameters = met.parameters;
    } in
    record {
      next = next ∙ ap length (sym (append_nil (B ++ more)));
      count = length_push classes.signs sign ∙ ap suc s.count;
      agree = λ c x is. class_grown (B ++ more) [] c x (at_pushed (ClassAgrees (B ++ more)) classes.signs sign
          (λ c x is. class_grown B more c x (s.agree c x is)) (record { methods = methods; constructor = made }) c x
          is);
    }
class_gives B more count classes n met false None s next methods made e =
    let own : ℕ = length classes.signs in
    let sign : ClassSign = record {
      fields = met.fields;
      methods = met.methods;
      constructor = met.next;
      parameters = [];
    } in
    unless (Signed ((B ++ more) ++ head own [] None ∷ []) (suc count)) (not (nat_lt met.next most_methods)) rules.Limit
    n.span (with_class classes met met.next [] (met.next + 1)) (λ e. record {
      next = next_after (B ++ more) met.next (head own [] None) next;
      count = length_push classes.signs sign ∙ ap suc s.count;
      agree = at_pushed (ClassAgrees ((B ++ more) ++ head own [] None ∷ [])) classes.signs sign
          (λ c x is. class_grown (B ++ more) (head own [] None ∷ []) c x (class_grown B more c x (s.agree c x is)))
          (record {
            methods = heads_grown (B ++ more) (head own [] None ∷ []) own met.methods methods;
            constructor = next_at (B ++ more) met.next (head own [] None) next;
          });
    })
class_gives B more count classes n met false (Some k) s next methods made e = absurd (wrong e)
  where
    wrong : true ≡ false → ⊥
    wrong e = cc
class_gives B more count classes n met true None s next methods made e = absurd (wrong e)
  where
    wrong : false ≡ true → ⊥
    wrong e = cc

one_class_gives : (names : List Text) (done : List ClassTree) (classes : Classes) (c : ClassTree) →
    Signed (file_heads names 0 done) (length done) classes →
    Gives (Signed (file_heads names 0 (done ++ c ∷ [])) (length (done ++ c ∷ []))) (one_class names classes c)
one_class_gives names done classes c s =
    let B : List Head = file_heads names 0 done in
    let own : ℕ = length classes.signs in
    let more : List Head = members_heads names own c.members in
    let own_is : own ≡ 0 + length done = s.count ∙ zero_plus (length done) in
    let heads : (B ++ more) ++ default_head own (has_constructor c.members) ≡ file_heads names 0 (done ++ c ∷ []) =
    append_assoc B more (default_head own (has_constructor c.members)) ∙
    ap (λ n. B ++ class_heads names n c.members) own_is ∙ sym (file_push names 0 done c) in
    subst (λ H. Gives (Signed H (length (done ++ c ∷ []))) (one_class names classes c)) heads
    (subst (λ n. Gives (Signed ((B ++ more) ++ default_head own (has_constructor c.members)) n)
    (one_class names classes c)) (sym (length_push done c))
    (bind (Meets (B ++ more) own (has_constructor c.members))
    (Signed ((B ++ more) ++ default_head own (has_constructor c.members)) (suc (length done)))
    (each (member_met names c.name.text) (nothing_met classes.next) c.members) _
    (members_give names c.name.text B own classes.next c.members s.next) (λ met h.
    class_gives B more (length done) classes c.name met (has_constructor c.members) met.constructor s h.next h.methods
    h.constructor h.is_made)))
  where
    zero_plus : (n : ℕ) → n ≡ 0 + n
    zero_plus n = omega arith

-- the declarations of classes have the heads of their text
pub class_signs_give : (names : List Text) (classes : List ClassTree) →
    Gives (Signed (file_heads names 0 classes) (length classes)) (class_signs names classes)
class_signs_give names classes =
    each_over (λ done s. Signed (file_heads names 0 done) (length done) s) (one_class names) []
    (record { signs = []; next = 0 }) classes
    (record { next = refl; count = refl; agree = λ c s e. absurd (some_none s e) })
    (λ done s c h. one_class_gives names done s c h)

-- there are as many names as classes
pub class_names_give : (classes : List ClassTree) → Gives (λ names. length names ≡ length classes) (class_names classes)
class_names_give classes =
    each_over (λ done names. length names ≡ length done) one_name [] [] classes refl (λ done names c h.
    unless (λ names. length names ≡ length (done ++ c ∷ [])) (is_reserved c.name.text) rules.ReservedClass c.name.span _
    (λ e.
    unless (λ names. length names ≡ length (done ++ c ∷ [])) (is_some (number_of names c.name.text)) rules.TwiceDeclared
    c.name.span _ (λ e.
    unless (λ names. length names ≡ length (done ++ c ∷ [])) (not (nat_lt (length names) most_classes)) rules.Limit
    c.name.span (Ok (names ++ c.name.text ∷ [])) (λ e.
    length_push names c.name.text ∙ ap suc h ∙ sym (length_push done c)))))
