-- Elaborated methods have the heads that are written, and are typed.
use Rattle.std.proofs.Common.{◌≡◌, ℕ, suc, ◌+◌, ◌≤◌, add-one, refl, sym, ◌∙◌, subst, ap, Bool, true, false, ◌&&◌, List}
use Rattle.std.proofs.Common.{[], ◌∷◌, ◌++◌, append_assoc, length, length-append, map, take, drop, Option, Some, None}
use Rattle.std.proofs.Common.{Ok, is_some, arith}
use Rattle.std.specs.Prelude.{slice_get, if◌then◌else◌}
use Rattle.ls_lexer.specs.declared.token.Span.{Span}
use Rattle.ls_events.specs.declared.value.ValueType.{ValueType}
use Rattle.ls_events.specs.declared.value.ValueType.TheVariants as types
use Rattle.ls_checked.specs.CheckedTree as checked
use Rattle.ls_meaning.specs.declared.sort.Sort.TheVariants.{ValueOf}
use Rattle.ls_types_judgement.specs.Typing.{IsTyped, IsTypedMethod}
use Rattle.ls_types_laws.proofs.Pairs.{EvaluatesNoPair}
use Rattle.ls_types_elaboration.specs.declared.rule.Rule.TheVariants as rules
use Rattle.ls_types_elaboration.specs.declared.known.FoundField.{FoundField}
use Rattle.ls_types_elaboration.specs.Trees as parsed
use Rattle.ls_types_elaboration.specs.Trees.{Text, Name, Expression, Declarator, Declaration, Parameter, Items}
use Rattle.ls_types_elaboration.specs.Trees.{ClassTree}
use Rattle.ls_types_elaboration.specs.Elaborated.{with_ok, each}
use Rattle.ls_types_elaboration.specs.Known.{Known, ClassSign, local_named, field_of, type_of, result_of}
use Rattle.ls_types_elaboration.specs.TypedExpressions.{fitting}
use Rattle.ls_types_judgement.specs.Completion.{can_complete}
use Rattle.ls_types_elaboration.specs.Scopes.{Body, Scope, with_variable}
use Rattle.ls_types_elaboration.specs.TypedStatements.{sequence}
use Rattle.ls_types_elaboration.specs.TypedMethods.{parameter, field_set, declarator_set, member_set, initialisers}
use Rattle.ls_types_elaboration.specs.TypedMethods.{all_items, method, written_method, written_constructor, one_method}
use Rattle.ls_types_elaboration.specs.TypedMethods.{has_constructor, default_constructor, class_methods}
use Rattle.ls_types_elaboration.specs.Elaboration.{Bodies, one_body, file_methods}
use Rattle.ls_types_laws.proofs.Results.{Gives, bind, unless, each_keeps, each_over}
use Rattle.ls_types_laws.proofs.Lists.{Each, each_push, Grows, grows_same, append_nil}
use Rattle.ls_types_laws.proofs.Agreement.{Agrees, Ready}
use Rattle.ls_types_laws.proofs.Bodies.{Fine, Later, fitting_later, Scoped, in_order, in_order_no_pair}
use Rattle.ls_types_laws.proofs.Done.{ready_with, all_items_give}
use Rattle.ls_types_laws.proofs.Heads.{Head, head, head_of, type_or, result_or, types_of, member_heads, members_heads}
use Rattle.ls_types_laws.proofs.Heads.{default_head, class_heads, file_heads, type_is, result_is, map_push, length_push}
use Rattle.ls_types_laws.proofs.Heads.{length_types, take_front, members_push, file_push}

-- a method is typed, and evaluates no pair
abbrev pub IsGood : checked.File → checked.Method → Type 0
IsGood F m = IsTypedMethod F m × EvaluatesNoPair m.body

-- statements before a body, if `this` is in slot 0
abbrev pub FrontIs : checked.File → Known → Option ValueType → List checked.Statement → Type 0
FrontIs F known r front = (W : List ValueType) → slice_get W 0 ≡ Some (types.Class known.own) → Agrees F known →
    Each (Fine F W r) front

-- initialisers

field_set_gives : (F : checked.File) (known : Known) (front : List checked.Statement) →
    FrontIs F known None front →
    (name : Text) (o : Option FoundField) →
    field_of known known.own name ≡ o →
    (v : Option Expression) → Gives (FrontIs F known None) (field_set known front o v)
field_set_gives F known front h name None is v = h
field_set_gives F known front h name (Some f) is None = h
field_set_gives F known front h name (Some f) is (Some e) =
    bind (λ v. Later F known (types.Class known.own ∷ []) (λ W. IsTyped F W (ValueOf f.value_type) v))
    (FrontIs F known None) (fitting known [] f.value_type e) _
    (fitting_later F known [] (types.Class known.own ∷ []) (record { this = refl; in_scope = tt }) f.value_type e)
    (λ v k W at a.
    each_push (Fine F W None) front (checked.SetField (checked.Slot 0) f.number v) (h W at a)
    ((known.own, f.value_type, a.field known.own name f is, (types.Class known.own, refl, at), k W (first W at) a), tt))
  where
    first : (W : List ValueType) → slice_get W 0 ≡ Some (types.Class known.own) → Grows (types.Class known.own ∷ []) W
    first [] e = absurd (none e)
      where
        none : None ≡ Some (types.Class known.own) → ⊥
        none e = cc
    first (t ∷ W) e = (W, ap (λ u. u ∷ W) (sym (same e)))
      where
        same : Some t ≡ Some (types.Class known.own) → t ≡ types.Class known.own
        same e = cc

member_set_gives : (F : checked.File) (known : Known) (front : List checked.Statement) (m : parsed.Member) →
    FrontIs F known None front →
    Gives (FrontIs F known None) (member_set known front m)
member_set_gives F known front (parsed.Fields d) h =
    each_keeps (FrontIs F known None) (declarator_set known) front (d.first ∷ d.more) h
    (λ front d h. field_set_gives F known front h d.name.text (field_of known known.own d.name.text) refl d.value)
member_set_gives F known front (parsed.Method sync r n ps body) h = h
member_set_gives F known front (parsed.Constructor n ps body) h = h

pub initialisers_give : (F : checked.File) (known : Known) (ms : List parsed.Member) →
    Gives (FrontIs F known None) (initialisers known ms)
initialisers_give F known ms = each_keeps (FrontIs F known None) (member_set known) [] ms (λ W at a. tt)
    (λ front m h. member_set_gives F known front m h)

-- parameters

record Begun (known : Known) (front : List checked.Statement) (ps : List Parameter) (scope : Scope) : Type 0 where
  slots : scope.slots.types ≡ types.Class known.own ∷ types_of known.names ps
  ready : Ready known scope.locals scope.slots.types
  statements : scope.statements ≡ front

parameter_gives : (body : Body) (front : List checked.Statement) (before : List Parameter) (scope : Scope)
    (p : Parameter) →
    Begun body.known front before scope →
    Gives (Begun body.known front (before ++ p ∷ [])) (parameter body scope p)
parameter_gives body front before scope p h =
    unless (Begun body.known front (before ++ p ∷ [])) (is_some (local_named scope.locals p.name.text))
    rules.TwiceDeclared p.name.span _ (λ e.
    unless (Begun body.known front (before ++ p ∷ [])) _ rules.Limit body.span _ (λ e.
    bind (λ t. t ≡ type_or (type_of body.known.names p.type_name)) (Begun body.known front (before ++ p ∷ []))
    (type_of body.known.names p.type_name) (λ t. Ok (with_variable scope p.name.text t))
    (type_is (type_of body.known.names p.type_name)) (λ t is. record {
      slots = ap (λ l. l ++ t ∷ []) h.slots
          ∙ ap (λ u. types.Class body.known.own ∷ (types_of body.known.names before ++ u ∷ [])) is
          ∙ ap (λ l. types.Class body.known.own ∷ l)
          (sym (map_push (λ p. type_or (type_of body.known.names p.type_name)) before p));
      ready = ready_with body.known scope p.name.text t h.ready;
      statements = h.statements;
    })))

-- methods

-- a method is typed, with this head
abbrev pub Whole : checked.File → Known → List ValueType → Option ValueType → checked.Method → Type 0
Whole F known ts r m = (head_of m ≡ head known.own ts r) × (Agrees F known → IsGood F m)

whole : (F : checked.File) (known : Known) (r : Option ValueType) (ps : List Parameter) (front : List checked.Statement)
    (scope out : Scope) (span : Span) →
    FrontIs F known r front →
    Begun known front ps scope → Scoped F (record { known = known; result = r; span = span }) scope out →
    Whole F known (types_of known.names ps) r (record {
      class = known.own;
      parameters = length ps;
      slots = out.slots.types;
      result = r;
      body = checked.Block (sequence out.statements);
    })
whole F known r ps front scope out span f h k =
    let ts : List ValueType = types_of known.names ps in
    let more : List ValueType = k.0.0 in
    let all : out.slots.types ≡ types.Class known.own ∷ (ts ++ more) = sym k.0.1 ∙ ap (λ l. l ++ more) h.slots in
    let count : length ts ≡ length ps = length_types known.names ps in
    let taken : take (length ps) (drop 1 out.slots.types) ≡ ts = ap (λ l. take (length ps) (drop 1 l)) all ∙
    ap (λ n. take n (ts ++ more)) (sym count) ∙ take_front ts more in
    let room : length ps ≤ length (ts ++ more) = omega (arith, count, length-append ts more) in (
      ap (λ l. head known.own l r) taken,
      λ a.
          let fine : Each (Fine F out.slots.types r) out.statements = k.2 out.slots.types (grows_same out.slots.types) a
          (subst (λ ss. Each (Fine F out.slots.types r) ss) (sym h.statements) (f out.slots.types k.1.this a))
          in (
            record {
              locals = ts ++ more;
              this = all;
              parameters = room;
              body = in_order F out.slots.types r out.statements fine;
            },
            in_order_no_pair F out.slots.types r out.statements fine,
          ),
    )

pub method_gives : (F : checked.File) (known : Known) (sync : Bool) (r : Option ValueType) (name : Name)
    (ps : List Parameter) (front : List checked.Statement) (block : Items) →
    FrontIs F known r front →
    Gives (Whole F known (types_of known.names ps) r) (method known sync r name ps front block)
method_gives F known sync r name ps front block f =
    let body : Body = record { known = known; result = r; span = name.span } in
    let start : Scope = record {
      statements = front;
      locals = [];
      slots = record { types = types.Class known.own ∷ []; named = 1 };
    } in
    bind (Begun known front ps) (Whole F known (types_of known.names ps) r) (each (parameter body) start ps) _
    (each_over (Begun known front) (parameter body) [] start ps
    (record { slots = refl; ready = record { this = refl; in_scope = tt }; statements = refl })
    (λ before scope p h. parameter_gives body front before scope p h)) (λ scope h.
    bind (Scoped F body scope) (Whole F known (types_of known.names ps) r) (all_items body sync scope block) _
    (all_items_give F body sync scope h.ready block) (λ out k.
    unless (Whole F known (types_of known.names ps) r) (is_some r && can_complete
    (checked.Block (sequence out.statements))) rules.MissingReturn name.span
    (Ok (record {
      class = known.own;
      parameters = length ps;
      slots = out.slots.types;
      result = r;
      body = checked.Block (sequence out.statements);
    })) (λ e. whole F known r ps front scope out name.span f h k)))

-- methods so far

abbrev pub Listed : checked.File → Known → List Head → List checked.Method → Type 0
Listed F known hs ms = (map head_of ms ≡ hs) × (Agrees F known → Each (IsGood F) ms)

listed_push : (F : checked.File) (known : Known) (hs : List Head) (ms : List checked.Method) (ts : List ValueType)
    (r : Option ValueType) (m : checked.Method) →
    Listed F known hs ms →
    Whole F known ts r m → Listed F known (hs ++ head known.own ts r ∷ []) (ms ++ m ∷ [])
listed_push F known hs ms ts r m h w = (
  map_push head_of ms m ∙ ap (λ l. l ++ head_of m ∷ []) h.0 ∙ ap (λ z. hs ++ z ∷ []) w.0,
  λ a. each_push (IsGood F) ms m (h.1 a) (w.1 a),
)

one_method_gives : (F : checked.File) (known : Known) (members : List parsed.Member) (hs : List Head)
    (before : List checked.Method) (m : parsed.Member) →
    Listed F known hs before →
    Gives (Listed F known (hs ++ member_heads known.names known.own m)) (one_method known members before m)
one_method_gives F known members hs before (parsed.Fields d) h = (h.0 ∙ sym (append_nil hs), h.1)
one_method_gives F known members hs before (parsed.Method sync r n ps block) h =
    let Q : checked.Method → Type 0 = Whole F known (types_of known.names ps) (result_or (result_of known.names r)) in
    bind Q (Listed F known (hs ++ member_heads known.names known.own (parsed.Method sync r n ps block)))
    (written_method known sync r n ps block) _
    (bind (λ z. z ≡ result_or (result_of known.names r)) Q (result_of known.names r) _
    (result_is (result_of known.names r)) (λ z is.
    subst (λ y. Gives (Whole F known (types_of known.names ps) y) (method known sync z n ps [] block)) is
    (method_gives F known sync z n ps [] block (λ W at a. tt)))) (λ m w.
    listed_push F known hs before (types_of known.names ps) (result_or (result_of known.names r)) m h w)
one_method_gives F known members hs before (parsed.Constructor n ps block) h =
    let Q : checked.Method → Type 0 = Whole F known (types_of known.names ps) None in
    bind Q (Listed F known (hs ++ member_heads known.names known.own (parsed.Constructor n ps block)))
    (written_constructor known members n ps block) _
    (bind (FrontIs F known None) Q (initialisers known members) _ (initialisers_give F known members)
    (λ front f. method_gives F known false None n ps front block f)) (λ m w.
    listed_push F known hs before (types_of known.names ps) None m h w)

default_whole : (F : checked.File) (known : Known) (front : List checked.Statement) → FrontIs F known None front →
    Whole F known [] None (record {
      class = known.own;
      parameters = 0;
      slots = types.Class known.own ∷ [];
      result = None;
      body = checked.Block (sequence front);
    })
default_whole F known front f = (
  refl,
  λ a. (
    record {
      locals = [];
      this = refl;
      parameters = omega arith;
      body = in_order F (types.Class known.own ∷ []) None front (f (types.Class known.own ∷ []) refl a);
    },
    in_order_no_pair F (types.Class known.own ∷ []) None front (f (types.Class known.own ∷ []) refl a),
  ),
)

default_gives : (F : checked.File) (known : Known) (members : List parsed.Member) (hs : List Head)
    (before : List checked.Method) →
    Listed F known hs before →
    (b : Bool) → Gives (Listed F known (hs ++ default_head known.own b)) (if b then Ok before
    else with_ok (initialisers known members) (λ front. Ok (before ++ record {
      class = known.own;
      parameters = 0;
      slots = types.Class known.own ∷ [];
      result = None;
      body = checked.Block (sequence front);
    } ∷ [])))
default_gives F known members hs before h true = (h.0 ∙ sym (append_nil hs), h.1)
default_gives F known members hs before h false =
    bind (FrontIs F known None) (Listed F known (hs ++ default_head known.own false)) (initialisers known members) _
    (initialisers_give F known members) (λ front f.
    listed_push F known hs before [] None (record {
      class = known.own;
      parameters = 0;
      slots = types.Class known.own ∷
          [];
      result = None;
      body = checked.Block (sequence front);
    }) h
    (default_whole F known front f))

pub class_methods_give : (F : checked.File) (known : Known) (hs : List Head) (before : List checked.Method)
    (members : List parsed.Member) →
    Listed F known hs before →
    Gives (Listed F known (hs ++ class_heads known.names known.own members)) (class_methods known before members)
class_methods_give F known hs before members h =
    bind (Listed F known (hs ++ members_heads known.names known.own members))
    (Listed F known (hs ++ class_heads known.names known.own members))
    (each (one_method known members) before members) _
    (each_over (λ done ms. Listed F known (hs ++ members_heads known.names known.own done) ms)
    (one_method known members) [] before members (h.0 ∙ sym (append_nil hs), h.1) (λ done ms m k.
    subst (λ l. Gives (Listed F known l) (one_method known members ms m)) (one_more done m)
    (one_method_gives F known members (hs ++ members_heads known.names known.own done) ms m k)))
    (λ ms k. subst (λ l. Gives (Listed F known l) (default_constructor known members ms))
    (append_assoc hs (members_heads known.names known.own members)
    (default_head known.own (has_constructor members)))
    (default_gives F known members (hs ++ members_heads known.names known.own members) ms k (has_constructor members)))
  where
    one_more : (done : List parsed.Member) (m : parsed.Member) →
        (hs ++ members_heads known.names known.own done) ++ member_heads known.names known.own m ≡ hs ++
        members_heads known.names known.own (done ++ m ∷ [])
    one_more done m = append_assoc hs (members_heads known.names known.own done) (member_heads known.names known.own m)
        ∙ ap (λ l. hs ++ l) (sym (members_push known.names known.own done m))

-- the methods of all classes

-- what is known in the class of a number
abbrev pub known_at : List Text → List ClassSign → ℕ → Known
known_at names signs own = record { names = names; classes = signs; own = own }

pub agrees_at : (F : checked.File) (names : List Text) (signs : List ClassSign) (m n : ℕ) →
    Agrees F (known_at names signs m) →
    Agrees F (known_at names signs n)
agrees_at F names signs m n a = record { field = a.field; method = a.method; constructor = a.constructor }

-- the methods so far are typed, with the heads of their classes
abbrev pub Built : checked.File → List Text → List ClassSign → List ClassTree → Bodies → Type 0
Built F names signs done b = (b.own ≡ length done) × Listed F (known_at names signs 0) (file_heads names 0 done)
    b.methods

one_body_gives : (F : checked.File) (names : List Text) (signs : List ClassSign) (done : List ClassTree) (b : Bodies)
    (c : ClassTree) →
    Built F names signs done b →
    Gives (Built F names signs (done ++ c ∷ [])) (one_body names signs b c)
one_body_gives F names signs done b c h =
    let hs : List Head = file_heads names 0 done in
    let known : Known = known_at names signs b.own in
    bind (Listed F known (hs ++ class_heads names b.own c.members)) (Built F names signs (done ++ c ∷ []))
    (class_methods known b.methods c.members) _
    (class_methods_give F known hs b.methods c.members (h.1.0, λ a. h.1.1 (agrees_at F names signs b.own 0 a))) (λ ms k.
    let own_is : b.own ≡ 0 + length done = h.0 ∙ zero_plus (length done) in
    let own_next : b.own + 1 ≡ length (done ++ c ∷ []) = add-one b.own ∙ ap suc h.0 ∙ sym (length_push done c) in (
      own_next,
      (
        k.0 ∙ ap (λ n. hs ++ class_heads names n c.members) own_is ∙ sym (file_push names 0 done c),
        λ a. k.1 (agrees_at F names signs 0 b.own a),
      ),
    ))
  where
    zero_plus : (n : ℕ) → n ≡ 0 + n
    zero_plus n = omega arith

-- the methods of a file are typed, with the heads of the file
pub file_methods_give : (F : checked.File) (names : List Text) (signs : List ClassSign) (classes : List ClassTree) →
    Gives (Built F names signs classes) (file_methods names signs classes)
file_methods_give F names signs classes =
    each_over (Built F names signs) (one_body names signs) [] (record { methods = []; own = 0 }) classes
    (refl, (refl, λ a. tt)) (λ done b c h. one_body_gives F names signs done b c h)
