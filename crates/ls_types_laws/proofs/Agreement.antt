-- A file and the locals agree with what is known in the code.
use Rattle.std.proofs.Common.{◌≡◌, ℕ, refl, sym, subst, ap, Bool, true, false, List, [], Option, Some, None, Ok}
use Rattle.std.specs.Prelude.{slice_get, bytes_eq, codes, if◌then◌else◌}
use Rattle.ls_lexer.specs.declared.token.Span.{Span}
use Rattle.ls_events.specs.declared.value.ValueType.{ValueType}
use Rattle.ls_events.specs.declared.value.ValueType.TheVariants.{Int, Boolean, BooleanArray, Class, Lock, Markable}
use Rattle.ls_checked.specs.declared.tree.Called.TheVariants.{Method as OfMethod}
use Rattle.ls_checked.specs.CheckedTree as checked
use Rattle.ls_meaning.specs.declared.sort.Sort.TheVariants.{ValueOf}
use Rattle.ls_meaning.specs.Expressions as meaning
use Rattle.ls_types_judgement.specs.Typing as typing
use Rattle.ls_types_judgement.specs.Typing.{IsTyped, AreTyped, answer_sort}
use Rattle.ls_types_elaboration.specs.declared.known.FoundField.{FoundField}
use Rattle.ls_types_elaboration.specs.declared.members.Makes.TheVariants.{ALock}
use Rattle.ls_types_elaboration.specs.declared.static_types.Static.{Static}
use Rattle.ls_types_elaboration.specs.declared.static_types.Static.TheVariants.{Of, NullType, Void}
use Rattle.ls_types_elaboration.specs.Trees.{Text, Name}
use Rattle.ls_types_elaboration.specs.Elaborated.{Elaborated}
use Rattle.ls_types_elaboration.specs.Known.{Known, Local, MethodSign, local_named, field_of, method_of, parameters_of}
use Rattle.ls_types_elaboration.specs.Known.{number_of}
use Rattle.ls_types_elaboration.specs.StaticTypes.{Typed, result_type}
use Rattle.ls_types_elaboration.specs.Members.{Member, Maker, made, method_member, lock_member, markable_member}
use Rattle.ls_types_elaboration.specs.Members.{member_of, found, maker_of, object_maker, markable_maker}
use Rattle.ls_types_elaboration.specs.TypedExpressions.{call_of, own_field, local_or, name_of, field_in, field_at}
use Rattle.ls_types_laws.proofs.Results.{Gives, either}
use Rattle.ls_types_laws.proofs.Lists.{Each, Grows, at_grown, each_found, each_weaker}
use Rattle.ls_types_laws.proofs.Shown.{Has, Shows}

-- method n of a file is of class c, with these parameters and this result
pub record IsThere (F : checked.File) (c n : ℕ) (ps : List ValueType) (r : Option ValueType) : Type 0 where
  pub method : checked.Method
  pub found : slice_get F.methods n ≡ Some method
  pub class : method.class ≡ c
  pub parameters : typing.parameters_of method ≡ ps
  pub result : method.result ≡ r

-- the file has what is known
pub record Agrees (F : checked.File) (known : Known) : Type 0 where
  pub field : (c : ℕ) (name : Text) (f : FoundField) →
      field_of known c name ≡ Some f →
      meaning.field_of F.classes c f.number ≡ ValueOf f.value_type
  pub method : (c : ℕ) (name : Text) (m : MethodSign) →
      method_of known c name ≡ Some m →
      IsThere F c m.number m.parameters m.result
  pub constructor : (c : ℕ) (name : Text) →
      number_of known.names name ≡ Some c →
      IsThere F c (meaning.constructor_of F.classes c) (parameters_of known c) None

-- the slots have `this` and the locals in scope
pub record Ready (known : Known) (locals : List Local) (W : List ValueType) : Type 0 where
  pub this : slice_get W 0 ≡ Some (Class known.own)
  pub in_scope : Each (λ l. slice_get W l.slot ≡ Some l.type) locals

-- locals that are in slots are in more slots too
pub ready_grown : (known : Known) (locals : List Local) (V W : List ValueType) →
    Grows V W →
    Ready known locals V →
    Ready known locals W
ready_grown known locals V W g r = record {
  this = at_grown V W 0 (Class known.own) g r.this;
  in_scope = each_weaker (λ l. slice_get V l.slot ≡ Some l.type) (λ l. slice_get W l.slot ≡ Some l.type) locals
      r.in_scope (λ l e. at_grown V W l.slot l.type g e);
}

-- names

this_typed : (F : checked.File) (known : Known) (locals : List Local) (W : List ValueType) →
    Ready known locals W →
    IsTyped F W (ValueOf (Class known.own)) (checked.Slot 0)
this_typed F known locals W r = (Class known.own, refl, r.this)

own_field_gives : (F : checked.File) (known : Known) (locals : List Local) (W : List ValueType) →
    Agrees F known →
    Ready known locals W →
    (name : Text) (s : Span) (o : Option FoundField) → field_of known known.own name ≡ o →
    Gives (Shows F W) (own_field known.own o s)
own_field_gives F known locals W a r name s None e = tt
own_field_gives F known locals W a r name s (Some f) e = (
  f.value_type,
  refl,
  a.field known.own name f e,
  this_typed F known locals W r,
)

local_gives : (F : checked.File) (known : Known) (locals : List Local) (W : List ValueType) →
    Ready known locals W →
    (name : Text) (o : Option Local) (other : Elaborated Typed) →
    local_named locals name ≡ o → Gives (Shows F W) other → Gives (Shows F W) (local_or o other)
local_gives F known locals W r name (Some l) other e h =
    (l.type, refl, each_found (λ l. slice_get W l.slot ≡ Some l.type) (λ l. bytes_eq l.name name) locals l r.in_scope e)
local_gives F known locals W r name None other e h = h

-- a simple name gives an expression of its type
pub name_gives : (F : checked.File) (known : Known) (locals : List Local) (W : List ValueType) →
    Agrees F known →
    Ready known locals W →
    (n : Name) →
    Gives (Shows F W) (name_of known locals n)
name_gives F known locals W a r n =
    local_gives F known locals W r n.text (local_named locals n.text)
    (own_field known.own (field_of known known.own n.text) n.span) refl
    (own_field_gives F known locals W a r n.text n.span (field_of known known.own n.text) refl)

field_in_gives : (F : checked.File) (known : Known) (W : List ValueType) →
    Agrees F known →
    (c : ℕ) (name : Text) (e : checked.Expression) (s : Span) (o : Option FoundField) →
    field_of known c name ≡ o → IsTyped F W (ValueOf (Class c)) e → Gives (Shows F W) (field_in c o e s)
field_in_gives F known W a c name e s None is h = tt
field_in_gives F known W a c name e s (Some f) is h = (f.value_type, refl, a.field c name f is, h)

-- a field of an object gives an expression of its type
pub field_gives : (F : checked.File) (known : Known) (W : List ValueType) →
    Agrees F known →
    (x : Static) (e : checked.Expression) (n : Name) →
    Has F W x e →
    Gives (Shows F W) (field_at known x e n)
field_gives F known W a (Of (Class c)) e n h = field_in_gives F known W a c n.text e n.span (field_of known c n.text)
    refl h
field_gives F known W a (Of Int) e n h = tt
field_gives F known W a (Of Boolean) e n h = tt
field_gives F known W a (Of BooleanArray) e n h = tt
field_gives F known W a (Of Lock) e n h = tt
field_gives F known W a (Of (Markable c)) e n h = tt
field_gives F known W a NullType e n h = tt
field_gives F known W a Void e n h = tt

-- what may be called on an expression: a call with arguments of its types is typed
abbrev pub MayCall : checked.File → List ValueType → checked.Expression → Member → Type 0
MayCall F W e m = (es : checked.Expressions) → AreTyped F W m.parameters es →
    IsTyped F W (answer_sort m.result) (checked.Call e m.called es)

call_shown : (F : checked.File) (W : List ValueType) (r : Option ValueType) (e : checked.Expression) →
    IsTyped F W (answer_sort r) e →
    Has F W (result_type r) e
call_shown F W None e h = h
call_shown F W (Some t) e h = h

-- a call gives an expression of the type of its answer
pub call_gives : (F : checked.File) (W : List ValueType) (m : Member) (e : checked.Expression)
    (es : checked.Expressions) →
    MayCall F W e m →
    AreTyped F W m.parameters es →
    Gives (Shows F W) (call_of m e es)
call_gives F W m e es may h = call_shown F W m.result (checked.Call e m.called es) (may es h)

there_called : (F : checked.File) (W : List ValueType) (c n : ℕ) (ps : List ValueType) (r : Option ValueType)
    (e : checked.Expression) (es : checked.Expressions) →
    IsThere F c n ps r → IsTyped F W (ValueOf (Class c)) e → AreTyped F W ps es →
    IsTyped F W (answer_sort r) (checked.Call e (OfMethod n) es)
there_called F W c n ps r e es is h hs = (
  is.method,
  is.found,
  ap answer_sort (sym is.result),
  subst (λ k. IsTyped F W (ValueOf (Class k)) e) (sym is.class) h,
  subst (λ ts. AreTyped F W ts es) (sym is.parameters) hs,
)

method_gives : (F : checked.File) (known : Known) (W : List ValueType) →
    Agrees F known →
    (c : ℕ) (name : Text) (e : checked.Expression) (s : Span) (o : Option MethodSign) →
    method_of known c name ≡ o → IsTyped F W (ValueOf (Class c)) e → Gives (MayCall F W e) (found (method_member o) s)
method_gives F known W a c name e s None is h = tt
method_gives F known W a c name e s (Some m) is h = λ es hs.
    there_called F W c m.number m.parameters m.result e es (a.method c name m is) h hs

-- a method of the own class may be called
pub own_method_gives : (F : checked.File) (known : Known) (locals : List Local) (W : List ValueType) →
    Agrees F known →
    Ready known locals W →
    (n : Name) →
    Gives (MayCall F W (checked.Slot 0)) (found (method_member (method_of known known.own n.text)) n.span)
own_method_gives F known locals W a r n =
    method_gives F known W a known.own n.text (checked.Slot 0) n.span (method_of known known.own n.text) refl
    (this_typed F known locals W r)

choose : (Q : Member → Type 0) (b : Bool) (x y : Option Member) (s : Span) →
    Gives Q (found x s) →
    Gives Q (found y s) →
    Gives Q (found (if b then x else y) s)
choose Q true x y s h k = h
choose Q false x y s h k = k

lock_gives : (F : checked.File) (W : List ValueType) (name : Text) (e : checked.Expression) (s : Span) →
    IsTyped F W (ValueOf Lock) e →
    Gives (MayCall F W e) (found (lock_member name) s)
lock_gives F W name e s h =
    choose (MayCall F W e) (bytes_eq name (codes "lock")) _ _ s (λ es hs. (refl, h, hs))
    (choose (MayCall F W e) (bytes_eq name (codes "unlock")) _ _ s (λ es hs. (refl, h, hs))
    (choose (MayCall F W e) (bytes_eq name (codes "tryLock")) _ _ s (λ es hs. (refl, h, hs))
    (choose (MayCall F W e) (bytes_eq name (codes "isHeldByCurrentThread")) _ _ s (λ es hs. (refl, h, hs)) tt)))

markable_gives : (F : checked.File) (W : List ValueType) (c : ℕ) (name : Text) (e : checked.Expression) (s : Span) →
    IsTyped F W (ValueOf (Markable c)) e →
    Gives (MayCall F W e) (found (markable_member c name) s)
markable_gives F W c name e s h =
    choose (MayCall F W e) (bytes_eq name (codes "getReference")) _ _ s (λ es hs. (refl, h, hs))
    (choose (MayCall F W e) (bytes_eq name (codes "isMarked")) _ _ s (λ es hs. (refl, h, hs))
    (choose (MayCall F W e) (bytes_eq name (codes "get")) _ _ s (λ es hs. (refl, h, hs))
    (choose (MayCall F W e) (bytes_eq name (codes "set")) _ _ s (λ es hs. (c, refl, h, hs))
    (choose (MayCall F W e) (bytes_eq name (codes "compareAndSet")) _ _ s (λ es hs. (c, refl, h, hs))
    (choose (MayCall F W e) (bytes_eq name (codes "attemptMark")) _ _ s (λ es hs. (c, refl, h, hs)) tt)))))

-- a member of a target may be called
pub member_gives : (F : checked.File) (known : Known) (W : List ValueType) →
    Agrees F known →
    (x : Static) (e : checked.Expression) (n : Name) →
    Has F W x e →
    Gives (MayCall F W e) (found (member_of known x n.text) n.span)
member_gives F known W a (Of (Class c)) e n h = method_gives F known W a c n.text e n.span (method_of known c n.text)
    refl h
member_gives F known W a (Of Lock) e n h = lock_gives F W n.text e n.span h
member_gives F known W a (Of (Markable c)) e n h = markable_gives F W c n.text e n.span h
member_gives F known W a (Of Int) e n h = tt
member_gives F known W a (Of Boolean) e n h = tt
member_gives F known W a (Of BooleanArray) e n h = tt
member_gives F known W a NullType e n h = tt
member_gives F known W a Void e n h = tt

-- what may be made
abbrev pub MayMake : checked.File → List ValueType → Maker → Type 0
MayMake F W m = (es : checked.Expressions) → AreTyped F W m.parameters es →
    IsTyped F W (ValueOf m.type) (made m.makes es)

object_gives : (F : checked.File) (known : Known) (W : List ValueType) →
    Agrees F known →
    (name : Text) (s : Span) (o : Option ℕ) →
    number_of known.names name ≡ o →
    Gives (MayMake F W) (object_maker known o s)
object_gives F known W a name s None is = tt
object_gives F known W a name s (Some c) is = λ es hs.
    let there : IsThere F c (meaning.constructor_of F.classes c) (parameters_of known c) None = a.constructor c name is
    in
    (there.method, there.found, refl, there.class, subst (λ ts. AreTyped F W ts es) (sym there.parameters) hs)

-- a class may be made
pub maker_gives : (F : checked.File) (known : Known) (W : List ValueType) →
    Agrees F known →
    (n : Name) →
    Gives (MayMake F W) (maker_of known n)
maker_gives F known W a n =
    either (MayMake F W) (bytes_eq n.text (codes "ReentrantLock"))
    (Ok (record { makes = ALock; parameters = []; type = Lock }))
    (object_maker known (number_of known.names n.text) n.span)
    (λ e es hs. refl) (λ e. object_gives F known W a n.text n.span (number_of known.names n.text) refl)

-- a markable may be made
pub markable_maker_gives : (F : checked.File) (W : List ValueType) (o : Option ℕ) (s : Span) →
    Gives (MayMake F W) (markable_maker o s)
markable_maker_gives F W None s = tt
markable_maker_gives F W (Some c) s = λ es hs. (refl, hs)
