-- An elaborated expression is typed.
use Rattle.std.proofs.Common.{◌≡◌, ℕ, refl, Bool, true, false, List, [], ◌∷◌, pos, negsuc, nat_lt, ltb-true, lit<}
use Rattle.std.proofs.Common.{FitsSigned}
use Rattle.std.specs.Prelude.{if◌then◌else◌, bytes_eq, codes}
use mir.Syntax.{w32}
use Rattle.ls_lexer.specs.declared.token.Span.{Span}
use Rattle.ls_events.specs.declared.value.Value.TheVariants as values
use Rattle.ls_events.specs.declared.value.ValueType.{ValueType}
use Rattle.ls_events.specs.declared.value.ValueType.TheVariants.{Int, BooleanArray, Class}
use Rattle.ls_checked.specs.CheckedTree as checked
use Rattle.ls_meaning.specs.declared.sort.Sort.TheVariants.{ValueOf}
use Rattle.ls_types_judgement.specs.Typing.{IsTyped, AreTyped}
use Rattle.ls_types_elaboration.specs.declared.rule.Rule.TheVariants as rules
use Rattle.ls_types_elaboration.specs.Trees
use Rattle.ls_types_elaboration.specs.Trees.{Text, Name, Expression, Expressions, span_of}
use Rattle.ls_types_elaboration.specs.Elaborated.{broken, with_ok}
use Rattle.ls_types_elaboration.specs.Known.{Known, Local, method_of, number_of}
use Rattle.ls_types_elaboration.specs.StaticTypes.{typed_as, as_type, as_array}
use Rattle.ls_types_elaboration.specs.Members.{method_member, member_of, found, maker_of, markable_maker}
use Rattle.ls_types_elaboration.specs.TypedExpressions.{digits_value, is_integer, integer_constant, field_at, typed}
use Rattle.ls_types_elaboration.specs.TypedExpressions.{counts, passed, fitting}
use Rattle.ls_types_elaboration.specs.declared.mismatch.Counts.{Counts}
use Rattle.ls_types_laws.proofs.Results.{Gives, bind, either}
use Rattle.ls_types_laws.proofs.Shown.{Shows, as_type_gives, as_value_gives, as_array_gives, unary_gives, binary_gives}
use Rattle.ls_types_laws.proofs.Agreement.{Agrees, Ready, MayCall, MayMake, name_gives, field_gives, call_gives}
use Rattle.ls_types_laws.proofs.Agreement.{own_method_gives, member_gives, maker_gives, markable_maker_gives}

int_fits : (b : Bool) (n : ℕ) → nat_lt n 2147483648 ≡ b → FitsSigned w32 (if b then pos n else negsuc 2147483647)
int_fits true n e = record { sfits = ltb-true n 2147483648 e }
int_fits false n e = record { sfits = lit< tt }

constant_gives : (F : checked.File) (W : List ValueType) (n : Name) → Gives (Shows F W) (integer_constant n)
constant_gives F W n =
    either (Shows F W) (bytes_eq n.text (codes "MIN_VALUE"))
    (typed_as Int (checked.Literal (values.Int (negsuc 2147483647)))) _ (λ e. record { sfits = lit< tt })
    (λ e. either (Shows F W) (bytes_eq n.text (codes "MAX_VALUE"))
    (typed_as Int (checked.Literal (values.Int (pos 2147483647)))) (broken rules.UnknownName n.span)
    (λ e. record { sfits = lit< tt }) (λ e. tt))

mutual
  -- each expression gives one of its type
  pub typed_gives : (F : checked.File) (known : Known) (locals : List Local) (W : List ValueType) →
      Agrees F known →
      Ready known locals W →
      (e : Expression) →
      Gives (Shows F W) (typed known locals e)
  typed_gives F known locals W a r (Trees.Number text span) = int_fits (nat_lt (digits_value 0 text) 2147483648)
      (digits_value 0 text) refl
  typed_gives F known locals W a r (Trees.True span) = tt
  typed_gives F known locals W a r (Trees.False span) = tt
  typed_gives F known locals W a r (Trees.Null span) = refl
  typed_gives F known locals W a r (Trees.This span) = (Class known.own, refl, r.this)
  typed_gives F known locals W a r (Trees.Named n) = name_gives F known locals W a r n
  typed_gives F known locals W a r (Trees.Paren inner span) =
      bind (Shows F W) (Shows F W) (typed known locals inner) _ (typed_gives F known locals W a r inner)
      (λ x h. as_value_gives F W (span_of inner) x h)
  typed_gives F known locals W a r (Trees.Unary op operand span) =
      bind (Shows F W) (Shows F W) (typed known locals operand) _ (typed_gives F known locals W a r operand)
      (λ x h. unary_gives F W op (span_of operand) x h)
  typed_gives F known locals W a r (Trees.Binary op left right span) =
      bind (Shows F W) (Shows F W) (typed known locals left) _ (typed_gives F known locals W a r left) (λ x h.
      bind (Shows F W) (Shows F W) (typed known locals right) _ (typed_gives F known locals W a r right) (λ y k.
      binary_gives F W op span (span_of left) (span_of right) x y h k))
  typed_gives F known locals W a r (Trees.Field target n span) =
      either (Shows F W) (is_integer known locals target) (integer_constant n)
      (with_ok (typed known locals target) (λ x. field_at known x.static x.expression n))
      (λ e. constant_gives F W n)
      (λ e. bind (Shows F W) (Shows F W) (typed known locals target) _ (typed_gives F known locals W a r target)
      (λ x h. field_gives F known W a x.static x.expression n h))
  typed_gives F known locals W a r (Trees.Call n es span) =
      bind (MayCall F W (checked.Slot 0)) (Shows F W) (found (method_member (method_of known known.own n.text)) n.span)
      _ (own_method_gives F known locals W a r n) (λ m may.
      bind (AreTyped F W m.parameters) (Shows F W) (passed known locals (counts m.parameters es) m.parameters es span) _
      (passed_gives F known locals W a r (counts m.parameters es) m.parameters es span) (λ es hs.
      call_gives F W m (checked.Slot 0) es may hs))
  typed_gives F known locals W a r (Trees.CallOn target n es span) =
      bind (Shows F W) (Shows F W) (typed known locals target) _ (typed_gives F known locals W a r target) (λ x h.
      bind (MayCall F W x.expression) (Shows F W) (found (member_of known x.static n.text) n.span) _
      (member_gives F known W a x.static x.expression n h) (λ m may.
      bind (AreTyped F W m.parameters) (Shows F W) (passed known locals (counts m.parameters es) m.parameters es span) _
      (passed_gives F known locals W a r (counts m.parameters es) m.parameters es span) (λ es hs.
      call_gives F W m x.expression es may hs)))
  typed_gives F known locals W a r (Trees.Item array index span) =
      bind (Shows F W) (Shows F W) (typed known locals array) _ (typed_gives F known locals W a r array) (λ x h.
      bind (IsTyped F W (ValueOf BooleanArray)) (Shows F W) (as_array (span_of array) x) _
      (as_array_gives F W (span_of array) x h) (λ a' p.
      bind (Shows F W) (Shows F W) (typed known locals index) _ (typed_gives F known locals W a r index) (λ y k.
      bind (IsTyped F W (ValueOf Int)) (Shows F W) (as_type Int (span_of index) y) _
      (as_type_gives F W Int (span_of index) y k) (λ i q. (refl, p, q)))))
  typed_gives F known locals W a r (Trees.New n es span) =
      bind (MayMake F W) (Shows F W) (maker_of known n) _ (maker_gives F known W a n) (λ m may.
      bind (AreTyped F W m.parameters) (Shows F W) (passed known locals (counts m.parameters es) m.parameters es span) _
      (passed_gives F known locals W a r (counts m.parameters es) m.parameters es span) (λ es hs. may es hs))
  typed_gives F known locals W a r (Trees.NewMarkable n es span) =
      bind (MayMake F W) (Shows F W) (markable_maker (number_of known.names n.text) n.span) _
      (markable_maker_gives F W (number_of known.names n.text) n.span) (λ m may.
      bind (AreTyped F W m.parameters) (Shows F W) (passed known locals (counts m.parameters es) m.parameters es span) _
      (passed_gives F known locals W a r (counts m.parameters es) m.parameters es span) (λ es hs. may es hs))
  typed_gives F known locals W a r (Trees.NewArray length span) =
      bind (Shows F W) (Shows F W) (typed known locals length) _ (typed_gives F known locals W a r length) (λ x h.
      bind (IsTyped F W (ValueOf Int)) (Shows F W) (as_type Int (span_of length) x) _
      (as_type_gives F W Int (span_of length) x h) (λ n k. (refl, k)))

  passed_gives : (F : checked.File) (known : Known) (locals : List Local) (W : List ValueType) →
      Agrees F known →
      Ready known locals W →
      (n : Counts) (ts : List ValueType) (es : Expressions) (s : Span) →
      Gives (AreTyped F W ts) (passed known locals n ts es s)
  passed_gives F known locals W a r n [] Trees.End s = tt
  passed_gives F known locals W a r n (t ∷ ts) (Trees.More e es) s =
      bind (Shows F W) (AreTyped F W (t ∷ ts)) (typed known locals e) _ (typed_gives F known locals W a r e) (λ x h.
      bind (IsTyped F W (ValueOf t)) (AreTyped F W (t ∷ ts)) (as_type t (span_of e) x) _
      (as_type_gives F W t (span_of e) x h) (λ v k.
      bind (AreTyped F W ts) (AreTyped F W (t ∷ ts)) (passed known locals n ts es s) _
      (passed_gives F known locals W a r n ts es s) (λ rest ks. (k, ks))))
  passed_gives F known locals W a r n [] (Trees.More e es) s = tt
  passed_gives F known locals W a r n (t ∷ ts) Trees.End s = tt

-- each expression that fits gives one of the wanted type
pub fitting_gives : (F : checked.File) (known : Known) (locals : List Local) (W : List ValueType) →
    Agrees F known →
    Ready known locals W →
    (t : ValueType) (e : Expression) →
    Gives (IsTyped F W (ValueOf t)) (fitting known locals t e)
fitting_gives F known locals W a r t e =
    bind (Shows F W) (IsTyped F W (ValueOf t)) (typed known locals e) _ (typed_gives F known locals W a r e)
    (λ x h. as_type_gives F W t (span_of e) x h)
