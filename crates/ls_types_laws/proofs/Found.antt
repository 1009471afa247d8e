-- What names find in a file that has the heads that are written.
use Rattle.std.proofs.Common.{◌≡◌, ℕ, zero, suc, ◌+◌, ◌<◌, add-one, refl, sym, ◌∙◌, subst, ap, Bool, true, false, cond}
use Rattle.std.proofs.Common.{List, [], ◌∷◌, length, map, Option, Some, None, option_map, bytes_eq, arith}
use Rattle.std.specs.Prelude.{slice_get}
use Rattle.std.proofs.lemmas.Option.{slice_get-map}
use Rattle.ls_events.specs.declared.value.ValueType.{ValueType}
use Rattle.ls_checked.specs.CheckedTree as checked
use Rattle.ls_meaning.specs.declared.sort.Sort.TheVariants.{ValueOf}
use Rattle.ls_meaning.specs.Expressions as meaning
use Rattle.ls_types_elaboration.specs.declared.known.FoundField.{FoundField}
use Rattle.ls_types_elaboration.specs.Trees.{Text}
use Rattle.ls_types_elaboration.specs.Known.{FieldSign, MethodSign, ClassSign, number_of, field_named, method_named}
use Rattle.ls_types_elaboration.specs.Known.{fields_in, methods_in, parameters_in, parameters_of}
use Rattle.ls_types_elaboration.specs.Signs.{Classes}
use Rattle.ls_types_elaboration.specs.Elaboration.{checked_class}
use Rattle.ls_types_laws.proofs.Lists.{each_found, same_some, some_none}
use Rattle.ls_types_laws.proofs.Agreement.{IsThere, Agrees}
use Rattle.ls_types_laws.proofs.Heads.{Head, head, head_of}
use Rattle.ls_types_laws.proofs.Methods.{known_at}
use Rattle.ls_types_laws.proofs.Declared.{ClassAgrees, Signed}

-- fields
abbrev types_in : List FieldSign → List ValueType
types_in fs = map (λ f. f.type) fs

field_number : (b : Bool) (g : FieldSign) (fs : List FieldSign) (o : Option FoundField) →
    ((x : FoundField) → o ≡ Some x → slice_get (types_in fs) x.number ≡ Some x.value_type) →
    (f : FoundField) →
    cond b (Some (record { number = 0; value_type = g.type }))
    (option_map (λ x. record { number = x.number + 1; value_type = x.value_type }) o) ≡ Some f →
    slice_get (types_in (g ∷ fs)) f.number ≡ Some f.value_type
field_number true g fs o h f e =
    subst (λ (x : FoundField). slice_get (types_in (g ∷ fs)) x.number ≡ Some x.value_type)
    (same_some (record { number = 0; value_type = g.type }) f e) refl
field_number false g fs None h f e = absurd (some_none f e)
field_number false g fs (Some x) h f e =
    subst (λ (x : FoundField). slice_get (types_in (g ∷ fs)) x.number ≡ Some x.value_type)
    (same_some (record { number = x.number + 1; value_type = x.value_type }) f e)
    (ap (slice_get (types_in (g ∷ fs))) (add-one x.number) ∙ h x refl)

field_named_at : (fs : List FieldSign) (name : Text) (f : FoundField) →
    field_named fs name ≡ Some f →
    slice_get (types_in fs) f.number ≡ Some f.value_type
field_named_at [] name f e = absurd (some_none f e)
field_named_at (g ∷ fs) name f e = field_number (bytes_eq g.name name) g fs (field_named fs name)
    (λ x is. field_named_at fs name x is) f e

field_there : (o : Option ClassSign) (name : Text) (f : FoundField) →
    field_named (fields_in o) name ≡ Some f →
    meaning.field_in (option_map checked_class o) f.number ≡ ValueOf f.value_type
field_there None name f e = absurd (some_none f e)
field_there (Some s) name f e = ap meaning.value_in (field_named_at s.fields name f e)

-- methods
there_in : (F : checked.File) (c n : ℕ) (ts : List ValueType) (r : Option ValueType) (o : Option checked.Method) →
    slice_get F.methods n ≡ o →
    option_map head_of o ≡ Some (head c ts r) →
    IsThere F c n ts r
there_in F c n ts r None is e = absurd (some_none (head c ts r) e)
there_in F c n ts r (Some m) is e =
    let same : head_of m ≡ head c ts r = same_some (head_of m) (head c ts r) e in
    record {
      method = m;
      found = is;
      class = ap (λ (h : Head). h.class) same;
      parameters = ap (λ (h : Head). h.parameters) same;
      result = ap (λ (h : Head). h.result) same;
    }

there : (F : checked.File) (H : List Head) (c n : ℕ) (ts : List ValueType) (r : Option ValueType) →
    map head_of F.methods ≡ H →
    slice_get H n ≡ Some (head c ts r) →
    IsThere F c n ts r
there F H c n ts r same e =
    there_in F c n ts r (slice_get F.methods n) refl (sym (slice_get-map head_of F.methods n) ∙
    ap (λ (l : List Head). slice_get l n) same ∙ e)

method_there : (F : checked.File) (H : List Head) (c : ℕ) (o : Option ClassSign) (name : Text) (m : MethodSign) →
    map head_of F.methods ≡ H →
    ((s : ClassSign) → o ≡ Some s → ClassAgrees H c s) →
    method_named (methods_in o) name ≡ Some m → IsThere F c m.number m.parameters m.result
method_there F H c None name m same agree e = absurd (some_none m e)
method_there F H c (Some s) name m same agree e =
    there F H c m.number m.parameters m.result same
    (each_found (λ m. slice_get H m.number ≡ Some (head c m.parameters m.result)) (λ m. bytes_eq m.name name) s.methods
    m (agree s refl).methods e)

-- constructors
number_next : (b : Bool) (o : Option ℕ) (n c : ℕ) →
    ((d : ℕ) → o ≡ Some d → d < n) →
    cond b (Some 0) (option_map (λ i. i + 1) o) ≡ Some c →
    c < suc n
number_next true o n c h e = subst (λ c. c < suc n) (same_some 0 c e) (omega arith)
number_next false None n c h e = absurd (some_none c e)
number_next false (Some d) n c h e = let below : d < n = h d refl in
    subst (λ c. c < suc n) (same_some (d + 1) c e) (omega (arith, below))

-- the number of a class is below the number of classes
pub number_below : (names : List Text) (name : Text) (c : ℕ) → number_of names name ≡ Some c → c < length names
number_below [] name c e = absurd (some_none c e)
number_below (n ∷ names) name c e = number_next (bytes_eq n name) (number_of names name) (length names) c
    (λ d is. number_below names name d is) e

stands_at : {A : Type 0} (xs : List A) (n : ℕ) → n < length xs → (x : A) × (slice_get xs n ≡ Some x)
stands_at [] n l = absurd (omega (arith, l))
stands_at (x ∷ xs) zero l = (x, refl)
stands_at (x ∷ xs) (suc n) l = stands_at xs n (omega (arith, l))

-- the file has what is known
pub agrees : (F : checked.File) (names : List Text) (classes : Classes) (H : List Head) (count : ℕ) →
    F.classes ≡ map checked_class classes.signs →
    map head_of F.methods ≡ H →
    length names ≡ count →
    Signed H count classes → Agrees F (known_at names classes.signs 0)
agrees F names classes H count are same long s = record {
  field = λ c name f e. ap (λ (cs : List checked.Class). meaning.field_of cs c f.number) are
      ∙ ap (λ (o : Option checked.Class). meaning.field_in o f.number) (slice_get-map checked_class classes.signs c)
      ∙ field_there (slice_get classes.signs c) name f e;
  method = λ c name m e. method_there F H c (slice_get classes.signs c) name m same (λ x is. s.agree c x is) e;
  constructor = λ c name e.
      let below : c < length names = number_below names name c e in
      let lengths : length classes.signs ≡ count = s.count in
      let at : (x : ClassSign) × (slice_get classes.signs c ≡ Some x) = stands_at classes.signs c
      (omega (arith, below, lengths, long)) in
      let number : meaning.constructor_of F.classes c ≡ at.0.constructor = ap
      (λ (cs : List checked.Class). meaning.constructor_of cs c) are
      ∙ ap (λ (o : Option checked.Class). meaning.constructor_in o)
      (slice_get-map checked_class classes.signs c ∙ ap (option_map checked_class) at.1) in
      let parameters : parameters_of (known_at names classes.signs 0) c ≡ at.0.parameters = ap parameters_in at.1 in
      subst (λ n. IsThere F c n (parameters_of (known_at names classes.signs 0) c) None) (sym number)
      (subst (λ ts. IsThere F c at.0.constructor ts None) (sym parameters)
      (there F H c at.0.constructor at.0.parameters None same (s.agree c at.0 at.1).constructor));
}
