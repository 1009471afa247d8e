-- Programs of the class text: if their setup makes one list, all other calls are set calls on it.
use Rattle.std.proofs.Common.{◌≡◌, inl, inr, ◌∙◌, ◌<◌, ◌≤◌, ◌^◌, ℕ, zero, suc, Bool, true, false, cond, List, []}
use Rattle.std.proofs.Common.{◌∷◌, ◌++◌, append-nil, append_assoc, length, Some, None, codes, refl, sym, ap, ap₂}
use Rattle.std.proofs.Common.{subst, arith}
use Rattle.std.specs.Prelude.{slice_get, bytes_eq}
use Rattle.std.proofs.lemmas.Option.{none-some}
use Rattle.std.proofs.lemmas.Slice.Eq.{bytes_eq-Decides}
use Rattle.ls_events.specs.declared.value.Value.{Value}
use Rattle.ls_events.specs.declared.value.Value.TheVariants as values
use Rattle.ls_events.specs.declared.value.ValueType.TheVariants as types
use Rattle.ls_checked.specs.Limits.{most_calls}
use Rattle.ls_checked.specs.CheckedProgram.{Program, ThreadProgram, ProgramCall, Making, SetupName}
use Rattle.ls_serial.proofs.Lists.{some_is}
use Rattle.ls_types_elaboration.specs.Trees.{Text}
use Rattle.ls_types_elaboration.specs.Known.{MethodSign, method_named, methods_in, parameters_in}
use Rattle.ls_types_programs.specs.Programs as programs
use Rattle.ls_types_programs.specs.Programs.{AreCallsOf, AreFor, AreThreadsOf, IsProgramOf, type_of}
use Rattle.ls_one_at_a_time.specs.CoarseList.{of_list}
use Rattle.ls_coarse_set.specs.Laws.{AllSmallSetCalls, AreSmallSetCalls, IsNameOf, IsSmallItem}
use Rattle.ls_coarse_text.specs.Laws.{HasSmallItems, IsSmall, values_of}
use Rattle.ls_coarse_text.proofs.Elaborated.{outcome}

-- ---- one call

one_int : (vs : List Value) → AreFor (types.Int ∷ []) vs →
    ((i : ℕ) (v : Value) → slice_get vs i ≡ Some v → IsSmall v) → IsSmallItem vs
one_int [] fit small = absurd cc
one_int (values.Int z ∷ []) fit small = small 0 (values.Int z) refl
one_int (values.Boolean b ∷ []) fit small = absurd cc
one_int (values.Reference n ∷ []) fit small = absurd cc
one_int (values.Pair n m ∷ []) fit small = absurd cc
one_int (v ∷ w ∷ vs) fit small = absurd cc

no_value : (vs : List Value) → AreFor [] vs → vs ≡ []
no_value [] fit = refl
no_value (v ∷ vs) fit = absurd cc

-- a method of the list: its number, name and parameters
abbrev IsSetMethod : Text → MethodSign → Type 0
IsSetMethod name m = IsNameOf m.number name × (m.parameters ≡ types.Int ∷ [])

abbrev is_named : Text → MethodSign → Bool
is_named name m = bytes_eq m.name name

set_method : (name : Text) (m : MethodSign) → method_named (methods_in (slice_get outcome.signs 1)) name ≡ Some m →
    IsSetMethod name m
set_method name m is = by_add (bytes_eq (codes "add") name) refl is
  where
    spelled : (word : Text) → bytes_eq word name ≡ true → name ≡ word
    spelled word e = sym ((bytes_eq-Decides word name).0 e)

    sign : ℕ → Text → MethodSign
    sign n word = record { name = word; number = n; parameters = types.Int ∷ []; result = Some types.Boolean }

    as_sign : (n : ℕ) (word : Text) → Some (sign n word) ≡ Some m → IsNameOf n name → IsSetMethod name m
    as_sign n word same named = subst (IsSetMethod name) (some_is same) (named, refl)

    by_contains : (b : Bool) → bytes_eq (codes "contains") name ≡ b →
        cond b (Some (sign 4 (codes "contains"))) None ≡ Some m → IsSetMethod name m
    by_contains true e found = as_sign 4 (codes "contains") found (inr (inr (refl, spelled (codes "contains") e)))
    by_contains false e found = absurd (none-some _ found)

    by_remove : (b : Bool) → bytes_eq (codes "remove") name ≡ b →
        cond b (Some (sign 3 (codes "remove")))
        (cond (bytes_eq (codes "contains") name) (Some (sign 4 (codes "contains"))) None) ≡ Some m →
        IsSetMethod name m
    by_remove true e found = as_sign 3 (codes "remove") found (inr (inl (refl, spelled (codes "remove") e)))
    by_remove false e found = by_contains (bytes_eq (codes "contains") name) refl found

    by_add : (b : Bool) → bytes_eq (codes "add") name ≡ b →
        cond b (Some (sign 2 (codes "add")))
        (cond (bytes_eq (codes "remove") name) (Some (sign 3 (codes "remove")))
        (cond (bytes_eq (codes "contains") name) (Some (sign 4 (codes "contains"))) None)) ≡ Some m →
        IsSetMethod name m
    by_add true e found = as_sign 2 (codes "add") found (inl (refl, spelled (codes "add") e))
    by_add false e found = by_remove (bytes_eq (codes "remove") name) refl found

-- ---- calls with one name

-- names are only added
grows : {in_setup : Bool} {given all : List SetupName} {cs : List ProgramCall} →
    AreCallsOf outcome in_setup given cs all →
    (more : List SetupName) × (all ≡ given ++ more)
grows (programs.End {names = given}) = ([], sym (append-nil given))
grows (programs.Makes {names = given} s class_name vs setup new there fit are) =
    let r = grows are in
    (s ∷ r.0, r.1 ∙ append_assoc given (s ∷ []) r.0)
grows (programs.Calls n s name m vs stands there plain fit are) = grows are

abbrev AreSmall : List ProgramCall → Type 0
AreSmall cs = (k i : ℕ) (call : ProgramCall) (v : Value) → slice_get cs k ≡ Some call →
    slice_get (values_of call) i ≡ Some v → IsSmall v

no_more : (s t : SetupName) (given all more : List SetupName) → given ≡ s ∷ [] → all ≡ s ∷ [] →
    all ≡ (given ++ t ∷ []) ++ more → ⊥
no_more s t given all more e f g =
    let two : s ∷ [] ≡ s ∷ t ∷ more = sym f ∙ g ∙ ap (λ l. (l ++ t ∷ []) ++ more) e in
    cc

one_named : (s t : SetupName) (given : List SetupName) (n : ℕ) → given ≡ s ∷ [] → slice_get given n ≡ Some t →
    (n ≡ 0) × (t ≡ s)
one_named s t given n e there = by_place n (ap (λ l. slice_get l n) (sym e) ∙ there)
  where
    by_place : (n : ℕ) → slice_get (s ∷ []) n ≡ Some t → (n ≡ 0) × (t ≡ s)
    by_place zero is = (refl, sym (some_is is))
    by_place (suc k) is = absurd (none-some _ is)

set_calls : {in_setup : Bool} {given all : List SetupName} {cs : List ProgramCall} →
    AreCallsOf outcome in_setup given cs all →
    (s : SetupName) →
    s.class ≡ 1 →
    given ≡ s ∷ [] →
    all ≡ s ∷ [] →
    AreSmall cs →
    AreSmallSetCalls cs
set_calls programs.End s class e f small = tt
set_calls (programs.Makes {names = given} {all = all} t class_name vs setup new there fit are) s class e f small =
    let r = grows are in
    absurd (no_more s t given all r.0 e f r.1)
set_calls (programs.Calls {names = given} n t name m vs stands there plain fit are) s class e f small =
    let own = one_named s t given n e stands in
    let method = set_method name m (ap (λ c. method_named (methods_in (slice_get outcome.signs c)) name)
    (sym (ap (λ (z : SetupName). z.class) own.1 ∙ class)) ∙ there) in (
      own.0,
      method.0,
      one_int vs (subst (λ ts. AreFor ts vs) method.1 fit) (λ i v at. small 0 i _ v refl at),
      set_calls are s class e f (λ k. small (suc k)),
    )

-- ---- the setup

-- it makes the list, and then makes set calls
pub record IsSetup (cs : List ProgramCall) : Type 0 where
  pub text : Text
  pub more : List ProgramCall
  pub is : cs ≡ Making 0 1 text [] ∷ more
  pub small : AreSmallSetCalls more

setup_is : {given all : List SetupName} {cs : List ProgramCall} →
    AreCallsOf outcome true given cs all →
    (s : SetupName) →
    s.class ≡ 1 →
    given ≡ [] →
    all ≡ s ∷ [] →
    AreSmall cs →
    IsSetup cs
setup_is programs.End s class e f small = absurd cc
setup_is (programs.Makes {names = given} {cs = cs} t class_name vs setup new there fit are) s class e f small =
    let r = grows are in
    let whole : s ∷ [] ≡ t ∷ r.0 = sym f ∙ r.1 ∙ ap (λ l. (l ++ t ∷ []) ++ r.0) e in
    let same : t ≡ s = cc in
    let is_list : t.class ≡ 1 = ap (λ (z : SetupName). z.class) same ∙ class in
    let none : vs ≡ [] = no_value vs (subst (λ c. AreFor (parameters_in (slice_get outcome.signs c)) vs) is_list fit) in
    let first : length given ≡ 0 = ap length e in
    record {
      text = class_name;
      more = cs;
      is = ap₂ (λ n c. Making n c class_name vs ∷ cs) first is_list ∙ ap (λ l. Making 0 1 class_name l ∷ cs) none;
      small = set_calls are s class (ap (λ l. l ++ t ∷ []) e ∙ ap (λ z. z ∷ []) same) f (λ k. small (suc k));
    }
setup_is (programs.Calls n t name m vs stands there plain fit are) s class e f small =
    absurd (none-some _ (ap (λ l. slice_get l n) (sym e) ∙ stands))

-- ---- the threads

abbrev AllSmall : List ThreadProgram → Type 0
AllSmall ts = (t : ℕ) (thread : ThreadProgram) → slice_get ts t ≡ Some thread → AreSmall thread.calls

all_set_calls : {names : List SetupName} {before ts : List ThreadProgram} →
    AreThreadsOf outcome names before ts →
    (s : SetupName) →
    s.class ≡ 1 →
    names ≡ s ∷ [] →
    AllSmall ts →
    AllSmallSetCalls ts
all_set_calls programs.End s class e small = tt
all_set_calls (programs.Thread t no_all new few are more) s class e small =
    (set_calls are s class e e (small 0 t refl), all_set_calls more s class e (λ k. small (suc k)))

few_calls : {names : List SetupName} {before ts : List ThreadProgram} →
    AreThreadsOf outcome names before ts →
    (k : ℕ) (t : ThreadProgram) →
    slice_get ts k ≡ Some t →
    length t.calls ≤ most_calls
few_calls programs.End k t at = absurd (none-some _ at)
few_calls (programs.Thread u no_all new few are more) zero t at =
    subst (λ (z : ThreadProgram). length z.calls ≤ most_calls) (some_is at) few
few_calls (programs.Thread u no_all new few are more) (suc k) t at = few_calls more k t at

-- ---- the program

-- the program in the form of the law of the checked list
pub record IsOfList (p : Program) (s : SetupName) : Type 0 where
  pub text : Text
  pub more : List ProgramCall
  pub threads : List ThreadProgram
  pub is : p ≡ of_list s text (codes "setup") more threads
  pub small_more : AreSmallSetCalls more
  pub small_threads : AllSmallSetCalls threads

-- a program of the class text whose setup makes one list is one of the law
pub of_one_list : (p : Program) (s : SetupName) →
    IsProgramOf outcome p →
    s.class ≡ 1 →
    p.names ≡ s ∷ [] →
    HasSmallItems p →
    IsOfList p s
of_one_list p s of class one small =
    let first = setup_is of.gives s class refl one (of_thread 0 _ (ap (λ l. slice_get l 0) of.parts)) in
    record {
      text = first.text;
      more = first.more;
      threads = of.threads;
      is = ap₂ (λ ns ts. record { names = ns; threads = ts }) one (of.parts ∙
          ap (λ cs. record { name = codes "setup"; calls = cs } ∷ of.threads) first.is);
      small_more = first.small;
      small_threads = all_set_calls of.others s class one
          (λ t thread at. of_thread (suc t) thread (ap (λ l. slice_get l (suc t)) of.parts ∙ at));
    }
  where
    of_thread : (t : ℕ) (thread : ThreadProgram) → slice_get p.threads t ≡ Some thread → AreSmall thread.calls
    of_thread t thread at k i call v there inside = small t k i thread call v at there inside

-- each thread has few calls
pub counted : (p : Program) → IsProgramOf outcome p → (t : ℕ) (a : ThreadProgram) → slice_get p.threads t ≡ Some a →
    length a.calls < 2 ^ 64
counted p of t a at =
    let le = by_place t (ap (λ l. slice_get l t) (sym of.parts) ∙ at) in
    omega (arith, le)
  where
    by_place : (t : ℕ) → slice_get (record { name = codes "setup"; calls = of.setup } ∷ of.threads) t ≡ Some a →
        length a.calls ≤ 256
    by_place zero is = subst (λ (z : ThreadProgram). length z.calls ≤ most_calls) (some_is is) of.calls
    by_place (suc k) is = few_calls of.others k a is
