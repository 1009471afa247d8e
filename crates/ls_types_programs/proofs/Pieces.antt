-- Tokens, names and arguments: what the tests of the reading say.
use Rattle.std.proofs.Common.{◌≡◌, ℕ, zero, suc, ◌+◌, ◌*◌, ◌-◌, ◌<◌, ◌≤◌, refl, sym, ◌∙◌, subst, ap, Bool, true, false}
use Rattle.std.proofs.Common.{not, ◌&&◌, ◌||◌, List, [], ◌∷◌, ◌++◌, length, map, Option, Some, None, min, pos, negsuc}
use Rattle.std.proofs.Common.{◌==◌, eqb-true, arith, nat_le, leb-true, if◌then◌else◌, bytes_eq}
use Rattle.std.specs.Prelude.{slice_get, neg_ℤ, ◌≢◌, is_some, option_map, IsTrue}
use Rattle.std.proofs.lemmas.Slice.Eq.{bytes_eq-Decides}
use denote.Enum.Bare.{same_true}
use Rattle.ls_lexer.specs.declared.sign.Sign.{Sign}
use Rattle.ls_lexer.specs.contracts.sign.Sign.{the_type as sign_type}
use Rattle.ls_lexer.specs.declared.word.Word.{Word}
use Rattle.ls_lexer.specs.contracts.word.Word.{the_type as word_type}
use Rattle.ls_lexer.specs.Lexemes.{Lexeme, Named, Numeral, Reserved, Marked}
use Rattle.ls_lexer.specs.Numbers.{value_of, is_number}
use Rattle.ls_events.specs.declared.value.Value.{Value}
use Rattle.ls_events.specs.declared.value.Value.TheVariants as values
use Rattle.ls_events.specs.declared.value.ValueType.{ValueType}
use Rattle.ls_events.specs.declared.value.ValueType.TheVariants as types
use Rattle.ls_checked.specs.CheckedProgram.{SetupName, ThreadProgram}
use Rattle.ls_types_elaboration.specs.Trees.{Text}
use Rattle.ls_types_elaboration.specs.TypedExpressions.{digits_value}
use Rattle.ls_types_programs.specs.ProgramCalls.{is_plain, fits, negated, setup_named}
use Rattle.ls_types_programs.specs.ThreadPrograms.{is_sign, is_word, name_in, number_in, thread_named}
use Rattle.ls_types_programs.specs.Programs.{type_of, AreFor, IsPlain, IsNewName, IsNewThread}

-- false is not true
pub no_truth : false ≡ true → ⊥
no_truth e = cc

-- none is not some
pub some_none : {A : Type 0} (x : A) → None ≡ Some x → ⊥
some_none x e = cc

-- equal options have equal values
pub same_some : {A : Type 0} (x y : A) → Some x ≡ Some y → x ≡ y
same_some x y e = cc

-- if a conjunction is true, both parts are true
pub both : (a b : Bool) → (a && b) ≡ true → (a ≡ true) × (b ≡ true)
both true b e = (refl, e)
both false b e = absurd (no_truth e)

-- if a negation is true, the negated is false
pub not_false : (b : Bool) → not b ≡ true → b ≡ false
not_false false e = refl
not_false true e = absurd (no_truth e)

-- ---- tokens

-- a token that is tested to be a sign is that sign
pub sign_is : (s : Sign) (k : Lexeme) → is_sign s k ≡ true → k ≡ Marked s
sign_is s (Named text) e = absurd (no_truth e)
sign_is s (Numeral text) e = absurd (no_truth e)
sign_is s (Reserved word) e = absurd (no_truth e)
sign_is s (Marked x) e = ap (λ y. Marked y) (same_true sign_type tt x s e)

-- a token that is tested to be a word is that word
pub word_is : (w : Word) (k : Lexeme) → is_word w k ≡ true → k ≡ Reserved w
word_is w (Named text) e = absurd (no_truth e)
word_is w (Numeral text) e = absurd (no_truth e)
word_is w (Marked sign) e = absurd (no_truth e)
word_is w (Reserved x) e = ap (λ y. Reserved y) (same_true word_type tt x w e)

-- a token with a name is that name
pub name_is : (k : Lexeme) (t : Text) → name_in k ≡ Some t → k ≡ Named t
name_is (Named text) t e = ap (λ y. Named y) (same_some text t e)
name_is (Numeral text) t e = absurd (some_none t e)
name_is (Reserved word) t e = absurd (some_none t e)
name_is (Marked sign) t e = absurd (some_none t e)

-- a token with a number is that number
pub number_is : (k : Lexeme) (t : Text) → number_in k ≡ Some t → k ≡ Numeral t
number_is (Numeral text) t e = ap (λ y. Numeral y) (same_some text t e)
number_is (Named text) t e = absurd (some_none t e)
number_is (Reserved word) t e = absurd (some_none t e)
number_is (Marked sign) t e = absurd (some_none t e)

-- texts that are tested to be equal are equal
pub same_bytes : (a b : Text) → bytes_eq a b ≡ true → a ≡ b
same_bytes a b e = (bytes_eq-Decides a b).0 e

-- equal texts are tested to be equal
pub bytes_same : (a b : Text) → a ≡ b → bytes_eq a b ≡ true
bytes_same a b e = (bytes_eq-Decides a b).1 e

-- texts that are tested to be different are different
pub other_bytes : (a b : Text) → bytes_eq a b ≡ false → a ≢ b
other_bytes a b e same = no_truth (sym e ∙ bytes_same a b same)

-- different texts are tested to be different
pub bytes_other : (a b : Text) → a ≢ b → bytes_eq a b ≡ false
bytes_other a b n = by (bytes_eq a b) refl
  where
    by : (t : Bool) → bytes_eq a b ≡ t → bytes_eq a b ≡ false
    by true e = absurd (n (same_bytes a b e))
    by false e = e

-- ---- numbers

digits_from : (n m : ℕ) (text : Text) → m ≡ min n 2147483648 → digits_value m text ≡ min (value_of n text) 2147483648
digits_from n m [] e = e
digits_from n m (d ∷ ds) e = digits_from (10 * n + (d - 48)) (min (m * 10 + (d - 48)) 2147483648) ds
    (step n m (d - 48) e)
  where
    step : (n m x : ℕ) → m ≡ min n 2147483648 → min (m * 10 + x) 2147483648 ≡ min (10 * n + x) 2147483648
    step n m x e = omega (arith, e)

pub digits_are : (text : Text) → digits_value 0 text ≡ min (value_of 0 text) 2147483648
digits_are text = digits_from 0 0 text refl

-- a small number is counted exactly
pub digits_small : (text : Text) → digits_value 0 text < 2147483648 → digits_value 0 text ≡ value_of 0 text
digits_small text h = by (digits_value 0 text) (value_of 0 text) (digits_are text) h
  where
    by : (a b : ℕ) → a ≡ min b 2147483648 → a < 2147483648 → a ≡ b
    by a b e h = omega (arith, e, h)

-- so is a number up to 2147483648
pub digits_most : (text : Text) → value_of 0 text ≤ 2147483648 → digits_value 0 text ≡ value_of 0 text
digits_most text h = by (digits_value 0 text) (value_of 0 text) (digits_are text) h
  where
    by : (a b : ℕ) → a ≡ min b 2147483648 → b ≤ 2147483648 → a ≡ b
    by a b e h = omega (arith, e, h)

-- a negated number
pub negated_is : (n : ℕ) → negated n ≡ neg_ℤ (pos n)
negated_is zero = refl
negated_is (suc n) = by (suc n == 0) refl
  where
    by : (b : Bool) → (suc n == 0) ≡ b → (if b then pos 0 else negsuc (suc n - 1)) ≡ negsuc n
    by true e = absurd (omega (arith, eqb-true (suc n) 0 e))
    by false e = ap negsuc (omega arith)

-- a number in a text is at most 2147483648
pub number_most : (text : Text) → IsTrue (is_number text) → value_of 0 text ≤ 2147483648
number_most [] e = absurd (no_truth e)
number_most (b ∷ bs) e = leb-true (value_of 0 (b ∷ bs)) 2147483648
    (both _ (nat_le (value_of 0 (b ∷ bs)) 2147483648) e).1

-- ---- arguments for the first of the parameters

-- values for the first parameters, each of its parameter's type
abbrev pub Front : List ValueType → List Value → Type 0
Front ts [] = Unit {0}
Front [] (v ∷ vs) = ⊥
Front (t ∷ ts) (v ∷ vs) = (type_of v ≡ Some t) × Front ts vs

pub fit_type : (t : ValueType) (v : Value) → fits (Some t) v ≡ true → type_of v ≡ Some t
fit_type types.Int (values.Int z) e = refl
fit_type types.Boolean (values.Boolean b) e = refl
fit_type _ _ e = absurd (no_truth e)

-- one more value that fits
pub front_push : (ts : List ValueType) (vs : List Value) (v : Value) →
    Front ts vs →
    fits (slice_get ts (length vs)) v ≡ true →
    Front ts (vs ++ v ∷ [])
front_push [] [] v h e = absurd (no_truth (none v e))
  where
    none : (v : Value) → fits None v ≡ true → false ≡ true
    none (values.Int z) e = e
    none (values.Boolean b) e = e
    none (values.Reference n) e = e
    none (values.Pair n m) e = e
front_push (t ∷ ts) [] v h e = (fit_type t v e, tt)
front_push [] (u ∷ vs) v h e = absurd h
front_push (t ∷ ts) (u ∷ vs) v h e = (h.0, front_push ts vs v h.1 e)

front_full : (ts : List ValueType) (vs : List Value) → Front ts vs → length vs ≡ length ts → AreFor ts vs
front_full [] [] h e = refl
front_full (t ∷ ts) [] h e = absurd (omega (arith, e))
front_full [] (v ∷ vs) h e = absurd h
front_full (t ∷ ts) (v ∷ vs) h e = ap (λ x. x ∷ map type_of vs) h.0 ∙
    ap (λ l. Some t ∷ l) (front_full ts vs h.1 (omega (arith, e)))

-- if all parameters have values, the values are for them
pub is_full_so : (ts : List ValueType) (vs : List Value) → Front ts vs → (length vs == length ts) ≡ true → AreFor ts vs
is_full_so ts vs h e = front_full ts vs h (eqb-true (length vs) (length ts) e)

-- a result that is tested to be plain is plain
pub plain_result : (r : Option ValueType) → is_plain r ≡ true → IsPlain r
plain_result None e = tt
plain_result (Some types.Int) e = tt
plain_result (Some types.Boolean) e = tt
plain_result (Some types.BooleanArray) e = absurd (no_truth e)
plain_result (Some (types.Class c)) e = absurd (no_truth e)
plain_result (Some types.Lock) e = absurd (no_truth e)
plain_result (Some (types.Markable c)) e = absurd (no_truth e)

-- ---- lists

-- a list before an empty list
pub append_nil : {A : Type 0} (xs : List A) → xs ++ [] ≡ xs
append_nil [] = refl
append_nil (x ∷ xs) = ap (λ l. x ∷ l) (append_nil xs)

-- a list that begins with another
abbrev pub Grows : {A : Type 0} → List A → List A → Type 0
Grows {A} xs ys = (more : List A) × (xs ++ more ≡ ys)

-- an element of the first list is at its place in both
pub at_front : {A : Type 0} (xs ys : List A) (n : ℕ) (x : A) → slice_get xs n ≡ Some x → slice_get (xs ++ ys) n ≡ Some x
at_front [] ys n x e = absurd (some_none x e)
at_front (y ∷ xs) ys zero x e = e
at_front (y ∷ xs) ys (suc n) x e = at_front xs ys n x e

-- the element that is put at the end
pub at_end : {A : Type 0} (xs : List A) (x : A) → slice_get (xs ++ x ∷ []) (length xs) ≡ Some x
at_end [] x = refl
at_end (y ∷ xs) x = at_end xs x

-- an element keeps its place in a list that grows
pub at_grown : {A : Type 0} (xs ys : List A) (n : ℕ) (x : A) →
    Grows xs ys →
    slice_get xs n ≡ Some x →
    slice_get ys n ≡ Some x
at_grown xs ys n x g e = subst (λ l. slice_get l n ≡ Some x) g.1 (at_front xs g.0 n x e)

-- ---- setup names

-- a name that is found is among the names
pub named_there : (names : List SetupName) (name : Text) (n : ℕ) →
    setup_named names name ≡ Some n →
    (s : SetupName) × (slice_get names n ≡ Some s) × (s.name ≡ name)
named_there [] name n e = absurd (some_none n e)
named_there (x ∷ names) name n e = by (named_there names name) (bytes_eq x.name name) refl (setup_named names name) refl
    e
  where
    by : ((j : ℕ) → setup_named names name ≡ Some j → (s : SetupName) × (slice_get names j ≡ Some s) × (s.name ≡ name))
        →
        (b : Bool) →
        bytes_eq x.name name ≡ b →
        (i : Option ℕ) →
        setup_named names name ≡ i →
        (if b then Some 0 else option_map (λ i. i + 1) i) ≡ Some n
        → (s : SetupName) × (slice_get (x ∷ names) n ≡ Some s) × (s.name ≡ name)
    by rec true same i found e = (
      x,
      subst (λ j. slice_get (x ∷ names) j ≡ Some x) (same_some 0 n e) refl,
      same_bytes x.name name same,
    )
    by rec false same None found e = absurd (some_none n e)
    by rec false same (Some j) found e =
        let h = rec j found in
        let is : j + 1 ≡ n = same_some (j + 1) n e in
        (h.0, subst (λ j. slice_get (x ∷ names) j ≡ Some h.0) is (later j h.0 h.1), h.2)
      where
        later : (j : ℕ) (s : SetupName) → slice_get names j ≡ Some s → slice_get (x ∷ names) (j + 1) ≡ Some s
        later j s e =
            let is : suc j ≡ j + 1 = omega arith in
            subst (λ k. slice_get (x ∷ names) k ≡ Some s) is e

-- a name that isn't found is new
pub is_new : (names : List SetupName) (name : Text) → is_some (setup_named names name) ≡ false → IsNewName names name
is_new [] name e = tt
is_new (x ∷ names) name e = by (is_new names name) (bytes_eq x.name name) refl (setup_named names name) refl e
  where
    by : (is_some (setup_named names name) ≡ false → IsNewName names name) →
        (b : Bool) →
        bytes_eq x.name name ≡ b →
        (i : Option ℕ) →
        setup_named names name ≡ i →
        is_some (if b then Some 0 else option_map (λ i. i + 1) i) ≡ false
        → IsNewName (x ∷ names) name
    by rec true same i found e = absurd (no_truth (sym e))
    by rec false same None found e = (other_bytes x.name name same, rec (ap is_some found))
    by rec false same (Some j) found e = absurd (no_truth (sym e))

-- ---- thread names

-- a thread's name that isn't found is new
pub is_new_thread : (ts : List ThreadProgram) (name : Text) → thread_named ts name ≡ false → IsNewThread ts name
is_new_thread [] name e = tt
is_new_thread (t ∷ ts) name e = by (is_new_thread ts name) (bytes_eq t.name name) refl e
  where
    by : (thread_named ts name ≡ false → IsNewThread ts name) →
        (b : Bool) →
        bytes_eq t.name name ≡ b →
        (b || thread_named ts name) ≡ false →
        IsNewThread (t ∷ ts) name
    by rec true same e = absurd (no_truth (sym e))
    by rec false same e = (other_bytes t.name name same, rec e)
