-- The heads of the methods that a text declares: class, types of the parameters, result.
use Rattle.std.proofs.Common.{◌≡◌, ℕ, suc, ◌+◌, refl, sym, ◌∙◌, ap, Bool, true, false, List, [], ◌∷◌, ◌++◌}
use Rattle.std.proofs.Common.{append_assoc, length, map, take, Option, None, Ok, Err, arith}
use Rattle.ls_events.specs.declared.value.ValueType.{ValueType}
use Rattle.ls_events.specs.declared.value.ValueType.TheVariants as types
use Rattle.ls_checked.specs.CheckedTree as checked
use Rattle.ls_types_judgement.specs.Typing as typing
use Rattle.ls_types_elaboration.specs.Trees.{Text, Parameter, Member, Fields, Method, Constructor, ClassTree}
use Rattle.ls_types_elaboration.specs.Elaborated.{Elaborated}
use Rattle.ls_types_elaboration.specs.Known.{type_of, result_of}
use Rattle.ls_types_elaboration.specs.TypedMethods.{has_constructor}
use Rattle.ls_types_laws.proofs.Results.{Gives}
use Rattle.ls_types_laws.proofs.Lists.{append_nil}

-- what is declared of a method: its class, the types of its parameters, and the type of its answer
pub record Head : Type 0 where
  pub class : ℕ
  pub parameters : List ValueType
  pub result : Option ValueType

-- a head from its parts
abbrev pub head : ℕ → List ValueType → Option ValueType → Head
head c ts r = record { class = c; parameters = ts; result = r }

-- the head of a checked method
abbrev pub head_of : checked.Method → Head
head_of m = head m.class (typing.parameters_of m) m.result

-- the types that are written, if they are known
abbrev pub type_or : Elaborated ValueType → ValueType
type_or (Ok t) = t
type_or (Err e) = types.Int

-- the type of an answer that is written, if it is known
abbrev pub result_or : Elaborated (Option ValueType) → Option ValueType
result_or (Ok r) = r
result_or (Err e) = None

-- the types of parameters
abbrev pub types_of : List Text → List Parameter → List ValueType
types_of names ps = map (λ p. type_or (type_of names p.type_name)) ps

-- the heads of a member
abbrev pub member_heads : List Text → ℕ → Member → List Head
member_heads names own (Fields d) = []
member_heads names own (Method sync r n ps body) = head own (types_of names ps) (result_or (result_of names r)) ∷ []
member_heads names own (Constructor n ps body) = head own (types_of names ps) None ∷ []

-- the heads of members
abbrev pub members_heads : List Text → ℕ → List Member → List Head
members_heads names own [] = []
members_heads names own (m ∷ ms) = member_heads names own m ++ members_heads names own ms

-- with that of the default constructor
abbrev pub default_head : ℕ → Bool → List Head
default_head own true = []
default_head own false = head own [] None ∷ []

-- the heads of a class, with that of a default constructor
abbrev pub class_heads : List Text → ℕ → List Member → List Head
class_heads names own ms = members_heads names own ms ++ default_head own (has_constructor ms)

-- the heads of a file
abbrev pub file_heads : List Text → ℕ → List ClassTree → List Head
file_heads names own [] = []
file_heads names own (c ∷ cs) = class_heads names own c.members ++ file_heads names (suc own) cs

-- the type that is written is that of the head
pub type_is : (x : Elaborated ValueType) → Gives (λ t. t ≡ type_or x) x
type_is (Ok t) = refl
type_is (Err e) = tt

-- the answer that is written is that of the head
pub result_is : (x : Elaborated (Option ValueType)) → Gives (λ r. r ≡ result_or x) x
result_is (Ok r) = refl
result_is (Err e) = tt

-- a mapped list with one more item
pub map_push : {A B : Type 0} (f : A → B) (xs : List A) (x : A) → map f (xs ++ x ∷ []) ≡ map f xs ++ f x ∷ []
map_push f [] x = refl
map_push f (y ∷ xs) x = ap (λ l. f y ∷ l) (map_push f xs x)

-- a list with one more item is longer by one
pub length_push : {A : Type 0} (xs : List A) (x : A) → length (xs ++ x ∷ []) ≡ suc (length xs)
length_push [] x = refl
length_push (y ∷ xs) x = ap suc (length_push xs x)

-- there are as many types as parameters
pub length_types : (names : List Text) (ps : List Parameter) → length (types_of names ps) ≡ length ps
length_types names [] = refl
length_types names (p ∷ ps) = ap suc (length_types names ps)

-- the first list is taken from two
pub take_front : {A : Type 0} (xs ys : List A) → take (length xs) (xs ++ ys) ≡ xs
take_front [] ys = refl
take_front (x ∷ xs) ys = ap (λ l. x ∷ l) (take_front xs ys)

-- the heads of members and one more
pub members_push : (names : List Text) (own : ℕ) (ms : List Member) (m : Member) →
    members_heads names own (ms ++ m ∷ []) ≡ members_heads names own ms ++ member_heads names own m
members_push names own [] m = append_nil (member_heads names own m)
members_push names own (x ∷ ms) m =
    ap (λ l. member_heads names own x ++ l) (members_push names own ms m) ∙
    sym (append_assoc (member_heads names own x) (members_heads names own ms) (member_heads names own m))

-- the heads of classes and one more
pub file_push : (names : List Text) (own : ℕ) (cs : List ClassTree) (c : ClassTree) →
    file_heads names own (cs ++ c ∷ []) ≡ file_heads names own cs ++ class_heads names (own + length cs) c.members
file_push names own [] c = append_nil (class_heads names own c.members) ∙ ap (λ n. class_heads names n c.members) same
  where
    same : own ≡ own + 0
    same = omega arith
file_push names own (x ∷ cs) c =
    let same : suc own + length cs ≡ own + suc (length cs) = omega arith in
    ap (λ l. class_heads names own x.members ++ l) (file_push names (suc own) cs c ∙
    ap (λ n. file_heads names (suc own) cs ++ class_heads names n c.members) same)
    ∙ sym (append_assoc (class_heads names own x.members) (file_heads names (suc own) cs)
    (class_heads names (own + suc (length cs)) c.members))
