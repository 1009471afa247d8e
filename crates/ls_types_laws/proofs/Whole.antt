-- An elaborated file is typed.
use Rattle.std.proofs.Common.{◌≡◌, ℕ, suc, ◌+◌, ◌<◌, refl, sym, ◌∙◌, subst, ap, Bool, true, false, List, [], ◌∷◌, ◌++◌}
use Rattle.std.proofs.Common.{length, map, Ok, option_map, arith}
use Rattle.std.specs.Prelude.{slice_get}
use Rattle.std.proofs.lemmas.List.{length-map}
use Rattle.std.proofs.lemmas.Option.{slice_get-map}
use Rattle.ls_checked.specs.CheckedTree as checked
use Rattle.ls_types_judgement.specs.Typing.{IsTypedFile}
use Rattle.ls_types_judgement.specs.Classes.{HasItsClasses}
use Rattle.ls_types_laws.proofs.Pairs.{HasNoPairs}
use Rattle.ls_types_elaboration.specs.Trees as parsed
use Rattle.ls_types_elaboration.specs.Trees.{Text, ClassTree}
use Rattle.ls_types_elaboration.specs.TypedMethods.{has_constructor}
use Rattle.ls_types_elaboration.specs.Signs.{Classes, class_names, class_signs}
use Rattle.ls_types_elaboration.specs.Elaboration.{Bodies, checked_class, file_methods, ElaboratedFile, elaborated}
use Rattle.ls_types_laws.proofs.Results.{Gives, bind, later, gives_of}
use Rattle.ls_types_laws.proofs.Lists.{Each, each_at}
use Rattle.ls_types_laws.proofs.Agreement.{Agrees}
use Rattle.ls_types_laws.proofs.Heads.{Head, head_of, member_heads, members_heads, default_head, class_heads}
use Rattle.ls_types_laws.proofs.Heads.{file_heads}
use Rattle.ls_types_laws.proofs.Methods.{IsGood, Built, known_at, file_methods_give}
use Rattle.ls_types_laws.proofs.Declared.{Signed, class_signs_give, class_names_give}
use Rattle.ls_types_laws.proofs.Found.{agrees}

-- each head is of a class of the file

each_join : {A : Type 0} (P : A → Type 0) (xs ys : List A) → Each P xs → Each P ys → Each P (xs ++ ys)
each_join P [] ys h k = k
each_join P (x ∷ xs) ys h k = (h.0, each_join P xs ys h.1 k)

member_classes : (names : List Text) (own n : ℕ) (m : parsed.Member) →
    own < n →
    Each (λ (h : Head). h.class < n) (member_heads names own m)
member_classes names own n (parsed.Fields d) l = tt
member_classes names own n (parsed.Method sync r k ps body) l = (l, tt)
member_classes names own n (parsed.Constructor k ps body) l = (l, tt)

members_classes : (names : List Text) (own n : ℕ) (ms : List parsed.Member) →
    own < n →
    Each (λ (h : Head). h.class < n) (members_heads names own ms)
members_classes names own n [] l = tt
members_classes names own n (m ∷ ms) l =
    each_join (λ (h : Head). h.class < n) (member_heads names own m) (members_heads names own ms)
    (member_classes names own n m l) (members_classes names own n ms l)

default_classes : (own n : ℕ) (b : Bool) → own < n → Each (λ (h : Head). h.class < n) (default_head own b)
default_classes own n true l = tt
default_classes own n false l = (l, tt)

file_classes : (names : List Text) (own n : ℕ) (cs : List ClassTree) →
    own + length cs ≡ n →
    Each (λ (h : Head). h.class < n) (file_heads names own cs)
file_classes names own n [] e = tt
file_classes names own n (c ∷ cs) e =
    let below : own < n = omega (arith, e) in
    let next : suc own + length cs ≡ n = omega (arith, e) in
    each_join (λ (h : Head). h.class < n) (class_heads names own c.members) (file_heads names (suc own) cs)
    (each_join (λ (h : Head). h.class < n) (members_heads names own c.members)
    (default_head own (has_constructor c.members)) (members_classes names own n c.members below)
    (default_classes own n (has_constructor c.members) below))
    (file_classes names (suc own) n cs next)

-- the whole file
pub record IsTypedOutcome (o : ElaboratedFile) : Type 0 where
  pub typed : IsTypedFile o.file
  pub classes : HasItsClasses o.file
  pub no_pairs : HasNoPairs o.file
  pub agrees : Agrees o.file (known_at o.names o.signs 0)
  pub names : length o.names ≡ length o.file.classes

outcome_typed : (names : List Text) (classes : Classes) (trees : List ClassTree) (b : Bodies) →
    length names ≡ length trees →
    Signed (file_heads names 0 trees) (length trees) classes →
    ((F : checked.File) → Built F names classes.signs trees b) →
    IsTypedOutcome (record {
      names = names;
      signs = classes.signs;
      file = record { classes = map checked_class classes.signs; methods = b.methods };
    })
outcome_typed names classes trees b long s built =
    let F : checked.File = record { classes = map checked_class classes.signs; methods = b.methods } in
    let H : List Head = file_heads names 0 trees in
    let all : Built F names classes.signs trees b = built F in
    let agreed : Agrees F (known_at names classes.signs 0) = agrees F names classes H (length trees) refl all.1.0 long s
    in
    let good : Each (IsGood F) b.methods = all.1.1 agreed in
    let count : length (map checked_class classes.signs) ≡ length trees = length-map classes.signs checked_class ∙
    s.count in
    let within : Each (λ (h : Head). h.class < length trees) H = file_classes names 0 (length trees) trees
    (zero_plus (length trees)) in
    record {
      typed = λ n m e. (each_at (IsGood F) b.methods n m good e).0;
      classes = λ n m e.
          subst (λ k. m.class < k) (sym count)
          (each_at (λ (h : Head). h.class < length trees) H n (head_of m) within
          (sym (ap (λ (l : List Head). slice_get l n) all.1.0) ∙ slice_get-map head_of b.methods n ∙
          ap (option_map head_of) e));
      no_pairs = λ n m e. (each_at (IsGood F) b.methods n m good e).1;
      agrees = agreed;
      names = long ∙ sym count;
    }
  where
    zero_plus : (n : ℕ) → 0 + n ≡ n
    zero_plus n = omega arith

pub elaborated_typed : (f : parsed.File) → Gives IsTypedOutcome (elaborated f)
elaborated_typed f =
    bind (λ (names : List Text). length names ≡ length f.classes) IsTypedOutcome (class_names f.classes) _
    (class_names_give f.classes) (λ names long.
    bind (Signed (file_heads names 0 f.classes) (length f.classes)) IsTypedOutcome (class_signs names f.classes) _
    (class_signs_give names f.classes) (λ classes s.
    bind (λ b. (F : checked.File) → Built F names classes.signs f.classes b) IsTypedOutcome
    (file_methods names classes.signs f.classes) _
    (later (λ (F : checked.File) (b : Bodies). Built F names classes.signs f.classes b)
    (file_methods names classes.signs f.classes) (λ F. file_methods_give F names classes.signs f.classes))
    (λ b built.
    outcome_typed names classes f.classes b long s built)))

-- an elaborated file is typed, and agrees with what its text declares
pub typed_when : (f : parsed.File) (o : ElaboratedFile) → elaborated f ≡ Ok o → IsTypedOutcome o
typed_when f o e = gives_of IsTypedOutcome (elaborated f) o e (elaborated_typed f)
