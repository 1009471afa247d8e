-- Why a class text has no programs, fault by fault.
use Rattle.std.proofs.Common.{◌≡◌, ◌∙◌, ◌<◌, ◌⊎◌, ◌↔◌, inl, inr, ℕ, List, [], ◌∷◌, Result, Ok, Err, length, map, ap}
use Rattle.std.proofs.Common.{sym, refl, subst}
use Rattle.std.specs.Prelude.{IfErr, IsErrOf, Option, Some, slice_get, string_bytes, String}
use Rattle.std.specs.Global.{Global}
use Rattle.std.proofs.lemmas.List.{length-map, nil_from_length}
use Rattle.ls_families.specs.Families.{HaveNone, count_of, family_of, sizes_of}
use Rattle.ls_families.specs.declared.menus.MenuSizes.{MenuSizes}
use Rattle.ls_families.specs.Shapes.{AreBad}
use Rattle.ls_families.specs.declared.fault.FamilyFault.{FamilyFault}
use Rattle.ls_families.specs.declared.fault.FamilyFault.TheVariants as family
use Rattle.ls_lexer.specs.Lexemes.{Lexeme}
use Rattle.ls_lexer.specs.Places.{text_limit}
use Rattle.ls_lexer.specs.Tokens.{tokens_of}
use Rattle.ls_lexer.specs.declared.fault.TextFault.{TextFault}
use Rattle.ls_lexer.specs.declared.fault.TextFault.TheVariants as text
use Rattle.ls_parser_spelling.specs.Spelling.{spell}
use Rattle.ls_parser_spelling.specs.Spells.{TextSpells}
use Rattle.ls_parser_tokens.specs.Answers.{MayCome, Refuses}
use Rattle.ls_tree.specs.FileView.{bare_file}
use Rattle.ls_tree.specs.Trees.{ClassTree, File, Text}
use Rattle.ls_tree.specs.Views.{bare_class}
use Rattle.ls_tree.specs.declared.tree.Class.{Class}
use Rattle.ls_tree.specs.declared.tree.ClassFile.{ClassFile}
use Rattle.ls_class_programs.specs.Limits.{AreTooMany}
use Rattle.ls_class_programs.specs.Menus.{constructor_parameters, from_to, makings}
use Rattle.ls_class_programs.specs.declared.menu_fault.MenuFault.{MenuFault}
use Rattle.ls_class_programs.specs.declared.menu_fault.MenuFault.TheVariants as menus
use Rattle.ls_class_programs.specs.Chosen.{chosen}
use Rattle.ls_class_programs.specs.ClassPrograms.{Chooses, IsClassFault, LacksAtPlace, LacksPrograms, NoFile}
use Rattle.ls_class_programs.specs.ClassPrograms.{HasTooManyCalls, NoPrograms, OutOfMemory, menu_of}
use Rattle.ls_class_programs.specs.ClassPrograms.{own_calls, thread_calls}
use Rattle.ls_class_programs.specs.Written.{or_those}
use Rattle.ls_class_programs.specs.Lifted.{fault_of_family, fault_of_menu, fault_of_text}
use Rattle.ls_class_programs.specs.declared.choosing.Choosing.{Choosing}
use Rattle.ls_class_programs.specs.declared.fault.ClassFault.{ClassFault}
use Rattle.ls_class_programs.specs.declared.fault.ClassFault.TheVariants as faults

no_others : (these those : List Text) → or_those these those ≡ [] → those ≡ []
no_others [] those none = none
no_others (x ∷ these) those none = absurd (some_isnt none)
  where
    some_isnt : {y : Text} {ys : List Text} → y ∷ ys ≡ [] → ⊥
    some_isnt e = cc

module _ (o : Choosing) (menu : Option Text) (c : ClassTree) where
  pub makings_fail : {T : Type 0} (e : MenuFault) →
      (IsErrOf {T = T} (Err e) menus.TooMany →
      AreTooMany (from_to o.given) (from_to o.given) (constructor_parameters c.members)) →
      LacksPrograms o menu c (fault_of_menu e)
  makings_fail menus.Memory many = tt
  makings_fail menus.TooMany many = inr (many refl)

  pub calls_fail : (f : ClassFault) →
      (f ≡ faults.Memory) ⊎ ((f ≡ faults.TooManyCalls) × HasTooManyCalls menu o.values c) → LacksPrograms o menu c f
  calls_fail f (inl memory) = subst (LacksPrograms o menu c) (sym memory) tt
  calls_fail f (inr many) = subst (LacksPrograms o menu c) (sym many.0) (inl many.1)

  pub making_fails : (texts : List (String Global)) → map string_bytes texts ≡ makings o.given c →
      length texts ≡ 0 → LacksPrograms o menu c faults.NoMaking
  making_fails texts are none = sym are ∙ ap (map string_bytes) (nil_from_length texts none)

  -- a menu that is held so, of which there are so many
  pub record IsHeld (makings_held setup threads : List (String Global)) (z : MenuSizes) : Type 0 where
    pub sizes : z ≡ record { makings = length makings_held; setup = length setup; threads = length threads }
    pub some : ¬ (length makings_held ≡ 0)
    pub made : map string_bytes makings_held ≡ makings o.given c
    pub thread : map string_bytes threads ≡ thread_calls menu o.values c
    pub own : map string_bytes setup ≡ or_those (own_calls menu) (map string_bytes threads)

  held_sizes : (ms ss ts : List (String Global)) (z : MenuSizes) → IsHeld ms ss ts z → z ≡ sizes_of (menu_of o menu c)
  held_sizes ms ss ts z held =
      let first : length ms ≡ length (makings o.given c) = sym (length-map ms string_bytes) ∙ ap length held.made in
      let last : length ts ≡ length (thread_calls menu o.values c) =
      sym (length-map ts string_bytes) ∙ ap length held.thread in
      let own : length ss ≡ length (or_those (own_calls menu) (thread_calls menu o.values c)) =
      sym (length-map ss string_bytes) ∙ ap length (held.own ∙ ap (or_those (own_calls menu)) held.thread) in
      held.sizes ∙ (λ i. record { makings = first i; setup = own i; threads = last i })

  -- there is none of a menu only if threads have no calls
  none_of_threads : (ms ss ts : List (String Global)) (z : MenuSizes) → IsHeld ms ss ts z → HaveNone z →
      thread_calls menu o.values c ≡ []
  none_of_threads ms ss ts z held (inl none) =
      absurd (held.some (sym (ap (λ (y : MenuSizes). y.makings) held.sizes) ∙ none))
  none_of_threads ms ss ts z held (inr (inl none)) =
      let empty : map string_bytes ss ≡ [] =
      ap (map string_bytes) (nil_from_length ss (sym (ap (λ (y : MenuSizes). y.setup) held.sizes) ∙ none)) in
      no_others (own_calls menu) (thread_calls menu o.values c)
      (ap (or_those (own_calls menu)) (sym held.thread) ∙ sym held.own ∙ empty)
  none_of_threads ms ss ts z held (inr (inr none)) =
      sym held.thread ∙
      ap (map string_bytes) (nil_from_length ts (sym (ap (λ (y : MenuSizes). y.threads) held.sizes) ∙ none))

  pub family_fails : {T : Type 0} (e : FamilyFault) (ms ss ts : List (String Global)) (z : MenuSizes) →
      IsHeld ms ss ts z →
      (IsErrOf {T = T} (Err e) family.NoCalls ↔ HaveNone z) →
      (IsErrOf {T = T} (Err e) family.BadBounds ↔ ((¬ HaveNone z) × AreBad o.bounds)) →
      (IsErrOf {T = T} (Err e) family.TooMany → 1000000 < count_of (family_of z o.bounds)) →
      LacksPrograms o menu c (fault_of_family e)
  family_fails family.Memory ms ss ts z held none bad many = tt
  family_fails family.NoCalls ms ss ts z held none bad many = none_of_threads ms ss ts z held (none.0 refl)
  family_fails family.BadBounds ms ss ts z held none bad many = (bad.0 refl).1
  family_fails family.TooMany ms ss ts z held none bad many =
      subst (λ (y : MenuSizes). 1000000 < count_of (family_of y o.bounds)) (held_sizes ms ss ts z held) (many refl)

of_err : {T E : Type 0} {a b : E} → IsErrOf {T = T} (Err a) b → a ≡ b
of_err e = cc

-- a text that spells no file
pub text_fails : {T : Type 0} (o : Choosing) (classes : Text) (menu : Option Text) (f : TextFault) →
    Refuses f ((file : File) → TextSpells file classes → ⊥) → MayCome classes f →
    (text_limit < length classes → IsErrOf {T = T} (Err f) text.TooLong) → IsClassFault o classes menu (fault_of_text f)
text_fails o classes menu text.Memory none may long = OutOfMemory
text_fails o classes menu text.TooLong none may long =
    NoFile text.TooLong (record { none = none; comes = record { may = may; long = λ l. of_err (long l) } })
text_fails o classes menu (text.BadByte at) none may long =
    NoFile (text.BadByte at) (record { none = none; comes = record { may = may; long = λ l. of_err (long l) } })
text_fails o classes menu (text.OpenComment at) none may long =
    NoFile (text.OpenComment at) (record { none = none; comes = record { may = may; long = λ l. of_err (long l) } })
text_fails o classes menu (text.BadNumber at) none may long =
    NoFile (text.BadNumber at) (record { none = none; comes = record { may = may; long = λ l. of_err (long l) } })
text_fails o classes menu (text.Syntax at) none may long =
    NoFile (text.Syntax at) (record { none = none; comes = record { may = may; long = λ l. of_err (long l) } })
text_fails o classes menu (text.TooDeep at) none may long =
    NoFile (text.TooDeep at) (record { none = none; comes = record { may = may; long = λ l. of_err (long l) } })

-- the tokens of a text are those of the file that it spells
pub same_tokens : (file : File) (classes : Text) (ks : List Lexeme) → TextSpells file classes →
    tokens_of classes ≡ Some ks → ks ≡ spell file
same_tokens file classes ks spelled tokens = some_is (sym tokens ∙ spelled.tokens)
  where
    some_is : {x y : List Lexeme} → Some x ≡ Some y → x ≡ y
    some_is e = cc

-- the class at the place that is chosen
pub choose : (o : Choosing) (classes : Text) (f : ClassFile) (parsed : List Class) (ks : List Lexeme) (at : ℕ)
    (c : ClassTree) → TextSpells (bare_file f) classes → parsed ≡ f.classes.items → ks ≡ spell (bare_file f) →
    Some at ≡ chosen o.class ks (map bare_class parsed) → slice_get (map bare_class parsed) at ≡ Some c →
    Chooses o classes c
choose o classes f parsed ks at c spelled is tokens found there = record {
  file = bare_file f;
  spelled = spelled;
  at = at;
  chosen = sym (found ∙ ap (λ l. chosen o.class l (map bare_class parsed)) tokens ∙
      ap (λ l. chosen o.class (spell (bare_file f)) (map bare_class l)) is);
  is = ap (λ l. slice_get (map bare_class l) at) (sym is) ∙ there;
}

pub place_fails : {T : Type 0} (o : Choosing) (classes : Text) (menu : Option Text) (cs : List ClassTree) (at : ℕ)
    (r : Result T ClassFault) →
    ((c : ClassTree) → slice_get cs at ≡ Some c → Chooses o classes c) → IfErr r (LacksAtPlace o menu cs at) →
    IfErr r (IsClassFault o classes menu)
place_fails o classes menu cs at (Ok x) chooses lacks = tt
place_fails o classes menu cs at (Err f) chooses (inl memory) = subst (IsClassFault o classes menu)
    (sym memory) OutOfMemory
place_fails o classes menu cs at (Err f) chooses (inr there) = NoPrograms there.0 f (chooses there.0 there.1) there.2
