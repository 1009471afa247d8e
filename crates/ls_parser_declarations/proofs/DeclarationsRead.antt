-- Modifiers, types and declarations: what is read is spelled so and well-formed.
use Rattle.std.proofs.Common.{◌≡◌, ℕ, ◌≤◌, List, [], ◌∷◌, length, Some, None, sym, ap, subst, ◌∙◌, inl, inr, arith}
use Rattle.std.specs.List.{AllByRecursion}
use Rattle.std.specs.Prelude.{◌&&◌}
use Rattle.std.specs.Cmp.Lexicographic.{same_text}
use Rattle.ls_lexer.specs.declared.sign.Sign.TheVariants as signs
use Rattle.ls_lexer.specs.declared.word.Word.{Word}
use Rattle.ls_lexer.specs.declared.word.Word.TheVariants as words
use Rattle.ls_lexer.specs.Lexemes.{Lexeme, Named, Numeral, Reserved, Marked}
use Rattle.ls_tree.specs.Trees.{Text, Modifier, Public, Protected, Private, Final, Volatile, Annotation, TypeName}
use Rattle.ls_tree.specs.Trees.{Int, Boolean, BooleanArray, Class, Markable, Declarator, Declaration}
use Rattle.ls_tree.specs.WellFormed.{value_height, declarators_height, WellFormedValue, WellFormedDeclaration}
use Rattle.ls_parser_tokens.specs.Reading.{◌>>=◌, given, after_sign, after_word, name_at, starts, not_yet, many_at}
use Rattle.ls_parser_tokens.specs.Reading.{behind_comma}
use Rattle.ls_parser_expressions.specs.ReadingExpressions.{markable_name, is_markable, class_at, expression_at}
use Rattle.ls_parser_declarations.specs.ReadingDeclarations.{modifier_of_word, modifier_word_at, starts_modifier}
use Rattle.ls_parser_declarations.specs.ReadingDeclarations.{annotation_at, modifier_at, modifiers_at, boolean_at}
use Rattle.ls_parser_declarations.specs.ReadingDeclarations.{named_type_at, type_at, declarator_of, declarator_at}
use Rattle.ls_parser_declarations.specs.ReadingDeclarations.{declaration_of, declarators_at, declaration_at}
use Rattle.ls_parser_expressions.proofs.Repeats.{bind_some, some_is}
use Rattle.ls_parser_expressions.proofs.Signs.{both_true, either, given_cases, sign_reads, word_reads, name_reads}
use Rattle.ls_parser_expressions.proofs.Shrinks.{Shrinks}
use Rattle.ls_parser_expressions.proofs.Lists.{onto_all, SoundItem, many_sound}
use Rattle.ls_parser_declarations.proofs.OntoDeclarations.{onto_modifier, modifier_longer, onto_type, onto_declarator}
use Rattle.ls_parser_declarations.proofs.OntoDeclarations.{declarator_longer, onto_next_declarator, onto_declaration}
use Rattle.ls_parser_expressions.proofs.ChainsRead.{class_reads}
use Rattle.ls_parser_expressions.proofs.ExpressionsRead.{expression_sound}

abbrev cons : Lexeme → List Lexeme → List Lexeme
cons k ks = k ∷ ks

-- ---- modifiers and types

-- a property that everything has
abbrev pub Anything : {A : Type 0} → A → Type 0
Anything x = Unit {0}

modifier_word_reads : (word : Word) (ks : List Lexeme) (m : Modifier) →
    modifier_of_word word ≡ Some m →
    Reserved word ∷ ks ≡ onto_modifier m ks
modifier_word_reads words.Public ks m e = ap (λ (n : Modifier). onto_modifier n ks) (some_is Public m e)
modifier_word_reads words.Protected ks m e = ap (λ (n : Modifier). onto_modifier n ks) (some_is Protected m e)
modifier_word_reads words.Private ks m e = ap (λ (n : Modifier). onto_modifier n ks) (some_is Private m e)
modifier_word_reads words.Final ks m e = ap (λ (n : Modifier). onto_modifier n ks) (some_is Final m e)
modifier_word_reads words.Volatile ks m e = ap (λ (n : Modifier). onto_modifier n ks) (some_is Volatile m e)
modifier_word_reads _ ks m e = absurd cc

modifier_word_sound : (ks : List Lexeme) (x : Modifier × List Lexeme) →
    modifier_word_at ks ≡ Some x →
    ks ≡ onto_modifier x.0 x.1
modifier_word_sound [] x e = absurd cc
modifier_word_sound (Named text ∷ ks) x e = absurd cc
modifier_word_sound (Numeral text ∷ ks) x e = absurd cc
modifier_word_sound (Marked sign ∷ ks) x e = absurd cc
modifier_word_sound (Reserved word ∷ ks) x e =
    let b = bind_some (modifier_of_word word) _ x e in
    modifier_word_reads word ks b.0 b.1 ∙
    ap (λ (y : Modifier × List Lexeme). onto_modifier y.0 y.1) (some_is (b.0, ks) x b.2)

pub modifier_sound : SoundItem onto_modifier Anything modifier_at
modifier_sound ks x e =
    elim (given_cases (modifier_word_at ks) (λ m. Some m) (annotation_at ks) (Some x) e) [
      | inl annotation ↦
          let a = bind_some (after_sign signs.At ks) _ x annotation.1 in
          let n = bind_some (name_at a.0) _ x a.2 in (
            sign_reads signs.At ks a.0 a.1 ∙ ap (cons (Marked signs.At)) (name_reads a.0 n.0 n.1) ∙
                ap (λ (y : Modifier × List Lexeme). onto_modifier y.0 y.1) (some_is (Annotation n.0.0, n.0.1) x n.2),
            tt,
          )
      | inr word ↦ (
        modifier_word_sound ks word.0 word.1 ∙
            ap (λ (y : Modifier × List Lexeme). onto_modifier y.0 y.1) (some_is word.0 x word.2),
        tt,
      )
    ]

pub modifiers_sound : (ks : List Lexeme) (x : List Modifier × List Lexeme) →
    modifiers_at ks ≡ Some x →
    ks ≡ onto_all onto_modifier x.0 x.1
modifiers_sound ks x e = (many_sound onto_modifier Anything starts_modifier modifier_at modifier_sound ks x e).0.spelled

boolean_sound : (ks : List Lexeme) (x : TypeName × List Lexeme) →
    boolean_at ks ≡ Some x →
    Reserved words.Boolean ∷ ks ≡ onto_type x.0 x.1
boolean_sound ks x e =
    elim (given_cases (after_sign signs.OpenBracket ks) _ (Some (Boolean, ks)) (Some x) e) [
      | inl one ↦ ap (λ (y : TypeName × List Lexeme). onto_type y.0 y.1) (some_is (Boolean, ks) x one.1)
      | inr array ↦
          let c = bind_some (after_sign signs.CloseBracket array.0) _ x array.2 in
          ap (cons (Reserved words.Boolean)) (sign_reads signs.OpenBracket ks array.0 array.1 ∙
          ap (cons (Marked signs.OpenBracket)) (sign_reads signs.CloseBracket array.0 c.0 c.1))
          ∙ ap (λ (y : TypeName × List Lexeme). onto_type y.0 y.1) (some_is (BooleanArray, c.0) x c.2)
    ]

named_type_sound : (text : Text) (ks : List Lexeme) (x : TypeName × List Lexeme) →
    named_type_at text ks ≡ Some x →
    Named text ∷ ks ≡ onto_type x.0 x.1
named_type_sound text ks x e =
    elim (either (is_markable text && starts signs.Less ks) (class_at ks >>= λ name. Some (Markable name.0, name.1))
    (Some (Class text, ks)) (Some x) e) [
      | inl markable ↦
          let c = bind_some (class_at ks) _ x markable.1 in
          let is : text ≡ markable_name =
          same_text text markable_name (sym (both_true (is_markable text) (starts signs.Less ks) markable.0).0) in
          (λ i. Named (is i) ∷ class_reads ks c.0 c.1 i) ∙
          ap (λ (y : TypeName × List Lexeme). onto_type y.0 y.1) (some_is (Markable c.0.0, c.0.1) x c.2)
      | inr other ↦ ap (λ (y : TypeName × List Lexeme). onto_type y.0 y.1) (some_is (Class text, ks) x other.1)
    ]

-- a type that is read is spelled by its tokens
pub type_sound : (ks : List Lexeme) (x : TypeName × List Lexeme) → type_at ks ≡ Some x → ks ≡ onto_type x.0 x.1
type_sound ks x e =
    elim (given_cases (name_at ks) (λ name. named_type_at name.0 name.1)
    (given (after_word words.Int ks) (λ rest. Some (Int, rest))
    (after_word words.Boolean ks >>= λ rest. boolean_at rest)) (Some x) e) [
      | inr name ↦ name_reads ks name.0 name.1 ∙ named_type_sound name.0.0 name.0.1 x name.2
      | inl word ↦
          elim (given_cases (after_word words.Int ks) (λ rest. Some (Int, rest))
          (after_word words.Boolean ks >>= λ rest. boolean_at rest) (Some x) word.1) [
            | inr int ↦ word_reads words.Int ks int.0 int.1 ∙
                ap (λ (y : TypeName × List Lexeme). onto_type y.0 y.1) (some_is (Int, int.0) x int.2)
            | inl boolean ↦
                let b = bind_some (after_word words.Boolean ks) _ x boolean.1 in
                word_reads words.Boolean ks b.0 b.1 ∙ boolean_sound b.0 x b.2
          ]
    ]

-- ---- declarations

-- a declarator that is well formed and not too high
abbrev pub FormedDeclarator : ℕ → Declarator → Type 0
FormedDeclarator limit d = WellFormedValue d.value × (value_height d.value ≤ limit)

pub declarator_sound : (limit : ℕ) →
    SoundItem onto_declarator (FormedDeclarator limit) (declarator_at (expression_at limit))
declarator_sound limit ks x e =
    let n = bind_some (name_at ks) _ x e in
    elim (given_cases (after_sign signs.Assign n.0.1) _ (Some (declarator_of n.0.0 None, n.0.1)) (Some x) n.2) [
      | inl none ↦
          subst (λ (y : Declarator × List Lexeme). (ks ≡ onto_declarator y.0 y.1) × FormedDeclarator limit y.0)
          (some_is (declarator_of n.0.0 None, n.0.1) x none.1)
          (name_reads ks n.0 n.1, (tt, omega arith))
      | inr some ↦
          let v = bind_some (expression_at limit some.0) _ x some.2 in
          let value = expression_sound limit some.0 v.0 v.1 in
          subst (λ (y : Declarator × List Lexeme). (ks ≡ onto_declarator y.0 y.1) × FormedDeclarator limit y.0)
          (some_is (declarator_of n.0.0 (Some v.0.0), v.0.1) x v.2) (
            name_reads ks n.0 n.1 ∙
                ap (cons (Named n.0.0)) (sign_reads signs.Assign n.0.1 some.0 some.1 ∙
                ap (cons (Marked signs.Assign)) value.spelled),
            (value.formed, value.fits),
          )
    ]

pub next_declarator_sound : (limit : ℕ) →
    SoundItem onto_next_declarator (FormedDeclarator limit) (behind_comma (declarator_at (expression_at limit)))
next_declarator_sound limit ks x e =
    let c = bind_some (after_sign signs.Comma ks) _ x e in
    let d = declarator_sound limit c.0 x c.2 in
    (sign_reads signs.Comma ks c.0 c.1 ∙ ap (cons (Marked signs.Comma)) d.0, d.1)

more_formed : (limit : ℕ) (ds : List Declarator) →
    AllByRecursion (FormedDeclarator limit) ds →
    AllByRecursion (λ (m : Declarator). WellFormedValue m.value) ds × (declarators_height ds ≤ limit)
more_formed limit [] all = (tt, omega arith)
more_formed limit (d ∷ ds) all =
    let more = more_formed limit ds all.1 in
    ((all.0.0, more.0), omega (arith, all.0.1, more.1))

pub record ReadsDeclaration (limit : ℕ) (ks : List Lexeme) (x : Declaration × List Lexeme) : Type 0 where
  pub spelled : ks ≡ onto_declaration x.0 x.1
  pub formed : WellFormedDeclaration x.0
  pub fits : declarators_height (x.0.first ∷ x.0.more) ≤ limit

-- declarators that are read are spelled by their tokens
pub declarators_sound : (limit : ℕ) (modifiers : List Modifier) (type_name : TypeName) (whole ks : List Lexeme)
    (x : Declaration × List Lexeme)
    → whole ≡ onto_all onto_modifier modifiers (onto_type type_name ks) →
    declarators_at (expression_at limit) modifiers type_name ks ≡ Some x → ReadsDeclaration limit whole x
declarators_sound limit modifiers type_name whole ks x before e =
    let f = bind_some (declarator_at (expression_at limit) ks) _ x e in
    let m = bind_some (many_at (not_yet signs.Semicolon) (behind_comma (declarator_at (expression_at limit))) f.0.1) _ x
    f.2 in
    let s = bind_some (after_sign signs.Semicolon m.0.1) _ x m.2 in
    let first = declarator_sound limit ks f.0 f.1 in
    let more = (many_sound onto_next_declarator (FormedDeclarator limit) (not_yet signs.Semicolon)
    (behind_comma (declarator_at (expression_at limit))) (next_declarator_sound limit) f.0.1 m.0 m.1).0 in
    let formed = more_formed limit m.0.0 more.each in
    subst (ReadsDeclaration limit whole) (some_is (declaration_of modifiers type_name f.0.0 m.0.0, s.0) x s.2) (record {
      spelled = before ∙ ap (λ (r : List Lexeme). onto_all onto_modifier modifiers (onto_type type_name r))
          (first.0 ∙ ap (onto_declarator f.0.0)
          (more.spelled ∙ ap (onto_all onto_next_declarator m.0.0) (sign_reads signs.Semicolon m.0.1 s.0 s.1)));
      formed = (first.1.0, formed.0);
      fits = omega (arith, first.1.1, formed.1);
    })

-- a declaration that is read is spelled by its tokens
pub declaration_sound : (limit : ℕ) (ks : List Lexeme) (x : Declaration × List Lexeme) →
    declaration_at (expression_at limit) ks ≡ Some x →
    ReadsDeclaration limit ks x
declaration_sound limit ks x e =
    let m = bind_some (modifiers_at ks) _ x e in
    let t = bind_some (type_at m.0.1) _ x m.2 in
    declarators_sound limit m.0.0 t.0.0 ks t.0.1 x (modifiers_sound ks m.0 m.1 ∙
    ap (onto_all onto_modifier m.0.0) (type_sound m.0.1 t.0 t.1)) t.2

-- ---- each takes a token at least

pub modifier_shrinks : Shrinks modifier_at
modifier_shrinks ks x e = omega (arith, ap length (modifier_sound ks x e).0, modifier_longer x.0 x.1)

-- a declarator takes a token
pub declarator_shrinks : (limit : ℕ) → Shrinks (declarator_at (expression_at limit))
declarator_shrinks limit ks x e = omega (arith, ap length (declarator_sound limit ks x e).0, declarator_longer x.0 x.1)
