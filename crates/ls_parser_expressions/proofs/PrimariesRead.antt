-- Primary expressions: what is read is spelled so and well-formed.
use Rattle.std.proofs.Common.{◌≡◌, ◌≢◌, ℕ, suc, ◌≤◌, Bool, true, false, not, List, [], ◌∷◌, Option, Some, refl}
use Rattle.std.proofs.Common.{sym, ap, subst, ◌∙◌, inl, inr, arith}
use Rattle.std.proofs.lemmas.Bool.{or_cases, not-true, true≢false}
use Rattle.std.specs.Prelude.{◌||◌, ◌&&◌}
use Rattle.std.specs.Cmp.Lexicographic.{same_text}
use Rattle.ls_lexer.specs.declared.sign.Sign.{Sign}
use Rattle.ls_lexer.specs.declared.sign.Sign.TheVariants as signs
use Rattle.ls_lexer.specs.declared.word.Word.{Word}
use Rattle.ls_lexer.specs.declared.word.Word.TheVariants as words
use Rattle.ls_lexer.specs.Lexemes.{Lexeme, Named, Numeral, Reserved, Marked}
use Rattle.ls_tree.specs.Trees.{Text, Expression, Number, True, False, Null, This, Name, Paren, Call, New, NewMarkable}
use Rattle.ls_tree.specs.Trees.{NewArray, Expressions}
use Rattle.ls_tree.specs.WellFormed.{is_post, WellFormed, AreWellFormed, expression_height, expressions_height}
use Rattle.ls_parser_tokens.specs.Reading.{◌>>=◌, Reader, after_sign, after_word, name_at, starts}
use Rattle.ls_parser_expressions.specs.ReadingExpressions.{markable_name, is_markable, arguments_at, has_suffix}
use Rattle.ls_parser_expressions.specs.ReadingExpressions.{index_at, suffix_at, start_of_sign, start_of_word, largest}
use Rattle.ls_parser_expressions.specs.ReadingExpressions.{is_largest, number_here, named_at, made_at, class_at}
use Rattle.ls_parser_expressions.specs.ReadingExpressions.{object_at, new_at, paren_at, primary_from, primary_at}
use Rattle.ls_parser_expressions.specs.ReadingExpressions.{post_of}
use Rattle.ls_parser_expressions.proofs.Repeats.{bind_some, some_is, repeat_sound}
use Rattle.ls_parser_expressions.proofs.Signs.{guard_some, both_true, either, given_cases, sign_reads, word_reads}
use Rattle.ls_parser_expressions.proofs.Signs.{name_reads}
use Rattle.ls_parser_expressions.proofs.Onto.{onto, onto_class, onto_expressions}
use Rattle.ls_parser_expressions.proofs.ChainsRead.{Sound, class_reads}
use Rattle.ls_parser_expressions.proofs.SuffixesRead.{ReadsPost, arguments_sound, index_sound, suffix_sound}

module _ (limit : ℕ) (expression : Reader Expression) (sound : Sound expression false 6 limit) where
  -- ---- primaries

  largest_test : (text : List ℕ) → is_largest text ≡ false → text ≢ largest
  largest_test text h e = true≢false (sym (ap is_largest e) ∙ h)

  number_sound : (after_minus : Bool) (text : Text) (ks : List Lexeme) (x : Expression × List Lexeme) →
      number_here after_minus text ks ≡ Some x →
      ReadsPost limit expression sound after_minus (Numeral text ∷ ks) x
  number_sound after_minus text ks x e =
      let g = guard_some (after_minus || not (is_largest text)) (Number text, ks) x e in
      subst (ReadsPost limit expression sound after_minus (Numeral text ∷ ks)) g.1 (record {
        spelled = refl;
        formed = λ not_after. elim (or_cases after_minus (not (is_largest text)) g.0) [
          | inl is ↦ absurd (true≢false (sym is ∙ not_after))
          | inr small ↦ largest_test text (not-true (is_largest text) small)
        ];
        post = refl;
        fits = omega arith;
      })

  named_sound : (after_minus : Bool) (text : Text) (ks : List Lexeme) (x : Expression × List Lexeme) →
      named_at expression text ks ≡ Some x →
      ReadsPost limit expression sound after_minus (Named text ∷ ks) x
  named_sound after_minus text ks x e =
      elim (given_cases (after_sign signs.OpenParen ks) _ (Some (Name text, ks)) (Some x) e) [
        | inl name ↦
            subst (ReadsPost limit expression sound after_minus (Named text ∷ ks)) (some_is (Name text, ks) x name.1)
            (record { spelled = refl; formed = tt; post = refl; fits = omega arith })
        | inr call ↦
            let a = bind_some (arguments_at expression call.0) _ x call.2 in
            let ts = arguments_sound limit expression sound call.0 a.0 a.1 in
            subst (ReadsPost limit expression sound after_minus (Named text ∷ ks))
            (some_is (Call text a.0.0, a.0.1) x a.2) (record {
              spelled = ap (λ (r : List Lexeme). Named text ∷ r) (sign_reads signs.OpenParen ks call.0 call.1 ∙
                  ap (λ (r : List Lexeme). Marked signs.OpenParen ∷ r) ts.spelled);
              formed = ts.formed;
              post = refl;
              fits = omega (arith, ts.fits);
            })
      ]

  paren_sound : (after_minus : Bool) (ks : List Lexeme) (x : Expression × List Lexeme) →
      paren_at expression ks ≡ Some x →
      ReadsPost limit expression sound after_minus (Marked signs.OpenParen ∷ ks) x
  paren_sound after_minus ks x e =
      let b = bind_some (expression ks) _ x e in
      let c = bind_some (after_sign signs.CloseParen b.0.1) _ x b.2 in
      let inside = sound ks b.0 b.1 in
      subst (ReadsPost limit expression sound after_minus (Marked signs.OpenParen ∷ ks))
      (some_is (Paren b.0.0, c.0) x c.2) (record {
        spelled = ap (λ (r : List Lexeme). Marked signs.OpenParen ∷ r)
            (inside.spelled ∙ ap (onto b.0.0) (sign_reads signs.CloseParen b.0.1 c.0 c.1));
        formed = inside.formed;
        post = refl;
        fits = omega (arith, inside.fits);
      })

  -- an object that is made, with its arguments
  record Makes (make : Expressions → Expression) (ks : List Lexeme) (x : Expression × List Lexeme) : Type 0 where
    arguments : Expressions
    is : x.0 ≡ make arguments
    spelled : ks ≡ Marked signs.OpenParen ∷ onto_expressions arguments x.1
    formed : AreWellFormed arguments
    fits : expressions_height arguments ≤ limit

  made_sound : (make : Expressions → Expression) (ks : List Lexeme) (x : Expression × List Lexeme) →
      made_at expression make ks ≡ Some x →
      Makes make ks x
  made_sound make ks x e =
      let a = bind_some (after_sign signs.OpenParen ks) _ x e in
      let b = bind_some (arguments_at expression a.0) _ x a.2 in
      let ts = arguments_sound limit expression sound a.0 b.0 b.1 in
      subst (Makes make ks) (some_is (make b.0.0, b.0.1) x b.2) (record {
        arguments = b.0.0;
        is = refl;
        spelled = sign_reads signs.OpenParen ks a.0 a.1 ∙
            ap (λ (r : List Lexeme). Marked signs.OpenParen ∷ r) ts.spelled;
        formed = ts.formed;
        fits = ts.fits;
      })

  object_sound : (after_minus : Bool) (text : Text) (ks : List Lexeme) (x : Expression × List Lexeme) →
      object_at expression text ks ≡ Some x →
      ReadsPost limit expression sound after_minus (Reserved words.New ∷ Named text ∷ ks) x
  object_sound after_minus text ks x e =
      elim (either (is_markable text && starts signs.Less ks) _ (made_at expression (New text) ks) (Some x) e) [
        | inl markable ↦
            let c = bind_some (class_at ks) _ x markable.1 in
            let m = made_sound (NewMarkable c.0.0) c.0.1 x c.2 in
            let is : text ≡ markable_name =
            same_text text markable_name (sym (both_true (is_markable text) (starts signs.Less ks) markable.0).0) in
            subst (λ (t : Expression). ReadsPost limit expression sound after_minus
            (Reserved words.New ∷ Named text ∷ ks) (t, x.1)) (sym m.is)
            (record {
              spelled = (λ i. Reserved words.New ∷ Named (is i) ∷ class_reads ks c.0 c.1 i) ∙
                  ap (λ (r : List Lexeme). Reserved words.New ∷ Named markable_name ∷ onto_class c.0.0 r) m.spelled;
              formed = m.formed;
              post = refl;
              fits = omega (arith, m.fits);
            })
        | inr other ↦
            let m = made_sound (New text) ks x other.1 in
            subst (λ (t : Expression). ReadsPost limit expression sound after_minus
            (Reserved words.New ∷ Named text ∷ ks) (t, x.1)) (sym m.is)
            (record {
              spelled = ap (λ (r : List Lexeme). Reserved words.New ∷ Named text ∷ r) m.spelled;
              formed = m.formed;
              post = refl;
              fits = omega (arith, m.fits);
            })
      ]

  new_sound : (after_minus : Bool) (ks : List Lexeme) (x : Expression × List Lexeme) →
      new_at expression ks ≡ Some x →
      ReadsPost limit expression sound after_minus (Reserved words.New ∷ ks) x
  new_sound after_minus ks x e =
      elim (given_cases (name_at ks) _
      (after_word words.Boolean ks >>= λ rest. index_at expression rest >>= λ length. Some
      (NewArray length.0, length.1)) (Some x) e) [
        | inl array ↦
            let a = bind_some (after_word words.Boolean ks) _ x array.1 in
            let i = bind_some (index_at expression a.0) _ x a.2 in
            let index = index_sound limit expression sound a.0 i.0 i.1 in
            subst (ReadsPost limit expression sound after_minus (Reserved words.New ∷ ks))
            (some_is (NewArray i.0.0, i.0.1) x i.2) (record {
              spelled = ap (λ (r : List Lexeme). Reserved words.New ∷ r) (word_reads words.Boolean ks a.0 a.1 ∙
                  ap (λ (r : List Lexeme). Reserved words.Boolean ∷ r) index.spelled);
              formed = index.formed;
              post = refl;
              fits = omega (arith, index.fits);
            })
        | inr name ↦
            subst (λ (r : List Lexeme). ReadsPost limit expression sound after_minus (Reserved words.New ∷ r) x)
            (sym (name_reads ks name.0 name.1)) (object_sound after_minus name.0.0 name.0.1 x name.2)
      ]

  constant_sound :
      (after_minus : Bool) (t : Expression) (ks : List Lexeme) (x : Expression × List Lexeme) (k : Lexeme) →
      onto t ks ≡ k ∷ ks →
      WellFormed after_minus t →
      is_post t ≡ true →
      expression_height t ≡ 1 →
      ◌≡◌ {A = Option (Expression × List Lexeme)} (Some (t, ks)) (Some x) →
      ReadsPost limit expression sound after_minus (k ∷ ks) x
  constant_sound after_minus t ks x k is formed post one e =
      subst (ReadsPost limit expression sound after_minus (k ∷ ks)) (some_is (t, ks) x e)
      (record { spelled = sym is; formed = formed; post = post; fits = omega arith })

  word_sound : (word : Word) (after_minus : Bool) (ks : List Lexeme) (x : Expression × List Lexeme) →
      primary_from (start_of_word word) after_minus expression ks ≡ Some x →
      ReadsPost limit expression sound after_minus (Reserved word ∷ ks) x
  word_sound words.True after_minus ks x e =
      constant_sound after_minus True ks x (Reserved words.True) refl tt refl refl e
  word_sound words.False after_minus ks x e =
      constant_sound after_minus False ks x (Reserved words.False) refl tt refl refl e
  word_sound words.Null after_minus ks x e =
      constant_sound after_minus Null ks x (Reserved words.Null) refl tt refl refl e
  word_sound words.This after_minus ks x e =
      constant_sound after_minus This ks x (Reserved words.This) refl tt refl refl e
  word_sound words.New after_minus ks x e = new_sound after_minus ks x e
  word_sound _ after_minus ks x e = absurd cc

  sign_sound : (sign : Sign) (after_minus : Bool) (ks : List Lexeme) (x : Expression × List Lexeme) →
      primary_from (start_of_sign sign) after_minus expression ks ≡ Some x →
      ReadsPost limit expression sound after_minus (Marked sign ∷ ks) x
  sign_sound signs.OpenParen after_minus ks x e = paren_sound after_minus ks x e
  sign_sound _ after_minus ks x e = absurd cc

  primary_sound : (after_minus : Bool) (ks : List Lexeme) (x : Expression × List Lexeme) →
      primary_at after_minus expression ks ≡ Some x →
      ReadsPost limit expression sound after_minus ks x
  primary_sound after_minus [] x e = absurd cc
  primary_sound after_minus (Named text ∷ ks) x e = named_sound after_minus text ks x e
  primary_sound after_minus (Numeral text ∷ ks) x e = number_sound after_minus text ks x e
  primary_sound after_minus (Reserved word ∷ ks) x e = word_sound word after_minus ks x e
  primary_sound after_minus (Marked sign ∷ ks) x e = sign_sound sign after_minus ks x e

  pub post_of_sound : (after_minus : Bool) (ks : List Lexeme) (x : Expression × List Lexeme) →
      post_of (suc limit) after_minus expression ks ≡ Some x →
      ReadsPost limit expression sound after_minus ks x
  post_of_sound after_minus ks x e =
      let p = bind_some (primary_at after_minus expression ks) _ x e in
      (repeat_sound has_suffix (suffix_at (suc limit) expression) (λ left rest. ReadsPost limit expression sound
      after_minus ks (left, rest))
      (λ left rest y before goes step. suffix_sound limit expression sound after_minus ks left rest y before step)
      (suc limit) p.0.0 p.0.1 x (primary_sound after_minus ks p.0 p.1) p.2).0
