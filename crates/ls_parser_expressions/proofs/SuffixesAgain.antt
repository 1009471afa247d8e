-- Arguments and suffixes of expressions: what is well-formed is read again.
use Rattle.std.proofs.Common.{◌≡◌, ◌≢◌, ℕ, zero, suc, ◌+◌, ◌<◌, ◌≤◌, Bool, true, false, List, [], ◌∷◌, length, Some}
use Rattle.std.proofs.Common.{None, refl, sym, ap, ◌∙◌, inl, inr, arith, le-leb}
use Rattle.std.proofs.lemmas.Bool.{cases_Bool}
use Rattle.std.specs.Prelude.{◌&&◌}
use Rattle.std.specs.List.{AllByRecursion}
use Rattle.std.specs.Cmp.Lexicographic.{same_text}
use Rattle.ls_lexer.specs.declared.sign.Sign.TheVariants as signs
use Rattle.ls_lexer.specs.Lexemes.{Lexeme, Named, Numeral, Marked}
use Rattle.ls_tree.specs.Trees.{Text, Expression, Number, True, False, Null, This, Name, Paren, Unary, Binary, Field}
use Rattle.ls_tree.specs.Trees.{Call, CallOn, Item, New, NewMarkable, NewArray, Expressions, NoExpression}
use Rattle.ls_tree.specs.Trees.{MoreExpressions, listed}
use Rattle.ls_tree.specs.WellFormed.{is_post, is_new_array, WellFormed, AreWellFormed, expression_height}
use Rattle.ls_tree.specs.WellFormed.{expressions_height}
use Rattle.ls_parser_tokens.specs.Reading.{Reader, after_sign, not_yet, repeat, many_from, behind_comma}
use Rattle.ls_parser_expressions.specs.ReadingExpressions.{is_markable, below, arguments_at, has_suffix, suffix_at}
use Rattle.ls_parser_expressions.specs.ReadingExpressions.{index_at, largest, is_largest, primary_at, post_of}
use Rattle.ls_parser_expressions.proofs.Repeats.{repeat_stops, turn}
use Rattle.ls_parser_expressions.proofs.Onto.{onto, onto_expressions, onto_others, onto_longer}
use Rattle.ls_parser_expressions.proofs.Lists.{onto_all, many_from_complete}
use Rattle.ls_parser_expressions.proofs.ExpressionEdges.{Follow, ranked_six, follow_close, follow_comma, no_close}
use Rattle.ls_parser_expressions.proofs.ExpressionEdges.{follow_bracket}
use Rattle.ls_parser_expressions.proofs.ChainsAgain.{Complete}

-- ---- arguments

abbrev onto_next : Expression → List Lexeme → List Lexeme
onto_next t rest = Marked signs.Comma ∷ onto t rest

next_longer : (t : Expression) (rest : List Lexeme) → length rest < length (onto_next t rest)
next_longer t rest = omega (arith, onto_longer t rest)

abbrev unlisted : Expressions → List Expression
unlisted NoExpression = []
unlisted (MoreExpressions t ts) = t ∷ unlisted ts

listed_again : (ts : Expressions) → listed (unlisted ts) ≡ ts
listed_again NoExpression = refl
listed_again (MoreExpressions t ts) = ap (MoreExpressions t) (listed_again ts)

others_are : (ts : Expressions) (rest : List Lexeme) →
    onto_others ts rest ≡ onto_all onto_next (unlisted ts) (Marked signs.CloseParen ∷ rest)
others_are NoExpression rest = refl
others_are (MoreExpressions t ts) rest = ap (λ (ks : List Lexeme). Marked signs.Comma ∷ onto t ks) (others_are ts rest)

abbrev FormedExpression : ℕ → Expression → Type 0
FormedExpression limit t = WellFormed false t × (expression_height t ≤ limit)

all_formed : (limit : ℕ) (ts : Expressions) →
    AreWellFormed ts →
    expressions_height ts ≤ limit →
    AllByRecursion (FormedExpression limit) (unlisted ts)
all_formed limit NoExpression formed fits = tt
all_formed limit (MoreExpressions t ts) formed fits =
    ((formed.0, omega arith), all_formed limit ts formed.1 (omega arith))

and_false : (b : Bool) → (b && false) ≡ false
and_false true = refl
and_false false = refl

not_largest : (text : Text) → text ≢ largest → is_largest text ≡ false
not_largest text h =
    elim (cases_Bool (is_largest text)) [ inl is ↦ absurd (h (same_text text largest (sym is))) | inr is_not ↦ is_not ]

module _ (limit : ℕ) (whole : Reader Expression) (complete : Complete whole false 6 limit) where
  reads : (t : Expression) (rest : List Lexeme) →
      WellFormed false t →
      expression_height t ≤ limit →
      Follow 6 rest →
      whole (onto t rest) ≡ Some (t, rest)
  reads t rest formed fits follow = complete t rest formed (ranked_six t) fits follow

  others_again : (first : Expression) (ts : Expressions) (rest : List Lexeme) →
      AreWellFormed ts →
      expressions_height ts ≤ limit
      → many_from (first ∷ []) (not_yet signs.CloseParen) (behind_comma whole) (onto_others ts rest) ≡
      Some (first ∷ unlisted ts, Marked signs.CloseParen ∷ rest)
  others_again first ts rest formed fits =
      ap (many_from (first ∷ []) (not_yet signs.CloseParen) (behind_comma whole)) (others_are ts rest)
      ∙ many_from_complete onto_next (FormedExpression limit) (not_yet signs.CloseParen) (behind_comma whole) (Follow 6)
      (λ t rest' p follow. reads t rest' p.0 p.1 follow) (λ t rest' p. (refl, follow_comma 6 (onto t rest')))
      next_longer
      (first ∷ []) (unlisted ts) (Marked signs.CloseParen ∷ rest) (all_formed limit ts formed fits) refl
      (follow_close 6 rest)

  follow_others : (ts : Expressions) (rest : List Lexeme) → Follow 6 (onto_others ts rest)
  follow_others NoExpression rest = follow_close 6 rest
  follow_others (MoreExpressions t ts) rest = follow_comma 6 (onto t (onto_others ts rest))

  pub arguments_complete : (ts : Expressions) (rest : List Lexeme) →
      AreWellFormed ts →
      expressions_height ts ≤ limit →
      arguments_at whole (onto_expressions ts rest) ≡ Some (ts, rest)
  arguments_complete NoExpression rest formed fits = refl
  arguments_complete (MoreExpressions first others) rest formed fits =
      rw (
        no_close first (onto_others others rest),
        reads first (onto_others others rest) formed.0 (omega arith) (follow_others others rest),
        others_again first others rest formed.1 (omega arith),
      )
      (ap (λ (ts : Expressions). Some (MoreExpressions first ts, rest)) (listed_again others))

  index_again : (index : Expression) (rest : List Lexeme) →
      WellFormed false index →
      expression_height index ≤ limit →
      index_at whole (Marked signs.OpenBracket ∷ onto index (Marked signs.CloseBracket ∷ rest)) ≡ Some (index, rest)
  index_again index rest formed fits =
      rw (reads index (Marked signs.CloseBracket ∷ rest) formed fits (follow_bracket 6 rest)) refl

  -- ---- suffixes

  fits_below : (t : Expression) → expression_height t < suc limit → below (suc limit) t ≡ true
  fits_below t lt = le-leb (expression_height t + 1) (suc limit) (omega arith)

  field_step : (target : Expression) (name : Text) (rest : List Lexeme) →
      after_sign signs.OpenParen rest ≡ None →
      expression_height (Field target name) ≤ suc limit
      → suffix_at (suc limit) whole target (Marked signs.Dot ∷ Named name ∷ rest) ≡ Some (Field target name, rest)
  field_step target name rest not_called fits = rw (fits_below target (omega arith), not_called) refl

  call_step : (target : Expression) (name : Text) (arguments : Expressions) (rest : List Lexeme) →
      AreWellFormed arguments →
      expression_height (CallOn target name arguments) ≤ suc limit
      → suffix_at (suc limit) whole target (Marked signs.Dot ∷ Named name ∷ Marked signs.OpenParen ∷
      onto_expressions arguments rest) ≡ Some (CallOn target name arguments, rest)
  call_step target name arguments rest formed fits =
      rw (fits_below target (omega arith), arguments_complete arguments rest formed (omega arith)) refl

  item_step : (array index : Expression) (rest : List Lexeme) →
      is_new_array array ≡ false →
      WellFormed false index →
      expression_height (Item array index) ≤ suc limit
      → suffix_at (suc limit) whole array (Marked signs.OpenBracket ∷ onto index (Marked signs.CloseBracket ∷ rest)) ≡
      Some (Item array index, rest)
  item_step array index rest other formed fits =
      rw (fits_below array (omega arith), other, index_again index rest formed (omega arith)) refl

  module _ (after_minus : Bool) where
    abbrev go : ℕ → Expression → Reader Expression
    go turns left ks = repeat turns has_suffix (suffix_at (suc limit) whole) left ks

    -- reading a tree reaches a point among its suffixes, with the tree on the left
    abbrev ComesPost : Expression → List Lexeme → Type 0
    ComesPost t rest = (turns : ℕ) × (suc limit ≤ turns + expression_height t) ×
        (post_of (suc limit) after_minus whole (onto t rest) ≡ go turns t rest)

    primary_comes : (t : Expression) (rest : List Lexeme) →
        primary_at after_minus whole (onto t rest) ≡ Some (t, rest) →
        ComesPost t rest
    primary_comes t rest e = (suc limit, omega arith, rw e refl)

    go_on : (turns : ℕ) (t left : Expression) (ks all rest : List Lexeme) →
        suc limit ≤ turns + expression_height left →
        expression_height left < expression_height t →
        expression_height t ≤ suc limit →
        post_of (suc limit) after_minus whole ks ≡ go turns left all
        → has_suffix all ≡ true → suffix_at (suc limit) whole left all ≡ Some (t, rest) →
        (turns' : ℕ) × (suc limit ≤ turns' + expression_height t) ×
        (post_of (suc limit) after_minus whole ks ≡ go turns' t rest)
    go_on zero t left ks all rest bound grows fits e goes step = absurd (omega arith)
    go_on (suc m) t left ks all rest bound grows fits e goes step =
        (m, omega arith, e ∙ turn has_suffix (suffix_at (suc limit) whole) m left all goes ∙ rw step refl)

    number_again : (text : Text) (rest : List Lexeme) →
        WellFormed after_minus (Number text) →
        primary_at after_minus whole (Numeral text ∷ rest) ≡ Some (Number text, rest)
    number_again text rest formed =
        elim (cases_Bool after_minus) [
          | inl yes' ↦ rw yes' refl
          | inr no' ↦ rw (no', not_largest text (formed no')) refl
        ]

    comes_post : (t : Expression) (rest : List Lexeme) →
        is_post t ≡ true →
        WellFormed after_minus t →
        expression_height t ≤ suc limit →
        after_sign signs.OpenParen rest ≡ None →
        ComesPost t rest
    comes_post (Number text) rest post formed fits not_called =
        primary_comes (Number text) rest (number_again text rest formed)
    comes_post True rest post formed fits not_called = primary_comes True rest refl
    comes_post False rest post formed fits not_called = primary_comes False rest refl
    comes_post Null rest post formed fits not_called = primary_comes Null rest refl
    comes_post This rest post formed fits not_called = primary_comes This rest refl
    comes_post (Name text) rest post formed fits not_called = primary_comes (Name text) rest (rw not_called refl)
    comes_post (Paren inner) rest post formed fits not_called =
        primary_comes (Paren inner) rest
        (rw (reads inner (Marked signs.CloseParen ∷ rest) formed (omega arith) (follow_close 6 rest)) refl)
    comes_post (Unary op operand) rest post formed fits not_called = absurd cc
    comes_post (Binary op left right) rest post formed fits not_called = absurd cc
    comes_post (Field target name) rest post formed fits not_called =
        let c = comes_post target (Marked signs.Dot ∷ Named name ∷ rest) formed.0 formed.1 (omega arith) refl in
        go_on c.0 (Field target name) target (onto (Field target name) rest) (Marked signs.Dot ∷ Named name ∷ rest) rest
        c.1 (omega arith) fits c.2 refl (field_step target name rest not_called fits)
    comes_post (Call name arguments) rest post formed fits not_called =
        primary_comes (Call name arguments) rest (rw (arguments_complete arguments rest formed (omega arith)) refl)
    comes_post (CallOn target name arguments) rest post formed fits not_called =
        let c = comes_post target (Marked signs.Dot ∷ Named name ∷ Marked signs.OpenParen ∷
        onto_expressions arguments rest) formed.0 formed.1 (omega arith) refl in
        go_on c.0 (CallOn target name arguments) target (onto (CallOn target name arguments) rest)
        (Marked signs.Dot ∷ Named name ∷ Marked signs.OpenParen ∷ onto_expressions arguments rest) rest c.1
        (omega arith) fits c.2 refl (call_step target name arguments rest formed.2 fits)
    comes_post (Item array index) rest post formed fits not_called =
        let c = comes_post array (Marked signs.OpenBracket ∷ onto index (Marked signs.CloseBracket ∷ rest)) formed.0
        formed.2 (omega arith) refl in
        go_on c.0 (Item array index) array (onto (Item array index) rest) (Marked signs.OpenBracket ∷
        onto index (Marked signs.CloseBracket ∷ rest)) rest c.1 (omega arith) fits c.2 refl
        (item_step array index rest formed.1 formed.3 fits)
    comes_post (New class arguments) rest post formed fits not_called =
        primary_comes (New class arguments) rest
        (rw (and_false (is_markable class), arguments_complete arguments rest formed (omega arith)) refl)
    comes_post (NewMarkable class arguments) rest post formed fits not_called =
        primary_comes (NewMarkable class arguments) rest
        (rw (arguments_complete arguments rest formed (omega arith)) refl)
    comes_post (NewArray length') rest post formed fits not_called =
        primary_comes (NewArray length') rest
        (rw (reads length' (Marked signs.CloseBracket ∷ rest) formed (omega arith) (follow_bracket 6 rest)) refl)

    pub post_of_complete : (t : Expression) (rest : List Lexeme) →
        is_post t ≡ true →
        WellFormed after_minus t →
        expression_height t ≤ suc limit →
        Follow 0 rest →
        post_of (suc limit) after_minus whole (onto t rest) ≡ Some (t, rest)
    post_of_complete t rest post formed fits follow =
        let c = comes_post t rest post formed fits follow.paren in
        let none : has_suffix rest ≡ false = rw (follow.dot, follow.bracket) refl in
        c.2 ∙ repeat_stops has_suffix (suffix_at (suc limit) whole) c.0 t rest none
