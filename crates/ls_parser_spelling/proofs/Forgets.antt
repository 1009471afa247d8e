-- Without the places the tokens of an expression are its spelling.
use Rattle.std.proofs.Common.{◌≡◌, List, [], ◌∷◌, ◌++◌, refl, sym, ap, ◌∙◌, append_assoc}
use Rattle.ls_lexer.specs.declared.token.Span.{Span}
use Rattle.ls_lexer.specs.declared.word.Word.TheVariants as words
use Rattle.ls_lexer.specs.declared.sign.Sign.TheVariants as signs
use Rattle.ls_lexer.specs.Lexemes.{Lexeme, Named, Reserved, Marked}
use Rattle.ls_tree.specs.declared.tree.BinaryOp.{BinaryOp}
use Rattle.ls_tree.specs.PlacedTrees.{Expression, Expressions}
use Rattle.ls_parser_spelling.specs.Spelling.{sign_of, sign_of_unary, in_parens, markable, spell_expression}
use Rattle.ls_parser_spelling.specs.Spelling.{spell_expressions, spell_others}
use Rattle.ls_parser_spelling.specs.Places.{Spot, forgotten, class_name_at, At, OperandAt, IndexAt, ArgumentsAt}
use Rattle.ls_parser_spelling.specs.Places.{SomeAt, number_at, true_at, false_at, null_at, this_at, name_at, paren_at}
use Rattle.ls_parser_spelling.specs.Places.{unary_at, binary_at, field_at, call_at, call_on_at, item_at, new_at}
use Rattle.ls_parser_spelling.specs.Places.{new_markable_at, new_array_at, operand_at, index_at, none_at, some_at}
use Rattle.ls_parser_spelling.specs.Places.{one_at, more_at}
use Rattle.ls_parser_spelling.specs.Laws.{plain, all_plain, PlacesForgotten}

abbrev cons : Lexeme → List Lexeme → List Lexeme
cons k ks = k ∷ ks

-- a part and what comes after it
abbrev part : List Lexeme → List Lexeme → List Lexeme
part ks more = ks ++ more

some_spell : {es : Expressions} {ss rest : List Spot} →
    SomeAt es ss rest →
    spell_others (all_plain es) ≡ Marked signs.Comma ∷ spell_expressions (all_plain es)
some_spell (one_at h) = refl
some_spell (more_at h k) = refl

mutual
  forgets : {e : Expression} {ss rest : List Spot} →
      At e ss rest →
      forgotten ss ≡ spell_expression (plain e) ++ forgotten rest
  forgets number_at = refl
  forgets true_at = refl
  forgets false_at = refl
  forgets null_at = refl
  forgets this_at = refl
  forgets name_at = refl
  forgets (paren_at {e} {rest = rest} h) =
      ap (cons (Marked signs.OpenParen))
      (forgets h ∙ sym (append_assoc (spell_expression (plain e)) (Marked signs.CloseParen ∷ []) (forgotten rest)))
  forgets (unary_at {op} h) = ap (cons (Marked (sign_of_unary op))) (forgets h)
  forgets (binary_at {op} {left} {right} {rest = rest} h g) =
      forgets h ∙ ap (part (spell_expression (plain left))) (operand_forgets g) ∙
      sym (append_assoc (spell_expression (plain left)) (Marked (sign_of op) ∷ spell_expression (plain right))
      (forgotten rest))
  forgets (field_at {target} {name} {rest = rest} h) =
      forgets h ∙ sym (append_assoc (spell_expression (plain target)) (Marked signs.Dot ∷ Named name.text ∷ [])
      (forgotten rest))
  forgets (call_at {name} g) =
      ap (λ (ks : List Lexeme). Named name.text ∷ Marked signs.OpenParen ∷ ks) (arguments_forget g)
  forgets (call_on_at {target} {name} {arguments} {rest = rest} h g) =
      forgets h ∙ ap (λ (ks : List Lexeme). spell_expression (plain target) ++ Marked signs.Dot ∷ Named name.text ∷
      Marked signs.OpenParen ∷ ks) (arguments_forget g)
      ∙ sym (append_assoc (spell_expression (plain target)) (Marked signs.Dot ∷ Named name.text ∷
      in_parens (spell_expressions (all_plain arguments))) (forgotten rest))
  forgets (item_at {array} {index} {rest = rest} h g) =
      forgets h ∙ ap (part (spell_expression (plain array))) (index_forgets g)
      ∙ sym (append_assoc (spell_expression (plain array)) (Marked signs.OpenBracket ∷
      (spell_expression (plain index) ++ Marked signs.CloseBracket ∷ [])) (forgotten rest))
  forgets (new_at {class} g) =
      ap (λ (ks : List Lexeme). Reserved words.New ∷ Named class.text ∷ Marked signs.OpenParen ∷ ks)
      (arguments_forget g)
  forgets (new_markable_at {class} class_name_at g) =
      ap (λ (ks : List Lexeme). Reserved words.New ∷ (markable class.text ++ Marked signs.OpenParen ∷ ks))
      (arguments_forget g)
  forgets (new_array_at g) =
      ap (λ (ks : List Lexeme). Reserved words.New ∷ Reserved words.Boolean ∷ ks) (index_forgets g)

  operand_forgets : {op : BinaryOp} {right : Expression} {ss rest : List Spot} →
      OperandAt op right ss rest →
      forgotten ss ≡ Marked (sign_of op) ∷ (spell_expression (plain right) ++ forgotten rest)
  operand_forgets (operand_at {op} h) = ap (cons (Marked (sign_of op))) (forgets h)

  index_forgets : {index : Expression} {last : Span} {ss rest : List Spot} →
      IndexAt index last ss rest →
      forgotten ss ≡ Marked signs.OpenBracket ∷
      ((spell_expression (plain index) ++ Marked signs.CloseBracket ∷ []) ++ forgotten rest)
  index_forgets (index_at {index} {rest = rest} h) =
      ap (cons (Marked signs.OpenBracket))
      (forgets h ∙ sym
      (append_assoc (spell_expression (plain index)) (Marked signs.CloseBracket ∷ []) (forgotten rest)))

  arguments_forget : {es : Expressions} {last : Span} {ss rest : List Spot} →
      ArgumentsAt es last ss rest →
      forgotten ss ≡ (spell_expressions (all_plain es) ++ Marked signs.CloseParen ∷ []) ++ forgotten rest
  arguments_forget none_at = refl
  arguments_forget (some_at {arguments} {rest = rest} h) =
      some_forget h ∙
      sym (append_assoc (spell_expressions (all_plain arguments)) (Marked signs.CloseParen ∷ []) (forgotten rest))

  some_forget : {es : Expressions} {ss rest : List Spot} →
      SomeAt es ss rest →
      forgotten ss ≡ spell_expressions (all_plain es) ++ forgotten rest
  some_forget (one_at {e} {rest = rest} h) =
      forgets h ∙ sym (append_assoc (spell_expression (plain e)) [] (forgotten rest))
  some_forget (more_at {e} {others} {rest = rest} h k) =
      forgets h ∙ ap (λ (ks : List Lexeme). spell_expression (plain e) ++ Marked signs.Comma ∷ ks) (some_forget k)
      ∙ ap (λ (ks : List Lexeme). spell_expression (plain e) ++ (ks ++ forgotten rest)) (sym (some_spell k))
      ∙ sym (append_assoc (spell_expression (plain e)) (spell_others (all_plain others)) (forgotten rest))

-- the law: without places, the tokens are those that spell the expression
pub places_forgotten : PlacesForgotten
places_forgotten e ss rest h = forgets h
