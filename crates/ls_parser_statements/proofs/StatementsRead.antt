-- Statements: what is read is spelled so and well-formed.
use Rattle.std.proofs.Common.{◌≡◌, ℕ, zero, suc, ◌≤◌, false, List, [], ◌∷◌, length, Option, Some, None, refl, sym, ap}
use Rattle.std.proofs.Common.{subst, ◌∙◌, inl, inr, arith}
use Rattle.std.proofs.lemmas.Bool.{cases_Bool}
use Rattle.ls_lexer.specs.declared.sign.Sign.{Sign}
use Rattle.ls_lexer.specs.declared.sign.Sign.TheVariants as signs
use Rattle.ls_lexer.specs.declared.word.Word.{Word}
use Rattle.ls_lexer.specs.declared.word.Word.TheVariants as words
use Rattle.ls_lexer.specs.Lexemes.{Lexeme, Named, Numeral, Reserved, Marked}
use Rattle.ls_tree.specs.Trees.{Text, Expression, Statement, Block, Empty, If, IfElse, While, For, Break, Continue}
use Rattle.ls_tree.specs.Trees.{Return, Try, Perform, Synchronized, Items, Piece, Doing, collected}
use Rattle.ls_tree.specs.WellFormed.{WellFormed, expression_height, ends_open}
use Rattle.ls_parser_tokens.specs.Reading.{◌>>=◌, Reader, after_sign, after_word, name_at, not_yet, many_at}
use Rattle.ls_parser_expressions.specs.ReadingExpressions.{expression_at, post_at}
use Rattle.ls_parser_declarations.specs.ReadingDeclarations.{starts_declaration}
use Rattle.ls_parser_statements.specs.ReadingStatements.{declared_at, piece_at, braces_at, block_in, condition_at}
use Rattle.ls_parser_statements.specs.ReadingStatements.{if_at, while_at, jump_at, value_at, break_at, continue_at}
use Rattle.ls_parser_statements.specs.ReadingStatements.{return_at, try_at, synchronized_at, label_at, simple_from}
use Rattle.ls_parser_statements.specs.ReadingStatements.{head_in, for_at, perform_at, other_at, first_of_sign}
use Rattle.ls_parser_statements.specs.ReadingStatements.{first_of_word, statement_from, local_at, statement_of}
use Rattle.ls_parser_statements.specs.ReadingStatements.{nested_at, statement_at, block_at}
use Rattle.ls_parser_expressions.proofs.Repeats.{bind_some, some_is}
use Rattle.ls_parser_expressions.proofs.Signs.{either, given_cases, sign_reads, word_reads, name_reads}
use Rattle.ls_parser_expressions.proofs.Shrinks.{Shrinks}
use Rattle.ls_parser_expressions.proofs.Onto.{onto}
use Rattle.ls_parser_expressions.proofs.Lists.{onto_all, SoundItem, many_sound}
use Rattle.ls_parser_statements.proofs.OntoStatements.{onto_label, onto_label_before, onto_condition, onto_simple}
use Rattle.ls_parser_statements.proofs.OntoStatements.{onto_head, onto_statement, onto_block, onto_piece}
use Rattle.ls_parser_statements.proofs.OntoStatements.{onto_collected, piece_longer}
use Rattle.ls_parser_expressions.proofs.ExpressionsRead.{expression_sound}
use Rattle.ls_parser_statements.proofs.SimplesRead.{from_sound}
use Rattle.ls_parser_statements.proofs.HeadsRead.{SoundStatement, FormedPiece, local_sound, cons, ReadsBlock}
use Rattle.ls_parser_statements.proofs.HeadsRead.{SoundBlock, pieces_formed, ReadsStatement, head_sound, value_sound}

module _ (limit : ℕ) (statement : Reader Statement) (sound : SoundStatement statement limit) where
  piece_sound : SoundItem onto_piece (FormedPiece limit) (piece_at (local_at limit) statement)
  piece_sound ks x e =
      elim (either (starts_declaration ks) (declared_at (local_at limit) ks)
      (statement ks >>= λ a. Some (Doing a.0, a.1)) (Some x) e) [
        | inl declared ↦ local_sound limit ks x declared.1
        | inr done ↦
            let a = bind_some (statement ks) _ x done.1 in
            let r = sound ks a.0 a.1 in
            subst (λ (y : Piece × List Lexeme). (ks ≡ onto_piece y.0 y.1) × FormedPiece limit y.0)
            (some_is (Doing a.0.0, a.0.1) x a.2)
            (r.spelled, (r.formed, r.fits))
      ]

  braces_sound : SoundBlock (braces_at (piece_at (local_at limit) statement)) (suc limit)
  braces_sound ks x e =
      let o = bind_some (after_sign signs.OpenBrace ks) _ x e in
      let m = bind_some (many_at (not_yet signs.CloseBrace) (piece_at (local_at limit) statement) o.0) _ x o.2 in
      let c = bind_some (after_sign signs.CloseBrace m.0.1) _ x m.2 in
      let took = (many_sound onto_piece (FormedPiece limit) (not_yet signs.CloseBrace)
      (piece_at (local_at limit) statement) piece_sound o.0 m.0 m.1).0 in
      let formed = pieces_formed limit m.0.0 took.each in
      subst (ReadsBlock (suc limit) ks) (some_is (collected m.0.0, c.0) x c.2) (record {
        spelled = sign_reads signs.OpenBrace ks o.0 o.1 ∙
            ap (cons (Marked signs.OpenBrace))
            (took.spelled ∙ ap (onto_all onto_piece m.0.0) (sign_reads signs.CloseBrace m.0.1 c.0 c.1) ∙
            sym (onto_collected m.0.0 (Marked signs.CloseBrace ∷ c.0)));
        formed = formed.0;
        fits = omega (arith, formed.1);
      })

  block_statement_sound : SoundStatement (block_in (braces_at (piece_at (local_at limit) statement))) (suc limit)
  block_statement_sound ks x e =
      let b = bind_some (braces_at (piece_at (local_at limit) statement) ks) _ x e in
      let r = braces_sound ks b.0 b.1 in
      subst (ReadsStatement (suc limit) ks) (some_is (Block b.0.0, b.0.1) x b.2)
      (record { spelled = r.spelled; formed = r.formed; fits = omega (arith, r.fits); stops = λ h. absurd cc })

  record ReadsCondition (ks : List Lexeme) (x : Expression × List Lexeme) : Type 0 where
    spelled : ks ≡ onto_condition x.0 x.1
    formed : WellFormed false x.0
    fits : expression_height x.0 ≤ limit

  condition_sound : (ks : List Lexeme) (x : Expression × List Lexeme) →
      condition_at (expression_at limit) ks ≡ Some x →
      ReadsCondition ks x
  condition_sound ks x e =
      let o = bind_some (after_sign signs.OpenParen ks) _ x e in
      let t = bind_some (expression_at limit o.0) _ x o.2 in
      let c = bind_some (after_sign signs.CloseParen t.0.1) _ x t.2 in
      let r = expression_sound limit o.0 t.0 t.1 in
      subst (ReadsCondition ks) (some_is (t.0.0, c.0) x c.2) (record {
        spelled = sign_reads signs.OpenParen ks o.0 o.1 ∙
            ap (cons (Marked signs.OpenParen))
            (r.spelled ∙ ap (onto t.0.0) (sign_reads signs.CloseParen t.0.1 c.0 c.1));
        formed = r.formed;
        fits = r.fits;
      })

  if_sound : (ks : List Lexeme) (x : Statement × List Lexeme) →
      if_at (expression_at limit) statement ks ≡ Some x →
      ReadsStatement (suc limit) (Reserved words.If ∷ ks) x
  if_sound ks x e =
      let b = bind_some (condition_at (expression_at limit) ks) _ x e in
      let d = bind_some (statement b.0.1) _ x b.2 in
      let condition = condition_sound ks b.0 b.1 in
      let first = sound b.0.1 d.0 d.1 in
      let head : ks ≡ onto_condition b.0.0 (onto_statement d.0.0 d.0.1) =
      condition.spelled ∙ ap (onto_condition b.0.0) first.spelled in
      elim (given_cases (after_word words.Else d.0.1) _ (Some (If b.0.0 d.0.0, d.0.1)) (Some x) d.2) [
        | inl stop ↦
            subst (ReadsStatement (suc limit) (Reserved words.If ∷ ks)) (some_is (If b.0.0 d.0.0, d.0.1) x stop.1)
            (record {
              spelled = ap (cons (Reserved words.If)) head;
              formed = (condition.formed, first.formed);
              fits =
                  omega (arith, condition.fits, first.fits);
              stops = λ h. stop.0;
            })
        | inr go ↦
            let f = bind_some (statement go.0) _ x go.2 in
            let second = sound go.0 f.0 f.1 in
            let closed : ends_open d.0.0 ≡ false =
            elim (cases_Bool (ends_open d.0.0)) [
              | inl is ↦ absurd (let none = first.stops is in cc (go.1, none))
              | inr is_not ↦ is_not
            ] in
            subst (ReadsStatement (suc limit) (Reserved words.If ∷ ks))
            (some_is (IfElse b.0.0 d.0.0 f.0.0, f.0.1) x f.2)
            (record {
              spelled = ap (cons (Reserved words.If))
                  (head ∙ ap (λ (r : List Lexeme). onto_condition b.0.0 (onto_statement d.0.0 r))
                  (word_reads words.Else d.0.1 go.0 go.1 ∙ ap (cons (Reserved words.Else)) second.spelled));
              formed = (condition.formed, first.formed, closed, second.formed);
              fits = omega (arith, condition.fits, first.fits, second.fits);
              stops = second.stops;
            })
      ]

  while_sound : (label : Option Text) (whole ks : List Lexeme) (x : Statement × List Lexeme) →
      whole ≡ onto_label_before label (Reserved words.While ∷ ks) →
      while_at (expression_at limit) statement label ks ≡ Some x →
      ReadsStatement (suc limit) whole x
  while_sound label whole ks x before e =
      let b = bind_some (condition_at (expression_at limit) ks) _ x e in
      let d = bind_some (statement b.0.1) _ x b.2 in
      let condition = condition_sound ks b.0 b.1 in
      let body = sound b.0.1 d.0 d.1 in
      subst (ReadsStatement (suc limit) whole) (some_is (While label b.0.0 d.0.0, d.0.1) x d.2) (record {
        spelled = before ∙ ap (λ (r : List Lexeme). onto_label_before label (Reserved words.While ∷ r))
            (condition.spelled ∙ ap (onto_condition b.0.0) body.spelled);
        formed = (condition.formed, body.formed);
        fits = omega (arith, condition.fits, body.fits);
        stops = body.stops;
      })

  for_sound : (label : Option Text) (whole ks : List Lexeme) (x : Statement × List Lexeme) →
      whole ≡ onto_label_before label (Reserved words.For ∷ ks) →
      for_at (head_in limit) statement label ks ≡ Some x →
      ReadsStatement (suc limit) whole x
  for_sound label whole ks x before e =
      let h = bind_some (head_in limit ks) _ x e in
      let d = bind_some (statement h.0.1) _ x h.2 in
      let head = head_sound limit ks h.0 h.1 in
      let body = sound h.0.1 d.0 d.1 in
      subst (ReadsStatement (suc limit) whole) (some_is (For label h.0.0.0 h.0.0.1 h.0.0.2 d.0.0, d.0.1) x d.2)
      (record {
        spelled = before ∙ ap (λ (r : List Lexeme). onto_label_before label (Reserved words.For ∷ r))
            (head.spelled ∙ ap (onto_head h.0.0.0 h.0.0.1 h.0.0.2) body.spelled);
        formed = (head.opening, head.condition, head.updates, body.formed);
        fits = omega (arith, head.fits, body.fits);
        stops = body.stops;
      })

  jump_sound : (ks : List Lexeme) (x : Option Text × List Lexeme) →
      jump_at ks ≡ Some x →
      ks ≡ onto_label x.0 (Marked signs.Semicolon ∷ x.1)
  jump_sound ks x e =
      elim (given_cases (name_at ks) _ (after_sign signs.Semicolon ks >>= λ rest. Some (None, rest)) (Some x) e) [
        | inl none ↦
            let s = bind_some (after_sign signs.Semicolon ks) _ x none.1 in
            sign_reads signs.Semicolon ks s.0 s.1 ∙
            ap (λ (y : Option Text × List Lexeme). onto_label y.0 (Marked signs.Semicolon ∷ y.1))
            (some_is (None, s.0) x s.2)
        | inr name ↦
            let s = bind_some (after_sign signs.Semicolon name.0.1) _ x name.2 in
            name_reads ks name.0 name.1 ∙ ap (cons (Named name.0.0)) (sign_reads signs.Semicolon name.0.1 s.0 s.1) ∙
            ap (λ (y : Option Text × List Lexeme). onto_label y.0 (Marked signs.Semicolon ∷ y.1))
            (some_is (Some name.0.0, s.0) x s.2)
      ]

  break_sound : (ks : List Lexeme) (x : Statement × List Lexeme) →
      break_at ks ≡ Some x →
      ReadsStatement (suc limit) (Reserved words.Break ∷ ks) x
  break_sound ks x e =
      let j = bind_some (jump_at ks) _ x e in
      subst (ReadsStatement (suc limit) (Reserved words.Break ∷ ks)) (some_is (Break j.0.0, j.0.1) x j.2)
      (record {
        spelled = ap (cons (Reserved words.Break)) (jump_sound ks j.0 j.1);
        formed = tt;
        fits =
            omega arith;
        stops = λ h. absurd cc;
      })

  continue_sound : (ks : List Lexeme) (x : Statement × List Lexeme) →
      continue_at ks ≡ Some x →
      ReadsStatement (suc limit) (Reserved words.Continue ∷ ks) x
  continue_sound ks x e =
      let j = bind_some (jump_at ks) _ x e in
      subst (ReadsStatement (suc limit) (Reserved words.Continue ∷ ks)) (some_is (Continue j.0.0, j.0.1) x j.2)
      (record {
        spelled = ap (cons (Reserved words.Continue)) (jump_sound ks j.0 j.1);
        formed = tt;
        fits =
            omega arith;
        stops = λ h. absurd cc;
      })

  return_sound : (ks : List Lexeme) (x : Statement × List Lexeme) →
      return_at (expression_at limit) ks ≡ Some x →
      ReadsStatement (suc limit) (Reserved words.Return ∷ ks) x
  return_sound ks x e =
      let v = bind_some (value_at (expression_at limit) ks) _ x e in
      let value = value_sound limit ks v.0 v.1 in
      subst (ReadsStatement (suc limit) (Reserved words.Return ∷ ks)) (some_is (Return v.0.0, v.0.1) x v.2)
      (record {
        spelled = ap (cons (Reserved words.Return)) value.spelled;
        formed = value.formed;
        fits =
            omega (arith, value.fits);
        stops = λ h. absurd cc;
      })

  try_sound : (block : Reader Items) →
      SoundBlock block limit →
      (ks : List Lexeme) (x : Statement × List Lexeme) →
      try_at block ks ≡ Some x →
      ReadsStatement (suc limit) (Reserved words.Try ∷ ks) x
  try_sound block sound_block ks x e =
      let b = bind_some (block ks) _ x e in
      let w = bind_some (after_word words.Finally b.0.1) _ x b.2 in
      let f = bind_some (block w.0) _ x w.2 in
      let body = sound_block ks b.0 b.1 in
      let finally = sound_block w.0 f.0 f.1 in
      subst (ReadsStatement (suc limit) (Reserved words.Try ∷ ks)) (some_is (Try b.0.0 f.0.0, f.0.1) x f.2) (record {
        spelled = ap (cons (Reserved words.Try))
            (body.spelled ∙
            ap (onto_block b.0.0) (word_reads words.Finally b.0.1 w.0 w.1 ∙
            ap (cons (Reserved words.Finally)) finally.spelled));
        formed = (body.formed, finally.formed);
        fits = omega (arith, body.fits, finally.fits);
        stops = λ h. absurd cc;
      })

  synchronized_sound : (block : Reader Items) →
      SoundBlock block limit →
      (ks : List Lexeme) (x : Statement × List Lexeme) →
      synchronized_at (expression_at limit) block ks ≡ Some x →
      ReadsStatement (suc limit) (Reserved words.Synchronized ∷ ks) x
  synchronized_sound block sound_block ks x e =
      let t = bind_some (condition_at (expression_at limit) ks) _ x e in
      let b = bind_some (block t.0.1) _ x t.2 in
      let target = condition_sound ks t.0 t.1 in
      let body = sound_block t.0.1 b.0 b.1 in
      subst (ReadsStatement (suc limit) (Reserved words.Synchronized ∷ ks))
      (some_is (Synchronized t.0.0 b.0.0, b.0.1) x b.2) (record {
        spelled = ap (cons (Reserved words.Synchronized)) (target.spelled ∙ ap (onto_condition t.0.0) body.spelled);
        formed = (target.formed, body.formed);
        fits = omega (arith, target.fits, body.fits);
        stops = λ h. absurd cc;
      })

  perform_sound : (ks : List Lexeme) (x : Statement × List Lexeme) →
      perform_at (simple_from (post_at limit false) (expression_at limit)) ks ≡ Some x →
      ReadsStatement (suc limit) ks x
  perform_sound ks x e =
      let f = bind_some (simple_from (post_at limit false) (expression_at limit) ks) _ x e in
      let s = bind_some (after_sign signs.Semicolon f.0.1) _ x f.2 in
      let simple = from_sound limit ks f.0 f.1 in
      subst (ReadsStatement (suc limit) ks) (some_is (Perform f.0.0, s.0) x s.2) (record {
        spelled = simple.spelled ∙ ap (onto_simple f.0.0) (sign_reads signs.Semicolon f.0.1 s.0 s.1);
        formed = simple.formed.0;
        fits = simple.formed.1;
        stops = λ h. absurd cc;
      })

  label_reads : (ks : List Lexeme) (x : Text × List Lexeme) →
      label_at ks ≡ Some x →
      ks ≡ Named x.0 ∷ Marked signs.Colon ∷ x.1
  label_reads ks x e =
      let n = bind_some (name_at ks) _ x e in
      let c = bind_some (after_sign signs.Colon n.0.1) _ x n.2 in
      name_reads ks n.0 n.1 ∙ ap (cons (Named n.0.0)) (sign_reads signs.Colon n.0.1 c.0 c.1) ∙
      ap (λ (y : Text × List Lexeme). Named y.0 ∷ Marked signs.Colon ∷ y.1) (some_is (n.0.0, c.0) x c.2)

  other_sound : SoundStatement (other_at (simple_from (post_at limit false) (expression_at limit)) (expression_at limit)
      (head_in limit) statement) (suc limit)
  other_sound ks x e =
      elim (given_cases (label_at ks) _ (perform_at (simple_from (post_at limit false) (expression_at limit)) ks)
      (Some x) e) [
        | inl used ↦ perform_sound ks x used.1
        | inr label ↦
            elim (given_cases (after_word words.While label.0.1) _ _ (Some x) label.2) [
              | inr w ↦ while_sound (Some label.0.0) ks w.0 x (label_reads ks label.0 label.1 ∙
                  ap (λ (r : List Lexeme). Named label.0.0 ∷ Marked signs.Colon ∷ r)
                  (word_reads words.While label.0.1 w.0 w.1)) w.2
              | inl other ↦
                  let w = bind_some (after_word words.For label.0.1) _ x other.1 in
                  for_sound (Some label.0.0) ks w.0 x (label_reads ks label.0 label.1 ∙
                  ap (λ (r : List Lexeme). Named label.0.0 ∷ Marked signs.Colon ∷ r)
                  (word_reads words.For label.0.1 w.0 w.1)) w.2
            ]
      ]

  module _ (block : Reader Items) (sound_block : SoundBlock block limit) where
    sign_sound : (sign : Sign) (ks : List Lexeme) (x : Statement × List Lexeme) →
        statement_from (first_of_sign sign) limit statement block (piece_at (local_at limit) statement)
        (Marked sign ∷ ks) ks ≡ Some x →
        ReadsStatement (suc limit) (Marked sign ∷ ks) x
    sign_sound signs.Semicolon ks x e =
        subst (ReadsStatement (suc limit) (Marked signs.Semicolon ∷ ks)) (some_is (Empty, ks) x e)
        (record { spelled = refl; formed = tt; fits = omega arith; stops = λ h. absurd cc })
    sign_sound signs.OpenBrace ks x e = block_statement_sound (Marked signs.OpenBrace ∷ ks) x e
    sign_sound sign ks x e = other_sound (Marked sign ∷ ks) x e

    word_sound : (word : Word) (ks : List Lexeme) (x : Statement × List Lexeme) →
        statement_from (first_of_word word) limit statement block (piece_at (local_at limit) statement)
        (Reserved word ∷ ks) ks ≡ Some x →
        ReadsStatement (suc limit) (Reserved word ∷ ks) x
    word_sound words.If ks x e = if_sound ks x e
    word_sound words.While ks x e = while_sound None (Reserved words.While ∷ ks) ks x refl e
    word_sound words.For ks x e = for_sound None (Reserved words.For ∷ ks) ks x refl e
    word_sound words.Break ks x e = break_sound ks x e
    word_sound words.Continue ks x e = continue_sound ks x e
    word_sound words.Return ks x e = return_sound ks x e
    word_sound words.Try ks x e = try_sound block sound_block ks x e
    word_sound words.Synchronized ks x e = synchronized_sound block sound_block ks x e
    word_sound word ks x e = other_sound (Reserved word ∷ ks) x e

    statement_of_sound : SoundStatement (statement_of limit statement block) (suc limit)
    statement_of_sound [] x e = absurd cc
    statement_of_sound (Named text ∷ ks) x e = other_sound (Named text ∷ ks) x e
    statement_of_sound (Numeral text ∷ ks) x e = other_sound (Numeral text ∷ ks) x e
    statement_of_sound (Marked sign ∷ ks) x e = sign_sound sign ks x e
    statement_of_sound (Reserved word ∷ ks) x e = word_sound word ks x e

pub nested_sound : (limit : ℕ) → SoundStatement (statement_at limit) limit × SoundBlock (block_at limit) limit
unfolding nested_at
nested_sound zero = (λ ks x e. absurd cc, λ ks x e. absurd cc)
nested_sound (suc limit) =
    let inner = nested_sound limit in (
      statement_of_sound limit (statement_at limit) inner.0 (block_at limit) inner.1,
      braces_sound limit (statement_at limit) inner.0,
    )

pub statement_sound : (limit : ℕ) → SoundStatement (statement_at limit) limit
statement_sound limit = (nested_sound limit).0

-- a block that is read is spelled by its tokens
pub block_sound : (limit : ℕ) → SoundBlock (block_at limit) limit
block_sound limit = (nested_sound limit).1

-- ---- each takes a token at least

-- an item takes a token
pub piece_shrinks : (limit : ℕ) → Shrinks (piece_at (local_at limit) (statement_at limit))
piece_shrinks limit ks x e =
    omega (
      arith,
      ap length (piece_sound limit (statement_at limit) (statement_sound limit) ks x e).0,
      piece_longer x.0 x.1,
    )
