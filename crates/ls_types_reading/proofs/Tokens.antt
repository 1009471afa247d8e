-- One more token of a program.
use Rattle.std.proofs.Common.{◌≡◌, ℕ, ◌+◌, ◌<◌, List, ◌∷◌, Some, drop, drop-cons, get_or, length, sym, ap, ◌∙◌, add-one}
use Rattle.ls_lexer.specs.Lexemes.{lexeme_of, lexemes}
use Rattle.ls_lexer.specs.declared.token.Token.{Token}
use Rattle.ls_types_elaboration.specs.Elaboration.{ElaboratedFile}
use Rattle.ls_types_programs.specs.ThreadPrograms.{Reading, after, stepped}
use Rattle.ls_types_programs.specs.Stops.{Marks, fault_for, goes_on, marked, stops, why}

left_at : (ts : List Token) (i : ℕ) (d : Token) → i < length ts → drop i ts ≡ get_or ts i d ∷ drop (i + 1) ts
left_at ts i d within = drop-cons ts i d within ∙ ap (λ n. get_or ts i d ∷ drop n ts) (sym (add-one i))

module _ (o : ElaboratedFile) (ts : List Token) (i : ℕ) (d : Token) (within : i < length ts) (q q' : Reading)
    (step : stepped o q.parts q.stage (lexeme_of (get_or ts i d).kind) ≡ Some q') where
  pub one_read : after o (Some q) (lexemes (drop i ts)) ≡ after o (Some q') (lexemes (drop (i + 1) ts))
  one_read = ap (λ l. after o (Some q) (lexemes l)) (left_at ts i d within)
      ∙ ap (λ r. after o r (lexemes (drop (i + 1) ts))) step

  pub one_stop : (end : ℕ) (m m' : Marks) → m' ≡ marked m (get_or ts i d).span.start q'.stage →
      stops o end m q (drop i ts) ≡ stops o end m' q' (drop (i + 1) ts)
  one_stop end m m' marks = ap (stops o end m q) (left_at ts i d within)
      ∙ ap (goes_on (fault_for m (get_or ts i d).span.start (why o q.parts q.stage (lexeme_of (get_or ts i d).kind)))
      (λ next. stops o end (marked m (get_or ts i d).span.start next.stage) next (drop (i + 1) ts))) step
      ∙ ap (λ k. stops o end k q' (drop (i + 1) ts)) (sym marks)
