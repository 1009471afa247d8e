-- The rest of the tokens before a step in the arguments of a call, from the rest after it.
use Rattle.std.proofs.Common.{◌≡◌, ◌<◌, ◌≤◌, refl, sym, ◌∙◌, subst, ap, Bool, true, false, List, [], ◌∷◌, ◌++◌}
use Rattle.std.proofs.Common.{append_assoc, length, Option, Some, None, nat_lt, pos, ltb-true, if◌then◌else◌}
use Rattle.std.specs.Prelude.{slice_get, neg_ℤ}
use Rattle.ls_lexer.specs.declared.sign.Sign.TheVariants as signs
use Rattle.ls_lexer.specs.declared.word.Word.TheVariants as words
use Rattle.ls_lexer.specs.Lexemes.{Lexeme, Numeral, Reserved, Marked}
use Rattle.ls_lexer.specs.Numbers.{value_of}
use Rattle.ls_lexer.specs.Formed.{IsFormed}
use Rattle.ls_events.specs.declared.value.Value.{Value}
use Rattle.ls_events.specs.declared.value.Value.TheVariants as values
use Rattle.ls_types_elaboration.specs.Trees.{Text}
use Rattle.ls_types_elaboration.specs.TypedExpressions.{digits_value}
use Rattle.ls_types_elaboration.specs.Elaboration.{ElaboratedFile}
use Rattle.ls_types_programs.specs.ProgramCalls.{Pending, fits, with_argument, is_full, plain_number, minus_number}
use Rattle.ls_types_programs.specs.ProgramCalls.{negated}
use Rattle.ls_types_programs.specs.ThreadPrograms
use Rattle.ls_types_programs.specs.ThreadPrograms.{Stage, Parts, at, is_sign, is_word, number_in, when, with_call}
use Rattle.ls_types_programs.specs.ThreadPrograms.{numbered, argument, after_minus, arguments_end, at_first}
use Rattle.ls_types_programs.specs.ThreadPrograms.{after_argument, after}
use Rattle.ls_types_programs.specs.Spelled as spelled
use Rattle.ls_types_programs.specs.Spelled.{Argument, Others, Arguments}
use Rattle.ls_types_programs.proofs.Pieces.{sign_is, word_is, number_is, digits_small, digits_most, negated_is}
use Rattle.ls_types_programs.proofs.Pieces.{number_most, front_push, is_full_so, append_nil}
use Rattle.ls_types_programs.proofs.Rest.{Rest, Then, RestValues, Argued, Argues, when_then, RestSemicolon}

module _ (o : ElaboratedFile) (f : Parts) where
  abbrev pub On : List Lexeme → Parts → Stage → Type 0
  On ks r stage = Rest o f r stage ks

  -- ---- arguments

  value_back : (r : Parts) (p : Pending) (v : Value) (tokens ks : List Lexeme) →
      Argument v tokens ks →
      Then (On ks) (with_call r ThreadPrograms.AfterArgument (with_argument p v)) →
      RestValues Argued o f r p tokens
  value_back r p v tokens ks a h = by (fits (slice_get p.types (length p.values)) v) refl h
    where
      by : (b : Bool) → fits (slice_get p.types (length p.values)) v ≡ b
          → Then (On ks) (with_call r ThreadPrograms.AfterArgument
          (if b then Some (record { callee = p.callee; types = p.types; values = p.values ++ v ∷ [] }) else None)) →
          RestValues Argued o f r p tokens
      by false e h = absurd h
      by true e h = record {
        vs = v ∷ h.vs;
        rest = h.rest;
        spelled = Argues a h.spelled;
        all = h.all;
        joined = h.joined ∙ append_assoc p.values (v ∷ []) h.vs;
        fit = λ front. h.fit (front_push p.types p.values v front e);
        room = h.room;
        after = h.after;
      }

  number_back : (r : Parts) (p : Pending) (text : Text) (ks : List Lexeme) →
      Then (On ks) (numbered r p (plain_number text)) →
      RestValues Argued o f r p (Numeral text ∷ ks)
  number_back r p text ks h = by (nat_lt (digits_value 0 text) 2147483648) refl h
    where
      by : (b : Bool) →
          nat_lt (digits_value 0 text) 2147483648 ≡ b →
          Then (On ks) (numbered r p (if b then Some (values.Int (pos (digits_value 0 text))) else None)) →
          RestValues Argued o f r p (Numeral text ∷ ks)
      by false e h = absurd h
      by true e h =
          let small : digits_value 0 text < 2147483648 = ltb-true (digits_value 0 text) 2147483648 e in
          let is : digits_value 0 text ≡ value_of 0 text = digits_small text small in
          value_back r p (values.Int (pos (digits_value 0 text))) (Numeral text ∷ ks) ks
          (subst (λ n. Argument (values.Int (pos n)) (Numeral text ∷ ks) ks) (sym is)
          (spelled.Number text (subst (λ n. n < 2147483648) is small))) h

  pub argument_back : (r : Parts) (p : Pending) (k : Lexeme) (ks : List Lexeme) →
      Then (On ks) (argument r p k (number_in k)) →
      RestValues Argued o f r p (k ∷ ks)
  argument_back r p k ks h = by (number_in k) refl h
    where
      signed : Then (On ks) (when (is_sign signs.Minus k) (at r (ThreadPrograms.AfterMinus p))) →
          RestValues Argued o f r p (k ∷ ks)
      signed h =
          let g = when_then (On ks) (is_sign signs.Minus k) (at r (ThreadPrograms.AfterMinus p)) h in
          subst (λ x. RestValues Argued o f r p (x ∷ ks)) (sym (sign_is signs.Minus k g.0)) g.1

      is_false : (b : Bool) →
          is_word words.False k ≡ b →
          Then (On ks) (if b then with_call r ThreadPrograms.AfterArgument (with_argument p (values.Boolean false)) else
          when (is_sign signs.Minus k) (at r (ThreadPrograms.AfterMinus p))) →
          RestValues Argued o f r p (k ∷ ks)
      is_false true e h = subst (λ x. RestValues Argued o f r p (x ∷ ks)) (sym (word_is words.False k e))
          (value_back r p (values.Boolean false) (Reserved words.False ∷ ks) ks spelled.False h)
      is_false false e h = signed h

      is_true : (b : Bool) →
          is_word words.True k ≡ b →
          Then (On ks) (if b then with_call r ThreadPrograms.AfterArgument (with_argument p (values.Boolean true)) else
          (if is_word words.False k then with_call r ThreadPrograms.AfterArgument
          (with_argument p (values.Boolean false)) else when (is_sign signs.Minus k)
          (at r (ThreadPrograms.AfterMinus p)))) →
          RestValues Argued o f r p (k ∷ ks)
      is_true true e h = subst (λ x. RestValues Argued o f r p (x ∷ ks)) (sym (word_is words.True k e))
          (value_back r p (values.Boolean true) (Reserved words.True ∷ ks) ks spelled.True h)
      is_true false e h = is_false (is_word words.False k) refl h

      by : (n : Option Text) → number_in k ≡ n → Then (On ks) (argument r p k n) → RestValues Argued o f r p (k ∷ ks)
      by (Some text) e h = subst (λ x. RestValues Argued o f r p (x ∷ ks)) (sym (number_is k text e))
          (number_back r p text ks h)
      by None e h = is_true (is_word words.True k) refl h

  pub minus_back : (r : Parts) (p : Pending) (k : Lexeme) (ks : List Lexeme) →
      IsFormed k →
      Then (On ks) (after_minus r p (number_in k)) →
      RestValues Argued o f r p (Marked signs.Minus ∷ k ∷ ks)
  minus_back r p k ks formed h = by (number_in k) refl h
    where
      by : (n : Option Text) →
          number_in k ≡ n →
          Then (On ks) (after_minus r p n) →
          RestValues Argued o f r p (Marked signs.Minus ∷ k ∷ ks)
      by None e h = absurd h
      by (Some text) e h =
          let is : k ≡ Numeral text = number_is k text e in
          let most : value_of 0 text ≤ 2147483648 = number_most text (subst IsFormed is formed) in
          let value : minus_number text ≡ values.Int (neg_ℤ (pos (value_of 0 text))) = ap (λ n. values.Int (negated n))
          (digits_most text most) ∙ ap (λ z. values.Int z) (negated_is (value_of 0 text)) in
          subst (λ x. RestValues Argued o f r p (Marked signs.Minus ∷ x ∷ ks)) (sym is)
          (value_back r p (minus_number text) (Marked signs.Minus ∷ Numeral text ∷ ks) ks
          (subst (λ v. Argument v (Marked signs.Minus ∷ Numeral text ∷ ks) ks) (sym value) (spelled.Minus text most)) h)

  end_back : (r : Parts) (p : Pending) (ks : List Lexeme) → Then (On ks) (arguments_end r p)
      → (Kind : List Value → List Lexeme → List Lexeme → Type 0) →
      ((rest : List Lexeme) → Kind [] (Marked signs.CloseParen ∷ rest) rest) →
      RestValues Kind o f r p (Marked signs.CloseParen ∷ ks)
  end_back r p ks h Kind none =
      let g = when_then (On ks) (is_full p) (at r (ThreadPrograms.AtSemicolon p)) h in
      let s : RestSemicolon o f r p ks = g.1 in
      record {
        vs = [];
        rest = s.rest;
        spelled = subst (λ ls. Kind [] (Marked signs.CloseParen ∷ ks) ls) s.tokens (none ks);
        all = p.values;
        joined = sym (append_nil p.values);
        fit = λ front. is_full_so p.types p.values front g.0;
        room = s.room;
        after = s.after;
      }

  pub first_back : (r : Parts) (p : Pending) (k : Lexeme) (ks : List Lexeme) →
      Then (On ks) (at_first r p k) →
      RestValues Arguments o f r p (k ∷ ks)
  first_back r p k ks h = by (is_sign signs.CloseParen k) refl h
    where
      argued : RestValues Argued o f r p (k ∷ ks) → RestValues Arguments o f r p (k ∷ ks)
      argued a = record {
        vs = a.vs;
        rest = a.rest;
        spelled = turned a.vs (k ∷ ks) (Marked signs.Semicolon ∷ a.rest)
            a.spelled;
        all = a.all;
        joined = a.joined;
        fit = a.fit;
        room = a.room;
        after = a.after;
      }
        where
          turned : (vs : List Value) (ls rest : List Lexeme) → Argued vs ls rest → Arguments vs ls rest
          turned vs ls rest (Argues a b) = spelled.First a b

      by : (b : Bool) →
          is_sign signs.CloseParen k ≡ b →
          Then (On ks) (if b then arguments_end r p else argument r p k (number_in k)) →
          RestValues Arguments o f r p (k ∷ ks)
      by true e h = subst (λ x. RestValues Arguments o f r p (x ∷ ks)) (sym (sign_is signs.CloseParen k e))
          (end_back r p ks h Arguments (λ rest. spelled.NoArgument))
      by false e h = argued (argument_back r p k ks h)

  pub others_back : (r : Parts) (p : Pending) (k : Lexeme) (ks : List Lexeme) →
      Then (On ks) (after_argument r p k) →
      RestValues Others o f r p (k ∷ ks)
  others_back r p k ks h = by (is_sign signs.CloseParen k) refl h
    where
      argued : RestValues Argued o f r p ks → RestValues Others o f r p (Marked signs.Comma ∷ ks)
      argued a = record {
        vs = a.vs;
        rest = a.rest;
        spelled = turned a.vs ks (Marked signs.Semicolon ∷ a.rest)
            a.spelled;
        all = a.all;
        joined = a.joined;
        fit = a.fit;
        room = a.room;
        after = a.after;
      }
        where
          turned : (vs : List Value) (ls rest : List Lexeme) →
              Argued vs ls rest →
              Others vs (Marked signs.Comma ∷ ls) rest
          turned vs ls rest (Argues a b) = spelled.Other a b

      by : (b : Bool) →
          is_sign signs.CloseParen k ≡ b →
          Then (On ks) (if b then arguments_end r p else when (is_sign signs.Comma k)
          (at r (ThreadPrograms.AtArgument p))) →
          RestValues Others o f r p (k ∷ ks)
      by true e h = subst (λ x. RestValues Others o f r p (x ∷ ks)) (sym (sign_is signs.CloseParen k e))
          (end_back r p ks h Others (λ rest. spelled.NoOther))
      by false e h =
          let g = when_then (On ks) (is_sign signs.Comma k) (at r (ThreadPrograms.AtArgument p)) h in
          subst (λ x. RestValues Others o f r p (x ∷ ks)) (sym (sign_is signs.Comma k g.0)) (argued g.1)
