-- What the tokens since the beginning of a statement are after a step in its arguments.
use Rattle.std.proofs.Common.{◌≡◌, ℕ, ◌<◌, ◌≤◌, refl, sym, ◌∙◌, subst, ap, Bool, true, false, List, [], ◌∷◌, ◌++◌}
use Rattle.std.proofs.Common.{append_assoc, length, Option, Some, None, nat_lt, ltb-true, if◌then◌else◌, pos}
use Rattle.std.specs.Prelude.{slice_get, neg_ℤ}
use Rattle.ls_lexer.specs.declared.sign.Sign.TheVariants as signs
use Rattle.ls_lexer.specs.declared.word.Word.TheVariants as words
use Rattle.ls_lexer.specs.declared.token.Token.{Token}
use Rattle.ls_lexer.specs.Lexemes.{Lexeme, Numeral, Reserved, Marked, lexeme_of}
use Rattle.ls_lexer.specs.Formed.{IsFormed}
use Rattle.ls_lexer.specs.Numbers.{value_of}
use Rattle.ls_events.specs.declared.value.Value.{Value}
use Rattle.ls_events.specs.declared.value.Value.TheVariants as values
use Rattle.ls_types_elaboration.specs.Trees.{Text}
use Rattle.ls_types_elaboration.specs.TypedExpressions.{digits_value}
use Rattle.ls_types_elaboration.specs.Elaboration.{ElaboratedFile}
use Rattle.ls_types_programs.specs.ProgramCalls.{Pending, fits, with_argument, is_full, minus_number, negated}
use Rattle.ls_types_programs.specs.ThreadPrograms
use Rattle.ls_types_programs.specs.ThreadPrograms.{Parts, at, when, with_call, numbered, argument, arguments_end}
use Rattle.ls_types_programs.specs.ThreadPrograms.{at_first, after_argument, after_minus, number_in, is_sign, is_word}
use Rattle.ls_types_programs.specs.Stops.{Marks}
use Rattle.ls_types_programs.specs.Spelled as spelled
use Rattle.ls_types_programs.specs.Spelled.{Argument, Arguments}
use Rattle.ls_types_programs.proofs.Pieces.{sign_is, word_is, number_is, digits_small, digits_most, negated_is}
use Rattle.ls_types_programs.proofs.Pieces.{number_most, append_nil}
use Rattle.ls_types_programs.proofs.Rest.{with_values}
use Rattle.ls_types_programs.proofs.Since.{Argues, Others_follow, SinceCallee, with_value, Next, SinceOpen}
use Rattle.ls_types_programs.proofs.Since.{called_token, when_next, SinceMinus}

module _ (o : ElaboratedFile) where
  -- ---- arguments

  -- the tokens of one are an argument, whatever follows
  abbrev pub Spells_argument : Value → List Lexeme → Type 0
  Spells_argument v ks = (rest : List Lexeme) → Argument v (ks ++ rest) rest

  others_behind : (p : Pending) (v : Value) (ls ks : List Lexeme) →
      Spells_argument v ks →
      Argues o p ls →
      Others_follow o (with_values p (p.values ++ v ∷ [])) (ls ++ ks)
  others_behind p v ls ks a h vs js rest others =
      subst (λ us. Arguments us ((ls ++ ks) ++ js) rest) (sym (append_assoc p.values (v ∷ []) vs))
      (subst (λ l. Arguments (p.values ++ v ∷ vs) l rest) (sym (append_assoc ls ks js))
      (h v vs (ks ++ js) js rest (a js) others))

  value_next : (r : Parts) (m : Marks) (place : ℕ) (p : Pending) (v : Value) (ls ks : List Lexeme) (front : List Token)
      → Spells_argument v ks → Argues o p ls → SinceCallee o r m.callee p (Marked signs.OpenParen ∷ ls ++ ks) front
      → Next o m place front (with_call r ThreadPrograms.AfterArgument (with_argument p v))
  value_next r m place p v ls ks front a argues h = by (fits (slice_get p.types (length p.values)) v) refl
    where
      by : (b : Bool) →
          fits (slice_get p.types (length p.values)) v ≡ b →
          Next o m place front (with_call r ThreadPrograms.AfterArgument
          (if b then Some (with_values p (p.values ++ v ∷ [])) else None))
      by false e = tt
      by true e = record {
        ls = ls ++ ks;
        callee = with_value o r m.callee p v (Marked signs.OpenParen ∷ ls ++ ks) front e
            h;
        kind = others_behind p v ls ks a argues;
      }

  -- the token of a number spells its value
  pub number_spells : (text : Text) →
      digits_value 0 text < 2147483648 →
      Spells_argument (values.Int (pos (digits_value 0 text))) (Numeral text ∷ [])
  number_spells text small rest =
      let is : digits_value 0 text ≡ value_of 0 text = digits_small text small in
      subst (λ n. Argument (values.Int (pos n)) (Numeral text ∷ rest) rest) (sym is)
      (spelled.Number text (subst (λ n. n < 2147483648) is small))

  -- a minus and the token of a number spell the negated value
  pub minus_spells : (text : Text) →
      IsFormed (Numeral text) →
      Spells_argument (minus_number text) (Marked signs.Minus ∷ Numeral text ∷ [])
  minus_spells text formed rest =
      let most : value_of 0 text ≤ 2147483648 = number_most text formed in
      let value : minus_number text ≡ values.Int (neg_ℤ (pos (value_of 0 text))) = ap (λ n. values.Int (negated n))
      (digits_most text most) ∙ ap (λ z. values.Int z) (negated_is (value_of 0 text)) in
      subst (λ v. Argument v (Marked signs.Minus ∷ Numeral text ∷ rest) rest) (sym value) (spelled.Minus text most)

  pub argument_next : (r : Parts) (m : Marks) (p : Pending) (front : List Token) (t : Token) (k : Lexeme) →
      lexeme_of t.kind ≡ k →
      SinceOpen o (Argues o) r m.callee p front
      → Next o m t.span.start (front ++ t ∷ []) (argument r p k (number_in k))
  argument_next r m p front t k is h = by (number_in k) refl
    where
      token : (j : Lexeme) →
          k ≡ j →
          SinceCallee o r m.callee p (Marked signs.OpenParen ∷ h.ls ++ j ∷ []) (front ++ t ∷ [])
      token j e = called_token o r m.callee p (Marked signs.OpenParen ∷ h.ls) front t j (is ∙ e) h.callee

      number : (text : Text) →
          k ≡ Numeral text →
          (b : Bool) →
          nat_lt (digits_value 0 text) 2147483648 ≡ b →
          Next o m t.span.start (front ++ t ∷ []) (numbered r p
          (if b then Some (values.Int (pos (digits_value 0 text))) else None))
      number text e false small = tt
      number text e true small =
          value_next r m t.span.start p (values.Int (pos (digits_value 0 text))) h.ls (Numeral text ∷ [])
          (front ++ t ∷ [])
          (number_spells text (ltb-true (digits_value 0 text) 2147483648 small)) h.kind (token (Numeral text) e)

      signed : Next o m t.span.start (front ++ t ∷ []) (when (is_sign signs.Minus k)
          (at r (ThreadPrograms.AfterMinus p)))
      signed = when_next o m t.span.start (front ++ t ∷ []) (is_sign signs.Minus k) (at r (ThreadPrograms.AfterMinus p))
          (λ e. record {
            before = front;
            token = t;
            is = refl;
            signed = is ∙ sign_is signs.Minus k e;
            place = refl;
            opened = h;
          })

      is_false : (b : Bool) →
          is_word words.False k ≡ b →
          Next o m t.span.start (front ++ t ∷ []) (if b then with_call r ThreadPrograms.AfterArgument
          (with_argument p (values.Boolean false)) else when (is_sign signs.Minus k)
          (at r (ThreadPrograms.AfterMinus p)))
      is_false true e = value_next r m t.span.start p (values.Boolean false) h.ls (Reserved words.False ∷ [])
          (front ++ t ∷ []) (λ rest. spelled.False) h.kind (token (Reserved words.False) (word_is words.False k e))
      is_false false e = signed

      is_true : (b : Bool) →
          is_word words.True k ≡ b →
          Next o m t.span.start (front ++ t ∷ []) (if b then with_call r ThreadPrograms.AfterArgument
          (with_argument p (values.Boolean true)) else (if is_word words.False k then
          with_call r ThreadPrograms.AfterArgument (with_argument p (values.Boolean false)) else
          when (is_sign signs.Minus k) (at r (ThreadPrograms.AfterMinus p))))
      is_true true e = value_next r m t.span.start p (values.Boolean true) h.ls (Reserved words.True ∷ [])
          (front ++ t ∷ []) (λ rest. spelled.True) h.kind (token (Reserved words.True) (word_is words.True k e))
      is_true false e = is_false (is_word words.False k) refl

      by : (n : Option Text) → number_in k ≡ n → Next o m t.span.start (front ++ t ∷ []) (argument r p k n)
      by None e = is_true (is_word words.True k) refl
      by (Some text) e = number text (number_is k text e) (nat_lt (digits_value 0 text) 2147483648) refl

  -- the first argument
  pub none_yet : (r : Parts) (mark : ℕ) (p : Pending) (front : List Token) →
      SinceCallee o r mark p (Marked signs.OpenParen ∷ []) front →
      p.values ≡ [] →
      SinceOpen o (Argues o) r mark p front
  none_yet r mark p front h none = record {
    ls = [];
    callee = h;
    kind = λ v vs ks js rest a others. subst (λ us. Arguments (us ++ v ∷ vs) ks rest) (sym none)
        (spelled.First a others);
  }

  -- the arguments as they end here
  pub first_ends : (p : Pending) → p.values ≡ [] → Arguments p.values (Marked signs.CloseParen ∷ []) []
  first_ends p none = subst (λ us. Arguments us (Marked signs.CloseParen ∷ []) []) (sym none) spelled.NoArgument

  -- at the closing parenthesis the arguments are spelled
  pub others_end : (p : Pending) (ls : List Lexeme) →
      Others_follow o p ls →
      Arguments p.values (ls ++ Marked signs.CloseParen ∷ []) []
  others_end p ls h = subst (λ us. Arguments us (ls ++ Marked signs.CloseParen ∷ []) []) (append_nil p.values)
      (h [] (Marked signs.CloseParen ∷ []) [] spelled.NoOther)

  full_next : (r : Parts) (m : Marks) (place : ℕ) (p : Pending) (ls : List Lexeme) (front : List Token) →
      Arguments p.values ls [] →
      SinceCallee o r m.callee p (Marked signs.OpenParen ∷ ls) front
      → Next o m place front (arguments_end r p)
  full_next r m place p ls front a h = when_next o m place front (is_full p) (at r (ThreadPrograms.AtSemicolon p))
      (λ e. record { ls = ls; callee = h; kind = (a, e) })

  pub first_next : (r : Parts) (m : Marks) (p : Pending) (front : List Token) (t : Token) (k : Lexeme) →
      lexeme_of t.kind ≡ k
      → SinceCallee o r m.callee p (Marked signs.OpenParen ∷ []) front × (p.values ≡ []) × (m.minus ≡ None) →
      Next o m t.span.start (front ++ t ∷ []) (at_first r p k)
  first_next r m p front t k is h = by (is_sign signs.CloseParen k) refl
    where
      by : (b : Bool) →
          is_sign signs.CloseParen k ≡ b →
          Next o m t.span.start (front ++ t ∷ []) (if b then arguments_end r p else argument r p k (number_in k))
      by true e = full_next r m t.span.start p (Marked signs.CloseParen ∷ []) (front ++ t ∷ []) (first_ends p h.1)
          (called_token o r m.callee p (Marked signs.OpenParen ∷ []) front t (Marked signs.CloseParen)
          (is ∙ sign_is signs.CloseParen k e) h.0)
      by false e = argument_next r m p front t k is (none_yet r m.callee p front h.0 h.1)

  pub others_next : (r : Parts) (m : Marks) (p : Pending) (front : List Token) (t : Token) (k : Lexeme) →
      lexeme_of t.kind ≡ k →
      SinceOpen o (Others_follow o) r m.callee p front
      → Next o m t.span.start (front ++ t ∷ []) (after_argument r p k)
  others_next r m p front t k is h = by (is_sign signs.CloseParen k) refl
    where
      argues : Argues o p (h.ls ++ Marked signs.Comma ∷ [])
      argues v vs ks js rest a others =
          subst (λ l. Arguments (p.values ++ v ∷ vs) l rest) (sym (append_assoc h.ls (Marked signs.Comma ∷ []) ks))
          (h.kind (v ∷ vs) (Marked signs.Comma ∷ ks) rest (spelled.Other a others))

      by : (b : Bool) →
          is_sign signs.CloseParen k ≡ b →
          Next o m t.span.start (front ++ t ∷ []) (if b then arguments_end r p else
          when (is_sign signs.Comma k) (at r (ThreadPrograms.AtArgument p)))
      by true e = full_next r m t.span.start p (h.ls ++ Marked signs.CloseParen ∷ []) (front ++ t ∷ [])
          (others_end p h.ls h.kind)
          (called_token o r m.callee p (Marked signs.OpenParen ∷ h.ls) front t (Marked signs.CloseParen)
          (is ∙ sign_is signs.CloseParen k e) h.callee)
      by false e = when_next o m t.span.start (front ++ t ∷ []) (is_sign signs.Comma k)
          (at r (ThreadPrograms.AtArgument p))
          (λ c. (
            record {
              ls = h.ls ++ Marked signs.Comma ∷ [];
              callee = called_token o r m.callee p (Marked signs.OpenParen ∷ h.ls) front t (Marked signs.Comma)
                  (is ∙ sign_is signs.Comma k c) h.callee;
              kind = argues;
            },
            refl,
          ))

  pub minus_next : (r : Parts) (m : Marks) (p : Pending) (front : List Token) (t : Token) (k : Lexeme) →
      lexeme_of t.kind ≡ k →
      IsFormed k →
      SinceMinus o r m.callee m.minus p front
      → Next o m t.span.start (front ++ t ∷ []) (after_minus r p (number_in k))
  minus_next r m p front t k is formed h = by (number_in k) refl
    where
      by : (n : Option Text) → number_in k ≡ n → Next o m t.span.start (front ++ t ∷ []) (after_minus r p n)
      by None e = tt
      by (Some text) e =
          let ls : List Lexeme = h.opened.ls in
          let number : k ≡ Numeral text = number_is k text e in
          let one : SinceCallee o r m.callee p (Marked signs.OpenParen ∷ ls ++ Marked signs.Minus ∷ []) front =
          subst (SinceCallee o r m.callee p (Marked signs.OpenParen ∷ ls ++ Marked signs.Minus ∷ [])) (sym h.is)
          (called_token o r m.callee p (Marked signs.OpenParen ∷ ls) h.before h.token (Marked signs.Minus) h.signed
          h.opened.callee) in
          let two : SinceCallee o r m.callee p (Marked signs.OpenParen ∷ ls ++ Marked signs.Minus ∷ Numeral text ∷ [])
          (front ++ t ∷ []) =
          subst (λ l. SinceCallee o r m.callee p (Marked signs.OpenParen ∷ l) (front ++ t ∷ []))
          (append_assoc ls (Marked signs.Minus ∷ []) (Numeral text ∷ []))
          (called_token o r m.callee p (Marked signs.OpenParen ∷ ls ++ Marked signs.Minus ∷ []) front t (Numeral text)
          (is ∙ number) one) in
          value_next r m t.span.start p (minus_number text) ls (Marked signs.Minus ∷ Numeral text ∷ [])
          (front ++ t ∷ []) (minus_spells text (subst IsFormed number formed)) h.opened.kind two
