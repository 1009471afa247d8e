-- Each step in the arguments of a call goes on to a program.
use Rattle.std.proofs.Common.{◌≡◌, ℕ, zero, suc, ◌<◌, ◌≤◌, refl, sym, subst, Bool, true, false, List, [], ◌∷◌, ◌++◌}
use Rattle.std.proofs.Common.{length, Option, Some, None, nat_lt, if◌then◌else◌, pos, ltb-true}
use Rattle.std.specs.Prelude.{slice_get}
use Rattle.ls_lexer.specs.declared.sign.Sign.TheVariants as signs
use Rattle.ls_lexer.specs.declared.word.Word.TheVariants as words
use Rattle.ls_lexer.specs.Lexemes.{Lexeme, Named, Numeral, Reserved, Marked}
use Rattle.ls_lexer.specs.Formed.{IsFormed}
use Rattle.ls_lexer.specs.Numbers.{value_of}
use Rattle.ls_events.specs.declared.value.Value.{Value}
use Rattle.ls_events.specs.declared.value.Value.TheVariants as values
use Rattle.ls_checked.specs.CheckedProgram.{SetupName}
use Rattle.ls_types_elaboration.specs.Trees.{Text}
use Rattle.ls_types_elaboration.specs.TypedExpressions.{digits_value}
use Rattle.ls_types_elaboration.specs.Elaboration.{ElaboratedFile}
use Rattle.ls_types_programs.specs.ProgramCalls.{Pending, fits, with_argument, is_full, plain_number, minus_number}
use Rattle.ls_types_programs.specs.ThreadPrograms
use Rattle.ls_types_programs.specs.ThreadPrograms.{Stage, Parts, Reading, at, when, with_call, numbered, argument}
use Rattle.ls_types_programs.specs.ThreadPrograms.{arguments_end, at_first, after_argument, after_minus, number_in}
use Rattle.ls_types_programs.specs.ThreadPrograms.{is_sign, is_word}
use Rattle.ls_types_programs.specs.Spelled as spelled
use Rattle.ls_types_programs.specs.Spelled.{Argument, Others, Arguments}
use Rattle.ls_types_programs.proofs.Pieces.{some_none, sign_is, word_is, number_is, digits_small, number_most}
use Rattle.ls_types_programs.proofs.Rest.{gives, with_values, Argued, Argues}
use Rattle.ls_types_programs.proofs.Forms.{Begins, By, LeftCalls, Left, LeftValues, Valued, Follows}

-- a setup name that is so named
abbrev pub IsAmong : List SetupName → Text → Type 0
IsAmong names name = (n : ℕ) × (s : SetupName) × (slice_get names n ≡ Some s) × (s.name ≡ name)

-- each name of the tokens is one
abbrev pub AreAmong : List SetupName → List Lexeme → Type 0
AreAmong names ks = (i : ℕ) (name : Text) → slice_get ks i ≡ Some (Named name) → IsAmong names name

abbrev pub collected : List Lexeme → List SetupName
collected [] = []
collected (Named name ∷ ks) = record { name = name; class = 0 } ∷ collected ks
collected (Numeral text ∷ ks) = collected ks
collected (Reserved word ∷ ks) = collected ks
collected (Marked sign ∷ ks) = collected ks

same_name : (a b : Text) → Some (Named a) ≡ Some (Named b) → a ≡ b
same_name a b e = cc

pub collected_among : (ks : List Lexeme) → AreAmong (collected ks) ks
collected_among [] i name e = absurd (some_none (Named name) e)
collected_among (Named x ∷ ks) zero name e = (0, record { name = x; class = 0 }, refl, same_name x name e)
collected_among (Named x ∷ ks) (suc i) name e = let h = collected_among ks i name e in (suc h.0, h.1, h.2, h.3)
collected_among (Numeral text ∷ ks) zero name e = absurd cc
collected_among (Numeral text ∷ ks) (suc i) name e = collected_among ks i name e
collected_among (Reserved word ∷ ks) zero name e = absurd cc
collected_among (Reserved word ∷ ks) (suc i) name e = collected_among ks i name e
collected_among (Marked sign ∷ ks) zero name e = absurd cc
collected_among (Marked sign ∷ ks) (suc i) name e = collected_among ks i name e

module _ (o : ElaboratedFile) (names : List SetupName) where
  -- what holds in a stage
  abbrev pub Kept : Parts → Stage → Type 0
  Kept r ThreadPrograms.AtSetup = gives r ≡ true
  Kept r (ThreadPrograms.AfterName name) = IsAmong names name
  Kept r (ThreadPrograms.AfterAssign name) = IsAmong names name × (gives r ≡ true)
  Kept r (ThreadPrograms.AfterNew name) = IsAmong names name × (gives r ≡ true)
  Kept r (ThreadPrograms.AfterDot n) = (name : Text) × IsAmong names name
  Kept r ThreadPrograms.AtThread = gives r ≡ false
  Kept r ThreadPrograms.AtThreadName = gives r ≡ false
  Kept r _ = Unit {0}

  -- the next stage keeps what holds, and what follows it follows the token
  abbrev pub Leads : Parts → Stage → Lexeme → Option Reading → Type 0
  Leads r stage k None = Unit {0}
  Leads r stage k (Some q) = Kept q.parts q.stage × ((ks : List Lexeme) → Follows names (gives q.parts) q.stage ks →
      Follows names (gives r) stage (k ∷ ks))

  pub when_leads : (r : Parts) (stage : Stage) (k : Lexeme) (b : Bool) (q : Reading) →
      (b ≡ true → Leads r stage k (Some q)) →
      Leads r stage k (when b q)
  when_leads r stage k true q h = h refl
  when_leads r stage k false q h = tt

  pub made : {class_name : Text} {ks : List Lexeme} (b : Bool) (name : Text) →
      b ≡ true →
      IsAmong names name →
      LeftValues names Arguments b ks
      → LeftCalls names b (Named name ∷ Marked signs.Assign ∷ Reserved words.New ∷ Named class_name ∷
      Marked signs.OpenParen ∷ ks)
  made {class_name = class_name} {ks = ks} b name e there (Valued a (Left more threads)) =
      subst (λ x. LeftCalls names b (Named x ∷ Marked signs.Assign ∷ Reserved words.New ∷ Named class_name ∷
      Marked signs.OpenParen ∷ ks)) there.3
      (Left (spelled.More (spelled.New {class = 0} there.1 e there.2 a) more) threads)

  pub dotted : {method : Text} {ks : List Lexeme} (b : Bool) (name : Text) →
      IsAmong names name →
      LeftValues names Arguments b ks
      → LeftCalls names b (Named name ∷ Marked signs.Dot ∷ Named method ∷ Marked signs.OpenParen ∷ ks)
  dotted {method = method} {ks = ks} b name there (Valued a (Left more threads)) =
      subst (λ x. LeftCalls names b (Named x ∷ Marked signs.Dot ∷ Named method ∷ Marked signs.OpenParen ∷ ks)) there.3
      (Left (spelled.More (spelled.On {method = 0} {result = None} there.1 there.2 a) more) threads)

  pub renamed : (b : Bool) (x name : Text) (ks : List Lexeme) →
      IsAmong names name →
      LeftCalls names b (Named x ∷ Marked signs.Dot ∷ ks) →
      LeftCalls names b (Named name ∷ Marked signs.Dot ∷ ks)
  renamed b _ name _ there (Left (spelled.More (spelled.On s at a) more) threads) = dotted b name there
      (Valued a (Left more threads))

  value_leads : (r : Parts) (p : Pending) (v : Value) (stage : Stage) (k : Lexeme)
      → ((ks : List Lexeme) → LeftValues names Others (gives r) ks → Follows names (gives r) stage (k ∷ ks)) →
      Leads r stage k (with_call r ThreadPrograms.AfterArgument (with_argument p v))
  value_leads r p v stage k h = by (fits (slice_get p.types (length p.values)) v)
    where
      by : (b : Bool) →
          Leads r stage k (with_call r ThreadPrograms.AfterArgument
          (if b then Some (with_values p (p.values ++ v ∷ [])) else None))
      by true = (tt, h)
      by false = tt

  -- an argument where one may come
  abbrev pub Argues_at : Parts → Stage → Type 0
  Argues_at r stage = (ks : List Lexeme) → LeftValues names Argued (gives r) ks → Follows names (gives r) stage ks

  pub behind : {v : Value} {b : Bool} {js ks : List Lexeme} →
      Argument v js ks →
      LeftValues names Others b ks →
      LeftValues names Argued b js
  behind a (Valued others more) = Valued (Argues a others) more

  pub argument_leads : (r : Parts) (p : Pending) (stage : Stage) (k : Lexeme) →
      Argues_at r stage →
      Leads r stage k (argument r p k (number_in k))
  argument_leads r p stage k h = by (number_in k) refl
    where
      number : (text : Text) →
          (b : Bool) →
          nat_lt (digits_value 0 text) 2147483648 ≡ b →
          Leads r stage (Numeral text) (numbered r p (if b then Some (values.Int (pos (digits_value 0 text))) else
          None))
      number text false e = tt
      number text true e =
          let small : digits_value 0 text < 2147483648 = ltb-true (digits_value 0 text) 2147483648 e in
          value_leads r p (values.Int (pos (digits_value 0 text))) stage (Numeral text)
          (λ ks m. h (Numeral text ∷ ks)
          (behind (spelled.Number text (subst (λ n. n < 2147483648) (digits_small text small) small)) m))

      signed : Leads r stage k (when (is_sign signs.Minus k) (at r (ThreadPrograms.AfterMinus p)))
      signed = when_leads r stage k (is_sign signs.Minus k) (at r (ThreadPrograms.AfterMinus p))
          (λ e. (
            tt,
            λ ks m. subst (λ x. Follows names (gives r) stage (x ∷ ks)) (sym (sign_is signs.Minus k e))
                (h (Marked signs.Minus ∷ ks) m),
          ))

      is_false : (b : Bool) →
          is_word words.False k ≡ b →
          Leads r stage k (if b then with_call r ThreadPrograms.AfterArgument (with_argument p (values.Boolean false))
          else when (is_sign signs.Minus k) (at r (ThreadPrograms.AfterMinus p)))
      is_false true e = subst
          (λ x. Leads r stage x (with_call r ThreadPrograms.AfterArgument (with_argument p (values.Boolean false))))
          (sym (word_is words.False k e)) (value_leads r p (values.Boolean false) stage (Reserved words.False)
          (λ ks m. h (Reserved words.False ∷ ks) (behind spelled.False m)))
      is_false false e = signed

      is_true : (b : Bool) →
          is_word words.True k ≡ b →
          Leads r stage k (if b then with_call r ThreadPrograms.AfterArgument (with_argument p (values.Boolean true))
          else (if is_word words.False k then with_call r ThreadPrograms.AfterArgument
          (with_argument p (values.Boolean false)) else when (is_sign signs.Minus k)
          (at r (ThreadPrograms.AfterMinus p))))
      is_true true e = subst
          (λ x. Leads r stage x (with_call r ThreadPrograms.AfterArgument (with_argument p (values.Boolean true))))
          (sym (word_is words.True k e)) (value_leads r p (values.Boolean true) stage (Reserved words.True)
          (λ ks m. h (Reserved words.True ∷ ks) (behind spelled.True m)))
      is_true false e = is_false (is_word words.False k) refl

      by : (n : Option Text) → number_in k ≡ n → Leads r stage k (argument r p k n)
      by None e = is_true (is_word words.True k) refl
      by (Some text) e = subst (λ x. Leads r stage x (numbered r p (plain_number text))) (sym (number_is k text e))
          (number text (nat_lt (digits_value 0 text) 2147483648) refl)

  pub minus_leads : (r : Parts) (p : Pending) (k : Lexeme) →
      IsFormed k →
      Leads r (ThreadPrograms.AfterMinus p) k (after_minus r p (number_in k))
  minus_leads r p k formed = by (number_in k) refl
    where
      by : (n : Option Text) → number_in k ≡ n → Leads r (ThreadPrograms.AfterMinus p) k (after_minus r p n)
      by None e = tt
      by (Some text) e =
          let is : k ≡ Numeral text = number_is k text e in
          let most : value_of 0 text ≤ 2147483648 = number_most text (subst IsFormed is formed) in
          subst (λ x. Leads r (ThreadPrograms.AfterMinus p) x (after_minus r p (Some text))) (sym is)
          (value_leads r p (minus_number text) (ThreadPrograms.AfterMinus p) (Numeral text)
          (λ ks m. behind (spelled.Minus text most) m))

  -- a parenthesis where one may come
  end_leads : (r : Parts) (p : Pending) (stage : Stage) →
      ((ks : List Lexeme) → LeftCalls names (gives r) ks → Follows names (gives r) stage
      (Marked signs.CloseParen ∷ Marked signs.Semicolon ∷ ks)) →
      Leads r stage (Marked signs.CloseParen) (arguments_end r p)
  end_leads r p stage h = when_leads r stage (Marked signs.CloseParen) (is_full p) (at r (ThreadPrograms.AtSemicolon p))
      (λ e. (tt, semicolon))
    where
      semicolon : (ks : List Lexeme) →
          Begins (Marked signs.Semicolon) (LeftCalls names (gives r)) ks →
          Follows names (gives r) stage (Marked signs.CloseParen ∷ ks)
      semicolon _ (By {ks = ks} m) = h ks m

  pub first_leads : (r : Parts) (p : Pending) (k : Lexeme) → Leads r (ThreadPrograms.AtFirst p) k (at_first r p k)
  first_leads r p k = by (is_sign signs.CloseParen k) refl
    where
      turned : (ks : List Lexeme) → LeftValues names Argued (gives r) ks → LeftValues names Arguments (gives r) ks
      turned ks (Valued (Argues a others) more) = Valued (spelled.First a others) more

      by : (b : Bool) →
          is_sign signs.CloseParen k ≡ b →
          Leads r (ThreadPrograms.AtFirst p) k (if b then arguments_end r p else argument r p k (number_in k))
      by true e = subst (λ x. Leads r (ThreadPrograms.AtFirst p) x (arguments_end r p))
          (sym (sign_is signs.CloseParen k e)) (end_leads r p (ThreadPrograms.AtFirst p)
          (λ ks m. Valued spelled.NoArgument m))
      by false e = argument_leads r p (ThreadPrograms.AtFirst p) k turned

  pub others_leads : (r : Parts) (p : Pending) (k : Lexeme) →
      Leads r (ThreadPrograms.AfterArgument p) k (after_argument r p k)
  others_leads r p k = by (is_sign signs.CloseParen k) refl
    where
      turned : (ks : List Lexeme) →
          LeftValues names Argued (gives r) ks →
          LeftValues names Others (gives r) (Marked signs.Comma ∷ ks)
      turned ks (Valued (Argues a others) more) = Valued (spelled.Other a others) more

      by : (b : Bool) →
          is_sign signs.CloseParen k ≡ b →
          Leads r (ThreadPrograms.AfterArgument p) k (if b then arguments_end r p else
          when (is_sign signs.Comma k) (at r (ThreadPrograms.AtArgument p)))
      by true e = subst (λ x. Leads r (ThreadPrograms.AfterArgument p) x (arguments_end r p))
          (sym (sign_is signs.CloseParen k e)) (end_leads r p (ThreadPrograms.AfterArgument p)
          (λ ks m. Valued spelled.NoOther m))
      by false e = when_leads r (ThreadPrograms.AfterArgument p) k (is_sign signs.Comma k)
          (at r (ThreadPrograms.AtArgument p))
          (λ is. (
            tt,
            λ ks m. subst (λ x. LeftValues names Others (gives r) (x ∷ ks)) (sym (sign_is signs.Comma k is))
                (turned ks m),
          ))
