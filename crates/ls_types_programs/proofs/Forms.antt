-- What the grammar lets follow in each stage of the reading, whatever the file.
use Rattle.std.proofs.Common.{◌≡◌, ℕ, suc, ◌<◌, ◌≤◌, refl, sym, ◌∙◌, subst, ap, Bool, true, false, not, ◌&&◌, List, []}
use Rattle.std.proofs.Common.{◌∷◌, ◌++◌, append_assoc, length, length-append, Option, Some, None, nat_lt, nat_le}
use Rattle.std.proofs.Common.{ltb-true, lit≤, arith, if◌then◌else◌, bytes_eq, codes}
use Rattle.std.proofs.lemmas.Bool.{lt-ltb}
use Rattle.std.specs.Prelude.{slice_get}
use Rattle.ls_checked.specs.Limits.{most_threads}
use Rattle.ls_lexer.specs.declared.sign.Sign.TheVariants as signs
use Rattle.ls_lexer.specs.declared.word.Word.TheVariants as words
use Rattle.ls_lexer.specs.Lexemes.{Lexeme, Named, Numeral, Reserved, Marked}
use Rattle.ls_lexer.specs.Numbers.{value_of}
use Rattle.ls_events.specs.declared.value.Value.{Value}
use Rattle.ls_events.specs.declared.value.Value.TheVariants as values
use Rattle.ls_checked.specs.CheckedProgram.{SetupName, ProgramCall, ThreadProgram, Program}
use Rattle.ls_types_elaboration.specs.Trees.{Text}
use Rattle.ls_types_elaboration.specs.TypedExpressions.{digits_value}
use Rattle.ls_types_elaboration.specs.Known.{MethodSign, number_of}
use Rattle.ls_types_elaboration.specs.Elaboration.{ElaboratedFile}
use Rattle.ls_types_programs.specs.ProgramCalls.{Pending, setup_named, maker, method_on, is_plain, callable, fits}
use Rattle.ls_types_programs.specs.ProgramCalls.{with_argument, is_full, plain_number, minus_number, Method}
use Rattle.ls_types_programs.specs.ThreadPrograms
use Rattle.ls_types_programs.specs.ThreadPrograms.{Stage, Parts, Reading, at, when, with_call, used, numbered, argument}
use Rattle.ls_types_programs.specs.ThreadPrograms.{arguments_end, at_first, after_argument, at_call, name_in, number_in}
use Rattle.ls_types_programs.specs.ThreadPrograms.{closed, is_new_name, with_finished, named, stepped, after, ended}
use Rattle.ls_types_programs.specs.ThreadPrograms.{beginning, thread_named}
use Rattle.ls_types_programs.specs.Stops.{Why, Form, NameTaken, NoClass, NoName, Reference, TooFew, ThreadTaken}
use Rattle.ls_types_programs.specs.Stops.{ManyThreads, ManyCalls, why, why_value, why_number, why_argument, why_method}
use Rattle.ls_types_programs.specs.Spelled as spelled
use Rattle.ls_types_programs.specs.Spelled.{Argument, Others, Arguments, Threads, Spells}
use Rattle.ls_types_programs.specs.Faults.{GoesOn}
use Rattle.ls_types_programs.proofs.Pieces.{no_truth, some_none, same_some, digits_most, append_nil}
use Rattle.ls_types_programs.proofs.Rest.{gives, with_values, Argued, Argues}

-- this token, and then tokens of a kind
pub data Begins (k : Lexeme) (P : List Lexeme → Type 0) : List Lexeme → Type 0 where
  By : {ks : List Lexeme} → P ks → Begins k P (k ∷ ks)

-- the other calls of a block, and then threads
pub data LeftCalls (names : List SetupName) (b : Bool) (ks : List Lexeme) : Type 0 where
  Left : {cs : List ProgramCall} {rest : List Lexeme} {ts : List ThreadProgram} →
      spelled.Calls b names cs ks rest →
      Threads names ts rest →
      LeftCalls names b ks

-- values of a kind, a semicolon, and the other calls
pub data LeftValues (names : List SetupName) (Kind : List Value → List Lexeme → List Lexeme → Type 0) (b : Bool)
    (ks : List Lexeme) : Type 0 where
  Valued : {vs : List Value} {rest : List Lexeme} →
      Kind vs ks (Marked signs.Semicolon ∷ rest) →
      LeftCalls names b rest →
      LeftValues names Kind b ks

-- the other threads
pub data LeftThreads (names : List SetupName) (ks : List Lexeme) : Type 0 where
  Ends : {ts : List ThreadProgram} → Threads names ts ks → LeftThreads names ks

-- what the grammar lets follow in a stage
abbrev pub Follows : List SetupName → Bool → Stage → List Lexeme → Type 0
Follows names b ThreadPrograms.AtSetup ks = (b ≡ true) × Begins (Named (codes "setup"))
    (Begins (Marked signs.OpenBrace) (LeftCalls names true)) ks
Follows names b ThreadPrograms.AtBlock ks = Begins (Marked signs.OpenBrace) (LeftCalls names b) ks
Follows names b ThreadPrograms.AtCall ks = LeftCalls names b ks
Follows names b (ThreadPrograms.AfterName name) ks = LeftCalls names b (Named name ∷ ks)
Follows names b (ThreadPrograms.AfterAssign name) ks = LeftCalls names b (Named name ∷ Marked signs.Assign ∷ ks)
Follows names b (ThreadPrograms.AfterNew name) ks = LeftCalls names b
    (Named name ∷ Marked signs.Assign ∷ Reserved words.New ∷ ks)
Follows names b (ThreadPrograms.AfterDot n) ks = (name : Text) × LeftCalls names b (Named name ∷ Marked signs.Dot ∷ ks)
Follows names b (ThreadPrograms.AtArguments p) ks = Begins (Marked signs.OpenParen) (LeftValues names Arguments b) ks
Follows names b (ThreadPrograms.AtFirst p) ks = LeftValues names Arguments b ks
Follows names b (ThreadPrograms.AtArgument p) ks = LeftValues names Argued b ks
Follows names b (ThreadPrograms.AfterMinus p) ks = LeftValues names Argued b (Marked signs.Minus ∷ ks)
Follows names b (ThreadPrograms.AfterArgument p) ks = LeftValues names Others b ks
Follows names b (ThreadPrograms.AtSemicolon p) ks = Begins (Marked signs.Semicolon) (LeftCalls names b) ks
Follows names b ThreadPrograms.AtThread ks = (b ≡ false) × LeftThreads names ks
Follows names b ThreadPrograms.AtThreadName ks = (b ≡ false) × LeftThreads names (Named (codes "thread") ∷ ks)

-- after a block, the next block isn't the first
pub not_first : (r : Parts) (t : ThreadProgram) → nat_lt (length (r.threads ++ t ∷ [])) 1 ≡ false
not_first r t = by (nat_lt (length (r.threads ++ t ∷ [])) 1) refl
  where
    by : (b : Bool) → nat_lt (length (r.threads ++ t ∷ [])) 1 ≡ b → b ≡ false
    by false e = refl
    by true e = absurd (omega (arith, length-append r.threads (t ∷ []), ltb-true (length (r.threads ++ t ∷ [])) 1 e))

-- after a refusal nothing is read
pub after_none : (o : ElaboratedFile) (ks : List Lexeme) (q : Reading) → after o None ks ≡ Some q → ⊥
after_none o ks q e = some_none q e

-- ---- what the grammar lets come is taken, or refused for another reason than its form

module _ (o : ElaboratedFile) (names : List SetupName) where
  abbrev Taken : Why → List Lexeme → Option Reading → Type 0
  Taken w ks None = w ≡ Form → ⊥
  Taken w ks (Some q) = Follows names (gives q.parts) q.stage ks

  when_taken : (w : Why) (ks : List Lexeme) (b : Bool) (q : Reading) →
      (w ≡ Form → ⊥) →
      Follows names (gives q.parts) q.stage ks →
      Taken w ks (when b q)
  when_taken w ks true q other h = h
  when_taken w ks false q other h = other

  value_taken : (r : Parts) (p : Pending) (v : Value) (ks : List Lexeme) →
      LeftValues names Others (gives r) ks →
      Taken (why_value p) ks (with_call r ThreadPrograms.AfterArgument (with_argument p v))
  value_taken r p v ks h = by (fits (slice_get p.types (length p.values)) v)
    where
      by : (b : Bool) →
          Taken (why_value p) ks (with_call r ThreadPrograms.AfterArgument
          (if b then Some (with_values p (p.values ++ v ∷ [])) else None))
      by true = h
      by false = λ e. cc

  number_taken : (r : Parts) (p : Pending) (text : Text) (ks : List Lexeme) →
      value_of 0 text < 2147483648 →
      LeftValues names Others (gives r) ks →
      Taken (why_number p (plain_number text)) ks (numbered r p (plain_number text))
  number_taken r p text ks small h = by (nat_lt (digits_value 0 text) 2147483648) refl
    where
      most : (n : ℕ) → n < 2147483648 → n ≤ 2147483648
      most n h = omega (arith, h)

      is : digits_value 0 text ≡ value_of 0 text
      is = digits_most text (most (value_of 0 text) small)

      v : Value
      v = values.Int (Rattle.std.proofs.Common.pos (digits_value 0 text))

      by : (b : Bool) →
          nat_lt (digits_value 0 text) 2147483648 ≡ b →
          Taken (why_number p (if b then Some v else None)) ks (numbered r p (if b then Some v else None))
      by true e = value_taken r p v ks h
      by false e = absurd
          (no_truth (sym e ∙ lt-ltb (digits_value 0 text) 2147483648 (subst (λ n. n < 2147483648) (sym is) small)))

  argument_taken : {v : Value} {vs : List Value} {ks js rest : List Lexeme} (r : Parts) (p : Pending) (k : Lexeme) →
      Argument v (k ∷ ks) js →
      Others vs js (Marked signs.Semicolon ∷ rest) →
      LeftCalls names (gives r) rest
      → Taken (why_argument p k (number_in k)) ks (argument r p k (number_in k))
  argument_taken {ks = ks} r p _ spelled.True others after = value_taken r p (values.Boolean true) ks
      (Valued others after)
  argument_taken {ks = ks} r p _ spelled.False others after = value_taken r p (values.Boolean false) ks
      (Valued others after)
  argument_taken {ks = ks} r p _ (spelled.Number text small) others after = number_taken r p text ks small
      (Valued others after)
  argument_taken r p _ (spelled.Minus text most) others after = Valued (Argues (spelled.Minus text most) others) after

  full_taken : (r : Parts) (p : Pending) (rest : List Lexeme) →
      LeftCalls names (gives r) rest →
      Taken TooFew (Marked signs.Semicolon ∷ rest) (arguments_end r p)
  full_taken r p rest h = when_taken TooFew (Marked signs.Semicolon ∷ rest) (is_full p)
      (at r (ThreadPrograms.AtSemicolon p)) (λ e. cc) (By h)

  first_taken : (r : Parts) (p : Pending) (k : Lexeme) (ks : List Lexeme) →
      LeftValues names Arguments (gives r) (k ∷ ks) →
      Taken (why o r (ThreadPrograms.AtFirst p) k) ks (at_first r p k)
  first_taken r p _ _ (Valued {rest = rest} spelled.NoArgument after) = full_taken r p rest after
  first_taken r p _ _ (Valued (spelled.First spelled.True others) after) = argument_taken r p (Reserved words.True)
      spelled.True others after
  first_taken r p _ _ (Valued (spelled.First spelled.False others) after) = argument_taken r p (Reserved words.False)
      spelled.False others after
  first_taken r p _ _ (Valued (spelled.First (spelled.Number text small) others) after) = argument_taken r p
      (Numeral text) (spelled.Number text small) others after
  first_taken r p _ _ (Valued (spelled.First (spelled.Minus text most) others) after) = argument_taken r p
      (Marked signs.Minus) (spelled.Minus text most) others after

  others_taken : (r : Parts) (p : Pending) (k : Lexeme) (ks : List Lexeme) →
      LeftValues names Others (gives r) (k ∷ ks) →
      Taken (why o r (ThreadPrograms.AfterArgument p) k) ks (after_argument r p k)
  others_taken r p _ _ (Valued {rest = rest} spelled.NoOther after) = full_taken r p rest after
  others_taken r p _ _ (Valued (spelled.Other a more) after) = Valued (Argues a more) after

  call_taken : (r : Parts) (k : Lexeme) (ks : List Lexeme) →
      LeftCalls names (gives r) (k ∷ ks) →
      Taken Form ks (at_call r k (name_in k))
  call_taken r _ _ (Left spelled.NoCall threads) = (
    not_first r (record { name = r.name; calls = r.calls }),
    Ends threads,
  )
  call_taken r _ _ (Left (spelled.More (spelled.New {class = class} s setup there a) more) threads) = Left
      (spelled.More (spelled.New {class = class} s setup there a) more) threads
  call_taken r _ _ (Left (spelled.More (spelled.On {method = number} {result = result} s there a) more) threads) = Left
      (spelled.More (spelled.On {method = number} {result = result} s there a) more) threads

  name_taken : (r : Parts) (name : Text) (k : Lexeme) (ks : List Lexeme) →
      LeftCalls names (gives r) (Named name ∷ k ∷ ks) →
      Taken (why o r (ThreadPrograms.AfterName name) k) ks (stepped o r (ThreadPrograms.AfterName name) k)
  name_taken r _ _ ks (Left (spelled.More (spelled.New {class = class} s setup there a) more) threads) =
      when_taken NameTaken ks (is_new_name r s.name) (at r (ThreadPrograms.AfterAssign s.name)) (λ e. cc)
      (Left (spelled.More (spelled.New {class = class} s setup there a) more) threads)
  name_taken r _ _ ks (Left (spelled.More (spelled.On {method = number} {result = result} s there a) more) threads) = by
      (setup_named r.names s.name)
    where
      by : (x : Option ℕ) → Taken NoName ks (used r x)
      by None = λ e. cc
      by (Some n) = (
        s.name,
        Left (spelled.More (spelled.On {method = number} {result = result} s there a) more)
            threads,
      )

  new_taken : (r : Parts) (name : Text) (k : Lexeme) (ks : List Lexeme) →
      LeftCalls names (gives r) (Named name ∷ Marked signs.Assign ∷ Reserved words.New ∷ k ∷ ks)
      → Taken (why o r (ThreadPrograms.AfterNew name) k) ks (stepped o r (ThreadPrograms.AfterNew name) k)
  new_taken r _ _ ks (Left (spelled.More (spelled.New {class_name = class} s setup there a) more) threads) = by
      (number_of o.names class)
    where
      by : (x : Option ℕ) → Taken NoClass ks (with_call r ThreadPrograms.AtArguments (maker o s.name class x))
      by None = λ e. cc
      by (Some c) = By (Valued a (Left more threads))

  dot_taken : (r : Parts) (n : ℕ) (name : Text) (k : Lexeme) (ks : List Lexeme) →
      LeftCalls names (gives r) (Named name ∷ Marked signs.Dot ∷ k ∷ ks)
      → Taken (why o r (ThreadPrograms.AfterDot n) k) ks (stepped o r (ThreadPrograms.AfterDot n) k)
  dot_taken r n _ _ ks (Left (spelled.More (spelled.On {method_name = method} s there a) more) threads) = by
      (method_on o (slice_get r.names n) method)
    where
      plain : (m : MethodSign) (b : Bool) →
          Taken Reference ks (with_call r ThreadPrograms.AtArguments
          (if b then Some (record { callee = Method n m.number method m.result; types = m.parameters; values = [] })
          else None))
      plain m false = λ e. cc
      plain m true = By (Valued a (Left more threads))

      by : (x : Option MethodSign) →
          Taken (why_method x) ks (with_call r ThreadPrograms.AtArguments (callable n method x))
      by None = λ e. cc
      by (Some m) = plain m (is_plain m.result)

  pub step_taken : (r : Parts) (stage : Stage) (k : Lexeme) (ks : List Lexeme) →
      Follows names (gives r) stage (k ∷ ks) →
      Taken (why o r stage k) ks (stepped o r stage k)
  step_taken r ThreadPrograms.AtSetup _ _ (e, By (By {ks = ls} h)) = By (subst (λ b. LeftCalls names b ls) (sym e) h)
  step_taken r ThreadPrograms.AtBlock _ _ (By h) = h
  step_taken r ThreadPrograms.AtCall k ks h = call_taken r k ks h
  step_taken r (ThreadPrograms.AfterName name) k ks h = name_taken r name k ks h
  step_taken r (ThreadPrograms.AfterAssign _) _ _
      (Left (spelled.More (spelled.New {class = class} s setup there a) more) threads) = Left
      (spelled.More (spelled.New {class = class} s setup there a) more) threads
  step_taken r (ThreadPrograms.AfterNew name) k ks h = new_taken r name k ks h
  step_taken r (ThreadPrograms.AfterDot n) k ks h = dot_taken r n h.0 k ks h.1
  step_taken r (ThreadPrograms.AtArguments p) _ _ (By h) = h
  step_taken r (ThreadPrograms.AtFirst p) k ks h = first_taken r p k ks h
  step_taken r (ThreadPrograms.AtArgument p) k ks (Valued (Argues a others) after) = argument_taken r p k a others after
  step_taken r (ThreadPrograms.AfterMinus p) _ ks (Valued (Argues (spelled.Minus text most) others) after) = value_taken
      r p (minus_number text) ks (Valued others after)
  step_taken r (ThreadPrograms.AfterArgument p) k ks h = others_taken r p k ks h
  step_taken r (ThreadPrograms.AtSemicolon p) _ ks (By h) = when_taken ManyCalls ks (nat_lt (length r.calls) 256)
      (at (with_finished r p) ThreadPrograms.AtCall) (λ e. cc) h
  step_taken r ThreadPrograms.AtThread _ ks (e, Ends (spelled.Thread calls more)) = when_taken ManyThreads ks
      (nat_le (length r.threads) most_threads) (at r ThreadPrograms.AtThreadName) (λ e. cc)
      (e, Ends (spelled.Thread calls more))
  step_taken r ThreadPrograms.AtThreadName _ ks (e, Ends (spelled.Thread {t = t} {ks = ls} calls more)) =
      when_taken ThreadTaken ks (not (bytes_eq t.name (codes "all")) && not (thread_named r.threads t.name))
      (at (named r t.name) ThreadPrograms.AtBlock) (λ e. cc)
      (By (subst (λ b. LeftCalls names b ls) (sym e) (Left calls more)))

  follows_on : (ks more : List Lexeme) (r : Parts) (stage : Stage) (q : Reading) →
      after o (Some (at r stage)) ks ≡ Some q →
      Follows names (gives r) stage (ks ++ more) →
      Follows names (gives q.parts) q.stage more
  follows_on [] more r stage q e h = subst (λ (x : Reading). Follows names (gives x.parts) x.stage more)
      (same_some (at r stage) q e) h
  follows_on (k ∷ ks) more r stage q e h = by (λ s t. follows_on ks more s t q) (stepped o r stage k)
      (step_taken r stage k (ks ++ more) h) e
    where
      by : ((s : Parts) (t : Stage) → after o (Some (at s t)) ks ≡ Some q → Follows names (gives s) t (ks ++ more) →
          Follows names (gives q.parts) q.stage more)
          → (x : Option Reading) → Taken (why o r stage k) (ks ++ more) x → after o x ks ≡ Some q →
          Follows names (gives q.parts) q.stage more
      by rec None h e = absurd (after_none o ks q e)
      by rec (Some next) h e = rec next.parts next.stage e h

begins : (p : Program) (ks : List Lexeme) → Spells p ks → Follows p.names true ThreadPrograms.AtSetup ks
begins p ks (spelled.Whole calls threads) = (refl, By (By (Left calls threads)))

spelled_on : (o : ElaboratedFile) (ks more : List Lexeme) (q : Reading) (p : Program) →
    after o (Some beginning) ks ≡ Some q →
    Spells p (ks ++ more) →
    Follows p.names (gives q.parts) q.stage more
spelled_on o ks more q p e h = follows_on o p.names ks more beginning.parts ThreadPrograms.AtSetup q e
    (begins p (ks ++ more) h)

-- a token that is refused for its form is one with which no program is spelled
pub form_stands : (o : ElaboratedFile) (ks : List Lexeme) (k : Lexeme) (q : Reading) →
    after o (Some beginning) ks ≡ Some q →
    stepped o q.parts q.stage k ≡ None →
    why o q.parts q.stage k ≡ Form →
    GoesOn (ks ++ k ∷ []) →
    ⊥
form_stands o ks k q e none form h =
    let s : Spells h.0 (ks ++ k ∷ h.1) = subst (λ ls. Spells h.0 ls) (append_assoc ks (k ∷ []) h.1) h.2 in
    subst (Taken o h.0.names (why o q.parts q.stage k) h.1) none
    (step_taken o h.0.names q.parts q.stage k h.1 (spelled_on o ks (k ∷ h.1) q h.0 e s)) form

-- and if the tokens end before a block's end, they spell no program
pub end_stands : (o : ElaboratedFile) (ks : List Lexeme) (q : Reading) →
    after o (Some beginning) ks ≡ Some q →
    ended q.stage ≡ false →
    (p : Program) →
    Spells p ks →
    ⊥
end_stands o ks q e no_end p h = by q.stage no_end (spelled_on o ks [] q p e
    (subst (λ ls. Spells p ls) (sym (append_nil ks)) h))
  where
    by : (stage : Stage) → ended stage ≡ false → Follows p.names (gives q.parts) stage [] → ⊥
    by ThreadPrograms.AtThread e h = no_truth (sym e)
    by ThreadPrograms.AtSetup e (f, h) = elim h [ ]
    by ThreadPrograms.AtBlock e h = elim h [ ]
    by ThreadPrograms.AtCall e (Left (spelled.More c more) threads) = elim c [ ]
    by (ThreadPrograms.AfterName name) e (Left (spelled.More c more) threads) = elim c [ ]
    by (ThreadPrograms.AfterAssign name) e (Left (spelled.More c more) threads) = elim c [ ]
    by (ThreadPrograms.AfterNew name) e (Left (spelled.More c more) threads) = elim c [ ]
    by (ThreadPrograms.AfterDot n) e (name, Left (spelled.More c more) threads) = elim c [ ]
    by (ThreadPrograms.AtArguments p) e h = elim h [ ]
    by (ThreadPrograms.AtFirst p) e (Valued (spelled.First a others) h) = elim a [ ]
    by (ThreadPrograms.AtArgument p) e (Valued (Argues a others) h) = elim a [ ]
    by (ThreadPrograms.AfterMinus p) e (Valued (Argues a others) h) = elim a [ ]
    by (ThreadPrograms.AfterArgument p) e (Valued h rest) = elim h [ ]
    by (ThreadPrograms.AtSemicolon p) e h = elim h [ ]
    by ThreadPrograms.AtThreadName e (f, Ends h) = elim h [ ]
