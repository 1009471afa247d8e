-- What the tokens since the beginning of a statement, or of a thread, are after each step.
use Rattle.std.proofs.Common.{◌≡◌, ℕ, refl, sym, ◌∙◌, subst, ap, Bool, true, false, not, ◌&&◌, List, [], ◌∷◌, ◌++◌}
use Rattle.std.proofs.Common.{length, length-append, Option, Some, None, nat_lt, nat_le, ltb-true, arith, if◌then◌else◌}
use Rattle.std.proofs.Common.{bytes_eq, codes}
use Rattle.std.specs.Prelude.{slice_get, is_some}
use Rattle.ls_checked.specs.Limits.{most_threads}
use Rattle.ls_lexer.specs.declared.sign.Sign.TheVariants as signs
use Rattle.ls_lexer.specs.declared.word.Word.TheVariants as words
use Rattle.ls_lexer.specs.declared.token.Token.{Token}
use Rattle.ls_lexer.specs.Lexemes.{Lexeme, Named, Reserved, Marked, lexeme_of}
use Rattle.ls_lexer.specs.Formed.{IsFormed}
use Rattle.ls_checked.specs.CheckedProgram.{SetupName, ThreadProgram}
use Rattle.ls_types_elaboration.specs.Trees.{Text}
use Rattle.ls_types_elaboration.specs.Known.{MethodSign, number_of, method_named, methods_in, parameters_in}
use Rattle.ls_types_elaboration.specs.Elaboration.{ElaboratedFile}
use Rattle.ls_types_programs.specs.ProgramCalls.{Pending, Maker, setup_named, maker, called_on, is_plain, callable}
use Rattle.ls_types_programs.specs.ProgramCalls.{Method}
use Rattle.ls_types_programs.specs.ThreadPrograms
use Rattle.ls_types_programs.specs.ThreadPrograms.{Stage, Parts, at, when, with_call, used, after_new, after_dot}
use Rattle.ls_types_programs.specs.ThreadPrograms.{after_name, at_thread_name, at_call, name_in, closed, is_new_name}
use Rattle.ls_types_programs.specs.ThreadPrograms.{with_finished, named, stepped, thread_named, is_sign, is_word}
use Rattle.ls_types_programs.specs.ThreadPrograms.{is_text}
use Rattle.ls_types_programs.specs.Stops.{Marks}
use Rattle.ls_types_programs.specs.Faults.{IsCallee, Class, Method as OnMethod}
use Rattle.ls_types_programs.proofs.Pieces.{both, not_false, sign_is, word_is, name_is, Front, plain_result}
use Rattle.ls_types_programs.proofs.Pieces.{named_there, is_new}
use Rattle.ls_types_programs.proofs.Rest.{gives}
use Rattle.ls_types_programs.proofs.RestInBlocks.{word_named}
use Rattle.ls_types_programs.proofs.Since.{Reads, Next, when_next, longer, SinceName, SinceTokens, program_at}
use Rattle.ls_types_programs.proofs.Since.{SinceCallee, Since, with_token, called_token}
use Rattle.ls_types_programs.proofs.SinceArguments.{argument_next, first_next, others_next, minus_next}

module _ (o : ElaboratedFile) where
  -- ---- calls

  call_next : (r : Parts) (m : Marks) (front : List Token) (t : Token) (k : Lexeme) →
      lexeme_of t.kind ≡ k →
      Reads o r ThreadPrograms.AtCall front →
      Next o m t.span.start (front ++ t ∷ []) (at_call r k (name_in k))
  call_next r m front t k is read = by (name_in k) refl
    where
      by : (n : Option Text) → name_in k ≡ n → Next o m t.span.start (front ++ t ∷ []) (at_call r k n)
      by None e = when_next o m t.span.start (front ++ t ∷ []) (is_sign signs.CloseBrace k)
          (at (closed r) ThreadPrograms.AtThread) (λ c. tt)
      by (Some name) e = record {
        base = front;
        token = t;
        is = refl;
        read = read;
        named = is ∙ name_is k name e;
        place = refl;
      }

  -- the name of a statement and the token after it
  behind_name : (r : Parts) (name : Text) (mark : ℕ) (front : List Token) (t : Token) (k : Lexeme) →
      lexeme_of t.kind ≡ k →
      SinceName o r name mark front →
      SinceTokens o r (Named name ∷ k ∷ []) (front ++ t ∷ [])
  behind_name r name mark front t k is h = record {
    base = h.base;
    js = h.token ∷ t ∷ [];
    is = longer front h.base (h.token ∷ []) t h.is;
    read = h.read;
    taken = ap (λ x. x ∷ lexeme_of t.kind ∷ []) h.named ∙ ap (λ x. Named name ∷ x ∷ []) is;
  }

  name_next : (r : Parts) (name : Text) (m : Marks) (front : List Token) (t : Token) (k : Lexeme) →
      lexeme_of t.kind ≡ k →
      SinceName o r name m.name front →
      Next o m t.span.start (front ++ t ∷ []) (after_name r name k)
  name_next r name m front t k is h = by (is_sign signs.Assign k) refl
    where
      found : k ≡ Marked signs.Dot →
          (x : Option ℕ) →
          setup_named r.names name ≡ x →
          Next o m t.span.start (front ++ t ∷ []) (used r x)
      found d None e = tt
      found d (Some n) e =
          let s = named_there r.names name n e in (
            s.0,
            subst (λ x. SinceTokens o r (Named x ∷ Marked signs.Dot ∷ []) (front ++ t ∷ [])) (sym s.2)
                (behind_name r name m.name front t (Marked signs.Dot) (is ∙ d) h),
            s.1,
          )

      dotted : (b : Bool) →
          is_sign signs.Dot k ≡ b →
          Next o m t.span.start (front ++ t ∷ []) (if b then used r (setup_named r.names name) else None)
      dotted false e = tt
      dotted true e = found (sign_is signs.Dot k e) (setup_named r.names name) refl

      by : (b : Bool) →
          is_sign signs.Assign k ≡ b →
          Next o m t.span.start (front ++ t ∷ []) (if b then when (is_new_name r name)
          (at r (ThreadPrograms.AfterAssign name)) else (if is_sign signs.Dot k then
          used r (setup_named r.names name) else None))
      by true e = when_next o m t.span.start (front ++ t ∷ []) (is_new_name r name)
          (at r (ThreadPrograms.AfterAssign name))
          (λ new. (behind_name r name m.name front t (Marked signs.Assign) (is ∙ sign_is signs.Assign k e) h, new))
      by false e = dotted (is_sign signs.Dot k) refl

  -- if no block has ended, there is one at the end of this one
  pub one_thread : (r : Parts) →
      gives r ≡ true →
      length (r.threads ++ record { name = r.name; calls = r.calls } ∷ []) ≡ 1
  one_thread r e = one (record { name = r.name; calls = r.calls })
    where
      one : (x : ThreadProgram) → length (r.threads ++ x ∷ []) ≡ 1
      one x = omega (arith, length-append r.threads (x ∷ []), ltb-true (length r.threads) 1 e)

  -- a class or method after the beginning of its call
  called : (r : Parts) (ls : List Lexeme) (front : List Token) (t : Token) (name : Text) (p : Pending) →
      lexeme_of t.kind ≡ Named name →
      p.values ≡ [] →
      SinceTokens o r ls front →
      IsCallee o (program_at r) ls name p.types
      → SinceCallee o r t.span.start p [] (front ++ t ∷ [])
  called r ls front t name p is none h there = record {
    base = h.base;
    mid = h.js;
    callee = t;
    js = [];
    is = ap (λ l. l ++ t ∷ []) h.is;
    read = h.read;
    name = name;
    named = is;
    taken = refl;
    there = subst (λ l. IsCallee o (program_at r) l name p.types) (sym h.taken) there;
    place = refl;
    fit = subst (Front p.types) (sym none) tt;
  }

  new_next : (r : Parts) (name : Text) (m : Marks) (front : List Token) (t : Token) (k : Lexeme) → lexeme_of t.kind ≡ k
      → SinceTokens o r (Named name ∷ Marked signs.Assign ∷ Reserved words.New ∷ []) front × (is_new_name r name ≡ true)
      →
      Next o m t.span.start (front ++ t ∷ []) (after_new o r name (name_in k))
  new_next r name m front t k is h = by (name_in k) refl
    where
      free : (gives r ≡ true) × (not (is_some (setup_named r.names name)) ≡ true)
      free = both (gives r) (not (is_some (setup_named r.names name))) h.1

      found : (class : Text) →
          k ≡ Named class →
          (x : Option ℕ) →
          number_of o.names class ≡ x →
          Next o m t.span.start (front ++ t ∷ []) (with_call r ThreadPrograms.AtArguments (maker o name class x))
      found class e None n = tt
      found class e (Some c) n = (
        called r (Named name ∷ Marked signs.Assign ∷ Reserved words.New ∷ []) front t class
            (record { callee = Maker name c class; types = parameters_in (slice_get o.signs c); values = [] })
            (is ∙ e) refl h.0 (Class name class c (one_thread r free.0)
            (is_new r.names name (not_false (is_some (setup_named r.names name)) free.1)) n),
        refl,
      )

      by : (n : Option Text) → name_in k ≡ n → Next o m t.span.start (front ++ t ∷ []) (after_new o r name n)
      by None e = tt
      by (Some class) e = found class (name_is k class e) (number_of o.names class) refl

  dot_next : (r : Parts) (n : ℕ) (m : Marks) (front : List Token) (t : Token) (k : Lexeme) → lexeme_of t.kind ≡ k
      → (s : SetupName) × SinceTokens o r (Named s.name ∷ Marked signs.Dot ∷ []) front × (slice_get r.names n ≡ Some s)
      →
      Next o m t.span.start (front ++ t ∷ []) (after_dot o r n (name_in k))
  dot_next r n m front t k is h = by (name_in k) refl
    where
      s : SetupName
      s = h.0

      plain : (method : Text) →
          k ≡ Named method →
          (f : MethodSign) →
          method_named (methods_in (slice_get o.signs h.0.class)) method ≡ Some f →
          (b : Bool) →
          is_plain f.result ≡ b
          → Next o m t.span.start (front ++ t ∷ []) (with_call r ThreadPrograms.AtArguments
          (if b then Some (record { callee = Method n f.number method f.result; types = f.parameters; values = [] })
          else None))
      plain method e f there false p = tt
      plain method e f there true p = (
        called r (Named h.0.name ∷ Marked signs.Dot ∷ []) front t method
            (record { callee = Method n f.number method f.result; types = f.parameters; values = [] })
            (is ∙ e) refl h.1 (OnMethod n h.0 method f h.2 there (plain_result f.result p)),
        refl,
      )

      found : (method : Text) →
          k ≡ Named method →
          (x : Option MethodSign) →
          method_named (methods_in (slice_get o.signs h.0.class)) method ≡ x →
          Next o m t.span.start (front ++ t ∷ []) (with_call r ThreadPrograms.AtArguments (callable n method x))
      found method e None there = tt
      found method e (Some f) there = plain method e f there (is_plain f.result) refl

      by : (x : Option Text) → name_in k ≡ x → Next o m t.span.start (front ++ t ∷ []) (after_dot o r n x)
      by None e = tt
      by (Some method) e =
          subst (λ x. Next o m t.span.start (front ++ t ∷ []) (with_call r ThreadPrograms.AtArguments
          (called_on o n x method))) (sym h.2)
          (found method (name_is k method e) (method_named (methods_in (slice_get o.signs h.0.class)) method) refl)

  -- ---- all stages

  thread_name_next : (r : Parts) (m : Marks) (place : ℕ) (front : List Token) (n : Option Text) →
      Next o m place front (at_thread_name r n)
  thread_name_next r m place front None = tt
  thread_name_next r m place front (Some name) =
      when_next o m place front (not (bytes_eq name (codes "all")) && not (thread_named r.threads name))
      (at (named r name) ThreadPrograms.AtBlock) (λ e. tt)

  -- after one more token, if it isn't refused
  pub step_next : (r : Parts) (stage : Stage) (m : Marks) (front : List Token) (t : Token) (k : Lexeme) →
      lexeme_of t.kind ≡ k →
      IsFormed k →
      Reads o r stage front →
      Since o r stage m front
      → Next o m t.span.start (front ++ t ∷ []) (stepped o r stage k)
  step_next r ThreadPrograms.AtSetup m front t k is formed read h = when_next o m t.span.start (front ++ t ∷ [])
      (is_text (codes "setup") (name_in k)) (at r ThreadPrograms.AtBlock) (λ e. tt)
  step_next r ThreadPrograms.AtBlock m front t k is formed read h = when_next o m t.span.start (front ++ t ∷ [])
      (is_sign signs.OpenBrace k) (at r ThreadPrograms.AtCall) (λ e. tt)
  step_next r ThreadPrograms.AtCall m front t k is formed read h = call_next r m front t k is read
  step_next r (ThreadPrograms.AfterName name) m front t k is formed read h = name_next r name m front t k is h
  step_next r (ThreadPrograms.AfterAssign name) m front t k is formed read h = when_next o m t.span.start
      (front ++ t ∷ []) (is_word words.New k) (at r (ThreadPrograms.AfterNew name))
      (λ e. (
        with_token o r (Named name ∷ Marked signs.Assign ∷ []) front t (Reserved words.New)
            (is ∙ word_is words.New k e) h.0,
        h.1,
      ))
  step_next r (ThreadPrograms.AfterNew name) m front t k is formed read h = new_next r name m front t k is h
  step_next r (ThreadPrograms.AfterDot n) m front t k is formed read h = dot_next r n m front t k is h
  step_next r (ThreadPrograms.AtArguments p) m front t k is formed read h = when_next o m t.span.start (front ++ t ∷ [])
      (is_sign signs.OpenParen k) (at r (ThreadPrograms.AtFirst p))
      (λ e. (
        called_token o r m.callee p [] front t (Marked signs.OpenParen) (is ∙ sign_is signs.OpenParen k e) h.0,
        h.1,
        refl,
      ))
  step_next r (ThreadPrograms.AtFirst p) m front t k is formed read h = first_next o r m p front t k is h
  step_next r (ThreadPrograms.AtArgument p) m front t k is formed read h = argument_next o r m p front t k is h.0
  step_next r (ThreadPrograms.AfterMinus p) m front t k is formed read h = minus_next o r m p front t k is formed h
  step_next r (ThreadPrograms.AfterArgument p) m front t k is formed read h = others_next o r m p front t k is h
  step_next r (ThreadPrograms.AtSemicolon p) m front t k is formed read h =
      when_next o m t.span.start (front ++ t ∷ []) (is_sign signs.Semicolon k && nat_lt (length r.calls) 256)
      (at (with_finished r p) ThreadPrograms.AtCall) (λ e. tt)
  step_next r ThreadPrograms.AtThread m front t k is formed read h =
      when_next o m t.span.start (front ++ t ∷ []) (is_text (codes "thread") (name_in k) && nat_le (length r.threads)
      most_threads) (at r ThreadPrograms.AtThreadName)
      (λ e. record {
        base = front;
        token = t;
        is = refl;
        read = read;
        named = is ∙
            word_named o r (codes "thread") k (both (is_text (codes "thread") (name_in k))
            (nat_le (length r.threads) most_threads) e).0;
      })
  step_next r ThreadPrograms.AtThreadName m front t k is formed read h = thread_name_next r m t.span.start
      (front ++ t ∷ []) (name_in k)
