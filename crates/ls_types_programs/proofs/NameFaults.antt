-- If the reading stops at a name, a class or a method, the fault that is answered is at its place.
use Rattle.std.proofs.Common.{◌≡◌, ℕ, zero, suc, ◌<◌, ◌≤◌, refl, sym, ◌∙◌, subst, ap, Bool, true, false, not, ◌&&◌}
use Rattle.std.proofs.Common.{List, [], ◌∷◌, ◌++◌, length, length-append, Option, Some, None, nat_lt, arith}
use Rattle.std.proofs.Common.{if◌then◌else◌}
use Rattle.std.specs.Prelude.{slice_get, is_some}
use Rattle.ls_lexer.specs.declared.sign.Sign.TheVariants as signs
use Rattle.ls_lexer.specs.declared.word.Word.TheVariants as words
use Rattle.ls_lexer.specs.declared.token.Token.{Token}
use Rattle.ls_lexer.specs.Lexemes.{Lexeme, Named, Reserved, Marked, lexeme_of, lexemes}
use Rattle.ls_lexer.specs.Places.{InOrder}
use Rattle.ls_lexer.specs.Tokens.{tokens_of}
use Rattle.ls_checked.specs.CheckedProgram.{SetupName, ThreadProgram}
use Rattle.ls_types_elaboration.specs.Trees.{Text}
use Rattle.ls_types_elaboration.specs.Known.{MethodSign, number_of, method_named, methods_in}
use Rattle.ls_types_elaboration.specs.Elaboration.{ElaboratedFile}
use Rattle.ls_types_programs.specs.ProgramCalls.{setup_named, maker, method_on, called_on, is_plain, callable, Method}
use Rattle.ls_types_programs.specs.ThreadPrograms
use Rattle.ls_types_programs.specs.ThreadPrograms.{Parts, at, when, with_call, used, after_new, after_dot, after_name}
use Rattle.ls_types_programs.specs.ThreadPrograms.{name_in, is_new_name, is_sign}
use Rattle.ls_types_programs.specs.Stops.{Marks, Form, NameTaken, NoName as WhyName, Fault, fault_for, why_name}
use Rattle.ls_types_programs.specs.Stops.{why_new, why_dot, why_method}
use Rattle.ls_types_programs.specs.Programs.{IsNewName}
use Rattle.ls_types_programs.specs.Faults as faults
use Rattle.ls_types_programs.specs.Faults.{IsBefore, IsBad, IsUnknown, IsReference}
use Rattle.ls_types_programs.specs.Refusals.{ShowsAt, IsBadAt, Within}
use Rattle.ls_types_programs.proofs.Pieces.{no_truth, some_none, both, not_false, sign_is, name_is, named_there, is_new}
use Rattle.ls_types_programs.proofs.Fronts.{when_none}
use Rattle.ls_types_programs.proofs.Rest.{gives}
use Rattle.ls_types_programs.proofs.Read.{result_plain}
use Rattle.ls_types_programs.proofs.Since.{program_at, Reads, SinceName, SinceTokens}
use Rattle.ls_types_programs.proofs.SinceSteps.{one_thread}
use Rattle.ls_types_programs.proofs.ShownFaults.{shows, whole_is, before_of, Shown, form, here, tokens_in}

module _ (o : ElaboratedFile) where
  module _ (text : Text) (front : List Token) (t : Token) (ts : List Token)
      (lexed : tokens_of text ≡ Some (lexemes (front ++ t ∷ ts)))
      (spans : InOrder text 0 (front ++ t ∷ ts) (length text)) where
    at_name : (Fault : List Lexeme → List Lexeme → Type 0) (r : Parts) (name : Text) (mark : ℕ) (j : Lexeme)
        (h : SinceName o r name mark front) →
        lexeme_of t.kind ≡ j
        → Fault (lexemes h.base) (Named name ∷ j ∷ []) → ShowsAt Fault text mark
    at_name Fault r name mark j h is fault =
        shows o text front t ts lexed spans Fault h.base h.token (t ∷ ts) mark (lexemes h.base) (Named name ∷ j ∷ [])
        (lexemes ts)
        (whole_is o text front t ts lexed spans h.base (h.token ∷ []) h.is) refl
        (ap (λ x. x ∷ lexeme_of t.kind ∷ lexemes ts) h.named ∙ ap (λ x. Named name ∷ x ∷ lexemes ts) is) h.place fault

    many_threads : (r : Parts) →
        gives r ≡ false →
        1 < length (r.threads ++ record { name = r.name; calls = r.calls } ∷ [])
    many_threads r e = many (record { name = r.name; calls = r.calls }) (by (length r.threads) e)
      where
        by : (n : ℕ) → nat_lt n 1 ≡ false → 1 ≤ n
        by zero e = absurd (no_truth (sym e))
        by (suc n) e = omega arith

        many : (x : ThreadProgram) → 1 ≤ length r.threads → 1 < length (r.threads ++ x ∷ [])
        many x h = omega (arith, h, length-append r.threads (x ∷ []))

    name_taken : (r : Parts) (name : Text) (mark : ℕ) (h : SinceName o r name mark front) →
        lexeme_of t.kind ≡ Marked signs.Assign →
        is_new_name r name ≡ false →
        IsBadAt o text mark
    name_taken r name mark h is taken = Within (at_name (IsBad o) r name mark (Marked signs.Assign) h is
        (by (gives r) refl taken))
      where
        b : IsBefore o (program_at r) (lexemes h.base)
        b = before_of o text front t ts lexed spans r h.base (h.token ∷ []) h.is h.read

        twice : (x : Option ℕ) →
            setup_named r.names name ≡ x →
            not (is_some x) ≡ false →
            IsBad o (lexemes h.base) (Named name ∷ Marked signs.Assign ∷ [])
        twice None e n = absurd (no_truth (sym n))
        twice (Some i) e n =
            let s = named_there r.names name i e in
            subst (λ x. IsBad o (lexemes h.base) (Named x ∷ Marked signs.Assign ∷ [])) s.2
            (faults.NameTwice (program_at r) i s.0 b s.1)

        by : (c : Bool) →
            gives r ≡ c →
            (c && not (is_some (setup_named r.names name))) ≡ false →
            IsBad o (lexemes h.base) (Named name ∷ Marked signs.Assign ∷ [])
        by false e n = faults.MadeInThread (program_at r) name b (many_threads r e)
        by true e n = twice (setup_named r.names name) refl n

    none_new : (r : Parts) (name : Text) → setup_named r.names name ≡ None → IsNewName r.names name
    none_new r name e = is_new r.names name (ap is_some e)

    pub name_fails : (r : Parts) (name : Text) (m : Marks) →
        Reads o r (ThreadPrograms.AfterName name) front →
        SinceName o r name m.name front →
        after_name r name (lexeme_of t.kind) ≡ None
        → Shown o text (fault_for m t.span.start (why_name (lexeme_of t.kind)))
    name_fails r name m read h none = by (is_sign signs.Assign (lexeme_of t.kind)) refl none
      where
        unknown : (x : Option ℕ) →
            setup_named r.names name ≡ x →
            used r x ≡ None →
            lexeme_of t.kind ≡ Marked signs.Dot →
            ShowsAt (IsUnknown o) text m.name
        unknown (Some n) e none d = absurd (some_none _ (sym none))
        unknown None e none d = at_name (IsUnknown o) r name m.name (Marked signs.Dot) h d
            (faults.NoName (program_at r) name (before_of o text front t ts lexed spans r h.base (h.token ∷ []) h.is
            h.read) (none_new r name e))

        dotted : (a : Bool) →
            is_sign signs.Assign (lexeme_of t.kind) ≡ a →
            a ≡ false →
            (b : Bool) →
            is_sign signs.Dot (lexeme_of t.kind) ≡ b →
            (if b then used r (setup_named r.names name) else None) ≡ None
            → Shown o text (fault_for m t.span.start (if b then WhyName else Form))
        dotted a f other true e none = unknown (setup_named r.names name) refl none
            (sign_is signs.Dot (lexeme_of t.kind) e)
        dotted a f other false e none = form o text front t ts lexed spans (at r (ThreadPrograms.AfterName name)) read
            (ap (λ x. if x then when (is_new_name r name) (at r (ThreadPrograms.AfterAssign name)) else
            (if is_sign signs.Dot (lexeme_of t.kind) then used r (setup_named r.names name) else None)) (f ∙ other)
            ∙ ap (λ x. if x then used r (setup_named r.names name) else None) e)
            (ap (λ x. if x then NameTaken else (if is_sign signs.Dot (lexeme_of t.kind) then WhyName else Form))
            (f ∙ other) ∙ ap (λ x. if x then WhyName else Form) e)

        by : (b : Bool) →
            is_sign signs.Assign (lexeme_of t.kind) ≡ b →
            (if b then when (is_new_name r name) (at r (ThreadPrograms.AfterAssign name)) else
            (if is_sign signs.Dot (lexeme_of t.kind) then used r (setup_named r.names name) else None)) ≡ None
            → Shown o text (fault_for m t.span.start (if b then NameTaken else
            (if is_sign signs.Dot (lexeme_of t.kind) then WhyName else Form)))
        by true e none = name_taken r name m.name h (sign_is signs.Assign (lexeme_of t.kind) e)
            (when_none (is_new_name r name) (at r (ThreadPrograms.AfterAssign name)) none)
        by false e none = dotted false e refl (is_sign signs.Dot (lexeme_of t.kind)) refl none

    -- ---- classes and methods

    pub new_fails : (r : Parts) (name : Text) (m : Marks) → Reads o r (ThreadPrograms.AfterNew name) front
        → SinceTokens o r (Named name ∷ Marked signs.Assign ∷ Reserved words.New ∷ []) front ×
        (is_new_name r name ≡ true) → after_new o r name (name_in (lexeme_of t.kind)) ≡ None
        → Shown o text (fault_for m t.span.start (why_new (name_in (lexeme_of t.kind))))
    new_fails r name m read h none = by (name_in (lexeme_of t.kind)) refl none
      where
        free : (gives r ≡ true) × (not (is_some (setup_named r.names name)) ≡ true)
        free = both (gives r) (not (is_some (setup_named r.names name))) h.1

        found : (class : Text) →
            lexeme_of t.kind ≡ Named class →
            (x : Option ℕ) →
            number_of o.names class ≡ x →
            with_call r ThreadPrograms.AtArguments (maker o name class x) ≡ None →
            ShowsAt (IsUnknown o) text t.span.start
        found class e (Some c) n none = absurd (some_none _ (sym none))
        found class e None n none =
            here o text front t ts lexed spans (IsUnknown o) (lexemes h.0.base ++ Named name ∷ Marked signs.Assign ∷
            Reserved words.New ∷ [])
            (Named class) (tokens_in o text front t ts lexed spans r (Named name ∷ Marked signs.Assign ∷ Reserved
            words.New ∷ []) h.0) e
            (faults.NoClass (program_at r) name class (before_of o text front t ts lexed spans r h.0.base h.0.js h.0.is
            h.0.read)
            (one_thread o r free.0) (is_new r.names name (not_false (is_some (setup_named r.names name)) free.1)) n)

        by : (n : Option Text) →
            name_in (lexeme_of t.kind) ≡ n →
            after_new o r name n ≡ None →
            Shown o text (fault_for m t.span.start (why_new n))
        by None e none = form o text front t ts lexed spans (at r (ThreadPrograms.AfterNew name)) read
            (ap (after_new o r name) e) (ap why_new e)
        by (Some class) e none = found class (name_is (lexeme_of t.kind) class e) (number_of o.names class) refl none

    pub dot_fails : (r : Parts) (n : ℕ) (m : Marks) → Reads o r (ThreadPrograms.AfterDot n) front
        → (s : SetupName) × SinceTokens o r (Named s.name ∷ Marked signs.Dot ∷ []) front ×
        (slice_get r.names n ≡ Some s) → after_dot o r n (name_in (lexeme_of t.kind)) ≡ None
        → Shown o text (fault_for m t.span.start (why_dot o r n (name_in (lexeme_of t.kind))))
    dot_fails r n m read h none = by (name_in (lexeme_of t.kind)) refl none
      where
        b : IsBefore o (program_at r) (lexemes h.1.base)
        b = before_of o text front t ts lexed spans r h.1.base h.1.js h.1.is h.1.read

        behind : (Fault : List Lexeme → List Lexeme → Type 0) (method : Text) →
            lexeme_of t.kind ≡ Named method →
            Fault (lexemes h.1.base ++ Named h.0.name ∷ Marked signs.Dot ∷ []) (Named method ∷ []) →
            ShowsAt Fault text t.span.start
        behind Fault method e fault = here o text front t ts lexed spans Fault
            (lexemes h.1.base ++ Named h.0.name ∷ Marked signs.Dot ∷ [])
            (Named method) (tokens_in o text front t ts lexed spans r (Named h.0.name ∷ Marked signs.Dot ∷ []) h.1) e
            fault

        plain : (method : Text) →
            lexeme_of t.kind ≡ Named method →
            (f : MethodSign) →
            method_named (methods_in (slice_get o.signs h.0.class)) method ≡ Some f →
            (c : Bool) →
            is_plain f.result ≡ c
            → with_call r ThreadPrograms.AtArguments (if c then
            Some (record { callee = Method n f.number method f.result; types = f.parameters; values = [] }) else
            None) ≡ None → ShowsAt (IsReference o) text t.span.start
        plain method e f there true p none = absurd (some_none _ (sym none))
        plain method e f there false p none = behind (IsReference o) method e
            (faults.Answers (program_at r) n h.0 method f b h.2 there
            (λ q. no_truth (sym p ∙ result_plain o f.result q)))

        found : (method : Text) →
            lexeme_of t.kind ≡ Named method →
            (x : Option MethodSign) →
            method_named (methods_in (slice_get o.signs h.0.class)) method ≡ x →
            with_call r ThreadPrograms.AtArguments (callable n method x) ≡ None
            → Shown o text (fault_for m t.span.start (why_method x))
        found method e None there none = behind (IsUnknown o) method e
            (faults.NoMethod (program_at r) n h.0 method b h.2 there)
        found method e (Some f) there none = plain method e f there (is_plain f.result) refl none

        by : (x : Option Text) →
            name_in (lexeme_of t.kind) ≡ x →
            after_dot o r n x ≡ None →
            Shown o text (fault_for m t.span.start (why_dot o r n x))
        by None e none = form o text front t ts lexed spans (at r (ThreadPrograms.AfterDot n)) read
            (ap (after_dot o r n) e) (ap (why_dot o r n) e)
        by (Some method) e none =
            subst (λ x. Shown o text (fault_for m t.span.start (why_method (method_on o x method)))) (sym h.2)
            (found method (name_is (lexeme_of t.kind) method e)
            (method_named (methods_in (slice_get o.signs h.0.class)) method) refl
            (subst (λ x. with_call r ThreadPrograms.AtArguments (called_on o n x method) ≡ None) h.2 none))
