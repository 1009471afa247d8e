-- If the reading stops in the arguments of a call, the fault that is answered is at its place.
use Rattle.std.proofs.Common.{◌≡◌, ℕ, refl, sym, ◌∙◌, subst, ap, Bool, true, false, List, [], ◌∷◌, ◌++◌, append_assoc}
use Rattle.std.proofs.Common.{length, Option, Some, None, nat_lt, ltb-true, if◌then◌else◌, pos}
use Rattle.std.specs.Prelude.{slice_get}
use Rattle.ls_lexer.specs.declared.sign.Sign.TheVariants as signs
use Rattle.ls_lexer.specs.declared.word.Word.TheVariants as words
use Rattle.ls_lexer.specs.declared.token.Token.{Token}
use Rattle.ls_lexer.specs.Lexemes.{Lexeme, Named, Numeral, Reserved, Marked, lexeme_of, lexemes}
use Rattle.ls_lexer.specs.Formed.{IsFormed}
use Rattle.ls_lexer.specs.Places.{InOrder}
use Rattle.ls_lexer.specs.Tokens.{tokens_of}
use Rattle.ls_events.specs.declared.value.Value.{Value}
use Rattle.ls_events.specs.declared.value.Value.TheVariants as values
use Rattle.ls_events.specs.declared.value.ValueType.{ValueType}
use Rattle.ls_types_elaboration.specs.Trees.{Text}
use Rattle.ls_types_elaboration.specs.TypedExpressions.{digits_value}
use Rattle.ls_types_elaboration.specs.Elaboration.{ElaboratedFile}
use Rattle.ls_types_programs.specs.ProgramCalls.{Pending, fits, with_argument, is_full, minus_number}
use Rattle.ls_types_programs.specs.ThreadPrograms
use Rattle.ls_types_programs.specs.ThreadPrograms.{Parts, at, when, with_call, numbered, argument, arguments_end}
use Rattle.ls_types_programs.specs.ThreadPrograms.{at_first, after_argument, after_minus, number_in, is_sign, is_word}
use Rattle.ls_types_programs.specs.Stops.{Marks, Form, TooFew as WhyFew, Fault, fault_for, why_value, why_argument}
use Rattle.ls_types_programs.specs.Stops.{why_number, why_first, why_minus, why_after, argument_at, unfit_at}
use Rattle.ls_types_programs.specs.Spelled as spelled
use Rattle.ls_types_programs.specs.Spelled.{Argument, Arguments}
use Rattle.ls_types_programs.specs.Faults as faults
use Rattle.ls_types_programs.specs.Faults.{IsBefore, IsUnknown, IsCallee}
use Rattle.ls_types_programs.specs.Refusals.{ShowsAt, IsBadAt}
use Rattle.ls_types_programs.proofs.Pieces.{no_truth, some_none, sign_is, word_is, number_is, append_nil}
use Rattle.ls_types_programs.proofs.Fronts.{front_short, front_over, wanted, when_none}
use Rattle.ls_types_programs.proofs.Rest.{with_values}
use Rattle.ls_types_programs.proofs.Read.{type_fits}
use Rattle.ls_types_programs.proofs.Since.{program_at, lexemes_append, Reads, SinceCallee, SinceOpen, SinceMinus}
use Rattle.ls_types_programs.proofs.Since.{Argues, Others_follow}
use Rattle.ls_types_programs.proofs.SinceArguments.{Spells_argument, number_spells, minus_spells, none_yet, first_ends}
use Rattle.ls_types_programs.proofs.SinceArguments.{others_end}
use Rattle.ls_types_programs.proofs.ShownFaults.{before, formed_of, shows, Shown, form, whole_is}

module _ (o : ElaboratedFile) where
  module _ (text : Text) (front : List Token) (t : Token) (ts : List Token)
      (lexed : tokens_of text ≡ Some (lexemes (front ++ t ∷ ts)))
      (spans : InOrder text 0 (front ++ t ∷ ts) (length text)) where
    -- ---- arguments

    pub callee_in : (r : Parts) (mark : ℕ) (p : Pending) (ls : List Lexeme) (ahead : List Token)
        (h : SinceCallee o r mark p ls ahead) →
        lexemes ahead ≡ (lexemes h.base ++ lexemes h.mid) ++ Named h.name ∷ ls
    callee_in r mark p ls ahead h =
        ap lexemes h.is ∙ lexemes_append (h.base ++ h.mid) (h.callee ∷ h.js)
        ∙ ap (λ l. l ++ lexeme_of h.callee.kind ∷ lexemes h.js) (lexemes_append h.base h.mid)
        ∙ ap (λ x. (lexemes h.base ++ lexemes h.mid) ++ x ∷ lexemes h.js) h.named
        ∙ ap (λ l. (lexemes h.base ++ lexemes h.mid) ++ Named h.name ∷ l) h.taken

    pub before_callee : (r : Parts) (mark : ℕ) (p : Pending) (ls : List Lexeme) (ahead back : List Token) →
        front ++ t ∷ ts ≡ ahead ++ back →
        (h : SinceCallee o r mark p ls ahead) →
        IsBefore o (program_at r) (lexemes h.base)
    before_callee r mark p ls ahead back e h =
        before o r (lexemes h.base) (formed_of o text front t ts lexed spans h.base (h.mid ++ (h.callee ∷ h.js ++ back))
        (e ∙ ap (λ l. l ++ back) h.is ∙ append_assoc (h.base ++ h.mid) (h.callee ∷ h.js) back ∙
        append_assoc h.base h.mid (h.callee ∷ h.js ++ back))) h.read

    -- a fault at the class or method of a call
    at_callee : (Fault : List Lexeme → List Lexeme → Type 0) (r : Parts) (mark : ℕ) (p : Pending)
        (ls ks rest : List Lexeme) (ahead back : List Token) →
        front ++ t ∷ ts ≡ ahead ++ back →
        lexemes back ≡ ks ++ rest
        → (h : SinceCallee o r mark p ls ahead) → Fault (lexemes h.base ++ lexemes h.mid) (Named h.name ∷ ls ++ ks) →
        ShowsAt Fault text mark
    at_callee Fault r mark p ls ks rest ahead back e is h fault =
        shows o text front t ts lexed spans Fault (h.base ++ h.mid) h.callee (h.js ++ back) mark
        (lexemes h.base ++ lexemes h.mid)
        (Named h.name ∷ ls ++ ks) rest
        (e ∙ ap (λ l. l ++ back) h.is ∙ append_assoc (h.base ++ h.mid) (h.callee ∷ h.js) back)
        (lexemes_append h.base h.mid)
        (ap (λ x. x ∷ lexemes (h.js ++ back)) h.named
        ∙ ap (λ l. Named h.name ∷ l) (lexemes_append h.js back ∙ ap (λ l. l ++ lexemes back) h.taken ∙
        ap (λ l. ls ++ l) is ∙ sym (append_assoc ls ks rest)))
        h.place fault

    unfit : (r : Parts) (mark : ℕ) (p : Pending) (v : Value) (ks rest : List Lexeme) (ahead : List Token) (a : Token)
        (back : List Token) →
        front ++ t ∷ ts ≡ ahead ++ a ∷ back →
        lexemes (a ∷ back) ≡ ks ++ rest
        → SinceOpen o (Argues o) r mark p ahead → Spells_argument o v ks →
        fits (slice_get p.types (length p.values)) v ≡ false
        → ShowsAt (IsUnknown o) text (unfit_at (slice_get p.types (length p.values)) mark a.span.start)
    unfit r mark p v ks rest ahead a back e is h spells no_fit = by (slice_get p.types (length p.values)) refl
      where
        c : SinceCallee o r mark p (Marked signs.OpenParen ∷ h.ls) ahead
        c = h.callee

        b : IsBefore o (program_at r) (lexemes h.callee.base)
        b = before_callee r mark p (Marked signs.OpenParen ∷ h.ls) ahead (a ∷ back) e h.callee

        arguments : faults.AreBeforeParen (p.values ++ v ∷ []) (h.ls ++ ks)
        arguments =
            subst (λ l. Arguments (p.values ++ v ∷ []) l []) (sym (append_assoc h.ls ks (Marked signs.CloseParen ∷ [])))
            (h.kind v [] (ks ++ Marked signs.CloseParen ∷ []) (Marked signs.CloseParen ∷ []) []
            (spells (Marked signs.CloseParen ∷ [])) spelled.NoOther)

        typed : (y : ValueType) → slice_get p.types (length p.values) ≡ Some y → ShowsAt (IsUnknown o) text a.span.start
        typed y w =
            let want = wanted p.types p.values y h.callee.fit w in
            shows o text front t ts lexed spans (IsUnknown o) ahead a back a.span.start
            ((lexemes h.callee.base ++ lexemes h.callee.mid) ++
            Named h.callee.name ∷ Marked signs.OpenParen ∷ h.ls) ks rest e
            (callee_in r mark p (Marked signs.OpenParen ∷ h.ls) ahead h.callee) is refl
            (faults.WrongType h.ls ks (program_at r) h.callee.name want.before want.rest y p.values v b
            (subst (IsCallee o (program_at r) (lexemes h.callee.mid) h.callee.name) want.is h.callee.there)
            arguments
            (subst (λ l. Argument v l []) (append_nil ks) (spells [])) want.for
            (λ same. no_truth (sym (subst (λ x. fits x v ≡ false) w no_fit) ∙ type_fits y v same)))

        by : (w : Option ValueType) →
            slice_get p.types (length p.values) ≡ w →
            ShowsAt (IsUnknown o) text (unfit_at w mark a.span.start)
        by None w = at_callee (IsUnknown o) r mark p (Marked signs.OpenParen ∷ h.ls) ks rest ahead (a ∷ back) e is
            h.callee
            (faults.TooMany (program_at r) h.callee.name p.types (p.values ++ v ∷ []) b h.callee.there arguments
            (front_over p.types p.values v w))
        by (Some y) w = typed y w

    value_none : (r : Parts) (p : Pending) (v : Value) →
        with_call r ThreadPrograms.AfterArgument (with_argument p v) ≡ None →
        fits (slice_get p.types (length p.values)) v ≡ false
    value_none r p v none = by (fits (slice_get p.types (length p.values)) v) none
      where
        by : (b : Bool) →
            with_call r ThreadPrograms.AfterArgument (if b then Some (with_values p (p.values ++ v ∷ [])) else None) ≡
            None →
            b ≡ false
        by false e = refl
        by true e = absurd (some_none _ (sym e))

    pub argument_fails : (r : Parts) (p : Pending) (m : Marks) → SinceOpen o (Argues o) r m.callee p front → m.minus ≡
        None
        → (why_argument p (lexeme_of t.kind) (number_in (lexeme_of t.kind)) ≡ Form → IsBadAt o text t.span.start) →
        argument r p (lexeme_of t.kind) (number_in (lexeme_of t.kind)) ≡ None
        → Shown o text (fault_for m t.span.start (why_argument p (lexeme_of t.kind) (number_in (lexeme_of t.kind))))
    argument_fails r p m h no_minus bad none = by (number_in (lexeme_of t.kind)) refl none
      where
        valued : (v : Value) (j : Lexeme) →
            lexeme_of t.kind ≡ j →
            Spells_argument o v (j ∷ []) →
            with_call r ThreadPrograms.AfterArgument (with_argument p v) ≡ None
            → ShowsAt (IsUnknown o) text (unfit_at (slice_get p.types (length p.values)) m.callee
            (argument_at m.minus t.span.start))
        valued v j is spells none =
            subst (λ x. ShowsAt (IsUnknown o) text (unfit_at (slice_get p.types (length p.values)) m.callee
            (argument_at x t.span.start))) (sym no_minus)
            (unfit r m.callee p v (j ∷ []) (lexemes ts) front t ts refl (ap (λ x. x ∷ lexemes ts) is) h spells
            (value_none r p v none))

        number : (text_of : Text) →
            lexeme_of t.kind ≡ Numeral text_of →
            number_in (lexeme_of t.kind) ≡ Some text_of →
            (b : Bool) →
            nat_lt (digits_value 0 text_of) 2147483648 ≡ b
            → numbered r p (if b then Some (values.Int (pos (digits_value 0 text_of))) else None) ≡ None →
            Shown o text
            (fault_for m t.span.start (why_number p (if b then Some (values.Int (pos (digits_value 0 text_of))) else
            None)))
        number digits is e true small none = valued (values.Int (pos (digits_value 0 digits))) (Numeral digits) is
            (number_spells o digits (ltb-true (digits_value 0 digits) 2147483648 small)) none
        number digits is e false small none = bad (ap (why_argument p (lexeme_of t.kind)) e ∙
            ap (λ b. why_number p (if b then Some (values.Int (pos (digits_value 0 digits))) else None)) small)

        word : number_in (lexeme_of t.kind) ≡ None →
            (b c : Bool) →
            is_word words.True (lexeme_of t.kind) ≡ b →
            is_word words.False (lexeme_of t.kind) ≡ c
            → (if b then with_call r ThreadPrograms.AfterArgument (with_argument p (values.Boolean true)) else
            (if c then with_call r ThreadPrograms.AfterArgument (with_argument p (values.Boolean false)) else
            when (is_sign signs.Minus (lexeme_of t.kind)) (at r (ThreadPrograms.AfterMinus p)))) ≡ None
            → Shown o text (fault_for m t.span.start (if b then why_value p else (if c then why_value p else Form)))
        word e true c is other none = valued (values.Boolean true) (Reserved words.True)
            (word_is words.True (lexeme_of t.kind) is) (λ rest. spelled.True) none
        word e false true other is none = valued (values.Boolean false) (Reserved words.False)
            (word_is words.False (lexeme_of t.kind) is) (λ rest. spelled.False) none
        word e false false is other none =
            bad (ap (why_argument p (lexeme_of t.kind)) e ∙ ap
            (λ b. if b then why_value p else (if is_word words.False (lexeme_of t.kind) then why_value p else Form))
            is ∙ ap (λ c. if c then why_value p else Form) other)

        by : (n : Option Text) →
            number_in (lexeme_of t.kind) ≡ n →
            argument r p (lexeme_of t.kind) n ≡ None →
            Shown o text (fault_for m t.span.start (why_argument p (lexeme_of t.kind) n))
        by None e none = word e (is_word words.True (lexeme_of t.kind)) (is_word words.False (lexeme_of t.kind)) refl
            refl none
        by (Some digits) e none = number digits (number_is (lexeme_of t.kind) digits e) e
            (nat_lt (digits_value 0 digits) 2147483648) refl none

    few : (r : Parts) (p : Pending) (m : Marks) (ls : List Lexeme) →
        SinceCallee o r m.callee p (Marked signs.OpenParen ∷ ls) front →
        Arguments p.values (ls ++ Marked signs.CloseParen ∷ []) [] →
        lexeme_of t.kind ≡ Marked signs.CloseParen
        → arguments_end r p ≡ None → ShowsAt (IsUnknown o) text m.callee
    few r p m ls h a is none =
        at_callee (IsUnknown o) r m.callee p (Marked signs.OpenParen ∷ ls) (Marked signs.CloseParen ∷ []) (lexemes ts)
        front (t ∷ ts) refl (ap (λ x. x ∷ lexemes ts) is) h
        (faults.TooFew (program_at r) h.name p.types p.values
        (before_callee r m.callee p (Marked signs.OpenParen ∷ ls) front (t ∷ ts) refl h) h.there a
        (front_short p.types p.values h.fit (when_none (is_full p) (at r (ThreadPrograms.AtSemicolon p)) none)))

    pub first_fails : (r : Parts) (p : Pending) (m : Marks) →
        Reads o r (ThreadPrograms.AtFirst p) front →
        SinceCallee o r m.callee p (Marked signs.OpenParen ∷ []) front × (p.values ≡ []) × (m.minus ≡ None)
        → at_first r p (lexeme_of t.kind) ≡ None → Shown o text
        (fault_for m t.span.start (why_first p (lexeme_of t.kind)))
    first_fails r p m read h none = by (is_sign signs.CloseParen (lexeme_of t.kind)) refl none
      where
        by : (b : Bool) →
            is_sign signs.CloseParen (lexeme_of t.kind) ≡ b →
            (if b then arguments_end r p else argument r p (lexeme_of t.kind) (number_in (lexeme_of t.kind))) ≡ None
            → Shown o text (fault_for m t.span.start (if b then WhyFew else
            why_argument p (lexeme_of t.kind) (number_in (lexeme_of t.kind))))
        by true e none = few r p m [] h.0 (first_ends o p h.1) (sign_is signs.CloseParen (lexeme_of t.kind) e) none
        by false e none = argument_fails r p m (none_yet o r m.callee p front h.0 h.1) h.2
            (λ is. form o text front t ts lexed spans (at r (ThreadPrograms.AtFirst p)) read
            (ap (λ b. if b then arguments_end r p else argument r p (lexeme_of t.kind)
            (number_in (lexeme_of t.kind))) e ∙ none) (ap
            (λ b. if b then WhyFew else why_argument p (lexeme_of t.kind) (number_in (lexeme_of t.kind))) e ∙ is))
            none

    pub others_fails : (r : Parts) (p : Pending) (m : Marks) →
        Reads o r (ThreadPrograms.AfterArgument p) front →
        SinceOpen o (Others_follow o) r m.callee p front
        → after_argument r p (lexeme_of t.kind) ≡ None → Shown o text
        (fault_for m t.span.start (why_after (lexeme_of t.kind)))
    others_fails r p m read h none = by (is_sign signs.CloseParen (lexeme_of t.kind)) refl none
      where
        by : (b : Bool) →
            is_sign signs.CloseParen (lexeme_of t.kind) ≡ b →
            (if b then arguments_end r p else when (is_sign signs.Comma (lexeme_of t.kind))
            (at r (ThreadPrograms.AtArgument p))) ≡ None
            → Shown o text (fault_for m t.span.start (if b then WhyFew else Form))
        by true e none = few r p m h.ls h.callee (others_end o p h.ls h.kind)
            (sign_is signs.CloseParen (lexeme_of t.kind) e) none
        by false e none = form o text front t ts lexed spans (at r (ThreadPrograms.AfterArgument p)) read
            (ap (λ b. if b then arguments_end r p else when (is_sign signs.Comma (lexeme_of t.kind))
            (at r (ThreadPrograms.AtArgument p))) e ∙ none)
            (ap (λ b. if b then WhyFew else Form) e)

    pub minus_fails : (r : Parts) (p : Pending) (m : Marks) →
        Reads o r (ThreadPrograms.AfterMinus p) front →
        IsFormed (lexeme_of t.kind) →
        SinceMinus o r m.callee m.minus p front
        → after_minus r p (number_in (lexeme_of t.kind)) ≡ None →
        Shown o text (fault_for m t.span.start (why_minus p (number_in (lexeme_of t.kind))))
    minus_fails r p m read formed h none = by (number_in (lexeme_of t.kind)) refl none
      where
        by : (n : Option Text) →
            number_in (lexeme_of t.kind) ≡ n →
            after_minus r p n ≡ None →
            Shown o text (fault_for m t.span.start (why_minus p n))
        by None e none = form o text front t ts lexed spans (at r (ThreadPrograms.AfterMinus p)) read
            (ap (after_minus r p) e) (ap (why_minus p) e)
        by (Some digits) e none =
            let number : lexeme_of t.kind ≡ Numeral digits = number_is (lexeme_of t.kind) digits e in
            subst (λ x. ShowsAt (IsUnknown o) text (unfit_at (slice_get p.types (length p.values)) m.callee
            (argument_at x t.span.start))) (sym h.place)
            (unfit r m.callee p (minus_number digits) (Marked signs.Minus ∷ Numeral digits ∷ []) (lexemes ts) h.before
            h.token (t ∷ ts) (whole_is o text front t ts lexed spans h.before (h.token ∷ []) h.is)
            (ap (λ x. x ∷ lexeme_of t.kind ∷ lexemes ts) h.signed ∙
            ap (λ x. Marked signs.Minus ∷ x ∷ lexemes ts) number) h.opened
            (minus_spells o digits (subst IsFormed number formed)) (value_none r p (minus_number digits) none))
