-- One call of a thread of the linked code.
use Rattle.std.proofs.Common.{◌≡◌, ◌≢◌, ℕ, zero, suc, ◌+◌, ◌-◌, ◌≤◌, true, false, List, [], ◌∷◌, length, Option, Some}
use Rattle.std.proofs.Common.{None, slice_get, nat_eq, if◌then◌else◌, refl, sym, ap, ◌∙◌, arith}
use Rattle.std.proofs.lemmas.Bool.Decides.{nat_tests}
use Rattle.std.proofs.lemmas.List.{length-map}
use Rattle.ls_events.specs.declared.kind.Kind.TheVariants as kinds
use Rattle.ls_events.specs.declared.value.Value.{Value}
use Rattle.ls_events.specs.declared.value.Value.TheVariants as values
use Rattle.ls_events.specs.declared.value.ValueType.{ValueType}
use Rattle.ls_events.specs.declared.value.ValueType.TheVariants as types
use Rattle.ls_events.specs.declared.action.Action.TheVariants as act
use Rattle.ls_events.specs.declared.action.Answer.TheVariants.{Done, Gives, Fails}
use Rattle.ls_checked.specs.CheckedProgram.{ProgramCall, Making, Calling}
use Rattle.ls_meaning.specs.declared.sort.Sort.TheVariants.{NewOf}
use Rattle.ls_meaning.specs.Values.{reference_of}
use Rattle.ls_meaning.specs.Course.{Answers, Evaluated, Asks, Results, Throws, ask, tell, with_value, unless_null}
use Rattle.ls_meaning.specs.Expressions.{constructor_of}
use Rattle.ls_meaning.specs.Methods.{invoke, depth_limit}
use Rattle.ls_meaning.specs.Threads.{Next, result_by, result_in, result_of, named, event, after_call, all_calls}
use Rattle.ls_code.specs.Steps.{answered}
use Rattle.ls_code.specs.Fed.{Fed}
use Rattle.ls_code.specs.Fed as fed
use Rattle.ls_code.specs.declared.instruction.Resume.TheVariants as then
use Rattle.ls_code.specs.declared.instruction.Instruction.TheVariants as op
use Rattle.ls_code.specs.declared.code.CallResult.TheVariants as result
use Rattle.ls_refs.specs.ValueWords.{value_word, IsSmall}
use Rattle.ls_refs.specs.Laws.{answer_words}
use Rattle.ls_preservation.specs.InWords.{word_of, map_option}
use Rattle.ls_preservation.specs.Sorts.{Suited}
use Rattle.ls_preservation.specs.Threads.{told, result_type}
use Rattle.ls_linker.specs.Threads.{pushes, result_code, call_code}
use Rattle.ls_soundness.specs.InCall.{then_next}
use Rattle.ls_types_judgement.specs.Programs.{IsPlainResult, IsTypedMaking, IsTypedCalling}
use Rattle.ls_emit.proofs.Places.{HasAt, has_front, has_after}
use Rattle.ls_linker.proofs.SameWords.{value_is}
use Rattle.ls_linker.proofs.InKind.{suited_same}
use Rattle.ls_linker.proofs.Running.{Setting, here, feeds, goes_on, returned, begins, pushes_run, reads, makes}
use Rattle.ls_linker.proofs.Running.{doubles, drops, names, ends_plain, ends}
use Rattle.ls_linker.proofs.Entered.{Files, trapped, entering, enters_on, throws_null}

not_null : (n : ℕ) → n ≢ 0 → nat_eq n 0 ≡ false
not_null n h = grind (arith, nat_tests)

some : (n : ℕ) → suc n ≢ 0
some n e = absurd (omega arith)

pushed_long : (vs : List Value) → length (pushes vs) ≡ length vs
pushed_long vs = length-map vs (λ v. op.Push (word_of v))

-- the word that a call returns
plain_word : (answers : Option ValueType) (v : Value) (s : Setting) →
    IsPlainResult answers →
    returned s (result_type answers) (value_word v) ≡ map_option word_of (result_by answers v)
plain_word None v s h = refl
plain_word (Some types.Int) v s h = ap Some (value_is v)
plain_word (Some types.Boolean) v s h = ap Some (value_is v)
plain_word (Some t) v s h = absurd h

module _ (s : Setting) (f : Files s) (e p : ℕ) (cs : List ProgramCall) where
  -- what the calls after it do
  abbrev rest_next : Answers → Next
  rest_next = all_calls f.file f.program (e + 1 + 1) cs

  -- the calls after a call ask what the source asks
  abbrev pub Onward : ℕ → Type 0
  Onward after = (q : Answers) → Suited IsSmall rest_next q →
      feeds s s.bound (here s after [] (e + 1) false) (answer_words q) ≡ told (rest_next q)

  module _ (name m : ℕ) (text : List ℕ) (answers : Option ValueType) (vs : List Value) where
    abbrev read_next : Answers → Next
    read_next q =
        after_call (e + 1) (with_value (ask (act.ReadName name) (named f.program name) q) (λ o rest.
        unless_null (reference_of o) rest (
        with_value (invoke f.file depth_limit m (o ∷ vs) rest) (λ v rest. Results (result_of f.file m v) rest))))
        rest_next

    abbrev give_next : Value → Answers → Next
    give_next v rest = event (act.Return (e + 1) (result_of f.file m v)) rest rest_next

    after_is : (x : Evaluated Value) →
        after_call (e + 1) (with_value x (λ v rest. Results (result_of f.file m v) rest)) rest_next ≡ then_next x
        give_next (trapped (e + 1))
    after_is (Asks action sort) = refl
    after_is (Results v rest) = refl
    after_is (Throws kind rest) = refl

    read_is : (o : ℕ) →
        o ≢ 0 →
        (q : Answers) →
        read_next (Gives (values.Reference o) ∷ q) ≡ then_next (invoke f.file 64 m (values.Reference o ∷ vs) q)
        give_next (trapped (e + 1))
    unfolding depth_limit
    read_is o h q =
        ap (λ b. after_call (e + 1) (if b then Throws kinds.NullPointer q else
        with_value (invoke f.file 64 m (values.Reference o ∷ vs) q) (λ v rest. Results (result_of f.file m v) rest))
        rest_next) (not_null o h)
        ∙ after_is (invoke f.file 64 m (values.Reference o ∷ vs) q)

    -- the code of a method's call asks what the call asks
    pub calling_run : IsTypedCalling f.file f.program name m answers vs →
        HasAt s.code.instructions p (call_code f.file.classes (e + 1) (Calling name m text answers vs)) →
        s.from ≤ p →
        p + length vs + 3 ≤ s.trap →
        1 + length vs ≤ s.need →
        length vs + 3 ≤ s.bound →
        e + 1 ≤ length s.calls → slice_get s.calls e ≡ Some (result_type answers) →
        Onward (p + 1 + 1 + length vs + 1 + length (result_code (result_type answers) (e + 1))) →
        (n : ℕ) (q : Answers) → Suited IsSmall (all_calls f.file f.program (e + 1)
        (Calling name m text answers vs ∷ cs)) q → feeds s n (here s p [] e false) (answer_words q) ≡ told
        (all_calls f.file f.program (e + 1) (Calling name m text answers vs ∷ cs) q)
    calling_run is has low high room long within table next n q u = called n q u
      where
        at_enter : HasAt s.code.instructions (p + 1 + 1 + length vs)
            (op.Enter m ∷ result_code (result_type answers) (e + 1))
        at_enter = has_after s.code.instructions (p + 1 + 1) (length vs) (pushes vs)
            (op.Enter m ∷ result_code (result_type answers) (e + 1)) (pushed_long vs) has.1.1

        at_pushes : HasAt s.code.instructions (p + 1 + 1) (pushes vs)
        at_pushes = has_front s.code.instructions (p + 1 + 1) (pushes vs)
            (op.Enter m ∷ result_code (result_type answers) (e + 1)) has.1.1

        pushed_run : (o : ℕ) (q : Answers) →
            feeds s s.bound (here s (p + 1 + 1) (o ∷ []) e true) (answer_words q) ≡ feeds s (s.bound - length vs)
            (entering s f (p + 1 + 1 + length vs) o vs [] e) (answer_words q)
        pushed_run o q = pushes_run s vs (p + 1 + 1) s.bound (s.bound - length vs) (o ∷ []) e (answer_words q) at_pushes
            (omega arith) (omega arith)

        gives_word : (v : Value) →
            returned s (result_type answers) (value_word v) ≡ map_option word_of (result_of f.file m v)
        gives_word v =
            plain_word answers v s is.plain ∙ ap (λ r. map_option word_of (result_by r v)) (sym is.answers) ∙
            ap (λ x. map_option word_of (result_in x v)) (sym is.found)

        goes : (v : Value) (rest : Answers) → Suited IsSmall (give_next v) rest →
            goes_on s (answer_words rest) (act.Return (e + 1) (returned s (result_type answers) (value_word v)))
            (λ answer. Some (here s (p + 1 + 1 + length vs + 1 + length (result_code (result_type answers) (e + 1)))
            [] (e + 1) false)) ≡ told (give_next v rest)
        goes v [] kind = ap (λ w. fed.Asked (act.Return (e + 1) w)) (gives_word v)
        goes v (x ∷ rest) kind = next rest kind.1

        on_run : (o : ℕ) →
            o ≢ 0 →
            IsSmall o (types.Class is.called.class) →
            (q : Answers) →
            Suited IsSmall (λ more. read_next (Gives (values.Reference o) ∷ more)) q →
            feeds s s.bound (here s (p + 1 + 1) (o ∷ []) e true) (answer_words q) ≡ told
            (read_next (Gives (values.Reference o) ∷ q))
        on_run o h small q u =
            pushed_run o q
            ∙ enters_on s f (p + 1 + 1 + length vs) e (s.bound - length vs) o m is.called vs [] q give_next
            (λ word ws. goes_on s ws (act.Return (e + 1) (returned s (result_type answers) word))
            (λ answer. Some (here s (p + 1 + 1 + length vs + 1 + length (result_code (result_type answers) (e + 1)))
            [] (e + 1) false)))
            at_enter.0 is.found is.fit h small (omega arith) (omega arith) (omega arith) (omega arith)
            (suited_same IsSmall _ _ (read_is o h) q u)
            (λ k word ws le. ends s (result_type answers) (p + 1 + 1 + length vs + 1) e k word ws at_enter.1 table le)
            goes
            ∙ ap told (sym (read_is o h q))

        read : (q : Answers) →
            Suited IsSmall read_next q →
            feeds s s.bound (here s (p + 1) [] e true) (answer_words q) ≡ told (read_next q)
        read [] u = reads s (p + 1) e s.bound name [] has.1.0 (omega arith)
        read (Done ∷ q) u = let sorts = u.0 in cc
        read (Gives (values.Int z) ∷ q) u = absurd u.0
        read (Gives (values.Boolean b) ∷ q) u = absurd u.0
        read (Gives (values.Pair k b) ∷ q) u = absurd u.0
        read (Gives (values.Reference zero) ∷ q) u =
            reads s (p + 1) e s.bound name (answer_words (Gives (values.Reference 0) ∷ q)) has.1.0 (omega arith)
            ∙ pushed_run 0 q ∙ throws_null s f (p + 1 + 1 + length vs) e (s.bound - length vs) m is.called vs q
            at_enter.0 is.found is.fit (omega arith) (omega arith) (omega arith)
        read (Gives (values.Reference (suc o)) ∷ q) u =
            reads s (p + 1) e s.bound name (answer_words (Gives (values.Reference (suc o)) ∷ q)) has.1.0 (omega arith) ∙
            on_run (suc o) (some o) u.0 q u.1
        read (Fails kind ∷ q) u = absurd u.0

        called : (n : ℕ) (q : Answers) →
            Suited IsSmall (all_calls f.file f.program (e + 1) (Calling name m text answers vs ∷ cs)) q →
            feeds s n (here s p [] e false) (answer_words q) ≡ told
            (all_calls f.file f.program (e + 1) (Calling name m text answers vs ∷ cs) q)
        called n [] u = begins s p e n [] has.0 within
        called n (x ∷ q) u = begins s p e n (answer_words (x ∷ q)) has.0 within ∙ read q u.1

  module _ (name c : ℕ) (text : List ℕ) (vs : List Value) where
    abbrev constructor : ℕ
    constructor = constructor_of f.file.classes c

    abbrev make_next : Answers → Next
    make_next q =
        after_call (e + 1) (with_value (ask (act.New c) (NewOf (types.Class c)) q) (λ o rest.
        with_value (invoke f.file depth_limit constructor (o ∷ vs) rest) (λ _ rest.
        with_value (tell (act.WriteName name o) rest) (λ _ rest. Results None rest)))) rest_next

    abbrev write_next : Value → Value → Answers → Next
    write_next o v rest = after_call (e + 1) (with_value (tell (act.WriteName name o) rest)
        (λ _ rest. Results None rest)) rest_next

    wrote_is : (o : Value) (x : Evaluated Value) →
        after_call (e + 1)
        (with_value x (λ _ rest. with_value (tell (act.WriteName name o) rest) (λ _ rest. Results None rest)))
        rest_next ≡ then_next x (write_next o) (trapped (e + 1))
    wrote_is o (Asks action sort) = refl
    wrote_is o (Results v rest) = refl
    wrote_is o (Throws kind rest) = refl

    make_is : (o : Value) (q : Answers) →
        make_next (Gives o ∷ q) ≡ then_next (invoke f.file 64 constructor (o ∷ vs) q) (write_next o) (trapped (e + 1))
    unfolding depth_limit
    make_is o q = wrote_is o (invoke f.file 64 constructor (o ∷ vs) q)

    -- the code of a making asks what the making asks
    pub making_run : IsTypedMaking f.file f.program name c vs →
        HasAt s.code.instructions p (call_code f.file.classes (e + 1) (Making name c text vs)) →
        s.from ≤ p →
        p + length vs + 4 ≤ s.trap →
        2 + length vs ≤ s.need →
        length vs + 4 ≤ s.bound →
        e + 1 ≤ length s.calls → slice_get s.calls e ≡ Some result.Nothing →
        Onward (p + 1 + 1 + 1 + length vs + 1 + 1 + 1 + 1) →
        (n : ℕ) (q : Answers) → Suited IsSmall (all_calls f.file f.program (e + 1) (Making name c text vs ∷ cs)) q →
        feeds s n (here s p [] e false) (answer_words q) ≡ told
        (all_calls f.file f.program (e + 1) (Making name c text vs ∷ cs) q)
    making_run is has low high room long within table next n q u = made n q u
      where
        at_enter : HasAt s.code.instructions (p + 1 + 1 + 1 + length vs)
            (op.Enter constructor ∷ op.Pop ∷ op.PutName name ∷ op.Result (e + 1) ∷ [])
        at_enter = has_after s.code.instructions (p + 1 + 1 + 1) (length vs) (pushes vs)
            (op.Enter constructor ∷ op.Pop ∷ op.PutName name ∷ op.Result (e + 1) ∷ []) (pushed_long vs) has.1.1.1

        at_pushes : HasAt s.code.instructions (p + 1 + 1 + 1) (pushes vs)
        at_pushes = has_front s.code.instructions (p + 1 + 1 + 1) (pushes vs)
            (op.Enter constructor ∷ op.Pop ∷ op.PutName name ∷ op.Result (e + 1) ∷ []) has.1.1.1

        returns : (rest : Answers) →
            Suited IsSmall (λ more. event (act.Return (e + 1) None) more rest_next) rest →
            goes_on s (answer_words rest) (act.Return (e + 1) None)
            (λ answer. Some (here s (p + 1 + 1 + 1 + length vs + 1 + 1 + 1 + 1) [] (e + 1) false)) ≡ told
            (event (act.Return (e + 1) None) rest rest_next)
        returns [] kind = refl
        returns (x ∷ rest) kind = next rest kind.1

        goes : (o : ℕ) (v : Value) (rest : Answers) → Suited IsSmall (write_next (values.Reference o) v) rest →
            goes_on s (answer_words rest) (act.WriteName name o)
            (answered s.code (here s (p + 1 + 1 + 1 + length vs + 1 + 1) (o ∷ []) e true) (then.Discard 1)) ≡ told
            (write_next (values.Reference o) v rest)
        goes o v [] kind = refl
        goes o v (Done ∷ rest) kind = ends_plain s (p + 1 + 1 + 1 + length vs + 1 + 1 + 1) e s.bound (answer_words rest)
            at_enter.1.1.1.0 table ∙ returns rest kind.1
        goes o v (Gives w ∷ rest) kind = absurd kind.0
        goes o v (Fails k ∷ rest) kind = absurd kind.0

        on_run : (o : ℕ) →
            o ≢ 0 →
            IsSmall o (types.Class is.constructor.class) →
            (q : Answers) →
            Suited IsSmall (λ more. make_next (Gives (values.Reference o) ∷ more)) q →
            feeds s s.bound (here s (p + 1 + 1) (o ∷ []) e true) (answer_words q) ≡ told
            (make_next (Gives (values.Reference o) ∷ q))
        on_run o h small q u =
            doubles s (p + 1 + 1) e s.bound (s.bound - 1) o (answer_words q) has.1.1.0 (omega arith) (omega arith)
            ∙ pushes_run s vs (p + 1 + 1 + 1) (s.bound - 1) (s.bound - 1 - length vs) (o ∷ (o ∷ [])) e (answer_words q)
            at_pushes (omega arith) (omega arith)
            ∙ enters_on s f (p + 1 + 1 + 1 + length vs) e (s.bound - 1 - length vs) o constructor is.constructor vs
            (o ∷ []) q (write_next (values.Reference o))
            (λ word ws. goes_on s ws (act.WriteName name o) (answered s.code
            (here s (p + 1 + 1 + 1 + length vs + 1 + 1) (o ∷ []) e true) (then.Discard 1)))
            at_enter.0 is.found is.fit h small (omega arith) (omega arith) (omega arith) (omega arith)
            (suited_same IsSmall _ _ (make_is (values.Reference o)) q u)
            (λ k word ws le. drops s (p + 1 + 1 + 1 + length vs + 1) e k word (o ∷ []) ws at_enter.1.0 le ∙
            names s (p + 1 + 1 + 1 + length vs + 1 + 1) e (k - 1) name o ws at_enter.1.1.0)
            (goes o)
            ∙ ap told (sym (make_is (values.Reference o) q))

        make : (q : Answers) →
            Suited IsSmall make_next q →
            feeds s s.bound (here s (p + 1) [] e true) (answer_words q) ≡ told (make_next q)
        make [] u = makes s (p + 1) e s.bound c [] has.1.0 (omega arith)
        make (Done ∷ q) u = let sorts = u.0 in cc
        make (Gives (values.Int z) ∷ q) u = absurd u.0
        make (Gives (values.Boolean b) ∷ q) u = absurd u.0
        make (Gives (values.Pair k b) ∷ q) u = absurd u.0
        make (Gives (values.Reference o) ∷ q) u = makes s (p + 1) e s.bound c
            (answer_words (Gives (values.Reference o) ∷ q)) has.1.0 (omega arith) ∙ on_run o u.0.0 u.0.1 q u.1
        make (Fails kind ∷ q) u = absurd u.0

        made : (n : ℕ) (q : Answers) →
            Suited IsSmall (all_calls f.file f.program (e + 1) (Making name c text vs ∷ cs)) q →
            feeds s n (here s p [] e false) (answer_words q) ≡ told
            (all_calls f.file f.program (e + 1) (Making name c text vs ∷ cs) q)
        made n [] u = begins s p e n [] has.0 within
        made n (x ∷ q) u = begins s p e n (answer_words (x ∷ q)) has.0 within ∙ make q u.1
