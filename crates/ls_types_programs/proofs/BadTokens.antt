-- Behind a token that is bad where it stands no program goes on.
use Rattle.std.proofs.Common.{◌≡◌, subst, append_assoc, ℕ, zero, suc, refl, sym, ◌∙◌, ap, Bool, true, false, not, ◌&&◌}
use Rattle.std.proofs.Common.{◌||◌, List, [], ◌∷◌, ◌++◌, length, Option, Some, None, nat_lt, nat_le, if◌then◌else◌}
use Rattle.std.proofs.Common.{bytes_eq, codes}
use Rattle.std.specs.Prelude.{slice_get, is_some}
use Rattle.ls_lexer.specs.declared.sign.Sign.TheVariants as signs
use Rattle.ls_lexer.specs.declared.word.Word.TheVariants as words
use Rattle.ls_lexer.specs.Lexemes.{Lexeme, Named, Reserved, Marked}
use Rattle.ls_events.specs.declared.value.Value.{Value}
use Rattle.ls_events.specs.declared.value.ValueType.{ValueType}
use Rattle.ls_checked.specs.CheckedProgram.{SetupName, ProgramCall, ThreadProgram, Program}
use Rattle.ls_types_elaboration.specs.Trees.{Text}
use Rattle.ls_types_elaboration.specs.Elaboration.{ElaboratedFile}
use Rattle.ls_types_programs.specs.ProgramCalls.{setup_named, maker, callable, called_on, Method, Maker, Callee}
use Rattle.ls_types_programs.specs.ProgramCalls.{Pending, is_full, with_argument, fits}
use Rattle.ls_types_programs.specs.ThreadPrograms
use Rattle.ls_types_programs.specs.ThreadPrograms.{Stage, Parts, Reading, at, when, with_call, is_new_name, used}
use Rattle.ls_types_programs.specs.ThreadPrograms.{stepped, after, ended, whole, beginning, thread_named, named}
use Rattle.ls_types_programs.specs.Spelled as spelled
use Rattle.ls_types_programs.specs.Spelled.{Argument, Others, Arguments}
use Rattle.ls_types_programs.specs.Programs as programs
use Rattle.ls_types_programs.specs.Programs.{AreFor, IsProgramOf, AreCallsOf}
use Rattle.ls_types_programs.specs.Faults.{IsBefore, AreWhole, IsBad, Form, MadeInThread, NameTwice, NamedAll}
use Rattle.ls_types_programs.specs.Faults.{ThreadTwice, IsCallee, Class, Method as OnMethod, GoesNowhere}
use Rattle.std.proofs.Common.{◌<◌, ◌≤◌, arith, length-append, ltb-true}
use Rattle.ls_checked.specs.Limits.{most_threads}
use Rattle.ls_types_programs.proofs.Since.{program_at}
use Rattle.ls_types_programs.proofs.Pieces.{no_truth, some_none, same_some, bytes_same, append_nil, Front, front_push}
use Rattle.ls_types_programs.proofs.Pieces.{is_full_so}
use Rattle.ls_types_programs.proofs.Rest.{with_values, gives}
use Rattle.ls_types_programs.proofs.Read.{From, result_plain, taken, argument_steps, first_same, AreFound, found_push}
use Rattle.ls_types_programs.proofs.Whole.{ended_is, tokens_read}

module _ (o : ElaboratedFile) where
  after_more : (x : Option Reading) (ks js : List Lexeme) → after o x (ks ++ js) ≡ after o (after o x ks) js
  after_more None ks js = refl
  after_more (Some r) [] js = refl
  after_more (Some r) (k ∷ ks) js = after_more (stepped o r.parts r.stage k) ks js

  stops : (ks : List Lexeme) → after o (Some beginning) ks ≡ None → GoesNowhere o ks
  stops ks e p more h is =
      some_none p (sym (ap whole (after_more (Some beginning) ks more ∙ ap (λ x. after o x more) e)) ∙
      tokens_read o p (ks ++ more) h is)

  -- the reading at a statement, or at a thread, after a program
  pub record AtStatement (p : Program) (ks : List Lexeme) : Type 0 where
    pub r : Parts
    pub read : after o (Some beginning) ks ≡ Some (at r ThreadPrograms.AtCall)
    pub names : r.names ≡ p.names
    pub threads : r.threads ++ record { name = r.name; calls = r.calls } ∷ [] ≡ p.threads

  pub record AtTheThread (p : Program) (ks : List Lexeme) : Type 0 where
    pub r : Parts
    pub read : after o (Some beginning) ks ≡ Some (at r ThreadPrograms.AtThread)
    pub threads : r.threads ≡ p.threads

  at_brace : (p : Program) (ks : List Lexeme) (r : Parts) (s : Stage) →
      after o (Some beginning) ks ≡ Some (at r s) →
      whole (after o (Some (at r s)) (Marked signs.CloseBrace ∷ [])) ≡ Some p →
      AtStatement p ks
  at_brace p ks r ThreadPrograms.AtCall e h = record {
    r = r;
    read = e;
    names = ap (λ (q : Program). q.names) (same_some (program_at r) p h);
    threads = ap (λ (q : Program). q.threads) (same_some (program_at r) p h);
  }
  at_brace p ks r ThreadPrograms.AtSetup e h = absurd (some_none p h)
  at_brace p ks r ThreadPrograms.AtBlock e h = absurd (some_none p h)
  at_brace p ks r (ThreadPrograms.AfterName name) e h = absurd (some_none p h)
  at_brace p ks r (ThreadPrograms.AfterAssign name) e h = absurd (some_none p h)
  at_brace p ks r (ThreadPrograms.AfterNew name) e h = absurd (some_none p h)
  at_brace p ks r (ThreadPrograms.AfterDot n) e h = absurd (some_none p h)
  at_brace p ks r (ThreadPrograms.AtArguments q) e h = absurd (some_none p h)
  at_brace p ks r (ThreadPrograms.AtFirst q) e h = absurd (some_none p h)
  at_brace p ks r (ThreadPrograms.AtArgument q) e h = absurd (some_none p h)
  at_brace p ks r (ThreadPrograms.AfterMinus q) e h = absurd (some_none p h)
  at_brace p ks r (ThreadPrograms.AfterArgument q) e h = absurd (some_none p h)
  at_brace p ks r (ThreadPrograms.AtSemicolon q) e h = absurd (some_none p h)
  at_brace p ks r ThreadPrograms.AtThread e h = absurd (some_none p h)
  at_brace p ks r ThreadPrograms.AtThreadName e h = absurd (some_none p h)

  pub statement : (p : Program) (ks : List Lexeme) → IsBefore o p ks → AtStatement p ks
  statement p ks b = by (after o (Some beginning) ks) refl (sym
      (ap whole (after_more (Some beginning) ks (Marked signs.CloseBrace ∷ []))) ∙
      tokens_read o p (ks ++ Marked signs.CloseBrace ∷ []) b.spelled b.program)
    where
      by : (x : Option Reading) →
          after o (Some beginning) ks ≡ x →
          whole (after o x (Marked signs.CloseBrace ∷ [])) ≡ Some p →
          AtStatement p ks
      by None e h = absurd (some_none p h)
      by (Some q) e h = at_brace p ks q.parts q.stage e h

  pub the_thread : (p : Program) (ks : List Lexeme) → AreWhole o p ks → AtTheThread p ks
  the_thread p ks b = by (after o (Some beginning) ks) refl (tokens_read o p ks b.spelled b.program)
    where
      by_end : (q : Reading) →
          after o (Some beginning) ks ≡ Some q →
          (b : Bool) →
          ended q.stage ≡ b →
          (if b then Some (record { names = q.parts.names; threads = q.parts.threads }) else None) ≡ Some p →
          AtTheThread p ks
      by_end q e false over h = absurd (some_none p h)
      by_end q e true over h = record {
        r = q.parts;
        read = e ∙ ap (λ s. Some (at q.parts s)) (ended_is q.stage over);
        threads = ap (λ (q : Program). q.threads) (same_some
            (record { names = q.parts.names; threads = q.parts.threads }) p h);
      }

      by : (x : Option Reading) → after o (Some beginning) ks ≡ x → whole x ≡ Some p → AtTheThread p ks
      by None e h = absurd (some_none p h)
      by (Some q) e h = by_end q e (ended q.stage) refl h

  -- what is read after a statement's beginning
  pub behind : (p : Program) (ks js : List Lexeme) (a : AtStatement p ks) →
      after o (Some (at a.r ThreadPrograms.AtCall)) js ≡ None →
      GoesNowhere o (ks ++ js)
  behind p ks js a e = stops (ks ++ js) (after_more (Some beginning) ks js ∙ ap (λ x. after o x js) a.read ∙ e)

  pub behind_thread : (p : Program) (ks js : List Lexeme) (a : AtTheThread p ks) →
      after o (Some (at a.r ThreadPrograms.AtThread)) js ≡ None →
      GoesNowhere o (ks ++ js)
  behind_thread p ks js a e = stops (ks ++ js) (after_more (Some beginning) ks js ∙ ap (λ x. after o x js) a.read ∙ e)

  calls_found : {b : Bool} {names all : List SetupName} {cs : List ProgramCall} →
      AreCallsOf o b names cs all →
      AreFound o names →
      AreFound o all
  calls_found programs.End found = found
  calls_found (programs.Makes {names = names} s class_name vs setup new there fit more) found = calls_found more
      (found_push o names s new found)
  calls_found (programs.Calls n s name m vs stands there plain fit more) found = calls_found more found

  pub found : (p : Program) → IsProgramOf o p → AreFound o p.names
  found p h = calls_found h.gives (λ n s e. absurd (some_none s e))

  no_both : (b : Bool) → (b && false) ≡ false
  no_both true = refl
  no_both false = refl

  pub none_some : {A : Type 0} (x : Option A) → is_some x ≡ false → x ≡ None
  none_some None e = refl
  none_some (Some a) e = absurd (no_truth (sym e))

  is_thread_named : (ts : List ThreadProgram) (n : ℕ) (t : ThreadProgram) →
      slice_get ts n ≡ Some t →
      thread_named ts t.name ≡ true
  is_thread_named [] n t e = absurd (some_none t e)
  is_thread_named (u ∷ ts) zero t e = ap (λ b. b || thread_named ts t.name)
      (bytes_same u.name t.name (ap (λ (v : ThreadProgram). v.name) (same_some u t e)))
  is_thread_named (u ∷ ts) (suc n) t e = ap (λ b. bytes_eq u.name t.name || b) (is_thread_named ts n t e) ∙
      yes_either (bytes_eq u.name t.name)
    where
      yes_either : (b : Bool) → (b || true) ≡ true
      yes_either true = refl
      yes_either false = refl

  -- a thread's name that can't come
  no_thread_name : (r : Parts) (name : Text) →
      (not (bytes_eq name (codes "all")) && not (thread_named r.threads name)) ≡ false
      → after o (Some (at r ThreadPrograms.AtThread)) (Named (codes "thread") ∷ Named name ∷ []) ≡ None
  no_thread_name r name e = by (nat_le (length r.threads) most_threads)
    where
      by : (b : Bool) → after o (when b (at r ThreadPrograms.AtThreadName)) (Named name ∷ []) ≡ None
      by false = refl
      by true = ap (λ b. after o (when b (at (named r name) ThreadPrograms.AtBlock)) []) e

  -- arguments of another number or type
  not_full : (p : Pending) → Front p.types p.values → (AreFor p.types p.values → ⊥) → is_full p ≡ false
  not_full p front h = by (is_full p) refl
    where
      by : (b : Bool) → is_full p ≡ b → b ≡ false
      by false e = refl
      by true e = absurd (h (is_full_so p.types p.values front e))

  no_end : (r : Parts) (p : Pending) (rest : List Lexeme) →
      Front p.types p.values →
      (AreFor p.types p.values → ⊥) →
      after o (when (is_full p) (at r (ThreadPrograms.AtSemicolon p))) rest ≡ None
  no_end r p rest front h = ap (λ b. after o (when b (at r (ThreadPrograms.AtSemicolon p))) rest) (not_full p front h)

  pub one_refused : {v : Value} {ks rest : List Lexeme} →
      Argument v ks rest →
      (r : Parts) (p : Pending) →
      Front p.types p.values
      → (Front p.types (p.values ++ v ∷ []) → From o r (ThreadPrograms.AfterArgument
      (with_values p (p.values ++ v ∷ []))) rest ≡ None)
      → From o r (ThreadPrograms.AtArgument p) ks ≡ None
  one_refused {v = v} {rest = rest} a r p front h = argument_steps o a r p ∙
      by (fits (slice_get p.types (length p.values)) v) refl
    where
      by : (b : Bool) →
          fits (slice_get p.types (length p.values)) v ≡ b →
          after o (with_call r ThreadPrograms.AfterArgument (with_argument p v)) rest ≡ None
      by true e = taken o r p v rest e ∙ h (front_push p.types p.values v front e)
      by false e = ap
          (λ b. after o (with_call r ThreadPrograms.AfterArgument
          (if b then Some (with_values p (p.values ++ v ∷ [])) else None)) rest) e

  others_refused : {vs : List Value} {ks rest : List Lexeme} →
      Others vs ks rest →
      (r : Parts) (p : Pending) →
      Front p.types p.values →
      (AreFor p.types (p.values ++ vs) → ⊥)
      → From o r (ThreadPrograms.AfterArgument p) ks ≡ None
  others_refused (spelled.NoOther {rest = rest}) r p front h = no_end r p rest front
      (λ k. h (subst (AreFor p.types) (sym (append_nil p.values)) k))
  others_refused (spelled.Other {v = v} {vs = vs} a more) r p front h =
      one_refused a r p front (λ next. others_refused more r (with_values p (p.values ++ v ∷ [])) next
      (λ k. h (subst (AreFor p.types) (append_assoc p.values (v ∷ []) vs) k)))

  pub arguments_refused : {vs : List Value} {ks rest : List Lexeme} →
      Arguments vs ks rest →
      (r : Parts) (callee : Callee) (ts : List ValueType) →
      (AreFor ts vs → ⊥)
      → From o r (ThreadPrograms.AtFirst (record { callee = callee; types = ts; values = [] })) ks ≡ None
  arguments_refused (spelled.NoArgument {rest = rest}) r callee ts h = no_end r
      (record { callee = callee; types = ts; values = [] }) rest tt h
  arguments_refused (spelled.First {v = v} {vs = vs} a more) r callee ts h =
      let p : Pending = record { callee = callee; types = ts; values = [] } in
      first_same o a r p ∙ one_refused a r p tt (λ next. others_refused more r (with_values p (v ∷ [])) next h)

  -- the tokens of a fault in one list
  pub joined : (ks front js : List Lexeme) → GoesNowhere o (ks ++ (front ++ js)) → GoesNowhere o ((ks ++ front) ++ js)
  joined ks front js h = subst (GoesNowhere o) (sym (append_assoc ks front js)) h

  gives_not : (r : Parts) (p : Program) →
      r.threads ++ record { name = r.name; calls = r.calls } ∷ [] ≡ p.threads →
      1 < length p.threads →
      gives r ≡ false
  gives_not r p e many = by (gives r) refl (one (record { name = r.name; calls = r.calls })
      (subst (λ (ts : List ThreadProgram). 1 < length ts) (sym e) many))
    where
      one : (x : ThreadProgram) → 1 < length (r.threads ++ x ∷ []) → 1 ≤ length r.threads
      one x h = omega (arith, h, length-append r.threads (x ∷ []))

      by : (b : Bool) → gives r ≡ b → 1 ≤ length r.threads → b ≡ false
      by false e h = refl
      by true e h = absurd (omega (arith, h, ltb-true (length r.threads) 1 e))

  pub bad : (ks js : List Lexeme) → IsBad o ks js → GoesNowhere o (ks ++ js)
  bad ks _ (Form k begins h) = λ p more s is. h (p, more, s)
  bad ks _ (MadeInThread p name b many) =
      let a = statement p ks b in
      behind p ks (Named name ∷ Marked signs.Assign ∷ []) a
      (ap (λ x. after o (when (x && not (is_some (setup_named a.r.names name)))
      (at a.r (ThreadPrograms.AfterAssign name))) []) (gives_not a.r p a.threads many))
  bad ks _ (NameTwice p n s b stands) =
      let a = statement p ks b in
      let there : setup_named a.r.names s.name ≡ Some n = ap (λ names. setup_named names s.name) a.names ∙
      found p b.program n s stands in
      behind p ks (Named s.name ∷ Marked signs.Assign ∷ []) a
      (ap (λ x. after o (when (nat_lt (length a.r.threads) 1 && not (is_some x))
      (at a.r (ThreadPrograms.AfterAssign s.name))) []) there
      ∙ ap (λ x. after o (when x (at a.r (ThreadPrograms.AfterAssign s.name))) [])
      (no_both (nat_lt (length a.r.threads) 1)))
  bad _ _ (NamedAll {ks = ks} p b) =
      let a = the_thread p ks b in
      joined ks (Named (codes "thread") ∷ []) (Named (codes "all") ∷ [])
      (behind_thread p ks (Named (codes "thread") ∷ Named (codes "all") ∷ []) a
      (no_thread_name a.r (codes "all") refl))
  bad _ _ (ThreadTwice {ks = ks} p n t b stands) =
      let a = the_thread p ks b in
      let there : thread_named a.r.threads t.name ≡ true = ap (λ ts. thread_named ts t.name) a.threads ∙
      is_thread_named p.threads n t stands in
      joined ks (Named (codes "thread") ∷ []) (Named t.name ∷ [])
      (behind_thread p ks (Named (codes "thread") ∷ Named t.name ∷ []) a
      (no_thread_name a.r t.name (ap (λ b. not (bytes_eq t.name (codes "all")) && not b) there ∙
      no_both (not (bytes_eq t.name (codes "all"))))))

  -- after the beginning of a call nothing goes on if no arguments do
  pub callee_refused_at : (p : Program) (ks front js : List Lexeme) (callee : Text) (types : List ValueType)
      (b : IsBefore o p ks) →
      IsCallee o p front callee types
      → ((r : Parts) → r.names ≡ p.names → r.threads ++ record { name = r.name; calls = r.calls } ∷ [] ≡ p.threads →
      (c : Callee) → From o r (ThreadPrograms.AtFirst (record { callee = c; types = types; values = [] })) js ≡
      None)
      → GoesNowhere o ((ks ++ front) ++ Named callee ∷ Marked signs.OpenParen ∷ js)
  callee_refused_at p ks _ js callee _ b (Class name class c one new is) h =
      let a = statement p ks b in
      joined ks (Named name ∷ Marked signs.Assign ∷ Reserved words.New ∷ []) (Named class ∷ Marked signs.OpenParen ∷ js)
      (behind p ks (Named name ∷ Marked signs.Assign ∷ Reserved words.New ∷ Named class ∷ Marked signs.OpenParen ∷ js) a
      (by a.r a.names a.threads (is_new_name a.r name)))
    where
      by : (r : Parts) →
          r.names ≡ p.names →
          r.threads ++ record { name = r.name; calls = r.calls } ∷ [] ≡ p.threads →
          (b : Bool) →
          after o (when b (at r (ThreadPrograms.AfterAssign name)))
          (Reserved words.New ∷ Named class ∷ Marked signs.OpenParen ∷ js) ≡ None
      by r names threads false = refl
      by r names threads true = ap (λ x. after o (with_call r ThreadPrograms.AtArguments (maker o name class x))
          (Marked signs.OpenParen ∷ js)) is ∙ h r names threads (Maker name c class)
  callee_refused_at p ks _ js callee _ b (OnMethod n s method m stands is plain) h =
      let a = statement p ks b in
      joined ks (Named s.name ∷ Marked signs.Dot ∷ []) (Named method ∷ Marked signs.OpenParen ∷ js)
      (behind p ks (Named s.name ∷ Marked signs.Dot ∷ Named method ∷ Marked signs.OpenParen ∷ js) a
      (ap (λ x. after o (used a.r x) (Named method ∷ Marked signs.OpenParen ∷ js))
      (ap (λ ns. setup_named ns s.name) a.names ∙ found p b.program n s stands)
      ∙ ap (λ x. after o (with_call a.r ThreadPrograms.AtArguments (called_on o n x method))
      (Marked signs.OpenParen ∷ js)) (ap (λ ns. slice_get ns n) a.names ∙ stands)
      ∙ ap (λ x. after o (with_call a.r ThreadPrograms.AtArguments (callable n method x)) (Marked signs.OpenParen ∷ js))
      is
      ∙ ap (λ b. after o (with_call a.r ThreadPrograms.AtArguments
      (if b then Some (record { callee = Method n m.number method m.result; types = m.parameters; values = [] })
      else None)) (Marked signs.OpenParen ∷ js)) (result_plain o m.result plain)
      ∙ h a.r a.names a.threads (Method n m.number method m.result)))

  pub callee_refused : (p : Program) (ks front js : List Lexeme) (callee : Text) (types : List ValueType)
      (b : IsBefore o p ks) →
      IsCallee o p front callee types
      → ((r : Parts) (c : Callee) → From o r (ThreadPrograms.AtFirst
      (record { callee = c; types = types; values = [] })) js ≡ None)
      → GoesNowhere o ((ks ++ front) ++ Named callee ∷ Marked signs.OpenParen ∷ js)
  callee_refused p ks front js callee types b there h = callee_refused_at p ks front js callee types b there
      (λ r names threads c. h r c)
