-- What the reading takes spells a program: the rest of the tokens, stage by stage, from the end on.
use Rattle.std.proofs.Common.{◌≡◌, ℕ, suc, ◌≤◌, refl, sym, ◌∙◌, subst, ap, Bool, true, false, not, ◌&&◌, List, [], ◌∷◌}
use Rattle.std.proofs.Common.{◌++◌, append_assoc, length, length-append, Option, Some, None, nat_lt, nat_le, ltb-true}
use Rattle.std.proofs.Common.{leb-true, lit≤, arith, bytes_eq, codes}
use Rattle.std.specs.Prelude.{slice_get}
use Rattle.ls_checked.specs.Limits.{most_threads}
use Rattle.ls_lexer.specs.declared.sign.Sign.TheVariants as signs
use Rattle.ls_lexer.specs.declared.word.Word.TheVariants as words
use Rattle.ls_lexer.specs.Lexemes.{Lexeme, Named, Numeral, Reserved, Marked}
use Rattle.ls_lexer.specs.Formed.{IsFormed}
use Rattle.ls_checked.specs.CheckedProgram.{SetupName, ProgramCall, ThreadProgram}
use Rattle.ls_types_elaboration.specs.Trees.{Text}
use Rattle.ls_types_elaboration.specs.Elaboration.{ElaboratedFile}
use Rattle.ls_types_programs.specs.ProgramCalls.{Pending}
use Rattle.ls_types_programs.specs.ThreadPrograms
use Rattle.ls_types_programs.specs.ThreadPrograms.{Stage, Parts, Reading, at, is_sign, is_word, is_text, name_in, when}
use Rattle.ls_types_programs.specs.ThreadPrograms.{closed, at_call, with_finished, at_semicolon, at_thread}
use Rattle.ls_types_programs.specs.ThreadPrograms.{at_thread_name, named, stepped, after, thread_named}
use Rattle.ls_types_programs.specs.Spelled as spelled
use Rattle.ls_types_programs.specs.Spelled.{Threads}
use Rattle.ls_types_programs.specs.Programs as programs
use Rattle.ls_types_programs.specs.Programs.{AreCallsOf}
use Rattle.ls_types_programs.proofs.Pieces.{no_truth, some_none, same_some, both, not_false, sign_is, word_is, name_is}
use Rattle.ls_types_programs.proofs.Pieces.{same_bytes, other_bytes, append_nil, is_new_thread}
use Rattle.ls_types_programs.proofs.Rest.{Then, when_then, gives, RestCalls, RestSemicolon, RestAfter, Rest}
use Rattle.ls_types_programs.proofs.Rest.{RestThreads}
use Rattle.ls_types_programs.proofs.RestInArguments.{On, argument_back, minus_back, first_back, others_back}
use Rattle.ls_types_programs.proofs.RestInCalls.{paren_back, dot_back, new_back, name_back}

module _ (o : ElaboratedFile) (f : Parts) where
  -- ---- blocks

  -- the setup names of a thread stay as they are
  names_stay : (names all : List SetupName) (cs : List ProgramCall) → AreCallsOf o false names cs all → names ≡ all
  names_stay names all [] programs.End = refl
  names_stay names all (c ∷ cs) (programs.Makes s class_name vs setup new there fit more) = absurd (no_truth setup)
  names_stay names all (c ∷ cs) (programs.Calls n s name m vs stands there plain fit more) = names_stay names all cs
      more

  call_back : (r : Parts) (k : Lexeme) (ks : List Lexeme) →
      Then (On o f ks) (at_call r k (name_in k)) →
      RestCalls o f r (k ∷ ks)
  call_back r k ks h = by (name_in k) refl h
    where
      by : (t : Option Text) → name_in k ≡ t → Then (On o f ks) (at_call r k t) → RestCalls o f r (k ∷ ks)
      by (Some name) e h = subst (λ x. RestCalls o f r (x ∷ ks)) (sym (name_is k name e)) h
      by None e h =
          let g = when_then (On o f ks) (is_sign signs.CloseBrace k) (at (closed r) ThreadPrograms.AtThread) h in
          let t = g.1 (some r.threads (record { name = r.name; calls = r.calls })) in
          subst (λ x. RestCalls o f r (x ∷ ks)) (sym (sign_is signs.CloseBrace k g.0)) (record {
            cs = [];
            rest = ks;
            spelled = spelled.NoCall;
            are = subst (λ names. AreCallsOf o (gives r) r.names [] names) t.0 programs.End;
            all = r.calls;
            joined = sym (append_nil r.calls);
            few = λ few. few;
            after = t.1;
          })
        where
          some : (ts : List ThreadProgram) (t : ThreadProgram) → 1 ≤ length (ts ++ t ∷ [])
          some ts t = omega (arith, length-append ts (t ∷ []))

  semicolon_back : (r : Parts) (p : Pending) (k : Lexeme) (ks : List Lexeme) →
      Then (On o f ks) (at_semicolon r p k) →
      RestSemicolon o f r p (k ∷ ks)
  semicolon_back r p k ks h =
      let g = when_then (On o f ks) (is_sign signs.Semicolon k && nat_lt (length r.calls) 256)
      (at (with_finished r p) ThreadPrograms.AtCall) h in
      let e = both (is_sign signs.Semicolon k) (nat_lt (length r.calls) 256) g.0 in
      record {
        rest = ks;
        tokens = ap (λ x. x ∷ ks) (sign_is signs.Semicolon k e.0);
        room = ltb-true (length r.calls) 256 e.1;
        after = g.1;
      }

  brace_back : (r : Parts) (k : Lexeme) (ks : List Lexeme) →
      Then (On o f ks) (when (is_sign signs.OpenBrace k) (at r ThreadPrograms.AtCall)) →
      RestAfter (Marked signs.OpenBrace) (RestCalls o f r) (k ∷ ks)
  brace_back r k ks h =
      let g = when_then (On o f ks) (is_sign signs.OpenBrace k) (at r ThreadPrograms.AtCall) h in
      record { rest = ks; tokens = ap (λ x. x ∷ ks) (sign_is signs.OpenBrace k g.0); after = g.1 }

  -- a word that is no reserved one
  pub word_named : (text : Text) (k : Lexeme) → is_text text (name_in k) ≡ true → k ≡ Named text
  word_named text (Named t) e = ap (λ y. Named y) (same_bytes t text e)
  word_named text (Numeral t) e = absurd (no_truth e)
  word_named text (Reserved w) e = absurd (no_truth e)
  word_named text (Marked s) e = absurd (no_truth e)

  setup_back : (r : Parts) (k : Lexeme) (ks : List Lexeme) →
      Then (On o f ks) (when (is_text (codes "setup") (name_in k)) (at r ThreadPrograms.AtBlock)) →
      Rest o f r ThreadPrograms.AtSetup (k ∷ ks)
  setup_back r k ks h =
      let g = when_then (On o f ks) (is_text (codes "setup") (name_in k)) (at r ThreadPrograms.AtBlock) h in
      record { rest = ks; tokens = ap (λ x. x ∷ ks) (word_named (codes "setup") k g.0); after = g.1 }

  thread_back : (r : Parts) (k : Lexeme) (ks : List Lexeme) →
      Then (On o f ks) (at_thread r k) →
      Rest o f r ThreadPrograms.AtThread (k ∷ ks)
  thread_back r k ks h =
      let g = when_then (On o f ks) (is_text (codes "thread") (name_in k) && nat_le (length r.threads) most_threads)
      (at r ThreadPrograms.AtThreadName) h in
      let e = both (is_text (codes "thread") (name_in k)) (nat_le (length r.threads) most_threads) g.0 in
      subst (λ x. Rest o f r ThreadPrograms.AtThread (x ∷ ks)) (sym (word_named (codes "thread") k e.0))
      (g.1 (leb-true (length r.threads) most_threads e.1))

  -- one more thread in front
  with_thread : (r : Parts) (name : Text) (ks : List Lexeme) →
      length r.threads ≤ most_threads →
      1 ≤ length r.threads →
      (bytes_eq name (codes "all") ≡ false) →
      (thread_named r.threads name ≡ false)
      → (h : RestAfter (Marked signs.OpenBrace) (RestCalls o f (named r name)) ks) →
      (r.names ≡ f.names) × RestThreads o f r.threads (Named (codes "thread") ∷ Named name ∷ ks)
  with_thread r name ks room some no_all new a =
      let h : RestCalls o f (named r name) a.rest = a.after in
      let t : ThreadProgram = record { name = name; calls = h.all } in
      let calls : AreCallsOf o false r.names h.all f.names = subst (λ cs. AreCallsOf o false r.names cs f.names)
      (sym h.joined) (subst (λ b. AreCallsOf o b r.names h.cs f.names) (later some) h.are) in
      let same : r.names ≡ f.names = names_stay r.names f.names h.all calls in (
        same,
        record {
          ts = t ∷ h.after.ts;
          spelled = subst (λ ls. Threads f.names (t ∷ h.after.ts) (Named (codes "thread") ∷ Named name ∷ ls))
              (sym a.tokens)
              (spelled.Thread {t = t} (subst (λ cs. spelled.Calls false f.names cs a.rest h.rest) (sym h.joined)
              (subst (λ b. spelled.Calls b f.names h.cs a.rest h.rest) (later some) h.spelled)) h.after.spelled);
          parts = h.after.parts ∙ append_assoc r.threads (t ∷ []) h.after.ts;
          are = programs.Thread t (other_bytes name (codes "all") no_all) (is_new_thread r.threads name new)
              (h.few (lit≤ tt)) (subst (λ names. AreCallsOf o false names h.all f.names) same calls) h.after.are;
          few = λ few. h.after.few (more t);
        },
      )
    where
      later : 1 ≤ length r.threads → nat_lt (length r.threads) 1 ≡ false
      later some = by (nat_lt (length r.threads) 1) refl
        where
          by : (b : Bool) → nat_lt (length r.threads) 1 ≡ b → b ≡ false
          by false e = refl
          by true e = absurd (omega (arith, some, ltb-true (length r.threads) 1 e))

      more : (t : ThreadProgram) → length (r.threads ++ t ∷ []) ≤ suc most_threads
      more t = omega (arith, room, length-append r.threads (t ∷ []))

  thread_name_back : (r : Parts) (k : Lexeme) (ks : List Lexeme) →
      Then (On o f ks) (at_thread_name r (name_in k)) →
      Rest o f r ThreadPrograms.AtThreadName (k ∷ ks)
  thread_name_back r k ks h room = by (name_in k) refl h
    where
      by : (t : Option Text) →
          name_in k ≡ t →
          Then (On o f ks) (at_thread_name r t) →
          Rest o f r ThreadPrograms.AtThread (Named (codes "thread") ∷ k ∷ ks)
      by None e h = absurd h
      by (Some name) e h =
          let g = when_then (On o f ks) (not (bytes_eq name (codes "all")) && not (thread_named r.threads name))
          (at (named r name) ThreadPrograms.AtBlock) h in
          let b = both (not (bytes_eq name (codes "all"))) (not (thread_named r.threads name)) g.0 in
          subst (λ x. Rest o f r ThreadPrograms.AtThread (Named (codes "thread") ∷ x ∷ ks)) (sym (name_is k name e))
          (λ some. with_thread r name ks room some (not_false (bytes_eq name (codes "all")) b.0)
          (not_false (thread_named r.threads name) b.1) g.1)

  -- ---- all stages

  step_back : (r : Parts) (stage : Stage) (k : Lexeme) (ks : List Lexeme) →
      IsFormed k →
      Then (On o f ks) (stepped o r stage k) →
      Rest o f r stage (k ∷ ks)
  step_back r ThreadPrograms.AtSetup k ks formed h = setup_back r k ks h
  step_back r ThreadPrograms.AtBlock k ks formed h = brace_back r k ks h
  step_back r ThreadPrograms.AtCall k ks formed h = call_back r k ks h
  step_back r (ThreadPrograms.AfterName name) k ks formed h = name_back o f r name k ks h
  step_back r (ThreadPrograms.AfterAssign name) k ks formed h =
      let g = when_then (On o f ks) (is_word words.New k) (at r (ThreadPrograms.AfterNew name)) h in
      λ new. subst (λ x. RestCalls o f r (Named name ∷ Marked signs.Assign ∷ x ∷ ks)) (sym (word_is words.New k g.0))
      (g.1 new)
  step_back r (ThreadPrograms.AfterNew name) k ks formed h = new_back o f r name k ks h
  step_back r (ThreadPrograms.AfterDot n) k ks formed h = dot_back o f r n k ks h
  step_back r (ThreadPrograms.AtArguments p) k ks formed h = paren_back o f r p k ks h
  step_back r (ThreadPrograms.AtFirst p) k ks formed h = first_back o f r p k ks h
  step_back r (ThreadPrograms.AtArgument p) k ks formed h = argument_back o f r p k ks h
  step_back r (ThreadPrograms.AfterMinus p) k ks formed h = minus_back o f r p k ks formed h
  step_back r (ThreadPrograms.AfterArgument p) k ks formed h = others_back o f r p k ks h
  step_back r (ThreadPrograms.AtSemicolon p) k ks formed h = semicolon_back r p k ks h
  step_back r ThreadPrograms.AtThread k ks formed h = thread_back r k ks h
  step_back r ThreadPrograms.AtThreadName k ks formed h = thread_name_back r k ks h

  after_none : (ks : List Lexeme) (q : Reading) → after o None ks ≡ Some q → ⊥
  after_none ks q e = some_none q e

  -- the end: nothing is left
  nothing_left : Rest o f f ThreadPrograms.AtThread []
  nothing_left some = (
    refl,
    record {
      ts = [];
      spelled = spelled.NoThread;
      parts = sym (append_nil f.threads);
      are = programs.End;
      few = λ few. few;
    },
  )

  -- if a reading ends with the parts f, the tokens are such a rest
  pub rest_is : (r : Parts) (stage : Stage) (ks : List Lexeme) →
      ((i : ℕ) (k : Lexeme) → slice_get ks i ≡ Some k → IsFormed k)
      → after o (Some (at r stage)) ks ≡ Some (at f ThreadPrograms.AtThread) → Rest o f r stage ks
  rest_is r stage [] formed e = subst (λ (q : Reading). Rest o f q.parts q.stage [])
      (sym (same_some (at r stage) (at f ThreadPrograms.AtThread) e)) nothing_left
  rest_is r stage (k ∷ ks) formed e = step_back r stage k ks (formed 0 k refl)
      (by (stepped o r stage k) (λ s t. rest_is s t ks (λ i. formed (suc i))) e)
    where
      by : (x : Option Reading) →
          ((s : Parts) (t : Stage) → after o (Some (at s t)) ks ≡ Some (at f ThreadPrograms.AtThread) → Rest o f s t ks)
          →
          after o x ks ≡ Some (at f ThreadPrograms.AtThread) →
          Then (On o f ks) x
      by None rec e = absurd (after_none ks (at f ThreadPrograms.AtThread) e)
      by (Some q) rec e = rec q.parts q.stage e
