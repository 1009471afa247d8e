-- The rest of the tokens before a step at the names of a call, from the rest after it.
use Rattle.std.proofs.Common.{◌≡◌, ℕ, ◌<◌, ◌≤◌, refl, sym, ◌∙◌, subst, ap, Bool, true, false, not, List, [], ◌∷◌, ◌++◌}
use Rattle.std.proofs.Common.{append_assoc, length, length-append, Option, Some, None, nat_lt, arith, if◌then◌else◌}
use Rattle.std.specs.Prelude.{slice_get, is_some}
use Rattle.ls_lexer.specs.declared.sign.Sign.TheVariants as signs
use Rattle.ls_lexer.specs.declared.word.Word.TheVariants as words
use Rattle.ls_lexer.specs.Lexemes.{Lexeme, Named, Reserved, Marked}
use Rattle.ls_events.specs.declared.value.Value.{Value}
use Rattle.ls_checked.specs.CheckedProgram.{SetupName, ProgramCall, Making, Calling}
use Rattle.ls_types_elaboration.specs.Trees.{Text}
use Rattle.ls_types_elaboration.specs.Known.{MethodSign, number_of, method_named, methods_in}
use Rattle.ls_types_elaboration.specs.Elaboration.{ElaboratedFile}
use Rattle.ls_types_programs.specs.ProgramCalls.{Method, Pending, setup_named, maker, is_plain, callable, called_on}
use Rattle.ls_types_programs.specs.ProgramCalls.{call_of, names_after}
use Rattle.ls_types_programs.specs.ThreadPrograms
use Rattle.ls_types_programs.specs.ThreadPrograms.{Parts, at, is_sign, name_in, when, with_call, is_new_name, used}
use Rattle.ls_types_programs.specs.ThreadPrograms.{after_name, after_new, after_dot, with_finished, after}
use Rattle.ls_types_programs.specs.Spelled as spelled
use Rattle.ls_types_programs.specs.Spelled.{Arguments}
use Rattle.ls_types_programs.specs.Programs as programs
use Rattle.ls_types_programs.specs.Programs.{AreCallsOf}
use Rattle.ls_types_programs.proofs.Pieces.{both, not_false, sign_is, name_is, plain_result, append_nil, Grows}
use Rattle.ls_types_programs.proofs.Pieces.{at_grown, at_end, named_there, is_new}
use Rattle.ls_types_programs.proofs.Rest.{Then, when_then, RestValues, RestAfter, gives, RestCalls, with_values}
use Rattle.ls_types_programs.proofs.Rest.{method_pending, maker_pending}
use Rattle.ls_types_programs.proofs.RestInArguments.{On}

module _ (o : ElaboratedFile) (f : Parts) where
  -- ---- calls

  pub paren_back : (r : Parts) (p : Pending) (k : Lexeme) (ks : List Lexeme) →
      Then (On o f ks) (when (is_sign signs.OpenParen k) (at r (ThreadPrograms.AtFirst p))) →
      RestAfter (Marked signs.OpenParen) (RestValues Arguments o f r p) (k ∷ ks)
  paren_back r p k ks h =
      let g = when_then (On o f ks) (is_sign signs.OpenParen k) (at r (ThreadPrograms.AtFirst p)) h in
      record { rest = ks; tokens = ap (λ x. x ∷ ks) (sign_is signs.OpenParen k g.0); after = g.1 }

  -- one more call in front
  with_front : (r : Parts) (p : Pending) (vs : List Value) (ks rest : List Lexeme) → length r.calls < 256
      → spelled.Call (gives r) f.names (call_of (length r.names) (with_values p vs)) ks rest
      → ((cs : List ProgramCall) → AreCallsOf o (gives r) (names_after r.names p.callee) cs f.names →
      AreCallsOf o (gives r) r.names (call_of (length r.names) (with_values p vs) ∷ cs) f.names)
      → RestCalls o f (with_finished r (with_values p vs)) rest → RestCalls o f r ks
  with_front r p vs ks rest room call are h =
      let c : ProgramCall = call_of (length r.names) (with_values p vs) in
      record {
        cs = c ∷ h.cs;
        rest = h.rest;
        spelled = spelled.More call h.spelled;
        are = are h.cs h.are;
        all = h.all;
        joined = h.joined ∙ append_assoc r.calls (c ∷ []) h.cs;
        few = λ few. h.few (shorter c);
        after = h.after;
      }
    where
      shorter : (c : ProgramCall) → length (r.calls ++ c ∷ []) ≤ 256
      shorter c = omega (arith, room, length-append r.calls (c ∷ []))

  -- calls only add names
  pub calls_grow : (b : Bool) (names all : List SetupName) (cs : List ProgramCall) →
      AreCallsOf o b names cs all →
      Grows names all
  calls_grow b names all [] programs.End = ([], append_nil names)
  calls_grow b names all (c ∷ cs) (programs.Makes s class_name vs setup new there fit more) =
      let g = calls_grow b (names ++ s ∷ []) all cs more in
      (s ∷ g.0, sym (append_assoc names (s ∷ []) g.0) ∙ g.1)
  calls_grow b names all (c ∷ cs) (programs.Calls n s name m vs stands there plain fit more) = calls_grow b names all cs
      more

  called_back : (r : Parts) (n : ℕ) (s : SetupName) (name : Text) (ks : List Lexeme) → slice_get r.names n ≡ Some s
      → (x : Option MethodSign) → method_named (methods_in (slice_get o.signs s.class)) name ≡ x
      → Then (On o f ks) (with_call r ThreadPrograms.AtArguments (callable n name x)) →
      RestCalls o f r (Named s.name ∷ Marked signs.Dot ∷ Named name ∷ ks)
  called_back r n s name ks there None e h = absurd h
  called_back r n s name ks there (Some m) e h = by (is_plain m.result) refl h
    where
      done : is_plain m.result ≡ true →
          RestAfter (Marked signs.OpenParen) (RestValues Arguments o f r (method_pending n name m)) ks →
          RestCalls o f r (Named s.name ∷ Marked signs.Dot ∷ Named name ∷ ks)
      done plain a =
          let h : RestValues Arguments o f r (method_pending n name m) a.rest = a.after in
          let call : Arguments h.all a.rest (Marked signs.Semicolon ∷ h.rest) = subst
          (λ vs. Arguments vs a.rest (Marked signs.Semicolon ∷ h.rest)) (sym h.joined) h.spelled in
          let grows : Grows r.names f.names = calls_grow (gives r) r.names f.names h.after.cs h.after.are in
          with_front r (method_pending n name m) h.all (Named s.name ∷ Marked signs.Dot ∷ Named name ∷ ks) h.rest h.room
          (subst (λ ls. spelled.Call (gives r) f.names (Calling n m.number name m.result h.all)
          (Named s.name ∷ Marked signs.Dot ∷ Named name ∷ ls) h.rest) (sym a.tokens)
          (spelled.On s (at_grown r.names f.names n s grows there) call))
          (λ cs are. programs.Calls n s name m h.all there e (plain_result m.result plain) (h.fit tt) are) h.after

      by : (b : Bool) →
          is_plain m.result ≡ b →
          Then (On o f ks) (with_call r ThreadPrograms.AtArguments
          (if b then Some (record { callee = Method n m.number name m.result; types = m.parameters; values = [] })
          else None))
          → RestCalls o f r (Named s.name ∷ Marked signs.Dot ∷ Named name ∷ ks)
      by false plain h = absurd h
      by true plain h = done plain h

  pub dot_back : (r : Parts) (n : ℕ) (k : Lexeme) (ks : List Lexeme) →
      Then (On o f ks) (after_dot o r n (name_in k)) →
      (s : SetupName) →
      slice_get r.names n ≡ Some s →
      RestCalls o f r (Named s.name ∷ Marked signs.Dot ∷ k ∷ ks)
  dot_back r n k ks h s there = by (name_in k) refl h
    where
      by : (t : Option Text) →
          name_in k ≡ t →
          Then (On o f ks) (after_dot o r n t) →
          RestCalls o f r (Named s.name ∷ Marked signs.Dot ∷ k ∷ ks)
      by None e h = absurd h
      by (Some name) e h =
          subst (λ x. RestCalls o f r (Named s.name ∷ Marked signs.Dot ∷ x ∷ ks)) (sym (name_is k name e))
          (called_back r n s name ks there (method_named (methods_in (slice_get o.signs s.class)) name) refl
          (subst (λ x. Then (On o f ks) (with_call r ThreadPrograms.AtArguments (called_on o n x name))) there h))

  made_back : (r : Parts) (name class_name : Text) (ks : List Lexeme) → is_new_name r name ≡ true
      → (x : Option ℕ) → number_of o.names class_name ≡ x
      → Then (On o f ks) (with_call r ThreadPrograms.AtArguments (maker o name class_name x)) →
      RestCalls o f r (Named name ∷ Marked signs.Assign ∷ Reserved words.New ∷ Named class_name ∷ ks)
  made_back r name class_name ks new None e h = absurd h
  made_back r name class_name ks new (Some c) e h = done h
    where
      done : RestAfter (Marked signs.OpenParen) (RestValues Arguments o f r (maker_pending o name c class_name)) ks →
          RestCalls o f r (Named name ∷ Marked signs.Assign ∷ Reserved words.New ∷ Named class_name ∷ ks)
      done a =
          let h : RestValues Arguments o f r (maker_pending o name c class_name) a.rest = a.after in
          let s : SetupName = record { name = name; class = c } in
          let call : Arguments h.all a.rest (Marked signs.Semicolon ∷ h.rest) = subst
          (λ vs. Arguments vs a.rest (Marked signs.Semicolon ∷ h.rest)) (sym h.joined) h.spelled in
          let grows : Grows (r.names ++ s ∷ []) f.names = calls_grow (gives r) (r.names ++ s ∷ []) f.names h.after.cs
          h.after.are in
          let free = both (nat_lt (length r.threads) 1) (not (is_some (setup_named r.names name))) new in
          with_front r (maker_pending o name c class_name) h.all
          (Named name ∷ Marked signs.Assign ∷ Reserved words.New ∷ Named class_name ∷ ks) h.rest h.room
          (subst (λ ls. spelled.Call (gives r) f.names (Making (length r.names) c class_name h.all)
          (Named name ∷ Marked signs.Assign ∷ Reserved words.New ∷ Named class_name ∷ ls) h.rest) (sym a.tokens)
          (spelled.New s free.0 (at_grown (r.names ++ s ∷ []) f.names (length r.names) s grows (at_end r.names s))
          call))
          (λ cs are. programs.Makes s class_name h.all free.0
          (is_new r.names name (not_false (is_some (setup_named r.names name)) free.1)) e (h.fit tt) are) h.after

  pub new_back : (r : Parts) (name : Text) (k : Lexeme) (ks : List Lexeme) →
      Then (On o f ks) (after_new o r name (name_in k)) →
      is_new_name r name ≡ true →
      RestCalls o f r (Named name ∷ Marked signs.Assign ∷ Reserved words.New ∷ k ∷ ks)
  new_back r name k ks h new = by (name_in k) refl h
    where
      by : (t : Option Text) →
          name_in k ≡ t →
          Then (On o f ks) (after_new o r name t) →
          RestCalls o f r (Named name ∷ Marked signs.Assign ∷ Reserved words.New ∷ k ∷ ks)
      by None e h = absurd h
      by (Some class) e h =
          subst (λ x. RestCalls o f r (Named name ∷ Marked signs.Assign ∷ Reserved words.New ∷ x ∷ ks))
          (sym (name_is k class e))
          (made_back r name class ks new (number_of o.names class) refl h)

  pub name_back : (r : Parts) (name : Text) (k : Lexeme) (ks : List Lexeme) →
      Then (On o f ks) (after_name r name k) →
      RestCalls o f r (Named name ∷ k ∷ ks)
  name_back r name k ks h = by (is_sign signs.Assign k) refl h
    where
      found : (n : Option ℕ) →
          setup_named r.names name ≡ n →
          Then (On o f ks) (used r n) →
          RestCalls o f r (Named name ∷ Marked signs.Dot ∷ ks)
      found None e h = absurd h
      found (Some n) e h =
          let s = named_there r.names name n e in
          subst (λ x. RestCalls o f r (Named x ∷ Marked signs.Dot ∷ ks)) s.2 (h s.0 s.1)

      dotted : (b : Bool) →
          is_sign signs.Dot k ≡ b →
          Then (On o f ks) (if b then used r (setup_named r.names name) else None) →
          RestCalls o f r (Named name ∷ k ∷ ks)
      dotted false e h = absurd h
      dotted true e h = subst (λ x. RestCalls o f r (Named name ∷ x ∷ ks)) (sym (sign_is signs.Dot k e))
          (found (setup_named r.names name) refl h)

      by : (b : Bool) →
          is_sign signs.Assign k ≡ b →
          Then (On o f ks) (if b then when (is_new_name r name) (at r (ThreadPrograms.AfterAssign name)) else
          (if is_sign signs.Dot k then used r (setup_named r.names name) else None)) →
          RestCalls o f r (Named name ∷ k ∷ ks)
      by true e h =
          let g = when_then (On o f ks) (is_new_name r name) (at r (ThreadPrograms.AfterAssign name)) h in
          subst (λ x. RestCalls o f r (Named name ∷ x ∷ ks)) (sym (sign_is signs.Assign k e)) (g.1 g.0)
      by false e h = dotted (is_sign signs.Dot k) refl h
