-- Behind a name that is unknown, or an argument that does not fit, no program goes on.
use Rattle.std.proofs.Common.{◌≡◌, subst, append_assoc, ℕ, suc, refl, sym, ◌∙◌, ap, Bool, true, false, List, [], ◌∷◌}
use Rattle.std.proofs.Common.{◌++◌, length, Some, None, if◌then◌else◌}
use Rattle.std.specs.Prelude.{slice_get}
use Rattle.ls_lexer.specs.declared.sign.Sign.TheVariants as signs
use Rattle.ls_lexer.specs.declared.word.Word.TheVariants as words
use Rattle.ls_lexer.specs.Lexemes.{Lexeme, Named, Reserved, Marked}
use Rattle.ls_events.specs.declared.value.Value.{Value}
use Rattle.ls_events.specs.declared.value.ValueType.{ValueType}
use Rattle.ls_types_elaboration.specs.Elaboration.{ElaboratedFile}
use Rattle.ls_types_programs.specs.ProgramCalls.{setup_named, maker, is_plain, callable, called_on, Method, Callee}
use Rattle.ls_types_programs.specs.ProgramCalls.{Pending}
use Rattle.ls_types_programs.specs.ThreadPrograms
use Rattle.ls_types_programs.specs.ThreadPrograms.{Parts, at, when, with_call, is_new_name, used, after}
use Rattle.ls_types_programs.specs.Spelled as spelled
use Rattle.ls_types_programs.specs.Spelled.{Argument, Others, Arguments}
use Rattle.ls_types_programs.specs.Programs.{AreFor}
use Rattle.ls_types_programs.specs.Faults.{IsUnknown, NoClass, NoName, NoMethod, TooFew, TooMany, WrongType}
use Rattle.ls_types_programs.specs.Faults.{IsReference, Answers, GoesNowhere}
use Rattle.std.proofs.Common.{◌<◌, ◌≤◌, arith}
use Rattle.ls_types_programs.specs.Programs.{type_of}
use Rattle.ls_lexer.specs.Lexemes.{Numeral}
use Rattle.ls_lexer.specs.Numbers.{value_of}
use Rattle.ls_events.specs.declared.value.Value.TheVariants as values
use Rattle.std.specs.Prelude.{neg_ℤ}
use Rattle.std.proofs.Common.{pos, map}
use Rattle.ls_types_programs.proofs.Pieces.{plain_result, append_nil, Front}
use Rattle.ls_types_programs.proofs.Rest.{with_values}
use Rattle.ls_types_programs.proofs.Read.{From, same_cons, for_length, first_same, new_named}
use Rattle.ls_types_programs.proofs.BadTokens.{one_refused, statement, behind, found, none_some, arguments_refused}
use Rattle.ls_types_programs.proofs.BadTokens.{joined, callee_refused}

module _ (o : ElaboratedFile) where
  -- ---- arguments without their `)`

  record Ahead (v : Value) (js ls : List Lexeme) : Type 0 where
    rest : List Lexeme
    is : ls ≡ rest ++ Marked signs.CloseParen ∷ []
    argument : Argument v js rest

  same_rest : (j k : Lexeme) (ls ms : List Lexeme) → j ∷ ls ≡ k ∷ ms → (k ≡ j) × (ls ≡ ms)
  same_rest j k ls ms e = (cc, cc)

  ahead_one : (v : Value) (j : Lexeme) (ls js : List Lexeme) →
      (marks : j ≡ Marked signs.CloseParen → ⊥) →
      ((rest : List Lexeme) → Argument v (j ∷ rest) rest) →
      j ∷ ls ≡ js ++ Marked signs.CloseParen ∷ [] →
      Ahead v js ls
  ahead_one v j ls [] no_paren a e = absurd (no_paren (sym (same_rest j (Marked signs.CloseParen) ls [] e).0))
  ahead_one v j ls (k ∷ js) no_paren a e =
      let s = same_rest j k ls (js ++ Marked signs.CloseParen ∷ []) e in
      record { rest = js; is = s.1; argument = subst (λ x. Argument v (x ∷ js) js) (sym s.0) (a js) }

  ahead : {v : Value} {ks ls : List Lexeme} (js : List Lexeme) →
      Argument v ks ls →
      ks ≡ js ++ Marked signs.CloseParen ∷ [] →
      Ahead v js ls
  ahead js (spelled.True {rest = rest}) e = ahead_one (values.Boolean true) (Reserved words.True) rest js (λ x. cc)
      (λ rest. spelled.True) e
  ahead js (spelled.False {rest = rest}) e = ahead_one (values.Boolean false) (Reserved words.False) rest js (λ x. cc)
      (λ rest. spelled.False) e
  ahead js (spelled.Number {rest = rest} text small) e = ahead_one (values.Int (pos (value_of 0 text))) (Numeral text)
      rest js (λ x. cc) (λ rest. spelled.Number text small) e
  ahead [] (spelled.Minus {rest = rest} text most) e = absurd cc
  ahead (k ∷ []) (spelled.Minus {rest = rest} text most) e = absurd cc
  ahead (k ∷ j ∷ js) (spelled.Minus {rest = rest} text most) e =
      let s = same_rest (Marked signs.Minus) k (Numeral text ∷ rest) (j ∷ js ++ Marked signs.CloseParen ∷ []) e in
      let u = same_rest (Numeral text) j rest (js ++ Marked signs.CloseParen ∷ []) s.1 in
      record {
        rest = js;
        is = u.1;
        argument = subst (λ x. Argument (values.Int (neg_ℤ (pos (value_of 0 text))))
            (x ∷ j ∷ js) js) (sym s.0)
            (subst (λ x. Argument (values.Int (neg_ℤ (pos (value_of 0 text))))
            (Marked signs.Minus ∷ x ∷ js) js) (sym u.0)
            (spelled.Minus text most));
      }

  one_wrong : {v : Value} {js rest : List Lexeme} →
      Argument v js rest →
      (r : Parts) (p : Pending) →
      Front p.types p.values
      → (Front p.types (p.values ++ v ∷ []) → From o r (ThreadPrograms.AfterArgument
      (with_values p (p.values ++ v ∷ []))) rest ≡ None)
      → From o r (ThreadPrograms.AtArgument p) js ≡ None
  one_wrong a r p front h = one_refused o a r p front h

  others_wrong : {vs : List Value} {ks : List Lexeme} (js : List Lexeme) →
      Others vs ks [] →
      ks ≡ js ++ Marked signs.CloseParen ∷ [] →
      (r : Parts) (p : Pending) →
      Front p.types p.values
      → (Front p.types (p.values ++ vs) → ⊥) → From o r (ThreadPrograms.AfterArgument p) js ≡ None
  others_wrong js spelled.NoOther e r p front h = absurd (h (subst (Front p.types) (sym (append_nil p.values)) front))
  others_wrong [] (spelled.Other a more) e r p front h = absurd cc
  others_wrong (k ∷ js) (spelled.Other {v = v} {vs = vs} {ks = ks} a more) e r p front h =
      let s = same_rest (Marked signs.Comma) k ks (js ++ Marked signs.CloseParen ∷ []) e in
      let w = ahead js a s.1 in
      subst (λ x. From o r (ThreadPrograms.AfterArgument p) (x ∷ js) ≡ None) (sym s.0)
      (one_wrong w.argument r p front
      (λ next. others_wrong w.rest more w.is r (with_values p (p.values ++ v ∷ [])) next
      (λ f. h (subst (Front p.types) (append_assoc p.values (v ∷ []) vs) f))))

  arguments_wrong : {vs : List Value} {ks : List Lexeme} (js : List Lexeme) →
      Arguments vs ks [] →
      ks ≡ js ++ Marked signs.CloseParen ∷ [] →
      (r : Parts) (callee : Callee) (ts : List ValueType) →
      (Front ts vs → ⊥)
      → From o r (ThreadPrograms.AtFirst (record { callee = callee; types = ts; values = [] })) js ≡ None
  arguments_wrong js spelled.NoArgument e r callee ts h = absurd (h tt)
  arguments_wrong js (spelled.First {v = v} {vs = vs} a more) e r callee ts h =
      let p : Pending = record { callee = callee; types = ts; values = [] } in
      let w = ahead js a e in
      first_same o w.argument r p ∙ one_wrong w.argument r p tt
      (λ next. others_wrong w.rest more w.is r (with_values p (v ∷ [])) next h)

  front_length : (ts : List ValueType) (vs : List Value) → Front ts vs → length vs ≤ length ts
  front_length ts [] h = omega arith
  front_length [] (v ∷ vs) h = absurd h
  front_length (t ∷ ts) (v ∷ vs) h = more (length vs) (length ts) (front_length ts vs h.1)
    where
      more : (a b : ℕ) → a ≤ b → suc a ≤ suc b
      more a b h = omega (arith, h)

  too_many : (a b : ℕ) → a < b → b ≤ a → ⊥
  too_many a b h k = omega (arith, h, k)

  wrong_type : (before types : List ValueType) (t : ValueType) (vs : List Value) (v : Value) →
      AreFor before vs →
      Front (before ++ t ∷ types) (vs ++ v ∷ []) →
      type_of v ≡ Some t
  wrong_type [] types t [] v h f = f.0
  wrong_type [] types t (u ∷ vs) v h f = absurd cc
  wrong_type (y ∷ before) types t [] v h f = absurd cc
  wrong_type (y ∷ before) types t (u ∷ vs) v h f = wrong_type before types t vs v
      (same_cons (type_of u) (Some y) (map type_of vs) (map Some before) h).1 f.1

  pub unknown : (ks js : List Lexeme) → IsUnknown o ks js → GoesNowhere o (ks ++ js)
  unknown _ _ (NoClass {ks = ks} p name class b one new none) =
      let a = statement o p ks b in
      joined o ks (Named name ∷ Marked signs.Assign ∷ Reserved words.New ∷ []) (Named class ∷ [])
      (behind o p ks (Named name ∷ Marked signs.Assign ∷ Reserved words.New ∷ Named class ∷ []) a
      (by a.r (is_new_name a.r name)))
    where
      by : (r : Parts) (b : Bool) →
          after o (when b (at r (ThreadPrograms.AfterAssign name))) (Reserved words.New ∷ Named class ∷ []) ≡ None
      by r false = refl
      by r true = ap (λ x. after o (with_call r ThreadPrograms.AtArguments (maker o name class x)) []) none
  unknown ks _ (NoName p name b new) =
      let a = statement o p ks b in
      let none : setup_named a.r.names name ≡ None = ap (λ names. setup_named names name) a.names ∙
      none_some o (setup_named p.names name) (new_named o p.names name new) in
      behind o p ks (Named name ∷ Marked signs.Dot ∷ []) a (ap (λ x. after o (used a.r x) []) none)
  unknown _ _ (NoMethod {ks = ks} p n s method b stands none) =
      let a = statement o p ks b in
      joined o ks (Named s.name ∷ Marked signs.Dot ∷ []) (Named method ∷ [])
      (behind o p ks (Named s.name ∷ Marked signs.Dot ∷ Named method ∷ []) a
      (ap (λ x. after o (used a.r x) (Named method ∷ [])) (ap (λ ns. setup_named ns s.name) a.names ∙
      found o p b.program n s stands)
      ∙ ap (λ x. after o (with_call a.r ThreadPrograms.AtArguments (called_on o n x method)) [])
      (ap (λ ns. slice_get ns n) a.names ∙ stands)
      ∙ ap (λ x. after o (with_call a.r ThreadPrograms.AtArguments (callable n method x)) []) none))
  unknown _ _ (TooFew {ks = ks} {front = front} {js = js} p callee types vs b there spelling few) =
      callee_refused o p ks front js callee types b there (λ r c.
      arguments_refused o spelling r c types (λ f. too_many (length vs) (length types) few (even types vs f)))
    where
      even : (types : List ValueType) (vs : List Value) → AreFor types vs → length types ≤ length vs
      even types vs f = omega (arith, for_length types vs f)
  unknown _ _ (TooMany {ks = ks} {front = front} {js = js} p callee types vs b there spelling many) =
      callee_refused o p ks front js callee types b there (λ r c.
      arguments_wrong js spelling refl r c types (λ f. too_many (length types) (length vs) many
      (front_length types vs f)))
  unknown _ _ (WrongType {ks = ks} {front = front} js ls p callee before types t vs v b there spelling a fit wrong) =
      subst (GoesNowhere o) (sym (append_assoc (ks ++ front) (Named callee ∷ Marked signs.OpenParen ∷ js) ls))
      (callee_refused o p ks front (js ++ ls) callee (before ++ t ∷ types) b there
      (λ r c. arguments_wrong (js ++ ls) spelling refl r c (before ++ t ∷ types)
      (λ f. wrong (wrong_type before types t vs v fit f))))

  pub reference : (ks js : List Lexeme) → IsReference o ks js → GoesNowhere o (ks ++ js)
  reference _ _ (Answers {ks = ks} p n s method m b stands is refuses) =
      let a = statement o p ks b in
      joined o ks (Named s.name ∷ Marked signs.Dot ∷ []) (Named method ∷ [])
      (behind o p ks (Named s.name ∷ Marked signs.Dot ∷ Named method ∷ []) a
      (ap (λ x. after o (used a.r x) (Named method ∷ [])) (ap (λ ns. setup_named ns s.name) a.names ∙
      found o p b.program n s stands)
      ∙ ap (λ x. after o (with_call a.r ThreadPrograms.AtArguments (called_on o n x method)) [])
      (ap (λ ns. slice_get ns n) a.names ∙ stands)
      ∙ ap (λ x. after o (with_call a.r ThreadPrograms.AtArguments (callable n method x)) []) is
      ∙ ap (λ b. after o (with_call a.r ThreadPrograms.AtArguments
      (if b then Some (record { callee = Method n m.number method m.result; types = m.parameters; values = [] })
      else None)) []) (not_plain (is_plain m.result) refl)))
    where
      not_plain : (b : Bool) → is_plain m.result ≡ b → b ≡ false
      not_plain false e = refl
      not_plain true e = absurd (refuses (plain_result m.result e))
