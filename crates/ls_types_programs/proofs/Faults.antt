-- Behind a fault no program goes on.
use Rattle.std.proofs.Common.{◌≡◌, subst, append_assoc, ℕ, refl, sym, ◌∙◌, ap, Bool, true, false, List, [], ◌∷◌, ◌++◌}
use Rattle.std.proofs.Common.{length, nat_lt, nat_le, leb-true, codes}
use Rattle.ls_lexer.specs.declared.sign.Sign.TheVariants as signs
use Rattle.ls_lexer.specs.Lexemes.{Lexeme, Named, Marked}
use Rattle.ls_events.specs.declared.value.Value.{Value}
use Rattle.ls_events.specs.declared.value.ValueType.{ValueType}
use Rattle.ls_checked.specs.CheckedProgram.{ThreadProgram, Program}
use Rattle.ls_types_elaboration.specs.Trees.{Text}
use Rattle.ls_types_elaboration.specs.Elaboration.{ElaboratedFile}
use Rattle.ls_types_programs.specs.ThreadPrograms
use Rattle.ls_types_programs.specs.ThreadPrograms.{Parts, at, when, with_finished, after}
use Rattle.ls_types_programs.specs.Spelled as spelled
use Rattle.ls_types_programs.specs.Spelled.{Argument, Others, Arguments}
use Rattle.ls_types_programs.specs.Programs.{AreFor}
use Rattle.ls_types_programs.specs.Faults.{IsBefore, IsCallee, IsPast, Threads, Calls, GoesNowhere, FaultsStand}
use Rattle.std.proofs.Common.{◌<◌, ◌≤◌, arith, ltb-true}
use Rattle.ls_checked.specs.Limits.{most_threads}
use Rattle.ls_types_programs.proofs.Read.{same_cons, arguments_read}
use Rattle.ls_types_programs.proofs.BadTokens.{callee_refused_at, the_thread, behind_thread, bad}
use Rattle.ls_types_programs.proofs.UnknownTokens.{unknown, reference}

module _ (o : ElaboratedFile) where
  -- ---- limits

  argument_longer : {v : Value} {ks rest : List Lexeme} (more : List Lexeme) →
      Argument v ks rest →
      Argument v (ks ++ more) (rest ++ more)
  argument_longer more spelled.True = spelled.True
  argument_longer more spelled.False = spelled.False
  argument_longer more (spelled.Number text small) = spelled.Number text small
  argument_longer more (spelled.Minus text most) = spelled.Minus text most

  others_longer : {vs : List Value} {ks rest : List Lexeme} (more : List Lexeme) →
      Others vs ks rest →
      Others vs (ks ++ more) (rest ++ more)
  others_longer more spelled.NoOther = spelled.NoOther
  others_longer more (spelled.Other a others) = spelled.Other (argument_longer more a) (others_longer more others)

  arguments_longer : {vs : List Value} {ks rest : List Lexeme} (more : List Lexeme) →
      Arguments vs ks rest →
      Arguments vs (ks ++ more) (rest ++ more)
  arguments_longer more spelled.NoArgument = spelled.NoArgument
  arguments_longer more (spelled.First a others) = spelled.First (argument_longer more a) (others_longer more others)

  last_same : (xs ys : List ThreadProgram) (x y : ThreadProgram) → xs ++ x ∷ [] ≡ ys ++ y ∷ [] → x ≡ y
  last_same [] [] x y e = (same_cons x y [] [] e).0
  last_same [] (z ∷ []) x y e = absurd cc
  last_same [] (z ∷ w ∷ ys) x y e = absurd cc
  last_same (z ∷ []) [] x y e = absurd cc
  last_same (z ∷ w ∷ xs) [] x y e = absurd cc
  last_same (z ∷ xs) (w ∷ ys) x y e = last_same xs ys x y (same_cons z w (xs ++ x ∷ []) (ys ++ y ∷ []) e).1

  no_room : (n : ℕ) → 256 ≤ n → nat_lt n 256 ≡ false
  no_room n h = by (nat_lt n 256) refl
    where
      by : (b : Bool) → nat_lt n 256 ≡ b → b ≡ false
      by false e = refl
      by true e = absurd (omega (arith, h, ltb-true n 256 e))

  no_space : (n : ℕ) → most_threads < n → nat_le n most_threads ≡ false
  no_space n h = by (nat_le n most_threads) refl
    where
      by : (b : Bool) → nat_le n most_threads ≡ b → b ≡ false
      by false e = refl
      by true e = absurd (omega (arith, h, leb-true n most_threads e))

  -- a call that fits, after 256 others
  call_past : (p : Program) (ks front js : List Lexeme) (callee : Text) (types : List ValueType) (vs : List Value)
      (b : IsBefore o p ks) →
      ((r : Parts) → r.names ≡ p.names → r.threads ++ record { name = r.name; calls = r.calls } ∷ [] ≡ p.threads →
      256 ≤ length r.calls)
      → IsCallee o p front callee types → Arguments vs js [] → AreFor types vs →
      GoesNowhere o ((ks ++ front) ++ Named callee ∷ Marked signs.OpenParen ∷ (js ++ Marked signs.Semicolon ∷ []))
  call_past p ks front js callee types vs b many there spelling fit =
      callee_refused_at o p ks front (js ++ Marked signs.Semicolon ∷ []) callee types b there
      (λ r names threads c.
      arguments_read o (arguments_longer (Marked signs.Semicolon ∷ []) spelling) r c types fit
      ∙ ap (λ b. after o
      (when b (at (with_finished r (record { callee = c; types = types; values = vs })) ThreadPrograms.AtCall)) [])
      (no_room (length r.calls) (many r names threads)))

  past : (ks : List Lexeme) → IsPast o ks → GoesNowhere o ks
  past _ (Threads {ks = ks} p b many) =
      let a = the_thread o p ks b in
      behind_thread o p ks (Named (codes "thread") ∷ []) a (ap
      (λ b. after o (when b (at a.r ThreadPrograms.AtThreadName)) [])
      (no_space (length a.r.threads) (subst (λ (ts : List ThreadProgram). most_threads < length ts) (sym a.threads)
      many)))
  past _ (Calls {ks = ks} {front = front} {js = js} p ts t callee types vs b parts many there spelling fit) =
      subst (GoesNowhere o)
      (sym (append_assoc (ks ++ front) (Named callee ∷ Marked signs.OpenParen ∷ js) (Marked signs.Semicolon ∷ [])))
      (call_past p ks front js callee types vs b
      (λ r names threads. subst (λ (u : ThreadProgram). 256 ≤ length u.calls)
      (sym (last_same r.threads ts (record { name = r.name; calls = r.calls }) t (threads ∙ parts))) many) there
      spelling fit)

-- the law: after a fault the tokens are not the beginning of any program
pub faults_stand : FaultsStand
faults_stand o ks js = (bad o ks js, unknown o ks js, reference o ks js, past o ks)
