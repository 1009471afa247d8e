-- The calls of threads, with what comes before and after them.
use Rattle.std.proofs.Common.{◌≡◌, ◌≢◌, ℕ, ◌+◌, Bool, true, false, cond, ◌∷◌, Option, refl, sym, ap, ◌∙◌, subst, arith}
use Rattle.std.specs.Prelude.{nat_eq, slice_get}
use Rattle.std.proofs.lemmas.Grind.{common_steps}
use Rattle.ls_events.specs.declared.kind.Kind.TheVariants.{NullPointer}
use Rattle.ls_events.specs.declared.value.Value.{Value}
use Rattle.ls_events.specs.declared.value.ValueType.TheVariants as types
use Rattle.ls_checked.specs.CheckedTree.{File}
use Rattle.ls_checked.specs.CheckedProgram.{Program}
use Rattle.ls_meaning.specs.declared.sort.Sort.TheVariants.{NewOf}
use Rattle.ls_meaning.specs.Values.{reference_of}
use Rattle.ls_meaning.specs.Course.{Answers, Evaluated, Asks, Results, Throws, with_value, unless_null}
use Rattle.ls_meaning.specs.Expressions.{constructor_of}
use Rattle.ls_meaning.specs.Methods.{invoke, depth_limit}
use Rattle.ls_meaning.specs.Threads.{Next, result_of, class_in, after_call, all_calls}
use Rattle.ls_types_judgement.specs.Sorts.{HasType, HasSort}
use Rattle.ls_refs.specs.ValueWords.{IsSmall}
use Rattle.ls_types_judgement.specs.Typing.{IsTypedFile}
use Rattle.ls_soundness.specs.InCall.{then_next, after_making, after_calling, after_throw, InCall, SuitedInMaking}
use Rattle.ls_soundness.specs.InCall.{SuitedInCalling, NextInMaking, NextInCalling, NextOnNull}
use Rattle.ls_soundness.proofs.Values.{sort_of_answer}
use Rattle.ls_soundness.proofs.Threads.{arguments_have, suited_same}
use Rattle.ls_soundness.proofs.InCall.{in_call}

after_by : (n : ℕ) (x : Evaluated Value) (k : Value → Answers → Evaluated (Option Value)) (go : Answers → Next) →
    after_call n (with_value x k) go ≡ then_next x (λ v rest. after_call n (k v rest) go) (after_throw n)
after_by n (Asks a s) k go = refl
after_by n (Results v rest) k go = refl
after_by n (Throws kind rest) k go = refl

not_null : (b : Bool) (q : Answers) (x : Evaluated (Option Value)) → b ≡ false → cond b (Throws NullPointer q) x ≡ x
not_null true q x e = absurd (differ e)
  where
    differ : true ≡ false → ⊥
    differ e = cc
not_null false q x e = refl

there : (n : ℕ) → n ≢ 0 → nat_eq n 0 ≡ false
there n ne = by_case (nat_eq n 0) refl
  where
    by_case : (b : Bool) → nat_eq n 0 ≡ b → nat_eq n 0 ≡ false
    by_case true e = absurd (ne (grind (arith, common_steps, e)))
    by_case false e = e

module _ (file : File) (program : Program) where
  -- the law of a thread at a making
  pub next_in_making : NextInMaking file program
  next_in_making n calls y o q name c text vs = after_by n (invoke file depth_limit (constructor_of file.classes c)
      (o ∷ vs) q) _ (all_calls file program (n + 1) calls)

  -- the law of a thread at a method's call
  pub next_in_calling : NextInCalling file program
  next_in_calling n calls y o q name m text r vs ne =
      ap (λ z. after_call n z (all_calls file program (n + 1) calls))
      (not_null (nat_eq (reference_of o) 0) q (with_value (invoke file depth_limit m (o ∷ vs) q)
      (λ v rest. Results (result_of file m v) rest)) (there (reference_of o) ne))
      ∙ after_by n (invoke file depth_limit m (o ∷ vs) q) (λ v rest. Results (result_of file m v) rest)
      (all_calls file program (n + 1) calls)

  -- the law of a call on null
  pub next_on_null : NextOnNull file program
  next_on_null n calls y o q name m text r vs e =
      ap (λ z. after_call n
      (unless_null z q (with_value (invoke file depth_limit m (o ∷ vs) q)
      (λ v rest. Results (result_of file m v) rest))) (all_calls file program (n + 1) calls)) e

  module _ (t : IsTypedFile file) where
    -- answers that suit a thread at a making suit the constructor's call
    pub in_making : SuitedInMaking file program
    in_making n calls y o q name c text vs is u =
        let ho : HasSort IsSmall (NewOf (types.Class c)) o = sort_of_answer IsSmall o (NewOf (types.Class c)) tt u.1.0
        in
        in_call file t depth_limit (constructor_of file.classes c) is.constructor o vs is.found
        (subst (λ z. HasType IsSmall o (types.Class z)) (sym is.own) ho.1) (arguments_have IsSmall _ vs is.fit)
        (after_making file program n name o calls) (after_throw n) q
        (suited_same IsSmall _ _ q (λ more l. next_in_making n calls y o more name c text vs) u.1.1)

    -- answers that suit a thread at a method's call suit that call
    pub in_calling : SuitedInCalling file program
    in_calling n calls y o q name m text r vs is ne u =
        let class : class_in (slice_get program.names name) ≡ is.called.class = ap class_in is.named ∙ sym is.own in
        let ho : HasType IsSmall o (types.Class is.called.class) = subst (λ z. HasType IsSmall o (types.Class z)) class
        u.1.0 in
        subst (λ z. InCall file depth_limit m z (o ∷ vs) (after_calling file program n m calls) (after_throw n) q)
        is.answers
        (in_call file t depth_limit m is.called o vs is.found ho (arguments_have IsSmall _ vs is.fit)
        (after_calling file program n m calls) (after_throw n) q
        (suited_same IsSmall _ _ q (λ more l. next_in_calling n calls y o more name m text r vs ne) u.1.1))
