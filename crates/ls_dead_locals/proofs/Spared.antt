-- An expression that doesn't read a local means the same whatever the local's value is.
use Rattle.std.proofs.Common.{◌≡◌, ◌≢◌, ℕ, Bool, true, false, not, cond, List, refl, ap, ◌∙◌, slice_set}
use Rattle.std.proofs.Common.{nat_eq, get_or-set_other}
use Rattle.std.proofs.lemmas.Bool.{and_parts, eqb-false, not-true}
use Rattle.ls_events.specs.declared.value.Value.{Value}
use Rattle.ls_events.specs.declared.value.ValueType.TheVariants as types
use Rattle.ls_events.specs.declared.action.Action.TheVariants.{New}
use Rattle.ls_checked.specs.CheckedTree.{Class, Expression, Literal, Slot, Field, Item, Negate, Not, Binary, And, Or}
use Rattle.ls_checked.specs.CheckedTree.{Call, MakeObject, MakeLock, MakeMarkable, MakeArray, Expressions, End, More}
use Rattle.ls_meaning.specs.declared.sort.Sort.TheVariants.{NewOf}
use Rattle.ls_meaning.specs.Values.{truth_of, nothing}
use Rattle.ls_meaning.specs.Course.{Answers, Evaluated, Asks, Results, Throws, ask, with_value}
use Rattle.ls_meaning.specs.Expressions.{Calls, evaluate, arguments}
use Rattle.ls_dead_locals.specs.Dead.{all_spare, spares}

-- what comes after an evaluation is the same if it is so after each result
pub then_same : {A B : Type 0} → (x x' : Evaluated A) (go go' : A → Answers → Evaluated B) →
    x' ≡ x →
    ((a : A) (q : Answers) → go' a q ≡ go a q) →
    with_value x' go' ≡ with_value x go
then_same {A} {B} x x' go go' e h = ap (λ y. with_value y go') e ∙ by_case x
  where
    by_case : (y : Evaluated A) → with_value y go' ≡ with_value y go
    by_case (Asks action sort) = refl
    by_case (Results a q) = h a q
    by_case (Throws kind q) = refl

pub if_same : {A : Type 0} → (b : Bool) (x x' y y' : A) → x' ≡ x → y' ≡ y → cond b x' y' ≡ cond b x y
if_same true x x' y y' e f = e
if_same false x x' y y' e f = f

distinct : (m n : ℕ) → not (nat_eq m n) ≡ true → m ≢ n
distinct m n h = eqb-false m n (not-true (nat_eq m n) h)

module _ (n : ℕ) (v : Value) where
  -- the locals with this value in the slot
  abbrev pub but : List Value → List Value
  but ls = slice_set ls n v

  module _ (classes : List Class) (calls : Calls) where
    mutual
      pub evaluate_spared : (e : Expression) →
          spares n e ≡ true →
          (ls : List Value) (q : Answers) →
          evaluate classes calls e (but ls) q ≡ evaluate classes calls e ls q
      evaluate_spared (Literal x) h ls q = refl
      evaluate_spared (Slot m) h ls q = ap (λ x. Results x q) (get_or-set_other ls n m v nothing (distinct m n h))
      evaluate_spared (Field e c f) h ls q = then_same _ _ _ _ (evaluate_spared e h ls q) (λ o r. refl)
      evaluate_spared (Item a i) h ls q =
          let p = and_parts (spares n a) (spares n i) h in
          then_same _ _ _ _ (evaluate_spared a p.0 ls q) (λ o r.
          then_same _ _ _ _ (evaluate_spared i p.1 ls r) (λ m s. refl))
      evaluate_spared (Negate e) h ls q = then_same _ _ _ _ (evaluate_spared e h ls q) (λ x r. refl)
      evaluate_spared (Not e) h ls q = then_same _ _ _ _ (evaluate_spared e h ls q) (λ x r. refl)
      evaluate_spared (Binary op a b) h ls q =
          let p = and_parts (spares n a) (spares n b) h in
          then_same _ _ _ _ (evaluate_spared a p.0 ls q) (λ x r.
          then_same _ _ _ _ (evaluate_spared b p.1 ls r) (λ y s. refl))
      evaluate_spared (And a b) h ls q =
          let p = and_parts (spares n a) (spares n b) h in
          then_same _ _ _ _ (evaluate_spared a p.0 ls q) (λ x r.
          if_same (truth_of x) _ _ _ _ (evaluate_spared b p.1 ls r) refl)
      evaluate_spared (Or a b) h ls q =
          let p = and_parts (spares n a) (spares n b) h in
          then_same _ _ _ _ (evaluate_spared a p.0 ls q) (λ x r.
          if_same (truth_of x) _ _ _ _ refl (evaluate_spared b p.1 ls r))
      evaluate_spared (Call e m es) h ls q =
          let p = and_parts (spares n e) (all_spare n es) h in
          then_same _ _ _ _ (evaluate_spared e p.0 ls q) (λ o r.
          then_same _ _ _ _ (arguments_spared es p.1 ls r) (λ vs s. refl))
      evaluate_spared (MakeObject c es) h ls q =
          then_same (ask (New c) (NewOf (types.Class c)) q) _ _ _ refl (λ o r.
          then_same _ _ _ _ (arguments_spared es h ls r) (λ vs s. refl))
      evaluate_spared MakeLock h ls q = refl
      evaluate_spared (MakeMarkable c es) h ls q = then_same _ _ _ _ (arguments_spared es h ls q) (λ vs r. refl)
      evaluate_spared (MakeArray e) h ls q = then_same _ _ _ _ (evaluate_spared e h ls q) (λ x r. refl)

      pub arguments_spared : (es : Expressions) →
          all_spare n es ≡ true →
          (ls : List Value) (q : Answers) →
          arguments classes calls es (but ls) q ≡ arguments classes calls es ls q
      arguments_spared End h ls q = refl
      arguments_spared (More e es) h ls q =
          let p = and_parts (spares n e) (all_spare n es) h in
          then_same _ _ _ _ (evaluate_spared e p.0 ls q) (λ x r.
          then_same _ _ _ _ (arguments_spared es p.1 ls r) (λ vs s. refl))
