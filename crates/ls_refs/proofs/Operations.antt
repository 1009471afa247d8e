-- The words of operators compute the words of what the operators compute.
use Rattle.std.proofs.Common.{◌≡◌, ℕ, ◌%◌, ◌^◌, Bool, true, false, not, cond, List, refl, sym, ap, ◌∙◌, subst}
use Rattle.std.specs.Prelude.{pos, neg_ℤ, nat_eq}
use Rattle.std.specs.Ordering.{int_eq}
use Rattle.std.proofs.lemmas.Int.{SFits-int_wrap}
use mir.Syntax.{w32}
use Rattle.ls_events.specs.declared.kind.Kind.TheVariants.{Arithmetic}
use Rattle.ls_events.specs.declared.value.Value.{Value}
use Rattle.ls_events.specs.declared.value.Value.TheVariants.{Boolean}
use Rattle.ls_events.specs.declared.value.ValueType.{ValueType}
use Rattle.ls_events.specs.declared.value.ValueType.TheVariants as types
use Rattle.ls_checked.specs.declared.tree.Operator.{Operator}
use Rattle.ls_checked.specs.declared.tree.Operator.TheVariants.{Add, Subtract, Multiply, Divide, Remainder, Less}
use Rattle.ls_checked.specs.declared.tree.Operator.TheVariants.{LessEqual, Greater, GreaterEqual, Equal, NotEqual}
use Rattle.ls_meaning.specs.declared.sort.Sort.TheVariants.{ValueOf}
use Rattle.ls_meaning.specs.Values.{int_of, truth_of, wrapped, operated}
use Rattle.ls_meaning.specs.Course.{Answers, Evaluated, Results, Throws}
use Rattle.ls_meaning.specs.Expressions.{operate}
use Rattle.ls_lowered.specs.Words as words
use Rattle.ls_lowered.specs.Course as low
use Rattle.ls_lowered.specs.Expressions as courses
use Rattle.ls_refs.specs.ValueWords.{value_word}
use Rattle.ls_types_judgement.specs.Sorts.{HasType, HasSort}
use Rattle.ls_types_judgement.specs.Typing.{result_type, IsOperand}
use Rattle.ls_refs.specs.Calls.{lowered_operator}
use Rattle.ls_refs.proofs.Numbers.{sum_is, difference_is, product_is, quotient_is, remainder_is, negative_is, less_is}
use Rattle.ls_refs.proofs.Numbers.{at_most_is, zero_is, div_fits}
use Rattle.ls_refs.proofs.Values.{int_word, int_fits, truth_word, same_values}
use Rattle.ls_refs.proofs.Sim.{Agrees, gets_agrees, throws_agrees}

both : (f : ℕ → ℕ → ℕ) (a a' b b' : ℕ) → a ≡ a' → b ≡ b' → f a b ≡ f a' b'
both f a a' b b' e g = ap (λ n. f n b) e ∙ ap (λ n. f a' n) g

not_is : (b : Bool) → words.not_word (words.bool_word b) ≡ words.bool_word (not b)
not_is true = refl
not_is false = refl

module _ (P : ℕ → ValueType → Type 0) where
  abbrev Computes : ValueType →
      ℕ →
      List ℕ →
      (Answers → Evaluated Value) →
      (low.Answers → low.Course (low.Outcome ℕ)) →
      Type 0
  Computes t base old x x' = Agrees P (HasSort P (ValueOf t)) value_word base old x x'

  computed : (f : ℕ → ℕ → ℕ) (base : ℕ) (old : List ℕ) (x y v : Value) (t : ValueType) →
      HasType P x types.Int →
      HasType P y types.Int →
      HasType P v t →
      f (words.word_of (int_of x)) (words.word_of (int_of y)) ≡ value_word v →
      Computes t base old (λ q. Results v q) (λ q. low.Ends (low.Results (f (value_word x) (value_word y))) old q)
  computed f base old x y v t hx hy hv e = gets_agrees P (HasSort P (ValueOf t)) value_word base old v
      (f (value_word x) (value_word y)) hv (both f _ _ _ _ (int_word P x hx) (int_word P y hy) ∙ e)

  divides : (f : ℕ → ℕ → ℕ) (base : ℕ) (old : List ℕ) (x y v : Value) →
      HasType P x types.Int →
      HasType P y types.Int →
      HasType P v types.Int →
      f (words.word_of (int_of x)) (words.word_of (int_of y)) ≡ value_word v →
      Computes types.Int base old (λ q. cond (int_eq (int_of y) (pos 0)) (Throws Arithmetic q) (Results v q))
      (λ q. cond (nat_eq (value_word y % 2 ^ 32) 0) (low.Ends (low.Throws Arithmetic) old q)
      (low.Ends (low.Results (f (value_word x) (value_word y))) old q))
  divides f base old x y v hx hy hv e =
      let zero : nat_eq (value_word y % 2 ^ 32) 0 ≡ int_eq (int_of y) (pos 0) = ap (λ w. nat_eq (w % 2 ^ 32) 0)
      (int_word P y hy) ∙ zero_is (int_of y) (int_fits P y hy) in
      subst (λ b. Computes types.Int base old (λ q. cond (int_eq (int_of y) (pos 0)) (Throws Arithmetic q)
      (Results v q)) (λ q. cond b (low.Ends (low.Throws Arithmetic) old q)
      (low.Ends (low.Results (f (value_word x) (value_word y))) old q)))
      (sym zero) (by_case (int_eq (int_of y) (pos 0)))
    where
      by_case : (b : Bool) →
          Computes types.Int base old (λ q. cond b (Throws Arithmetic q) (Results v q))
          (λ q. cond b (low.Ends (low.Throws Arithmetic) old q)
          (low.Ends (low.Results (f (value_word x) (value_word y))) old q))
      by_case true = throws_agrees P (HasSort P (ValueOf types.Int)) value_word base old Arithmetic
      by_case false = computed f base old x y v types.Int hx hy hv e

  ints : (op : Operator) (x y : Value) (base : ℕ) (old : List ℕ) →
      IsOperand op types.Int →
      HasType P x types.Int →
      HasType P y types.Int →
      Computes (result_type op) base old (λ q. operate op x y q)
      (λ q. courses.operate (lowered_operator op) (value_word x) (value_word y) old q)
  ints Add x y base old r hx hy = computed words.sum_word base old x y (operated Add x y) types.Int hx hy
      (SFits-int_wrap w32 _) (sum_is _ _ (int_fits P x hx) (int_fits P y hy))
  ints Subtract x y base old r hx hy = computed words.difference_word base old x y (operated Subtract x y) types.Int hx
      hy (SFits-int_wrap w32 _) (difference_is _ _ (int_fits P x hx) (int_fits P y hy))
  ints Multiply x y base old r hx hy = computed words.product_word base old x y (operated Multiply x y) types.Int hx hy
      (SFits-int_wrap w32 _) (product_is _ _ (int_fits P x hx) (int_fits P y hy))
  ints Divide x y base old r hx hy = divides words.quotient_word base old x y (operated Divide x y) hx hy
      (div_fits (int_of x) (int_of y)) (quotient_is _ _ (int_fits P x hx) (int_fits P y hy))
  ints Remainder x y base old r hx hy = divides words.remainder_word base old x y (operated Remainder x y) hx hy
      (SFits-int_wrap w32 _) (remainder_is _ _ (int_fits P x hx) (int_fits P y hy))
  ints Less x y base old r hx hy = computed words.less_word base old x y (operated Less x y) types.Boolean hx hy tt
      (less_is _ _ (int_fits P x hx) (int_fits P y hy))
  ints LessEqual x y base old r hx hy = computed words.at_most_word base old x y (operated LessEqual x y) types.Boolean
      hx hy tt (at_most_is _ _ (int_fits P x hx) (int_fits P y hy))
  ints Greater x y base old r hx hy = computed (λ a b. words.less_word b a) base old x y (operated Greater x y)
      types.Boolean hx hy tt (less_is _ _ (int_fits P y hy) (int_fits P x hx))
  ints GreaterEqual x y base old r hx hy = computed (λ a b. words.at_most_word b a) base old x y
      (operated GreaterEqual x y) types.Boolean hx hy tt (at_most_is _ _ (int_fits P y hy) (int_fits P x hx))
  ints Equal x y base old r hx hy = gets_agrees P (HasSort P (ValueOf types.Boolean)) value_word base old
      (operated Equal x y) _ tt (same_values P types.Int x y hx hy)
  ints NotEqual x y base old r hx hy = gets_agrees P (HasSort P (ValueOf types.Boolean)) value_word base old
      (operated NotEqual x y) _ tt (ap words.not_word (same_values P types.Int x y hx hy) ∙ not_is _)

  -- an operator of two operands ends as its words do, also if it divides by zero
  pub operate_agrees : (op : Operator) (t : ValueType) (x y : Value) (base : ℕ) (old : List ℕ) →
      IsOperand op t →
      HasType P x t →
      HasType P y t →
      Computes (result_type op) base old (λ q. operate op x y q)
      (λ q. courses.operate (lowered_operator op) (value_word x) (value_word y) old q)
  operate_agrees Equal t x y base old r hx hy = gets_agrees P (HasSort P (ValueOf types.Boolean)) value_word base old
      (operated Equal x y) _ tt (same_values P t x y hx hy)
  operate_agrees NotEqual t x y base old r hx hy = gets_agrees P (HasSort P (ValueOf types.Boolean)) value_word base old
      (operated NotEqual x y) _ tt (ap words.not_word (same_values P t x y hx hy) ∙ not_is _)
  operate_agrees Add t x y base old r hx hy = ints Add x y base old refl (subst (HasType P x) r hx)
      (subst (HasType P y) r hy)
  operate_agrees Subtract t x y base old r hx hy = ints Subtract x y base old refl (subst (HasType P x) r hx)
      (subst (HasType P y) r hy)
  operate_agrees Multiply t x y base old r hx hy = ints Multiply x y base old refl (subst (HasType P x) r hx)
      (subst (HasType P y) r hy)
  operate_agrees Divide t x y base old r hx hy = ints Divide x y base old refl (subst (HasType P x) r hx)
      (subst (HasType P y) r hy)
  operate_agrees Remainder t x y base old r hx hy = ints Remainder x y base old refl (subst (HasType P x) r hx)
      (subst (HasType P y) r hy)
  operate_agrees Less t x y base old r hx hy = ints Less x y base old refl (subst (HasType P x) r hx)
      (subst (HasType P y) r hy)
  operate_agrees LessEqual t x y base old r hx hy = ints LessEqual x y base old refl (subst (HasType P x) r hx)
      (subst (HasType P y) r hy)
  operate_agrees Greater t x y base old r hx hy = ints Greater x y base old refl (subst (HasType P x) r hx)
      (subst (HasType P y) r hy)
  operate_agrees GreaterEqual t x y base old r hx hy = ints GreaterEqual x y base old refl (subst (HasType P x) r hx)
      (subst (HasType P y) r hy)

  -- so does a negation
  pub negate_agrees : (x : Value) (base : ℕ) (old : List ℕ) → HasType P x types.Int →
      Computes types.Int base old (λ q. Results (wrapped (neg_ℤ (int_of x))) q)
      (λ q. low.Ends (low.Results (words.negative_word (value_word x))) old q)
  negate_agrees x base old hx = gets_agrees P (HasSort P (ValueOf types.Int)) value_word base old
      (wrapped (neg_ℤ (int_of x))) _ (SFits-int_wrap w32 _) (ap words.negative_word (int_word P x hx) ∙
      negative_is _ (int_fits P x hx))

  -- so does `!`
  pub not_agrees : (x : Value) (base : ℕ) (old : List ℕ) → HasType P x types.Boolean →
      Computes types.Boolean base old (λ q. Results (Boolean (not (truth_of x))) q)
      (λ q. low.Ends (low.Results (words.not_word (value_word x))) old q)
  not_agrees x base old hx = gets_agrees P (HasSort P (ValueOf types.Boolean)) value_word base old
      (Boolean (not (truth_of x))) _ tt (ap words.not_word (truth_word P x hx) ∙ not_is _)
