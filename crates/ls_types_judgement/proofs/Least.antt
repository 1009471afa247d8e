-- What the rules allow follows from the ways that statements complete.
use Rattle.std.proofs.Common.{◌≡◌, ℕ, suc, ◌+◌, refl, subst, arith, Bool, true, false, ◌&&◌, ◌||◌, nat_eq}
use Rattle.std.specs.Prelude.{if◌then◌else◌}
use Rattle.ls_events.specs.declared.value.Value.{Value}
use Rattle.ls_checked.specs.CheckedTree.{Statement, Block, SetSlot, SetField, AddField, SetItem, Evaluate, If, While}
use Rattle.ls_checked.specs.CheckedTree.{Break, Continue, ReturnNothing, ReturnValue, Try, Statements, Done, Then}
use Rattle.ls_meaning.specs.declared.completion.Completion.{Completion}
use Rattle.ls_meaning.specs.declared.completion.Completion.TheVariants.{Normal, Broke}
use Rattle.ls_types_judgement.specs.Completion.{is_true, breaks, any_breaks, can_complete, all_complete}
use Rattle.ls_types_judgement.specs.Ways.{Closed}
use Rattle.ls_types_judgement.specs.CompletionLaws.{NoMoreThanWays}

no : false ≡ true → ⊥
no h = cc h

either_of : {C : Type 0} (a b : Bool) → (a || b) ≡ true → (a ≡ true → C) → (b ≡ true → C) → C
either_of true b h k l = k refl
either_of false b h k l = l h

both_of : {C : Type 0} (a b : Bool) → (a && b) ≡ true → (a ≡ true → b ≡ true → C) → C
both_of true b h k = k refl h
both_of false b h k = absurd (no h)

loop_of : {C : Type 0} (b x : Bool) → (if b then x else true) ≡ true → (b ≡ false → C) → (x ≡ true → C) → C
loop_of true x h k l = l h
loop_of false x h k l = k refl

same_number : (m n : ℕ) → nat_eq m n ≡ true → m ≡ n
same_number m n h = grind (arith, h)

next : (n : ℕ) → n + 1 ≡ suc n
next n = omega arith

module _ (P : Statement → Completion Value → Type 0) (Q : Statements → Completion Value → Type 0) (closed : Closed P Q)
    (passes : (s : Statement) (ss : Statements) (n : ℕ) → Q ss (Broke n) → Q (Then s ss) (Broke n)) where
  mutual
    pub normal : (s : Statement) → can_complete s ≡ true → P s Normal
    normal (Block ss) h = closed.block ss Normal (all_normal ss h)
    normal (SetSlot n e) h = closed.sets_slot n e
    normal (SetField e n v) h = closed.sets_field e n v
    normal (AddField e n v) h = closed.adds_field e n v
    normal (SetItem a i v) h = closed.sets_item a i v
    normal (Evaluate e) h = closed.evaluates e
    normal (If e a b) h = either_of (can_complete a) (can_complete b) h (λ k. closed.first e a b Normal (normal a k))
        (λ k. closed.second e a b Normal (normal b k))
    normal (While e s) h = loop_of (is_true e) (breaks 0 s) h (λ i. closed.leaves e s i)
        (λ k. closed.body e s (Broke 0) (broke 0 s k))
    normal (Break n) h = absurd (no h)
    normal (Continue n) h = absurd (no h)
    normal ReturnNothing h = absurd (no h)
    normal (ReturnValue e) h = absurd (no h)
    normal (Try b f) h = both_of (can_complete b) (can_complete f) h
        (λ k l. closed.tries b f Normal (normal b k) (normal f l))

    pub all_normal : (ss : Statements) → all_complete ss ≡ true → Q ss Normal
    all_normal Done h = closed.done
    all_normal (Then s ss) h = both_of (can_complete s) (all_complete ss) h
        (λ k l. closed.goes_on s ss Normal (normal s k) (all_normal ss l))

    pub broke : (n : ℕ) (s : Statement) → breaks n s ≡ true → P s (Broke n)
    broke n (Block ss) h = closed.block ss (Broke n) (all_broke n ss h)
    broke n (If e a b) h = either_of (breaks n a) (breaks n b) h (λ k. closed.first e a b (Broke n) (broke n a k))
        (λ k. closed.second e a b (Broke n) (broke n b k))
    broke n (While e s) h = closed.body e s (Broke (suc n)) (broke (suc n) s
        (subst (λ (m : ℕ). breaks m s ≡ true) (next n) h))
    broke n (Break m) h = subst (λ (k : ℕ). P (Break m) (Broke k)) (same_number m n h) (closed.break m)
    broke n (Try b f) h = either_of (can_complete f && breaks n b) (breaks n f) h
        (λ k. both_of (can_complete f) (breaks n b) k (λ k l. closed.tries b f (Broke n) (broke n b l) (normal f k)))
        (λ k. closed.finishes b f (Broke n) tt (broke n f k))
    broke n _ h = absurd (no h)

    pub all_broke : (n : ℕ) (ss : Statements) → any_breaks n ss ≡ true → Q ss (Broke n)
    all_broke n Done h = absurd (no h)
    all_broke n (Then s ss) h = either_of (breaks n s) (any_breaks n ss) h
        (λ k. closed.stops s ss (Broke n) tt (broke n s k)) (λ k. passes s ss n (all_broke n ss k))

-- the law: the rules allow no more than the ways to complete
pub no_more_than_ways : NoMoreThanWays
no_more_than_ways p q closed passes s = (
  normal (λ s c. p s c ≡ true) (λ ss c. q ss c ≡ true) closed passes s,
  λ n. broke (λ s c. p s c ≡ true) (λ ss c. q ss c ≡ true) closed passes n s,
)
