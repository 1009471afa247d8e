-- Each kind is that of its thread, whose calls neither begin nor end meanwhile.
use Rattle.std.proofs.Common.{◌≡◌, ◌⊎◌, inl, inr, ◌<◌, ◌≤◌, ℕ, true, Option, None, Some, refl, arith}
use Rattle.std.specs.Prelude.{nat_eq, IfNone, IfOk, IfSome, Result, Ok, Err}
use Rattle.std.proofs.lemmas.Bool.Decides.{nat_tests}
use Rattle.ls_progress.specs.Kinds.{kind_of}
use Rattle.ls_progress.specs.declared.kinds.Kind.{Kind}
use Rattle.ls_progress.specs.declared.kinds.Kind.TheVariants as kinds

pub thread_of : (k : Kind) (t : ℕ) → t ≡ (kind_of k t).thread
thread_of kinds.WaitFree t = refl
thread_of kinds.LockFree t = refl
thread_of kinds.ObstructionFree t = refl

same_thread : (t : ℕ) → nat_eq t t ≡ true
same_thread t = grind (arith, nat_tests)

pub quiet_of : (k : Kind) (t : ℕ) → (kind_of k t).quiet (kind_of k t).thread ≡ true
quiet_of kinds.WaitFree t = same_thread t
quiet_of kinds.LockFree t = refl
quiet_of kinds.ObstructionFree t = same_thread t

-- two facts of a value, if there is one, give a third
pub by_both : {A : Type 0} (o : Option A) (P Q R : A → Type 0) → ((x : A) → P x → Q x → R x) → IfSome o P →
    IfSome o Q →
    IfSome o R
by_both None P Q R f p q = tt
by_both (Some x) P Q R f p q = f x p q

pub ok_both : {A E : Type 0} (r : Result (Option A) E) (P Q R : A → Type 0) → ((x : A) → P x → Q x → R x) →
    IfOk r (λ o. IfSome o P) →
    IfOk r (λ o. IfSome o Q) →
    IfOk r (λ o. IfSome o R)
ok_both (Ok o) P Q R f p q = by_both o P Q R f p q
ok_both (Err e) P Q R f p q = tt

-- one of two numbers is less, or it isn't
pub by_place : {A : Type 0} {i n : ℕ} → (i < n) ⊎ (n ≤ i) → ((i < n) → A) → ((n ≤ i) → A) → A
by_place (inl less) f g = f less
by_place (inr past) f g = g past

-- what is so of a value, if there is one, or if there is none, gives another fact
pub ok_some : {A E : Type 0} (r : Result (Option A) E) (P Q : A → Type 0) → ((x : A) → P x → Q x) →
    IfOk r (λ o. IfSome o P) →
    IfOk r (λ o. IfSome o Q)
ok_some (Ok None) P Q f p = tt
ok_some (Ok (Some x)) P Q f p = f x p
ok_some (Err e) P Q f p = tt

pub ok_none : {A E : Type 0} (r : Result (Option A) E) (P Q : Type 0) → (P → Q) → IfOk r (λ o. IfNone o P) →
    IfOk r (λ o. IfNone o Q)
ok_none (Ok None) P Q f p = f p
ok_none (Ok (Some x)) P Q f p = tt
ok_none (Err e) P Q f p = tt
