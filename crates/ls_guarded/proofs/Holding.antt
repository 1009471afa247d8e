-- Which methods hold a monitor or a lock, from their bodies.
use Rattle.std.proofs.Common.{◌≡◌, inl, inr, ℕ, List, [], ◌∷◌, Option, Some, None, IfNone, ◌≤◌, length, drop}
use Rattle.std.proofs.Common.{slice_get}
use Rattle.std.proofs.Common.{◌-◌, sym, ◌∙◌, subst, arith, take, take_all}
use Rattle.std.specs.Prelude.{slice_index_or}
use Rattle.ls_checked.specs.declared.tree.Statement.{Statement as CodeStatement}
use Rattle.ls_checked.specs.Plain.{plain_statement, statements_of}
use Rattle.ls_checked.specs.CheckedTree.{File, Method, Statement, Statements, Block, Then}
use Rattle.ls_guarded.specs.Marks.{EachOf}
use Rattle.ls_guarded.specs.Reasons.{HasLock, HasMonitor, HaveAll}
use Rattle.ls_guarded.specs.Rounds.{lock_field}
use Rattle.ls_guarded.specs.Shapes.{HoldsLock, HoldsMonitor, LocksRun}

some_is : {x y : Method} → Some x ≡ Some y → x ≡ y
some_is p = cc

none_not : {x : Method} → None ≡ Some x → ⊥
none_not p = cc

-- the method is there: it holds the monitor exactly if its body does
pub has_monitor : (file : File) (m : ℕ) (method : Method) → slice_get file.methods m ≡ Some method →
    (HoldsMonitor method.body → HasMonitor file m) × (HasMonitor file m → HoldsMonitor method.body)
has_monitor file m method there = (
  λ x. record { method = method; there = there; holds = x },
  λ x. subst (λ (y : Method). HoldsMonitor y.body) (some_is (sym x.there ∙ there)) x.holds,
)

-- and the lock
pub has_lock : (file : File) (c f m : ℕ) (method : Method) → slice_get file.methods m ≡ Some method →
    (HoldsLock c f method.body → HasLock file c f m) × (HasLock file c f m → HoldsLock c f method.body)
has_lock file c f m method there = (
  λ x. record { method = method; there = there; holds = x },
  λ x. subst (λ (y : Method). HoldsLock c f y.body) (some_is (sym x.there ∙ there)) x.holds,
)

-- where no field is told, a body takes no lock
pub no_lock : (x : Option ℕ) (file : File) (m : ℕ) (method : Method) → slice_get file.methods m ≡ Some method →
    IfNone x ((c f : ℕ) → HoldsLock c f method.body → ⊥) → IfNone x ((c f : ℕ) → ¬ HasLock file c f m)
no_lock None file m method there none = λ c f y. none c f ((has_lock file c f m method there).1 y)
no_lock (Some n) file m method there none = tt

-- statements take none, if neither the first nor the others do
pub no_run : (x : Option ℕ) (s : Statement) (ss : Statements) → ((c f : ℕ) → s ≡ lock_field c f → ⊥) →
    IfNone x ((c f : ℕ) → LocksRun c f ss → ⊥) → IfNone x ((c f : ℕ) → LocksRun c f (Then s ss) → ⊥)
no_run None s ss first none = λ c f y. by_run c f y
  where
    by_run : (c f : ℕ) → LocksRun c f (Then s ss) → ⊥
    by_run c f (inl y) = first c f y.0
    by_run c f (inr y) = none c f y.1
no_run (Some n) s ss first none = tt

-- so of a list of statements, by its first
pub no_first : (x : Option ℕ) (ss : List CodeStatement) (s : CodeStatement) → 1 ≤ length ss →
    s ≡ slice_index_or ss 0 s → ((c f : ℕ) → plain_statement s ≡ lock_field c f → ⊥) →
    IfNone x ((c f : ℕ) → LocksRun c f (statements_of (take (length ss - 1) (drop 1 ss))) → ⊥) →
    IfNone x ((c f : ℕ) → LocksRun c f (statements_of ss) → ⊥)
no_first x [] s long is first none = absurd (omega arith)
no_first x (y ∷ ys) s long is first none =
    no_run x (plain_statement y) (statements_of ys) (subst (λ z. (c f : ℕ) → plain_statement z ≡ lock_field c f → ⊥)
    is first)
    (subst (λ zs. IfNone x ((c f : ℕ) → LocksRun c f (statements_of zs) → ⊥)) (take_all (length (y ∷ ys) - 1) ys
    (let most : length ys ≤ length (y ∷ ys) - 1 = omega arith in most)) none)

block_is : {ss ts : Statements} → Block ss ≡ Block ts → ss ≡ ts
block_is p = cc

-- nor does a block of these
pub no_block : (x : Option ℕ) (ss : Statements) → IfNone x ((c f : ℕ) → LocksRun c f ss → ⊥) →
    IfNone x ((c f : ℕ) → HoldsLock c f (Block ss) → ⊥)
no_block None ss none = λ c f y. none c f (subst (LocksRun c f) (sym (block_is y.is)) y.locked)
no_block (Some n) ss none = tt

-- all have the lock in a field
pub all_locked : (file : File) (class f : ℕ) (ms : List ℕ) → EachOf (λ m. HasLock file class f m) ms →
    HaveAll file class ms
all_locked file class f ms x = inr (f, x)

-- what holds of each class holds of one
pub of_class : (file : File) (class : ℕ) (ms : List ℕ) → EachOf (λ m. (c f : ℕ) → ¬ HasLock file c f m) ms →
    EachOf (λ m. (f : ℕ) → ¬ HasLock file class f m) ms
of_class file class [] x = tt
of_class file class (m ∷ ms) x = (x.0 class, of_class file class ms x.1)
