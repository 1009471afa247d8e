-- Why no guard of the methods of a class is told.
use Rattle.std.specs.Prelude.{◌≡◌, ◌⊎◌, ℕ, List, [], Contains, Some, slice_get}
use Rattle.ls_checked.specs.CheckedTree.{File, Method}
use Rattle.ls_guarded.specs.Marks.{EachOf}
use Rattle.ls_guarded.specs.Shapes.{HoldsLock, HoldsMonitor}
use Rattle.ls_guarded.specs.declared.guard.Guard.{Guard}
use Rattle.ls_guarded.specs.declared.guard.Guard.TheVariants as guards
use Rattle.ls_guarded.specs.declared.reasons.Reason.{Reason}
use Rattle.ls_guarded.specs.declared.reasons.Reason.TheVariants as reasons

-- the body of the method of this number is a synchronized block on `this`
pub record HasMonitor (file : File) (m : ℕ) : Type 0 where
  pub method : Method
  pub there : slice_get file.methods m ≡ Some method
  pub holds : HoldsMonitor method.body

-- it takes the lock in field f of `this`, an object of class c, and gives it back at its end
pub record HasLock (file : File) (c f m : ℕ) : Type 0 where
  pub method : Method
  pub there : slice_get file.methods m ≡ Some method
  pub holds : HoldsLock c f method.body

-- none of the methods has one or the other
pub record HaveNone (file : File) (class : ℕ) (methods : List ℕ) : Type 0 where
  pub monitors : EachOf (λ m. ¬ HasMonitor file m) methods
  pub locks : EachOf (λ m. (f : ℕ) → ¬ HasLock file class f m) methods

-- Each has it. So what is done meanwhile, or what the constructor does, isn't of the form.
abbrev pub HaveAll : File → ℕ → List ℕ → Type 0
HaveAll file class methods =
    EachOf (λ m. HasMonitor file m) methods ⊎ ((f : ℕ) × EachOf (λ m. HasLock file class f m) methods)

abbrev pub IsReason : File → ℕ → List ℕ → Reason → Type 0
IsReason file class methods reasons.NoMethods = methods ≡ []
IsReason file class methods reasons.NoLock = HaveNone file class methods
IsReason file class methods (reasons.NotSynchronized m) = Contains methods m × ¬ HasMonitor file m
IsReason file class methods (reasons.NotLocked f m) = Contains methods m × ¬ HasLock file class f m
IsReason file class methods reasons.Inside = HaveAll file class methods

-- where no guard is told, the reason is so
abbrev pub IsExplained : File → ℕ → List ℕ → Guard → Type 0
IsExplained file class methods guards.Monitor = Unit {0}
IsExplained file class methods (guards.Field f) = Unit {0}
IsExplained file class methods (guards.No reason) = IsReason file class methods reason
