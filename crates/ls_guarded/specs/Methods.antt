-- Which methods of a file are guarded, and that what they call is plain.
use Rattle.std.specs.Prelude.{◌≡◌, ◌<◌, ℕ, suc, Bool, true, false, List, [], ◌∷◌, Some, length, slice_get}
use Rattle.ls_checked.specs.CheckedTree.{Class, File, Method}
use Rattle.ls_meaning.specs.Expressions.{constructor_of}
use Rattle.ls_one_at_a_time.specs.Inner.{IsSynchronized, RunsPlain}
use Rattle.ls_one_at_a_time.specs.Clean.{RunsClean}
use Rattle.ls_guarded.specs.Marks.{IsMarked, EachOf}
use Rattle.ls_guarded.specs.Rounds.{IsGuardedBody, IsMakingBody}

-- ---- monitors

module _ (marks : List Bool) (classes : List Class) where
  -- each marked method is plain, from number k on
  abbrev pub ArePlainFrom : ℕ → List Method → Type 0
  ArePlainFrom k [] = Unit {0}
  ArePlainFrom k (x ∷ xs) =
      (IsMarked marks k → RunsPlain (IsMarked marks) classes 0 x.body) × ArePlainFrom (suc k) xs

-- each of the methods is synchronized
abbrev pub AllSynchronized : (ℕ → Type 0) → File → List ℕ → Type 0
AllSynchronized Helps file ms = EachOf (λ m. IsSynchronized Helps file m) ms

-- all of the methods are synchronized, and what they and the constructor call is plain
pub record KeepsMonitor (marks : List Bool) (file : File) (class : ℕ) (methods : List ℕ) : Type 0 where
  pub kept : ArePlainFrom marks file.classes 0 file.methods
  pub constructor : IsMarked marks (constructor_of file.classes class)
  pub all : AllSynchronized (IsMarked marks) file methods

-- ---- a lock in a field

-- the class is there, with the field
pub record HasField (file : File) (c f : ℕ) : Type 0 where
  pub class : Class
  pub there : slice_get file.classes c ≡ Some class
  pub field : f < length class.fields

module _ (calls own others : List Bool) where
  module _ (classes : List Class) (f : ℕ) where
    -- a marked method is plain, and clean where it is called on `this` or on others
    pub record IsKept (k : ℕ) (method : Method) : Type 0 where
      pub called : IsMarked calls k → RunsPlain (IsMarked calls) classes 0 method.body
      pub on_this : IsMarked own k → RunsPlain (IsMarked calls) classes 0 method.body
      pub on_others : IsMarked others k → RunsPlain (IsMarked calls) classes 0 method.body
      pub clean : IsMarked own k → RunsClean (IsMarked own) (IsMarked others) classes f true method.body
      pub clean_others : IsMarked others k → RunsClean (IsMarked own) (IsMarked others) classes f false method.body

    -- of all methods, from number k on
    abbrev pub AreKeptFrom : ℕ → List Method → Type 0
    AreKeptFrom k [] = Unit {0}
    AreKeptFrom k (x ∷ xs) = IsKept k x × AreKeptFrom (suc k) xs

  -- a method that holds the lock in the field
  pub record IsGuarded (file : File) (c f m : ℕ) : Type 0 where
    pub method : Method
    pub there : slice_get file.methods m ≡ Some method
    pub body : IsGuardedBody (IsMarked calls) (IsMarked own) (IsMarked others) file.classes c f method.body

  -- each of the methods does
  abbrev pub AllGuarded : File → ℕ → ℕ → List ℕ → Type 0
  AllGuarded file c f ms = EachOf (λ m. IsGuarded file c f m) ms

  -- a constructor that makes the lock in the field
  pub record IsMade (file : File) (c f : ℕ) : Type 0 where
    pub method : Method
    pub there : slice_get file.methods (constructor_of file.classes c) ≡ Some method
    pub body : IsMakingBody (IsMarked calls) (IsMarked own) (IsMarked others) file.classes c f method.body

  -- all of the methods hold the lock in the field, and what they and the constructor call is plain and clean
  pub record KeepsLock (file : File) (class f : ℕ) (methods : List ℕ) : Type 0 where
    pub kept : AreKeptFrom file.classes f 0 file.methods
    pub constructor : IsMarked calls (constructor_of file.classes class)
    pub has : HasField file class f
    pub made : IsMade file class f
    pub all : AllGuarded file class f methods
