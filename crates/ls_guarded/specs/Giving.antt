-- Which methods may give back a lock that another call has taken: they unlock, and take no lock.
use Rattle.std.specs.Prelude.{◌||◌, ◌&&◌, ℕ, zero, suc, Bool, true, false, List, [], length, map, not}
use Rattle.ls_checked.specs.declared.tree.Called.{Called}
use Rattle.ls_checked.specs.declared.tree.Called.TheVariants as calls
use Rattle.ls_checked.specs.CheckedTree.{Class, Expression, Literal, Slot, Field, Item, Negate, Not, Binary, And, Or}
use Rattle.ls_checked.specs.CheckedTree.{Call, MakeObject, MakeLock, MakeMarkable, MakeArray, Expressions, End, More}
use Rattle.ls_checked.specs.CheckedTree.{Statement, Block, SetSlot, SetField, AddField, SetItem, Evaluate, If, While}
use Rattle.ls_checked.specs.CheckedTree.{Break, Continue, ReturnNothing, ReturnValue, Try, Statements, Done, Then}
use Rattle.ls_checked.specs.CheckedTree.{File}
use Rattle.ls_meaning.specs.Expressions.{constructor_of}
use Rattle.ls_guarded.specs.Marks.{marked}
use Rattle.ls_guarded.specs.declared.giving.LockUse.{LockUse}
use Rattle.ls_guarded.specs.declared.giving.LockUse.TheVariants as uses

-- a marked method is called, or a lock is used so: taken by `lock()` or `tryLock()`, given back by `unlock()`
abbrev pub is_used : LockUse → List Bool → Called → Bool
is_used how marks (calls.Method m) = marked marks m
is_used uses.Takes marks calls.LockIt = true
is_used uses.Takes marks calls.TryIt = true
is_used uses.GivesBack marks calls.UnlockIt = true
is_used how marks called = false

module _ (how : LockUse) (marks : List Bool) (classes : List Class) where
  abbrev mutual
    -- so it is in an expression
    pub uses_in : Expression → Bool
    uses_in (Literal v) = false
    uses_in (Slot n) = false
    uses_in (Field e c f) = uses_in e
    uses_in (Item a i) = uses_in a || uses_in i
    uses_in (Negate e) = uses_in e
    uses_in (Not e) = uses_in e
    uses_in (Binary op a b) = uses_in a || uses_in b
    uses_in (And a b) = uses_in a || uses_in b
    uses_in (Or a b) = uses_in a || uses_in b
    uses_in (Call e called es) = uses_in e || (is_used how marks called || uses_in_all es)
    uses_in (MakeObject c es) = marked marks (constructor_of classes c) || uses_in_all es
    uses_in MakeLock = false
    uses_in (MakeMarkable c es) = uses_in_all es
    uses_in (MakeArray e) = uses_in e

    -- in one of some expressions
    pub uses_in_all : Expressions → Bool
    uses_in_all End = false
    uses_in_all (More e es) = uses_in e || uses_in_all es

  abbrev mutual
    -- in a statement
    pub uses_by : Statement → Bool
    uses_by (Block ss) = uses_by_all ss
    uses_by (SetSlot n e) = uses_in e
    uses_by (SetField e f v) = uses_in e || uses_in v
    uses_by (AddField e f v) = uses_in e || uses_in v
    uses_by (SetItem a i v) = uses_in a || (uses_in i || uses_in v)
    uses_by (Evaluate e) = uses_in e
    uses_by (If e a b) = uses_in e || (uses_by a || uses_by b)
    uses_by (While e s) = uses_in e || uses_by s
    uses_by (Break n) = false
    uses_by (Continue n) = false
    uses_by ReturnNothing = false
    uses_by (ReturnValue e) = uses_in e
    uses_by (Try b f) = uses_by b || uses_by f

    -- in one of some statements
    pub uses_by_all : Statements → Bool
    uses_by_all Done = false
    uses_by_all (Then s ss) = uses_by s || uses_by_all ss

-- a mark for each method: it uses a lock so itself, or calls a marked method
abbrev pub next_marks : LockUse → File → List Bool → List Bool
next_marks how file marks = map (λ m. uses_by how marks file.classes m.body) file.methods

-- it uses a lock so with at most so many calls in one another, its own among them
abbrev pub marks_within : LockUse → File → ℕ → List Bool
marks_within how file zero = []
marks_within how file (suc depth) = next_marks how file (marks_within how file depth)

-- A method uses a lock so, itself or by what it calls. A call that goes through more methods than there are goes
-- through one twice, so there is a shorter one.
abbrev pub uses_lock : LockUse → File → ℕ → Bool
uses_lock how file m = marked (marks_within how file (length file.methods)) m

-- a method may give back a lock that another call has taken
abbrev pub gives_back : File → ℕ → Bool
gives_back file m = uses_lock uses.GivesBack file m && not (uses_lock uses.Takes file m)
