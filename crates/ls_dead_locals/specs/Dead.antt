-- Locals that are dead: they aren't read any more before they are assigned.
use Rattle.std.specs.Prelude.{ℕ, Bool, true, not, ◌&&◌, ◌||◌, nat_eq}
use Rattle.ls_checked.specs.CheckedTree.{Expression, Literal, Slot, Field, Item, Negate, Not, Binary, And, Or, Call}
use Rattle.ls_checked.specs.CheckedTree.{MakeObject, MakeLock, MakeMarkable, MakeArray, Expressions, End, More}
use Rattle.ls_checked.specs.CheckedTree.{Statement, Block, SetSlot, SetField, AddField, SetItem, Evaluate, If, While}
use Rattle.ls_checked.specs.CheckedTree.{Break, Continue, ReturnNothing, ReturnValue, Try, Statements, Done, Then}
use Rattle.ls_dead_locals.specs.declared.statements.Ways.{Ways}

abbrev mutual
  -- an expression doesn't read the local of a slot (JLS 6.5.6.1)
  pub spares : ℕ → Expression → Bool
  spares n (Literal v) = true
  spares n (Slot m) = not (nat_eq m n)
  spares n (Field e c f) = spares n e
  spares n (Item a i) = spares n a && spares n i
  spares n (Negate e) = spares n e
  spares n (Not e) = spares n e
  spares n (Binary op a b) = spares n a && spares n b
  spares n (And a b) = spares n a && spares n b
  spares n (Or a b) = spares n a && spares n b
  spares n (Call e m es) = spares n e && all_spare n es
  spares n (MakeObject c es) = all_spare n es
  spares n MakeLock = true
  spares n (MakeMarkable c es) = all_spare n es
  spares n (MakeArray e) = spares n e

  pub all_spare : ℕ → Expressions → Bool
  all_spare n End = true
  all_spare n (More e es) = spares n e && all_spare n es

-- the ends of what comes before statements: its normal end is as this says
abbrev pub finished : Bool → Ways → Ways
finished normal w = record {
  value = w.value;
  normal = normal;
  jumped = w.jumped;
  returned = w.returned;
  threw = w.threw;
}

-- the ends of the body of a loop: after a normal one comes the loop, and a jump may go to the loop or behind it
abbrev pub in_body : Ways → Ways
in_body w = record {
  value = w.value;
  normal = true;
  jumped = w.normal && w.jumped;
  returned = w.returned;
  threw = w.threw;
}

-- the ends of a block: after each comes the same `finally` block
abbrev pub in_try : Bool → Ways → Ways
in_try dead w = record { value = w.value; normal = dead; jumped = dead; returned = dead; threw = dead }

abbrev pub all_ends : Ways → Bool
all_ends w = (w.normal && w.jumped) && (w.returned && w.threw)

abbrev pub both_ends : Ways → Bool
both_ends w = w.normal && w.threw

abbrev mutual
  -- the local of a slot is dead before a statement, if it is dead after these ends of the statement
  pub is_dead : ℕ → Statement → Ways → Bool
  is_dead n (Block ss) w = are_dead n ss w
  is_dead n (SetSlot m e) w = (nat_eq m n || w.normal) && (w.threw && spares n e)
  is_dead n (SetField e f v) w = both_ends w && (spares n e && spares n v)
  is_dead n (AddField e f v) w = both_ends w && (spares n e && spares n v)
  is_dead n (SetItem a i v) w = both_ends w && (spares n a && (spares n i && spares n v))
  is_dead n (Evaluate e) w = both_ends w && spares n e
  is_dead n (If e a b) w = (w.threw && spares n e) && (is_dead n a w && is_dead n b w)
  is_dead n (While e s) w = (both_ends w && spares n e) && is_dead n s (in_body w)
  is_dead n (Break m) w = w.jumped
  is_dead n (Continue m) w = w.jumped
  is_dead n ReturnNothing w = w.returned
  is_dead n (ReturnValue e) w = w.returned && (w.threw && spares n e)
  is_dead n (Try b f) w = is_dead n b (in_try (is_dead n f (finished (all_ends w) w)) w)

  pub are_dead : ℕ → Statements → Ways → Bool
  are_dead n Done w = w.normal
  are_dead n (Then s ss) w = is_dead n s (finished (are_dead n ss w) w)
