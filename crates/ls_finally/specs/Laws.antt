-- What the lowering keeps: if a thread enters a method, it asks for the same and ends in the same way, whatever the
-- answers are.
use Rattle.std.specs.Prelude.{◌≡◌, ℕ, List, length}
use Rattle.ls_lowered.specs.LoweredTree.{File}
use Rattle.ls_lowered.specs.Course.{Answers}
use Rattle.ls_lowered.specs.Methods.{invoke}
use Rattle.ls_finally.specs.Flat.{flat_file}
use Rattle.ls_finally.specs.Placed.{Takes, AllPlaced}

abbrev pub KeepsCourses : Type 0
KeepsCourses = (methods : File) → AllPlaced methods methods → (depth m : ℕ) (arguments : List ℕ) (answers : Answers) →
    Takes methods m (length arguments) → invoke (flat_file methods) depth m arguments answers ≡ invoke methods depth m
    arguments answers
