-- Where the methods of a checked file belong.
use Rattle.std.specs.Prelude.{◌≡◌, ℕ, ◌<◌, length, Some, slice_get}
use Rattle.ls_checked.specs.CheckedTree.{Method, File}

-- each method and constructor is one of a class of the file
abbrev pub HasItsClasses : File → Type 0
HasItsClasses file = (n : ℕ) (m : Method) → slice_get file.methods n ≡ Some m → m.class < length file.classes
