-- Checked files in which each jump has its loop, and each method its value.
use Rattle.std.specs.Prelude.{◌≡◌, ℕ, true, false, Some, is_some, slice_get}
use Rattle.ls_checked.specs.CheckedTree.{Method, File}
use Rattle.ls_types_judgement.specs.Completion.{can_complete}
use Rattle.ls_types_judgement.specs.Leaving.{JumpsInLoops}

abbrev pub HasItsLoops : File → Type 0
HasItsLoops file = (n : ℕ) (m : Method) → slice_get file.methods n ≡ Some m → JumpsInLoops 0 m.body

-- a body of a method that answers a value can't complete normally (JLS 8.4.7)
abbrev pub HasItsEnds : File → Type 0
HasItsEnds file = (n : ℕ) (m : Method) → slice_get file.methods n ≡ Some m → is_some m.result ≡ true →
    can_complete m.body ≡ false
