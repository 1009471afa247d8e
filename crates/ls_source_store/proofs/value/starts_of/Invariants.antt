-- What the loop `t` of `starts_of` in src/value.rt keeps.

use Rattle.std.proofs.Common.{◌≡◌, take}
use Rattle.std.specs.Prelude.{map}
use Rattle.ls_meaning.specs.Values.{start_of}
use Rattle.ls_source_store.proofs.value.starts_of.Given as goal

abbrev pub invariant-loop-t : goal.invariant-loop-t
invariant-loop-t l = l.starts.items ≡ map start_of (take l.t-index l.types)
