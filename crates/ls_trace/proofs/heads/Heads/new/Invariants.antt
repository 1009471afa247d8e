-- What the loop `place` of `Heads::new` in src/heads.rt keeps.

use Rattle.std.specs.Prelude.{All}
use Rattle.ls_labels.specs.Names.{names_of}
use Rattle.ls_trace.specs.Deeds.{IsOfKey}
use Rattle.ls_trace.proofs.heads.Heads.new.Given as goal

abbrev pub invariant-loop-place : goal.invariant-loop-place
invariant-loop-place l = All (IsOfKey (names_of l.names)) l.kept.items
