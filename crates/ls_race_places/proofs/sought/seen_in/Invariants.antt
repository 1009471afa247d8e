-- What the loop `at` of `seen_in` in src/sought.rt keeps.

use Rattle.std.proofs.Common.{◌≡◌, ◌≤◌, drop, map}
use Rattle.std.specs.Prelude.{string_bytes}
use Rattle.ls_race_places.specs.Scopes.{first_scope}
use Rattle.ls_race_places.specs.Seen.{seen_of}
use Rattle.ls_race_places.specs.Sought.{Nowhere, seen_in}
use Rattle.ls_race_places.proofs.sought.seen_in.Given as goal

abbrev pub invariant-loop-at : goal.invariant-loop-at
invariant-loop-at l = record {
  few : l.scope.depth ≤ l.at;
  all : seen_in l.text l.sought.name.now (map string_bytes l.sought.methods.now) l.sought.writes l.scope
      (seen_of l.seen) (drop l.at l.tokens) ≡
      seen_in l.text l.sought.name.now (map string_bytes l.sought.methods.now) l.sought.writes first_scope Nowhere
      l.tokens;
}
