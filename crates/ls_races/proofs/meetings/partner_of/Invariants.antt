-- What the loop `other` of `partner_of` in src/meetings.rt keeps.
use Rattle.std.proofs.Common.{◌≢◌, ◌<◌, ℕ}
use Rattle.ls_race_laws.specs.declared.access.Access.{Access}
use Rattle.ls_race_laws.specs.Accesses.{Conflict}
use Rattle.ls_races.specs.Met.{IsNext}
use Rattle.ls_races.proofs.meetings.partner_of.Given as goal

abbrev pub invariant-loop-other : goal.invariant-loop-other
invariant-loop-other l = (v : ℕ) (a : Access) → v < l.other → l.one ≢ v → IsNext l.accesses v a → Conflict l.first a → ⊥
