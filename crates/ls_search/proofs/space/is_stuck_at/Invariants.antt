-- What the loop `thread` of `is_stuck_at` in src/space.rt keeps.
use Rattle.std.proofs.Common.{◌≡◌, ◌<◌, ℕ, true, false}
use Rattle.ls_meaning.specs.declared.step.Did.TheVariants as did
use Rattle.ls_meaning.specs.Still.{IsStill}
use Rattle.ls_search_laws.specs.Configuration.{stride}
use Rattle.ls_transitions.specs.Seen.{table_of}
use Rattle.ls_transitions.specs.Tables.{Grows}
use Rattle.ls_search.specs.Places.{configuration_of}
use Rattle.ls_search.proofs.space.is_stuck_at.Given as goal

abbrev pub invariant-loop-thread : goal.invariant-loop-thread
invariant-loop-thread l = record {
  grows : Grows (table_of l.fn.transitions) (table_of l.transitions);
  free : l.waits ≡ false → (u : ℕ) → u < l.thread →
      (stride (table_of l.fn.transitions).file (configuration_of (table_of l.fn.transitions) l.place) u).did ≡
      did.Waits →
      ⊥;
  still : (u : ℕ) → u < l.thread →
      IsStill (stride (table_of l.fn.transitions).file (configuration_of (table_of l.fn.transitions) l.place) u).did;
  waiting : l.waits ≡ true →
      (u : ℕ)
      × ((stride (table_of l.fn.transitions).file (configuration_of (table_of l.fn.transitions) l.place) u).did ≡
      did.Waits);
}
