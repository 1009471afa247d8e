-- What the loop `count` of `settle` in src/advancing.rt keeps.

use Rattle.std.proofs.Common.{◌≡◌, length, replicate}
use Rattle.ls_search_laws.specs.Search.{LeadsTo}
use Rattle.ls_transitions.specs.Tables.{Grows}
use Rattle.ls_transitions.specs.Seen.{table_of}
use Rattle.ls_search.specs.Places.{IsThere, configuration_of}
use Rattle.ls_search.specs.Strides.{HasStarted, at_once}
use Rattle.ls_search.proofs.advancing.settle.Given as goal

abbrev pub invariant-loop-count : goal.invariant-loop-count
invariant-loop-count l = record {
  there : IsThere (table_of l.transitions) l.place;
  width : length l.place.works.items ≡ length l.fn.place.works.items;
  started : HasStarted (configuration_of (table_of l.transitions) l.place) l.thread;
  grows : Grows (table_of l.fn.transitions) (table_of l.transitions);
  leads : LeadsTo at_once (table_of l.fn.transitions).file
      (configuration_of (table_of l.fn.transitions) l.fn.place)
      (replicate l.count l.thread) (configuration_of (table_of l.transitions) l.place);
  noted : l.place.noted ≡ l.fn.place.noted;
}
