-- What the loop `turn` of `setup_steps` in src/setup.rt keeps.

use Rattle.std.proofs.Common.{◌≡◌, replicate}
use Rattle.std.specs.Prelude.{All}
use Rattle.ls_labels.specs.Names.{names_of}
use Rattle.ls_trace.specs.SeenTeller.{RunsNamed, names_in, told_of}
use Rattle.ls_choices.specs.Schedules.{told_after}
use Rattle.ls_search_laws.specs.Stepping.{ActAll}
use Rattle.ls_page.proofs.setup.setup_steps.Given as goal

abbrev pub invariant-loop-turn : goal.invariant-loop-turn
invariant-loop-turn l = record {
  run : told_of l.teller ≡ told_after (names_of l.fn.names) l.steps.items;
  names : names_in l.teller ≡ names_of l.fn.names;
  runs : RunsNamed l.teller;
  alone : All (λ t. t ≡ 0) l.steps.items;
  acts : ActAll (names_of l.fn.names).file (names_of l.fn.names).program l.steps.items;
  zeros : l.steps.items ≡ replicate l.turn 0;
}
