-- Why `first_spots` in src/spots.rt keeps its contract.

use Rattle.std.proofs.Common.{[], ◌∷◌, ◌++◌, ap, refl, subst, sym, ◌∙◌}
use Rattle.ls_checked.specs.CheckedTree.{File}
use Rattle.ls_checked.specs.CheckedProgram.{Program}
use Rattle.ls_checked.specs.Plain.{plain_file}
use Rattle.ls_checked.specs.PlainProgram.{plain_program}
use Rattle.ls_meaning.specs.Runs.{source_history}
use Rattle.ls_search_laws.specs.Stepping.{ActAll}
use Rattle.ls_serial.specs.Serial.{IsSerial}
use Rattle.ls_serial_search.specs.Orders.{progress_at}
use Rattle.ls_source.specs.Stands.{StandsFor}
use Rattle.ls_automaton.proofs.spots.first_spots.Goals as goal

pub returns : goal.returns
returns c =
    let file : File = plain_file c.args.task.now.file.now in
    let program : Program = plain_program c.args.task.now.program.now in
    let s = c.in_ok-first_spot.field-0 in (
      s,
      c.in_ok-push.ensures.items ∙ ap (λ l. l ++ s ∷ []) c.new-list.ensures.items,
      record {
        steps = c.in_ok-first_spot.ensures.steps;
        is = record {
          run = c.in_ok-run.run';
          mark = c.in_ok-first_spot.ensures.mark;
          at = subst (λ l. StandsFor c.in_ok-run.run' (progress_at file program l))
              (sym c.in_ok-first_spot.ensures.steps) c.in_ok-run.ensures;
          serial = subst (λ l. IsSerial (source_history file program l)) (sym c.in_ok-first_spot.ensures.steps) tt;
          acts = subst (ActAll file program) (sym c.in_ok-first_spot.ensures.steps) refl;
        };
      },
    )
