-- Why `told_of` in src/programs.rt keeps its contract.

use Rattle.std.proofs.Common.{inl, subst}
use Rattle.std.proofs.lemmas.Result.{IfOk-weaker}
use Rattle.ls_alone.specs.Alone.{AreTold}
use Rattle.ls_image.specs.Images.{program_of_image}
use Rattle.ls_labels.specs.Names.{names_of}
use Rattle.ls_schedule.specs.Reading.{thread_names}
use Rattle.ls_find_serial.specs.Told.{IsToldOf}
use Rattle.ls_find_serial.proofs.programs.told_of.Goals as goal

pub returns-in-Ok : goal.returns-in-Ok
returns-in-Ok c =
    IfOk-weaker c.tell.result (AreTold (names_of c.names_in.result) (thread_names c.names_in.result.program.now))
    (IsToldOf c.args.classes.now c.args.program.now) (λ t told. inl (record {
      image = c.in-Ok.image;
      compiles = c.in-Ok.ensures.compiled;
      told = subst (λ n. AreTold n (thread_names (program_of_image c.in-Ok.image)) t) c.names_in.ensures.names
          (subst (λ p. AreTold (names_of c.names_in.result) (thread_names p) t) c.names_in.ensures.program told);
    })) c.tell.ensures
