-- Why `compiled_runs` in src/compiled.rt keeps its contract.

use Rattle.std.proofs.Common.{refl}
use Rattle.std.proofs.Math.Logic.{∥∥₁_elim}
use Rattle.ls_emit.specs.Units.{units_of}
use Rattle.ls_linker.specs.Linked.{words_of, threads_code, threads_rows}
use Rattle.ls_linker.proofs.ThreadRuns.{threads_from}
use Rattle.ls_linker.proofs.UnitRuns.{lie_in}
use Rattle.ls_linker.specs.Compiled.{flat_of, code_of}
use Rattle.ls_linker.proofs.Composed.{lowered_asks}
use Rattle.ls_linker.proofs.BuiltOnce.{runs_once}
use Rattle.ls_linker.proofs.compiled.compiled_runs.Goals as goal

pub returns : goal.returns
returns c = λ file program merely_well merely_reads placed emittable short.
    let once = runs_once file program (code_of file program) in
    ∥∥₁_elim merely_well once (λ well. ∥∥₁_elim merely_reads once (λ reads.
    let typed = well.typed in
    let constants = well.constants in
    let program_constants = reads.constants in
    let flat = flat_of file in
    let words = words_of (units_of flat) in
    let asks = c.linked_asks.ensures file program flat (lowered_asks file typed (c.suited_in_call.ensures file typed)
    c.keeps_courses.ensures placed) emittable (c.units_ask.ensures flat emittable) reads.typed in
    let sound = c.is_sound.ensures file program typed well.classes reads.typed in
    let lies = lie_in (code_of file program) flat (threads_code file.classes program.threads)
    (threads_rows file.classes words program.threads) (threads_from file.classes program.threads words) refl
    refl refl in
    record {
      same = c.same_traces.ensures file program (code_of file program) asks constants program_constants sound;
      asks = asks;
      words = c.asks_by_words.ensures file program (code_of file program) asks
          (c.linked_exchanges.ensures file program flat);
      acts = c.acts_in_time.ensures file program (code_of file program) asks constants program_constants sound;
      ends = c.ends_in_time.ensures file program (code_of file program) asks constants program_constants sound;
      frames = c.frames_are_quick.ensures flat emittable (code_of file program) words lies;
      threads = c.threads_are_quick.ensures file program flat;
      short = short;
      lean = c.sizes.ensures.code file program flat;
    }))
