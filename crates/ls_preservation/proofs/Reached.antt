-- Each machine that a schedule reaches follows the state that its source schedule reaches.
use Rattle.std.proofs.Common.{ℕ, List, map, subst}
use Rattle.ls_events.specs.declared.value.Value.{Value}
use Rattle.ls_checked.specs.CheckedTree.{File}
use Rattle.ls_checked.specs.CheckedProgram.{Program}
use Rattle.ls_meaning.specs.Steps.{run}
use Rattle.ls_meaning.specs.Steps as source
use Rattle.ls_meaning.specs.Runs.{State, start, source_step, source_run}
use Rattle.ls_code.specs.Code.{Code}
use Rattle.ls_code.specs.Machine.{Machine, Entry, loaded, machine_run}
use Rattle.ls_preservation.specs.Threads.{Asks}
use Rattle.ls_preservation.specs.Translations.{to_source}
use Rattle.ls_preservation.specs.Same.{IsCells}
use Rattle.ls_preservation.proofs.Setting.{Setting, setting_of}
use Rattle.ls_preservation.proofs.Meaning.{Means}
use Rattle.ls_preservation.proofs.Runs.{md, run_is, trace_is}
use Rattle.ls_preservation.proofs.LiftBack
use Rattle.ls_preservation.proofs.Following
use Rattle.ls_preservation.proofs.Theorem

module _ (file : File) (program : Program) (code : Code) (asks : Asks file program code) (sound : Means file program)
    (room : ℕ) (within : IsCells code room) where
  abbrev setting : Setting
  setting = setting_of file program code asks sound room within

  open Following.notions setting use {Follows, Live, Later, write}

  -- after each schedule the machine follows the source
  pub follows_all : (ts : List ℕ) →
      Follows (source_run file program (to_source code room ts)) (machine_run (loaded code room) ts)
  follows_all ts =
      let r =
      LiftBack.to_source_right State Machine (source.Entry Value) Entry (source_step file program) md (λ f. f.thread)
      write Follows Later Live
      (Theorem.back_laws file program code asks sound room within) ts (start program) (loaded code room)
      (Theorem.follows_start file program code asks sound room within) in
      subst (λ z. Follows (source_run file program (to_source code room ts)) z) (run_is ts (loaded code room))
      (subst (λ fs. Follows (run (source_step file program) (start program) (map (λ f. f.thread) fs))
      (run md (loaded code room) ts)) (trace_is ts (loaded code room)) r.0)
