-- Why `simplest_by` in src/simplifying.rt keeps its clauses `bad` and `fewest`.

use Rattle.std.proofs.Common.{◌≡◌, Bool, true, false, refl}
use Rattle.ls_checked.specs.CheckedTree.{File}
use Rattle.ls_checked.specs.CheckedProgram.{Program}
use Rattle.ls_checked.specs.Plain.{plain_file}
use Rattle.ls_checked.specs.PlainProgram.{plain_program}
use Rattle.ls_meaning.specs.Runs.{source_history}
use Rattle.ls_source_judge.specs.Laws.{is_bad}
use Rattle.ls_source_judge.proofs.simplifying.simplest_by.Goals as goal

-- what isn't false is true
by : {bad : Bool} (b : Bool) → bad ≡ b → (bad ≡ false → ⊥) → bad ≡ true
by true e not_good = e
by false e not_good = absurd (not_good e)

pub returns-clause-bad : goal.returns-clause-bad
returns-clause-bad c = λ sfile sprogram good bad wrong.
    let file : File = plain_file c.args.file.now in
    let program : Program = plain_program c.args.program.now in
    let o = c.args.serial.now.observer in
    let found = c.args.found.now in
    bad file program c.in_ok-run.run'.schedule
    (c.in_ok-run.ensures.sought
    (by (is_bad o (source_history file program found)) refl (λ e. wrong (good file program found e))))

pub returns-clause-fewest : goal.returns-clause-fewest
returns-clause-fewest c = λ is sfile sprogram good s wrong.
    let file : File = plain_file c.args.file.now in
    let program : Program = plain_program c.args.program.now in
    let o = c.args.serial.now.observer in
    c.in_ok-run.ensures.fewest is s
    (by (is_bad o (source_history file program s)) refl (λ e. wrong (good file program s e))) tt
