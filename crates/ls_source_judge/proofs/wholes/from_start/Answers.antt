-- Why `from_start` in src/wholes.rt keeps its contract.

use Rattle.std.proofs.Common.{◌≡◌, ◌++◌, List, replicate, rules, subst, ℕ}
use Rattle.ls_checked.specs.CheckedTree.{File}
use Rattle.ls_checked.specs.CheckedProgram.{Program}
use Rattle.ls_checked.specs.Plain.{plain_file}
use Rattle.ls_checked.specs.PlainProgram.{plain_program}
use Rattle.ls_source_judge.specs.Wholes.{IsActingOf}
use Rattle.ls_source_judge.proofs.wholes.from_start.Goals as goal

pub returns : goal.returns
returns c =
    let file : File = plain_file c.args.file.now in
    let program : Program = plain_program c.args.program.now in
    let all : c.as_slice.result.now ≡ replicate c.args.setup 0 ++ c.args.path.now = search rules in
    subst (λ (s : List ℕ). IsActingOf file program s c.in_ok-acting.acting.items) all (record {
      acts = c.in_ok-acting.ensures.acts;
      state = c.in_ok-acting.ensures.run;
      history = c.in_ok-acting.ensures.history;
    })
