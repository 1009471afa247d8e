-- Why `write_whole` in src/writing.rt keeps its loop `done`.

use Rattle.std.proofs.Common.{◌≡◌, ◌∙◌, ◌≤◌, ◌-◌, arith, length, drop, take, length-drop}
use Rattle.std.proofs.lemmas.Grind.{common_steps}
use Rattle.ls_outlets.proofs.Parts.{appends_more}
use Rattle.ls_outlets.proofs.writing.write_whole.Goals as goal

pub loop-done-preserved : goal.loop-done-preserved
loop-done-preserved g c =
    let xs = c.args.bytes.now in
    let n = c.loop-done.done in
    let part : take (length xs - n) (drop n xs) ≡ drop n xs = grind (arith, common_steps) in
    let len = length-drop n xs in
    let fits : c.put-count.result ≤ length (drop n xs) = rw part at c.put-count.ensures.within in
    record {
      within = omega arith;
      written = appends_more _ _ _ n c.put-count.result xs _ part c.loop-done.invariant.written
          c.put-count.ensures.bytes;
      kept = λ e. c.put-count.ensures.same (omega arith) ∙ c.loop-done.invariant.kept e;
    }
