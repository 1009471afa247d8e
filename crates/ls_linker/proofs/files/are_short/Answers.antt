-- Why `are_short` in src/files.rt keeps its contract and its loop `length`.

use Rattle.ls_code.specs.Limits.{most_instructions}
use Rattle.std.proofs.Common.{rules, ◌≤◌}
use Rattle.std.specs.Prelude.{slice_index}
use Rattle.ls_lowered.proofs.Taken.{all_more, all_done}
use Rattle.ls_linker.proofs.files.are_short.Goals as goal

pub loop-length-preserved : goal.loop-length-preserved
loop-length-preserved c =
    all_more (λ n. n ≤ most_instructions) c.args.lengths.now c.loop-length.length-index
    (slice_index c.args.lengths.now c.loop-length.length-index) (search rules) (search rules)
    c.loop-length.invariant (search rules)

pub returns : goal.returns
returns c = (
  λ _. all_done (λ n. n ≤ most_instructions) c.args.lengths.now c.loop-length.length-index (search rules)
      c.loop-length.invariant,
  λ _. search rules,
)
