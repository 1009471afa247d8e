-- Why `count_methods` in src/files.rt keeps its loop `method`.

use Rattle.std.proofs.Common.{rules, ◌≤◌}
use Rattle.ls_lowered.specs.declared.tree.Method.{Method}
use Rattle.ls_lowered.specs.Plain.{plain_statement}
use Rattle.ls_lowered.proofs.Taken.{all_more}
use Rattle.ls_linker.specs.Costs.{copied, counted_size}
use Rattle.ls_linker.proofs.WholeCounts.{mapped_one}
use Rattle.ls_linker.proofs.files.count_methods.Goals as goal

pub loop-method-preserved : goal.loop-method-preserved
loop-method-preserved c = (
  mapped_one (λ (m : Method). counted_size (plain_statement m.body)) c.loop-method.out.items c.push.new.self.items
      c.in_ok-count_method.field-0 c.args.methods.now c.loop-method.method-index c.method-item.result (search rules)
      c.method-item.is
      c.in_ok-push.ensures.items c.in_ok-count_method.ensures.length c.loop-method.invariant.0,
  all_more (λ (m : Method). copied (plain_statement m.body) ≤ 4096) c.args.methods.now c.loop-method.method-index
      c.method-item.result (search rules) c.method-item.is c.loop-method.invariant.1 c.in_ok-count_method.ensures.few,
)
