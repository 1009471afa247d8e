-- Why `entries_of` in src/written.rt keeps its loop `line`.

use Rattle.std.proofs.Common.{◌∙◌, ◌==◌, ◌++◌, ap, arith, map}
use Rattle.ls_items.specs.Cutting.{plain_text}
use Rattle.ls_class_programs.specs.Written.{entries_from}
use Rattle.ls_class_programs.proofs.Lines.{all_fed, split_fed}
use Rattle.ls_class_programs.proofs.written.entries_of.Goals as goal

pub loop-line-init : goal.loop-line-init
loop-line-init c =
    let is = ap (map plain_text) c.deref-line-items.ensures.value ∙ c.in_ok-lines.ensures in
    let size = ap all_fed is ∙ split_fed (λ b. b == 10) c.args.text.now in
    record {
      had = ap (λ l. l ++ entries_from 0 (map plain_text c.deref-line-items.result.now)) c.new-all.ensures.items ∙
          ap (entries_from 0) is;
      size = omega (arith, size);
    }
