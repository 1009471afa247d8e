-- Why `push_switches` in src/wording.rt keeps its contract.

use Rattle.std.proofs.Common.{◌++◌, ◌∙◌, Bool, sym, ap}
use Rattle.std.specs.Prelude.{string_bytes, codes}
use Rattle.std.specs.Fmt.{decimal}
use Rattle.ls_fewest_switches.specs.Wording.{switches_text}
use Rattle.ls_fewest_switches.proofs.wording.push_switches.Goals as goal

pub returns-in_ok-write : goal.returns-in_ok-write
returns-in_ok-write c =
    c.in_ok-write.ensures.bytes
    ∙ ap (λ n. string_bytes c.args.out.now ++ (codes "; context switches " ++ decimal n)) c.switches-count.ensures
    ∙ ap (λ (b : Bool). string_bytes c.args.out.now ++ switches_text b c.args.run.now.schedule) (sym c.if-run.true)
