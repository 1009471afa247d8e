-- Why `lines_of` in src/beside.rt keeps its contract.

use Rattle.std.proofs.Common.{◌∙◌, ◌++◌, ap}
use Rattle.std.specs.Prelude.{string_bytes}
use Rattle.ls_explore_commands.proofs.beside.lines_of.Goals as goal

pub returns : goal.returns
returns c =
    let alone = string_bytes c.in_ok-alone.alone in
    let races = c.args.races.now in
    record {
      alone = alone;
      livelock = string_bytes c.in_ok-livelock.livelock;
      are_said = c.in_ok-alone.ensures;
      is_said = c.in_ok-livelock.ensures;
      is = c.in_ok-lines.ensures ∙ ap (λ t. alone ++ (t ++ races)) c.as_str.ensures.value;
    }
