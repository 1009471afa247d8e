-- Why `instead_of` in src/java.rt keeps its contract.

use Rattle.std.proofs.Common.{◌∙◌, ap}
use Rattle.std.specs.Prelude.{string_bytes}
use Rattle.ls_files.specs.Joining.{with_first}
use Rattle.ls_tool.specs.Restated.{behind_of}
use Rattle.ls_tool.proofs.java.instead_of.Goals as goal

pub returns : goal.returns
returns c = record {
  text = string_bytes c.in-Ok.made.text;
  places = c.in-Ok.made.places.items;
  restated = c.in-Ok.ensures;
  is = c.in_ok-input.ensures ∙ ap (λ t. with_first t c.as_bytes-2.result.now) c.as_bytes.ensures.value
      ∙ ap (with_first (string_bytes c.in-Ok.made.text)) c.as_bytes-2.ensures.value;
  stands = c.in_ok-behind.ensures ∙ ap (behind_of c.args.request c.args.file.now) c.as_slice.ensures.value;
}
