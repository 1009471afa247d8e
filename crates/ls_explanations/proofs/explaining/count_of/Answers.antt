-- Why `count_of` in src/explaining.rt keeps its contract.

use Rattle.std.proofs.Common.{sym}
use Rattle.std.specs.Prelude.{string_bytes}
use Rattle.std.proofs.lemmas.List.{length-map}
use Rattle.ls_explanations.proofs.explaining.count_of.Goals as goal

pub returns : goal.returns
returns c = sym (length-map c.args.texts.now string_bytes)
