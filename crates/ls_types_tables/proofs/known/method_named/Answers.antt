-- Why `method_named` in src/known.rt keeps its contract.

use Rattle.std.proofs.Common.{◌∙◌, ap, option_map}
use Rattle.ls_types_tables.specs.ByName.{method_entry}
use Rattle.ls_types_tables.proofs.Keys.{plain_method, table_method}
use Rattle.ls_types_tables.proofs.known.method_named.Goals as goal

pub returns : goal.returns
returns c =
    let name = c.args.name.now in
    plain_method (method_entry name) c.get.result
    ∙ ap (option_map (method_entry name)) c.get.ensures.value
    ∙ table_method c.args.methods.now.entries name
