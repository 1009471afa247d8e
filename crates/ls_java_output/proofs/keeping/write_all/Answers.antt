-- Why `write_all` in src/keeping.rt may call `write_leaves`.

use Rattle.std.proofs.Common.{length}
use Rattle.ls_java_output.proofs.keeping.write_all.Goals as goal

pub write_leaves-requires-clause-kept : goal.write_leaves-requires-clause-kept
write_leaves-requires-clause-kept c =
    c.new-page.ensures.kept c.args.source.text.now (length c.args.source.tokens.now)
