-- Why `texts` in src/pages.rt keeps its clauses `escapes` and `others`.

use Rattle.std.proofs.Common.{refl}
use Rattle.std.specs.Str.{chars}
use lib.Utf8.{encode}
use Rattle.ls_view_rows.proofs.pages.texts.Goals as goal

pub returns-clause-escapes : goal.returns-clause-escapes
unfolding chars encode
returns-clause-escapes c = refl

pub returns-clause-others : goal.returns-clause-others
unfolding chars encode
returns-clause-others c = refl
