-- Why `windows` in src/pages.rt keeps its contract.

use Rattle.std.proofs.Common.{refl}
use Rattle.std.specs.Fmt.{digits}
use Rattle.std.specs.Int.{int_wrap}
use Rattle.std.specs.Str.{chars}
use lib.Utf8.{encode}
use Rattle.ls_meaning.specs.Methods.{invoke, depth_limit}
use Rattle.ls_view_rows.proofs.pages.windows.Goals as goal

pub returns : goal.returns
unfolding chars encode digits int_wrap invoke depth_limit
returns c = record { middle = refl; same = refl }
