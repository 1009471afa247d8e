-- Why `schedules` in src/aims.rt keeps its clauses `steps`, `missed` and `lost`.

use Rattle.std.proofs.Common.{refl}
use Rattle.std.specs.Fmt.{digits}
use Rattle.std.specs.Int.{int_wrap}
use Rattle.std.specs.Str.{chars, is_utf8}
use Rattle.std.specs.Str.Lossy.{utf8_valid_len}
use lib.Utf8.{encode}
use Rattle.ls_lexer.specs.Names.{is_name}
use Rattle.ls_meaning.specs.Methods.{invoke, depth_limit}
use Rattle.ls_view_rows.proofs.aims.schedules.Goals as goal

pub returns-clause-steps : goal.returns-clause-steps
unfolding digits int_wrap invoke depth_limit is_name utf8_valid_len is_utf8 chars encode
returns-clause-steps c = (refl, refl)

pub returns-clause-missed : goal.returns-clause-missed
unfolding digits int_wrap invoke depth_limit is_name utf8_valid_len is_utf8 chars encode
returns-clause-missed c = (refl, refl, refl, refl)

pub returns-clause-lost : goal.returns-clause-lost
unfolding digits int_wrap invoke depth_limit is_name utf8_valid_len is_utf8 chars encode
returns-clause-lost c = refl
