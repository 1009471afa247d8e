-- Why `note_place` in src/choosing.rt keeps its clause `lasts`.

use Rattle.std.proofs.Common.{length, get_or}
use Rattle.std.proofs.lemmas.Option.{slice_get-get_or}
use Rattle.ls_history_numbers.proofs.Telling.{lasts_set}
use Rattle.ls_history_numbers.proofs.choosing.note_place.Goals as goal

pub returns-clause-lasts : goal.returns-clause-lasts
returns-clause-lasts c = λ h.
    let within = slice_get-get_or c.args.numbers.now c.args.at 0 c.requires.at in
    lasts_set c.args.numbers.now c.args.lasts.now.items (length c.args.lasts.now.items) c.args.at
    (get_or c.args.numbers.now c.args.at 0) h within
    (c.requires.there c.args.at (get_or c.args.numbers.now c.args.at 0) within)
