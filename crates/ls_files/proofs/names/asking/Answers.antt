-- Why `asking` in src/names.rt keeps its contract.

use Rattle.std.proofs.Common.{◌∙◌, ap, map, sym, take}
use Rattle.std.specs.Prelude.{string_bytes}
use Rattle.ls_files.specs.Names.{begins_names}
use Rattle.ls_files.proofs.Words.{place_of_mapped, take_mapped}
use Rattle.ls_files.proofs.names.asking.Goals as goal

pub returns : goal.returns
returns c =
    let words = c.args.words.now in
    take_mapped string_bytes c.count_before-count.result words
    ∙ ap (λ n. take n (map string_bytes words))
    (c.count_before-count.ensures.value ∙ sym (place_of_mapped string_bytes begins_names words))
