-- Why `file_names_in` in src/names.rt keeps its contract.

use Rattle.std.proofs.Common.{◌≡◌, ◌∙◌, ◌+◌, ◌-◌, ◌<◌, ap, arith, drop, length, map, sym, take, Some}
use Rattle.std.specs.List.{position_or_len}
use Rattle.std.specs.Prelude.{string_bytes}
use Rattle.std.proofs.lemmas.List.{length-map}
use Rattle.std.proofs.lemmas.Grind.{common_steps}
use Rattle.ls_files.specs.Names.{begins_names}
use Rattle.ls_files.proofs.Words.{drop_mapped, names_after, no_names, place_of_mapped}
use Rattle.ls_files.proofs.names.file_names_in.Goals as goal

pub returns-then-count-words : goal.returns-then-count-words
returns-then-count-words c =
    let words = c.args.words.now in
    let n = c.count_before-count.result in
    let texts = map string_bytes words in
    let is : n ≡ position_or_len begins_names texts =
    c.count_before-count.ensures.value ∙ sym (place_of_mapped string_bytes begins_names words) in
    let many : length texts ≡ length words = length-map words string_bytes in
    let rest : take (length words - (n + 1)) (drop (n + 1) words) ≡ drop (n + 1) words = grind (arith, common_steps) in
    let inside : position_or_len begins_names texts < length texts = omega (arith, is, many) in
    ap (λ r. Some (map string_bytes r)) rest ∙ ap Some (drop_mapped string_bytes (n + 1) words)
    ∙ ap (λ m. Some (drop (m + 1) texts)) is ∙ sym (names_after texts inside)

pub returns-else-count-words : goal.returns-else-count-words
returns-else-count-words c =
    let words = c.args.words.now in
    let texts = map string_bytes words in
    let is : c.count_before-count.result ≡ position_or_len begins_names texts =
    c.count_before-count.ensures.value ∙ sym (place_of_mapped string_bytes begins_names words) in
    let many : length texts ≡ length words = length-map words string_bytes in
    sym (no_names texts (omega (arith, is, many, c.count_before-count.ensures.within)))
