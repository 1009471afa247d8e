-- Why `sorted_by` in src/sorting.rt keeps its contract.

use Rattle.std.proofs.Common.{◌≡◌, ◌∙◌, ap, map, sym, take}
use Rattle.std.specs.Prelude.{string_bytes}
use Rattle.std.proofs.lemmas.List.{take-map}
use Rattle.std.proofs.lemmas.Result.{IfOk-weaker}
use Rattle.clap.specs.Words.{rule_of}
use Rattle.ls_command_line.specs.Sorting.{Sorted, all_placed, asking_all, plain_given}
use Rattle.ls_command_line.proofs.sorting.sorted_by.Goals as goal

pub returns-in_ok-given-in-Some : goal.returns-in_ok-given-in-Some
returns-in_ok-given-in-Some c =
    let words = c.args.words.now in
    let begun : plain_given c.in_ok-given-in-Some.given ≡ asking_all (take 2 (map string_bytes words)) =
    c.in_ok-given-in-Some.ensures ∙ ap asking_all (sym (take-map string_bytes 2 words)) in
    rw c.in-Some.is (IfOk-weaker c.all_placed.result _ _
    (λ g e. e ∙ ap (λ (s : Sorted). all_placed c.args.command.now (map rule_of c.in-Some.options.now)
    (map string_bytes c.args.more.now) s) begun)
    c.all_placed.ensures)
