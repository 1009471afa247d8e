-- Why `cut_line` in src/lines.rt keeps its clauses `some` and `none`.

use Rattle.std.proofs.Common.{◌≡◌, ◌∙◌, ◌+◌, ◌-◌, ◌<◌, ◌∷◌, ap, sym, subst, arith, take, drop, length}
use Rattle.std.proofs.lemmas.Grind.{common_steps}
use Rattle.ls_items.specs.Parts.{lines_of}
use Rattle.ls_items.proofs.LineLemmas.{feed, first_line, one_line}
use Rattle.ls_files.proofs.lines.cut_line.Goals as goal

pub returns-then-end-bytes-clause-some : goal.returns-then-end-bytes-clause-some
returns-then-end-bytes-clause-some c =
    let xs = c.args.bytes.now in
    let n = c.feed_of-end.result in
    let is : n ≡ feed xs = c.feed_of-end.ensures.value in
    let inside : feed xs < length xs = omega (arith, is) in
    let rest : take (length xs - (n + 1)) (drop (n + 1) xs) ≡ drop (n + 1) xs = grind (arith, common_steps) in
    let first : lines_of xs ≡ take n xs ∷ lines_of (drop (n + 1) xs) =
    subst (λ m. lines_of xs ≡ take m xs ∷ lines_of (drop (m + 1) xs)) (sym is) (first_line xs inside) in
    (first ∙ ap (λ r. take n xs ∷ lines_of r) (sym rest), grind (arith, common_steps))

pub returns-else-end-bytes-clause-none : goal.returns-else-end-bytes-clause-none
returns-else-end-bytes-clause-none c =
    let xs = c.args.bytes.now in
    let is : c.feed_of-end.result ≡ feed xs = c.feed_of-end.ensures.value in
    one_line xs (omega (arith, is, c.feed_of-end.ensures.within))
