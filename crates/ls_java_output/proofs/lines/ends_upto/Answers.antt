-- Why `ends_upto` in src/lines.rt keeps its contract.

use Rattle.std.proofs.Common.{◌≡◌, ◌∙◌, ◌+◌, ◌-◌, ◌≤◌, ap, sym, arith, drop, length, take}
use Rattle.std.specs.Prelude.{min}
use Rattle.ls_java_output.specs.Lines.{ends_before, ends_in}
use Rattle.ls_java_output.proofs.LineLemmas.{ends_capped, ends_split}
use Rattle.ls_java_output.proofs.lines.ends_upto.Goals as goal

pub returns-then-from-upto : goal.returns-then-from-upto
returns-then-from-upto c =
    let xs = c.args.text.now in
    let from = c.args.from in
    let upto = c.min-upto.result in
    let within : from ≤ upto = omega (arith, c.if-from-upto.true) in
    let between : c.feeds.result ≡ ends_in (take (upto - from) (drop from xs)) =
    c.feeds.ensures ∙ ap (λ ys. ends_in (take (upto - from) (drop from ys))) c.as_bytes-bytes.ensures.value in
    let whole = c.as_bytes-bytes.ensures.value in
    ap (λ n. n + c.feeds.result) c.requires ∙ ap (λ n. ends_before from xs + n) between
    ∙ sym (ends_split from upto xs within)
    ∙ ap (λ n. ends_before n xs) (c.min-upto.ensures ∙ ap (λ ys. min c.args.to (length ys)) whole)
    ∙ ends_capped c.args.to xs
