-- Why `Counts::put` in src/counting.rt keeps its contract.

use Rattle.std.proofs.Common.{◌≡◌, ◌∙◌, ap, cond, Some}
use Rattle.ls_batch.specs.Counted.{are_same, both, count_at}
use Rattle.ls_batch.specs.Numbers.{plain_key}
use Rattle.ls_batch.proofs.Put.{updated}
use Rattle.ls_batch.proofs.counting.Counts.put.Goals as goal

pub returns : goal.returns
returns c = λ other.
    let self = c.args.self.now in
    let key = plain_key c.args.key in
    let old : c.copied.result ≡ count_at self key = c.copied.ensures ∙ c.get.ensures.value in
    let new : Some c.with-count.result ≡ both (count_at self key) (Some c.args.more) = c.with-count.ensures ∙
    ap (λ o. both o (Some c.args.more)) old in
    updated plain_key self.counts c.insert.new.self c.args.key (Some c.with-count.result) c.in_ok-insert.ensures.updates
    other
    ∙ ap (λ o. cond (are_same other key) o (count_at self other)) new
