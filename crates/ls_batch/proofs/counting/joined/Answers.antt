-- Why `joined` in src/counting.rt keeps its contract and its loop `key`.

use Rattle.std.proofs.Common.{◌∙◌, ap, ap₂, sym}
use Rattle.ls_batch.specs.Numbers.{plain_key}
use Rattle.ls_batch.specs.Counted.{both, count_at}
use Rattle.ls_batch.proofs.Both.{both_none}
use Rattle.ls_batch.proofs.Put.{put_over}
use Rattle.ls_batch.proofs.counting.joined.Goals as goal

pub loop-key-init : goal.loop-key-init
loop-key-init c = c.by_size-all.ensures

pub loop-key-preserved : goal.loop-key-preserved
loop-key-preserved c = λ ks.
    ap₂ both (c.in_ok-put.ensures ks) (c.in-Some.ensures.others ks)
    ∙ put_over (count_at c.loop-key.all) (count_at c.loop-key.rest) (plain_key c.in-Some.key) ks c.in-Some.count
    c.in-Some.ensures.some ∙ c.loop-key.invariant ks

pub returns : goal.returns
returns c = λ ks.
    sym (both_none (count_at c.loop-key.all ks)) ∙ ap (both (count_at c.loop-key.all ks))
    (sym (c.in_default.ensures.none ks)) ∙ c.loop-key.invariant ks
