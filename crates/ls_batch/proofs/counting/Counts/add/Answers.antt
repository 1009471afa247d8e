-- Why `Counts::add` in src/counting.rt keeps its contract.

use Rattle.std.proofs.Common.{◌∙◌, ap, cond}
use Rattle.ls_batch.specs.Counted.{are_same, both, count_at, one_of}
use Rattle.ls_batch.specs.Numbers.{key_of}
use Rattle.ls_batch.proofs.Put.{put_more}
use Rattle.ls_batch.proofs.counting.Counts.add.Goals as goal

pub returns : goal.returns
returns c = λ other.
    let old = count_at c.args.self.now in
    c.in_ok-put.ensures other ∙ ap (λ key. cond (are_same other key) (both (old key) (one_of c.args.seed)) (old other))
    c.in_ok-key.ensures
    ∙ put_more old (key_of c.args.history.now) other (record { count = 1; seed = c.args.seed })
