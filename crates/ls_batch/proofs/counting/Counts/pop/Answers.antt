-- Why `Counts::pop` in src/counting.rt keeps its clause `others`.

use Rattle.std.proofs.lemmas.Option.{IfSome_then}
use Rattle.ls_batch.specs.Numbers.{plain_key}
use Rattle.ls_batch.proofs.Put.{updated}
use Rattle.ls_batch.proofs.counting.Counts.pop.Goals as goal

pub returns-clause-others : goal.returns-clause-others
returns-clause-others c = IfSome_then c.pop_first.result c.pop_first.ensures.updates
    (λ p updates. λ other. updated plain_key c.args.self.now.counts c.pop_first.new.self p.0 _ updates other)
