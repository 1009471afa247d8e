-- Why `Playing::settle` in src/playing.rt keeps its clauses `stands` and `threads`.

use Rattle.std.proofs.Common.{◌<◌, length, rules, refl, ◌∙◌}
use Rattle.std.proofs.lemmas.List.{length-set}
use Rattle.ls_source.proofs.Standing.{has_settled}
use Rattle.ls_source.proofs.playing.Playing.settle.Goals as goal

pub invariant_of-self : goal.invariant_of-self
invariant_of-self c = record {
  works = length-set c.args.self.now.threads.items c.args.thread c.settle.new.self ∙ c.args.self.now.works;
}

pub returns-clause-stands : goal.returns-clause-stands
returns-clause-stands c =
    let within : c.args.thread < length c.args.self.now.threads.items = search rules in
    has_settled c.args.self.now c.args.thread _ _ c.index_mut.result.now c.settle.new.self within
    c.index_mut.ensures.value c.settle.ensures refl

pub returns-clause-threads : goal.returns-clause-threads
returns-clause-threads c = length-set c.args.self.now.threads.items c.args.thread c.settle.new.self
