-- Why `run_part` in src/gathering.rt keeps its contract and its loop `seed`.

use Rattle.std.proofs.Common.{◌≡◌, ℕ, ◌∙◌, ap, cond, get_or, None}
use Rattle.ls_batch.specs.Samples.{history_of}
use Rattle.ls_batch.specs.Counted.{are_same, both, count_at, one_of}
use Rattle.ls_batch.specs.Numbers.{key_of}
use Rattle.ls_batch.specs.Tallies.{History}
use Rattle.ls_batch.proofs.Batched.{seed_counted, seeds_counted}
use Rattle.ls_batch.proofs.gathering.run_part.Goals as goal

pub loop-seed-preserved : goal.loop-seed-preserved
loop-seed-preserved c =
    let h : ℕ → History = λ s. history_of c.args.code.now c.args.cells s c.args.drawing in
    let seeds = c.args.seeds.now in
    let k = c.loop-seed.seed-index in
    let seed = get_or seeds k 0 in
    let ran = rw (c.loop-seed.invariant.code, c.loop-seed.invariant.cells) at c.one_run.ensures.history in
    let told : c.history.result.now ≡ h seed = c.history.ensures ∙ ran in
    record {
      code = c.one_run.ensures.code ∙ c.loop-seed.invariant.code;
      cells = c.one_run.ensures.cells ∙ c.loop-seed.invariant.cells;
      counts = seed_counted h seeds k c.loop-seed.counts c.add.new.self c.loop-seed-test.true
          c.loop-seed.invariant.counts
          (λ ks. c.in_ok-add.ensures ks ∙ ap (λ g. both (count_at c.loop-seed.counts ks)
          (cond (are_same ks (key_of g)) (one_of seed) None)) told);
    }

pub returns : goal.returns
returns c = seeds_counted (λ s. history_of c.args.code.now c.args.cells s c.args.drawing) c.args.seeds.now
    c.loop-seed.seed-index c.loop-seed.counts c.loop-seed-test.false c.loop-seed.invariant.counts
