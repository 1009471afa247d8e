-- Why `read_groups` in src/groups.rt keeps its contract.

use Rattle.std.proofs.Common.{◌≡◌, ◌∙◌, length, map, ap, subst, arith}
use Rattle.std.proofs.lemmas.Grind.{common_steps}
use Rattle.std.proofs.lemmas.Result.{err_from_is_err_and}
use Rattle.ls_schedule.specs.Answers.{Fails, Gives}
use Rattle.ls_schedule.specs.Reading.{thread_name}
use Rattle.ls_schedule.proofs.Passed.{begun, finished_is}
use Rattle.ls_schedule.proofs.groups.read_groups.Goals as goal

pub pieces-preserved : goal.pieces-preserved
pieces-preserved c =
    let p = c.in_ok-len.ensures.passes (c.as_slice-all.ensures.value ∙ c.in_ok-numbers.ensures) in
    record {
      place = omega (arith, p.1, p.2, c.split_at-in-pieces.ensures.back_len);
      few = c.in_ok-len.ensures.few;
      read = rw c.split_at-in-pieces.ensures.back (p.0 ∙ c.pieces.invariant.read);
    }

pub returns-in_err-len : goal.returns-in_err-len
returns-in_err-len c =
    let p = err_from_is_err_and c.from_residual-in_err-len.result c.from_residual-in_err-len.ensures.1 in
    rw (p.1, p.2)
    (subst (Fails _) c.pieces.invariant.read (c.in_err-len.ensures.passes
    (c.as_slice-all.ensures.value ∙ c.in_ok-numbers.ensures)))

pub returns : goal.returns
returns c =
    let none : length c.pieces.rest.now ≡ 0 = grind (arith, common_steps) in
    subst (Gives (λ s. s) _) (finished_is (map thread_name c.args.threads.now) c.pieces.reader c.pieces.at
    c.pieces.rest.now none _ c.pieces.invariant.read) c.finish.ensures

pub pieces-init : goal.pieces-init
pieces-init c = record {
  place = omega (arith, c.split_at.ensures.back_len);
  few = omega (arith, ap length c.new-reader.ensures.schedule);
  read = begun (map thread_name c.args.threads.now) c.new-reader.result c.args.start _ _ c.new-reader.ensures.groups
      c.new-reader.ensures.filled c.new-reader.ensures.fits c.new-reader.ensures.schedule
      c.split_at.ensures.back;
}
