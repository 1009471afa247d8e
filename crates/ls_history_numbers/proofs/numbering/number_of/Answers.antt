-- Why `number_of` in src/numbering.rt keeps its clause `is`, its loop `at` and what `number_after` requires.

use Rattle.std.proofs.Common.{◌≡◌, length, refl, subst, take, arith}
use Rattle.std.proofs.Math.Seq.{take-length}
use Rattle.std.proofs.lemmas.Option.{slice_get-get_or}
use Rattle.ls_history_numbers.specs.Numbers.{IsOf}
use Rattle.ls_history_numbers.proofs.Longer.{after_one, keeps_both, of_within}
use Rattle.ls_history_numbers.proofs.numbering.number_of.Goals as goal

pub loop-at-init : goal.loop-at-init
loop-at-init c = record {
  numbered = c.requires;
  is = c.requires.none;
  keeps = λ n k e. (k, e, refl, refl);
}

pub number_after-requires-clause-within : goal.number_after-requires-clause-within
number_after-requires-clause-within c =
    of_within c.loop-at.all.items c.loop-at.number (take c.loop-at.at c.args.history.now) c.loop-at.invariant.is

pub loop-at-preserved : goal.loop-at-preserved
loop-at-preserved c = record {
  numbered = c.in_ok-longer.ensures.numbered;
  is = after_one c.loop-at.all.items c.number_after.new.all.items c.loop-at.number c.in_ok-longer.longer c.loop-at.at
      c.args.history.now _ c.loop-at.invariant.is
      (slice_get-get_or c.args.history.now c.loop-at.at _ (omega arith)) c.in_ok-longer.ensures.is;
  keeps = keeps_both c.args.all.now.items c.loop-at.all.items c.number_after.new.all.items c.loop-at.invariant.keeps
      c.in_ok-longer.ensures.keeps;
}

pub returns-clause-is : goal.returns-clause-is
returns-clause-is c =
    let whole : c.loop-at.at ≡ length c.args.history.now = omega arith in
    subst (IsOf c.loop-at.all.items c.loop-at.number) (take-length c.args.history.now)
    (subst (λ n. IsOf c.loop-at.all.items c.loop-at.number (take n c.args.history.now)) whole c.loop-at.invariant.is)
