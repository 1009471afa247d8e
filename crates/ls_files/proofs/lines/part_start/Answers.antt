-- Why `part_start` in src/lines.rt keeps its contract and its loop `left`.

use Rattle.std.proofs.Common.{◌≡◌, ◌∙◌, ◌+◌, ◌-◌, ap, sym, suc, arith, length}
use Rattle.ls_items.specs.Parts.{lines_of}
use Rattle.ls_files.specs.Files.{part_start, start_in}
use Rattle.ls_files.proofs.FileLines.{part_after_end, part_ends, part_goes_on}
use Rattle.ls_files.proofs.lines.part_start.Goals as goal
use Rattle.ls_files.proofs.lines.part_start.Goals.{then-ends_part, else-ends_part}

pub returns-in_default : goal.returns-in_default
returns-in_default c =
    let rest = c.loop-left.rest.now in
    let k = c.loop-left.left - 1 in
    let some : c.loop-left.left ≡ suc k = omega (arith, c.loop-left-test.true) in
    sym (part_after_end k c.loop-left.at rest c.in_default.ensures.none)
    ∙ ap (λ n. start_in n c.loop-left.at (lines_of rest)) (sym some) ∙ c.loop-left.invariant.place

pub loop-left-preserved : goal.loop-left-preserved
loop-left-preserved c =
    let rest = c.loop-left.rest.now in
    let line = c.in-Some.line.now in
    let after = c.in-Some.after.now in
    let at = c.loop-left.at in
    let k = c.loop-left.left - 1 in
    let some : c.loop-left.left ≡ suc k = omega (arith, c.loop-left-test.true) in
    let cut = c.in-Some.ensures.some in
    let place : start_in (suc k) at (lines_of rest) ≡ part_start c.args.input.now c.args.number =
    ap (λ n. start_in n at (lines_of rest)) (sym some) ∙ c.loop-left.invariant.place in
    let there : at + (length line + 1) ≡ at + length line + 1 = omega arith in
    record {
      place = ap (λ m. start_in c.if-ends_part.left m (lines_of after)) there ∙ elim c.if-ends_part.branch [
        | then-ends_part w ↦
            ap (λ n. start_in n (at + length line + 1) (lines_of after)) w.left-is
            ∙ sym (part_ends k at rest line after cut.0 (sym c.ends_part.ensures ∙ w.if-ends_part.true)) ∙ place
        | else-ends_part w ↦
            ap (λ n. start_in n (at + length line + 1) (lines_of after)) (w.left-is ∙ some)
            ∙ sym (part_goes_on k at rest line after cut.0 (sym c.ends_part.ensures ∙ w.if-ends_part.false)) ∙ place
      ];
      room = omega (arith, cut.1, c.loop-left.invariant.room);
    }

pub returns : goal.returns
returns c =
    let none : c.loop-left.left ≡ 0 = omega (arith, c.loop-left-test.false) in
    ap (λ n. start_in n c.loop-left.at (lines_of c.loop-left.rest.now)) (sym none) ∙ c.loop-left.invariant.place
