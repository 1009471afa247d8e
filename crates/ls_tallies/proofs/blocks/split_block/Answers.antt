-- Why `split_block` in src/blocks.rt keeps its clause `cut` and what `split_at` requires.

use Rattle.std.proofs.Common.{◌≡◌, ◌∙◌, ◌+◌, ap, arith, drop, sym, true, [], Some}
use Rattle.std.proofs.lemmas.Str.{IsCharBoundary-before_ascii}
use Rattle.ls_report.specs.Cut.{cut}
use Rattle.ls_report.proofs.CutLemmas.{none_is, second_of_two}
use Rattle.ls_tallies.specs.Blocks.{block_len}
use Rattle.ls_tallies.proofs.BlockLemmas.{cut_at_feed, parts_are}
use Rattle.ls_tallies.proofs.blocks.split_block.Goals as goal

pub split_at-requires : goal.split_at-requires
split_at-requires c =
    let text = c.args.text.now in
    let len = c.in_ok-len.len in
    let e : block_len true text ≡ Some len = sym (c.in_ok-len.ensures ∙ ap (block_len true) c.as_bytes.ensures.value) in
    let f = cut_at_feed true text len e in
    IsCharBoundary-before_ascii text len f.within (omega (arith, f.feed))

pub returns-in_err-after-clause-cut : goal.returns-in_err-after-clause-cut
returns-in_err-after-clause-cut c =
    let text = c.args.text.now in
    let len = c.in_ok-len.len in
    let e : block_len true text ≡ Some len = sym (c.in_ok-len.ensures ∙ ap (block_len true) c.as_bytes.ensures.value) in
    let f = cut_at_feed true text len e in
    absurd (none_is (c.in_err-after.ensures ∙ ap (cut 10) (c.split_at.ensures.back ∙ f.back)))

pub returns-clause-cut : goal.returns-clause-cut
returns-clause-cut c =
    let text = c.args.text.now in
    let len = c.in_ok-len.len in
    let e : block_len true text ≡ Some len = sym (c.in_ok-len.ensures ∙ ap (block_len true) c.as_bytes.ensures.value) in
    let f = cut_at_feed true text len e in
    let after = second_of_two c.in_ok-after.field-0-0.now c.in_ok-after.after.now [] (drop (len + 1) text)
    (c.in_ok-after.ensures ∙ ap (cut 10) (c.split_at.ensures.back ∙ f.back)) in
    parts_are text c.split_at.result.0.now c.in_ok-after.after.now len e c.split_at.ensures.front after
