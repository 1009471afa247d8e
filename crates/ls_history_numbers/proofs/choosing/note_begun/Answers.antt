-- Why `note_begun` in src/choosing.rt keeps its clause `begun` and what `index_mut` requires.

use Rattle.std.proofs.Common.{rules, ◌≡◌, ◌<◌, Bool, true, List, length, sym, ap, ◌∙◌, subst, arith}
use Rattle.std.specs.Prelude.{slice_get, slice_set}
use Rattle.std.specs.Vec.{vec_len}
use Rattle.ls_history_numbers.specs.Choices.{TellBegun}
use Rattle.ls_history_numbers.proofs.Lists.{there}
use Rattle.ls_history_numbers.proofs.Telling.{begun_set, begun_skip, counts_not, counts_so}
use Rattle.ls_history_numbers.proofs.choosing.note_begun.Goals as goal

pub index_mut-requires : goal.index_mut-requires
index_mut-requires c =
    let k = there c.args.all.now c.args.number c.requires.number in
    let l = c.requires.numbered.made c.args.number k.0 k.1 (omega arith) in
    let len_is : vec_len c.args.begun.now ≡ length c.args.begun.now.items = search rules in
    omega (arith, l.earlier, c.before_of.ensures k.0 k.1, len_is, c.requires.begun, c.requires.number)

pub returns-then-counts-clause-begun : goal.returns-then-counts-clause-begun
returns-then-counts-clause-begun c = λ numbers from is lasts h.
    let k = there c.args.all.now c.args.number c.requires.number in
    let later : 0 < c.args.number = omega arith in
    let l = c.requires.numbered.made c.args.number k.0 k.1 later in
    subst (λ b. TellBegun c.args.all.now numbers (slice_set c.args.begun.now.items b true) c.args.number)
    (sym (c.before_of.ensures k.0 k.1))
    (begun_set c.args.all.now numbers c.args.begun.now.items from c.args.number h is k.0 k.1 later l.earlier
    (counts_so numbers c.args.lasts.now c.args.begun.now.items (length c.args.all.now) c.args.number lasts
    (omega (arith, c.requires.number, c.requires.lasts)) (omega (arith, c.requires.number, c.requires.begun))
    c.counts.result (λ last b l_is b_is. c.counts.ensures last b l_is
    (ap (λ (bs : List Bool). slice_get bs c.args.number) c.deref.ensures.value ∙ b_is)) c.if-counts.true))

pub returns-else-counts-clause-begun : goal.returns-else-counts-clause-begun
returns-else-counts-clause-begun c = λ numbers from is lasts h.
    begun_skip c.args.all.now numbers c.args.begun.now.items from c.args.number h is
    (λ later. counts_not numbers c.args.lasts.now c.args.begun.now.items (length c.args.all.now) c.args.number lasts
    (omega (arith, c.requires.number, c.requires.lasts)) (omega (arith, c.requires.number, c.requires.begun))
    c.counts.result (λ last b l_is b_is. c.counts.ensures last b l_is
    (ap (λ (bs : List Bool). slice_get bs c.args.number) c.deref.ensures.value ∙ b_is)) c.if-counts.false)
