-- Why the functions of the cycle `replace` in src/replace.rt keep their contracts.

use Rattle.std.proofs.Common.{◌≡◌, ◌+◌, ◌<◌, ◌^◌, ◌∷◌, length, drop, ap, subst, rules, arith, List}
use Rattle.std.proofs.lemmas.Grind.{common_steps}
use Rattle.ls_lowered.specs.declared.tree.Statement.{Statement}
use Rattle.ls_lowered.specs.LoweredTree as lowered
use Rattle.ls_lowered.specs.LoweredTree.{Leavable}
use Rattle.ls_lowered.specs.Plain.{plain_statement, statements_of}
use Rattle.ls_finally_exits.specs.Exits.{exits}
use Rattle.ls_finally_exits.specs.Numbers.{numbers}
use Rattle.ls_finally_copies.proofs.Fronts.{block_read, left_at, leavable_read}
use Rattle.ls_finally_exits.proofs.Blocks.{goes_on, one_fits}
use Rattle.ls_finally_exits.proofs.Numbered.{numbers_at}
use Rattle.ls_finally_copies.proofs.Weights.{size, size_at}
use Rattle.ls_finally_exits.proofs.replace.+replace.Goals as goal

pub replace_in_all-replace_exits-requires : goal.replace_in_all-replace_exits-requires
replace_in_all-replace_exits-requires t c =
    let xs : List Statement = c.args.statements.now in
    let i = c.loop-s.s-index in
    let s = c.s-item.result in
    let split : drop i xs ≡ s ∷ drop (i + 1) xs = left_at xs i s (search rules) c.s-item.is in
    let less = size_at xs i s split in
    let low = numbers_at xs i s split in (
      omega (arith, less),
      (
        one_fits c.args.kept c.args.inside c.args.next.now xs c.loop-s.out.items c.loop-s.next
            (drop i xs) (drop (i + 1) xs) s split c.loop-s.invariant,
        omega (arith, low, c.requires.low),
      ),
    )

pub replace_in_all-loop-s-preserved : goal.replace_in_all-loop-s-preserved
replace_in_all-loop-s-preserved t c =
    let xs : List Statement = c.args.statements.now in
    let i = c.loop-s.s-index in
    let split : drop i xs ≡ c.s-item.result ∷ drop (i + 1) xs = left_at xs i c.s-item.result (search rules) c.s-item.is
    in
    goes_on c.args.kept c.args.inside c.args.next.now xs c.loop-s.out.items c.put.new.items.items c.loop-s.next
    c.replace_exits.new.next (drop i xs) (drop (i + 1) xs) c.s-item.result c.in_ok-replace_exits.field-0
    split c.in_ok-put.ensures c.in_ok-replace_exits.ensures.tree c.in_ok-replace_exits.ensures.next c.loop-s.invariant

pub replace_exits-replace_in_leavable-requires : goal.replace_exits-replace_in_leavable-requires
replace_exits-replace_in_leavable-requires t c =
    let body = c.deref-in-Leavable.result.now in
    let own = c.deref-in-Leavable-2.result.now in
    let e : plain_statement c.args.s.now ≡ Leavable (plain_statement body) (statements_of own) = leavable_read
    c.args.s.now c.in-Leavable.body c.in-Leavable.own body own c.deref-in-Leavable.ensures
    c.deref-in-Leavable-2.ensures.value c.in-Leavable.is in (
      omega (arith, ap size e),
      (
        omega (arith, ap (λ (x : lowered.Statement). length (exits c.args.inside x)) e),
        subst (λ (x : lowered.Statement). c.args.inside + numbers x < 2 ^ 63) e c.requires.low,
      ),
    )

pub replace_exits-returns-in-Leavable-clause-tree : goal.replace_exits-returns-in-Leavable-clause-tree
replace_exits-returns-in-Leavable-clause-tree t c =
    let body = c.deref-in-Leavable.result.now in
    let own = c.deref-in-Leavable-2.result.now in
    let e : plain_statement c.args.s.now ≡ Leavable (plain_statement body) (statements_of own) = leavable_read
    c.args.s.now c.in-Leavable.body c.in-Leavable.own body own c.deref-in-Leavable.ensures
    c.deref-in-Leavable-2.ensures.value c.in-Leavable.is in
    rw e c.replace_in_leavable.ensures.tree

pub replace_exits-returns-in-Leavable-clause-next : goal.replace_exits-returns-in-Leavable-clause-next
replace_exits-returns-in-Leavable-clause-next t c =
    let body = c.deref-in-Leavable.result.now in
    let own = c.deref-in-Leavable-2.result.now in
    let e : plain_statement c.args.s.now ≡ Leavable (plain_statement body) (statements_of own) = leavable_read
    c.args.s.now c.in-Leavable.body c.in-Leavable.own body own c.deref-in-Leavable.ensures
    c.deref-in-Leavable-2.ensures.value c.in-Leavable.is in
    rw e c.replace_in_leavable.ensures.next

-- Each goal below would close without an answer too, but only after a search of several times this one's length.

pub replace_in_two-replace_in_part-requires-2 : goal.replace_in_two-replace_in_part-requires-2
replace_in_two-replace_in_part-requires-2 t c = grind (arith, common_steps)

pub replace_in_two-returns-clause-next : goal.replace_in_two-returns-clause-next
replace_in_two-returns-clause-next t c = grind (arith, common_steps)

pub replace_in_leavable-replace_in_part-requires : goal.replace_in_leavable-replace_in_part-requires
replace_in_leavable-replace_in_part-requires t c = grind (arith, common_steps)

pub replace_in_leavable-replace_in_all-requires : goal.replace_in_leavable-replace_in_all-requires
replace_in_leavable-replace_in_all-requires t c = grind (arith, common_steps)

pub replace_in_leavable-returns : goal.replace_in_leavable-returns
replace_in_leavable-returns t c = record {
  tree = grind (arith, common_steps);
  next = grind (arith, common_steps);
}

pub replace_exits-replace_in_all-requires : goal.replace_exits-replace_in_all-requires
replace_exits-replace_in_all-requires t c = grind (arith, block_read)

pub replace_exits-returns-in_ok-replace_in_all-in-Block : goal.replace_exits-returns-in_ok-replace_in_all-in-Block
replace_exits-returns-in_ok-replace_in_all-in-Block t c = record {
  tree = grind (arith, block_read);
  next = grind (arith, block_read);
}

pub replace_exits-returns-in_ok-first-in-If : goal.replace_exits-returns-in_ok-first-in-If
replace_exits-returns-in_ok-first-in-If t c = record {
  tree = grind arith;
  next = grind arith;
}

pub replace_exits-returns-in_ok-body-in-While-2 : goal.replace_exits-returns-in_ok-body-in-While-2
replace_exits-returns-in_ok-body-in-While-2 t c = record {
  tree = grind arith;
  next = grind arith;
}

pub replace_exits-returns-in_ok-body-in-Guarded : goal.replace_exits-returns-in_ok-body-in-Guarded
replace_exits-returns-in_ok-body-in-Guarded t c = record {
  tree = grind arith;
  next = grind arith;
}
