-- Why the functions of the cycle `Lowering::flatten` in src/flatten.rt keep their contracts.

use Rattle.std.proofs.Common.{◌≡◌, ◌+◌, ◌*◌, ◌∷◌, drop, ap, sym, subst, rules, arith, List}
use Rattle.std.specs.Prelude.{IfOk, OnOk}
use Rattle.ls_lowered.specs.declared.tree.Statement.{Statement}
use Rattle.ls_lowered.specs.LoweredTree.{Leavable}
use Rattle.ls_lowered.specs.Plain.{plain_statement, statements_of}
use Rattle.ls_finally.specs.Flat.{tries}
use Rattle.ls_finally.specs.Code.{Fits}
use Rattle.ls_finally.proofs.Kept.{no_tries, try_stays, try_copies}
use Rattle.ls_finally_copies.proofs.Fronts.{block_read, left_at, leavable_read}
use Rattle.ls_finally.proofs.Flattening.{goes_on, one_fits, too_many_more}
use Rattle.ls_lowered.proofs.Rows.{block_made}
use Rattle.ls_finally_exits.proofs.Counted.{counted}
use Rattle.std.proofs.lemmas.Grind.{common_steps}
use Rattle.ls_finally_copies.proofs.Weights.{size, size_at}
use Rattle.ls_finally.proofs.flatten.Lowering.+flatten.Goals as goal

pub flat_all-flatten-requires : goal.flat_all-flatten-requires
flat_all-flatten-requires t c =
    let xs : List Statement = c.args.statements.now in
    let i = c.loop-s.s-index in
    let s = c.s-item.result in
    let split : drop i xs ≡ s ∷ drop (i + 1) xs = left_at xs i s (search rules) c.s-item.is in
    let less = size_at xs i s split in (
      omega (arith, less),
      (
        one_fits c.args.self.now.free c.args.self.now.count xs c.loop-s.out.items c.loop-s.self.free
            c.loop-s.self.count (drop i xs) (drop (i + 1) xs) s split c.loop-s.invariant c.requires.room,
        search rules,
      ),
    )

pub flat_all-loop-s-preserved : goal.flat_all-loop-s-preserved
flat_all-loop-s-preserved t c =
    let xs : List Statement = c.args.statements.now in
    let i = c.loop-s.s-index in
    let split : drop i xs ≡ c.s-item.result ∷ drop (i + 1) xs = left_at xs i c.s-item.result (search rules) c.s-item.is
    in
    goes_on c.args.self.now.free c.args.self.now.count xs c.loop-s.out.items c.put.new.items.items c.loop-s.self.free
    c.flatten.new.self.free c.loop-s.self.count c.flatten.new.self.count (drop i xs) (drop (i + 1) xs)
    c.s-item.result c.in_ok-flatten.field-0
    split c.in_ok-put.ensures c.in_ok-flatten.ensures.tree c.in_ok-flatten.ensures.free c.in_ok-flatten.ensures.count
    (search rules) c.loop-s.invariant

pub flatten-flat_leavable-requires : goal.flatten-flat_leavable-requires
flatten-flat_leavable-requires t c =
    let body = c.deref-in-Leavable.result.now in
    let own = c.deref-in-Leavable-2.result.now in
    let e : plain_statement c.args.s.now ≡ Leavable (plain_statement body) (statements_of own) = leavable_read
    c.args.s.now c.in-Leavable.body c.in-Leavable.own body own c.deref-in-Leavable.ensures
    c.deref-in-Leavable-2.ensures.value c.in-Leavable.is in
    (omega (arith, ap size e), (omega (arith, ap tries e), c.requires.few))

pub flatten-returns-in-Leavable-clause-tree : goal.flatten-returns-in-Leavable-clause-tree
flatten-returns-in-Leavable-clause-tree t c =
    let body = c.deref-in-Leavable.result.now in
    let own = c.deref-in-Leavable-2.result.now in
    let e : plain_statement c.args.s.now ≡ Leavable (plain_statement body) (statements_of own) = leavable_read
    c.args.s.now c.in-Leavable.body c.in-Leavable.own body own c.deref-in-Leavable.ensures
    c.deref-in-Leavable-2.ensures.value c.in-Leavable.is in
    rw e c.flat_leavable.ensures.tree

pub flatten-returns-in-Leavable-clause-free : goal.flatten-returns-in-Leavable-clause-free
flatten-returns-in-Leavable-clause-free t c =
    let body = c.deref-in-Leavable.result.now in
    let own = c.deref-in-Leavable-2.result.now in
    let e : plain_statement c.args.s.now ≡ Leavable (plain_statement body) (statements_of own) = leavable_read
    c.args.s.now c.in-Leavable.body c.in-Leavable.own body own c.deref-in-Leavable.ensures
    c.deref-in-Leavable-2.ensures.value c.in-Leavable.is in
    rw e c.flat_leavable.ensures.free

pub flatten-returns-in-Leavable-clause-count : goal.flatten-returns-in-Leavable-clause-count
flatten-returns-in-Leavable-clause-count t c =
    let body = c.deref-in-Leavable.result.now in
    let own = c.deref-in-Leavable-2.result.now in
    let e : plain_statement c.args.s.now ≡ Leavable (plain_statement body) (statements_of own) = leavable_read
    c.args.s.now c.in-Leavable.body c.in-Leavable.own body own c.deref-in-Leavable.ensures
    c.deref-in-Leavable-2.ensures.value c.in-Leavable.is in
    rw e c.flat_leavable.ensures.count

pub flatten-returns-in-Leavable-clause-few : goal.flatten-returns-in-Leavable-clause-few
flatten-returns-in-Leavable-clause-few t c =
    let body = c.deref-in-Leavable.result.now in
    let own = c.deref-in-Leavable-2.result.now in
    let e : plain_statement c.args.s.now ≡ Leavable (plain_statement body) (statements_of own) = leavable_read
    c.args.s.now c.in-Leavable.body c.in-Leavable.own body own c.deref-in-Leavable.ensures
    c.deref-in-Leavable-2.ensures.value c.in-Leavable.is in
    rw e c.flat_leavable.ensures.few

pub flat_try-returns-then-is_flat-2-clause-tree : goal.flat_try-returns-then-is_flat-2-clause-tree
flat_try-returns-then-is_flat-2-clause-tree t c =
    let b = plain_statement c.args.body.now in
    let f = plain_statement c.args.finally.now in
    let e = try_stays c.args.self.now.free b f (c.is_flat.ensures c.if-is_flat.true)
    (c.is_flat-then-is_flat.ensures c.if-is_flat-2.true) in
    subst (λ z. IfOk c.with_copies.result (λ x. plain_statement x ≡ z)) (sym e) c.with_copies.ensures.tree

pub flat_try-returns-then-is_flat-2-clause-free : goal.flat_try-returns-then-is_flat-2-clause-free
flat_try-returns-then-is_flat-2-clause-free t c =
    let k = c.args.self.now.free in
    let b = plain_statement c.args.body.now in
    let f = plain_statement c.args.finally.now in
    let p = no_tries b (c.is_flat.ensures c.if-is_flat.true) in
    let q = no_tries f (c.is_flat-then-is_flat.ensures c.if-is_flat-2.true) in
    let e : k + 2 ≡ k + 2 * (tries b + tries f + 1) = omega (arith, p, q) in
    subst (λ n. OnOk c.with_copies.result (c.with_copies.new.self.free ≡ n)) e c.with_copies.ensures.free

pub flat_try-returns-then-is_flat-2-clause-count : goal.flat_try-returns-then-is_flat-2-clause-count
flat_try-returns-then-is_flat-2-clause-count t c =
    let b = plain_statement c.args.body.now in
    let f = plain_statement c.args.finally.now in
    let e = try_copies c.args.self.now.free b f (c.is_flat.ensures c.if-is_flat.true)
    (c.is_flat-then-is_flat.ensures c.if-is_flat-2.true) in
    subst (λ n. OnOk c.with_copies.result (c.with_copies.new.self.count ≡ c.args.self.now.count + n)) (sym e)
    c.with_copies.ensures.count

pub flat_try-returns-then-is_flat-2-clause-few : goal.flat_try-returns-then-is_flat-2-clause-few
flat_try-returns-then-is_flat-2-clause-few t c =
    let b = plain_statement c.args.body.now in
    let f = plain_statement c.args.finally.now in
    let e = try_copies c.args.self.now.free b f (c.is_flat.ensures c.if-is_flat.true)
    (c.is_flat-then-is_flat.ensures c.if-is_flat-2.true) in
    subst (λ n. Fits c.with_copies.result (c.args.self.now.count + n)) (sym e) c.with_copies.ensures.few

-- Each goal below would close without an answer too, but only after a search of several times this one's length.

pub flatten-returns-in_ok-flat_all-in-Block : goal.flatten-returns-in_ok-flat_all-in-Block
flatten-returns-in_ok-flat_all-in-Block t c = record {
  tree = grind (arith, block_read, block_made);
  free = grind (arith, block_read, block_made);
  count = grind (arith, block_read, block_made);
  few = grind (arith, block_read, block_made);
}

pub flat_all-returns : goal.flat_all-returns
flat_all-returns t c = record {
  tree = grind (arith, common_steps);
  free = grind (arith, common_steps);
  count = grind (arith, common_steps);
  few = grind (arith, common_steps);
}

pub flat_leavable-returns : goal.flat_leavable-returns
flat_leavable-returns t c = record {
  tree = grind (arith, too_many_more, counted);
  free = grind (arith, too_many_more, counted);
  count = grind (arith, too_many_more, counted);
  few = grind (arith, too_many_more, counted);
}

pub flat_try-returns : goal.flat_try-returns
flat_try-returns t c = record {
  tree = grind (arith, too_many_more);
  free = grind (arith, too_many_more);
  count = grind (arith, too_many_more);
  few = grind (arith, too_many_more);
}

pub flat_leavable-returns-in_err-body-2-clause-few : goal.flat_leavable-returns-in_err-body-2-clause-few
flat_leavable-returns-in_err-body-2-clause-few t c = grind (arith, too_many_more, counted)

pub flat_leavable-returns-in_err-body-clause-few : goal.flat_leavable-returns-in_err-body-clause-few
flat_leavable-returns-in_err-body-clause-few t c = grind (arith, too_many_more, counted)

pub flat_all-returns-in_err-flatten-clause-few : goal.flat_all-returns-in_err-flatten-clause-few
flat_all-returns-in_err-flatten-clause-few t c = grind (arith, common_steps)

pub flatten-returns-in_err-flat_all-in-Block-clause-few : goal.flatten-returns-in_err-flat_all-in-Block-clause-few
flatten-returns-in_err-flat_all-in-Block-clause-few t c = grind (arith, block_read)

pub flatten-returns-in_ok-first-in-If : goal.flatten-returns-in_ok-first-in-If
flatten-returns-in_ok-first-in-If t c = record {
  tree = grind arith;
  free = grind arith;
  count = grind arith;
  few = grind arith;
}

pub flatten-returns-in_ok-body-in-While-2 : goal.flatten-returns-in_ok-body-in-While-2
flatten-returns-in_ok-body-in-While-2 t c = record {
  tree = grind arith;
  free = grind arith;
  count = grind arith;
  few = grind arith;
}

pub flatten-returns-in_ok-body-in-Guarded : goal.flatten-returns-in_ok-body-in-Guarded
flatten-returns-in_ok-body-in-Guarded t c = record {
  tree = grind arith;
  free = grind arith;
  count = grind arith;
  few = grind arith;
}

pub flatten-returns-in_ok-copy_statement-in-SetLocal : goal.flatten-returns-in_ok-copy_statement-in-SetLocal
flatten-returns-in_ok-copy_statement-in-SetLocal t c = record {
  tree = grind arith;
  free = grind arith;
  count = grind arith;
  few = grind arith;
}
