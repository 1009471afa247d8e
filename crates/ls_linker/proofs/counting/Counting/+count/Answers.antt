-- Why the functions of the cycle `Counting::count` in src/counting.rt keep their contracts.

use Rattle.std.proofs.Common.{◌≡◌, ℕ, ◌+◌, ◌*◌, ◌∷◌, ◌++◌, ◌≤◌, suc, append_assoc, drop, ap, subst, sym, ◌∙◌, rules}
use Rattle.std.proofs.Common.{arith, List, OnOk, length}
use Rattle.std.specs.Prelude.{min}
use Rattle.std.proofs.lemmas.Grind.{common_steps}
use Rattle.std.proofs.lemmas.List.{append-nil, drop_all}
use Rattle.std.proofs.lemmas.Result.{err_from_is_err_and}
use Rattle.ls_lowered.specs.declared.tree.Statement.{Statement}
use Rattle.ls_lowered.specs.LoweredTree.{Leavable}
use Rattle.ls_lowered.specs.Plain.{plain_statement, statements_of}
use Rattle.ls_finally_exits.specs.Exits.{count}
use Rattle.ls_finally_exits.proofs.Counted.{counted}
use Rattle.ls_finally_copies.proofs.Fronts.{block_read, left_at, leavable_read}
use Rattle.ls_finally_copies.proofs.Weights.{size, size_at}
use Rattle.ls_linker.specs.declared.ways.Way.{Way}
use Rattle.ls_linker.specs.Costs.{beyond, ways_of, all_ways, copied, all_copied, total, returned, flat_size}
use Rattle.ls_linker.specs.Costs.{all_flat_size}
use Rattle.ls_linker.proofs.More.{too_many_more, capped, capped_at_most, capped_moved, capped_ended, sum_moved}
use Rattle.ls_linker.proofs.More.{sum_ended, within}
use Rattle.ls_linker.proofs.Times.{scaled_few}
use Rattle.ls_linker.proofs.counting.Counting.+count.Goals as goal

pub count-count_leavable-requires : goal.count-count_leavable-requires
count-count_leavable-requires t c =
    let body = c.deref-in-Leavable.result.now in
    let own = c.deref-in-Leavable-2.result.now in
    let e : plain_statement c.args.s.now ≡ Leavable (plain_statement body) (statements_of own) = leavable_read
    c.args.s.now c.in-Leavable.body c.in-Leavable.own body own c.deref-in-Leavable.ensures
    c.deref-in-Leavable-2.ensures.value c.in-Leavable.is in
    (omega (arith, ap size e), (c.requires.few, c.requires.short))

pub count-returns-in-Leavable-clause-ways : goal.count-returns-in-Leavable-clause-ways
count-returns-in-Leavable-clause-ways t c =
    let body = c.deref-in-Leavable.result.now in
    let own = c.deref-in-Leavable-2.result.now in
    let e : plain_statement c.args.s.now ≡ Leavable (plain_statement body) (statements_of own) = leavable_read
    c.args.s.now c.in-Leavable.body c.in-Leavable.own body own c.deref-in-Leavable.ensures
    c.deref-in-Leavable-2.ensures.value c.in-Leavable.is in
    rw e c.count_leavable.ensures.ways

pub count-returns-in-Leavable-clause-copies : goal.count-returns-in-Leavable-clause-copies
count-returns-in-Leavable-clause-copies t c =
    let body = c.deref-in-Leavable.result.now in
    let own = c.deref-in-Leavable-2.result.now in
    let e : plain_statement c.args.s.now ≡ Leavable (plain_statement body) (statements_of own) = leavable_read
    c.args.s.now c.in-Leavable.body c.in-Leavable.own body own c.deref-in-Leavable.ensures
    c.deref-in-Leavable-2.ensures.value c.in-Leavable.is in
    rw e c.count_leavable.ensures.copies

pub count-returns-in-Leavable-clause-length : goal.count-returns-in-Leavable-clause-length
count-returns-in-Leavable-clause-length t c =
    let body = c.deref-in-Leavable.result.now in
    let own = c.deref-in-Leavable-2.result.now in
    let e : plain_statement c.args.s.now ≡ Leavable (plain_statement body) (statements_of own) = leavable_read
    c.args.s.now c.in-Leavable.body c.in-Leavable.own body own c.deref-in-Leavable.ensures
    c.deref-in-Leavable-2.ensures.value c.in-Leavable.is in
    rw e c.count_leavable.ensures.length

pub count-returns-in-Leavable-clause-few : goal.count-returns-in-Leavable-clause-few
count-returns-in-Leavable-clause-few t c =
    let body = c.deref-in-Leavable.result.now in
    let own = c.deref-in-Leavable-2.result.now in
    let e : plain_statement c.args.s.now ≡ Leavable (plain_statement body) (statements_of own) = leavable_read
    c.args.s.now c.in-Leavable.body c.in-Leavable.own body own c.deref-in-Leavable.ensures
    c.deref-in-Leavable-2.ensures.value c.in-Leavable.is in
    rw e c.count_leavable.ensures.few

pub count_all-count-requires : goal.count_all-count-requires
count_all-count-requires t c =
    let xs : List Statement = c.args.statements.now in
    let i = c.loop-s.s-index in
    let s = c.s-item.result in
    let split : drop i xs ≡ s ∷ drop (i + 1) xs = left_at xs i s (search rules) c.s-item.is in
    let less = size_at xs i s split in
    (omega (arith, less), (c.loop-s.invariant.3, c.loop-s.invariant.4))

-- a statement of too many copies makes too many with those after it
pub count_all-returns-in_err-count-clause-few : goal.count_all-returns-in_err-count-clause-few
count_all-returns-in_err-count-clause-few t c =
    let xs : List Statement = c.args.statements.now in
    let i = c.loop-s.s-index in
    let s = c.s-item.result in
    let split : drop i xs ≡ s ∷ drop (i + 1) xs = left_at xs i s c.loop-s-test.true c.s-item.is in
    let before = rw split at c.loop-s.invariant in
    let more = within c.loop-s.self.copies (copied (plain_statement s)) (all_copied (statements_of (drop (i + 1) xs)))
    before.1 in
    let p = err_from_is_err_and c.from_residual.result c.from_residual.ensures.1 in
    rw (p.1, p.2) (too_many_more c.in_err-count.field-0.0 _ _ c.in_err-count.ensures.few more)

-- what the invariant says of the statement and the rest, once the statement is counted
pub count_all-loop-s-preserved : goal.count_all-loop-s-preserved
count_all-loop-s-preserved t c =
    let xs : List Statement = c.args.statements.now in
    let i = c.loop-s.s-index in
    let s = c.s-item.result in
    let rest = statements_of (drop (i + 1) xs) in
    let split : drop i xs ≡ s ∷ drop (i + 1) xs = left_at xs i s c.loop-s-test.true c.s-item.is in
    let before = rw split at c.loop-s.invariant in
    let counted = c.in_ok-count.ensures in (
      ap (λ (ws : List Way). ws ++ all_ways rest) counted.ways ∙ append_assoc c.loop-s.out.items (ways_of
          (plain_statement s)) (all_ways rest) ∙ before.0,
      sum_moved c.loop-s.self.copies (copied (plain_statement s)) (all_copied rest) counted.copies ∙ before.1,
      capped_moved c.loop-s.self.length (flat_size (plain_statement s)) (all_flat_size rest) counted.length ∙ before.2,
      subst (λ n. n ≤ 4096) (sym counted.copies) counted.few,
      subst (λ n. n ≤ 65537) (sym counted.length)
          (capped_at_most (c.loop-s.self.length + flat_size (plain_statement s))),
    )

-- at the end of the loop nothing is left
pub count_all-returns-clause-ways : goal.count_all-returns-clause-ways
count_all-returns-clause-ways t c =
    let end = rw (drop_all c.loop-s.s-index c.args.statements.now c.loop-s-test.false) at c.loop-s.invariant in
    sym (append-nil c.loop-s.out.items) ∙ end.0

pub count_all-returns-clause-copies : goal.count_all-returns-clause-copies
count_all-returns-clause-copies t c =
    let end = rw (drop_all c.loop-s.s-index c.args.statements.now c.loop-s-test.false) at c.loop-s.invariant in
    sum_ended c.loop-s.self.copies end.1

pub count_all-returns-clause-length : goal.count_all-returns-clause-length
count_all-returns-clause-length t c =
    let end = rw (drop_all c.loop-s.s-index c.args.statements.now c.loop-s-test.false) at c.loop-s.invariant in
    capped_ended c.loop-s.self.length _ end.4 end.2

pub count_all-returns-clause-few : goal.count_all-returns-clause-few
count_all-returns-clause-few t c =
    let end = rw (drop_all c.loop-s.s-index c.args.statements.now c.loop-s-test.false) at c.loop-s.invariant in
    subst (λ n. n ≤ 4096) (sum_ended c.loop-s.self.copies end.1) end.3

pub count_leavable-returns-clause-ways : goal.count_leavable-returns-clause-ways
count_leavable-returns-clause-ways t c =
    let own : List Statement = c.args.own.now in
    let before : List Way = c.args.out.now.items in
    let inner : List Way = ways_of (plain_statement c.args.body.now) in
    let others : List Way = all_ways (statements_of own) in
    let numbers : length own + 1 ≡ suc (count (statements_of own)) = omega (arith, counted own) in
    let found : c.deref.result.now ≡ inner = c.deref.ensures.value ∙ c.in_ok-count.ensures.ways ∙
    ap (λ (ws : List Way). ws ++ inner) c.new-ways.ensures.items in
    let whole : c.put_beyond.new.out.items ++ others ≡ before ++
    (beyond (suc (count (statements_of own))) inner ++ others) =
    ap (λ (ws : List Way). ws ++ others) (c.in_ok-put_beyond.ensures ∙
    ap (λ n. before ++ beyond n c.deref.result.now) numbers ∙
    ap (λ (ws : List Way). before ++ beyond (suc (count (statements_of own))) ws) found)
    ∙ append_assoc before (beyond (suc (count (statements_of own))) inner) others in
    subst (λ (ws : List Way). OnOk c.count_all.result (c.count_all.new.out.items ≡ ws)) whole c.count_all.ensures.ways

pub count_try-put_scaled-requires : goal.count_try-put_scaled-requires
count_try-put_scaled-requires t c =
    let f = plain_statement c.args.finally.now in
    let before : ℕ = c.count.new.self.copies in
    let n : ℕ = c.in_ok-blocks.blocks in
    let inside : ℕ = c.count-2.new.self.copies in
    let all : List Way → List Way = λ ws. ws ++ ways_of f in
    let found : c.deref-3.result.now ≡ ways_of f = c.deref-3.ensures.value ∙ c.in_ok-count-2.ensures.ways ∙
    ap all c.new-inner.ensures.items in
    let one : inside ≡ copied f = omega (arith, c.in_ok-count-2.ensures.copies) in
    let few : before + n * (1 + inside) ≤ 4096 = subst (λ k. before + k * (1 + inside) ≤ 4096)
    (sym c.in_ok-blocks.ensures.count) c.in_ok-blocks.ensures.few in
    scaled_few before n f c.deref-3.result.now found (subst (λ k. before + n * (1 + k) ≤ 4096) one few)

pub count_try-returns-clause-length : goal.count_try-returns-clause-length
count_try-returns-clause-length t c =
    let inner : List Way = ways_of (plain_statement c.args.body.now) in
    let first : ℕ = flat_size (plain_statement c.args.body.now) in
    let second : ℕ = flat_size (plain_statement c.args.finally.now) in
    let before : ℕ = c.args.self.now.length in
    let all : List Way → List Way = λ ws. ws ++ inner in
    let counted = c.in_ok-count.ensures.ways ∙ ap all c.new-ways.ensures.items in
    let seen : c.deref-2.result.now ≡ inner = c.deref-2.ensures.value ∙ counted in
    let body : c.count.new.self.length ≡ min (before + first) 65537 = c.in_ok-count.ensures.length in
    let inside : c.count-2.new.self.length ≡ min second 65537 = omega (arith, c.in_ok-count-2.ensures.length) in
    let whole : c.add_blocks.new.self.length ≡ min (before + first + (2 + total inner) * (second + 2) + 2 * returned
    inner + 4) 65537 =
    c.in_ok-blocks.ensures.length
    ∙ ap (λ (ws : List Way). min (c.count.new.self.length + (2 + total ws) * (c.count-2.new.self.length + 2) + 2 *
    returned ws + 4) 65537) seen
    ∙ ap (λ n. min (c.count.new.self.length + (2 + total inner) * (n + 2) + 2 * returned inner + 4) 65537) inside
    ∙ ap (λ n. min (n + (2 + total inner) * (min second 65537 + 2) + 2 * returned inner + 4) 65537) body
    ∙ capped (before + first) (total inner) second (returned inner) in
    omega (arith, whole)

-- Each goal below would close without an answer too, but only after a search of several times this one's length.

pub count-returns-in-Block : goal.count-returns-in-Block
count-returns-in-Block t c = record {
  ways = grind (arith, block_read);
  copies = grind (arith, block_read);
  length = grind (arith, block_read);
  few = grind (arith, block_read);
}

pub count-returns-in-If-clause-ways : goal.count-returns-in-If-clause-ways
count-returns-in-If-clause-ways t c = grind (arith, common_steps)

pub count-returns-in-Guarded-clause-ways : goal.count-returns-in-Guarded-clause-ways
count-returns-in-Guarded-clause-ways t c = grind (arith, common_steps)

pub count_leavable-returns-then-own-self-clause-few : goal.count_leavable-returns-then-own-self-clause-few
count_leavable-returns-then-own-self-clause-few t c = grind (arith, too_many_more, counted)

pub count_leavable-returns-in_err-count-clause-few : goal.count_leavable-returns-in_err-count-clause-few
count_leavable-returns-in_err-count-clause-few t c = grind (arith, too_many_more, counted)

pub count_leavable-returns-clause-copies : goal.count_leavable-returns-clause-copies
count_leavable-returns-clause-copies t c = grind (arith, counted)

pub count_leavable-returns-clause-length : goal.count_leavable-returns-clause-length
count_leavable-returns-clause-length t c = grind (arith, counted)

pub count_leavable-returns-clause-few : goal.count_leavable-returns-clause-few
count_leavable-returns-clause-few t c = grind (arith, counted)

pub count_try-returns-clause-ways : goal.count_try-returns-clause-ways
count_try-returns-clause-ways t c = grind (arith, common_steps)

pub count_try-returns-clause-copies : goal.count_try-returns-clause-copies
count_try-returns-clause-copies t c = grind arith

pub count_try-returns-clause-few : goal.count_try-returns-clause-few
count_try-returns-clause-few t c = grind arith
