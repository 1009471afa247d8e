-- Why the functions of the cycle `statements` in src/statements.rt keep their contracts.

use Rattle.std.proofs.Common.{rules, arith, refl, ◌≡◌, ◌+◌, ◌^◌, ◌∷◌, ap, ◌∙◌, drop, map}
use Rattle.ls_checked.specs.Plain.{plain_statement as checked_statement, statements_of as checked_statements}
use Rattle.ls_checked.specs.Plain.{plain_class}
use Rattle.std.proofs.lemmas.List.{drop_all}
use Rattle.ls_lowered.specs.LoweredTree.{Block}
use Rattle.ls_lowered.specs.Plain.{in_front}
use Rattle.ls_refs.specs.Temporaries.{statement_temporaries, block_temporaries}
use Rattle.ls_refs.specs.Lowered.{lowered_block}
use Rattle.ls_refs.proofs.Rows.{block_read, left_at, one_lowered, one_counted}
use Rattle.ls_refs.proofs.Jumps.{left_below}
use Rattle.ls_refs.proofs.Sizes.{size_at}
use Rattle.ls_refs.proofs.statements.+statements.Goals as goal

pub lower_block-lower_statement-requires : goal.lower_block-lower_statement-requires
lower_block-lower_statement-requires t c =
    let items = c.args.statements.now in
    let i = c.loop-s.s-index in
    let split : drop i items ≡ c.s-item.result ∷ drop (i + 1) items = left_at items i c.s-item.result (search rules)
    c.s-item.is in
    let less = size_at items i c.s-item.result split in
    let few : block_temporaries (checked_statements (drop i items)) ≡ statement_temporaries
    (checked_statement c.s-item.result) + block_temporaries (checked_statements (drop (i + 1) items)) =
    ap (λ l. block_temporaries (checked_statements l)) split in (
      omega (arith, less),
      (
        omega (arith, few, c.loop-s.invariant.0, c.requires.few),
        (left_below (2 ^ 63) c.s-item.result _ _ split c.loop-s.invariant.2).0,
      ),
    )

pub lower_block-loop-s-init : goal.lower_block-loop-s-init
lower_block-loop-s-init t c =
    let classes = map plain_class c.args.classes.now in (
      refl,
      ap (λ l. in_front l (lowered_block classes c.args.free (checked_statements c.args.statements.now)))
          c.new-lowered.ensures.items,
      c.requires.jumps,
    )

pub lower_block-loop-s-preserved : goal.lower_block-loop-s-preserved
lower_block-loop-s-preserved t c =
    let classes = map plain_class c.args.classes.now in
    let items = c.args.statements.now in
    let after = c.in_ok-s.s.free in
    let split : drop c.loop-s.s-index items ≡ c.s-item.result ∷
    drop (c.loop-s.s-index + 1) items = left_at items c.loop-s.s-index c.s-item.result (search rules)
    c.s-item.is in (
      one_counted c.loop-s.next after c.s-item.result _ _ _ split c.in_ok-s.ensures.free c.loop-s.invariant.0,
      one_lowered classes c.loop-s.lowered.items c.put.new.out.items c.in_ok-s.s.tree c.loop-s.next
          after c.s-item.result _ _ c.in_ok-put.ensures split c.in_ok-s.ensures.tree
          c.in_ok-s.ensures.free
          ∙ c.loop-s.invariant.1,
      (left_below (2 ^ 63) c.s-item.result _ _ split c.loop-s.invariant.2).1,
    )

-- at the end of the loop nothing is left
pub lower_block-returns : goal.lower_block-returns
lower_block-returns t c =
    let end = rw (drop_all c.loop-s.s-index c.args.statements.now c.loop-s-test.false) at c.loop-s.invariant in
    record {
      tree = rw c.placed_tree.ensures (c.block_of.ensures ∙ ap Block end.1);
      free = rw c.placed_tree.ensures (omega (arith, end.0));
    }

-- Each goal below would close without an answer too, but only after a search of several times this one's length.

pub lower_if-returns : goal.lower_if-returns
lower_if-returns t c = record {
  tree = grind arith;
  free = grind arith;
}

pub lower_while-returns : goal.lower_while-returns
lower_while-returns t c = record {
  tree = grind arith;
  free = grind arith;
}

pub lower_try-returns : goal.lower_try-returns
lower_try-returns t c = record {
  tree = grind arith;
  free = grind arith;
}

pub lower_statement-returns-in-Block : goal.lower_statement-returns-in-Block
lower_statement-returns-in-Block t c = record {
  tree = grind (arith, block_read);
  free = grind (arith, block_read);
}

pub lower_statement-returns-in_ok-e-in-SetSlot : goal.lower_statement-returns-in_ok-e-in-SetSlot
lower_statement-returns-in_ok-e-in-SetSlot t c = record {
  tree = grind arith;
  free = grind arith;
}

pub lower_statement-returns-in_ok-e-in-Evaluate : goal.lower_statement-returns-in_ok-e-in-Evaluate
lower_statement-returns-in_ok-e-in-Evaluate t c = record {
  tree = grind arith;
  free = grind arith;
}

pub lower_statement-returns-in_ok-e-in-ReturnValue : goal.lower_statement-returns-in_ok-e-in-ReturnValue
lower_statement-returns-in_ok-e-in-ReturnValue t c = record {
  tree = grind arith;
  free = grind arith;
}
