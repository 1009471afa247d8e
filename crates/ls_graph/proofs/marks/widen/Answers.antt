-- Why `widen` in src/marks.rt keeps its loop.
use Rattle.std.proofs.Common.{◌≡◌, ◌⊎◌, inl, inr, Some, true, false}
use Rattle.std.specs.Prelude.{slice_get}
use Rattle.ls_graph.proofs.Growing.{keeps_more, pushed_is}
use Rattle.ls_graph.proofs.marks.widen.Goals as goal

pub loop-preserved : goal.loop-preserved
loop-preserved c = record {
  only = λ i e.
      let by_place : (slice_get c.loop.marks.items i ≡ Some true) ⊎ (false ≡ true) →
      slice_get c.args.marks.now.items i ≡ Some true = elim [
        | inl old ↦ c.loop.invariant.only i old
        | inr off ↦ cc
      ] in
      by_place (pushed_is c.loop.marks.items c.push.new.self.items false (inr c.in_ok-push.ensures.items) i true e);
  stays = λ i e.
      keeps_more c.loop.marks.items c.push.new.self.items false (inr c.in_ok-push.ensures.items) i true
      (c.loop.invariant.stays i e);
}
