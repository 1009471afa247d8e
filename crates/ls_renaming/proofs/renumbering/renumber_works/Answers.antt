-- Why `renumber_works` in src/renumbering.rt keeps its loop `work` and what `renumber_work` requires.

use Rattle.std.proofs.Common.{◌≡◌, ◌<◌, ℕ, Some, length, ap, ◌∙◌, subst, arith, length-append, [], ◌∷◌}
use Rattle.std.specs.Prelude.{Option, IfSome, slice_get, slice_index_or}
use Rattle.ls_transitions.specs.Seen.{table_of}
use Rattle.ls_transitions.proofs.Growing.{grows_on}
use Rattle.ls_transitions.proofs.Keeping.{still_below}
use Rattle.ls_renaming.specs.Seen.{names_of}
use Rattle.ls_renaming.specs.Renumbered.{IsWorkThere}
use Rattle.ls_renaming.proofs.Works.{item_here, more_works}
use Rattle.ls_renaming.proofs.renumbering.renumber_works.Goals as goal

pub renumber_work-requires : goal.renumber_work-requires
renumber_work-requires c =
    let work : ℕ = slice_index_or c.args.works.now c.loop-work.work-index 0 in
    let here : slice_get c.args.works.now c.loop-work.work-index ≡ Some work =
    item_here c.args.works.now c.loop-work.work-index (omega arith) in
    still_below (table_of c.args.transitions.now).works (table_of c.loop-work.transitions).works work
    c.loop-work.invariant.grows.works (c.requires c.loop-work.work-index work here)

pub loop-work-preserved : goal.loop-work-preserved
loop-work-preserved c =
    let inv = c.loop-work.invariant in
    let work : ℕ = slice_index_or c.args.works.now c.loop-work.work-index 0 in
    let here : slice_get c.args.works.now c.loop-work.work-index ≡ Some work =
    item_here c.args.works.now c.loop-work.work-index (omega arith) in
    let is : IsWorkThere (table_of c.renumber_work.new.transitions) (names_of c.args.both.now.names)
    work c.in-Some.number =
    subst (λ (o : Option ℕ). IfSome o (λ n. IsWorkThere (table_of c.renumber_work.new.transitions)
    (names_of c.args.both.now.names) work n)) c.in-Some.is c.in_ok-number.ensures.there in
    record {
      there = more_works (table_of c.loop-work.transitions) (table_of c.renumber_work.new.transitions)
          (names_of c.args.both.now.names) c.args.works.now c.loop-work.renumbered.items c.push.new.self.items
          work c.in-Some.number inv.there c.renumber_work.ensures.grows
          (ap (slice_get c.args.works.now) inv.width ∙ here) is c.in_ok-push.ensures.items;
      width = omega (
        arith,
        ap length c.in_ok-push.ensures.items,
        length-append c.loop-work.renumbered.items (c.in-Some.number ∷ []),
        inv.width,
      );
      grows = grows_on (table_of c.args.transitions.now) (table_of c.loop-work.transitions)
          (table_of c.renumber_work.new.transitions) inv.grows c.renumber_work.ensures.grows;
    }
