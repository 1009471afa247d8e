-- Why `each` in src/ranges.rt keeps its contract and its loop `place`.

use Rattle.std.proofs.Common.{◌≡◌, ◌+◌, ◌<◌, ◌≤◌, ◌++◌, rules, ap, sym, refl, ◌∙◌, arith, length, take, get_or}
use Rattle.std.proofs.Common.{string_bytes}
use Rattle.std.specs.Prelude.{nat_le}
use Rattle.std.proofs.lemmas.List.{take_min, take_more}
use Rattle.ls_labels.specs.Names.{names_of}
use Rattle.ls_state.specs.Each.{after_step, each_from, each_of, headed_as}
use Rattle.ls_state.specs.Scene.{scene_after, scene_of}
use Rattle.ls_state.specs.Seen.{names_in, scene_seen}
use Rattle.ls_state.proofs.EachStep.{each_more, is_hidden, is_shown, scene_of_more}
use Rattle.ls_state.proofs.ranges.each.Goals as goal
use Rattle.ls_state.proofs.ranges.each.Goals.{then-from-number+in_ok-push_headed, else-from-number}

pub loop-place-preserved : goal.loop-place-preserved
loop-place-preserved c =
    let names = names_of c.args.names in
    let form = c.args.form in
    let ts = take c.min.result c.args.schedule.now in
    let i = c.loop-place.place in
    let t = get_or ts i 0 in
    let old = string_bytes c.loop-place.out in
    let inv = c.loop-place.invariant in
    let within : i < length ts = search rules in
    let named : names_in c.step.new.self ≡ names = c.step.ensures.names ∙ inv.names in
    let scene : scene_seen c.step.new.self ≡ scene_of names (take (i + 1) ts) =
    c.in_ok-step.ensures.scene
    ∙ ap (λ n. scene_after n (scene_seen c.loop-place.scene) t) inv.names
    ∙ ap (λ s. scene_after names s t) inv.scene
    ∙ sym (scene_of_more names (take i ts) t)
    ∙ ap (scene_of names) (sym (take_more ts i 0 within)) in
    record {
      within = omega (arith, within);
      names = named;
      own = c.in_ok-step.ensures.own;
      scene = scene;
      text = each_more (after_step form names ts) c.args.from i (nat_le c.args.from (i + 1)) old
          (string_bytes c.if-from-number.out) refl
          (elim c.if-from-number.branch [
            | then-from-number+in_ok-push_headed w ↦
                ap string_bytes w.out-is
                ∙ w.in_ok-push_headed.ensures
                ∙ ap (λ n. old ++ headed_as form n (scene_seen c.step.new.self) (i + 1)) named
                ∙ ap (λ s. old ++ headed_as form names s (i + 1)) scene
                ∙ is_shown c.args.from (i + 1) old (after_step form names ts (i + 1)) w.if-from-number.true
            | else-from-number w ↦
                ap string_bytes w.out-is
                ∙ is_hidden c.args.from (i + 1) old (after_step form names ts (i + 1)) w.if-from-number.false
          ])
          inv.text;
    }

pub returns : goal.returns
returns c =
    let names = names_of c.args.names in
    let form = c.args.form in
    let ts = take c.min.result c.args.schedule.now in
    let inv = c.loop-place.invariant in
    let past : length ts ≤ c.loop-place.place = search rules in
    let all : c.loop-place.place ≡ length ts = omega (arith, past, inv.within) in
    let whole : ts ≡ take c.args.to c.args.schedule.now = ap (λ n. take n c.args.schedule.now) c.min.ensures ∙
    take_min c.args.to c.args.schedule.now in
    inv.text ∙ ap (each_from (after_step form names ts) c.args.from) all ∙ ap (each_of form names c.args.from) whole
