-- Why `rename_work` in src/work.rt keeps its contract.

use Rattle.std.proofs.Common.{◌≡◌, ℕ, map, ap, ◌∙◌}
use Rattle.ls_source_pending.specs.Seen.{control_of, frame_of, frames_of}
use Rattle.ls_works.specs.Frames.{renamed_control, renamed_frame, renamed_values}
use Rattle.ls_renaming.specs.Seen.{names_of}
use Rattle.ls_renaming.proofs.Lists.{frames_renamed}
use Rattle.ls_renaming.proofs.work.rename_work.Goals as goal

pub returns : goal.returns
returns c =
    let f : ℕ → ℕ = names_of c.args.names.now in
    let control : control_of c.in_ok-control.control ≡ renamed_control f (control_of c.args.work.now.control) =
    c.in_ok-control.ensures in
    let frames : frames_of c.in_ok-frames.frames.items ≡
    map (renamed_frame f) (frames_of c.args.work.now.frames.items) =
    frames_renamed f c.args.work.now.frames.items c.in_ok-frames.frames.items
    (c.in_ok-frames.ensures ∙ ap (λ l. map (renamed_frame f) (map frame_of l)) c.deref.ensures.value) in
    let locals : c.in_ok-locals.locals.items ≡ renamed_values f c.args.work.now.locals.items =
    c.in_ok-locals.ensures ∙ ap (renamed_values f) c.deref-2.ensures.value in
    λ i. record { control = control i; frames = frames i; locals = locals i; depth = c.args.work.now.depth }
