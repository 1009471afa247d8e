-- Why `Scene::step` in src/scene.rt keeps its clause `scene`.

use Rattle.ls_source.specs.Shown.{progress_of}
use Rattle.ls_state.specs.Seen.{names_in}
use Rattle.ls_state.proofs.EachStep.{scene_step}
use Rattle.ls_state.proofs.scene.Scene.step.Goals as goal

pub returns-clause-scene : goal.returns-clause-scene
returns-clause-scene c =
    scene_step (names_in c.args.self.now) (progress_of c.args.self.now.run) (progress_of c.step.new.self)
    c.args.self.now.labels.items c.keep_label.new.labels.items c.in_ok-did.did c.args.thread
    c.requires.file c.requires.program c.in_ok-did.ensures.run c.in_ok-did.ensures.did c.in_ok-keep_label.ensures
