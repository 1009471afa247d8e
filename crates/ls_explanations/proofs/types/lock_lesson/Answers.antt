-- Why `lock_lesson` in src/types.rt keeps its contract.

use Rattle.std.proofs.Common.{◌≡◌, ◌||◌, true, refl, rules}
use Rattle.std.specs.Prelude.{codes}
use Rattle.std.specs.Str.{bytes_eq}
use Rattle.ls_explanations.proofs.Choosing.{chosen}
use Rattle.ls_explanations.proofs.types.lock_lesson.Goals as goal

pub returns-then-is_either : goal.returns-then-is_either
returns-then-is_either c =
    let is : (bytes_eq c.args.name.now (codes "ReadWriteLock") ||
    bytes_eq c.args.name.now (codes "ReentrantReadWriteLock")) ≡ true = search rules in
    chosen _ _ _ _ is refl
