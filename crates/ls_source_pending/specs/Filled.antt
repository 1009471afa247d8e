-- Whether there are frames.
use Rattle.std.specs.Prelude.{Bool, true, false, List, [], ◌∷◌}
use Rattle.ls_source_pending.specs.declared.work.Frame.{Frame}

abbrev pub is_some : List Frame → Bool
is_some [] = false
is_some (f ∷ fs) = true
