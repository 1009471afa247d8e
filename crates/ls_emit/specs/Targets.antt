-- Where leaves out of a statement lead, as the emission has it.
use Rattle.std.specs.Prelude.{[], ◌∷◌, ◌++◌}
use Rattle.ls_emit.specs.Statements.{Targets}
use Rattle.ls_emit.specs.declared.targets.Around.{Around}
use Rattle.ls_emit.specs.declared.targets.Around.TheVariants.{Nothing, Leavable'}

abbrev pub targets_of : Around → Targets
targets_of Nothing = []
targets_of (Leavable' exits stop p outer) = (exits.now ++ stop ∷ []) ++ targets_of outer
