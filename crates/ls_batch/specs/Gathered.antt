-- The runs of seeds, as they are counted.
use Rattle.std.specs.Prelude.{ℕ, List, map}
use Rattle.ls_code.specs.Code.{Code}
use Rattle.ls_batch.specs.Samples.{history_of}
use Rattle.ls_batch.specs.declared.samples.Sampler.{Sampler}
use Rattle.ls_batch.specs.Counted.{Run, run}

abbrev pub runs_of : Code → ℕ → Sampler → List ℕ → List Run
runs_of code cells d = map (λ seed. run seed (history_of code cells seed d))
