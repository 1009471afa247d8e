-- Why `example` in src/laws.rt keeps its contract.

use Rattle.ls_preservation.proofs.Example.{example_asks, example_exchanged}
use Rattle.ls_preservation.proofs.ExampleSound.{example_sound, example_constants}
use Rattle.ls_preservation.proofs.laws.example.Goals as goal

pub returns : goal.returns
returns c = record {
  asks = example_asks;
  constants = example_constants;
  sound = example_sound;
  exchanged = example_exchanged;
}
