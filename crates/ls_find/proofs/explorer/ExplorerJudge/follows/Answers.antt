-- Why `ExplorerJudge::follows` in src/explorer.rt keeps its contract.

use Rattle.std.proofs.Common.{subst, sym}
use Rattle.std.specs.Prelude.{option_map}
use Rattle.ls_items.specs.Cutting.{plain_text}
use Rattle.ls_find.specs.Doubles.{ExchangesIfGiven}
use Rattle.ls_find.proofs.explorer.ExplorerJudge.follows.Goals as goal

pub returns : goal.returns
returns c = λ is sound.
    let self = c.args.self.now in
    c.sound_follows.ensures self.sought (option_map plain_text self.specification) self.classes.now c.args.program.now
    c.args.other.now c.in-Some.place c.in-Some.ensures
    (subst (λ o. ExchangesIfGiven c.in-Some.place (option_map plain_text o) c.args.other.now c.args.program.now)
    (sym c.in-Some-specification.is) (c.are_exchanged_in.ensures is)) sound

pub returns-in_default-specification : goal.returns-in_default-specification
returns-in_default-specification c = λ is sound.
    let self = c.args.self.now in
    c.sound_follows.ensures self.sought (option_map plain_text self.specification) self.classes.now c.args.program.now
    c.args.other.now c.in-Some.place c.in-Some.ensures
    (subst (λ o. ExchangesIfGiven c.in-Some.place (option_map plain_text o) c.args.other.now c.args.program.now)
    (sym c.in_default-specification.is) tt) sound
