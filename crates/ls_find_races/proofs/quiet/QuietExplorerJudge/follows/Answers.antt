-- Why `QuietExplorerJudge::follows` in src/quiet.rt keeps its contract.

use Rattle.std.proofs.Common.{◌≡◌, arith, subst, sym}
use Rattle.std.specs.Prelude.{option_map}
use Rattle.std.proofs.lemmas.Bool.Decides.{nat_tests}
use Rattle.ls_items.specs.Cutting.{plain_text}
use Rattle.ls_find.specs.Doubles.{ExchangesAt, ExchangesIfGiven}
use Rattle.ls_find_races.proofs.quiet.QuietExplorerJudge.follows.Goals as goal

pub returns-in-Some-exchanged_in : goal.returns-in-Some-exchanged_in
returns-in-Some-exchanged_in c = λ is quiet.
    let e = c.args.self.now.explorer.now in
    let program = c.args.program.now in
    let other = c.args.other.now in
    let place = c.in-Some.place in
    let same : c.in-Some-exchanged_in.same ≡ place = grind (arith, nat_tests, is) in record {
      sound = c.sound_follows.ensures e.sought (option_map plain_text e.specification) e.classes.now program other place
          c.in-Some.ensures
          (subst (λ o. ExchangesIfGiven place (option_map plain_text o) other program) (sym c.in-Some-specification.is)
          (subst (λ u. ExchangesAt u c.in-Some-specification.specification.now other program) same
          c.in-Some-exchanged_in.ensures))
          quiet.sound;
      free = c.race_free_follows.ensures e.classes.now program other place c.in-Some.ensures quiet.free;
    }
