-- A search for programs that are good and whose accesses never meet, and a search that goes on from where it ends.
use Rattle.std.proofs.Common.{◌≡◌, ◌+◌, ◌++◌, ℕ, Option, None, arith, length, refl, subst}
use Rattle.ls_family_search.specs.Judged.{Programs}
use Rattle.ls_family_search.specs.declared.searching.Finding.{Finding}
use Rattle.ls_find.specs.Family.{IsFound}
use Rattle.ls_find.specs.declared.explorer.Why.{Why}
use Rattle.ls_find.specs.declared.sought.Sought.{Sought}
use Rattle.ls_find_races.specs.Quiet.{IsQuietFinding}
use Rattle.ls_find_races.specs.declared.quiet.Unsettled.{Unsettled}
use Rattle.ls_find_races.proofs.Settled.{found_sound}
use Rattle.ls_report.specs.Events.{Text}
use Rattle.ls_find_commands.proofs.Sums.{none_first}

-- both are one search for what is looked for
pub found_on : (sought : Sought) (states : ℕ) (reference : Option Text) (classes : Text) (p : Programs) (from to : ℕ)
    (f : Finding Unsettled) (rest all : Finding Why) → IsQuietFinding sought reference classes p from to f → from ≡ 0 →
    IsFound sought states reference classes p (length f.passed.items) to rest →
    all.passed.items ≡ f.passed.items ++ rest.passed.items → all.halted ≡ rest.halted →
    IsFound sought states reference classes p from to all
found_on sought states reference classes p from to f rest all first zero next passed halted =
    let g : Finding Why = record { passed = f.passed; halted = None } in
    let same : length f.passed.items ≡ from + length f.passed.items = omega (arith, zero) in
    none_first sought states reference classes p from (from + length f.passed.items) to g rest all
    (found_sound sought states reference classes p from to f first g refl refl)
    (subst (λ n. IsFound sought states reference classes p n to rest) same next) refl passed halted
