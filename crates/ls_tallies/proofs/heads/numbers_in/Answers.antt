-- Why `numbers_in` in src/heads.rt keeps its contract.

use Rattle.std.proofs.Common.{◌∙◌, ap, Some}
use Rattle.std.specs.Fmt.{decimal}
use Rattle.ls_report.proofs.CutLemmas.{first_of_two, none_is, second_of_two, some_is}
use Rattle.ls_tallies.specs.Heads.{fields_of}
use Rattle.ls_tallies.proofs.HeadLemmas.{fields_back}
use Rattle.ls_tallies.proofs.heads.numbers_in.Goals as goal

pub returns-in_default : goal.returns-in_default
returns-in_default c = λ s n fits fits' e.
    absurd (none_is (c.in_default.ensures ∙ ap fields_of e ∙ fields_back s n fits))

pub returns-in_default-number_in : goal.returns-in_default-number_in
returns-in_default-number_in c = λ s n fits fits' e.
    let both = c.in-Some.ensures ∙ ap fields_of e ∙ fields_back s n fits in
    absurd (none_is
    (c.in_default-number_in.ensures s fits (first_of_two c.in-Some.first.now c.in-Some.second.now (decimal s)
    (decimal n) both)))

pub returns-in_default-number_in-2 : goal.returns-in_default-number_in-2
returns-in_default-number_in-2 c = λ s n fits fits' e.
    let both = c.in-Some.ensures ∙ ap fields_of e ∙ fields_back s n fits in
    absurd (none_is (c.in_default-number_in-2.ensures n fits'
    (second_of_two c.in-Some.first.now c.in-Some.second.now (decimal s) (decimal n) both)))

pub returns : goal.returns
returns c = λ s n fits fits' e.
    let both = c.in-Some.ensures ∙ ap fields_of e ∙ fields_back s n fits in
    let seed = some_is
    (c.in-Some-number_in.ensures s fits (first_of_two c.in-Some.first.now c.in-Some.second.now (decimal s)
    (decimal n) both)) in
    let count = some_is (c.in-Some-number_in-2.ensures n fits'
    (second_of_two c.in-Some.first.now c.in-Some.second.now (decimal s) (decimal n) both)) in
    λ i. Some (seed i, count i)
